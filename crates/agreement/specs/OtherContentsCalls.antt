-- Request 2026-04, for calls that are lent memory of the same lengths with any contents: what it means that two calls
-- of a C function leave the same. Definitions only.
use Rattle.std.specs.Prelude.{ℕ, ◌≡◌}
use Rattle.settings.specs.Slices.{Slices, lengths_of}
use Rattle.decoder.specs.SameDecoding.{SameSlices}
use Rattle.vedrogne.specs.Interface.{Lent}

-- two calls are lent slices of the same lengths
abbrev pub SameLengths : Slices → Slices → Type 0
SameLengths lent lent' = lengths_of lent ≡ lengths_of lent'

-- ---- two calls of a C function: what each was lent to write, before and after, by the number that both return

-- a number behind a pointer: the same where the calls are accepted, each call's own where they are refused
pub record SameWrittenNumber (number old old' new new' : ℕ) : Type 0 where
  pub accepted : number ≡ 0 → new ≡ new'
  pub kept : (number ≡ 0 → ⊥) → (new ≡ old) × (new' ≡ old')

-- the decoder's slices, iteration and reason
pub record SameLent (number m : ℕ) (old old' new new' : Lent) : Type 0 where
  pub slices : SameSlices number m old.slices old'.slices new.slices new'.slices
  pub iterations : SameWrittenNumber number old.iterations old'.iterations new.iterations new'.iterations
  pub reason : SameWrittenNumber number old.reason old'.reason new.reason new'.reason
