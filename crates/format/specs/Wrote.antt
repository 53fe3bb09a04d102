-- What a function that writes a text leaves: the bytes from a position on, the old contents elsewhere, and the position
-- after them. Definitions only.
use Rattle.std.specs.Prelude.{ℕ, ◌+◌, ◌≤◌, ◌≡◌, List, length, take}
use Rattle.std.proofs.lemmas.List.Edits.{sets}

pub record Wrote (old : List ℕ) (at : ℕ) (bytes new : List ℕ) (next : ℕ) : Type 0 where
  pub new_is : new ≡ sets old at bytes
  pub next-is : next ≡ at + length bytes

-- n counts elements at the start of a list. The second part follows from the first; stated, it spares a caller that
-- lends them a proof
abbrev pub Within : ℕ → List ℕ → Type 0
Within n l = (n ≤ length l) × (n ≡ length (take n l))
