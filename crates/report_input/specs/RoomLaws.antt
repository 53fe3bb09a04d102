-- What the room in the lent slices changes of a text's meaning: nothing, or it makes it the refusal 7.
use Rattle.std.specs.Prelude.{ℕ, zero, suc, ◌^◌, ◌≤◌, ◌<◌, ◌≡◌, Bool, cond, List, [], ◌∷◌, ◌⊎◌, leb, length}
use Rattle.std.proofs.Math.Path.{refl}
use Rattle.std.proofs.Common.{sym, ap, ◌∙◌, true≢false, inr, arith, leb-true, leb-false, length-take, pow_mono}
use Rattle.std.proofs.Math.Bool.{true, false, and-false}
use Rattle.std.proofs.Math.Logic.{inl}
use Rattle.std.proofs.lemmas.Bool.{lt-leb}
use Rattle.calls.specs.Bounds.{largest_m, most_positions}
use Rattle.calls.specs.Numbers.{between, first_refusal}
use Rattle.calls.specs.NumberLaws.{between-passed}
use Rattle.scan.specs.Reading.{Reading, found, malformed}
use Rattle.settings.specs.declared.Settings.{Settings}
use Rattle.settings.specs.Settings.{settings_number, slices_fit}
use Rattle.report_input.specs.declared.Room.{Room}
use Rattle.report_input.specs.Input.{
  longest_text,
  Block,
  head,
  read_positions,
  Meaning,
  refused,
  block,
  largest_lengths,
  block_number,
  meaning_by,
  held_in,
  tested,
  sized,
  meaning_in,
  largest_room,
  meaning,
}
use Rattle.report_input.specs.InputLaws.{Each, Long, read-positions-long, Roomy, held_whole}

-- the same meaning, or the refusal 7
abbrev SameOrSeven : Meaning → Meaning → Type 0
SameOrSeven x y = (x ≡ y) ⊎ (x ≡ refused 7)

-- a block without room has the number of the settings, or else 7
no_room : (room : Room) (s : Settings) (b : Block) → slices_fit s.m (length (held_in room b).mask)
    (length (held_in room b).llr) largest_lengths ≡ false
    → block_number s (held_in room b) ≡ first_refusal (settings_number s) 7
no_room room s b e = rw e

short-mask : (room : Room) (s : Settings) (b : Block) → room.mask < 2 ^ s.m
    → slices_fit s.m (length (held_in room b).mask) (length (held_in room b).llr) largest_lengths ≡ false
short-mask room s b h =
    rw (lt-leb (2 ^ s.m) (length (held_in room b).mask) (omega (arith, length-take room.mask b.mask)))

short-llr : (room : Room) (s : Settings) (b : Block) → room.llr < 2 ^ s.m
    → slices_fit s.m (length (held_in room b).mask) (length (held_in room b).llr) largest_lengths ≡ false
short-llr room s b h =
    rw (lt-leb (2 ^ s.m) (length (held_in room b).llr) (omega (arith, length-take room.llr b.llr)), and-false)

by_number : (n rest : ℕ) (s : Settings) (b : Block)
    → SameOrSeven (meaning_by (first_refusal n 7) s b) (meaning_by (first_refusal n rest) s b)
by_number zero rest s b = inr refl
by_number (suc n) rest s b = inl refl

module _ (room : Room) where
  block_room : (s : Settings) (b : Block) → 2 ^ s.m ≤ most_positions → Long (2 ^ s.m) b
      → SameOrSeven (tested room s (found b [])) (tested largest_room s (found b []))
  block_room s b small long = split (leb (2 ^ s.m) room.mask) (leb (2 ^ s.m) room.llr) refl refl
    where
      whole : held_in largest_room b ≡ b
      whole = held_whole largest_room (2 ^ s.m) b long (record { mask-room = small; llr-room = small })

      without : slices_fit s.m (length (held_in room b).mask) (length (held_in room b).llr) largest_lengths ≡ false
          → SameOrSeven (tested room s (found b [])) (tested largest_room s (found b []))
      without e = rw (no_room room s b e) (by_number (settings_number s) _ s b)

      split : (x y : Bool) → leb (2 ^ s.m) room.mask ≡ x → leb (2 ^ s.m) room.llr ≡ y
          → SameOrSeven (tested room s (found b [])) (tested largest_room s (found b []))
      split true true e f =
          let roomy : Roomy room (2 ^ s.m) =
          record { mask-room = leb-true _ _ e; llr-room = leb-true _ _ f } in
          let same = held_whole room (2 ^ s.m) b long roomy ∙ sym whole in
          inl (ap (λ (x : Block). meaning_by (block_number s x) s b) same)
      split false y e f = without (short-mask room s b (leb-false _ _ e))
      split true false e f = without (short-llr room s b (leb-false _ _ f))

  tested-room : (s : Settings) (R : Reading Block) → 2 ^ s.m ≤ most_positions → Each (Long (2 ^ s.m)) R
      → SameOrSeven (tested room s R) (tested largest_room s R)
  tested-room s malformed small long = inl refl
  tested-room s (found b []) small long = block_room s b small long
  tested-room s (found b (x ∷ more)) small long = inl refl

  sized-room : (R : Reading Settings) → SameOrSeven (sized room R) (sized largest_room R)
  sized-room malformed = inl refl
  sized-room (found s t) = either (between 1 largest_m s.m) refl
    where
      either : (ok : Bool) → between 1 largest_m s.m ≡ ok
          → SameOrSeven (cond ok (tested room s (read_positions (2 ^ s.m) 0 t)) (refused 1))
          (cond ok (tested largest_room s (read_positions (2 ^ s.m) 0 t)) (refused 1))
      either true e =
          tested-room s (read_positions (2 ^ s.m) 0 t) (pow_mono (between-passed 1 largest_m s.m e).1)
          (read-positions-long (2 ^ s.m) 0 t)
      either false e = inl refl

  -- in any room a text means what it means, or is refused with 7
  pub room-or-seven : (t : List ℕ) → (meaning_in room t ≡ meaning t) ⊎ (meaning_in room t ≡ refused 7)
  unfolding meaning meaning_in
  room-or-seven t = either (leb (length t) longest_text)
    where
      either : (ok : Bool)
          → SameOrSeven (cond ok (sized room (head t)) (refused 14))
          (cond ok (sized largest_room (head t)) (refused 14))
      either true = sized-room (head t)
      either false = inl refl

  -- so what is accepted in any room is what the text means
  pub accepted-means : (t : List ℕ) {s : Settings} {b : Block} → meaning_in room t ≡ block s b → meaning t ≡ block s b
  accepted-means t {s} {b} e = either (room-or-seven t)
    where
      is_block : Meaning → Bool
      is_block (refused number) = false
      is_block (block s b) = true

      either : (meaning_in room t ≡ meaning t) ⊎ (meaning_in room t ≡ refused 7) → meaning t ≡ block s b
      either (inl same) = sym same ∙ e
      either (inr seven) = absurd (true≢false (ap is_block (sym e ∙ seven)))
