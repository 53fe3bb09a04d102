-- Document 01, "The report's text": what an input means, in the order of the section's sentences. Definitions only.
use Rattle.std.specs.Prelude.{ℕ, zero, suc, ◌^◌, min, ◌≡◌, cond, List, [], ◌∷◌, leb, eqb, ℤ, pos, negsuc, nat_abs}
use Rattle.std.specs.Prelude.{length, get_or, take, Result, Ok, Err}
use Rattle.calls.specs.Bounds.{largest_m, most_positions, most_workspace}
use Rattle.calls.specs.LentMemory.{written_over}
use Rattle.calls.specs.Numbers.{between, refusal_number}
use Rattle.calls.specs.Signs.{is_negative, flipped}
use Rattle.settings.specs.declared.Settings.{Settings}
use Rattle.settings.specs.declared.Lengths.{Lengths}
use Rattle.settings.specs.Settings.{decode_number}
use Rattle.scan.specs.Reading.{Reading, found, malformed, bind}
use Rattle.scan.specs.Lines.{line, literal}
use Rattle.calls.specs.Texts.{bytes}
use Rattle.calls.specs.declared.Refusal.{Refusal}
pub use Rattle.report_input.specs.declared.PositionInput.{PositionInput}
use Rattle.report_input.specs.declared.Room.{Room}

-- ---- constants

-- the most bytes of an accepted text
abbrev pub longest_text : ℕ
longest_text = 32768

-- what a value below zero counts as: it lies outside every range as well
abbrev pub outside_ranges : ℕ
outside_ranges = 1000000

-- what a mask value beyond a byte counts as: it is no mask value either
abbrev pub outside_mask : ℕ
outside_mask = 255

-- what the size of an LLR beyond 16 bits counts as: it is above every ceiling as well
abbrev pub outside_llr : ℕ
outside_llr = 32767

-- ---- the first three lines

abbrev pub setting_names : List ℕ
setting_names = bytes "m ceiling scale limit criterion operand\n"

abbrev pub position_names : List ℕ
position_names = bytes "position frozen llr\n"

-- a value at its place in a line
abbrev pub value_at : List ℤ → ℕ → ℤ
value_at zs i = get_or zs i (pos 0)

-- a value that can't be below zero
abbrev pub unsigned : ℤ → ℕ
unsigned (pos n) = n
unsigned (negsuc n) = outside_ranges

-- the settings in the order of their names
abbrev pub settings_of : List ℤ → Settings
settings_of zs =
    record {
      m = unsigned (value_at zs 0);
      ceiling = unsigned (value_at zs 1);
      scale = unsigned (value_at zs 2);
      limit = unsigned (value_at zs 3);
      criterion = unsigned (value_at zs 4);
      operand = unsigned (value_at zs 5);
    }

-- the values of the second line, between the two lines of names
abbrev pub setting_values : List ℕ → Reading (List ℤ)
setting_values t =
    bind (literal setting_names t) (λ _ s.
    bind (line 6 s) (λ zs s.
    bind (literal position_names s) (λ _ s. found zs s)))

unfoldable pub head : List ℕ → Reading Settings
head t = bind (setting_values t) (λ zs s. found (settings_of zs) s)

-- ---- the lines of the positions

abbrev pub mask_value : ℤ → ℕ
mask_value z = min (unsigned z) outside_mask

abbrev pub llr_value : ℤ → ℤ
llr_value z = flipped (is_negative z) (pos (min (nat_abs z) outside_llr))

-- the line of position p
unfoldable pub read_position : ℕ → List ℕ → Reading PositionInput
read_position p s =
    bind (line 3 s) (λ zs s.
    cond (eqb (unsigned (value_at zs 0)) p)
    (found (record { frozen = mask_value (value_at zs 1); llr = llr_value (value_at zs 2) }) s)
    malformed)

pub record Block : Type 0 where
  pub mask : List ℕ
  pub llr : List ℤ

abbrev pub block_of : List ℕ → List ℤ → Block
block_of mask llr = record { mask = mask; llr = llr }

-- its first n elements
abbrev pub first_of : ℕ → Block → Block
first_of n b = block_of (take n b.mask) (take n b.llr)

abbrev pub above : PositionInput → Block → Block
above r b = block_of (r.frozen ∷ b.mask) (r.llr ∷ b.llr)

-- the lines of n positions from p on
unfoldable pub read_positions : ℕ → ℕ → List ℕ → Reading Block
read_positions zero p s = found (block_of [] []) s
read_positions (suc n) p s =
    bind (read_position p s) (λ r s.
    bind (read_positions n (suc p) s) (λ b s. found (above r b) s))

-- ---- the meaning: settings, mask and LLRs, or the number of a refusal

pub data Meaning : Type 0 where
  refused : ℕ → Meaning
  block : Settings → Block → Meaning

-- the number of a meaning, 0 for a block
abbrev pub number_in : Meaning → ℕ
number_in (refused number) = number
number_in (block s b) = 0

-- the decoder's other slices: room for a block of any length
abbrev pub largest_lengths : Lengths
largest_lengths =
    record {
      soft = most_positions;
      mark = most_positions;
      coded_soft = most_positions;
      coded_mark = most_positions;
      work = most_workspace;
    }

-- the decoder's number of a block
abbrev pub block_number : Settings → Block → ℕ
block_number s b = decode_number s b.mask b.llr largest_lengths

abbrev pub meaning_by : ℕ → Settings → Block → Meaning
meaning_by zero s b = block s b
meaning_by (suc number) s b = refused (suc number)

-- as much of a block as lent slices have room for
abbrev pub held_in : Room → Block → Block
held_in room b = block_of (take room.mask b.mask) (take room.llr b.llr)

module _ (room : Room) where
  -- the rest is tested for 14 (nothing follows the last line), then come the decoder's numbers; 7, in its place among
  -- them, where the lent slices don't have room for all of the block
  abbrev pub tested : Settings → Reading Block → Meaning
  tested s (found b []) = meaning_by (block_number s (held_in room b)) s b
  tested s (found b (x ∷ behind)) = refused 14
  tested s malformed = refused 14

  -- the first three lines are tested for 14, then m for 1
  abbrev pub sized : Reading Settings → Meaning
  sized (found s behind) = cond (between 1 largest_m s.m) (tested s (read_positions (2 ^ s.m) 0 behind)) (refused 1)
  sized malformed = refused 14

  -- a text that is too long is 14 before anything else
  unfoldable pub meaning_in : List ℕ → Meaning
  meaning_in t = cond (leb (length t) longest_text) (sized (head t)) (refused 14)

-- the meaning of a text, whatever memory is lent: with room for a block of any length, so that 7 can't be
abbrev pub largest_room : Room
largest_room = record { mask = most_positions; llr = most_positions }

unfoldable pub meaning : List ℕ → Meaning
meaning t = meaning_in largest_room t

-- ---- the promise of `read`: its answer, and the lent slices afterwards, by the meaning of the text

pub data ReadAnswer : Type 0 where
  accepted : Settings → ReadAnswer
  rejected : ℕ → ReadAnswer

abbrev pub read_answer : Meaning → ReadAnswer
read_answer (refused number) = rejected number
read_answer (block s b) = accepted s

abbrev pub answer_of : Result Settings Refusal → ReadAnswer
answer_of (Ok s) = accepted s
answer_of (Err r) = rejected (refusal_number r)

-- a block in the first elements, the old contents after it
abbrev pub block_over : Block → Block → Block
block_over b old = block_of (written_over b.mask old.mask) (written_over b.llr old.llr)

-- the lent slices: after a refusal as they were
abbrev pub block_after : Meaning → Block → Block
block_after (refused number) old = old
block_after (block s b) old = block_over b old

abbrev pub room_of : Block → Room
room_of lent = record { mask = length lent.mask; llr = length lent.llr }

-- `before` and `after` are the contents of the lent slices
pub record InputRead (means : Meaning) (before after : Block) (r : Result Settings Refusal) : Type 0 where
  pub answer : answer_of r ≡ read_answer means
  pub after_is : after ≡ block_after means before
