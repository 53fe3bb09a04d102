-- Laws of the writer's room: how long the text of an accepted block is at most; and what the writer answers and leaves,
-- by its number.
use Prim.Native.Nat.{ℕ, zero, suc, ◌+◌, ◌-◌, ◌^◌, ◌≤◌, ◌<◌}
use Rattle.std.specs.Prelude.{◌≡◌, refl, Bool, true, false, List, [], ◌∷◌, ◌++◌, ℤ, pos, nat_abs, length, get_or, take}
use Rattle.std.specs.Prelude.{drop}
use Rattle.std.proofs.Common.{sym, ap, ap₂, ◌∙◌, true≢false, suc-add, leb-true, le-leb, pow_mono}
use native.Mathlib.Omega.{arith}
use Rattle.std.proofs.lemmas.Bool.{lt-leb}
use Rattle.std.proofs.Math.ListN.{length-append}
use Rattle.std.proofs.Math.Seq.{take-append_seam}
use Rattle.calls.specs.declared.Refusal.{Refusal}
use Rattle.calls.specs.Bounds.{most_positions, largest_ceiling}
use Rattle.calls.specs.EveryLaws.{every-at}
use Rattle.calls.specs.LentMemory.{written_over, unless_refused}
use Rattle.calls.specs.Numbers.{refusal_number, check, first_refusal}
use Rattle.calls.specs.NumberLaws.{refused-first, refused-keeps}
use Rattle.polar.specs.Mask.{is_mask_byte}
use Rattle.settings.specs.declared.Settings.{Settings}
use Rattle.settings.specs.SettingsLaws.{Accepted, accepted, operand-le}
use Rattle.format.specs.Decimal.{digits, decimal, shown, line}
use Rattle.format.specs.DecimalLaws.{
  length_last,
  decimal-length,
  shown-length,
  behind,
  line-cons,
  FourDigits,
}
use Rattle.format.specs.Texts.{position_lines}
use Rattle.report_input.specs.Input.{setting_names, position_names, largest_lengths, Block, block_number}
use Rattle.report_writer.specs.Writer.{
  values_of,
  values_at,
  tidy_text,
  longest_tidy_text,
  write_number,
  WriteAnswer,
  wrote,
  rejected,
  write_answer_by,
  write_answer,
  text_after,
  answer_of,
}
use Rattle.std.specs.Prelude.{Result, Ok, Err}

-- ---- what is written of an accepted block

-- its settings and its values
module _ (s : Settings) (b : Block) (none : block_number s b ≡ 0) where
  pub block-accepted : Accepted s b.mask b.llr largest_lengths
  block-accepted = accepted s b.mask b.llr largest_lengths none

  pub few-positions : 2 ^ s.m ≤ most_positions
  few-positions = pow_mono block-accepted.settings.m-le

  operand_small : s.operand ≤ largest_ceiling
  operand_small = operand-le block-accepted.settings

  module _ (p : ℕ) (h : p < 2 ^ s.m) where
    pub mask-small : get_or b.mask p 0 ≤ 1
    mask-small =
        leb-true (get_or b.mask p 0) 1
        (every-at (2 ^ s.m) p (λ i. is_mask_byte (get_or b.mask i 0)) block-accepted.values h)

    pub llr-small : nat_abs (get_or b.llr p (pos 0)) ≤ largest_ceiling
    llr-small = omega (arith, block-accepted.within p h, block-accepted.settings.ceiling-le)

-- ---- how long it is

-- the bytes of a line: those of its values, and one after each
abbrev line_bytes : List ℤ → ℕ
line_bytes [] = 0
line_bytes (z ∷ zs) = length (shown z) + 1 + line_bytes zs

line-bytes : (zs : List ℤ) → length (line zs) ≡ line_bytes zs
unfolding line
line-bytes [] = refl
line-bytes (z ∷ zs) =
    omega (
      arith,
      ap length (line-cons z zs),
      length-append (shown z ++ (behind zs ∷ [])) (line zs),
      length_last (shown z) (behind zs),
      line-bytes zs,
    )

shown-digits : (k n : ℕ) → n < 10 ^ suc k → length (shown (pos n)) ≤ suc k
unfolding shown
shown-digits k n h = decimal-length k n h

-- the most bytes of the line of the settings: their digits, five spaces and the end of the line
abbrev pub longest_settings_line : ℕ
longest_settings_line = 21

-- the most bytes of the lines of n positions from p on: the digits of each, and 9 for its mask value, its LLR, two
-- spaces and the end of the line
lines_bytes : ℕ → ℕ → ℕ
lines_bytes zero p = 0
lines_bytes (suc n) p = length (shown (pos p)) + 9 + lines_bytes n (suc p)

lines-rise : (n k p : ℕ) → lines_bytes n p ≤ lines_bytes (n + k) p
unfolding lines_bytes
lines-rise zero k p = omega arith
lines-rise (suc n) k p = rw suc-add (omega (arith, lines-rise n k (suc p)))

lines-all : lines_bytes most_positions 0 ≡ 12202
unfolding lines_bytes shown decimal digits
lines-all = refl

lines-most : (n : ℕ) → n ≤ most_positions → lines_bytes n 0 ≤ 12202
lines-most n h =
    let more : n + (most_positions - n) ≡ most_positions = omega arith in
    rw (← lines-all, ← more) (lines-rise n (most_positions - n) 0)

module _ (s : Settings) (b : Block) (none : block_number s b ≡ 0) where
  pub settings-digits : FourDigits (values_of s)
  settings-digits = let a = (block-accepted s b none).settings in omega (arith, operand_small s b none)

  pub position-digits : (p : ℕ) → p < 2 ^ s.m → FourDigits (values_at b p)
  position-digits p h =
      omega (arith, few-positions s b none, mask-small s b none p h, llr-small s b none p h)

  pub settings-bytes : length (line (values_of s)) ≤ longest_settings_line
  settings-bytes =
      let a = (block-accepted s b none).settings in
      omega (
        arith,
        line-bytes (values_of s),
        shown-digits 1 s.m (omega arith),
        shown-digits 3 s.ceiling (omega arith),
        shown-digits 1 s.scale (omega arith),
        shown-digits 1 s.limit (omega arith),
        shown-digits 0 s.criterion (omega arith),
        shown-digits 3 s.operand (omega (arith, operand_small s b none)),
      )

  lines-bytes : (n p : ℕ) → p + n ≤ 2 ^ s.m → length (position_lines (values_at b) n p) ≤ lines_bytes n p
  unfolding position_lines lines_bytes
  lines-bytes zero p h = omega arith
  lines-bytes (suc n) p h =
      omega (
        arith,
        length-append (line (values_at b p)) (position_lines (values_at b) n (suc p)),
        line-bytes (values_at b p),
        shown-digits 0 (get_or b.mask p 0) (omega (arith, mask-small s b none p (omega arith))),
        shown-length (get_or b.llr p (pos 0)) (omega (arith, llr-small s b none p (omega arith))),
        lines-bytes n (suc p) (omega arith),
      )

  -- no tidy text is longer, so every one can be read
  pub tidy-length : length (tidy_text s b) ≤ longest_tidy_text
  unfolding tidy_text
  tidy-length =
      let n = 2 ^ s.m in
      let lines = position_lines (values_at b) n 0 in
      omega (
        arith,
        settings-bytes,
        lines-bytes n 0 (omega arith),
        lines-most n (few-positions s b none),
        length-append (setting_names ++ line (values_of s) ++ position_names) lines,
        length-append (setting_names ++ line (values_of s)) position_names,
        length-append setting_names (line (values_of s)),
      )

-- ---- the answer, and the slice afterwards

-- the slice, by the number
abbrev slice : Settings → Block → List ℕ → ℕ → List ℕ
slice s b old number = unless_refused number (written_over (tidy_text s b) old) old

-- a refusal for one of the decoder's numbers. Here and below each law shows the number by itself, so that each says by
-- itself where a definition breaks it
module _ (s : Settings) (b : Block) (old : List ℕ) (r : Refusal) (e : refusal_number r ≡ block_number s b) where
  number-first : write_number s b (length old) ≡ refusal_number r
  number-first = rw (← e) (refused-first r _)

  pub refused-answer : rejected (refusal_number r) ≡ write_answer s b old
  refused-answer =
      let number-first : write_number s b (length old) ≡ refusal_number r = rw (← e) (refused-first r _) in
      rw number-first (sym (positive (refusal_number r) _ (refused-first r 1)))
    where
      positive : (n k : ℕ) → first_refusal n 1 ≡ n → write_answer_by n k ≡ rejected n
      positive zero k h = absurd (omega arith)
      positive (suc n) k h = refl

  pub refused-text : old ≡ text_after s b old
  refused-text =
      let number-first : write_number s b (length old) ≡ refusal_number r = rw (← e) (refused-first r _) in
      sym (refused-keeps r _ old) ∙ ap (slice s b old) (sym number-first)

-- the number, by the decoder's and whether the text has room
abbrev number_by : ℕ → Bool → ℕ
number_by number fits = first_refusal number (check fits 7 0)

module _ (s : Settings) (b : Block) (old : List ℕ) (e : block_number s b ≡ 0) where
  short-number : length old < length (tidy_text s b) → write_number s b (length old) ≡ 7
  short-number h = ap₂ number_by e (lt-leb (length (tidy_text s b)) (length old) h)

  -- 7, for a slice that is too short
  pub short-answer : length old < length (tidy_text s b) → rejected 7 ≡ write_answer s b old
  short-answer h =
      let short : write_number s b (length old) ≡ 7 =
      ap₂ number_by e (lt-leb (length (tidy_text s b)) (length old) h) in
      rw short

  pub short-text : length old < length (tidy_text s b) → old ≡ text_after s b old
  short-text h =
      let short : write_number s b (length old) ≡ 7 =
      ap₂ number_by e (lt-leb (length (tidy_text s b)) (length old) h) in
      ap (slice s b old) (sym short)

  -- the text, where it has room
  pub written-number : length (tidy_text s b) ≤ length old → write_number s b (length old) ≡ 0
  written-number h = ap₂ number_by e (le-leb (length (tidy_text s b)) (length old) h)

  pub written-answer : length (tidy_text s b) ≤ length old → wrote (length (tidy_text s b)) ≡ write_answer s b old
  written-answer h =
      let fits : write_number s b (length old) ≡ 0 = ap₂ number_by e (le-leb (length (tidy_text s b)) (length old) h) in
      rw fits

  pub written-text : length (tidy_text s b) ≤ length old → written_over (tidy_text s b) old ≡ text_after s b old
  written-text h =
      let fits : write_number s b (length old) ≡ 0 = ap₂ number_by e (le-leb (length (tidy_text s b)) (length old) h) in
      ap (slice s b old) (sym fits)

-- ---- what an answer says

abbrev is_wrote : WriteAnswer → Bool
is_wrote (wrote n) = true
is_wrote (rejected number) = false

by-refusal : (number n : ℕ) {k : ℕ} → rejected k ≡ write_answer_by number n → number ≡ k
by-refusal zero n e = absurd (true≢false (ap is_wrote (sym e)))
by-refusal (suc number) n e = cc

by_length : (number n : ℕ) {k : ℕ} → wrote k ≡ write_answer_by number n → (number ≡ 0) × (k ≡ n)
by_length zero n e = (refl, cc)
by_length (suc number) n e = absurd (true≢false (ap is_wrote e))

module _ (s : Settings) (b : Block) (old : List ℕ) (r : Result ℕ Refusal)
    (answer : answer_of r ≡ write_answer s b old) where
  pub answered-refused : {refusal : Refusal} → r ≡ Err refusal
      → write_number s b (length old) ≡ refusal_number refusal
  answered-refused e =
      by-refusal (write_number s b (length old)) (length (tidy_text s b)) (sym (ap answer_of e) ∙ answer)

  pub answered-written : {k : ℕ} → r ≡ Ok k
      → (write_number s b (length old) ≡ 0) × (k ≡ length (tidy_text s b))
  answered-written e =
      by_length (write_number s b (length old)) (length (tidy_text s b)) (sym (ap answer_of e) ∙ answer)

-- where a length is answered, so many bytes of the slice are the text
pub text-first : (s : Settings) (b : Block) (old : List ℕ) {n : ℕ} → write_answer s b old ≡ wrote n
    → take n (text_after s b old) ≡ tidy_text s b
text-first s b old e =
    let done = by_length (write_number s b (length old)) (length (tidy_text s b)) (sym e) in
    rw (done.0, done.1) (take-append_seam (tidy_text s b) (drop (length (tidy_text s b)) old))
