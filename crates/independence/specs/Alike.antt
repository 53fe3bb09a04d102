-- Document 01, "Message and outcome": a run from samples to marks, and when a second run, of another message with the
-- same noise, is like the first. Definitions only.
use Rattle.std.specs.Prelude.{ℕ, ◌^◌, ◌<◌, ◌≡◌, Bool, false, List, ℤ, pos, length, get_or}
use Rattle.calls.specs.Bits.{bit_of}
use Rattle.calls.specs.Signs.{flipped}
use Rattle.polar.specs.Code.{u_bit, coded, encode_block}
use Rattle.settings.specs.declared.Settings.{Settings}
use Rattle.settings.specs.Slices.{Slices, lengths_of}
use Rattle.decoder.specs.Decoder.{Result, call_number, decode_result, decode_slices}
use Rattle.independence.specs.Front.{Front}
use Rattle.independence.specs.Verdict.{verdict, flipped_mark}

-- the slices that a run writes, with what they held before: the front's LLRs, and the decoder's five
pub record RunSlices : Type 0 where
  pub llr : List ℤ
  pub slices : Slices

-- of the same lengths, whatever they held
pub record SameLengths (a b : RunSlices) : Type 0 where
  pub llr : length a.llr ≡ length b.llr
  pub slices : lengths_of a.slices ≡ lengths_of b.slices

-- one run: the front on the samples, and the decoder on the LLRs that the front has just written
module _ {Samples : Type 0} (front : Front Samples) (s : Settings) (mask : List ℕ) (samples : Samples)
    (lent : RunSlices) where
  abbrev pub front_in : ℕ
  front_in = front.number samples (length lent.llr)

  abbrev pub llrs_in : List ℤ
  llrs_in = front.llrs samples lent.llr

  abbrev pub decoder_in : ℕ
  decoder_in = call_number s mask llrs_in lent.slices

  abbrev pub answer_in : Result
  answer_in = decode_result s mask llrs_in lent.slices

  abbrev pub soft_in : ℕ → ℤ
  soft_in i = get_or (decode_slices s mask llrs_in lent.slices).soft i (pos 0)

  abbrev pub marks_in : ℕ → ℕ
  marks_in i = get_or (decode_slices s mask llrs_in lent.slices).mark i 0

  abbrev pub coded_soft_in : ℕ → ℤ
  coded_soft_in i = get_or (decode_slices s mask llrs_in lent.slices).coded_soft i (pos 0)

  abbrev pub coded_marks_in : ℕ → ℕ
  coded_marks_in i = get_or (decode_slices s mask llrs_in lent.slices).coded_mark i 0

-- the bits that the marks and the coded marks of the second run stand for are those of u and its coded bits; the block
-- sent, in whatever slice, says which samples are negated
module _ (s : Settings) (mask message : List ℕ) where
  abbrev pub coded_bit_of : ℕ → Bool
  coded_bit_of = coded s.m (u_bit mask message)

  abbrev pub sent_bit : List ℕ → ℕ → Bool
  sent_bit block i = bit_of (get_or (encode_block (record { m = s.m }) mask message block) i 0)

-- the second run beside the first
module _ {Samples : Type 0} (front : Front Samples) (s : Settings) (mask message block : List ℕ) (samples : Samples)
    (first second : RunSlices) where
  abbrev u : ℕ → Bool
  u = u_bit mask message

  abbrev coded_bit : ℕ → Bool
  coded_bit = coded_bit_of s mask message

  -- the first run's samples, with exactly those of the first N negated whose place in the block sent holds a 1
  abbrev other : Samples
  other = front.flip (sent_bit s mask message block) samples

  -- neither front nor decoder refuses the first run
  abbrev Accepted : Type 0
  Accepted = (front_in front s mask samples first ≡ 0) × (decoder_in front s mask samples first ≡ 0)

  pub record Alike : Type 0 where
    -- where the front refuses one run, it refuses the other with the same number
    pub fronts : front_in front s mask other second ≡ front_in front s mask samples first
    -- where the front accepts, the decoder gives both the same number, or ends both at the
    -- same iteration for the same reason
    pub answers : front_in front s mask samples first ≡ 0
        → answer_in front s mask other second ≡ answer_in front s mask samples first
    -- where both accept: each soft output of the second run is minus that of the first where
    -- its bit is 1, and equal elsewhere
    pub soft : Accepted → (i : ℕ) → i < 2 ^ s.m
        → soft_in front s mask other second i ≡ flipped (u i) (soft_in front s mask samples first i)
    pub coded_soft : Accepted → (i : ℕ) → i < 2 ^ s.m
        → coded_soft_in front s mask other second i ≡ flipped (coded_bit i) (coded_soft_in front s mask samples first i)
    -- ties stand at the same places, and every other mark is the opposite one exactly where its bit is 1
    pub marks : Accepted → (i : ℕ) → i < 2 ^ s.m
        → marks_in front s mask other second i ≡ flipped_mark (u i) (marks_in front s mask samples first i)
    pub coded_marks : Accepted → (i : ℕ) → i < 2 ^ s.m
        → coded_marks_in front s mask other second i
        ≡ flipped_mark (coded_bit i) (coded_marks_in front s mask samples first i)
    -- so a position is right, wrong or tied in the second run, judged by u and its coded bits, as it
    -- is in the first, judged by zeros
    pub verdicts : Accepted → (i : ℕ) → i < 2 ^ s.m
        → verdict (u i) (marks_in front s mask other second i) ≡ verdict false (marks_in front s mask samples first i)
    pub coded_verdicts : Accepted → (i : ℕ) → i < 2 ^ s.m
        → verdict (coded_bit i) (coded_marks_in front s mask other second i)
        ≡ verdict false (coded_marks_in front s mask samples first i)
