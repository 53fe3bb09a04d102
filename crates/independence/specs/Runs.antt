-- From lent slices to the two runs of Flips: the block sent, and what two calls of the decoder, the second with its
-- LLRs flipped by that block, answer and leave.
use Rattle.std.specs.Prelude.{ℕ, ◌^◌, ◌<◌, ◌≡◌, Bool, false, List, ℤ, pos, length, get_or}
use Rattle.std.proofs.Common.{sym, ap, ◌∙◌}
use Rattle.calls.specs.Bits.{byte_of, bit_of}
use Rattle.calls.specs.BitLaws.{bit-of-byte}
use Rattle.calls.specs.LentMemoryLaws.{new-at}
use Rattle.calls.specs.Signs.{flipped}
use Rattle.polar.specs.declared.Code.{Code}
use Rattle.polar.specs.Code.{u_bit, information_count, coded, encode_number, encode_block}
use Rattle.polar.specs.CodeLaws.{encode-accepted}
use Rattle.polar.specs.Mask.{is_information}
use Rattle.polar.specs.MaskLaws.{kind-frozen, frozen-bit-zero}
use Rattle.criteria.specs.Marks.{mark_of}
use Rattle.settings.specs.declared.Settings.{Settings}
use Rattle.settings.specs.Settings.{decode_number}
use Rattle.settings.specs.SettingsLaws.{accepted, number-flipped}
use Rattle.settings.specs.Slices.{Slices, lengths_of}
use Rattle.decoder.specs.Decoder.{ending, call_number, decode_result, decode_slices}
use Rattle.decoder.specs.ResultLaws.{result-same, soft-written, mark-written, coded_soft-written, coded_mark-written}
use Rattle.independence.specs.Verdict.{flipped_mark}
use Rattle.independence.specs.Flips.{Runs}
use Rattle.independence.specs.Outcome.{mark-flipped, ending-same, final-soft, final-coded_soft}

-- ---- the coder: u is 0 where the mask is not, and the block sent holds the coded bits

pub frozen-zero : (mask message : List ℕ) (i : ℕ) → is_information (get_or mask i 0) ≡ false
    → u_bit mask message i ≡ false
frozen-zero mask message i frozen =
    kind-frozen (bit_of (get_or message (information_count mask i) 0)) (λ bit. bit) (get_or mask i 0) frozen
    ∙ frozen-bit-zero (get_or mask i 0)

pub sent-coded : (code : Code) (mask message block : List ℕ) → encode_number code mask message (length block) ≡ 0
    → (i : ℕ) → i < 2 ^ code.m
    → bit_of (get_or (encode_block code mask message block) i 0) ≡ coded code.m (u_bit mask message) i
sent-coded code mask message block ok i h =
    let room = (encode-accepted code mask message (length block) ok).0.room-long in
    ap bit_of
    (new-at (encode_number code mask message (length block)) (2 ^ code.m)
    (λ i. byte_of (coded code.m (u_bit mask message) i)) block i 0 ok h room)
    ∙ bit-of-byte (coded code.m (u_bit mask message) i)

-- ---- the decoder: two calls, the second with its LLRs flipped by the block sent, with slices of the same lengths

-- where u is 0 wherever the mask is not, and the block sent is u coded
pub record Calls (s : Settings) (mask : List ℕ) (u sent : ℕ → Bool) (llr llr' : List ℤ)
    (lent lent' : Slices) : Type 0 where
  pub frozen : (i : ℕ) → is_information (get_or mask i 0) ≡ false → u i ≡ false
  pub block : (i : ℕ) → i < 2 ^ s.m → sent i ≡ coded s.m u i
  pub flips : (i : ℕ) → i < 2 ^ s.m → get_or llr' i (pos 0) ≡ flipped (sent i) (get_or llr i (pos 0))
  pub long : length llr' ≡ length llr
  pub lengths : lengths_of lent' ≡ lengths_of lent

module _ {s : Settings} {mask : List ℕ} {u sent : ℕ → Bool} {llr llr' : List ℤ} {lent lent' : Slices}
    (c : Calls s mask u sent llr llr' lent lent') where
  number_same : call_number s mask llr' lent' ≡ call_number s mask llr lent
  number_same =
      ap (decode_number s mask llr') c.lengths
      ∙ number-flipped s mask llr llr' (lengths_of lent) sent c.long c.flips

  passed : call_number s mask llr lent ≡ 0 → call_number s mask llr' lent' ≡ 0
  passed ok = number_same ∙ ok

  runs : call_number s mask llr lent ≡ 0 → Runs s.m mask u llr llr' lent.work lent'.work
  runs ok = record {
    frozen = λ i h. c.frozen i;
    sent = λ i h. c.flips i h ∙ ap (λ (b : Bool). flipped b (get_or llr i (pos 0))) (c.block i h);
    room = (accepted s mask llr (lengths_of lent) ok).slices.work-long;
    room' = (accepted s mask llr' (lengths_of lent') (passed ok)).slices.work-long;
  }

  pub answer-same : decode_result s mask llr' lent' ≡ decode_result s mask llr lent
  answer-same =
      result-same (call_number s mask llr lent) (call_number s mask llr' lent') (ending s mask llr lent.work)
      (ending s mask llr' lent'.work)
      number_same (λ ok. ending-same s mask u (runs ok))

  -- what both leave, where both accept
  module _ (ok : call_number s mask llr lent ≡ 0) (i : ℕ) (h : i < 2 ^ s.m) where
    pub soft-same : get_or (decode_slices s mask llr' lent').soft i (pos 0)
        ≡ flipped (u i) (get_or (decode_slices s mask llr lent).soft i (pos 0))
    soft-same =
        soft-written s mask llr' lent' (passed ok) i h ∙ final-soft s mask u (runs ok) i h
        ∙ ap (flipped (u i)) (sym (soft-written s mask llr lent ok i h))

    pub coded_soft-same : get_or (decode_slices s mask llr' lent').coded_soft i (pos 0)
        ≡ flipped (coded s.m u i) (get_or (decode_slices s mask llr lent).coded_soft i (pos 0))
    coded_soft-same =
        coded_soft-written s mask llr' lent' (passed ok) i h ∙ final-coded_soft s mask u (runs ok) i h
        ∙ ap (flipped (coded s.m u i)) (sym (coded_soft-written s mask llr lent ok i h))

    pub mark-same : get_or (decode_slices s mask llr' lent').mark i 0
        ≡ flipped_mark (u i) (get_or (decode_slices s mask llr lent).mark i 0)
    mark-same =
        mark-written s mask llr' lent' (passed ok) i h ∙ ap mark_of (final-soft s mask u (runs ok) i h)
        ∙ mark-flipped (u i) _
        ∙ ap (flipped_mark (u i)) (sym (mark-written s mask llr lent ok i h))

    pub coded_mark-same : get_or (decode_slices s mask llr' lent').coded_mark i 0
        ≡ flipped_mark (coded s.m u i) (get_or (decode_slices s mask llr lent).coded_mark i 0)
    coded_mark-same =
        coded_mark-written s mask llr' lent' (passed ok) i h ∙ ap mark_of (final-coded_soft s mask u (runs ok) i h)
        ∙ mark-flipped (coded s.m u i) _
        ∙ ap (flipped_mark (coded s.m u i)) (sym (coded_mark-written s mask llr lent ok i h))
