-- What the decoder can answer (a refusal from 1 to 10, or an ending at an iteration from 1 to the largest limit by
-- reason 1 or 2), and what an accepted call writes at each place.
use Rattle.std.specs.Prelude.{ℕ, zero, suc, ◌+◌, ◌-◌, ◌^◌, ◌≤◌, ◌<◌, ◌≡◌, refl, Bool, true, false, cond, List, ℤ, pos}
use Rattle.std.specs.Prelude.{get_or}
use Rattle.std.proofs.Common.{ap, ap₂, ◌∙◌, arith, lit≤}
use Rattle.calls.specs.LentMemoryLaws.{overwrite-at}
use Rattle.calls.specs.Numbers.{check, first_refusal}
use Rattle.polar.specs.Mask.{is_information}
use Rattle.polar.specs.MaskLaws.{kind-frozen, frozen-bit-zero}
use Rattle.criteria.specs.Marks.{mark_of}
use Rattle.settings.specs.declared.Settings.{Settings}
use Rattle.settings.specs.Settings.{largest_limit, settings_number}
use Rattle.settings.specs.Slices.{Slices, lengths_of}
use Rattle.settings.specs.SettingsLaws.{accepted}
use Rattle.settings.specs.SlicesLaws.{OutputsFit, outputs-fit}
use Rattle.decoder.specs.Decoder.{
  Ending,
  ending_from,
  ending,
  Result,
  refused,
  ended,
  result_by,
  outputs_of,
  soft_at,
  mark_at,
  coded_soft_at,
  coded_mark_at,
  final,
  call_number,
  decode_result,
  decode_slices,
}
use Rattle.decoder.specs.OutputLaws.{mark-positive}

abbrev pub DecoderAnswer : Result → Type 0
DecoderAnswer (refused number) = (1 ≤ number) × (number ≤ 10)
DecoderAnswer (ended iteration reason) = (1 ≤ iteration) × (iteration ≤ largest_limit) × (1 ≤ reason) × (reason ≤ 2)

-- ---- endings

-- at an iteration from low to high, by reason 1 or 2
record EndsWithin (low high : ℕ) (e : Ending) : Type 0 where
  pub low-le : low ≤ e.iteration
  pub le-high : e.iteration ≤ high
  pub reason-some : 1 ≤ e.reason
  pub reason-le : e.reason ≤ 2

here : {low high : ℕ} (t reason : ℕ) → low ≤ t → t ≤ high → 1 ≤ reason → reason ≤ 2
    → EndsWithin low high (record { iteration = t; reason = reason })
here t reason l h some le = record { low-le = l; le-high = h; reason-some = some; reason-le = le }

either : {low high : ℕ} {a b : Ending} (test : Bool) → EndsWithin low high a → EndsWithin low high b
    → EndsWithin low high (cond test a b)
either true l r = l
either false l r = r

ending-from : (holds_at : ℕ → Bool) (n a : ℕ) → EndsWithin a (a + n) (ending_from holds_at a n)
ending-from holds_at zero a =
    either (holds_at a) (here a 1 (omega arith) (omega arith) (omega arith) (omega arith))
    (here a 2 (omega arith) (omega arith) (omega arith) (omega arith))
ending-from holds_at (suc n) a =
    let later = ending-from holds_at n (suc a) in
    either (holds_at a) (here a 1 (omega arith) (omega arith) (omega arith) (omega arith))
    (here _ _ (omega arith) (omega arith) later.reason-some later.reason-le)

-- ---- the answer by its number

-- an ending matters only where there is no refusal
pub result-same : (number number' : ℕ) (e e' : Ending) → number' ≡ number → (number ≡ 0 → e' ≡ e)
    → result_by number' e' ≡ result_by number e
result-same zero number' e e' same h = ap₂ result_by same (h refl)
result-same (suc number) number' e e' same h = ap (λ (n : ℕ). result_by n e') same

check-le : {most : ℕ} (test : Bool) (number next : ℕ) → number ≤ most → next ≤ most → check test number next ≤ most
check-le true number next h k = k
check-le false number next h k = h

then-le : {most : ℕ} (first next : ℕ) → first ≤ most → next ≤ most → first_refusal first next ≤ most
then-le zero next h k = k
then-le (suc number) next h k = h

by_number : (number : ℕ) (e : Ending) → number ≤ 10 → (number ≡ 0 → EndsWithin 1 largest_limit e)
    → DecoderAnswer (result_by number e)
by_number zero e h w = let r = w refl in (r.low-le, r.le-high, r.reason-some, r.reason-le)
by_number (suc number) e h w = (omega arith, h)

module _ (s : Settings) (mask : List ℕ) (llr : List ℤ) (lent : Slices) where
  number-le : call_number s mask llr lent ≤ 10
  number-le =
      then-le (settings_number s) _ (search (check-le, lit≤) depth 9) (search (check-le, lit≤) depth 9)

  ending-within : call_number s mask llr lent ≡ 0 → EndsWithin 1 largest_limit (ending s mask llr lent.work)
  unfolding ending
  ending-within h =
      let a = (accepted s mask llr (lengths_of lent) h).settings in
      let e = ending-from _ (s.limit - 1) 1 in
      here _ _ e.low-le (omega (arith, a.limit-some, a.limit-le, e.le-high)) e.reason-some e.reason-le

  pub decoder-answer : DecoderAnswer (decode_result s mask llr lent)
  decoder-answer = by_number (call_number s mask llr lent) (ending s mask llr lent.work) number-le ending-within

-- ---- an accepted call: each place of its outputs

module _ (s : Settings) (mask : List ℕ) (llr : List ℤ) (lent : Slices) (ok : call_number s mask llr lent ≡ 0) where
  written : decode_slices s mask llr lent ≡ outputs_of s mask (final s mask llr lent.work) lent
  written = rw ok

  fits : OutputsFit (2 ^ s.m) lent
  fits = outputs-fit lent (accepted s mask llr (lengths_of lent) ok).slices

  module _ (i : ℕ) (l : i < 2 ^ s.m) where
    soft-place : {x : Slices} → x ≡ outputs_of s mask (final s mask llr lent.work) lent
        → get_or x.soft i (pos 0) ≡ soft_at s mask (final s mask llr lent.work) i
    soft-place is =
        ap (λ (x : Slices). get_or x.soft i (pos 0)) is
        ∙ overwrite-at (2 ^ s.m) _ lent.soft i (pos 0) l (omega (arith, fits.soft))

    mark-place : {x : Slices} → x ≡ outputs_of s mask (final s mask llr lent.work) lent
        → get_or x.mark i 0 ≡ mark_at s mask (final s mask llr lent.work) i
    mark-place is =
        ap (λ (x : Slices). get_or x.mark i 0) is
        ∙ overwrite-at (2 ^ s.m) _ lent.mark i 0 l (omega (arith, fits.mark))

    pub soft-written : get_or (decode_slices s mask llr lent).soft i (pos 0)
        ≡ soft_at s mask (final s mask llr lent.work) i
    soft-written = soft-place {x = decode_slices s mask llr lent} (rw ok)

    pub mark-written : get_or (decode_slices s mask llr lent).mark i 0 ≡ mark_at s mask (final s mask llr lent.work) i
    mark-written = mark-place {x = decode_slices s mask llr lent} (rw ok)

    pub coded_soft-written : get_or (decode_slices s mask llr lent).coded_soft i (pos 0)
        ≡ coded_soft_at s (final s mask llr lent.work) i
    coded_soft-written =
        let written : decode_slices s mask llr lent ≡ outputs_of s mask (final s mask llr lent.work) lent = rw ok in
        ap (λ (x : Slices). get_or x.coded_soft i (pos 0)) written
        ∙ overwrite-at (2 ^ s.m) _ lent.coded_soft i (pos 0) l (omega (arith, fits.coded_soft))

    pub coded_mark-written : get_or (decode_slices s mask llr lent).coded_mark i 0
        ≡ coded_mark_at s (final s mask llr lent.work) i
    coded_mark-written =
        let written : decode_slices s mask llr lent ≡ outputs_of s mask (final s mask llr lent.work) lent = rw ok in
        ap (λ (x : Slices). get_or x.coded_mark i 0) written
        ∙ overwrite-at (2 ^ s.m) _ lent.coded_mark i 0 l (omega (arith, fits.coded_mark))

    -- at a frozen position the soft output is C and the mark 0
    module _ (frozen : is_information (get_or mask i 0) ≡ false) where
      pub frozen-soft-written : get_or (decode_slices s mask llr lent).soft i (pos 0) ≡ pos s.ceiling
      frozen-soft-written =
          soft-place {x = decode_slices s mask llr lent} (rw ok)
          ∙ kind-frozen _ _ (get_or mask i 0) frozen ∙ rw (frozen-bit-zero (get_or mask i 0))

      pub frozen-mark-written : get_or (decode_slices s mask llr lent).mark i 0 ≡ 0
      frozen-mark-written =
          let soft : soft_at s mask (final s mask llr lent.work) i ≡ pos s.ceiling =
          kind-frozen _ _ (get_or mask i 0) frozen ∙ rw (frozen-bit-zero (get_or mask i 0)) in
          mark-place {x = decode_slices s mask llr lent} (rw ok)
          ∙ ap mark_of soft
          ∙ mark-positive s.ceiling (accepted s mask llr (lengths_of lent) ok).settings.ceiling-some
