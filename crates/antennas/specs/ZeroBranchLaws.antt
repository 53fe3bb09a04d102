-- With a branch of zeros the front for two antennas is that of one antenna, for every float in the other branch and
-- every receiver: the same number, and the same LLRs.
use Rattle.std.specs.Prelude.{ℕ, zero, suc, ◌*◌, ◌^◌, ◌≤◌, ◌<◌, ◌≡◌, refl, Bool, true, false, ◌&&◌, ◌||◌, List, ℤ, pos}
use Rattle.std.specs.Prelude.{T, leb, eqb, length, get_or, Float}
use Rattle.std.proofs.Common.{sym, ap, ap₂, ◌∙◌, subst, le_refl, zero-mul, mul-pos, arith, le-leb, eqb-true}
use Rattle.std.specs.Bool.{beq}
use Rattle.std.proofs.Math.Bool.{and-true}
use Rattle.std.proofs.Math.Decide.{dec_le}
use Rattle.std.proofs.Math.ListN.{get_or-eq_default}
use Rattle.std.specs.Float.{nan, inf, fin, binary32}
use Rattle.std.specs.Float.Ieee.{up, down, unlike, round, add, mul, eq}
use Rattle.std.specs.Float.Ieee.Fits.{up_pos, down_pos, mul-fits}
use Rattle.calls.specs.Bounds.{largest_ceiling}
use Rattle.calls.specs.LentMemory.{overwrite, unless_refused}
use Rattle.calls.specs.LentMemoryLaws.{overwrite-same, unless-refused-same}
use Rattle.calls.specs.NumberLaws.{and-passed}
use Rattle.calls.specs.EveryLaws.{every-at, every_of}
use Rattle.channel.specs.declared.Channel.TheVariants.{Gaussian}
use Rattle.channel.specs.Front.{quantised, llr_of, is_finite, is_above_zero, all_finite, front_number, front_llrs}
use Rattle.channel.specs.FrontLaws.{tests-passed}
use Rattle.antennas.specs.declared.Receiver.{Receiver}
use Rattle.antennas.specs.FrontTwo.{
  largest_product,
  cut_to,
  llr_of_two,
  Branches,
  branches,
  llr_at,
  front_two_number,
  front_two_llrs,
}
use Rattle.antennas.specs.RelatedCalls.{all_zero}
use Rattle.antennas.specs.SumLaws.{round-zero, add-with-zero}
use Rattle.antennas.specs.CutLaws.{cut_size, cut-is, cut_fits, quantised-cut}
use Rattle.antennas.specs.FrontTwoLaws.{product, llrs-swapped, number-swapped}

-- ---- a zero in the second branch

zero-stays : (s : Bool) → cut_size (fin s 0 (pos 0)) ≡ fin s 0 (pos 0)
unfolding cut_size
zero-stays s = refl

-- a zero times a usable factor is a zero
zero-product : (t : Bool) (e : ℤ) (factor : Float) → is_above_zero factor ≡ true
    → (s : Bool) × (product (fin t 0 e) factor ≡ fin s 0 (pos 0))
unfolding mul is_above_zero
zero-product t e nan h = absurd (subst T (sym h) tt)
zero-product t e (inf u) h = absurd (subst T (sym h) tt)
zero-product t e (fin u n d) h =
    let none : 0 * up e * (n * up d) ≡ 0 = ap (λ (k : ℕ). k * (n * up d)) (zero-mul (up e)) ∙ zero-mul (n * up d) in (
      unlike t u,
      ap (cut_to largest_product)
          (ap (λ (k : ℕ). round binary32 (unlike t u) k (down e * down d)) none
          ∙ round-zero (unlike t u) (down e * down d) (mul-pos (down_pos e) (down_pos d)))
          ∙ cut-is (fin (unlike t u) 0 (pos 0))
          ∙ zero-stays (unlike t u),
    )

-- what equals 0 is a zero
equals-zero : (y : Float) → eq y (fin false 0 (pos 0)) ≡ true → (s : Bool) × (e : ℤ) × (y ≡ fin s 0 e)
unfolding eq
equals-zero nan h = absurd (subst T (sym h) tt)
equals-zero (inf s) h = absurd (subst T (sym h) tt)
equals-zero (fin s zero e) h = (s, e, refl)
equals-zero (fin s (suc n) e) h =
    let same = eqb-true (suc n * up e * 1) (0 * 1 * down e)
    (and-passed (eqb (suc n * up e * 1) (0 * 1 * down e)) (beq s false || eqb (suc n * up e * 1) 0) h).0 in
    absurd (positive (up_pos e) same)
  where
    positive : 0 < up e → suc n * up e * 1 ≡ 0 * 1 * down e → ⊥
    positive p q = omega arith

zero-finite : (y : Float) → eq y (fin false 0 (pos 0)) ≡ true → is_finite y ≡ true
unfolding eq is_finite
zero-finite nan h = h
zero-finite (inf s) h = h
zero-finite (fin s m e) h = refl

nan-no-zero : eq nan (fin false 0 (pos 0)) ≡ true → ⊥
unfolding eq
nan-no-zero h = subst T (sym h) tt

pub llr-with-zero : (C : ℕ) (receiver : Receiver) (x y : Float) → C ≤ largest_ceiling
    → is_above_zero receiver.second ≡ true → eq y (fin false 0 (pos 0)) ≡ true
    → llr_of_two C receiver x y ≡ llr_of C (Gaussian receiver.first) x
llr-with-zero C receiver x y h usable z =
    let p = mul binary32 x receiver.first in
    let is = equals-zero y z in
    let none = zero-product is.0 is.1 receiver.second usable in
    ap₂ (λ (a b : Float). quantised C (add binary32 a b)) (cut-is p)
    (ap (λ (v : Float). product v receiver.second) is.2 ∙ none.1)
    ∙ add-with-zero C (cut_size p) none.0 (cut_fits p (mul-fits binary32 x receiver.first))
    ∙ quantised-cut C p h

-- ---- of whole calls, with a zero at each of the second branch's first 2^m places

module _ (m C : ℕ) (receiver : Receiver) (samples : Branches) (above : is_above_zero receiver.second ≡ true)
    (zero-at : (i : ℕ) → i < 2 ^ m → eq (get_or samples.second i nan) (fin false 0 (pos 0)) ≡ true) where
  -- after the end of a list stands a NaN, which equals nothing
  zeros-long : 2 ^ m ≤ length samples.second
  zeros-long = by_length (dec_le (2 ^ m) (length samples.second))
    where
      missing : (i : ℕ) → i < 2 ^ m → length samples.second ≤ i → ⊥
      missing i h behind =
          nan-no-zero (rw (get_or-eq_default samples.second nan behind) at (zero-at i h))

      by_length : Dec (2 ^ m ≤ length samples.second) → 2 ^ m ≤ length samples.second
      by_length (yes long) = long
      by_length (no short) = absurd (missing (length samples.second) (omega arith) (le_refl _))

  zeros-finite : all_finite (2 ^ m) samples.second ≡ true
  zeros-finite =
      every_of (2 ^ m) (λ i. is_finite (get_or samples.second i nan)) (λ i h. zero-finite _ (zero-at i h))

  number-with-zeros : (room : ℕ)
      → front_two_number m C receiver samples room ≡ front_number m C (Gaussian receiver.first) samples.first room
  number-with-zeros room =
      simp (le-leb (2 ^ m) (length samples.second) zeros-long, above, zeros-finite, and-true)

  ceiling-passed : (room : ℕ) → front_number m C (Gaussian receiver.first) samples.first room ≡ 0
      → C ≤ largest_ceiling
  ceiling-passed room ok =
      (tests-passed m C (leb (2 ^ m) (length samples.first) && leb (2 ^ m) room) (is_above_zero receiver.first)
      (all_finite (2 ^ m) samples.first) ok).ceiling.1

  llrs-with-zeros : (old : List ℤ)
      → front_two_llrs m C receiver samples old ≡ front_llrs m C (Gaussian receiver.first) samples.first old
  llrs-with-zeros old =
      let channel = Gaussian receiver.first in
      ap (λ (n : ℕ). unless_refused n (overwrite (2 ^ m) (llr_at C receiver samples) old) old)
      (number-with-zeros (length old))
      ∙ unless-refused-same (front_number m C channel samples.first (length old)) _ _ old (λ ok.
      overwrite-same (2 ^ m) (llr_at C receiver samples) (λ i. llr_of C channel (get_or samples.first i nan)) old
      (λ i h k. llr-with-zero C receiver (get_or samples.first i nan) (get_or samples.second i nan)
      (ceiling-passed (length old) ok) above (zero-at i h)))

-- the second branch
module _ (m C : ℕ) (receiver : Receiver) (samples : Branches) (usable : is_above_zero receiver.second ≡ true)
    (zeros : all_zero (2 ^ m) samples.second ≡ true) where
  zero-at : (i : ℕ) → i < 2 ^ m → eq (get_or samples.second i nan) (fin false 0 (pos 0)) ≡ true
  zero-at i h = every-at (2 ^ m) i (λ j. eq (get_or samples.second j nan) (fin false 0 (pos 0))) zeros h

  pub second-zeros-number : (room : ℕ)
      → front_two_number m C receiver samples room ≡ front_number m C (Gaussian receiver.first) samples.first room
  second-zeros-number room =
      number-with-zeros m C receiver samples usable
      (λ i h. every-at (2 ^ m) i (λ j. eq (get_or samples.second j nan) (fin false 0 (pos 0))) zeros h) room

  pub second-zeros : (old : List ℤ)
      → front_two_llrs m C receiver samples old ≡ front_llrs m C (Gaussian receiver.first) samples.first old
  second-zeros old =
      llrs-with-zeros m C receiver samples usable
      (λ i h. every-at (2 ^ m) i (λ j. eq (get_or samples.second j nan) (fin false 0 (pos 0))) zeros h) old

-- the first branch: the same with the branches exchanged
module _ (m C : ℕ) (receiver : Receiver) (samples : Branches) (usable : is_above_zero receiver.first ≡ true)
    (zeros : all_zero (2 ^ m) samples.first ≡ true) where
  pub first-zeros-number : (room : ℕ)
      → front_two_number m C receiver samples room ≡ front_number m C (Gaussian receiver.second) samples.second room
  first-zeros-number room =
      let f = receiver.first in
      let g = receiver.second in
      sym (number-swapped m C f g samples.first samples.second room)
      ∙ number-with-zeros m C (record { first = g; second = f }) (branches samples.second samples.first) usable
      (λ i h. every-at (2 ^ m) i (λ j. eq (get_or samples.first j nan) (fin false 0 (pos 0))) zeros h) room

  pub first-zeros : (old : List ℤ)
      → front_two_llrs m C receiver samples old ≡ front_llrs m C (Gaussian receiver.second) samples.second old
  first-zeros old =
      let f = receiver.first in
      let g = receiver.second in
      sym (llrs-swapped m C f g samples.first samples.second old)
      ∙ llrs-with-zeros m C (record { first = g; second = f }) (branches samples.second samples.first) usable
      (λ i h. every-at (2 ^ m) i (λ j. eq (get_or samples.first j nan) (fin false 0 (pos 0))) zeros h) old
