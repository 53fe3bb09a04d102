-- Laws of the front for two antennas, each for every float and every receiver: an LLR is no larger than the ceiling and
-- odd in its pair of samples, also where samples are flipped at some places; the branches may be exchanged; opposite
-- products give 0, also where they are too large for the format.
use Rattle.std.specs.Prelude.{ℕ, zero, suc, ◌^◌, ◌≤◌, ◌<◌, ◌≡◌, refl, Bool, true, false, not, List, ℤ, pos, negsuc}
use Rattle.std.specs.Prelude.{neg_ℤ, nat_abs, T, leb, length, get_or, Float}
use Rattle.std.proofs.Common.{sym, ap, ap₂, ◌∙◌, subst, le_refl}
use Rattle.std.proofs.Math.Bool.{and_comm}
use Rattle.std.specs.Float.{nan, inf, fin, binary32}
use Rattle.std.specs.Float.Ieee.{neg, add, mul}
use Rattle.calls.specs.LentMemory.{unless_refused}
use Rattle.calls.specs.LentMemoryLaws.{length-overwrite, overwrite-same}
use Rattle.calls.specs.Signs.{is_negative, flipped}
use Rattle.channel.specs.Front.{quantised, is_above_zero, all_finite}
use Rattle.channel.specs.FlippedSamples.{flipped_sample, flipped_samples}
use Rattle.channel.specs.FrontLaws.{quantised-bound, mul-neg, sample-flipped, all-flipped}
use Rattle.antennas.specs.declared.Receiver.{Receiver}
use Rattle.antennas.specs.FrontTwo.{
  largest_product,
  cut_to,
  llr_of_two,
  Branches,
  branches,
  llr_at,
  front_two_number,
  front_two_llrs,
}
use Rattle.antennas.specs.RelatedCalls.{flipped_branches, exchanged, exchanged_branches}
use Rattle.antennas.specs.SumLaws.{add-exchanged, add-odd}
use Rattle.antennas.specs.CutLaws.{cut-neg, cut-infinite, largest-opposite}

-- ---- no LLR is larger than the ceiling

pub llr-of-two-size : (C : ℕ) (receiver : Receiver) (x y : Float) → nat_abs (llr_of_two C receiver x y) ≤ C
llr-of-two-size C receiver x y = quantised-bound C _

-- ---- both samples negated

-- a branch's product, cut
abbrev pub product : Float → Float → Float
product x factor = cut_to largest_product (mul binary32 x factor)

product-neg : (x factor : Float) → product (neg x) factor ≡ neg (product x factor)
product-neg x factor =
    ap (cut_to largest_product) (mul-neg binary32 x factor) ∙ cut-neg (mul binary32 x factor)

-- of any two factors
both-negated : (C : ℕ) (f g x y : Float)
    → quantised C (add binary32 (product (neg x) f) (product (neg y) g))
    ≡ neg_ℤ (quantised C (add binary32 (product x f) (product y g)))
both-negated C f g x y =
    ap₂ (λ (a b : Float). quantised C (add binary32 a b)) (product-neg x f) (product-neg y g)
    ∙ add-odd C (product x f) (product y g)

pub llr-of-two-odd : (C : ℕ) (receiver : Receiver) (x y : Float)
    → llr_of_two C receiver (neg x) (neg y) ≡ neg_ℤ (llr_of_two C receiver x y)
llr-of-two-odd C receiver x y = both-negated C receiver.first receiver.second x y

-- ---- the branches exchanged

-- of any two factors, and of two lists of samples: the same LLR, the same number, and the same LLR slice
llr-swapped : (C : ℕ) (f g x y : Float)
    → llr_of_two C (record { first = g; second = f }) y x ≡ llr_of_two C (record { first = f; second = g }) x y
llr-swapped C f g x y = ap (quantised C) (add-exchanged binary32 (product y g) (product x f))

pub number-swapped : (m C : ℕ) (f g : Float) (xs ys : List Float) (room : ℕ)
    → front_two_number m C (record { first = g; second = f }) (branches ys xs) room
    ≡ front_two_number m C (record { first = f; second = g }) (branches xs ys) room
number-swapped m C f g xs ys room =
    simp (
      and_comm (leb (2 ^ m) (length ys)) (leb (2 ^ m) (length xs)),
      and_comm (is_above_zero g) (is_above_zero f),
      and_comm (all_finite (2 ^ m) ys) (all_finite (2 ^ m) xs),
    )

pub llrs-swapped : (m C : ℕ) (f g : Float) (xs ys : List Float) (old : List ℤ)
    → front_two_llrs m C (record { first = g; second = f }) (branches ys xs) old
    ≡ front_two_llrs m C (record { first = f; second = g }) (branches xs ys) old
llrs-swapped m C f g xs ys old =
    ap₂ (λ (number : ℕ) (new : List ℤ). unless_refused number new old)
    (number-swapped m C f g xs ys (length old))
    (overwrite-same (2 ^ m) _ (llr_at C (record { first = f; second = g }) (branches xs ys)) old
    (λ i h k. llr-swapped C f g (get_or xs i nan) (get_or ys i nan)))

pub llr-of-two-exchanged : (C : ℕ) (receiver : Receiver) (x y : Float)
    → llr_of_two C (exchanged receiver) y x ≡ llr_of_two C receiver x y
llr-of-two-exchanged C receiver x y = llr-swapped C receiver.first receiver.second x y

-- of whole calls
pub number-exchanged : (m C : ℕ) (receiver : Receiver) (samples : Branches) (room : ℕ)
    → front_two_number m C (exchanged receiver) (exchanged_branches samples) room
    ≡ front_two_number m C receiver samples room
number-exchanged m C receiver samples room =
    number-swapped m C receiver.first receiver.second samples.first samples.second room

pub llrs-exchanged : (m C : ℕ) (receiver : Receiver) (samples : Branches) (old : List ℤ)
    → front_two_llrs m C (exchanged receiver) (exchanged_branches samples) old ≡ front_two_llrs m C receiver samples old
llrs-exchanged m C receiver samples old =
    llrs-swapped m C receiver.first receiver.second samples.first samples.second old

-- ---- opposite products

neg-neg : (x : Float) → neg (neg x) ≡ x
unfolding neg
neg-neg nan = refl
neg-neg (inf true) = refl
neg-neg (inf false) = refl
neg-neg (fin true m e) = refl
neg-neg (fin false m e) = refl

own-negative : (z : ℤ) → z ≡ neg_ℤ z → z ≡ pos 0
own-negative (pos zero) e = refl
own-negative (pos (suc n)) e = absurd (subst (λ (z : ℤ). T (is_negative z)) (sym e) tt)
own-negative (negsuc n) e = absurd (subst (λ (z : ℤ). T (is_negative z)) e tt)

pub opposite-products : (C : ℕ) (receiver : Receiver) (x y : Float)
    → product x receiver.first ≡ neg (product y receiver.second) → llr_of_two C receiver x y ≡ pos 0
opposite-products C receiver x y e =
    let b = product y receiver.second in
    let turned : quantised C (add binary32 (neg b) b) ≡ neg_ℤ (quantised C (add binary32 (neg b) b)) =
    ap (quantised C) (add-exchanged binary32 (neg b) b)
    ∙ ap (λ (v : Float). quantised C (add binary32 v (neg b))) (sym (neg-neg b))
    ∙ add-odd C (neg b) b in
    ap (λ (a : Float). quantised C (add binary32 a b)) e ∙ own-negative _ turned

-- both too large for the format
pub opposite-overflow : (C : ℕ) (receiver : Receiver) (x y : Float) (s : Bool)
    → mul binary32 x receiver.first ≡ inf s → mul binary32 y receiver.second ≡ inf (not s)
    → llr_of_two C receiver x y ≡ pos 0
opposite-overflow C receiver x y s p q =
    opposite-products C receiver x y
    (ap (cut_to largest_product) p ∙ cut-infinite s ∙ largest-opposite s
    ∙ ap neg (sym (ap (cut_to largest_product) q ∙ cut-infinite (not s))))

-- ---- both samples flipped at some places

llr-of-two-flipped : (C : ℕ) (receiver : Receiver) (b : Bool) (x y : Float)
    → llr_of_two C receiver (flipped_sample b x) (flipped_sample b y) ≡ flipped b (llr_of_two C receiver x y)
llr-of-two-flipped C receiver true x y = both-negated C receiver.first receiver.second x y
llr-of-two-flipped C receiver false x y = refl

-- the number of the answer stays
pub front-two-number-flipped : (m C : ℕ) (receiver : Receiver) (bit : ℕ → Bool) (samples : Branches) (room : ℕ)
    → front_two_number m C receiver (flipped_branches (2 ^ m) bit samples) room
    ≡ front_two_number m C receiver samples room
front-two-number-flipped m C receiver bit samples room = simp (length-overwrite, finite-stays)
  where
    finite-stays : (bit : ℕ → Bool) (l : List Float)
        → all_finite (2 ^ m) (flipped_samples (2 ^ m) bit l) ≡ all_finite (2 ^ m) l
    finite-stays bit l = all-flipped (2 ^ m) (2 ^ m) bit l (le_refl (2 ^ m))

-- each LLR is flipped where its samples are
pub llr-at-flipped : (n C : ℕ) (receiver : Receiver) (bit : ℕ → Bool) (samples : Branches) (i : ℕ) → i < n
    → llr_at C receiver (flipped_branches n bit samples) i ≡ flipped (bit i) (llr_at C receiver samples i)
llr-at-flipped n C receiver bit samples i h =
    ap₂ (llr_of_two C receiver) (sample-flipped n bit samples.first i h) (sample-flipped n bit samples.second i h)
    ∙ llr-of-two-flipped C receiver (bit i) (get_or samples.first i nan) (get_or samples.second i nan)
