-- A sum of two cut products of finite samples is no NaN.
use Prim.Native.Nat.{ℕ, ◌+◌, ◌-◌, ◌*◌}
use mathlib.Core.Path.{◌≡◌, refl, sym, ◌∙◌}
use mathlib.Core.Bool.{Bool, true, false, not, cond, beq, ◌&&◌}
use native.Mathlib.Nat.{mul-one}
use Rattle.std.specs.Float.{float_clamp}
use lib.Dec.{T, ltb}
use lib.Ieee.{Float, nan, inf, fin, binary32, of_bits, up, down, is_nan, neg, lt, round, sum, add, mul}
use lib.Ieee.Fits.{and_l, and_r}
use Rattle.channel.specs.Front.{is_finite, is_above_zero}
use Rattle.channel.proofs.Samples.{either_number, round_number, product-number}
use Rattle.antennas.specs.declared.Receiver.{Receiver}
use Rattle.antennas.specs.FrontTwo.{largest_product, cut_to, are_usable}
use Rattle.antennas.specs.CutLaws.{cut_size, cut-is}
use Rattle.antennas.specs.FrontTwoLaws.{product}

-- what the code computes, with its constant by its bits
pub branch_cut : (x : Float) → let largest = of_bits binary32 1166016512 in
    float_clamp x (neg largest) largest ≡ cut_to largest_product x
unfolding lt neg of_bits cut_size
branch_cut x = clamped x ∙ sym (cut-is x)
  where
    clamped : (x : Float) → float_clamp x (neg largest_product) largest_product ≡ cut_size x
    clamped nan = refl
    clamped (inf true) = refl
    clamped (inf false) = refl
    clamped (fin true m e) = rw (mul-one (m * up e)) refl
    clamped (fin false m e) = rw (mul-one (m * up e)) refl

either-finite : (b : Bool) (x y : Float) → T (is_finite x) → T (is_finite y) → T (is_finite (cond b x y))
either-finite true x y p q = p
either-finite false x y p q = q

size-finite : (x : Float) → T (not (is_nan x)) → T (is_finite (cut_size x))
unfolding cut_size is_finite is_nan
size-finite nan h = h
size-finite (inf s) h = tt
size-finite (fin s m e) h = either-finite (ltb (4096 * down e) (m * up e)) _ (fin s m e) tt tt

sum_number : (s : Bool) (a : ℕ) (t : Bool) (b c : ℕ) → T (not (is_nan (sum binary32 s a t b c)))
unfolding sum
sum_number s a t b c =
    let second = round binary32 t (b - a) c in
    let first = round binary32 (s && ltb b a) (a - b) c in
    either_number (beq s t) (round binary32 s (a + b) c) (cond (ltb a b) second first)
    (round_number binary32 s (a + b) c)
    (either_number (ltb a b) second first (round_number binary32 t (b - a) c)
    (round_number binary32 (s && ltb b a) (a - b) c))

add-number : (x y : Float) → T (is_finite x) → T (is_finite y) → T (not (is_nan (add binary32 x y)))
unfolding add is_finite
add-number nan y h k = absurd h
add-number (inf s) y h k = absurd h
add-number (fin s m e) nan h k = absurd k
add-number (fin s m e) (inf t) h k = absurd k
add-number (fin s m e) (fin t n d) h k = sum_number s (m * up e * down d) t (n * up d * down e) (down e * down d)

product-finite : (x factor : Float) → T (is_finite x) → T (is_above_zero factor) → T (is_finite (product x factor))
product-finite x factor h k = rw (cut-is (mul binary32 x factor)) (size-finite _ (product-number x factor h k))

pub sum_of_branches : (receiver : Receiver) (x y a b : Float) → T (are_usable receiver) → T (is_finite x)
    → T (is_finite y)
    → a ≡ cut_to largest_product (mul binary32 x receiver.first)
    → b ≡ cut_to largest_product (mul binary32 y receiver.second) → T (not (is_nan (add binary32 a b)))
sum_of_branches receiver x y a b usable h k p q =
    let f = receiver.first in
    let g = receiver.second in
    rw (p, q)
    (add-number (product x f) (product y g)
    (product-finite x f h (and_l (is_above_zero f) (is_above_zero g) usable))
    (product-finite y g k (and_r (is_above_zero f) (is_above_zero g) usable)))
