-- What the code's comparisons decide: of a float with zero and with the infinities, and of two differences.
use Prim.Native.Nat.{ℕ, zero, suc, ◌+◌, ◌-◌, ◌*◌}
use mathlib.Core.Path.{◌≡◌, refl, sym, ap, ◌∙◌}
use mathlib.Core.Bool.{Bool, true, false, not, ◌&&◌, cond}
use Rattle.std.proofs.Math.Bool.{and-true}
use native.Mathlib.Nat.{le_refl, mul-pos, sub_self, zero-lt-suc}
use native.Mathlib.Omega.{arith}
use lib.Dec.{ltb, eqb, eqb-suc-zero}
use lib.IntN.{ℤ, pos, neg_ℤ}
use lib.Ieee.{Float, nan, inf, fin, binary32, of_bits, up, down, size, odd, units, round, sum, add, sub, neg, lt, eq}
use lib.Ieee.Fits.{up_pos, down_pos}
use lib.Ieee.Scale.{round_same}
use borrow.Author.Tests.{lt-ltb, le-ltb}
use Rattle.channel.specs.Front.{is_finite, is_above_zero}
use Rattle.calls.proofs.Signed.{minus-held}
use Rattle.channel.specs.Private.{by_sign}

-- ---- a float less itself

zero-rounded : round binary32 false 0 1 ≡ fin false 0 (pos 0)
unfolding round size units odd
zero-rounded = refl

sum-opposite : (s : Bool) (a c : ℕ) → ltb a a ≡ false → sum binary32 s a (not s) a c ≡ round binary32 false (a - a) c
unfolding sum
sum-opposite true a c h =
    ap (λ (t : Bool). cond t (round binary32 false (a - a) c) (round binary32 (true && t) (a - a) c)) h
sum-opposite false a c h =
    ap (λ (t : Bool). cond t (round binary32 true (a - a) c) (round binary32 (false && t) (a - a) c)) h

less-itself : (x : Float) → sub binary32 x x ≡ cond (is_finite x) (fin false 0 (pos 0)) nan
unfolding is_finite sub add neg
less-itself nan = refl
less-itself (inf true) = refl
less-itself (inf false) = refl
less-itself (fin s m e) =
    let a = m * up e * down e in
    let c = down e * down e in
    sum-opposite s a c (le-ltb a a (le_refl a))
    ∙ round_same binary32 false (a - a) c 0 1 (mul-pos (down_pos e) (down_pos e)) (zero-lt-suc 0)
    (rw (sub_self a) (omega arith))
    ∙ zero-rounded

-- the differences of two floats are equal exactly where both floats are finite
pub both_finite_is : (x y : Float) → is_finite x && is_finite y ≡ eq (sub binary32 x x) (sub binary32 y y)
unfolding eq
both_finite_is x y = rw (less-itself x, less-itself y) (by_tests (is_finite x) (is_finite y))
  where
    by_tests : (a b : Bool) → a && b ≡ eq (cond a (fin false 0 (pos 0)) nan) (cond b (fin false 0 (pos 0)) nan)
    by_tests true true = refl
    by_tests true false = refl
    by_tests false true = refl
    by_tests false false = refl

-- ---- zero and a finite float, either way round; zero and infinity as the code's constants are, by their bits

above : (s : Bool) (m : ℕ) (e : ℤ) → lt (fin false 0 (pos 0)) (fin s m e) ≡ (not s && not (eqb m 0))
unfolding lt
above true m e = refl
above false zero e = le-ltb (0 * 1 * down e) (zero * up e * 1) (omega arith)
above false (suc m) e =
    lt-ltb (0 * 1 * down e) (suc m * up e * 1) (omega (arith, mul-pos (zero-lt-suc m) (up_pos e)))
    ∙ sym (ap not (eqb-suc-zero m))

under : (s : Bool) (m : ℕ) (e : ℤ) → lt (fin s m e) (fin false 0 (pos 0)) ≡ (s && not (eqb m 0))
unfolding lt
under false m e = le-ltb (m * up e * 1) (0 * 1 * down e) (omega arith)
under true zero e = le-ltb 0 (zero * up e * 1 + 0 * 1 * down e) (omega arith)
under true (suc m) e =
    lt-ltb 0 (suc m * up e * 1 + 0 * 1 * down e) (omega (arith, mul-pos (zero-lt-suc m) (up_pos e)))
    ∙ sym (ap not (eqb-suc-zero m))

pub above_zero_is : (x : Float) → is_above_zero x ≡ lt (of_bits binary32 0) x && lt x (of_bits binary32 2139095040)
unfolding lt is_above_zero of_bits
above_zero_is nan = refl
above_zero_is (inf true) = refl
above_zero_is (inf false) = refl
above_zero_is (fin s m e) = sym (ap (λ (b : Bool). b && true) (above s m e) ∙ and-true (not s && not (eqb m 0)))

pub by-sign-is : (x : Float) (z : ℤ)
    → by_sign x z ≡ cond (lt x (of_bits binary32 0)) (neg_ℤ z) (cond (lt (of_bits binary32 0) x) z (pos 0))
unfolding by_sign lt of_bits
by-sign-is nan z = refl
by-sign-is (inf true) z = refl
by-sign-is (inf false) z = refl
by-sign-is (fin true zero e) z = simp (under true zero e)
by-sign-is (fin false zero e) z = simp (under false zero e, above false zero e)
by-sign-is (fin true (suc m) e) z = simp (under true (suc m) e, eqb-suc-zero)
by-sign-is (fin false (suc m) e) z = simp (under false (suc m) e, above false (suc m) e, eqb-suc-zero)

pub ruleset sign_rules = (by-sign-is, minus-held)
