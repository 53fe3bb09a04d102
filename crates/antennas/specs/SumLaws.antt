-- Laws of a sum of two floats, for every two there are: it does not depend on their order, in any format; the whole
-- number of a 32-bit sum turns its sign with the signs of both, and stays where a zero is added.
use Rattle.std.specs.Prelude.{ℕ, zero, suc, ◌+◌, ◌-◌, ◌*◌, ◌%◌, ◌^◌, ◌≤◌, ◌<◌, ◌≡◌, Bool, not, cond, ◌&&◌, T, leb, ltb}
use Rattle.std.specs.Prelude.{eqb, ℤ, pos, negsuc, neg_ℤ, Float}
use Rattle.std.proofs.Math.Path.{refl, ap}
use Rattle.std.proofs.Common.{sym, ◌∙◌, subst, zero-mul, mul-pos, mul_comm, mul-one, mul_assoc, mul_right_comm}
use Rattle.std.proofs.Common.{add_comm, add-zero, not-suc-le-zero, le_of_suc-le-suc, lt_of_not-le, not-le_of_lt}
use Rattle.std.proofs.Common.{lt_of_mul-lt-mul_right, mul-lt-mul_of_pos_right, arith, leb→le, ltb→lt, pow_pos, pow-add}
use Rattle.std.proofs.Common.{ltb-true, ltb-false}
use Rattle.std.proofs.Math.Bool.{true, false}
use Rattle.std.proofs.Math.Nat.{sub-zero}
use Rattle.std.proofs.Math.Pow.{pow-lt}
use Rattle.std.specs.Float.{nan, inf, fin, Format}
use Rattle.std.specs.Float.Ieee.{binary32, up, down, size, odd, units, round, neg, sum, add, fits}
use Rattle.std.specs.Float.Ieee.Exact.{HasValue, round_exact}
use Rattle.std.specs.Float.Ieee.Fits.{down_pos, and_l, and_r}
use Rattle.std.specs.Float.Ieee.Scale.{round_same}
use Rattle.calls.specs.Signs.{flipped}
use Rattle.calls.specs.SignLaws.{flipped-zero}
use Rattle.channel.specs.Front.{rounded_size, quantised}
use Rattle.channel.specs.FrontLaws.{rounded-zero, quantised-odd, quantised-of, round-neg}

-- ---- the order of the two

-- a / c and b / c of unlike signs: the larger gives the sum its sign, and where they are equal it is +0 either way
module _ (f : Format) (a b c : ℕ) where
  unlike-exchanged : (s t x y : Bool) → ltb a b ≡ x → ltb b a ≡ y
      → cond x (round f t (b - a) c) (round f (s && y) (a - b) c)
      ≡ cond y (round f s (a - b) c) (round f (t && x) (b - a) c)
  unlike-exchanged s t true true p q = absurd (not-both (ltb-true a b p) (ltb-true b a q))
    where
      not-both : a < b → b < a → ⊥
      not-both h k = omega arith
  unlike-exchanged s true true false p q = refl
  unlike-exchanged s false true false p q = refl
  unlike-exchanged true t false true p q = refl
  unlike-exchanged false t false true p q = refl
  unlike-exchanged s t false false p q = equal s t (ltb-false a b p) (ltb-false b a q)
    where
      equal : (s t : Bool) → b ≤ a → a ≤ b → round f (s && false) (a - b) c ≡ round f (t && false) (b - a) c
      equal true true h k = let e : a - b ≡ b - a = omega arith in rw e
      equal true false h k = let e : a - b ≡ b - a = omega arith in rw e
      equal false true h k = let e : a - b ≡ b - a = omega arith in rw e
      equal false false h k = let e : a - b ≡ b - a = omega arith in rw e

  sum-exchanged : (s t : Bool) → sum f s a t b c ≡ sum f t b s a c
  unfolding sum
  sum-exchanged true true = ap (λ (n : ℕ). round f true n c) (add_comm a b)
  sum-exchanged false false = ap (λ (n : ℕ). round f false n c) (add_comm a b)
  sum-exchanged true false = unlike-exchanged true false (ltb a b) (ltb b a) refl refl
  sum-exchanged false true = unlike-exchanged false true (ltb a b) (ltb b a) refl refl

pub add-exchanged : (f : Format) (x y : Float) → add f x y ≡ add f y x
unfolding add
add-exchanged f nan nan = refl
add-exchanged f nan (inf t) = refl
add-exchanged f nan (fin t n d) = refl
add-exchanged f (inf s) nan = refl
add-exchanged f (inf true) (inf true) = refl
add-exchanged f (inf true) (inf false) = refl
add-exchanged f (inf false) (inf true) = refl
add-exchanged f (inf false) (inf false) = refl
add-exchanged f (inf s) (fin t n d) = refl
add-exchanged f (fin s m e) nan = refl
add-exchanged f (fin s m e) (inf t) = refl
add-exchanged f (fin s m e) (fin t n d) =
    sum-exchanged f (m * up e * down d) (n * up d * down e) (down e * down d) s t
    ∙ ap (sum f t (n * up d * down e) s (m * up e * down d)) (mul_comm (down e) (down d))

-- ---- a zero, of either sign, has the whole number 0

round-zero-is : (s : Bool) → round binary32 s 0 1 ≡ fin s 0 (pos 0)
unfolding round size units odd
round-zero-is s = refl

pub round-zero : (s : Bool) (d : ℕ) → 0 < d → round binary32 s 0 d ≡ fin s 0 (pos 0)
round-zero s d h = round_same binary32 s 0 d 0 1 h (pow_pos 0) (sym (zero-mul d)) ∙ round-zero-is s

quantised-zero : (C : ℕ) (s : Bool) (d : ℕ) → 0 < d → quantised C (round binary32 s 0 d) ≡ pos 0
unfolding quantised
quantised-zero C s d h =
    ap (quantised C) (round-zero s d h) ∙ ap (λ (n : ℕ). flipped s (pos n)) (rounded-zero C) ∙ flipped-zero s

-- ---- both signs turned

module _ (C a b c : ℕ) (h : 0 < c) where
  turned : (s : Bool) (n : ℕ) → quantised C (round binary32 (not s) n c) ≡ neg_ℤ (quantised C (round binary32 s n c))
  turned s n = ap (quantised C) (round-neg binary32 s n c) ∙ quantised-odd C (round binary32 s n c)

  cancelled : b ≤ a → a ≤ b
      → quantised C (round binary32 false (a - b) c) ≡ neg_ℤ (quantised C (round binary32 false (a - b) c))
  cancelled p q =
      let none : a - b ≡ 0 = omega arith in
      let is : quantised C (round binary32 false (a - b) c) ≡ pos 0 = rw none (quantised-zero C false c h) in
      rw is

  -- s is the sign of the second
  unlike-odd : (s x y : Bool) → ltb a b ≡ x → ltb b a ≡ y
      → quantised C (cond x (round binary32 s (b - a) c) (round binary32 (not s && y) (a - b) c))
      ≡ neg_ℤ (quantised C (cond x (round binary32 (not s) (b - a) c) (round binary32 (s && y) (a - b) c)))
  unlike-odd true true y p q = turned false (b - a)
  unlike-odd false true y p q = turned true (b - a)
  unlike-odd true false true p q = turned true (a - b)
  unlike-odd false false true p q = turned false (a - b)
  unlike-odd true false false p q = cancelled (ltb-false a b p) (ltb-false b a q)
  unlike-odd false false false p q = cancelled (ltb-false a b p) (ltb-false b a q)

  sum-odd : (s t : Bool)
      → quantised C (sum binary32 (not s) a (not t) b c) ≡ neg_ℤ (quantised C (sum binary32 s a t b c))
  unfolding sum
  sum-odd true true = turned true (a + b)
  sum-odd false false = turned false (a + b)
  sum-odd true false = unlike-odd true (ltb a b) (ltb b a) refl refl
  sum-odd false true = unlike-odd false (ltb a b) (ltb b a) refl refl

-- (the sum itself is not odd: x + -x is +0 whatever the sign of x)
pub add-odd : (C : ℕ) (x y : Float)
    → quantised C (add binary32 (neg x) (neg y)) ≡ neg_ℤ (quantised C (add binary32 x y))
unfolding add neg quantised
add-odd C nan y = refl
add-odd C (inf s) nan = refl
add-odd C (inf true) (inf true) = quantised-odd C (inf true)
add-odd C (inf true) (inf false) = refl
add-odd C (inf false) (inf true) = refl
add-odd C (inf false) (inf false) = quantised-odd C (inf false)
add-odd C (inf s) (fin t n d) = quantised-odd C (inf s)
add-odd C (fin s m e) nan = refl
add-odd C (fin s m e) (inf t) = quantised-odd C (inf t)
add-odd C (fin s m e) (fin t n d) =
    sum-odd C (m * up e * down d) (n * up d * down e) (down e * down d) (mul-pos (down_pos e) (down_pos d)) s t

-- ---- a zero added

-- a float of the format is m * 2 ^ j times its smallest
units_of : (m : ℕ) (e : ℤ) → down e ≤ 2 ^ 149 → (j : ℕ) × (m * up e * 2 ^ 149 ≡ m * 2 ^ j * down e)
units_of m (pos k) h = (
  k + 149,
  mul_assoc m (2 ^ k) (2 ^ 149) ∙ ap (λ (n : ℕ). m * n) (sym (pow-add 2 k 149)) ∙ sym (mul-one (m * 2 ^ (k + 149))),
)
units_of m (negsuc k) h =
    let few : suc k ≤ 149 = le_of_suc-le-suc (lt_of_not-le (λ l. not-le_of_lt (pow-lt {i = 149} {j = suc k} l) h)) in
    let exponents : 149 - suc k + suc k ≡ 149 = omega arith in (
      149 - suc k,
      ap (λ (n : ℕ). n * 2 ^ 149) (mul-one m)
          ∙ ap (λ (n : ℕ). m * 2 ^ n) (sym exponents)
          ∙ ap (λ (n : ℕ). m * n) (pow-add 2 (149 - suc k) (suc k))
          ∙ sym (mul_assoc m (2 ^ (149 - suc k)) (2 ^ suc k)),
    )

-- so to round its value changes nothing
own_value : (t s : Bool) (m : ℕ) (e : ℤ) → T (fits binary32 (fin t m e))
    → HasValue (round binary32 s (m * up e) (down e)) s (m * up e) (down e)
unfolding fits
own_value t s zero e h =
    round_exact binary32 s (0 * up e) (down e) 0 0 (down_pos e) (pow_pos 24) (pow_pos 277)
    (ap (λ (n : ℕ). n * 2 ^ 149) (zero-mul (up e)) ∙ zero-mul (2 ^ 149) ∙ sym (zero-mul (down e)))
own_value t s (suc m) e h =
    let digits = eqb (suc m % 2) 1 && ltb (suc m) (2 ^ 24) in
    let least = leb (down e) (2 ^ 149) in
    let most = ltb (suc m * up e) (2 ^ 128 * down e) in
    let both = and_l (digits && least) most h in
    let few = ltb→lt (suc m) (2 ^ 24) (and_r (eqb (suc m % 2) 1) (ltb (suc m) (2 ^ 24)) (and_l digits least both)) in
    let high = ltb→lt (suc m * up e) (2 ^ 128 * down e) (and_r (digits && least) most h) in
    let u = units_of (suc m) e (leb→le (down e) (2 ^ 149) (and_r digits least both)) in
    round_exact binary32 s (suc m * up e) (down e) (suc m) u.0 (down_pos e) few (below u.0 u.1 high) u.1
  where
    below : (j : ℕ) → suc m * up e * 2 ^ 149 ≡ suc m * 2 ^ j * down e → suc m * up e < 2 ^ 128 * down e
        → suc m * 2 ^ j < 2 ^ 277
    below j u high =
        lt_of_mul-lt-mul_right (down e)
        (subst (λ (n : ℕ). n < 2 ^ 277 * down e) u
        (subst (λ (n : ℕ). suc m * up e * 2 ^ 149 < n) (mul_right_comm (2 ^ 128) (down e) (2 ^ 149))
        (mul-lt-mul_of_pos_right high (pow_pos 149))))

-- a / c with a zero after it is a / c, rounded; where a is zero too, the sign makes no difference
module _ (C a c : ℕ) (h : 0 < c)
    (own : (s : Bool) → quantised C (round binary32 s a c) ≡ flipped s (pos (rounded_size C a c))) where
  any_sign : (t y : Bool) → ltb 0 a ≡ y
      → quantised C (round binary32 (t && y) a c) ≡ flipped t (pos (rounded_size C a c))
  any_sign false y q = own false
  any_sign true true q = own true
  any_sign true false q =
      let none : a ≡ 0 = zero_of (ltb-false 0 a q) in
      ap (λ (n : ℕ). quantised C (round binary32 false n c)) none
      ∙ quantised-zero C false c h
      ∙ sym (quantised-zero C true c h)
      ∙ ap (λ (n : ℕ). quantised C (round binary32 true n c)) (sym none)
      ∙ own true
    where
      zero_of : a ≤ 0 → a ≡ 0
      zero_of l = omega arith

  unlike-zero : (t s x y : Bool) → ltb a 0 ≡ x → ltb 0 a ≡ y
      → quantised C (cond x (round binary32 s (0 - a) c) (round binary32 (t && y) (a - 0) c))
      ≡ flipped t (pos (rounded_size C a c))
  unlike-zero t s true y p q = absurd (not-suc-le-zero (ltb-true a 0 p))
  unlike-zero t s false y p q =
      ap (λ (n : ℕ). quantised C (round binary32 (t && y) n c)) (sub-zero a) ∙ any_sign t y q

  sum-zero : (t s : Bool) → quantised C (sum binary32 t a s 0 c) ≡ flipped t (pos (rounded_size C a c))
  unfolding sum
  sum-zero true true = ap (λ (n : ℕ). quantised C (round binary32 true n c)) (add-zero a) ∙ own true
  sum-zero false false = ap (λ (n : ℕ). quantised C (round binary32 false n c)) (add-zero a) ∙ own false
  sum-zero true false = unlike-zero true false (ltb a 0) (ltb 0 a) refl refl
  sum-zero false true = unlike-zero false true (ltb a 0) (ltb 0 a) refl refl

pub add-with-zero : (C : ℕ) (x : Float) (s : Bool) → T (fits binary32 x)
    → quantised C (add binary32 x (fin s 0 (pos 0))) ≡ quantised C x
unfolding add quantised
add-with-zero C nan s h = refl
add-with-zero C (inf t) s h = refl
add-with-zero C (fin t m e) s h =
    ap (λ (n : ℕ). quantised C (sum binary32 t n s (0 * 1 * down e) (down e * 1))) (mul-one (m * up e))
    ∙ ap (λ (n : ℕ). quantised C (sum binary32 t (m * up e) s n (down e * 1))) (zero-mul (down e))
    ∙ ap (λ (n : ℕ). quantised C (sum binary32 t (m * up e) s 0 n)) (mul-one (down e))
    ∙ sum-zero C (m * up e) (down e) (down_pos e)
    (λ u.
    quantised-of C (round binary32 u (m * up e) (down e)) u (m * up e) (down e) (down_pos e) (own_value t u m e h)) t s
