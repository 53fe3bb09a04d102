-- The nearest whole number by a float addition. From 2 ^ 23 to 2 ^ 24 the values of binary32 are the whole numbers, so
-- that the sum of 12,582,912 (3 * 2 ^ 22) and a small value is rounded to a whole number; taking 12,582,912 off again
-- is exact.
use Prim.Native.Nat.{
  ℕ,
  zero,
  suc,
  ◌+◌,
  ◌-◌,
  ◌*◌,
  ◌/◌,
  ◌%◌,
  ◌^◌,
  ◌≤◌,
  ◌<◌,
  compare,
  Ordering,
}
use mathlib.Core.Path.{◌≡◌, refl, sym, ap, ◌∙◌, subst}
use mathlib.Core.Bool.{Bool, true, false, not, ◌&&◌, cond, true≢false, false≢true}
use native.Mathlib.Nat.{
  le_of_eq,
  le_antisymm,
  le_of_suc-le-suc,
  le_of_suc-le,
  lt_of_lt_of_le,
  lt_of_le_of_lt,
  lt_of_not-le,
  not-le_of_lt,
  zero-lt-suc,
  mul-one,
  mul_assoc,
  mul_right_comm,
  mul-le-mul_right,
  mul-lt-mul_of_pos_right,
  mul-pos,
  mod-lt,
  div-add-mod',
  le-div_iff_mul-le,
  div-lt_iff_lt-mul,
  eq_of_mul-eq-mul_right,
}
use native.Mathlib.Omega.{arith}
use lib.Dec.{T, is_le, compare_is_eq, ltb, leb→le, nleb→lt, eqb→eq, le→leb, lt→ltb, lit<}
use lib.Pow.{pow_pos, pow_mono}
use lib.IntN.{pos, negsuc}
use lib.Ieee.{
  Float,
  nan,
  inf,
  fin,
  binary32,
  up,
  down,
  nearest,
  size,
  round,
  sum,
  add,
  sub,
  neg,
  of_int,
  to_signed,
  in_signed,
  in_float,
}
use lib.Ieee.Digits.{size-lt, size-le}
use lib.Ieee.Exact.{HasValue}
use lib.Ieee.Fits.{down_pos}
use lib.Ieee.Nearest.{closest, closest_same}
use lib.Ieee.Order.{drop}
use lib.Ieee.Scale.{round_same, round_val, grid}
use lib.Ieee.Back.{positive_back, negative_back}
use borrow.Author.Tests.{lt-ltb, le-ltb}
use Rattle.calls.specs.Signs.{flipped}

-- ---- n / d is rounded to the whole number that is less than a half away

-- whole numbers whose multiples of d are less than d apart
same_whole : (a b d : ℕ) → a * d < b * d + d → b * d < a * d + d → a ≡ b
same_whole a b d h k = le_antisymm (no_more a b h) (no_more b a k)
  where
    no_more : (x y : ℕ) → x * d < y * d + d → x ≤ y
    no_more x y l = le_of_suc-le-suc (lt_of_not-le (λ (g : suc y ≤ x). apart (mul-le-mul_right d g)))
      where
        apart : suc y * d ≤ x * d → ⊥
        apart g = omega arith

closest-is : (n d w : ℕ) → 0 < d → 2 * (w * d) < 2 * n + d → 2 * n < 2 * (w * d) + d → closest n d ≡ w
closest-is n d w p lo hi =
    by-rest (compare (n % d * 2) d) (leb→le (n % d * 2) d) (nleb→lt (n % d * 2) d) (eqb→eq (n % d * 2) d)
  where
    whole : n / d * d + n % d ≡ n
    whole = div-add-mod' n d

    rest : n % d < d
    rest = mod-lt n p

    down_to : n % d * 2 ≤ d → n / d ≡ w
    down_to h = same_whole (n / d) w d (omega (arith, whole, rest)) (omega (arith, whole, rest))

    up_to : d ≤ n % d * 2 → suc (n / d) ≡ w
    up_to h = same_whole (suc (n / d)) w d (omega (arith, whole, rest)) (omega (arith, whole, rest))

    neither : n / d ≡ w → suc (n / d) ≡ w → n / d + n / d % 2 ≡ w
    neither a b = omega arith

    by-rest : (o : Ordering) → (T (is_le o) → n % d * 2 ≤ d) → (T (not (is_le o)) → d < n % d * 2)
        → (T (compare_is_eq o) → n % d * 2 ≡ d) → nearest (n / d) o ≡ w
    by-rest Ordering.lt h k e = down_to (h tt)
    by-rest Ordering.eq h k e = neither (down_to (h tt)) (up_to (le_of_eq (sym (e tt))))
    by-rest Ordering.gt h k e = up_to (le_of_suc-le (k tt))

-- ---- in binary32, from 2 ^ 23 up to 2 ^ 24
module _ (n d : ℕ) (p : 0 < d) (lo : 2 ^ 23 * d ≤ n) (hi : n < 2 ^ 24 * d) where
  more-digits : 172 < size (n * 2 ^ 149 / d)
  more-digits =
      lt_of_not-le (λ (g : size (n * 2 ^ 149 / d) ≤ 172).
      not-le_of_lt (lt_of_lt_of_le (size-lt (n * 2 ^ 149 / d)) (pow_mono g))
      ((le-div_iff_mul-le p).1 (rw (mul_right_comm (2 ^ 23) d (2 ^ 149)) at (mul-le-mul_right (2 ^ 149) lo))))

  few-digits : size (n * 2 ^ 149 / d) ≤ 173
  few-digits =
      size-le (n * 2 ^ 149 / d) 173
      ((div-lt_iff_lt-mul p).1
      (rw (mul_right_comm (2 ^ 24) d (2 ^ 149)) at (mul-lt-mul_of_pos_right hi (pow_pos 149))))

  -- the digits of the fraction are dropped, no more and no less
  dropped : drop 24 (n * 2 ^ 149) d ≡ 149
  dropped = omega (arith, more-digits, few-digits)

  grid-is : grid binary32 n d ≡ closest n d * 2 ^ 149
  grid-is =
      ap (λ (k : ℕ). closest (n * 2 ^ 149) (d * 2 ^ k) * 2 ^ k) dropped
      ∙ ap (λ (k : ℕ). k * 2 ^ 149)
      (closest_same (n * 2 ^ 149) (d * 2 ^ 149) n d (mul-pos p (pow_pos 149)) p (scaled (2 ^ 149)))
    where
      scaled : (k : ℕ) → n * k * d ≡ n * (d * k)
      scaled k = mul_right_comm n k d ∙ mul_assoc n d k

in-units : (x : Float) (w l : ℕ) → 0 < l → HasValue x false (w * l) l → HasValue x false w 1
in-units nan w l p v = v
in-units (inf s) w l p v = v
in-units (fin s m e) w l p v = (
  v.0,
  mul-one (m * up e)
      ∙ eq_of_mul-eq-mul_right l p (m * up e) (w * down e) (v.1 ∙ mul_right_comm w l (down e)),
)

round-to-whole : (n d w : ℕ) → 0 < d → 2 ^ 23 * d ≤ n → n < 2 ^ 24 * d → 2 * (w * d) < 2 * n + d
    → 2 * n < 2 * (w * d) + d → HasValue (round binary32 false n d) false w 1
round-to-whole n d w p lo hi above below =
    in-units (round binary32 false n d) w (2 ^ 149) (pow_pos 149)
    (subst (λ (k : ℕ). HasValue (round binary32 false n d) false k (2 ^ 149)) is
    (round_val binary32 n d
    (subst (λ (k : ℕ). k < 2 ^ 277) (sym is) (lt_of_le_of_lt (mul-le-mul_right (2 ^ 149) small) (lit< tt)))))
  where
    is : grid binary32 n d ≡ w * 2 ^ 149
    is = grid-is n d p lo hi ∙ ap (λ (k : ℕ). k * 2 ^ 149) (closest-is n d w p above below)

    less : w * d < suc (2 ^ 24) * d
    less = omega arith

    small : w ≤ 2 ^ 24
    small = le_of_suc-le-suc (lt_of_not-le (λ (g : suc (2 ^ 24) ≤ w). not-le_of_lt less (mul-le-mul_right d g)))

-- ---- the addition

abbrev pub rounding : Float
rounding = fin false 3 (pos 22)

sum-above : (a b c : ℕ) → sum binary32 false a false b c ≡ round binary32 false (a + b) c
unfolding sum
sum-above a b c = refl

sum_below : (a b c : ℕ) → a < b → sum binary32 true a false b c ≡ round binary32 false (b - a) c
unfolding sum
sum_below a b c h =
    ap (λ (t : Bool). cond t (round binary32 false (b - a) c) (round binary32 (true && ltb b a) (a - b) c))
    (lt-ltb a b h)

-- a / q and 12,582,912 - u / d by one denominator
cross-down : (a q u d r n : ℕ) → a * d ≡ u * q → r + a ≡ 12582912 * q → n + u ≡ 12582912 * d → r * d ≡ n * q
cross-down a q u d r n e f g =
    let h : (r + a) * d ≡ 12582912 * q * d = ap (λ (k : ℕ). k * d) f in
    let k : (n + u) * q ≡ 12582912 * d * q = ap (λ (k : ℕ). k * q) g in
    omega arith

cross-less : (a q u d : ℕ) → 0 < q → a * d ≡ u * q → u < 12582912 * d → a < 12582912 * q
cross-less a q u d p e h =
    lt_of_not-le (λ (g : 12582912 * q ≤ a). apart (mul-le-mul_right d g) (mul-lt-mul_of_pos_right h p))
  where
    apart : 12582912 * q * d ≤ a * d → u * q < 12582912 * d * q → ⊥
    apart g k = omega arith

added-above : (x : Float) (u d : ℕ) → 0 < d → HasValue x false u d
    → add binary32 x rounding ≡ round binary32 false (12582912 * d + u) d
unfolding add
added-above nan u d p v = absurd v
added-above (inf s) u d p v = absurd v
added-above (fin true m e) u d p v = absurd (true≢false v.0)
added-above (fin false m e) u d p v =
    let q = down e in
    let a = m * up e in
    let h : a * d ≡ u * q = v.1 in
    sum-above (a * 1) (12582912 * q) (q * 1)
    ∙ round_same binary32 false (a * 1 + 12582912 * q) (q * 1) (12582912 * d + u) d (rw (mul-one q) (down_pos e)) p
    (omega arith)

added-below : (x : Float) (u d n : ℕ) → 0 < d → HasValue x true u d → u < 12582912 * d → n + u ≡ 12582912 * d
    → add binary32 x rounding ≡ round binary32 false n d
unfolding add
added-below nan u d n p v h g = absurd v
added-below (inf s) u d n p v h g = absurd v
added-below (fin false m e) u d n p v h g = absurd (false≢true v.0)
added-below (fin true m e) u d n p v h g =
    let q = down e in
    let a = m * up e in
    let l : a < 12582912 * q = cross-less a q u d (down_pos e) v.1 h in
    let f : 12582912 * q - a + a ≡ 12582912 * q = omega arith in
    rw (mul-one a, mul-one q)
    (sum_below a (12582912 * q) q l
    ∙ round_same binary32 false (12582912 * q - a) q n d (down_pos e) p
    (cross-down a q u d (12582912 * q - a) n v.1 f g))

-- ---- and the subtraction

less-above : (a b c : ℕ) → b ≤ a → sum binary32 false a true b c ≡ round binary32 false (a - b) c
unfolding sum
less-above a b c h =
    ap (λ (t : Bool). cond t (round binary32 true (b - a) c) (round binary32 false (a - b) c)) (le-ltb a b h)

less-below : (a b c : ℕ) → a < b → sum binary32 false a true b c ≡ round binary32 true (b - a) c
unfolding sum
less-below a b c h =
    ap (λ (t : Bool). cond t (round binary32 true (b - a) c) (round binary32 false (a - b) c)) (lt-ltb a b h)

taken-above : (y : Float) (t : ℕ) → HasValue y false (12582912 + t) 1
    → sub binary32 y rounding ≡ of_int binary32 (pos t)
unfolding sub add neg of_int
taken-above nan t v = absurd v
taken-above (inf s) t v = absurd v
taken-above (fin true m e) t v = absurd (true≢false v.0)
taken-above (fin false m e) t v =
    let q = down e in
    let a = m * up e * 1 in
    let h : a ≡ (12582912 + t) * q = v.1 in
    let r : a - 12582912 * q ≡ t * q = omega arith in
    less-above a (12582912 * q) (q * 1) (omega arith)
    ∙ round_same binary32 false (a - 12582912 * q) (q * 1) t 1 (rw (mul-one q) (down_pos e)) (zero-lt-suc 0)
    (omega arith)

taken-below : (y : Float) (w t : ℕ) → HasValue y false w 1 → w + suc t ≡ 12582912
    → sub binary32 y rounding ≡ of_int binary32 (negsuc t)
unfolding sub add neg of_int
taken-below nan w t v g = absurd v
taken-below (inf s) w t v g = absurd v
taken-below (fin true m e) w t v g = absurd (true≢false v.0)
taken-below (fin false m e) w t v g =
    let q = down e in
    let a = m * up e * 1 in
    let h : a ≡ w * q = v.1 in
    let k : (w + suc t) * q ≡ 12582912 * q = ap (λ (n : ℕ). n * q) g in
    let r : 12582912 * q - a ≡ suc t * q = omega arith in
    less-below a (12582912 * q) (q * 1) (omega (arith, down_pos e))
    ∙ round_same binary32 true (12582912 * q - a) (q * 1) (suc t) 1 (rw (mul-one q) (down_pos e)) (zero-lt-suc 0)
    (omega arith)

-- ---- both, for a value u / d that is less than a half away from the whole number t
whole_below : (x : Float) (u d t w : ℕ) → 0 < d → t ≤ 2047 → HasValue x true u d → 2 * (t * d) < 2 * u + d
    → 2 * u < 2 * (t * d) + d → w + t ≡ 12582912 → HasValue (add binary32 x rounding) false w 1
whole_below x u d t w p h v lo hi e =
    let n = 12582912 * d - u in
    let m : t * d ≤ 2047 * d = mul-le-mul_right d h in
    let k : (w + t) * d ≡ 12582912 * d = ap (λ (i : ℕ). i * d) e in
    subst (λ (y : Float). HasValue y false w 1) (sym (added-below x u d n p v (omega arith) (omega arith)))
    (round-to-whole n d w p (omega arith) (omega arith) (omega arith) (omega arith))

added-and-taken : (x : Float) (s : Bool) (u d t : ℕ) → 0 < d → t ≤ 2047 → HasValue x s u d → 2 * (t * d) < 2 * u + d
    → 2 * u < 2 * (t * d) + d → sub binary32 (add binary32 x rounding) rounding ≡ of_int binary32 (flipped s (pos t))
added-and-taken x false u d t p h v lo hi =
    let n = 12582912 * d + u in
    let m : t * d ≤ 2047 * d = mul-le-mul_right d h in
    taken-above (add binary32 x rounding) t
    (subst (λ (y : Float). HasValue y false (12582912 + t) 1) (sym (added-above x u d p v))
    (round-to-whole n d (12582912 + t) p (omega arith) (omega arith) (omega arith) (omega arith)))
added-and-taken x true u d zero p h v lo hi =
    taken-above (add binary32 x rounding) 0 (whole_below x u d 0 12582912 p h v lo hi refl)
added-and-taken x true u d (suc t) p h v lo hi =
    let w = 12582912 - suc t in
    let e : w + suc t ≡ 12582912 = omega arith in
    taken-below (add binary32 x rounding) w t (whole_below x u d (suc t) w p h v lo hi e) e

whole-cast : (s : Bool) (t : ℕ) → t ≤ 2047 → let x = of_int binary32 (flipped s (pos t)) in
    T (in_signed binary32 15 x) × (to_signed 15 x ≡ flipped s (pos t))
unfolding in_float
whole-cast false t h = positive_back binary32 15 t (le→leb t _ (omega arith)) (omega arith)
whole-cast true zero h = positive_back binary32 15 0 tt (lit< tt)
whole-cast true (suc t) h = negative_back binary32 15 t (lt→ltb t _ (omega arith)) (omega arith)

pub whole-by-addition : (x : Float) (s : Bool) (u d t : ℕ) → 0 < d → t ≤ 2047 → HasValue x s u d
    → 2 * (t * d) < 2 * u + d → 2 * u < 2 * (t * d) + d → let r = sub binary32 (add binary32 x rounding) rounding in
    T (in_signed binary32 15 r) × (to_signed 15 r ≡ flipped s (pos t))
whole-by-addition x s u d t p h v lo hi = rw (added-and-taken x s u d t p h v lo hi) (whole-cast s t h)
