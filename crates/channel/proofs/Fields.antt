-- A float by the fields of its bits, and the float with its last digit set, which is on the same side of every half and
-- on none.
use Prim.Native.Nat.{ℕ, zero, suc, ◌+◌, ◌-◌, ◌*◌, ◌/◌, ◌%◌, ◌^◌, ◌≤◌, ◌<◌}
use mathlib.Core.Path.{◌≡◌, refl, sym, ap, ap₂, ◌∙◌, subst}
use mathlib.Core.Bool.{Bool, true, false, not, cond}
use native.Mathlib.Nat.{
  mul-one,
  mul-le-mul,
  mul-le-mul_right,
  mul-lt-mul_of_pos_right,
  le-add_right,
  le_of_mul-le-mul_right,
  le_of_suc-le-suc,
  div-lt_iff_lt-mul,
  lt_of_le_of_lt,
  lt_of_not-le,
  not-le_of_lt,
  mul-pos,
  zero-lt-suc,
  pow-succ',
}
use native.Mathlib.Omega.{arith}
use lib.Dec.{T, leb, eqb, leb→le, lit<}
use lib.Pow.{pow-add, pow_pos, pow_mono}
use lib.Bits.{bit_or, or_step, or_zero_r}
use lib.IntN.{pos}
use lib.Ieee.Casts.{to_signed_in}
use mir.Syntax.{w16}
use mir.Val.{to_z, of_z}
use mir.Facts.{to_z-of_z}
use lib.Ieee.{
  Float,
  nan,
  inf,
  fin,
  binary32,
  up,
  down,
  fits,
  is_nan,
  odd,
  nan_bits,
  of_fields,
  of_bits,
  to_bits,
  add,
  sub,
  to_signed,
  in_signed,
}
use lib.Ieee.Exact.{HasValue, odd_sign}
use lib.Ieee.Bits.{of_bits-to_bits, nan_bits_is}
use lib.Ieee.Fits.{down_pos}
use lib.Ieee.Nearest.{div_same}
use borrow.Author.Tests.{le-leb, lt-leb, leb-true, leb-false, eqb-true}
use Rattle.calls.specs.Bounds.{largest_ceiling}
use Rattle.calls.specs.Signs.{flipped}
use Rattle.channel.specs.Front.{nearest}
use Rattle.channel.specs.Private.{is_within, whole_of}
use Rattle.channel.specs.FrontLaws.{nearest-is}
use Rattle.channel.proofs.Additions.{rounding, whole-by-addition}

-- the size of the binary32 with this exponent field and these digits, in units of 2 ^ -149
unfoldable field_units : ℕ → ℕ → ℕ
field_units zero digits = digits
field_units (suc x) digits = (2 ^ 23 + digits) * 2 ^ x

-- ---- the last digit set, in units of the last digit: a half, 2 * g, is an even number of them

abbrev with_last_set : ℕ → ℕ
with_last_set n = n / 2 * 2 + 1

set_below : (n g : ℕ) → n < 2 * g → with_last_set n < 2 * g
set_below n g h = omega arith

set-above : (n g : ℕ) → 2 * g ≤ n → 2 * g < with_last_set n
set-above n g h = omega arith

-- h halves in units of 2 ^ -149, by units of the last digit
halves : (h j x k : ℕ) → suc (j + x) ≡ k → h * 2 ^ k ≡ 2 * (h * 2 ^ j) * 2 ^ x
halves h j x k e =
    ap (λ (i : ℕ). h * 2 ^ i) (sym e)
    ∙ rw (pow-succ' 2 (j + x), pow-add 2 j x) (regrouped (2 ^ j) (2 ^ x))
  where
    regrouped : (a b : ℕ) → h * (2 * (a * b)) ≡ 2 * (h * a) * b
    regrouped a b = omega arith

record SameSide (u v half : ℕ) : Type 0 where
  pub below : u < half → v < half
  pub above : half ≤ u → half < v

scaled-side : (n g p : ℕ) → 0 < p → SameSide (n * p) (with_last_set n * p) (2 * g * p)
scaled-side n g p h =
    record {
      below = λ l.
          mul-lt-mul_of_pos_right (set_below n g (lt_of_not-le (λ k. not-le_of_lt l (mul-le-mul_right p k)))) h;
      above = λ l. mul-lt-mul_of_pos_right (set-above n g (le_of_mul-le-mul_right l h)) h;
    }

same-side : (field digits h : ℕ) → field < 138
    → SameSide (field_units field digits) (field_units field (with_last_set digits)) (h * 2 ^ 148)
unfolding field_units
same-side zero digits h l =
    rw (halves h 147 0 148 refl, mul-one (2 * (h * 2 ^ 147)))
    (record { below = set_below digits (h * 2 ^ 147); above = set-above digits (h * 2 ^ 147) })
same-side (suc x) digits h l =
    let j = 147 - x in
    rw (halves h j x 148 (omega arith), sym last_set)
    (scaled-side (2 ^ 23 + digits) (h * 2 ^ j) (2 ^ x) (pow_pos x))
  where
    last_set : with_last_set (2 ^ 23 + digits) ≡ 2 ^ 23 + with_last_set digits
    last_set = omega arith

-- so that v is less than a half away from the whole number that is nearest to u; k stands for 2 ^ 148, which is too
-- long for `omega` as a numeral
in_halves : (u v t k : ℕ) → 0 < k → ((h : ℕ) → SameSide u v (h * k)) → 2 * (2 * k) * t ≤ 2 * u + 2 * k
    → 2 * u + 2 * k < 2 * (2 * k) * suc t → (2 * (t * (2 * k)) < 2 * v + 2 * k) × (2 * v < 2 * (t * (2 * k)) + 2 * k)
in_halves u v zero k p side lo hi =
    let b : v < 1 * k = (side 1).below (omega arith) in
    (omega arith, omega arith)
in_halves u v (suc t) k p side lo hi =
    let a : (2 * t + 1) * k < v = (side (2 * t + 1)).above (omega arith) in
    let b : v < (2 * t + 3) * k = (side (2 * t + 3)).below (omega arith) in
    (omega arith, omega arith)

-- ---- the fields

units-above : (field digits : ℕ) → 138 ≤ field → 2 ^ 160 ≤ field_units field digits
unfolding field_units
units-above zero digits l = absurd (no l)
  where
    no : 138 ≤ 0 → ⊥
    no h = omega arith
units-above (suc x) digits l =
    mul-le-mul {n₁ = 2 ^ 23} {m₁ = 2 ^ 137} {n₂ = 2 ^ 23 + digits} {m₂ = 2 ^ x} (le-add_right (2 ^ 23) digits)
    (pow_mono {i = 137} {j = x} (omega arith))

small-field : (field digits : ℕ) → field_units field digits ≤ 2047 * 2 ^ 149 → field < 138
small-field field digits h =
    lt_of_not-le (λ (g : 138 ≤ field). not-le_of_lt (lt_of_le_of_lt h (lit< tt)) (units-above field digits g))

not-all-ones : (field : ℕ) → field < 138 → eqb field 255 ≡ false
not-all-ones field h = by-test (eqb field 255) refl
  where
    no : field ≡ 255 → ⊥
    no e = omega arith

    by-test : (b : Bool) → eqb field 255 ≡ b → b ≡ false
    by-test false e = refl
    by-test true e = absurd (no (eqb-true field 255 e))

fields_value : (s : Bool) (field digits : ℕ) → eqb field 255 ≡ false
    → HasValue (of_fields binary32 s field digits) s (field_units field digits) (2 ^ 149)
unfolding of_fields field_units
fields_value s zero digits h = rw (mul-one digits) at (odd_sign 24 s digits 0 149)
fields_value s (suc x) digits h =
    let q = 2 ^ 23 + digits in
    subst
    (λ (b : Bool). HasValue (cond b (cond (eqb digits 0) (inf s) nan) (odd 24 s q x 149)) s (q * 2 ^ x) (2 ^ 149))
    (sym h) (odd_sign 24 s q x 149)

fields_within : (s : Bool) (field digits : ℕ) → T (is_within largest_ceiling (of_fields binary32 s field digits))
    → eqb field 255 ≡ false
unfolding of_fields is_within
fields_within s zero digits h = refl
fields_within s (suc x) digits h = by_field (eqb (suc x) 255) (eqb digits 0) h
  where
    by_field : (a b : Bool)
        → T (is_within largest_ceiling (cond a (cond b (inf s) nan) (odd 24 s (2 ^ 23 + digits) x 149))) → a ≡ false
    by_field false b k = refl
    by_field true true k = absurd k
    by_field true false k = absurd k

within-is : (C : ℕ) (x : Float) (s : Bool) (u d : ℕ) → T (is_within C x) → HasValue x s u d → u ≤ C * d
unfolding is_within
within-is C nan s u d h v = absurd h
within-is C (inf t) s u d h v = absurd h
within-is C (fin t m e) s u d h v =
    le_of_mul-le-mul_right {k = down e} (crossed (mul-le-mul_right d (leb→le (m * up e) (C * down e) h))) (down_pos e)
  where
    crossed : m * up e * d ≤ C * down e * d → u * down e ≤ C * d * down e
    crossed k = let g : m * up e * d ≡ u * down e = v.1 in omega arith

whole_is : (x : Float) (s : Bool) (u d : ℕ) → 0 < d → HasValue x s u d → whole_of x ≡ flipped s (pos (nearest u d))
unfolding whole_of
whole_is nan s u d p v = absurd v
whole_is (inf t) s u d p v = absurd v
whole_is (fin t m e) s u d p v =
    let h : m * up e * d ≡ u * down e = v.1 in
    ap₂ (λ (b : Bool) (n : ℕ). flipped b (pos n)) v.0
    (div_same (2 * (m * up e) + down e) (2 * down e) (2 * u + d) (2 * d) (mul-pos (zero-lt-suc 1) (down_pos e))
    (mul-pos (zero-lt-suc 1) p) (omega arith))

value-number : (x : Float) (s : Bool) (u d : ℕ) → HasValue x s u d → T (not (is_nan x))
unfolding is_nan
value-number nan s u d v = v
value-number (inf t) s u d v = tt
value-number (fin t m e) s u d v = tt

nearest-bound : (C n d : ℕ) → 0 < d → n ≤ C * d → nearest n d ≤ C
nearest-bound C n d h l =
    le_of_suc-le-suc ((div-lt_iff_lt-mul {k = 2 * d} (mul-pos (zero-lt-suc 1) h)).1 below)
  where
    below : 2 * n + d < suc C * (2 * d)
    below = omega arith

-- ---- from the bits

or-one : (n : ℕ) → bit_or n 1 ≡ with_last_set n
or-one n = or_step n 1 ∙ rw (or_zero_r (n / 2)) (omega arith)

-- the last digit is in none of the other fields
set-fields : (n : ℕ) → let m = with_last_set n in
    (leb 2147483648 m ≡ leb 2147483648 n) × (m % 2147483648 / 8388608 ≡ n % 2147483648 / 8388608)
    × (m % 8388608 ≡ with_last_set (n % 8388608))
set-fields n = (by-test (leb 2147483648 n) refl, omega arith, omega arith)
  where
    by-test : (b : Bool) → leb 2147483648 n ≡ b → leb 2147483648 (with_last_set n) ≡ b
    by-test true e = let h = leb-true 2147483648 n e in le-leb 2147483648 (with_last_set n) (omega (arith, h))
    by-test false e = let h = leb-false 2147483648 n e in lt-leb 2147483648 (with_last_set n) (omega (arith, h))

set_is : (n : ℕ) → of_bits binary32 (with_last_set n)
    ≡ of_fields binary32 (leb 2147483648 n) (n % 2147483648 / 8388608) (with_last_set (n % 8388608))
unfolding of_bits
set_is n = rw ((set-fields n).0, (set-fields n).1, (set-fields n).2)

bits_are : (n : ℕ) → of_bits binary32 n ≡ of_fields binary32 (leb 2147483648 n) (n % 2147483648 / 8388608) (n % 8388608)
unfolding of_bits
bits_are n = refl

module _ (x : Float) (k : T (fits binary32 x)) (h : T (is_within largest_ceiling x)) where
  abbrev bits : ℕ
  bits = to_bits binary32 x

  abbrev sign : Bool
  sign = leb 2147483648 bits

  abbrev field : ℕ
  field = bits % 2147483648 / 8388608

  abbrev digits : ℕ
  digits = bits % 8388608

  abbrev units : ℕ
  units = field_units field digits

  -- with the last digit set
  abbrev y : Float
  y = of_bits binary32 (bit_or bits 1)

  abbrev units_set : ℕ
  units_set = field_units field (with_last_set digits)

  x-is : of_fields binary32 sign field digits ≡ x
  x-is = sym (bits_are bits) ∙ of_bits-to_bits binary32 x k

  x-value : HasValue x sign units (2 ^ 149)
  x-value =
      subst (λ (z : Float). HasValue z sign units (2 ^ 149)) x-is
      (fields_value sign field digits (fields_within sign field digits (rw x-is h)))

  field-small : field < 138
  field-small = small-field field digits (within-is 2047 x sign units (2 ^ 149) h x-value)

  sides : (i : ℕ) → SameSide units units_set (i * 2 ^ 148)
  sides i = same-side field digits i field-small

  set_value : HasValue y sign units_set (2 ^ 149)
  set_value =
      rw (or-one bits, set_is bits)
      (fields_value sign field (with_last_set digits) (not-all-ones field field-small))

  pub set-number : T (not (nan_bits binary32 (bit_or bits 1)))
  set-number =
      rw (nan_bits_is binary32 (bit_or bits 1)) (value-number y sign units_set (2 ^ 149) set_value)

  whole-small : nearest units (2 ^ 149) ≤ 2047
  whole-small =
      nearest-bound 2047 units (2 ^ 149) (pow_pos 149)
      (within-is 2047 x sign units (2 ^ 149) h x-value)

  whole-read : let r = sub binary32 (add binary32 y rounding) rounding in
      T (in_signed binary32 15 r) × (to_signed 15 r ≡ whole_of x)
  whole-read =
      let n = nearest-is units (2 ^ 149) (pow_pos 149) in
      let t = nearest units (2 ^ 149) in
      let b = in_halves units units_set t (2 ^ 148) (pow_pos 148) sides n.0 n.1 in
      rw (whole_is x sign units (2 ^ 149) (pow_pos 149) x-value)
      (whole-by-addition y sign units_set (2 ^ 149) t (pow_pos 149) whole-small set_value b.0 b.1)

-- ---- what the code computes, with its constant as it stands there, by its bits

pub within_number : (x : Float) → T (is_within largest_ceiling x) → T (not (is_nan x))
unfolding is_within is_nan
within_number nan h = h
within_number (inf s) h = tt
within_number (fin s m e) h = tt

abbrev pub summed : Float → Float
summed x =
    let constant = of_bits binary32 1262485504 in
    sub binary32 (add binary32 (of_bits binary32 (bit_or (to_bits binary32 x) 1)) constant) constant

pub summed_fits : (x : Float) → T (is_within largest_ceiling x) → T (fits binary32 x)
    → T (in_signed binary32 15 (summed x))
unfolding of_bits
summed_fits x h k = (whole-read x k h).0

pub summed_whole : (x : Float) → T (is_within largest_ceiling x) → T (fits binary32 x)
    → to_z w16 (of_z w16 (to_signed 15 (summed x))) ≡ whole_of x
unfolding of_bits
summed_whole x h k = to_z-of_z {w = w16} (record { sfits = to_signed_in 15 _ }) ∙ (whole-read x k h).1

pub ruleset whole_rules = (within_number, set-number, summed_fits, summed_whole)
