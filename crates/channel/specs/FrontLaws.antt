-- Laws of the front's definitions, each for every float and every channel: what a front that refuses nothing has
-- tested; `nearest` is the nearest whole number; an LLR is no larger than the ceiling and odd in its sample; samples
-- flipped at some places give the same number and the LLRs flipped at those places.
use Rattle.std.specs.Prelude.{ℕ, zero, suc, ◌+◌, ◌*◌, ◌/◌, ◌^◌, ◌≤◌, ◌<◌, ◌≡◌, refl, Bool, true, false, not, cond, List}
use Rattle.std.specs.Prelude.{[], ◌∷◌, leb, ltb, eqb, ℤ, pos, negsuc, neg_ℤ, nat_abs, length, get_or, Float}
use Rattle.std.proofs.Common.{zero-le, sym, ap, ap₂, ◌∙◌, le_refl, le_trans, mul-pos, zero-lt-suc, not-suc-le-zero}
use Rattle.std.proofs.Common.{le_of_suc-le-suc, div-lt_iff_lt-mul, le-div_iff_mul-le, add-one, arith, leb-true}
use Rattle.std.proofs.Common.{leb-false, le-leb}
use Rattle.std.proofs.Math.Nat.{mul-div-le, lt-mul-div-succ}
use Rattle.std.proofs.Math.IntN.{neg_ℤ-neg_ℤ}
use Rattle.std.specs.Int.Signed.{mag}
use Rattle.std.specs.Float.{nan, inf, fin, Format, binary32}
use Rattle.std.specs.Float.Ieee.{prec, emax, low, up, down, unlike, odd, units, round, neg, mul}
use Rattle.std.specs.Float.Ieee.Exact.{HasValue}
use Rattle.std.specs.Float.Ieee.Fits.{down_pos}
use Rattle.std.specs.Float.Ieee.Nearest.{div_same}
use Rattle.std.proofs.lemmas.Bool.{lt-leb}
use Rattle.calls.specs.Bounds.{largest_m, largest_ceiling}
use Rattle.calls.specs.Numbers.{between}
use Rattle.calls.specs.NumberLaws.{check-passed, between-passed}
use Rattle.calls.specs.LentMemory.{overwrite, unless_refused}
use Rattle.calls.specs.Signs.{flipped}
use Rattle.calls.specs.SignLaws.{size-flipped, flipped-xor}
use Rattle.calls.specs.EveryLaws.{every-same}
use Rattle.calls.specs.LentMemoryLaws.{length-overwrite, overwrite-same}
use Rattle.channel.specs.Front.{
  with_sample_sign,
  value_of,
  nearest,
  rounded_size,
  quantised,
  llr_of,
  is_finite,
  all_finite,
  front_tests,
  front_number,
  front_llrs,
}
use Rattle.channel.specs.FlippedSamples.{flipped_sample, flipped_samples}
use Rattle.channel.specs.declared.Channel.{Channel}
use Rattle.channel.specs.declared.Channel.TheVariants.{Gaussian, Flipping, Erasing}

-- ---- what a front that refuses nothing has tested

pub record TestsPassed (m C : ℕ) (long usable finite : Bool) : Type 0 where
  pub block : (1 ≤ m) × (m ≤ largest_m)
  pub ceiling : (1 ≤ C) × (C ≤ largest_ceiling)
  pub long-enough : long ≡ true
  pub all-usable : usable ≡ true
  pub all-finite : finite ≡ true

pub tests-passed : (m C : ℕ) (long usable finite : Bool) → front_tests m C long usable finite ≡ 0
    → TestsPassed m C long usable finite
tests-passed m C long usable finite e =
    let one = check-passed (between 1 largest_m m) 0 _ e in
    let two = check-passed (between 1 largest_ceiling C) 1 _ one.1 in
    let seven = check-passed long 6 _ two.1 in
    let eleven = check-passed usable 10 _ seven.1 in
    record {
      block = between-passed 1 largest_m m one.0;
      ceiling = between-passed 1 largest_ceiling C two.0;
      long-enough = seven.0;
      all-usable = eleven.0;
      all-finite = (check-passed finite 11 0 eleven.1).0;
    }

-- ---- the whole number of a size

-- with N for `nearest n d`: N - 1/2 ≤ n / d < N + 1/2, so a half goes up
pub nearest-is : (n d : ℕ) → 0 < d → (2 * d * nearest n d ≤ 2 * n + d) × (2 * n + d < 2 * d * suc (nearest n d))
nearest-is n d h = (
  mul-div-le (2 * n + d) (2 * d),
  rw add-one at (lt-mul-div-succ (2 * n + d) {b = 2 * d} (mul-pos (zero-lt-suc 1) h)),
)

-- a whole number is its own nearest
pub nearest-whole : (n d : ℕ) → 0 < d → nearest (n * d) d ≡ n
nearest-whole n d h =
    div_same (2 * (n * d) + d) (2 * d) (2 * n + 1) 2 (mul-pos (zero-lt-suc 1) h) (zero-lt-suc 1) (omega arith)
    ∙ omega arith

pub rounded-bound : (C n d : ℕ) → 0 < d → rounded_size C n d ≤ C
rounded-bound C n d h = by-test (leb (C * d) n) refl
  where
    below : n < C * d → 2 * n + d < suc C * (2 * d)
    below l = omega arith

    by-test : (b : Bool) → leb (C * d) n ≡ b → cond b C (nearest n d) ≤ C
    by-test true e = le_refl C
    by-test false e =
        let up : nearest n d ≤ (2 * n + d) / (2 * d) = omega arith in
        let least : (2 * n + d) / (2 * d) ≤ C =
        le_of_suc-le-suc ((div-lt_iff_lt-mul {k = 2 * d} (mul-pos (zero-lt-suc 1) h)).1 (below (leb-false (C * d) n e)))
        in
        le_trans up least

-- whether the size reaches the ceiling, and its whole number, depend only on the value of the fraction
pub reaches : (C n d : ℕ) → 0 < d → leb (C * d) n ≡ leb C (n / d)
reaches C n d h = by-test (leb C (n / d)) refl
  where
    by-test : (b : Bool) → leb C (n / d) ≡ b → leb (C * d) n ≡ b
    by-test true e = le-leb (C * d) n ((le-div_iff_mul-le h).0 (leb-true C (n / d) e))
    by-test false e = lt-leb (C * d) n ((div-lt_iff_lt-mul h).0 (leb-false C (n / d) e))

pub rounded-same : (C a b c d : ℕ) → 0 < b → 0 < d → a * d ≡ c * b → rounded_size C a b ≡ rounded_size C c d
rounded-same C a b c d p q e =
    ap₂ (λ (t : Bool) (n : ℕ). cond t C n)
    (reaches C a b p ∙ ap (leb C) (div_same a b c d p q e) ∙ sym (reaches C c d q))
    (div_same (2 * a + b) (2 * b) (2 * c + d) (2 * d) (mul-pos (zero-lt-suc 1) p) (mul-pos (zero-lt-suc 1) q)
    (omega arith))

pub rounded-zero : (C : ℕ) → rounded_size C 0 1 ≡ 0
rounded-zero zero = refl
rounded-zero (suc C) = simp (lt-leb (suc C * 1) 0 (omega arith))

-- the whole number of a float by its sign and by its size as any fraction
pub quantised-of : (C : ℕ) (x : Float) (s : Bool) (a c : ℕ) → 0 < c → HasValue x s a c
    → quantised C x ≡ flipped s (pos (rounded_size C a c))
unfolding quantised
quantised-of C nan s a c h v = absurd v
quantised-of C (inf t) s a c h v = absurd v
quantised-of C (fin t m e) s a c h v =
    ap₂ (λ (t : Bool) (n : ℕ). flipped t (pos n)) v.0
    (ap₂ (λ (b : Bool) (n : ℕ). cond b C n)
    (reaches C (m * up e) (down e) (down_pos e) ∙ ap (leb C) (div_same (m * up e) (down e) a c (down_pos e) h v.1)
    ∙ sym (reaches C a c h))
    (div_same (2 * (m * up e) + down e) (2 * down e) (2 * a + c) (2 * c) (mul-pos (zero-lt-suc 1) (down_pos e))
    (mul-pos (zero-lt-suc 1) h)
    (let g : m * up e * c ≡ a * down e = v.1 in omega arith)))

-- ---- no LLR is larger than the ceiling

pub quantised-bound : (C : ℕ) (value : Float) → nat_abs (quantised C value) ≤ C
unfolding quantised
quantised-bound C nan = zero-le
quantised-bound C (inf s) = rw (size-flipped s (pos C)) (le_refl C)
quantised-bound C (fin s m e) =
    rw (size-flipped s (pos (rounded_size C (m * up e) (down e)))) (rounded-bound C (m * up e) (down e) (down_pos e))

mag-le : (z : ℤ) → mag z ≤ nat_abs z
mag-le (pos n) = le_refl n
mag-le (negsuc n) = omega arith

pub quantised-mag : (C : ℕ) (value : Float) → mag (quantised C value) ≤ C
quantised-mag C value = omega (arith, mag-le (quantised C value), quantised-bound C value)

-- both sizes of an integer that the library has: its absolute value, and `mag`, which is one less below zero
pub llr-size : (C : ℕ) (channel : Channel) (x : Float) → nat_abs (llr_of C channel x) ≤ C
llr-size C channel x = quantised-bound C (value_of C channel x)

pub llr-bound : (C : ℕ) (channel : Channel) (x : Float) → mag (llr_of C channel x) ≤ C
llr-bound C channel x = quantised-mag C (value_of C channel x)

-- ---- a sample negated gives the LLR negated

pub quantised-odd : (C : ℕ) (value : Float) → quantised C (neg value) ≡ neg_ℤ (quantised C value)
unfolding quantised neg
quantised-odd C nan = refl
quantised-odd C (inf s) = flipped-xor true s (pos C)
quantised-odd C (fin s m e) = flipped-xor true s (pos (rounded_size C (m * up e) (down e)))

-- the sign of a product goes through its rounding
cond-neg : (b : Bool) (x y x' y' : Float) → x' ≡ neg x → y' ≡ neg y → cond b x' y' ≡ neg (cond b x y)
cond-neg true x y x' y' p q = p
cond-neg false x y x' y' p q = q

odd-neg : (d : ℕ) (s : Bool) (q k l : ℕ) → odd d (not s) q k l ≡ neg (odd d s q k l)
unfolding odd neg
odd-neg d s zero k l = refl
odd-neg d s (suc q) k l = refl

units-neg : (f : Format) (s : Bool) (q k : ℕ) → units f (not s) q k ≡ neg (units f s q k)
unfolding units neg
units-neg f s q k =
    cond-neg (ltb (q * 2 ^ k) (2 ^ (low f + suc (emax f)))) (odd (suc (prec f)) s q k (low f)) (inf s) _ (inf (not s))
    (odd-neg (suc (prec f)) s q k (low f)) refl

pub round-neg : (f : Format) (s : Bool) (n d : ℕ) → round f (not s) n d ≡ neg (round f s n d)
unfolding round
round-neg f s n d = units-neg f s _ _

unlike-not : (s t : Bool) → unlike (not s) t ≡ not (unlike s t)
unlike-not true true = refl
unlike-not true false = refl
unlike-not false true = refl
unlike-not false false = refl

infinite-neg : (b s t : Bool) → cond b nan (inf (unlike (not s) t)) ≡ neg (cond b nan (inf (unlike s t)))
unfolding neg
infinite-neg true s t = refl
infinite-neg false s t = ap inf (unlike-not s t)

pub mul-neg : (f : Format) (x y : Float) → mul f (neg x) y ≡ neg (mul f x y)
unfolding mul neg
mul-neg f nan y = refl
mul-neg f (inf s) nan = refl
mul-neg f (inf s) (inf t) = ap inf (unlike-not s t)
mul-neg f (inf s) (fin t n d) = infinite-neg (eqb n 0) s t
mul-neg f (fin s m e) nan = refl
mul-neg f (fin s m e) (inf t) = infinite-neg (eqb m 0) s t
mul-neg f (fin s m e) (fin t n d) =
    ap (λ (b : Bool). round f b (m * up e * (n * up d)) (down e * down d)) (unlike-not s t)
    ∙ round-neg f (unlike s t) (m * up e * (n * up d)) (down e * down d)

either-odd : (C : ℕ) (s : Bool) (size : Float)
    → quantised C (cond (not s) (neg size) size) ≡ neg_ℤ (quantised C (cond s (neg size) size))
either-odd C true size = sym (ap neg_ℤ (quantised-odd C size) ∙ neg_ℤ-neg_ℤ (quantised C size))
either-odd C false size = quantised-odd C size

zero-odd : (C : ℕ) → quantised C (fin false 0 (pos 0)) ≡ neg_ℤ (quantised C (fin false 0 (pos 0)))
unfolding quantised
zero-odd C = rw (rounded-zero C)

sign-odd : (C : ℕ) (x size : Float)
    → quantised C (with_sample_sign (neg x) size) ≡ neg_ℤ (quantised C (with_sample_sign x size))
unfolding with_sample_sign neg quantised
sign-odd C nan size = refl
sign-odd C (inf s) size = either-odd C s size
sign-odd C (fin s zero e) size = zero-odd C
sign-odd C (fin s (suc m) e) size = either-odd C s size

pub llr-odd : (C : ℕ) (channel : Channel) (x : Float) → llr_of C channel (neg x) ≡ neg_ℤ (llr_of C channel x)
llr-odd C (Gaussian factor) x = ap (quantised C) (mul-neg binary32 x factor) ∙ quantised-odd C (mul binary32 x factor)
llr-odd C (Flipping weight) x = sign-odd C x weight
llr-odd C Erasing x = sign-odd C x (fin false C (pos 0))

-- ---- samples flipped at some places

llr-flipped : (C : ℕ) (channel : Channel) (b : Bool) (x : Float)
    → llr_of C channel (flipped_sample b x) ≡ flipped b (llr_of C channel x)
llr-flipped C channel true x = llr-odd C channel x
llr-flipped C channel false x = refl

finite-flipped : (b : Bool) (x : Float) → is_finite (flipped_sample b x) ≡ is_finite x
unfolding is_finite neg
finite-flipped false x = refl
finite-flipped true nan = refl
finite-flipped true (inf s) = refl
finite-flipped true (fin s m e) = refl

nan-flipped : (b : Bool) → nan ≡ flipped_sample b nan
unfolding neg
nan-flipped true = refl
nan-flipped false = refl

-- (after the list's end both sides read a NaN)
pub sample-flipped : (n : ℕ) (bit : ℕ → Bool) (samples : List Float) (i : ℕ) → i < n
    → get_or (flipped_samples n bit samples) i nan ≡ flipped_sample (bit i) (get_or samples i nan)
sample-flipped zero bit samples i h = absurd (not-suc-le-zero h)
sample-flipped (suc n) bit [] i h = nan-flipped (bit i)
sample-flipped (suc n) bit (x ∷ samples) zero h = refl
sample-flipped (suc n) bit (x ∷ samples) (suc i) h = sample-flipped n (λ j. bit (suc j)) samples i (le_of_suc-le-suc h)

pub all-flipped : (n k : ℕ) (bit : ℕ → Bool) (samples : List Float) → k ≤ n
    → all_finite k (flipped_samples n bit samples) ≡ all_finite k samples
all-flipped n k bit samples h =
    every-same k _ _
    (λ i l. ap is_finite (sample-flipped n bit samples i (omega arith)) ∙ finite-flipped (bit i) (get_or samples i nan))

-- the number of the answer stays
pub front-number-flipped : (m C : ℕ) (channel : Channel) (bit : ℕ → Bool) (samples : List Float) (room : ℕ)
    → front_number m C channel (flipped_samples (2 ^ m) bit samples) room ≡ front_number m C channel samples room
front-number-flipped m C channel bit samples room =
    simp (length-overwrite, all-flipped (2 ^ m) (2 ^ m) bit samples (le_refl (2 ^ m)))

-- each LLR is flipped where its sample is
pub llr-at-flipped : (n C : ℕ) (channel : Channel) (bit : ℕ → Bool) (samples : List Float) (i : ℕ) → i < n
    → llr_of C channel (get_or (flipped_samples n bit samples) i nan)
    ≡ flipped (bit i) (llr_of C channel (get_or samples i nan))
llr-at-flipped n C channel bit samples i h =
    ap (llr_of C channel) (sample-flipped n bit samples i h) ∙ llr-flipped C channel (bit i) (get_or samples i nan)

pub front-llrs-flipped : (m C : ℕ) (channel : Channel) (bit : ℕ → Bool) (samples : List Float) (old : List ℤ)
    → front_llrs m C channel (flipped_samples (2 ^ m) bit samples) old
    ≡ unless_refused (front_number m C channel samples (length old))
    (overwrite (2 ^ m) (λ i. flipped (bit i) (llr_of C channel (get_or samples i nan))) old) old
front-llrs-flipped m C channel bit samples old =
    ap₂ (λ (number : ℕ) (new : List ℤ). unless_refused number new old)
    (simp (length-overwrite, all-flipped (2 ^ m) (2 ^ m) bit samples (le_refl (2 ^ m))))
    (overwrite-same (2 ^ m) (λ i. llr_of C channel (get_or (flipped_samples (2 ^ m) bit samples) i nan))
    (λ i. flipped (bit i) (llr_of C channel (get_or samples i nan))) old
    (λ i h k. llr-at-flipped (2 ^ m) C channel bit samples i h))
