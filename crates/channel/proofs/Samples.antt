-- Samples that are finite: each of the first n, and no NaN in their products with a factor.
use Prim.Native.Nat.{ℕ, zero, suc, ◌+◌, ◌*◌, ◌^◌, ◌<◌, ◌≤◌}
use mathlib.Core.Path.{◌≡◌, refl}
use mathlib.Core.Bool.{Bool, true, false, not, cond}
use mathlib.Core.List.{List}
use Rattle.std.proofs.Common.{length, take}
use Rattle.std.specs.Float.{float_is_finite}
use lib.Dec.{T, ltb}
use lib.ListN.{get_or}
use lib.Ieee.{Float, nan, inf, fin, Format, binary32, prec, emax, low, up, down, unlike, odd, units, round, mul, is_nan}
use denote.Floats.{passes, is_true}
use Rattle.calls.specs.EveryLaws.{every-at, every_firsts}
use Rattle.channel.specs.Front.{is_finite, is_above_zero, all_finite}

pub sample-finite : (n i : ℕ) (samples : List Float) → i < n → T (all_finite n samples)
    → T (is_finite (get_or samples i nan))
sample-finite n i samples h t =
    passes (is_finite (get_or samples i nan))
    (every-at n i (λ j. is_finite (get_or samples j nan)) (is_true (all_finite n samples) t) h)

-- ---- no NaN
pub either_number : (b : Bool) (x y : Float) → T (not (is_nan x)) → T (not (is_nan y)) → T (not (is_nan (cond b x y)))
either_number true x y p q = p
either_number false x y p q = q

odd_number : (d : ℕ) (s : Bool) (q k l : ℕ) → T (not (is_nan (odd d s q k l)))
unfolding odd is_nan
odd_number d s zero k l = tt
odd_number d s (suc q) k l = tt

units_number : (f : Format) (s : Bool) (q k : ℕ) → T (not (is_nan (units f s q k)))
unfolding units is_nan
units_number f s q k =
    either_number (ltb (q * 2 ^ k) (2 ^ (low f + suc (emax f)))) (odd (suc (prec f)) s q k (low f)) (inf s)
    (odd_number (suc (prec f)) s q k (low f)) tt

pub round_number : (f : Format) (s : Bool) (n d : ℕ) → T (not (is_nan (round f s n d)))
unfolding round
round_number f s n d = units_number f s _ _

pub product-number : (x factor : Float) → T (is_finite x) → T (is_above_zero factor)
    → T (not (is_nan (mul binary32 x factor)))
unfolding mul is_finite is_above_zero
product-number nan factor h k = absurd h
product-number (inf s) factor h k = absurd h
product-number (fin s m e) nan h k = absurd k
product-number (fin s m e) (inf t) h k = absurd k
product-number (fin s m e) (fin t n d) h k =
    round_number binary32 (unlike s t) (m * up e * (n * up d)) (down e * down d)

pub above-zero-number : (x : Float) → T (is_above_zero x) → T (not (is_nan x))
unfolding is_above_zero is_nan
above-zero-number nan h = h
above-zero-number (inf s) h = tt
above-zero-number (fin s m e) h = tt

-- the library's test is the definition's
pub library-finite : (x : Float) → float_is_finite x ≡ is_finite x
unfolding float_is_finite is_finite
library-finite nan = refl
library-finite (inf s) = refl
library-finite (fin s m e) = refl

-- the first n, which the code takes as a slice of their own
pub finite_firsts : (n : ℕ) (samples : List Float) → n ≤ length samples
    → all_finite (length (take n samples)) (take n samples) ≡ all_finite n samples
finite_firsts = every_firsts nan is_finite
