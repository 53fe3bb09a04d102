-- Signed numbers in an `i16`. The code's view of a number z is `to_z w16 (of_z w16 z)`, which is z where z fits; `-z`
-- in
-- the code is 0 - z.
use Prim.Native.Nat.{◌<◌, ◌^◌}
use mathlib.Core.Path.{◌≡◌, refl, sym, subst, ◌∙◌}
use mathlib.Core.Bool.{true, false, true≢false}
use native.Mathlib.Omega.{arith}
use lib.IntN.{ℤ, pos, negsuc, neg_ℤ, nat_abs, ◌-ℤ◌, +ℤ_idl}
use lib.Signed.{mag, lt_z, non_neg}
use lib.Dec.{T}
use borrow.Author.Tests.{le-ltb, ltb-true}
use mir.Syntax.{w16}
use mir.Val.{SFits, to_z, of_z}
use mir.Facts.{to_z-of_z}
use Rattle.calls.specs.Signs.{is_negative}
use Rattle.calls.specs.SignLaws.{size-neg}

pub size_fits : (z : ℤ) → nat_abs z < 2 ^ 15 → SFits w16 z
size_fits (pos n) h = record { sfits = h }
size_fits (negsuc n) h = record { sfits = omega (arith, h) }

pub held : (z : ℤ) → nat_abs z < 2 ^ 15 → to_z w16 (of_z w16 z) ≡ z
held z h = to_z-of_z (size_fits z h)

-- the result of a call, by what the callee ensures of it: told c.g.ok c.g.ensures
pub told : {z v : ℤ} → mag z < 2 ^ 15 → z ≡ v → to_z w16 (of_z w16 z) ≡ v
told {z} h e = to_z-of_z {w = w16} (record { sfits = h }) ∙ e

pub kept : (z : ℤ) → mag z < 2 ^ 15 → to_z w16 (of_z w16 z) ≡ z
kept z h = told h refl

-- ---- negations

pub minus-fits : (z : ℤ) → nat_abs z < 2 ^ 15 → SFits w16 (pos 0 -ℤ z)
minus-fits z h = subst (SFits w16) (sym (+ℤ_idl (neg_ℤ z))) (size_fits (neg_ℤ z) (omega (arith, size-neg z)))

pub minus-held : (z : ℤ) → nat_abs z < 2 ^ 15 → to_z w16 (of_z w16 (pos 0 -ℤ z)) ≡ neg_ℤ z
minus-held z h = to_z-of_z (minus-fits z h) ∙ +ℤ_idl (neg_ℤ z)

-- ---- tests

pub below-zero : (z : ℤ) → lt_z z (pos 0) ≡ is_negative z
below-zero (pos n) = le-ltb n 0 (omega arith)
below-zero (negsuc n) = refl

pub not-below : (z : ℤ) → lt_z z (pos 0) ≡ false → T (non_neg z)
not-below (pos n) e = tt
not-below (negsuc n) e = absurd (true≢false e)

pub below-negated : (z : ℤ) → lt_z z (pos 0) ≡ true → T (non_neg (neg_ℤ z))
below-negated (pos n) e = let h : n < 0 = ltb-true n 0 e in absurd (omega arith)
below-negated (negsuc n) e = tt
