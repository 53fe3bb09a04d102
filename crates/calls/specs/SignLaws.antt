-- Laws of the sign: a number's size stays when its sign turns, a sign turned twice is as it was, and two turns are one
-- by the exclusive-or of their bits.
use Rattle.std.specs.Prelude.{zero, suc, ◌≡◌, refl, Bool, true, false, ℤ, pos, negsuc, neg_ℤ, nat_abs}
use Rattle.std.proofs.Common.{sym}
use Rattle.std.proofs.Math.IntN.{neg_ℤ-neg_ℤ}
use Rattle.calls.specs.Bits.{xor}
use Rattle.calls.specs.Signs.{flipped}

pub size-neg : (z : ℤ) → nat_abs (neg_ℤ z) ≡ nat_abs z
size-neg (pos zero) = refl
size-neg (pos (suc n)) = refl
size-neg (negsuc n) = refl

pub size-flipped : (b : Bool) (z : ℤ) → nat_abs (flipped b z) ≡ nat_abs z
size-flipped false z = refl
size-flipped true z = size-neg z

pub flipped-zero : (b : Bool) → flipped b (pos 0) ≡ pos 0
flipped-zero false = refl
flipped-zero true = refl

pub flipped-twice : (b : Bool) (z : ℤ) → flipped b (flipped b z) ≡ z
flipped-twice false z = refl
flipped-twice true z = neg_ℤ-neg_ℤ z

-- the product of two signs, one turned after the other
pub flipped-xor : (s t : Bool) (z : ℤ) → flipped (xor s t) z ≡ flipped s (flipped t z)
flipped-xor false t z = refl
flipped-xor true false z = refl
flipped-xor true true z = sym (neg_ℤ-neg_ℤ z)
