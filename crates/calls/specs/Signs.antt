-- The sign of a whole number: where it is below zero, and the number with its sign turned where a bit is 1.
-- Definitions only.
use Rattle.std.specs.Prelude.{Bool, true, false, ℤ, pos, negsuc, neg_ℤ}

abbrev pub is_negative : ℤ → Bool
is_negative (pos n) = false
is_negative (negsuc n) = true

abbrev pub flipped : Bool → ℤ → ℤ
flipped false z = z
flipped true z = neg_ℤ z
