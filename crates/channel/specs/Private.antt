-- Definitions for the contracts of private functions: what the front's own steps compute, in the shape of the code. A
-- reader of the front's contract needs none of it.
use Rattle.std.specs.Prelude.{ℕ, zero, suc, ◌*◌, Bool, false, cond, leb, ℤ, pos, neg_ℤ, Float}
use Rattle.std.specs.Float.{nan, inf, fin}
use Rattle.std.specs.Float.Ieee.{up, down}
use Rattle.calls.specs.Signs.{flipped}
use Rattle.channel.specs.Front.{nearest}

-- finite, and of a size of at most the whole number C
unfoldable pub is_within : ℕ → Float → Bool
is_within C nan = false
is_within C (inf s) = false
is_within C (fin s m e) = leb (m * up e) (C * down e)

-- the nearest whole number of a finite value, halves away from zero
unfoldable pub whole_of : Float → ℤ
whole_of nan = pos 0
whole_of (inf s) = pos 0
whole_of (fin s m e) = flipped s (pos (nearest (m * up e) (down e)))

-- a whole number with the sign of a sample, and 0 for a sample of either zero
unfoldable pub by_sign : Float → ℤ → ℤ
by_sign nan z = pos 0
by_sign (inf s) z = cond s (neg_ℤ z) z
by_sign (fin s zero e) z = pos 0
by_sign (fin s (suc m) e) z = cond s (neg_ℤ z) z
