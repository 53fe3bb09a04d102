-- Laws of a shift to the right, of a signed number of every width w, as the machine has it (for fewer places than the
-- width). It copies the sign bit, so that it rounds down (`shr_z`): of a size that the width holds it is the quotient,
-- cut down; of a negative number it is not.
use Rattle.std.specs.Prelude.{ℕ, ◌*◌, ◌/◌, ◌<◌, ◌^◌, min, ◌≡◌, ℤ, pos, nat_abs}
use Rattle.std.proofs.Common.{div-le_self, lt_of_le_of_lt}
use Rattle.std.specs.Int.Signed.{shr_z}
use Rattle.std.specs.Int.{Width}
use mir.Val.{hbits, to_z, of_z}
use Rattle.std.proofs.Math.Facts.{to_z_pos}
use Rattle.calls.specs.SignLaws.{size-flipped}
use Rattle.message.specs.Message.{f}
use Rattle.message.specs.declared.MinSum.{MinSum}

pub shifted-size : (w : Width) (size places : ℕ) → size < 2 ^ hbits w
    → to_z w (of_z w (shr_z (to_z w size) (2 ^ places))) ≡ pos (size / 2 ^ places)
shifted-size w size places h = rw (to_z_pos w h) (to_z_pos w (lt_of_le_of_lt (div-le_self size (2 ^ places)) h))

-- k times the smaller size, shifted by 4 places, is the size of f (request 2026-03)
pub f-shifted : (w : Width) (rule : MinSum) (a b : ℤ) → rule.scale * min (nat_abs a) (nat_abs b) < 2 ^ hbits w
    → to_z w (of_z w (shr_z (to_z w (rule.scale * min (nat_abs a) (nat_abs b))) 16)) ≡ pos (nat_abs (f rule a b))
unfolding f
f-shifted w rule a b h = simp size-flipped (shifted-size w (rule.scale * min (nat_abs a) (nat_abs b)) 4 h)
