-- Document 01, "Messages": the arithmetic of messages. Definitions only.
use Rattle.std.specs.Prelude.{ℕ, ◌*◌, ◌/◌, min, ℤ, pos, nat_abs, ◌+ℤ◌}
use Rattle.calls.specs.Signs.{is_negative, flipped}
use Rattle.calls.specs.Bits.{xor}
use Rattle.message.specs.declared.MinSum.{MinSum}

-- cut to the range from -C to C
abbrev pub cut : ℕ → ℤ → ℤ
cut C z = flipped (is_negative z) (pos (min (nat_abs z) C))

-- a sum, cut after the single addition
unfoldable pub add : MinSum → ℤ → ℤ → ℤ
add rule a b = cut rule.ceiling (a +ℤ b)

-- f(a, b): its size is k times the smaller size, divided by 16 and cut down to a whole number; its sign is the product
-- of the signs. Where either is 0 the smaller size is 0, and so is f (`f-cases` of MessageLaws has the paper's cases)
unfoldable pub f : MinSum → ℤ → ℤ → ℤ
f rule a b = flipped (xor (is_negative a) (is_negative b)) (pos (rule.scale * min (nat_abs a) (nat_abs b) / 16))
