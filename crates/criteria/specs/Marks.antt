-- Document 01, "Messages": the mark of a soft value. Definitions only.
use Rattle.std.specs.Prelude.{ℕ, zero, suc, ℤ, pos, negsuc}

-- 0 for a positive value, 1 for a negative one, 2 (a tie) for zero
abbrev pub mark_of : ℤ → ℕ
mark_of (pos zero) = 2
mark_of (pos (suc n)) = 0
mark_of (negsuc n) = 1
