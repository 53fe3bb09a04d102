-- Definitions for the contracts of private functions: what the last four steps of the coder compute, in the shape of
-- the code. A reader of the contracts of `encode` and `transform` needs none of it.
use Rattle.std.specs.Prelude.{ℕ, ◌+◌, ◌*◌, ◌/◌, ◌%◌, Bool}
use Rattle.polar.specs.Code.{coded}

-- each sixteen positions, from a multiple of sixteen on, coded as a block of their own
abbrev pub sixteens_coded : (ℕ → Bool) → ℕ → Bool
sixteens_coded v i = coded 4 (λ j. v (i / 16 * 16 + j)) (i % 16)
