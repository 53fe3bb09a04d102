-- Document 01, "Messages": the columns and the steps between them, here of bits. Column 0 is u, column m is the block
-- sent (`column-coded` of TransformLaws), and the decoder's message for a position of column s stands for the bit
-- there. Definitions only.
use Rattle.std.specs.Prelude.{ℕ, zero, suc, ◌+◌, ◌-◌, ◌/◌, ◌%◌, ◌^◌, Bool}
use Rattle.calls.specs.Bits.{xor}

-- the binary digit of i of weight 2 ^ t
abbrev pub digit : ℕ → ℕ → ℕ
digit t i = i / 2 ^ t % 2

-- a position is upper where its digit of weight d is clear
module _ {A : Type 0} where
  abbrev pub by_side : ℕ → A → A → A
  by_side zero upper lower = upper
  by_side (suc n) upper lower = lower

-- one step over the distance d = 2 ^ t: an upper position i takes the exclusive-or with i + d, a lower one keeps its
-- bit
abbrev pub column_step : ℕ → (ℕ → Bool) → ℕ → Bool
column_step t v i = by_side (digit t i) (xor (v i) (v (i + 2 ^ t))) (v i)

-- step s joins columns s and s + 1 over the distance 2 ^ (m - 1 - s)
abbrev pub column : ℕ → (ℕ → Bool) → ℕ → ℕ → Bool
column m u zero = u
column m u (suc s) = column_step (m - suc s) (column m u s)
