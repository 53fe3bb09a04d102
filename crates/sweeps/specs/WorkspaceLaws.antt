-- Laws of the workspace's rows: what a row holds after it, or another one, is written.
use Rattle.std.specs.Prelude.{ℕ, ◌+◌, ◌*◌, ◌^◌, ◌≤◌, ◌<◌, ◌≡◌, List, ℤ, pos, length}
use Rattle.std.proofs.Common.{suc-mul, mul-le-mul_right, arith}
use Rattle.std.proofs.Math.Arith.{digits_lt}
use Rattle.calls.specs.LentMemory.{overwrite_from}
use Rattle.calls.specs.LentMemoryLaws.{
  length-overwrite_from,
  overwrite_from-at,
  overwrite_from-before,
  overwrite_from-behind,
}
use Rattle.calls.specs.Bounds.{workspace_length}
use Rattle.sweeps.specs.Workspace.{row, set_row}

-- the workspace lies in the list
abbrev pub WorkspaceFits : ℕ → List ℤ → Type 0
WorkspaceFits m w = workspace_length m ≤ length w

-- an element of a row lies in the workspace
pub row_lt : (m k i : ℕ) → k < 2 * (m + 1) → i < 2 ^ m → k * 2 ^ m + i < workspace_length m
row_lt m k i hk hi = digits_lt hk hi

pub length-set_row : (m k : ℕ) (g : ℕ → ℤ) (w : List ℤ) → length (set_row m k g w) ≡ length w
unfolding set_row
length-set_row m k g w = length-overwrite_from (k * 2 ^ m) (2 ^ m) g w

-- the first n elements of row k are new: an element of them, and one of any other row
module _ (m k n : ℕ) (g : ℕ → ℤ) (w : List ℤ) (hn : n ≤ 2 ^ m) where
  pub part-own : (i : ℕ) → i < n → k * 2 ^ m + i < length w → row m (overwrite_from (k * 2 ^ m) n g w) k i ≡ g i
  part-own i hi l = overwrite_from-at (k * 2 ^ m) n g w i (pos 0) hi l

  pub part-above : (j i : ℕ) → j < k → i < 2 ^ m → row m (overwrite_from (k * 2 ^ m) n g w) j i ≡ row m w j i
  part-above j i hj hi = overwrite_from-before (k * 2 ^ m) n g w (j * 2 ^ m + i) (pos 0) (digits_lt hj hi)

  pub part-below : (j i : ℕ) → k < j → row m (overwrite_from (k * 2 ^ m) n g w) j i ≡ row m w j i
  part-below j i hj =
      overwrite_from-behind (k * 2 ^ m) n g w (j * 2 ^ m + i) (pos 0)
      (omega (arith, suc-mul k (2 ^ m), mul-le-mul_right (2 ^ m) hj))

module _ (m k : ℕ) (g : ℕ → ℤ) (w : List ℤ) where
  pub row-own : (i : ℕ) → WorkspaceFits m w → k < 2 * (m + 1) → i < 2 ^ m → row m (set_row m k g w) k i ≡ g i
  unfolding set_row
  row-own i room hk hi = part-own m k (2 ^ m) g w (omega arith) i hi (omega (arith, row_lt m k i hk hi))

  pub row-above : (j i : ℕ) → j < k → i < 2 ^ m → row m (set_row m k g w) j i ≡ row m w j i
  unfolding set_row
  row-above j i hj hi = part-above m k (2 ^ m) g w (omega arith) j i hj hi

  pub row_below : (j i : ℕ) → k < j → row m (set_row m k g w) j i ≡ row m w j i
  unfolding set_row
  row_below j i hj = part-below m k (2 ^ m) g w (omega arith) j i hj
