-- Document 01, "Messages" and "Endings": the columns of L and R in the workspace. L(s, i) stands at s * N + i and R(s,
-- i) at (m + 1) * N + s * N + i, so column s of L is row s and column s of R is row m + 1 + s. Definitions only.
use Rattle.std.specs.Prelude.{ℕ, ◌+◌, ◌*◌, ◌^◌, List, ℤ, pos, get_or}
use Rattle.calls.specs.LentMemory.{overwrite_from}

abbrev pub row : ℕ → List ℤ → ℕ → ℕ → ℤ
row m w k i = get_or w (k * 2 ^ m + i) (pos 0)

abbrev pub L : ℕ → List ℤ → ℕ → ℕ → ℤ
L m w s = row m w s

abbrev pub R : ℕ → List ℤ → ℕ → ℕ → ℤ
R m w s = row m w (m + 1 + s)

-- the workspace with another row k
unfoldable pub set_row : ℕ → ℕ → (ℕ → ℤ) → List ℤ → List ℤ
set_row m k g w = overwrite_from (k * 2 ^ m) (2 ^ m) g w

abbrev pub set_l : ℕ → ℕ → (ℕ → ℤ) → List ℤ → List ℤ
set_l m s g w = set_row m s g w

abbrev pub set_r : ℕ → ℕ → (ℕ → ℤ) → List ℤ → List ℤ
set_r m s g w = set_row m (m + 1 + s) g w
