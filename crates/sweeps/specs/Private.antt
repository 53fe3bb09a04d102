-- Definitions for the contracts of private functions: what the steps of the code compute, in the shape of the code.
-- Both sweeps take their steps by one formula over two rows, in flat places of the workspace. A reader of the contracts
-- of `begin` and `iterate` needs none of it.
use Rattle.std.specs.Prelude.{ℕ, ◌+◌, ◌-◌, ◌*◌, ◌/◌, ◌^◌, ◌≤◌, ◌<◌, ◌≡◌, Bool, cond, List, eqb, ℤ, pos, nat_abs, length}
use Rattle.std.specs.Prelude.{get_or}
use Rattle.std.specs.Int.Bits.{bit_and}
use Rattle.calls.specs.LentMemory.{overwrite_from}
use Rattle.polar.specs.Columns.{digit, by_side}
use Rattle.message.specs.declared.MinSum.{MinSum}
use Rattle.message.specs.Message.{add, f}
use Rattle.sweeps.specs.Workspace.{row, set_row}

abbrev pub message_at : List ℤ → ℕ → ℤ
message_at w j = get_or w j (pos 0)

-- the new messages of an upper position p, and of its partner p + d, from rows that start at x and y
abbrev pub upper_at : MinSum → ℕ → ℕ → ℕ → List ℤ → ℕ → ℤ
upper_at rule d x y w p =
    f rule (message_at w (x + p)) (add rule (message_at w (x + (p + d))) (message_at w (y + (p + d))))

abbrev pub lower_at : MinSum → ℕ → ℕ → ℕ → List ℤ → ℕ → ℤ
lower_at rule d x y w p = add rule (f rule (message_at w (x + p)) (message_at w (y + p))) (message_at w (x + (p + d)))

-- the new message at any position p
unfoldable pub new_at : MinSum → ℕ → ℕ → ℕ → List ℤ → ℕ → ℤ
new_at rule d x y w p =
    cond (eqb (bit_and p d) 0)
    (upper_at rule d x y w p)
    (add rule (f rule (message_at w (x - d + p)) (message_at w (y - d + p))) (message_at w (x + p)))

-- the same where its partner is at q
abbrev pub partnered_at : MinSum → Bool → ℕ → ℕ → List ℤ → ℕ → ℕ → ℤ
partnered_at rule upper x y w p q =
    cond upper
    (f rule (message_at w (x + p)) (add rule (message_at w (x + q)) (message_at w (y + q))))
    (add rule (f rule (message_at w (x + q)) (message_at w (y + q))) (message_at w (x + p)))

-- element j lies within the ceiling; and there is such an element
abbrev pub Within : MinSum → List ℤ → ℕ → Type 0
Within rule w j = nat_abs (message_at w j) ≤ rule.ceiling

abbrev pub MessageIn : ℕ → ℕ → List ℤ → Type 0
MessageIn C j w = (j < length w) × (nat_abs (message_at w j) ≤ C)

-- the messages that a step reads for position p are there and lie within the ceiling
pub record Readable (C p d x y : ℕ) (w : List ℤ) : Type 0 where
  pub before : (d ≤ x) × (d ≤ y)
  pub after : (x + (p + d) < length w) × (y + (p + d) < length w)
  pub own : nat_abs (message_at w (x + p)) ≤ C
  pub y-own : nat_abs (message_at w (y + p)) ≤ C
  pub x-after : nat_abs (message_at w (x + (p + d))) ≤ C
  pub y-after : nat_abs (message_at w (y + (p + d))) ≤ C
  pub x-before : nat_abs (message_at w (x - d + p)) ≤ C
  pub y-before : nat_abs (message_at w (y - d + p)) ≤ C

abbrev pub ReadableRun : MinSum → ℕ → ℕ → ℕ → ℕ → List ℤ → Type 0
ReadableRun rule n d x y w = (i : ℕ) → i < n → Readable rule.ceiling i d x y w

-- ---- parts of a step, at the places x, y and `to` of three rows

-- the new messages of n positions
unfoldable pub new_run : MinSum → ℕ → ℕ → ℕ → ℕ → ℕ → List ℤ → List ℤ
new_run rule d to x y n w = overwrite_from to n (new_at rule d x y w) w

-- the new messages of n upper positions, and of their partners
unfoldable pub pair_runs : MinSum → ℕ → ℕ → ℕ → ℕ → ℕ → List ℤ → List ℤ
pair_runs rule d to x y n w =
    overwrite_from (to + d) n (lower_at rule d x y w) (overwrite_from to n (upper_at rule d x y w) w)

-- arrays of eight: the new messages, the mask tests, messages gathered, and eight pairs over the distance d merged in
-- the order of their positions
abbrev pub NewEight : MinSum → ℕ → ℕ → ℕ → List ℤ → List ℤ → Type 0
NewEight rule d x y w values = (i : ℕ) → i < 8 → message_at values i ≡ new_at rule d x y w i

abbrev pub MaskTable : ℕ → List ℤ → Type 0
MaskTable d values = (i : ℕ) → i < 8 → message_at values i ≡ pos (bit_and i d)

abbrev pub Gathered : ℕ → ℕ → List ℤ → List ℤ → Type 0
Gathered at mask w values = (i : ℕ) → i < 8 → message_at values i ≡ message_at w (at + (i + bit_and i mask))

abbrev pub pair_of : ℕ → ℕ → ℕ
pair_of d i = bit_and i (d - 1) + bit_and (i / 2) (8 - d)

abbrev pub merged_at : ℕ → List ℤ → List ℤ → ℕ → ℤ
merged_at d upper lower i =
    cond (eqb (bit_and i d) 0) (message_at upper (pair_of d i)) (message_at lower (pair_of d i))

-- the formula of both sweeps over the two columns that a step reads: L(s, .) is joined of L(s + 1, .) and R(s, .), and
-- R(s + 1, .) of R(s, .) and L(s + 1, .)
abbrev pub joined_at : MinSum → ℕ → (ℕ → ℤ) → (ℕ → ℤ) → ℕ → ℤ
joined_at rule t x y p =
    by_side (digit t p)
    (f rule (x p) (add rule (x (p + 2 ^ t)) (y (p + 2 ^ t))))
    (add rule (f rule (x (p - 2 ^ t)) (y (p - 2 ^ t))) (x p))

unfoldable pub row_step : MinSum → ℕ → ℕ → ℕ → ℕ → ℕ → List ℤ → List ℤ
row_step rule m t k x y w = set_row m k (joined_at rule t (row m w x) (row m w y)) w

-- the rows of a step: row k is written, x and y are read, and these two have rows on both sides
pub record Rows (m t k x y : ℕ) : Type 0 where
  pub distance : t < m
  pub written : k < 2 * (m + 1)
  pub first : (1 ≤ x) × (x + 1 < 2 * (m + 1))
  pub second : (1 ≤ y) × (y + 1 < 2 * (m + 1))
  pub apart : (k ≡ x → ⊥) × (k ≡ y → ⊥)
