-- What the methods of a cursor ask for and leave: room for bytes after those written so far, and these bytes appended.
-- Definitions only.
use Rattle.std.specs.Prelude.{ℕ, ◌+◌, ◌≤◌, ◌≡◌, List, length}
use Rattle.std.proofs.lemmas.List.Edits.{sets}
use Rattle.format.specs.declared.Cursor.{Cursor}

abbrev pub HasRoom : Cursor → List ℕ → Type 0
HasRoom c bytes = c.at + length bytes ≤ length c.out.now

-- the bytes stand from where the next byte was to go, the old contents elsewhere, and the next byte goes after them; it
-- is still the same lent slice
pub record Appended (old : Cursor) (bytes : List ℕ) (new : Cursor) : Type 0 where
  pub out-is : new.out.now ≡ sets old.out.now old.at bytes
  pub at-is : new.at ≡ old.at + length bytes
  pub same_reference : new.out.ghost_name ≡ old.out.ghost_name
