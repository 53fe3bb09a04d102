-- Document 01, "The report's text": what the texts have in common, lines by position and the text of a refusal.
-- Definitions only.
use Rattle.std.specs.Prelude.{ℕ, zero, suc, List, [], ◌∷◌, ◌++◌, ℤ, pos}
use Rattle.calls.specs.Texts.{bytes}
use Rattle.format.specs.Decimal.{line}

-- a line for each of n positions from p on
unfoldable pub position_lines : (ℕ → List ℤ) → ℕ → ℕ → List ℕ
position_lines values zero p = []
position_lines values (suc n) p = line (values p) ++ position_lines values n (suc p)

-- `refused`, then the number on its own line
unfoldable pub refusal_text : ℕ → List ℕ
refusal_text number = bytes "refused\n" ++ line (pos number ∷ [])
