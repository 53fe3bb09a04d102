-- Document 01's block as it is written, and blocks and rooms at the edge of the rules. Computed facts.
use Rattle.std.specs.Prelude.{ℕ, ◌≡◌, refl, [], ◌∷◌, map, pos, negsuc}
use Rattle.calls.specs.Texts.{bytes}
use Rattle.format.specs.Decimal.{digits, decimal, shown, line}
use Rattle.format.specs.Texts.{position_lines}
use Rattle.report_input.specs.Input.{Block, block_of}
use Rattle.report_writer.specs.Writer.{tidy_text, write_number}
use Rattle.settings.specs.declared.Settings.{Settings}

-- m, C, k, T, criterion, operand
abbrev set : ℕ → ℕ → ℕ → ℕ → ℕ → ℕ → Settings
set m C k T criterion operand =
    record { m = m; ceiling = C; scale = k; limit = T; criterion = criterion; operand = operand }

abbrev usual : Settings
usual = set 1 31 16 10 1 0

abbrev pair : Block
pair = block_of (1 ∷ 0 ∷ []) (pos 5 ∷ negsuc 2 ∷ [])

-- document 01's input
pub written : tidy_text usual pair
    ≡ bytes "m ceiling scale limit criterion operand\n1 31 16 10 1 0\nposition frozen llr\n0 1 5\n1 0 -3\n"
unfolding digits decimal shown line position_lines tidy_text
written = refl

-- what stands after the two positions is not written
pub longer : tidy_text usual (block_of (1 ∷ 0 ∷ 2 ∷ []) (pos 5 ∷ negsuc 2 ∷ negsuc 32767 ∷ [])) ≡ tidy_text usual pair
unfolding digits decimal shown line position_lines tidy_text
longer = refl

-- the text has 88 bytes
pub rooms : map (write_number usual pair) (89 ∷ 88 ∷ 87 ∷ 0 ∷ []) ≡ 0 ∷ 0 ∷ 7 ∷ 7 ∷ []
unfolding digits decimal shown line position_lines tidy_text
rooms = refl

-- each setting at the largest value of 32 bits, with no room at all
pub settings-numbers : map (λ s. write_number s pair 0) (
    set 4294967295 31 16 10 1 0
    ∷ set 1 4294967295 16 10 1 0
    ∷ set 1 31 4294967295 10 1 0
    ∷ set 1 31 16 4294967295 1 0
    ∷ set 1 31 16 10 4294967295 0
    ∷ set 1 31 16 10 1 4294967295
    ∷ []
    ) ≡ 1 ∷ 2 ∷ 3 ∷ 4 ∷ 5 ∷ 6 ∷ []
settings-numbers = refl

-- a mask or LLRs of one element: 7, before the 8 of the mask value 2; then 8, 9 and 10, each before the 7 of no room at
-- all
pub block-numbers : map (λ b. write_number usual b 0) (
    block_of (2 ∷ []) (pos 32 ∷ pos 0 ∷ [])
    ∷ block_of (2 ∷ 0 ∷ []) (pos 32 ∷ [])
    ∷ block_of (2 ∷ 1 ∷ []) (pos 32 ∷ pos 0 ∷ [])
    ∷ block_of (1 ∷ 1 ∷ []) (pos 32 ∷ pos 0 ∷ [])
    ∷ block_of (1 ∷ 0 ∷ []) (pos 32 ∷ pos 0 ∷ [])
    ∷ block_of (1 ∷ 0 ∷ []) (pos 5 ∷ negsuc 32767 ∷ [])
    ∷ []
    ) ≡ 7 ∷ 7 ∷ 8 ∷ 9 ∷ 10 ∷ 10 ∷ []
block-numbers = refl
