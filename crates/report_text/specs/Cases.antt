-- Document 01's input with its output, as 2026-02 amends it, and three texts more. Computed facts.
use Rattle.std.specs.Prelude.{ℕ, ◌≡◌, refl, List, [], ◌∷◌, ◌++◌, map}
use Rattle.message.specs.Message.{f, add}
use Rattle.sweeps.specs.Workspace.{set_row}
use Rattle.sweeps.specs.Iteration.{left_step, right_step, start}
use Rattle.decoder.specs.Decoder.{after, ending}
use Rattle.scan.specs.Numbers.{digits, natural, number}
use Rattle.scan.specs.Lines.{spaces, separator, line, literal}
use Rattle.calls.specs.Texts.{bytes}
use Rattle.format.specs.Decimal as format
use Rattle.format.specs.Texts.{position_lines, refusal_text}
use Rattle.report_input.specs.Input as input
use Rattle.report_text.specs.Report.{outcome_text, report}

-- the first three lines of document 01's input
abbrev names : List ℕ
names = bytes "m ceiling scale limit criterion operand\n1 31 16 10 1 0\nposition frozen llr\n"

-- its block, one that ties (P4), one with an LLR above the ceiling, and one with a line missing
abbrev blocks : List (List ℕ)
blocks = bytes "0 1 5\n1 0 -3\n" ∷ bytes "0 1 3\n1 0 -3\n" ∷ bytes "0 1 5\n1 0 -32\n" ∷ bytes "0 1 5\n" ∷ []

pub reports : map (λ block. report (names ++ block)) blocks
    ≡ bytes "iterations reason\n1 1\nposition soft mark coded codedmark\n0 31 0 2 0\n1 2 0 2 0\n"
    ∷ bytes "iterations reason\n10 2\nposition soft mark coded codedmark\n0 31 0 0 2\n1 0 2 0 2\n"
    ∷ bytes "refused\n10\n"
    ∷ bytes "refused\n14\n"
    ∷ []
unfolding add f set_row left_step right_step start after ending
    digits natural number spaces separator line literal
    input.head input.read_position input.read_positions input.meaning_in input.meaning
    format.digits format.decimal format.shown format.line refusal_text position_lines outcome_text report
reports = refl
