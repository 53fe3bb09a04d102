-- Document 01, "The report's text": the output, and the report as a whole, from the bytes of a text to bytes.
-- Definitions only.
use Rattle.std.specs.Prelude.{ℕ, ◌^◌, List, [], ◌∷◌, ◌++◌, ℤ, pos, replicate}
use Rattle.settings.specs.declared.Settings.{Settings}
use Rattle.decoder.specs.Decoder.{Ending, ending, final, soft_at, mark_at, coded_soft_at, coded_mark_at}
use Rattle.calls.specs.Texts.{bytes}
use Rattle.format.specs.Decimal.{line}
use Rattle.format.specs.Texts.{position_lines, refusal_text}
use Rattle.calls.specs.Bounds.{most_workspace}
use Rattle.report_input.specs.Input.{Block, Meaning, refused, block, meaning}

-- the room that is enough for every output
abbrev pub report_room : ℕ
report_room = 32768

-- ---- an outcome

-- of a position its number, soft output, mark, coded soft output and coded mark
abbrev pub position_values : ℕ → ℤ → ℕ → ℤ → ℕ → List ℤ
position_values p soft mark coded_soft coded_mark = pos p ∷ soft ∷ pos mark ∷ coded_soft ∷ pos coded_mark ∷ []

abbrev pub outputs : (ℕ → ℤ) → (ℕ → ℕ) → (ℕ → ℤ) → (ℕ → ℕ) → ℕ → List ℤ
outputs soft mark coded_soft coded_mark p = position_values p (soft p) (mark p) (coded_soft p) (coded_mark p)

-- names, the iteration and the reason, names, and the N positions in order
unfoldable pub outcome_text : Ending → ℕ → (ℕ → List ℤ) → List ℕ
outcome_text e N values =
    bytes "iterations reason\n"
    ++ line (pos e.iteration ∷ pos e.reason ∷ [])
    ++ bytes "position soft mark coded codedmark\n"
    ++ position_lines values N 0

-- the outputs of a workspace under a mask
abbrev pub outputs_at : Settings → List ℕ → List ℤ → ℕ → List ℤ
outputs_at s mask w = outputs (soft_at s mask w) (mark_at s mask w) (coded_soft_at s w) (coded_mark_at s w)

-- the outcome of a block in a workspace that held `work`
abbrev pub block_text : Settings → Block → List ℤ → List ℕ
block_text s b work =
    outcome_text (ending s b.mask b.llr work) (2 ^ s.m) (outputs_at s b.mask (final s b.mask b.llr work))

-- ---- the report

-- the workspace that it lends the decoder: room for the largest block, all zeros
abbrev pub workspace : List ℤ
workspace = replicate most_workspace (pos 0)

abbrev pub text_of : Meaning → List ℕ
text_of (refused number) = refusal_text number
text_of (block s b) = block_text s b workspace

unfoldable pub report : List ℕ → List ℕ
report text = text_of (meaning text)
