-- Request 2026-01, "Tidy block files": the tidy form of a text, from bytes to bytes. Definitions only.
use Rattle.std.specs.Prelude.{List, ℕ}
use Rattle.format.specs.Texts.{refusal_text}
use Rattle.report_input.specs.Input.{Meaning, refused, block, meaning}
use Rattle.report_writer.specs.Writer.{tidy_text}

-- the tidy text of what an accepted text means; a refusal as the report prints it
abbrev pub tidy_of : Meaning → List ℕ
tidy_of (refused number) = refusal_text number
tidy_of (block s b) = tidy_text s b

unfoldable pub tidy : List ℕ → List ℕ
tidy text = tidy_of (meaning text)
