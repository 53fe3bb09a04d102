-- Request 2026-05: the summary of a list of tallies, from bytes to bytes. Definitions only.
use Rattle.std.specs.Prelude.{ℕ, List}
use Rattle.format.specs.Texts.{refusal_text}
use Rattle.radio_list.specs.RadioList.{Listed, refused, listed, meaning}
use Rattle.radio_summary.specs.Summary.{summary_of}

-- a refused list has its number, as in the report
abbrev pub text_of : Listed → List ℕ
text_of (refused number) = refusal_text number
text_of (listed tallies) = summary_of tallies

unfoldable pub summary : List ℕ → List ℕ
summary t = text_of (meaning t)
