-- The laws that the check tries at the goals of the functions that write pieces of a line, of `lines`, and of `write`.
use Rattle.std.proofs.Common.{ℕ, ◌+◌, ◌≡◌, ◌++◌, List, length, refl, length-append}
use Rattle.std.proofs.lemmas.List.Edits.{sets}
use Rattle.std.proofs.Math.Seq.{length-sets}
use Rattle.format.specs.WroteLaws.{sets-append}
use Rattle.radio_summary.specs.SummaryLaws.{all-at, lines_end, summary-length}
use Rattle.radio_summary.proofs.Listed.{lines-more}

-- to store two texts is to store the first, and the second after it
pub sets-then : (l : List ℕ) (i : ℕ) (x y : List ℕ) → sets l i (x ++ y) ≡ sets (sets l i x) (i + length x) y
sets-then l i x y = sets-append l i (i + length x) x y refl

pub ruleset pieces = (sets-then, length-sets, length-append)

pub ruleset listed = (all-at, lines-more, lines_end, sets-then, length-sets, length-append)

pub ruleset whole = (sets-then, length-append, summary-length)
