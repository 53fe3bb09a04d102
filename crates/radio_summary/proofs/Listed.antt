-- The lines of radios one by one, of a whole list.
use Rattle.std.proofs.Common.{ℕ, ◌+◌, ◌<◌, ◌≡◌, ◌++◌, List, length, get_or, drop, le_refl}
use Rattle.std.proofs.Math.Seq.{take-length}
use Rattle.radios.specs.declared.Entry.{Entry}
use Rattle.radio_summary.specs.Summary.{line_of, lines_of, nobody}
use Rattle.radio_summary.specs.SummaryLaws.{lines_next}

pub lines-more : (es : List Entry) (i : ℕ) → i < length es
    → lines_of (drop i es) ≡ line_of (get_or es i nobody) ++ lines_of (drop (i + 1) es)
lines-more es i h = rw take-length at (lines_next es (length es) i h (le_refl (length es)))
