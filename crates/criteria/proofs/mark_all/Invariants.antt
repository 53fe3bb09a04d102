use lib.IntN.{pos}
use lib.ListN.{get_or}
use Rattle.criteria.specs.Marks.{mark_of}
use Rattle.calls.specs.WrittenLaws.{Written}
use Rattle.criteria.proofs.mark_all.Given as goal

abbrev pub invariant-loop-i : goal.invariant-loop-i
invariant-loop-i l = Written l.i (λ j. mark_of (get_or l.soft j (pos 0))) l.initial.marks l.marks
