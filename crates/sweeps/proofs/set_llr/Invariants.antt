use lib.IntN.{pos}
use lib.ListN.{get_or}
use Rattle.calls.specs.WrittenLaws.{Written}
use Rattle.sweeps.proofs.set_llr.Given as goal

abbrev pub invariant-loop-i : goal.invariant-loop-i
invariant-loop-i l = Written l.i (λ j. get_or l.llr j (pos 0)) l.initial.message-items l.message-items
