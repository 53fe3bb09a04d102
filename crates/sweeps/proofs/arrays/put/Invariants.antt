use Rattle.calls.specs.WrittenLaws.{Written}
use Rattle.sweeps.specs.Private.{message_at}
use Rattle.sweeps.proofs.arrays.put.Given as goal

abbrev pub invariant-loop-i : goal.invariant-loop-i
invariant-loop-i g l = Written l.i (message_at l.values) l.initial.message-items l.message-items
