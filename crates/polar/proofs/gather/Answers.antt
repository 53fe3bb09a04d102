-- `gather` meets its contract.
use Rattle.std.proofs.Common.{arith}
use Rattle.polar.proofs.Loops.{gathered-lt, gathered-information, gathered-frozen}
use Rattle.polar.proofs.gather.Goals as goal
use Rattle.polar.proofs.gather.Goals.{else-is_information, then-is_information}

pub bounds-message-count : goal.bounds-message-count
bounds-message-count c =
    omega (arith, gathered-lt c.loop-i.invariant c.requires.1 c.if-is_information.ensures (omega arith))

pub overflow_add-count : goal.overflow_add-count
overflow_add-count c =
    omega (arith, gathered-lt c.loop-i.invariant c.requires.1 c.if-is_information.ensures (omega arith))

pub loop-i-preserved : goal.loop-i-preserved
loop-i-preserved c =
    elim c.if-is_information.branch [
      | then-is_information w ↦
          rw (w.message-is, w.count-is)
          (gathered-information c.loop-i.invariant c.requires.1 w.if-is_information.ensures (omega arith))
      | else-is_information w ↦
          rw (w.message-is, w.count-is) (gathered-frozen c.loop-i.invariant w.if-is_information.ensures)
    ]
