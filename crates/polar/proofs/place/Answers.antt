-- `place` meets its contract.
use Rattle.std.proofs.Common.{arith}
use Rattle.polar.proofs.Loops.{placed-lt, placed-information, placed-frozen}
use Rattle.polar.proofs.place.Goals as goal
use Rattle.polar.proofs.place.Goals.{else-is_information, then-is_information}

pub bounds-message-used : goal.bounds-message-used
bounds-message-used c =
    placed-lt c.loop-i.invariant c.requires.message_accepted c.if-is_information.ensures (omega arith)

pub overflow_add-used : goal.overflow_add-used
overflow_add-used c =
    omega (arith, placed-lt c.loop-i.invariant c.requires.message_accepted c.if-is_information.ensures (omega arith))

pub loop-i-preserved : goal.loop-i-preserved
loop-i-preserved c =
    elim c.if-is_information.branch [
      | then-is_information w ↦
          rw (w.block-is, w.used-is)
          (placed-information c.loop-i.invariant c.requires.message_accepted w.if-is_information.ensures (omega arith)
          (omega arith))
      | else-is_information w ↦
          rw (w.block-is, w.used-is)
          (placed-frozen c.loop-i.invariant w.if-is_information.ensures w.frozen_bit.ensures (omega arith))
    ]
