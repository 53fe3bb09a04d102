-- `first_steps` meets its contract: after s steps the block holds column s.
use Rattle.std.proofs.Common.{arith}
use Rattle.polar.proofs.Steps.{columned-none, columned-bits, columned-next}
use Rattle.polar.proofs.first_steps.Goals as goal

pub loop-s-init : goal.loop-s-init
loop-s-init c = columned-none c.requires.bits

pub butterflies-requires-clause-bits : goal.butterflies-requires-clause-bits
butterflies-requires-clause-bits c = columned-bits c.loop-s.invariant c.requires.bits

pub loop-s-preserved : goal.loop-s-preserved
loop-s-preserved c = columned-next c.loop-s.invariant c.requires.bits (omega arith) _ c.butterflies.ensures
