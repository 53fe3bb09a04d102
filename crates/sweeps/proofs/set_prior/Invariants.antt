use Rattle.calls.specs.WrittenLaws.{Written}
use Rattle.sweeps.specs.Iteration.{prior}
use Rattle.sweeps.proofs.set_prior.Given as goal

abbrev pub invariant-loop-i : goal.invariant-loop-i
invariant-loop-i l = Written l.i (prior l.ceiling l.mask) l.initial.message-items l.message-items
