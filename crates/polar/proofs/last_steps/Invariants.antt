use Rattle.polar.proofs.Passes.{Recoded}
use Rattle.polar.proofs.last_steps.Given as goal

abbrev pub invariant-loop-k : goal.invariant-loop-k
invariant-loop-k l = Recoded l.k l.initial.block l.block
