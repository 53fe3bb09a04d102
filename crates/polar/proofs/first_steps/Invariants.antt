use Rattle.polar.proofs.Steps.{Columned}
use Rattle.polar.proofs.first_steps.Given as goal

abbrev pub invariant-loop-s : goal.invariant-loop-s
invariant-loop-s l = Columned l.m l.s l.initial.block l.block
