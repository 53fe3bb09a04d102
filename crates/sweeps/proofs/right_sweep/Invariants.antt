use mathlib.Core.Path.{◌≡◌}
use Rattle.sweeps.specs.Iteration.{right_steps}
use Rattle.sweeps.proofs.right_sweep.Given as goal

abbrev pub invariant-loop-t : goal.invariant-loop-t
invariant-loop-t l = (l.work ≡ right_steps l.rule l.m l.t l.initial.work)
