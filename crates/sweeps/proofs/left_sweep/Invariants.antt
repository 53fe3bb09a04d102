use mathlib.Core.Path.{◌≡◌}
use Rattle.sweeps.specs.Iteration.{left_steps}
use Rattle.sweeps.proofs.left_sweep.Given as goal

abbrev pub invariant-loop-t : goal.invariant-loop-t
invariant-loop-t l = (l.work ≡ left_steps l.rule l.m l.t l.initial.work)
