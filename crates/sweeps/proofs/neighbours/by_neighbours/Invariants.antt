use Prim.Native.Nat.{◌*◌}
use Rattle.sweeps.proofs.Turns.{FilledFront}
use Rattle.sweeps.proofs.neighbours.by_neighbours.Given as goal

abbrev pub invariant-loop-e : goal.invariant-loop-e
invariant-loop-e l =
    FilledFront l.rule l.step.m l.step.t l.step.k l.step.x l.step.y (8 * l.e) l.initial.work l.work
