use Prim.Native.Nat.{◌*◌}
use Rattle.sweeps.proofs.Turns.{FilledPairs}
use Rattle.sweeps.proofs.runs.by_runs.Given as goal

abbrev pub invariant-loop-r : goal.invariant-loop-r
invariant-loop-r g l =
    FilledPairs l.rule l.step.m l.step.t l.step.k l.step.x l.step.y (g.row.W * l.r) l.initial.work l.work
