use Prim.Native.Nat.{◌*◌}
use Rattle.sweeps.proofs.Turns.{FilledFront}
use Rattle.sweeps.proofs.chunks.by_chunks.Given as goal

abbrev pub invariant-loop-c : goal.invariant-loop-c
invariant-loop-c g l =
    FilledFront l.rule l.step.m l.step.t l.step.k l.step.x l.step.y (16 * l.c) l.initial.work l.work
