use mathlib.Core.Path.{◌≡◌}
use Rattle.sweeps.specs.Iteration.{iterations}
use Rattle.decoder.proofs.iterate_times.Given as goal

abbrev pub invariant-loop : goal.invariant-loop
invariant-loop l = l.work ≡ iterations l.rule l.m l.counter l.initial.work
