use Rattle.std.proofs.Common.{◌≤◌, ◌^◌, ◌≡◌}
use Rattle.polar.proofs.Steps.{Stepped}
use Rattle.polar.proofs.butterflies.Given as goal

abbrev pub invariant-loop-p : goal.invariant-loop-p
invariant-loop-p l = (l.n ≡ 2 ^ l.m) × (l.d ≡ 2 ^ l.t) × (l.p ≤ l.n) × Stepped l.t l.p l.initial.block l.block
