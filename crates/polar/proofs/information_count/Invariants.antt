use Rattle.std.proofs.Common.{◌≡◌}
use Rattle.polar.specs.Code.{information_count}
use Rattle.polar.proofs.information_count.Given as goal

abbrev pub invariant-loop-kind : goal.invariant-loop-kind
invariant-loop-kind l = l.count ≡ information_count l.mask l.kind-index
