use Rattle.std.proofs.Common.{◌≡◌, length}
use Rattle.scan.specs.Lines.{spaces}
use Rattle.scan.proofs.spaces.Given as goal

abbrev pub invariant-loop-rest : goal.invariant-loop-rest
invariant-loop-rest l = spaces l.text ≡ spaces l.rest

abbrev pub decreases-loop-rest : goal.decreases-loop-rest
decreases-loop-rest l = length l.rest
