use Rattle.std.proofs.Common.{◌≡◌, ◌-◌}
use Rattle.scan.specs.Numbers.{digits}
use Rattle.scan.proofs.digits.Given as goal

abbrev pub invariant-loop : goal.invariant-loop
invariant-loop l = digits l.most 0 l.text ≡ digits (l.most - l.counter) l.value l.rest
