use Rattle.std.proofs.Common.{get_or, bit_xor}
use Rattle.calls.specs.WrittenLaws.{Written}
use Rattle.polar.proofs.join.Given as goal

abbrev pub invariant-loop-i : goal.invariant-loop-i
invariant-loop-i l = Written l.i (λ i. bit_xor (get_or l.initial.upper i 0) (get_or l.lower i 0)) l.initial.upper
    l.upper
