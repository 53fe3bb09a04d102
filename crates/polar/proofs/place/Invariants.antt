use Rattle.polar.proofs.Loops.{Placed}
use Rattle.polar.proofs.place.Given as goal

abbrev pub invariant-loop-i : goal.invariant-loop-i
invariant-loop-i l = Placed l.mask l.message l.i l.used l.initial.block l.block
