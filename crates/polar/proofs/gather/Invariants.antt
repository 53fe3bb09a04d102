use Rattle.std.proofs.Common.{length}
use Rattle.polar.proofs.Loops.{Gathered}
use Rattle.polar.proofs.gather.Given as goal

abbrev pub invariant-loop-i : goal.invariant-loop-i
invariant-loop-i l = Gathered l.mask l.bytes (length l.mask) l.i l.count l.initial.message l.message
