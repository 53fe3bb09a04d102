use Rattle.sweeps.specs.Private.{upper_at, lower_at}
use Rattle.sweeps.proofs.Parts.{ArrayPart}
use Rattle.sweeps.proofs.runs.join.Given as goal

abbrev pub invariant-loop-i : goal.invariant-loop-i
invariant-loop-i g l = ArrayPart g.row.W l.i (upper_at l.rule l.d l.x l.y l.work) l.upper
    × ArrayPart g.row.W l.i (lower_at l.rule l.d l.x l.y l.work) l.lower
