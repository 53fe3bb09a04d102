use Rattle.std.specs.Prelude.{drop}
use Rattle.format.specs.Decimal.{line}
use Rattle.format.specs.WritingLaws.{Appending}
use Rattle.format.proofs.Cursor.line.Given as goal

abbrev pub invariant-loop-i : goal.invariant-loop-i
invariant-loop-i l = Appending l.initial.self (line l.zs) l.self (line (drop l.i l.zs))
