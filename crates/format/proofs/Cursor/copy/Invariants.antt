use Rattle.std.specs.Prelude.{drop}
use Rattle.format.specs.WroteLaws.{Writing}
use Rattle.format.proofs.Cursor.copy.Given as goal

abbrev pub invariant-loop-i : goal.invariant-loop-i
invariant-loop-i l = Writing l.initial.out 0 l.text l.out l.i (drop l.i l.text)
