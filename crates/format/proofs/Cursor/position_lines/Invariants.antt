use Rattle.std.specs.Prelude.{◌-◌}
use Rattle.format.specs.Texts.{position_lines}
use Rattle.format.specs.WritingLaws.{Appending}
use Rattle.format.proofs.Cursor.position_lines.Given as goal

abbrev pub invariant-loop-i : goal.invariant-loop-i
invariant-loop-i g l =
    Appending l.initial.self (position_lines g.values l.n 0) l.self (position_lines g.values (l.n - l.i) l.i)
