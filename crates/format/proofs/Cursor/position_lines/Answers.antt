-- `position_lines` meets its contract: the line of each position is the next piece of the lines.
use Rattle.std.proofs.Common.{rules}
use Rattle.format.specs.TextLaws.{position-lines-next, position-lines-end}
use Rattle.format.specs.WritingLaws.{appending-room, appending-next, appending-ends}
use Rattle.format.proofs.Cursor.position_lines.Goals as goal

pub line-requires : goal.line-requires
line-requires g c = search (rules, position-lines-next, appending-room)

pub loop-i-preserved : goal.loop-i-preserved
loop-i-preserved g c = appending-next c.loop-i.invariant (search (rules, position-lines-next)) c.line.ensures

pub returns : goal.returns
returns g c = search (rules, position-lines-end, appending-ends)
