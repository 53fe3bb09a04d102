-- `line` meets its contract: each value, and the byte after it, is the next piece of the line.
use Rattle.std.proofs.Common.{rules}
use Rattle.format.specs.DecimalLaws.{line-ends}
use Rattle.format.specs.WritingLaws.{appending-room, appending-next, appending-ends}
use Rattle.format.proofs.Values.{line-next-held}
use Rattle.format.proofs.Cursor.line.Goals as goal

pub value-requires : goal.value-requires
value-requires c =
    appending-room _ _ c.loop-i.invariant
    (line-next-held c.args.zs.now c.loop-i.i c.separator.result (search rules) c.loop-i-test.true (search rules))

pub loop-i-preserved : goal.loop-i-preserved
loop-i-preserved c = appending-next c.loop-i.invariant (search (rules, line-next-held)) c.value.ensures

pub returns : goal.returns
returns c = search (rules, line-ends, appending-ends)
