-- `copy` meets its contract: the text is written in what is left of the slice.
use Rattle.std.proofs.Common.{refl, arith, drop_of_length-le}
use Rattle.format.specs.WroteLaws.{writing-ends}
use Rattle.format.specs.WritingLaws.{rest-wrote}
use Rattle.format.proofs.Cursor.copy.Goals as goal

pub returns : goal.returns
returns c =
    let all = writing-ends c.loop-i.invariant (drop_of_length-le c.args.text.now (omega arith)) in
    let written = rest-wrote c.args.self.now c.requires all in
    record { out-is = written.0; at-is = refl; same_reference = refl }
