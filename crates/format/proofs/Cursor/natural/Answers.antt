-- `natural` meets its contract: the number is written in what is left of the slice.
use Rattle.std.proofs.Common.{refl}
use Rattle.format.specs.WritingLaws.{rest-wrote}
use Rattle.format.proofs.Cursor.natural.Goals as goal

pub returns : goal.returns
returns c =
    let written = rest-wrote c.args.self.now c.requires c.natural.ensures in
    record { out-is = written.0; at-is = written.1; same_reference = refl }
