-- `number` meets its contract: there is room for the digits, after the minus or without one.
use Rattle.std.proofs.Common.{to_z-of_z}
use Rattle.format.specs.WritingLaws.{room-after}
use Rattle.format.specs.DecimalLaws.{shown-negative, shown-positive}
use Rattle.format.proofs.Cursor.number.Goals as goal
use Rattle.format.proofs.Cursor.number.Goals.{then-z-lt0, else-z-lt0}

pub natural-requires : goal.natural-requires
natural-requires c =
    let held = to_z-of_z c.ranges.z in
    rw (c.unsigned_abs.ensures.value, held)
    (elim c.if-z-lt0.branch [
      | then-z-lt0 w ↦
          rw w.self-is
          (room-after _ w.byte.ensures (rw (shown-negative c.args.z (rw held at w.if-z-lt0.true)) at c.requires))
      | else-z-lt0 w ↦ rw (w.self-is, ← shown-positive c.args.z (rw held at w.if-z-lt0.false)) c.requires
    ])
