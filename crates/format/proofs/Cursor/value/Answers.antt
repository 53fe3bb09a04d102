-- `value` meets its contract: the number, and a byte after it.
use Rattle.std.proofs.Common.{rules, to_z-of_z}
use Rattle.format.specs.WritingLaws.{appended_then, room-after}
use Rattle.format.proofs.Cursor.value.Goals as goal

pub byte-requires : goal.byte-requires
byte-requires c = search (rules, to_z-of_z, room-after)

pub returns : goal.returns
returns c = appended_then (rw (to_z-of_z c.ranges.z) at c.number.ensures) c.byte.ensures
