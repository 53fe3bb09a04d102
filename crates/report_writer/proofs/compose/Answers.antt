-- `compose` meets its contract: its pieces are those of the text, one after another.
use Rattle.std.proofs.Common.{arith, rules}
use Rattle.report_input.specs.Input.{block_of}
use Rattle.format.specs.WritingLaws.{appended_then, room-before, room-after}
use Rattle.report_writer.specs.Writer.{tidy_text}
use Rattle.report_writer.specs.RoomLaws.{block-accepted, few-positions, settings-digits}
use Rattle.report_writer.proofs.compose.Goals as goal

pub copy-requires : goal.copy-requires
unfolding tidy_text
copy-requires c = search room-before

pub settings_line-requires-clause-digits : goal.settings_line-requires-clause-digits
settings_line-requires-clause-digits c =
    settings-digits c.args.settings (block_of c.args.mask.now c.args.llr.now) c.requires.llr_value

pub settings_line-requires-clause-room : goal.settings_line-requires-clause-room
unfolding tidy_text
settings_line-requires-clause-room c = search (room-before, room-after)

pub copy-requires-2 : goal.copy-requires-2
unfolding tidy_text
copy-requires-2 c = search (room-before, room-after)

pub position_lines-requires : goal.position_lines-requires
unfolding tidy_text
position_lines-requires c κs within =
    let s = c.args.settings in
    let b = block_of c.args.mask.now c.args.llr.now in
    let few = few-positions s b c.requires.llr_value in
    let slices = (block-accepted s b c.requires.llr_value).slices in
    let n = c.power_of_two-n.ensures in (
      search rules,
      (
        search rules,
        (
          λ i l. omega (arith, few, slices.mask-long, slices.llr-long),
          (λ i zs l e. e, rw n (search (room-before, room-after, appended_then))),
        ),
      ),
    )

pub returns : goal.returns
unfolding tidy_text
returns c =
    appended_then (appended_then (appended_then c.copy.ensures c.settings_line.ensures) c.copy-2.ensures)
    (rw c.power_of_two-n.ensures at c.position_lines.ensures)
