-- `outcome` meets its contract: the heading, and the lines after it.
use Rattle.std.proofs.Common.{rules, arith}
use contract.BorrowLft.{⊑_meet, ⊑_static}
use Rattle.format.specs.WritingLaws.{appended_then, room-before, room-after}
use Rattle.report_text.specs.Report.{outcome_text}
use Rattle.report_text.proofs.outcome.Goals as goal

pub heading-requires-clause-room : goal.heading-requires-clause-room
unfolding outcome_text
heading-requires-clause-room c = search room-before

pub position_lines-requires : goal.position_lines-requires
unfolding outcome_text
position_lines-requires c κs within =
    let long = c.requires.n_le_most_positions in (
      search rules,
      (
        search (⊑_meet, ⊑_static) depth 12,
        (
          λ i l. omega (arith, long),
          (λ i zs l e. e, search room-after),
        ),
      ),
    )

pub returns : goal.returns
unfolding outcome_text
returns c = appended_then c.heading.ensures c.position_lines.ensures
