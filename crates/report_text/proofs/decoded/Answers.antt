-- `decoded` meets its contract.
use mathlib.Core.Path.{◌≡◌}
use mathlib.Core.List.{List}
use native.Mathlib.Omega.{arith}
use borrow.Author.Rules.{rules}
use Prim.Native.Nat.{ℕ}
use lib.IntN.{ℤ, pos}
use lib.ListN.{length, replicate, length-replicate}
use Rattle.format.specs.WritingLaws.{appended-wrote, start-room}
use Rattle.settings.specs.declared.Settings.{Settings}
use Rattle.settings.specs.Slices.{Slices, slices}
use Rattle.decoder.specs.Decoder.{Outcome, Decoded}
use Rattle.calls.specs.Bounds.{most_positions, most_workspace}
use Rattle.report_input.specs.Input.{Block}
use Rattle.report_input.specs.InputLaws.{Fit}
use Rattle.report_text.specs.ReportLaws.{DecodedBlock, decoded-block, iterations-short, outcome-short, block-text}
use Rattle.report_text.proofs.decoded.Goals as goal

-- the slices that the decoder is lent
abbrev lent : List ℤ → Slices
lent work =
    slices (replicate most_positions (pos 0)) (replicate most_positions 0) (replicate most_positions (pos 0))
    (replicate most_positions 0) work

-- what it leaves of an accepted block
left : {s : Settings} {b : Block} (work : List ℤ) {after : Slices} {r : Outcome} → Fit s b
    → length work ≡ most_workspace → Decoded s b.mask b.llr (lent work) after r → DecodedBlock s b work after r
left work fit long decoded =
    decoded-block (lent work) fit decoded (λ i. record {
      soft = length-replicate most_positions (pos 0) i;
      mark = length-replicate {A = ℕ} most_positions 0 i;
      coded_soft = length-replicate most_positions (pos 0) i;
      coded_mark = length-replicate {A = ℕ} most_positions 0 i;
      work = long i;
    })

pub outcome-requires-clause-iterations_bound : goal.outcome-requires-clause-iterations_bound
outcome-requires-clause-iterations_bound c =
    let block = left c.args.work.now c.requires.fit c.requires.work_len.0 c.decode-answer.ensures in
    iterations-short block c.in-Ok.ending c.in-Ok.is

pub outcome-requires-clause-n_le_most_positions : goal.outcome-requires-clause-n_le_most_positions
outcome-requires-clause-n_le_most_positions c =
    let block = left c.args.work.now c.requires.fit c.requires.work_len.0 c.decode-answer.ensures in
    omega (arith, c.power_of_two-n.ensures, block.size)

pub outcome-requires-clause-room : goal.outcome-requires-clause-room
outcome-requires-clause-room c =
    let block = left c.args.work.now c.requires.fit c.requires.work_len.0 c.decode-answer.ensures in
    let short = outcome-short block c.power_of_two-n.result c.in-Ok.ending c.power_of_two-n.ensures c.in-Ok.is in
    start-room c.new-report.result _ c.new-report.ensures.starts (omega (arith, short, c.requires.work_len.1))

pub returns-in-Ok-clause-wrote : goal.returns-in-Ok-clause-wrote
returns-in-Ok-clause-wrote c =
    let block = left c.args.work.now c.requires.fit c.requires.work_len.0 c.decode-answer.ensures in
    let same = block-text block c.power_of_two-n.result c.in-Ok.ending c.power_of_two-n.ensures c.in-Ok.is in
    let wrote = appended-wrote c.new-report.ensures.starts.1 c.outcome.ensures in
    rw (← same) (search rules)

pub returns-in-Ok-clause-upper_bound : goal.returns-in-Ok-clause-upper_bound
returns-in-Ok-clause-upper_bound c =
    let block = left c.args.work.now c.requires.fit c.requires.work_len.0 c.decode-answer.ensures in
    let short = outcome-short block c.power_of_two-n.result c.in-Ok.ending c.power_of_two-n.ensures c.in-Ok.is in
    omega (arith, short, c.outcome.ensures.at-is, c.new-report.ensures.starts.1, c.count.ensures)
