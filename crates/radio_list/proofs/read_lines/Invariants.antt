use Rattle.std.proofs.Common.{◌≡◌, ◌-◌, ◌≤◌}
use Rattle.radios.specs.Radios.{radio_count}
use Rattle.radios.specs.Runs.{no_blocks}
use Rattle.radio_list.specs.RadioList.{lines_from}
use Rattle.radio_list.proofs.read_lines.Given as goal

abbrev pub invariant-loop-rest : goal.invariant-loop-rest
invariant-loop-rest l =
    (lines_from 0 no_blocks l.text ≡ lines_from l.least l.radios.tallies l.rest) × (l.least ≤ radio_count)

abbrev pub decreases-loop-rest : goal.decreases-loop-rest
decreases-loop-rest l = radio_count - l.least
