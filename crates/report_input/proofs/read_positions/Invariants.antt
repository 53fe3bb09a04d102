use Rattle.std.proofs.Common.{◌≡◌, ◌-◌, length, take}
use Rattle.report_input.specs.Input.{block_of, read_positions}
use Rattle.report_input.specs.InputLaws.{prefixed}
use Rattle.report_input.specs.StoredPositions.{positions_stored, stored_from}
use Rattle.report_input.proofs.read_positions.Given as goal

abbrev pub invariant-loop-i : goal.invariant-loop-i
invariant-loop-i l = (read_positions (length l.initial.mask) 0 l.text
    ≡ prefixed (take l.i l.mask) (take l.i l.llr) (read_positions (length l.initial.mask - l.i) l.i l.rest))
    × (stored_from l.i (positions_stored (length l.initial.mask - l.i) l.i l.rest) (block_of l.mask l.llr)
    ≡ stored_from 0 (positions_stored (length l.initial.mask) 0 l.text) (block_of l.initial.mask l.initial.llr))
