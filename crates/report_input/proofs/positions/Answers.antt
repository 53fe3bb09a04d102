-- `positions` meets its contract.
use Rattle.std.proofs.Common.{pow_mono}
use Rattle.report_input.proofs.positions.Goals as goal

pub returns-clause-upper_bound : goal.returns-clause-upper_bound
returns-clause-upper_bound c = rw c.power_of_two.ensures (pow_mono c.requires)
