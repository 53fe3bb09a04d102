-- `coded_outputs` meets its contract.
use Rattle.criteria.specs.SliceLaws.{marked}
use Rattle.decoder.proofs.Workspace.coded_outputs.Goals as goal

pub returns-clause-coded_mark_after : goal.returns-clause-coded_mark_after
returns-clause-coded_mark_after c =
    (marked (record { is = c.coded_soft_outputs.ensures }) c.requires.0 c.args.coded_mark.now _
    (rw c.power_of_two.ensures at c.mark_all.ensures))
