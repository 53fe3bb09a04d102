-- `step` meets its contract.
use Rattle.settings.specs.Slices.{slices}
use Rattle.decoder.proofs.Stepping.{Iterated, triable, one-iteration}
use Rattle.decoder.proofs.step.Goals as goal
use Rattle.decoder.proofs.step.Goals.{After-iterate}

iterated : (c : After-iterate)
    → let a = c.args in
    let new = c.iterate.new in
    Iterated a.settings a.mask.now
    (slices a.soft.now a.mark.now a.coded_soft.now a.coded_mark.now a.work.now)
    new.soft new.coded_soft new.coded_mark new.work
iterated c =
    let e = c.iterate.ensures in
    record {
      fits = c.requires.outputs_fit;
      work-is = e.work_after;
      soft-is = e.soft_after;
      coded_soft-is = e.coded_soft_after;
      coded_mark-is = e.coded_mark_after;
    }

pub try_criterion-requires-clause-soft_values : goal.try_criterion-requires-clause-soft_values
try_criterion-requires-clause-soft_values c =
    triable (iterated (goal.at.try_criterion-requires-clause-soft_values c).After-iterate)
    c.requires.workspace_valid.in-range.ceiling-le

pub returns : goal.returns
returns c =
    one-iteration (iterated (goal.at.returns c).After-iterate) c.criterion_of.ensures c.try_criterion.ensures
