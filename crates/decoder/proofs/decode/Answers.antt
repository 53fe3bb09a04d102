-- `decode` meets its contract.
use Rattle.std.proofs.Common.{sym, ◌∙◌}
use Rattle.settings.specs.Slices.{slices}
use Rattle.decoder.proofs.Deciding.{Begun, begun, work-valid, work-fits, decoded-run, decoded-limit}
use Rattle.decoder.proofs.decode.Goals as goal
use Rattle.decoder.proofs.decode.Goals.{After-begin}

start : (c : After-begin)
    → let a = c.args in
    Begun a.settings a.mask.now a.llr.now
    (slices a.soft.now a.mark.now a.coded_soft.now a.coded_mark.now a.work.now) c.begin.new.work
start c = begun c.refusal.ensures c.in_ok-refusal.was c.begin.ensures

pub run_to_limit-ending-requires-clause-workspace_valid : goal.run_to_limit-ending-requires-clause-workspace_valid
run_to_limit-ending-requires-clause-workspace_valid c =
    work-valid (start (goal.at.run_to_limit-ending-requires-clause-workspace_valid c).After-begin)

pub returns-in-Never : goal.returns-in-Never
returns-in-Never c =
    decoded-limit (start (goal.at.returns-in-Never c).After-begin) (sym c.criterion_of.ensures ∙ c.in-Never.is)
    c.run_to_limit-ending.ensures

pub run-ending-requires-clause-workspace_valid : goal.run-ending-requires-clause-workspace_valid
run-ending-requires-clause-workspace_valid c =
    work-valid (start (goal.at.run-ending-requires-clause-workspace_valid c).After-begin)

pub run-ending-requires-clause-outputs_fit : goal.run-ending-requires-clause-outputs_fit
run-ending-requires-clause-outputs_fit c =
    work-fits (start (goal.at.run-ending-requires-clause-outputs_fit c).After-begin)

pub returns-in_default : goal.returns-in_default
returns-in_default c =
    decoded-run (start (goal.at.returns-in_default c).After-begin) c.run-ending.ensures
