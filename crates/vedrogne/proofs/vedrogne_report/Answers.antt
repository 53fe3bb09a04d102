-- `vedrogne_report` meets its contract.
use native.Mathlib.Omega.{arith}
use Rattle.vedrogne.proofs.TextPromises.{report-done}
use Rattle.vedrogne.proofs.vedrogne_report.Goals as goal

pub returns : goal.returns
returns c = report-done (omega arith) c.report_into.ensures.wrote c.report_into.ensures.upper_bound
