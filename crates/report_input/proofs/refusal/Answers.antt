-- `refusal` meets its contract.
use Rattle.std.proofs.Common.{arith}
use Rattle.std.proofs.lemmas.Grind.{common_steps}
use Rattle.report_input.specs.InputLaws.{lines_ended}
use Rattle.report_input.proofs.refusal.Goals as goal

pub returns-clause-value : goal.returns-clause-value
returns-clause-value c = grind (arith, common_steps, lines_ended)

pub returns-clause-roomy : goal.returns-clause-roomy
returns-clause-roomy c = grind (arith, common_steps)
