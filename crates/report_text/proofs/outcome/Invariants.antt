use Rattle.report_text.specs.Private.{output_values}
use Rattle.report_text.proofs.outcome.Given as goal

abbrev pub ghost-position_lines : goal.ghost-position_lines
ghost-position_lines a = output_values a.values_at.0.now
