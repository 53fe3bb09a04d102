use Rattle.report_input.specs.Input.{block_of}
use Rattle.report_writer.specs.Writer.{values_at}
use Rattle.report_writer.proofs.compose.Given as goal

abbrev pub ghost-position_lines : goal.ghost-position_lines
ghost-position_lines a = values_at (block_of a.values_at.0.now a.values_at.1.now)
