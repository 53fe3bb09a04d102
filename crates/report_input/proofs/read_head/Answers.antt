-- `read_head` meets its contract.
use Rattle.report_input.specs.Input.{head}
use Rattle.report_input.proofs.read_head.Goals as goal

pub returns : goal.returns
unfolding head
returns c =
    rw (c.in_ok-text.ensures, c.in_ok-text-2.ensures.text_value, c.in_ok-text-3.ensures, c.settings_of.ensures)
