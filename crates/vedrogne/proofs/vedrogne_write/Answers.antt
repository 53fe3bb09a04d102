-- `vedrogne_write` meets its contract.
use Rattle.std.proofs.Common.{ap, ◌∙◌}
use Rattle.std.proofs.lemmas.Result.{err_from_is_err_and}
use Rattle.settings.specs.declared.Settings.{Settings}
use Rattle.report_input.specs.Input.{block_of}
use Rattle.report_writer.specs.Writer.{write_answer, text_after}
use Rattle.vedrogne.proofs.TextPromises.{Written, write-refused, write_done}
use Rattle.vedrogne.proofs.vedrogne_write.Goals as goal
use Rattle.vedrogne.proofs.vedrogne_write.Goals.{After-write}

written : (c : After-write)
    → let a = c.args in
    Written a.settings.now (block_of a.mask.now a.llr.now) a.text.now c.write.new.text c.write.result
written c =
    let b = block_of c.args.mask.now c.args.llr.now in
    let old = c.args.text.now in
    let listed = c.in_ok-settings.ensures in
    record {
      long = listed.0;
      answer = c.write.ensures.result_value ∙ ap (λ (s : Settings). write_answer s b old) listed.1;
      after = c.write.ensures.text_after ∙ ap (λ (s : Settings). text_after s b old) listed.1;
    }

pub returns-in_err-written : goal.returns-in_err-written
returns-in_err-written c =
    let handed = c.from_residual-in_err-written in
    let p = err_from_is_err_and handed.result handed.ensures.1 in
    rw (p.1, p.2) (write-refused (written (goal.at.returns-in_err-written c).After-write) c.in_err-written.was)

pub returns : goal.returns
returns c = write_done (written (goal.at.returns c).After-write) c.in_ok-written.was
