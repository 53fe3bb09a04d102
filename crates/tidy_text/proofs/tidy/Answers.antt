-- `tidy` meets its contract: the text of a refusal, or of the block that is read.
use Rattle.std.proofs.Common.{refl, sym, ap, ◌∙◌, arith}
use Rattle.format.specs.TextLaws.{refusal-length}
use Rattle.format.specs.WroteLaws.{wrote-within}
use Rattle.report_input.specs.Input.{block_of}
use Rattle.report_input.specs.ReadLaws.{cleared-long, accepted-text, refused-text}
use Rattle.report_writer.specs.WriterLaws.{first-number, tidy-first}
use Rattle.tidy_text.specs.Tidy.{tidy_of, tidy}
use Rattle.tidy_text.proofs.tidy.Goals as goal

pub refused-requires : goal.refused-requires
refused-requires c = omega (arith, refusal-length c.in-Err.refusal)

pub written-requires-clause-llr_value : goal.written-requires-clause-llr_value
written-requires-clause-llr_value c =
    let text = accepted-text c.args.text.now cleared-long c.read.ensures c.in-Ok.is refl in
    sym (first-number c.in-Ok.settings (block_of c.read.new.mask c.read.new.llr)) ∙ text.fit.number

pub returns-in-Err-clause-wrote : goal.returns-in-Err-clause-wrote
unfolding tidy
returns-in-Err-clause-wrote c =
    rw (ap tidy_of (refused-text c.args.text.now cleared-long c.read.ensures c.in-Err.is)) c.refused.ensures

pub returns-in-Err-clause-within : goal.returns-in-Err-clause-within
returns-in-Err-clause-within c =
    let w = c.refused.ensures in wrote-within w (omega (arith, w.next-is, refusal-length c.in-Err.refusal))

pub returns-in-Ok-clause-wrote : goal.returns-in-Ok-clause-wrote
unfolding tidy
returns-in-Ok-clause-wrote c =
    let text = accepted-text c.args.text.now cleared-long c.read.ensures c.in-Ok.is refl in
    rw (ap tidy_of text.is, tidy-first c.in-Ok.settings (block_of c.read.new.mask c.read.new.llr))
    c.written.ensures.wrote
