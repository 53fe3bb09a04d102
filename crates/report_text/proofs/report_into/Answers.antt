-- `report_into` meets its contract: the report of a refusal, or of the block that is read.
use Rattle.std.proofs.Common.{refl, sym, ap, ◌∙◌, arith}
use Rattle.std.proofs.lemmas.List.{length-take}
use Rattle.format.specs.TextLaws.{refusal-length}
use Rattle.report_input.specs.ReadLaws.{cleared-long, accepted-text, refused-text}
use Rattle.report_text.specs.Report.{text_of, report}
use Rattle.report_text.specs.ReportLaws.{fit_length}
use Rattle.report_text.proofs.report_into.Goals as goal

pub refused-requires : goal.refused-requires
refused-requires c = omega (arith, refusal-length c.in-Err.refusal, c.requires)

pub power_of_two-n-requires : goal.power_of_two-n-requires
power_of_two-n-requires c =
    fit_length (accepted-text c.args.text.now cleared-long c.read.ensures c.in-Ok.is refl).fit

pub slice_bounds-mask-end : goal.slice_bounds-mask-end
slice_bounds-mask-end c =
    let n = c.power_of_two-n in
    let text = accepted-text c.args.text.now cleared-long c.read.ensures c.in-Ok.is n.ensures in
    omega (arith, length-take n.result c.read.new.mask, n.ensures, text.fit.long.mask-long)

pub slice_bounds-decoded-end : goal.slice_bounds-decoded-end
slice_bounds-decoded-end c =
    let n = c.power_of_two-n.ensures in
    n ∙ sym (accepted-text c.args.text.now cleared-long c.read.ensures c.in-Ok.is n).fit.long.mask-long

pub slice_bounds-llr-end : goal.slice_bounds-llr-end
slice_bounds-llr-end c =
    let n = c.power_of_two-n in
    let text = accepted-text c.args.text.now cleared-long c.read.ensures c.in-Ok.is n.ensures in
    omega (arith, length-take n.result c.read.new.llr, n.ensures, text.fit.long.llr-long)

pub slice_bounds-decoded-end-in-Ok : goal.slice_bounds-decoded-end-in-Ok
slice_bounds-decoded-end-in-Ok c =
    let n = c.power_of_two-n.ensures in
    n ∙ sym (accepted-text c.args.text.now cleared-long c.read.ensures c.in-Ok.is n).fit.long.llr-long

pub decoded-requires-clause-fit : goal.decoded-requires-clause-fit
decoded-requires-clause-fit c =
    (accepted-text c.args.text.now cleared-long c.read.ensures c.in-Ok.is c.power_of_two-n.ensures).fit

pub returns-in-Err-clause-wrote : goal.returns-in-Err-clause-wrote
unfolding report
returns-in-Err-clause-wrote c =
    rw (ap text_of (refused-text c.args.text.now cleared-long c.read.ensures c.in-Err.is)) c.refused.ensures

pub returns-in-Err-clause-upper_bound : goal.returns-in-Err-clause-upper_bound
returns-in-Err-clause-upper_bound c = omega (arith, c.refused.ensures.next-is, refusal-length c.in-Err.refusal)

pub returns-in-Ok-clause-wrote : goal.returns-in-Ok-clause-wrote
unfolding report
returns-in-Ok-clause-wrote c =
    let text = accepted-text c.args.text.now cleared-long c.read.ensures c.in-Ok.is c.power_of_two-n.ensures in
    rw (ap text_of text.is) c.decoded.ensures.wrote
