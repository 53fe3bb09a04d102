-- `written` meets its contract: an accepted block has room, so it isn't refused.
use Rattle.std.proofs.Common.{ℕ, List, ◌≤◌, sym, ◌∙◌, arith, zero-add, length}
use Rattle.std.specs.Prelude.{◌≡◌, Result, Err}
use Rattle.calls.specs.declared.Refusal.{Refusal}
use Rattle.calls.specs.LentMemoryLaws.{written-sets}
use Rattle.calls.specs.NumberLaws.{refusal-positive}
use Rattle.format.specs.TextLaws.{refusal-length}
use Rattle.report_input.specs.Input.{Block, block_of, block_number}
use Rattle.report_writer.specs.Writer.{tidy_text, longest_tidy_text, write_answer, answer_of}
use Rattle.report_writer.specs.RoomLaws.{tidy-length, written-number, written-text, answered-refused, answered-written}
use Rattle.settings.specs.declared.Settings.{Settings}
use Rattle.tidy_text.proofs.written.Goals as goal

module _ (s : Settings) (b : Block) (none : block_number s b ≡ 0) (old : List ℕ) (room : longest_tidy_text ≤ length old)
  where
    fits : length (tidy_text s b) ≤ length old
    fits = omega (arith, room, tidy-length s b none)

    accepted : {r : Result ℕ Refusal} {refusal : Refusal} → answer_of r ≡ write_answer s b old → r ≡ Err refusal → ⊥
    accepted {r} {refusal} answer is =
        refusal-positive refusal (sym (written-number s b old none fits) ∙ answered-refused s b old r answer is)

pub refused-requires : goal.refused-requires
refused-requires c = omega (arith, refusal-length c.in-Err.refusal, c.requires.longest_tidy_text_in_bounds)

pub returns-in-Ok-clause-wrote : goal.returns-in-Ok-clause-wrote
returns-in-Ok-clause-wrote c =
    let a = c.args in
    let s = a.settings in
    let b = block_of a.mask.now a.llr.now in
    let none = c.requires.llr_value in
    let room = fits s b none a.out.now c.requires.longest_tidy_text_in_bounds in
    record {
      new_is =
          c.write.ensures.text_after ∙ sym (written-text s b a.out.now none room)
          ∙ sym (written-sets (tidy_text s b) a.out.now room);
      next-is =
          (answered-written s b a.out.now c.write.result c.write.ensures.result_value c.in-Ok.is).1
          ∙ sym (zero-add (length (tidy_text s b)));
    }

pub returns-in-Ok-clause-upper_bound : goal.returns-in-Ok-clause-upper_bound
returns-in-Ok-clause-upper_bound c =
    let s = c.args.settings in
    let b = block_of c.args.mask.now c.args.llr.now in
    rw ((answered-written s b c.args.out.now c.write.result c.write.ensures.result_value c.in-Ok.is).1)
    (tidy-length s b c.requires.llr_value)

pub returns-in-Err-clause-wrote : goal.returns-in-Err-clause-wrote
returns-in-Err-clause-wrote c =
    let b = block_of c.args.mask.now c.args.llr.now in
    let pre = c.requires in
    absurd (accepted c.args.settings b pre.llr_value _ pre.longest_tidy_text_in_bounds c.write.ensures.result_value
    c.in-Err.is)

pub returns-in-Err-clause-upper_bound : goal.returns-in-Err-clause-upper_bound
returns-in-Err-clause-upper_bound c =
    let b = block_of c.args.mask.now c.args.llr.now in
    let pre = c.requires in
    absurd (accepted c.args.settings b pre.llr_value _ pre.longest_tidy_text_in_bounds c.write.ensures.result_value
    c.in-Err.is)
