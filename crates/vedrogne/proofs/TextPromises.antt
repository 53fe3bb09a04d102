-- The promises of the functions on texts, from the ways in which each returns.
use Prim.Native.Nat.{ℕ, suc, ◌≤◌}
use mathlib.Core.Path.{◌≡◌, sym, ap, ◌∙◌}
use mathlib.Core.List.{List}
use native.Mathlib.Omega.{arith}
use native.Mathlib.Nat.{zero-add}
use borrow.Author.Tests.{le-leb}
use lib.ListN.{length}
use Rattle.calls.specs.declared.Refusal.{Refusal}
use Rattle.calls.specs.LentMemory.{written_over, unless_refused}
use Rattle.calls.specs.LentMemoryLaws.{written-sets}
use Rattle.calls.specs.Numbers.{refusal_number}
use Rattle.calls.specs.NumberLaws.{refused-keeps}
use Rattle.format.specs.Wrote.{Wrote}
use Rattle.settings.specs.declared.Settings.{Settings}
use Rattle.std.specs.Prelude.{Result, Ok, Err}
use Rattle.report_input.specs.Input.{Block}
use Rattle.report_text.specs.Report.{report_room}
use Rattle.report_writer.specs.Writer.{write_number, write_answer, tidy_text, text_after}
use Rattle.report_writer.specs.Writer as writer
use Rattle.report_writer.specs.RoomLaws as writer-laws
use Rattle.vedrogne.specs.Interface.{settings_in, settings_list_number}
use Rattle.vedrogne.specs.TextCalls.{write_call_number, report_call_number, TextCall}

-- ---- a text that is written

-- what is promised, by the number
module _ (text old : List ℕ) (held : ℕ) where
  abbrev slice : ℕ → List ℕ
  slice number = unless_refused number (written_over text old) old

  abbrev count : ℕ → ℕ
  count number = unless_refused number (length text) held

pub text-refused : {number refusal : ℕ} {text old : List ℕ} {held : ℕ} → number ≡ suc refusal
    → TextCall number text old old held held (suc refusal)
text-refused {text = text} {old} {held} h = record {
  number_is = sym h;
  text-is = ap (slice text old held) (sym h);
  written_is = ap (count text old held) (sym h);
}

text-done : {number : ℕ} {text old new : List ℕ} {held length' : ℕ} → number ≡ 0
    → new ≡ written_over text old → length' ≡ length text → TextCall number text old new held length' 0
text-done {text = text} {old} {held = held} h e f = record {
  number_is = sym h;
  text-is = e ∙ ap (slice text old held) (sym h);
  written_is = f ∙ ap (count text old held) (sym h);
}

-- `vedrogne_write` where the list of settings is long enough and the writer has been called: its two ways
pub record Written (settings : List ℕ) (b : Block) (old new : List ℕ) (r : Result ℕ Refusal) : Type 0 where
  pub long : settings_list_number settings ≡ 0
  pub answer : writer.answer_of r ≡ write_answer (settings_in settings) b old
  pub after : new ≡ text_after (settings_in settings) b old

module _ {settings : List ℕ} {b : Block} {old new : List ℕ} {r : Result ℕ Refusal} (h : Written settings b old new r)
  where
    abbrev s : Settings
    s = settings_in settings

    tested : write_call_number settings b (length old) ≡ write_number s b (length old)
    tested = rw h.long

    -- what is promised: the number of bytes before and after, and the number returned
    abbrev Promise : ℕ → ℕ → ℕ → Type 0
    Promise = TextCall (write_call_number settings b (length old)) (tidy_text s b) old new

    pub write-refused : {refusal : Refusal} {held : ℕ} → r ≡ Err refusal
        → Promise held held (refusal_number refusal)
    write-refused {refusal} {held} e =
        let n = writer-laws.answered-refused s b old r h.answer e in
        record {
          number_is = sym (tested ∙ n);
          text-is = h.after ∙ rw tested;
          written_is = rw (tested, n) (sym (refused-keeps refusal _ held));
        }

    pub write_done : {k held : ℕ} → r ≡ Ok k → Promise held k 0
    write_done e =
        let n = writer-laws.answered-written s b old r h.answer e in
        text-done (tested ∙ n.0) (h.after ∙ rw n.0) n.1

-- the way of `vedrogne_report` where there is room
pub report-done : {text old new : List ℕ} {written k : ℕ} → report_room ≤ length old → Wrote old 0 text new k
    → k ≤ report_room → TextCall (report_call_number (length old)) text old new written k 0
report-done {text} {old} room w short =
    text-done (rw (le-leb report_room (length old) room))
    (w.new_is ∙ written-sets text old (omega (arith, w.next-is)))
    (w.next-is ∙ zero-add (length text))
