-- What the C functions on texts return and write: the reader, the writer and the report. Definitions only.
use Rattle.std.specs.Prelude.{ℕ, zero, suc, ◌≡◌, List, leb, length}
use Rattle.calls.specs.LentMemory.{written_over, unless_refused}
use Rattle.calls.specs.Numbers.{check, first_refusal}
use Rattle.settings.specs.Settings.{settings_list}
use Rattle.report_input.specs.Input.{Block, Meaning, refused, block, number_in, meaning_in, room_of, block_after}
use Rattle.report_text.specs.Report.{report_room}
use Rattle.report_writer.specs.Writer.{write_number}
use Rattle.vedrogne.specs.Interface.{settings_in, settings_list_number}

-- ---- the reader

-- 7 for a short list of settings comes before everything
abbrev pub unless_short : ℕ → Meaning → Meaning
unless_short zero means = means
unless_short (suc number) means = refused (suc number)

-- the list of settings: all of them in its first elements, the old contents after them
abbrev pub settings_after : Meaning → List ℕ → List ℕ
settings_after (refused number) old = old
settings_after (block s b) old = written_over (settings_list s) old

-- what a text means to a caller who lends a list of settings, and slices for mask and LLRs
abbrev pub read_meaning : List ℕ → Block → List ℕ → Meaning
read_meaning settings lent text = unless_short (settings_list_number settings) (meaning_in (room_of lent) text)

-- the promise of `vedrogne_read`, by that meaning
pub record ReadCall (means : Meaning) (settings settings' : List ℕ) (before after : Block) (r : ℕ) : Type 0 where
  pub number_is : r ≡ number_in means
  pub settings-is : settings' ≡ settings_after means settings
  pub block-is : after ≡ block_after means before

-- ---- the writer and the report

abbrev pub write_call_number : List ℕ → Block → ℕ → ℕ
write_call_number settings b room =
    first_refusal (settings_list_number settings) (write_number (settings_in settings) b room)

-- 7, for a slice with fewer than 32,768 elements; a refused text has a report too
abbrev pub report_call_number : ℕ → ℕ
report_call_number room = check (leb report_room room) 7 0

-- the promise of both, by the call's number and the text that it writes, with its length in a number that is lent
pub record TextCall (number : ℕ) (text old new : List ℕ) (written written' : ℕ) (r : ℕ) : Type 0 where
  pub number_is : r ≡ number
  pub text-is : new ≡ unless_refused number (written_over text old) old
  pub written_is : written' ≡ unless_refused number (length text) written
