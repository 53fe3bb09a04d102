-- Request 2026-05: what a dispatcher's list of tallies means. Definitions only.
use Rattle.std.specs.Prelude.{ℕ, zero, suc, ◌-◌, ◌≡◌, cond, List, [], ◌∷◌, leb, length, set, Result, Ok, Err}
use Rattle.calls.specs.declared.Refusal.{Refusal}
use Rattle.calls.specs.Numbers.{refusal_number, check, first_refusal}
use Rattle.calls.specs.Texts.{bytes}
use Rattle.tally.specs.declared.Tally.{Tally}
use Rattle.tally.specs.Tally.{most_blocks, consistent}
use Rattle.radios.specs.Radios.{radio_count, radio_number}
use Rattle.radios.specs.Runs.{no_blocks}
use Rattle.scan.specs.Reading.{Reading, found, bind, if_found}
use Rattle.scan.specs.Lines.{item, literal}
use Rattle.radio_list.specs.declared.RadioList.{RadioList}
pub use Rattle.radios.specs.declared.Entry.{Entry}

-- the most bytes of an accepted list
abbrev pub longest_list : ℕ
longest_list = 32768

abbrev pub list_names : List ℕ
list_names = bytes "radio blocks criterion limit refusals iterations\n"

-- ---- the line of a radio

-- its six numbers, in the order of their names
unfoldable pub radio_line : List ℕ → Reading Entry
radio_line s =
    bind (item 5 s) (λ radio s.
    bind (item 4 s) (λ blocks s.
    bind (item 3 s) (λ by-criterion s.
    bind (item 2 s) (λ by-limit s.
    bind (item 1 s) (λ refusals s.
    bind (item 0 s) (λ iterations s.
    let tally : Tally =
    record {
      blocks = blocks;
      by_criterion = by-criterion;
      by_limit = by-limit;
      refusals = refusals;
      iterations = iterations;
    } in
    found (record { radio = radio; tally = tally }) s))))))

-- 15: more than 1,000,000 blocks, or numbers that can't be counts. A full tally is listed too
abbrev pub listed_number : Tally → ℕ
listed_number t = check (leb t.blocks most_blocks) 15 (check (consistent t) 15 0)

-- 16, then 14 where the radio is below `least`, then 15
abbrev pub entry_number : ℕ → Entry → ℕ
entry_number least e =
    first_refusal (radio_number e.radio) (check (leb least e.radio) 14 (listed_number e.tally))

-- a line that passes its tests and the text after it, or the number that refuses it
pub data Checked : Type 0 where
  passed : Entry → List ℕ → Checked
  failed : ℕ → Checked

abbrev pub checked_by : ℕ → Entry → List ℕ → Checked
checked_by zero e s = passed e s
checked_by (suc number) e s = failed (suc number)

unfoldable pub checked_line : ℕ → List ℕ → Checked
checked_line least s = if_found (radio_line s) (failed 14) (λ e s. checked_by (entry_number least e) e s)

-- ---- the meaning: the tallies of all radios, or the number of a refusal

pub data Listed : Type 0 where
  refused : ℕ → Listed
  listed : List Tally → Listed

-- what a text that has ended means, and one that has not
abbrev pub at_end : List ℕ → Listed → Listed → Listed
at_end [] end more = end
at_end (b ∷ s) end more = more

abbrev pub go_on : Checked → (Entry → List ℕ → Listed) → Listed
go_on (passed e s) next = next e s
go_on (failed number) next = refused number

-- the lines to the end of the text, where the radio must be `least` or above: each puts its tally at its radio,
-- and the first that fails decides. Fewer than n lines can pass
unfoldable pub read_lines : ℕ → ℕ → List Tally → List ℕ → Listed
read_lines zero least tallies s = refused 14
read_lines (suc n) least tallies s =
    at_end s (listed tallies)
    (go_on (checked_line least s) (λ e s. read_lines n (suc e.radio) (set tallies e.radio e.tally) s))

-- each of the radios from `least` on has at most one line that passes
abbrev pub lines_from : ℕ → List Tally → List ℕ → Listed
lines_from least tallies s = read_lines (suc radio_count - least) least tallies s

-- a text that is too long, or has another first line, is 14 before anything else
unfoldable pub meaning : List ℕ → Listed
meaning t =
    cond (leb (length t) longest_list)
    (if_found (literal list_names t) (refused 14) (λ _ s. lines_from 0 no_blocks s))
    (refused 14)

-- ---- the promise of `read`: its answer and all tallies, by the meaning of the text

abbrev pub tallies_listed : Listed → List Tally
tallies_listed (refused number) = no_blocks
tallies_listed (listed tallies) = tallies

-- what an answer says of a text, with the tallies beside it
abbrev pub meant : Result Unit Refusal → List Tally → Listed
meant (Ok accepted) tallies = listed tallies
meant (Err refusal) tallies = refused (refusal_number refusal)

-- after a refusal the tallies are five zeros for each radio
pub record ListRead (means : Listed) (r : RadioList) : Type 0 where
  pub answer : meant r.answer r.radios.tallies ≡ means
  pub tallies-are : r.radios.tallies ≡ tallies_listed means
