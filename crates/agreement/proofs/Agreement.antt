-- Request 2026-04: handsets decode under criterion 4 and desks under criterion 2, and for every block and setting,
-- accepted or not, the two give equal answers. First of the decoder's definitions; then of any two calls that keep the
-- promise of `decode`, of a tallied call, of a call for a radio, of the report, and of the C functions that answer with
-- what is decoded: `vedrogne_decode`, `vedrogne_decode_radio` and `vedrogne_report`.
use Rattle.std.specs.Prelude.{ℕ, zero, suc, ◌^◌, ◌≤◌, ◌≡◌, Bool, true, false, cond, List, [], ◌∷◌, leb, ℤ, length}
use Rattle.std.proofs.Math.Path.{refl, ap}
use Rattle.std.proofs.Common.{sym, ap₂, ◌∙◌}
use Rattle.calls.specs.Bounds.{largest_m}
use Rattle.calls.specs.LentMemory.{written_over, unless_refused}
use Rattle.calls.specs.LentMemoryLaws.{unless-refused-same}
use Rattle.calls.specs.Numbers.{between}
use Rattle.calls.specs.NumberLaws.{first-refusal-passed}
use Rattle.settings.specs.declared.Settings.{Settings}
use Rattle.settings.specs.Settings.{settings_number}
use Rattle.settings.specs.SettingsLaws.{settings-accepted, operand-least}
use Rattle.settings.specs.Slices.{Slices}
use Rattle.decoder.specs.Decoder.{Outcome, Ending, Result, result_of, after, ending, outputs_of, call_number, Decoded}
use Rattle.decoder.specs.ResultLaws.{result-same}
use Rattle.tally.specs.declared.Tally.{Tally}
use Rattle.tally.specs.declared.Tallied.{Tallied}
use Rattle.tally.specs.Tally.{tally_number, answer_by, tally_by, TalliedDecode}
use Rattle.radios.specs.declared.Radios.{Radios}
use Rattle.radios.specs.Radios.{radio_call_number, tallies_counted, RadioDecode}
use Rattle.scan.specs.Reading.{Reading, found, malformed}
use Rattle.report_input.specs.Input.{
  longest_text,
  Block,
  Meaning,
  read_positions,
  block_number,
  meaning_by,
  held_in,
  tested,
  sized,
  largest_room,
  meaning_in,
  meaning,
}
use Rattle.report_text.specs.Report.{outcome_text, outputs_at, block_text, workspace, text_of, report}
use Rattle.vedrogne.specs.Interface.{
  settings_in,
  settings_list_number,
  radio_first_number,
  tallies_list_after,
  result_number,
  iterations_out,
  reason_out,
  Lent,
  lent as lent_by,
  call_result,
  lent_after,
  DecodeCall,
  RadioCall,
}
use Rattle.vedrogne.specs.TextCalls.{report_call_number, TextCall}
use Rattle.agreement.specs.SameDecoding.{under, SameDecoding, list_under, reading_under, TextsDiffer}
use Rattle.agreement.proofs.Endings.{ending-agrees}

-- under criterion 2 accepted settings have an operand of at most C
operand-within : (s : Settings) → settings_number (under 2 s) ≡ 0 → (under 2 s).operand ≤ (under 2 s).ceiling
operand-within s none = (operand-least (settings-accepted (under 2 s) none) refl).1

module _ (s : Settings) (mask : List ℕ) (llr : List ℤ) (lent : Slices) where
  endings : call_number (under 2 s) mask llr lent ≡ 0
      → ending (under 4 s) mask llr lent.work ≡ ending (under 2 s) mask llr lent.work
  endings none =
      ending-agrees s (operand-within s (first-refusal-passed (settings_number (under 2 s)) _ none).0) mask llr
      lent.work

  pub criteria-agree : SameDecoding (under 4 s) (under 2 s) mask llr lent
  unfolding after
  criteria-agree = record {
    answer = result-same (call_number (under 2 s) mask llr lent) _ _ _ refl endings;
    slices =
        unless-refused-same (call_number (under 2 s) mask llr lent) _ _ lent
        (λ none.
        ap (λ (e : Ending). outputs_of (under 2 s) mask (after (under 2 s) mask llr lent.work e.iteration) lent)
        (endings none));
  }

  -- any two calls of `decode`
  pub decode-agrees : {new new' : Slices} {r r' : Outcome} → Decoded (under 4 s) mask llr lent new r
      → Decoded (under 2 s) mask llr lent new' r' → (result_of r ≡ result_of r') × (new ≡ new')
  decode-agrees four two = (
    four.answer ∙ criteria-agree.answer ∙ sym two.answer,
    four.slices ∙ criteria-agree.slices ∙ sym two.slices,
  )

  -- any two tallied calls that are handed the same tally
  pub tallied-agrees : {t : Tally} {new new' : Slices} {r r' : Tallied Tally}
      → TalliedDecode t (under 4 s) mask llr lent new r → TalliedDecode t (under 2 s) mask llr lent new' r'
      → (result_of r.outcome ≡ result_of r'.outcome) × (r.tally ≡ r'.tally) × (new ≡ new')
  tallied-agrees {t} four two = (
    four.answer ∙ ap (answer_by (tally_number t)) criteria-agree.answer ∙ sym two.answer,
    four.tally-is ∙ ap (tally_by (tally_number t) t) criteria-agree.answer ∙ sym two.tally-is,
    four.slices
        ∙ ap (λ (slices : Slices). unless_refused (tally_number t) slices lent) criteria-agree.slices
        ∙ sym two.slices,
  )

  -- any two calls for the same radio that are handed the same tallies: all 64 come back the same
  pub radio-agrees : {radio : ℕ} {radios : Radios} {new new' : Slices} {r r' : Tallied Radios}
      → RadioDecode radios radio (under 4 s) mask llr lent new r
      → RadioDecode radios radio (under 2 s) mask llr lent new' r'
      → (result_of r.outcome ≡ result_of r'.outcome) × (r.tally.tallies ≡ r'.tally.tallies) × (new ≡ new')
  radio-agrees {radio} {radios} four two =
      let first = radio_call_number radio radios.tallies in (
        four.answer ∙ ap (answer_by first) criteria-agree.answer ∙ sym two.answer,
        four.tallies-are
            ∙ ap (tallies_counted radio radios.tallies) criteria-agree.answer
            ∙ sym two.tallies-are,
        four.slices
            ∙ ap (λ (slices : Slices). unless_refused first slices lent) criteria-agree.slices
            ∙ sym two.slices,
      )

-- ---- the C functions of the decoder, by what they promise of the number returned and of all memory behind their
-- pointers

module _ (m ceiling scale limit : ℕ) (behind mask : List ℕ) (llr : List ℤ) (before : Lent) where
  abbrev list : ℕ → List ℕ
  list criterion = list_under criterion m ceiling scale limit behind

  same : SameDecoding (settings_in (list 4)) (settings_in (list 2)) mask llr before.slices
  same = criteria-agree (settings_in (list 2)) mask llr before.slices

  -- `first` is the number of what is tested before the decoder's own tests: the lengths of the lists, the radio, its
  -- tally
  results : (first : ℕ) → call_result first (list 4) mask llr before ≡ call_result first (list 2) mask llr before
  results first = ap (answer_by first) same.answer

  lent_same : (first : ℕ) → lent_after first (list 4) mask llr before ≡ lent_after first (list 2) mask llr before
  lent_same first =
      ap₂ (λ (slices : Slices) (r : Result).
      lent_by (unless_refused first slices before.slices) (iterations_out r before.iterations)
      (reason_out r before.reason))
      same.slices (results first)

  call-agrees : (first : ℕ) {new new' : Lent} {r r' : ℕ} → DecodeCall first (list 4) mask llr before new r
      → DecodeCall first (list 2) mask llr before new' r' → (r ≡ r') × (new ≡ new')
  call-agrees first four two = (
    four.number_is ∙ ap result_number (results first) ∙ sym two.number_is,
    four.lent_is ∙ lent_same first ∙ sym two.lent_is,
  )

  pub c-decode-agrees : {new new' : Lent} {r r' : ℕ}
      → DecodeCall (settings_list_number (list 4)) (list 4) mask llr before new r
      → DecodeCall (settings_list_number (list 2)) (list 2) mask llr before new' r' → (r ≡ r') × (new ≡ new')
  c-decode-agrees four two = call-agrees (settings_list_number (list 2)) four two

  pub c-radio-agrees : {radio : ℕ} {tallies counted counted' : List ℕ} {new new' : Lent} {r r' : ℕ}
      → RadioCall radio tallies counted (list 4) mask llr before new r
      → RadioCall radio tallies counted' (list 2) mask llr before new' r'
      → (r ≡ r') × (new ≡ new') × (counted ≡ counted')
  c-radio-agrees {radio} {tallies} four two =
      let calls = call-agrees (radio_first_number radio tallies (list 2)) four.call two.call in (
        calls.0,
        calls.1,
        four.tallies-are ∙ ap (tallies_list_after radio tallies (list 2)) same.answer ∙ sym two.tallies-are,
      )

-- ---- the report, of two texts that differ in the criterion alone, refused ones among them

-- the text of an accepted block
blocks-same : (s : Settings) (b : Block) → (under 2 s).operand ≤ (under 2 s).ceiling
    → block_text (under 4 s) b workspace ≡ block_text (under 2 s) b workspace
unfolding after
blocks-same s b within =
    ap (λ (e : Ending).
    outcome_text e (2 ^ s.m)
    (outputs_at (under 2 s) b.mask (after (under 2 s) b.mask b.llr workspace e.iteration)))
    (ending-agrees s within b.mask b.llr workspace)

-- of a block by its number
meant-same : (s : Settings) (b : Block) (number : ℕ) → (number ≡ 0 → (under 2 s).operand ≤ (under 2 s).ceiling)
    → text_of (meaning_by number (under 4 s) b) ≡ text_of (meaning_by number (under 2 s) b)
meant-same s b zero within = blocks-same s b (within refl)
meant-same s b (suc number) within = refl

-- of the lines of positions, whatever was read of them
tested-same : (s : Settings) (read : Reading Block)
    → text_of (tested largest_room (under 4 s) read) ≡ text_of (tested largest_room (under 2 s) read)
tested-same s (found b []) =
    meant-same s b (block_number (under 2 s) (held_in largest_room b))
    (λ none. operand-within s (first-refusal-passed (settings_number (under 2 s)) _ none).0)
tested-same s (found b (x ∷ behind)) = refl
tested-same s malformed = refl

-- a test that both texts pass or fail
cond_same : (test : Bool) (a b c : Meaning) → text_of a ≡ text_of b → text_of (cond test a c) ≡ text_of (cond test b c)
cond_same true a b c e = e
cond_same false a b c e = refl

-- of the first three lines
sized_same : (reading : Reading Settings)
    → text_of (sized largest_room (reading_under 4 reading)) ≡ text_of (sized largest_room (reading_under 2 reading))
sized_same (found s rest) =
    cond_same (between 1 largest_m s.m) _ _ _ (tested-same s (read_positions (2 ^ s.m) 0 rest))
sized_same malformed = refl

pub report-agrees : {reading : Reading Settings} {t t' : List ℕ} → TextsDiffer reading t t' → report t ≡ report t'
unfolding report meaning meaning_in
report-agrees {reading} {t} {t'} differ =
    rw (differ.four, differ.two, differ.lengths)
    (cond_same (leb (length t') longest_text) _ _ _ (sized_same reading))

-- `vedrogne_report`, lent the same memory: the number returned, the slice and the length of the report in it
pub c-report-agrees : {reading : Reading Settings} {t t' : List ℕ} → TextsDiffer reading t t'
    → {old new new' : List ℕ} {written written₁ written₂ r r' : ℕ}
    → TextCall (report_call_number (length old)) (report t) old new written written₁ r
    → TextCall (report_call_number (length old)) (report t') old new' written written₂ r'
    → (r ≡ r') × (new ≡ new') × (written₁ ≡ written₂)
c-report-agrees differ {old} {written = written} four two =
    let number = report_call_number (length old) in
    let same = report-agrees differ in (
      four.number_is ∙ sym two.number_is,
      four.text-is ∙ ap (λ (text : List ℕ). unless_refused number (written_over text old) old) same ∙ sym two.text-is,
      four.written_is
          ∙ ap (λ (text : List ℕ). unless_refused number (length text) written) same
          ∙ sym two.written_is,
    )
