-- Request 2026-04: handsets decode under criterion 4 and desks under criterion 2, and for every block and setting,
-- accepted or not, the two give equal answers. Handset and desk are two machines: the memory lent to be written has the
-- same lengths in both calls, and may hold anything. First of the decoder's definitions; then of any two calls that
-- keep the promise of `decode`, of a tallied call, of a call for a radio, of the report, and of the C functions that
-- answer with what is decoded: `vedrogne_decode`, `vedrogne_decode_radio` and `vedrogne_report`. (`Agreement` has the
-- two calls that are lent the same contents.)
use Rattle.std.specs.Prelude.{ℕ, zero, suc, ◌≡◌, refl, List, ℤ, length}
use Rattle.std.proofs.Common.{sym, ◌∙◌, arith}
use Rattle.std.proofs.Math.Path.{ap}
use Rattle.calls.specs.LentMemory.{written_over, unless_refused, SameWritten}
use Rattle.calls.specs.LentMemoryLaws.{same-before-rest, none_written}
use Rattle.calls.specs.Numbers.{first_refusal}
use Rattle.settings.specs.declared.Settings.{Settings}
use Rattle.settings.specs.Slices.{Slices}
use Rattle.decoder.specs.Decoder.{Outcome, Ending, Result, refused, ended, result_of, result_by, ending, call_number}
use Rattle.decoder.specs.Decoder.{decode_slices, Decoded}
use Rattle.decoder.specs.SameDecoding.{SameSlices, SameDecoding}
use Rattle.decoder.specs.SameDecodingLaws.{old-contents-unread, same-slices-first}
use Rattle.tally.specs.declared.Tally.{Tally}
use Rattle.tally.specs.declared.Tallied.{Tallied}
use Rattle.tally.specs.Tally.{tally_number, answer_by, tally_by, TalliedDecode}
use Rattle.radios.specs.declared.Radios.{Radios}
use Rattle.radios.specs.Radios.{radio_call_number, tallies_counted, RadioDecode}
use Rattle.scan.specs.Reading.{Reading}
use Rattle.report_text.specs.Report.{report}
use Rattle.vedrogne.specs.Interface.{settings_in, settings_list_number, radio_first_number, tallies_list_after}
use Rattle.vedrogne.specs.Interface.{result_number, iterations_out, reason_out, Lent, call_result, lent_after}
use Rattle.vedrogne.specs.Interface.{DecodeCall, RadioCall}
use Rattle.vedrogne.specs.TextCalls.{report_call_number, TextCall}
use Rattle.agreement.specs.SameDecoding.{under, list_under, TextsDiffer}
use Rattle.agreement.proofs.Agreement.{criteria-agree as agree, report-agrees}
use Rattle.agreement.specs.OtherContentsCalls.{SameLengths, SameWrittenNumber, SameLent}

-- ---- two calls that are lent slices of the same lengths

module _ (s : Settings) (mask : List ℕ) (llr : List ℤ) (lent lent' : Slices)
    (lengths : SameLengths lent lent') where
  pub criteria-agree : SameDecoding (under 4 s) (under 2 s) mask llr lent lent'
  criteria-agree =
      let unread = old-contents-unread (under 2 s) mask llr lent lent' lengths in
      record {
        answer = (agree s mask llr lent).answer ∙ unread.answer;
        slices = rw (agree s mask llr lent).slices unread.slices;
      }

  -- any two calls of `decode`
  pub decode-agrees : {new new' : Slices} {r r' : Outcome} → Decoded (under 4 s) mask llr lent new r
      → Decoded (under 2 s) mask llr lent' new' r'
      → (result_of r ≡ result_of r') × SameSlices (call_number (under 4 s) mask llr lent) s.m lent lent' new new'
  decode-agrees four two = (
    four.answer ∙ criteria-agree.answer ∙ sym two.answer,
    rw (four.slices, two.slices) criteria-agree.slices,
  )

  -- the slices after tests that come before the decoder's own
  slices-after : (first : ℕ) {new new' : Slices}
      → new ≡ unless_refused first (decode_slices (under 4 s) mask llr lent) lent
      → new' ≡ unless_refused first (decode_slices (under 2 s) mask llr lent') lent'
      → SameSlices (first_refusal first (call_number (under 4 s) mask llr lent)) s.m lent lent' new new'
  slices-after first four two =
      rw (four, two)
      (same-slices-first first (call_number (under 4 s) mask llr lent) s.m lent lent' _ _ criteria-agree.slices)

  -- any two tallied calls that are handed the same tally
  pub tallied-agrees : {t : Tally} {new new' : Slices} {r r' : Tallied Tally}
      → TalliedDecode t (under 4 s) mask llr lent new r → TalliedDecode t (under 2 s) mask llr lent' new' r'
      → (result_of r.outcome ≡ result_of r'.outcome) × (r.tally ≡ r'.tally)
      × SameSlices (first_refusal (tally_number t) (call_number (under 4 s) mask llr lent)) s.m lent lent' new new'
  tallied-agrees {t} four two = (
    four.answer ∙ ap (answer_by (tally_number t)) criteria-agree.answer ∙ sym two.answer,
    four.tally-is ∙ ap (tally_by (tally_number t) t) criteria-agree.answer ∙ sym two.tally-is,
    slices-after (tally_number t) four.slices two.slices,
  )

  -- any two calls for the same radio that are handed the same tallies: all 64 come back the same
  pub radio-agrees : {radio : ℕ} {radios : Radios} {new new' : Slices} {r r' : Tallied Radios}
      → RadioDecode radios radio (under 4 s) mask llr lent new r
      → RadioDecode radios radio (under 2 s) mask llr lent' new' r'
      → (result_of r.outcome ≡ result_of r'.outcome) × (r.tally.tallies ≡ r'.tally.tallies)
      × SameSlices (first_refusal (radio_call_number radio radios.tallies) (call_number (under 4 s) mask llr lent))
      s.m lent lent' new new'
  radio-agrees {radio} {radios} four two =
      let first = radio_call_number radio radios.tallies in (
        four.answer ∙ ap (answer_by first) criteria-agree.answer ∙ sym two.answer,
        four.tallies-are
            ∙ ap (tallies_counted radio radios.tallies) criteria-agree.answer
            ∙ sym two.tallies-are,
        slices-after first four.slices two.slices,
      )

-- ---- the C functions of the decoder, by what they promise of the number returned and of all memory behind their
-- pointers

-- an answer by two numbers: `first`, of the tests before the decoder's own, and `number`, of the decoder's. `returned`
-- is what C returns; `number_same` is of a number behind a pointer, which an ending sets and a refusal leaves
module _ (e : Ending) where
  abbrev answered : ℕ → ℕ → Result
  answered first number = answer_by first (result_by number e)

  returned : (first number : ℕ) → result_number (answered first number) ≡ first_refusal first number
  returned zero zero = refl
  returned zero (suc number) = refl
  returned (suc first) number = refl

  module _ (out : Result → ℕ → ℕ) (keeps : (number old : ℕ) → out (refused number) old ≡ old)
      (sets : (t reason old old' : ℕ) → out (ended t reason) old ≡ out (ended t reason) old') where
    kept-number : (number old old' : ℕ)
        → SameWrittenNumber (suc number) old old' (out (refused (suc number)) old) (out (refused (suc number)) old')
    kept-number number old old' = record {
      accepted = λ none. absurd (omega arith);
      kept = λ some. (keeps (suc number) old, keeps (suc number) old');
    }

    number_same : (first number old old' : ℕ)
        → SameWrittenNumber (first_refusal first number) old old' (out (answered first number) old)
        (out (answered first number) old')
    number_same zero zero old old' = record {
      accepted = λ none. sets e.iteration e.reason old old';
      kept = λ some. absurd (some refl);
    }
    number_same zero (suc number) old old' = kept-number number old old'
    number_same (suc first) number old old' = kept-number first old old'

module _ (m ceiling scale limit : ℕ) (behind mask : List ℕ) (llr : List ℤ) (before before' : Lent)
    (lengths : SameLengths before.slices before'.slices) where
  abbrev list : ℕ → List ℕ
  list criterion = list_under criterion m ceiling scale limit behind

  abbrev s : ℕ → Settings
  s criterion = settings_in (list criterion)

  same : SameDecoding (s 4) (s 2) mask llr before.slices before'.slices
  same = criteria-agree (s 2) mask llr before.slices before'.slices lengths

  -- `first` is the number of what is tested before the decoder's own tests: the lengths of the lists, the radio, its
  -- tally
  results : (first : ℕ) → call_result first (list 4) mask llr before ≡ call_result first (list 2) mask llr before'
  results first = ap (answer_by first) same.answer

  lent_same : (first : ℕ)
      → SameLent (first_refusal first (call_number (s 4) mask llr before.slices)) m before before'
      (lent_after first (list 4) mask llr before) (lent_after first (list 2) mask llr before')
  lent_same first =
      let number = call_number (s 4) mask llr before.slices in
      let end = ending (s 4) mask llr before.slices.work in
      record {
        slices = slices-after (s 2) mask llr before.slices before'.slices lengths first refl refl;
        iterations =
            rw (← results first)
            (number_same end iterations_out (λ n old. refl) (λ t reason old old'. refl) first number
            before.iterations before'.iterations);
        reason =
            rw (← results first)
            (number_same end reason_out (λ n old. refl) (λ t reason old old'. refl) first number before.reason
            before'.reason);
      }

  call-agrees : (first : ℕ) {new new' : Lent} {r r' : ℕ} → DecodeCall first (list 4) mask llr before new r
      → DecodeCall first (list 2) mask llr before' new' r' → (r ≡ r') × SameLent r m before before' new new'
  call-agrees first four two = (
    four.number_is ∙ ap result_number (results first) ∙ sym two.number_is,
    rw (
      four.lent_is,
      two.lent_is,
      four.number_is,
      returned (ending (s 4) mask llr before.slices.work) first (call_number (s 4) mask llr before.slices),
    )
        (lent_same first),
  )

  pub c-decode-agrees : {new new' : Lent} {r r' : ℕ}
      → DecodeCall (settings_list_number (list 4)) (list 4) mask llr before new r
      → DecodeCall (settings_list_number (list 2)) (list 2) mask llr before' new' r'
      → (r ≡ r') × SameLent r m before before' new new'
  c-decode-agrees four two = call-agrees (settings_list_number (list 2)) four two

  pub c-radio-agrees : {radio : ℕ} {tallies counted counted' : List ℕ} {new new' : Lent} {r r' : ℕ}
      → RadioCall radio tallies counted (list 4) mask llr before new r
      → RadioCall radio tallies counted' (list 2) mask llr before' new' r'
      → (r ≡ r') × SameLent r m before before' new new' × (counted ≡ counted')
  c-radio-agrees {radio} {tallies} four two =
      let calls = call-agrees (radio_first_number radio tallies (list 2)) four.call two.call in (
        calls.0,
        calls.1,
        four.tallies-are ∙ ap (tallies_list_after radio tallies (list 2)) same.answer ∙ sym two.tallies-are,
      )

-- ---- the report

-- `vedrogne_report`, lent memory of the same length: the number returned, the slice, and the length of the report in it
texts-same : (number : ℕ) (text old old' : List ℕ)
    → SameWritten (unless_refused number (length text) 0) old old' (unless_refused number (written_over text old) old)
    (unless_refused number (written_over text old') old')
texts-same zero text old old' = same-before-rest (length text) text old old' refl
texts-same (suc number) text old old' = none_written old old'

lengths-same : (number bytes old old' : ℕ)
    → SameWrittenNumber number old old' (unless_refused number bytes old) (unless_refused number bytes old')
lengths-same zero bytes old old' = record { accepted = λ none. refl; kept = λ some. absurd (some refl) }
lengths-same (suc number) bytes old old' =
    record { accepted = λ none. absurd (omega arith); kept = λ some. (refl, refl) }

pub c-report-agrees : {reading : Reading Settings} {t t' : List ℕ} → TextsDiffer reading t t'
    → {old old' new new' : List ℕ} {written written' after after' r r' : ℕ} → length old ≡ length old'
    → TextCall (report_call_number (length old)) (report t) old new written after r
    → TextCall (report_call_number (length old')) (report t') old' new' written' after' r'
    → (r ≡ r') × SameWritten (unless_refused r (length (report t)) 0) old old' new new'
    × SameWrittenNumber r written written' after after'
c-report-agrees {t = t} differ {old} {old'} {written = written} {written'} long four two =
    let number = report_call_number (length old) in
    let numbers = ap report_call_number long in (
      four.number_is ∙ numbers ∙ sym two.number_is,
      rw (four.number_is, four.text-is, two.text-is, ← numbers, ← report-agrees differ)
          (texts-same number (report t) old old'),
      rw (four.number_is, four.written_is, two.written_is, ← numbers, ← report-agrees differ)
          (lengths-same number (length (report t)) written written'),
    )
