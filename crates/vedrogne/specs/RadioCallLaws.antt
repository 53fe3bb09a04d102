-- Laws of `vedrogne_decode_radio`: it is the method `decode` of `Radios`, though it reads and writes the five numbers
-- of one radio alone.
use Rattle.std.specs.Prelude.{ℕ, zero, suc, ◌+◌, ◌*◌, ◌≤◌, ◌<◌, ◌≡◌, refl, List, ◌++◌, ℤ, length, set, take, drop}
use Rattle.std.proofs.Common.{sym, ap, ap₂, ◌∙◌, leb-true, ltb-true}
use Rattle.calls.specs.LentMemory.{unless_refused}
use Rattle.calls.specs.Numbers.{first_refusal}
use Rattle.calls.specs.NumberLaws.{check-passed, first-refusal-passed}
use Rattle.settings.specs.Slices.{Slices}
use Rattle.decoder.specs.Decoder.{Result, result_of, decode_result, decode_slices}
use Rattle.tally.specs.declared.Tally.{Tally}
use Rattle.tally.specs.Tally.{counted, answer_by}
use Rattle.tally.specs.OldTallies.{old_tally_number}
use Rattle.radios.specs.declared.Radios.{Radios}
use Rattle.tally.specs.declared.Tallied.{Tallied}
use Rattle.radios.specs.Radios.{radio_count, radio_number, tally_of, radio_call_number, tallies_counted, RadioDecode}
use Rattle.radios.specs.RadioLaws.{tallies-length}
use Rattle.radios.specs.OldTallyLaws.{old-tally-accepted}
use Rattle.vedrogne.specs.Interface.{
  tally_length,
  tallies_length,
  settings_in,
  tally_list,
  tallies_from,
  tallies_in,
  tallies_out,
  lists_number,
  radio_first_number,
  result_number,
  iterations_out,
  reason_out,
  Lent,
  lent,
  RadioCall,
}
use Rattle.vedrogne.specs.InterfaceLaws.{list-kept, own-written, tallies-read}

-- lists that are not refused are long enough
tallies-long : (tallies settings : List ℕ) → lists_number tallies settings ≡ 0 → tallies_length ≤ length tallies
tallies-long tallies settings h = leb-true tallies_length (length tallies) (check-passed _ 6 _ h).0

module _ {radio : ℕ} {tallies tallies' settings mask : List ℕ} {llr : List ℤ} {before after : Lent} {r : ℕ}
    (c : RadioCall radio tallies tallies' settings mask llr before after r) where
  abbrev answer : Result
  answer = decode_result (settings_in settings) mask llr before.slices

  -- after the 7 of a list, 16 and 15 all tallies are as they were
  pub first-refusal-counts-nothing : {number : ℕ} → radio_first_number radio tallies settings ≡ suc number
      → tallies' ≡ tallies
  first-refusal-counts-nothing {number} h = by-lists (lists_number tallies settings) refl
    where
      by-lists : (lists : ℕ) → lists_number tallies settings ≡ lists → tallies' ≡ tallies
      by-lists zero e =
          c.tallies-are
          ∙ rw e (rw (rw e at h) (list-kept tallies (tallies-long tallies settings e)))
      by-lists (suc lists) e = c.tallies-are ∙ rw e

  module _ (lists : lists_number tallies settings ≡ 0) where
    abbrev new : List Tally
    new = tallies_counted radio (tallies_in tallies) answer

    list-after : tallies' ≡ tallies_out new tallies
    list-after = c.tallies-are ∙ ap (λ (number : ℕ). unless_refused number (tallies_out new tallies) tallies) lists

    first-number : radio_first_number radio tallies settings ≡ radio_call_number radio (tallies_in tallies)
    first-number = ap (λ (number : ℕ). first_refusal number (radio_call_number radio (tallies_in tallies))) lists

    -- the tallies in the list are those that a call for the radio leaves
    pub tallies-after : tallies_in tallies' ≡ tallies_counted radio (tallies_in tallies) answer
    tallies-after =
        ap tallies_in list-after
        ∙ ap (λ (n : ℕ). tallies_from n (tallies_out new tallies))
        (sym (tallies-length radio (tallies_in tallies) answer))
        ∙ tallies-read new tallies

    -- number, all that is lent and the list are what the method `decode` of `Radios` answers and leaves for the same
    -- tallies
    pub radio-call-is-method : {radios : Radios} {new : Slices} {o : Tallied Radios}
        → RadioDecode radios radio (settings_in settings) mask llr before.slices new o
        → radios.tallies ≡ tallies_in tallies
        → let result = result_of o.outcome in
        (r ≡ result_number result) ×
        (after ≡ lent new (iterations_out result before.iterations) (reason_out result before.reason)) ×
        (tallies' ≡ tallies_out o.tally.tallies tallies)
    radio-call-is-method d same =
        let first =
        ap (λ (number : ℕ). first_refusal number (radio_call_number radio (tallies_in tallies))) lists
        ∙ ap (radio_call_number radio) (sym same) in
        let results = ap (λ (number : ℕ). answer_by number answer) first ∙ sym d.answer in
        let slices = decode_slices (settings_in settings) mask llr before.slices in (
          c.call.number_is ∙ ap result_number results,
          c.call.lent_is
              ∙ ap₂ (λ (written : Slices) (result : Result).
              lent written (iterations_out result before.iterations) (reason_out result before.reason))
              (ap (λ (number : ℕ). unless_refused number slices before.slices) first ∙ sym d.slices) results,
          list-after
              ∙ ap (λ (ts : List Tally). tallies_out ts tallies)
              (ap (λ (ts : List Tally). tallies_counted radio ts answer) (sym same) ∙ sym d.tallies-are),
        )

  -- where neither the list nor the radio is refused
  own-after : lists_number tallies settings ≡ 0 → radio_call_number radio (tallies_in tallies) ≡ 0
      → tallies'
      ≡ take (tally_length * radio) tallies
      ++ tally_list (counted (tally_of radio (tallies_in tallies)) answer)
      ++ drop (tally_length * radio + tally_length) tallies
  own-after lists none =
      let known =
      ltb-true radio radio_count (check-passed _ 15 _ (first-refusal-passed (radio_number radio) _ none).0).0 in
      let own = counted (tally_of radio (tallies_in tallies)) answer in
      let all = tallies_in tallies in
      list-after lists
      ∙ ap (λ (number : ℕ). tallies_out (unless_refused number (set all radio own) all) tallies) none
      ∙ own-written tallies radio own known (tallies-long tallies settings lists)

  -- only the radio's own five numbers change: the decoder's answer is counted in them
  pub own-numbers-written : radio_first_number radio tallies settings ≡ 0
      → tallies'
      ≡ take (tally_length * radio) tallies
      ++ tally_list (counted (tally_of radio (tallies_in tallies)) answer)
      ++ drop (tally_length * radio + tally_length) tallies
  own-numbers-written none =
      let passed =
      first-refusal-passed (lists_number tallies settings) (radio_call_number radio (tallies_in tallies)) none in
      own-after passed.0 passed.1

  -- request 2026-07: a radio's tally that was counted while T ran to 200 goes on. The number returned is the decoder's,
  -- and its answer is counted in the radio's own five numbers
  pub old-numbers-go-on : lists_number tallies settings ≡ 0 → radio < radio_count
      → old_tally_number (tally_of radio (tallies_in tallies)) ≡ 0
      → (r ≡ result_number answer)
      × (tallies'
      ≡ take (tally_length * radio) tallies
      ++ tally_list (counted (tally_of radio (tallies_in tallies)) answer)
      ++ drop (tally_length * radio + tally_length) tallies)
  old-numbers-go-on lists known old =
      let none = old-tally-accepted radio (tallies_in tallies) known old in
      let first =
      ap (λ (number : ℕ). first_refusal number (radio_call_number radio (tallies_in tallies))) lists ∙ none in (
        c.call.number_is ∙ ap (λ (number : ℕ). result_number (answer_by number answer)) first,
        own-after lists none,
      )
