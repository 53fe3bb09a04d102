-- Request 2026-05: a tally for each radio, 16, and a call that counts in the tally of its radio. Definitions only.
use Rattle.std.specs.Prelude.{ℕ, ◌≡◌, List, ltb, ℤ, get_or, set}
use Rattle.calls.specs.Numbers.{check, first_refusal}
use Rattle.calls.specs.LentMemory.{unless_refused}
use Rattle.settings.specs.declared.Settings.{Settings}
use Rattle.settings.specs.Slices.{Slices}
use Rattle.decoder.specs.Decoder.{Result, result_of, decode_result, decode_slices}
use Rattle.tally.specs.declared.Tally.{Tally}
use Rattle.tally.specs.Tally.{tally_number, counted, answer_by}
use Rattle.tally.specs.Runs.{none}
use Rattle.radios.specs.declared.Radios.{Radios}
use Rattle.tally.specs.declared.Tallied.{Tallied}

-- radios are numbered 0 to 63
abbrev pub radio_count : ℕ
radio_count = 64

-- 16: a radio number above 63
abbrev pub radio_number : ℕ → ℕ
radio_number radio = check (ltb radio radio_count) 16 0

-- the tally of a radio; five zeros where there is no such radio
abbrev pub tally_of : ℕ → List Tally → Tally
tally_of radio tallies = get_or tallies radio none

-- the tests before the decoder: 16, then 15, which looks at the radio's own tally only
abbrev pub radio_call_number : ℕ → List Tally → ℕ
radio_call_number radio tallies = first_refusal (radio_number radio) (tally_number (tally_of radio tallies))

-- the tallies after a call, by the decoder's answer: it counts in the radio's own; after 16 and 15 all are as they
-- were
abbrev pub tallies_counted : ℕ → List Tally → Result → List Tally
tallies_counted radio tallies r =
    unless_refused (radio_call_number radio tallies) (set tallies radio (counted (tally_of radio tallies) r)) tallies

-- ---- the promise of a call for a radio: answer, all tallies, and the lent slices afterwards

pub record RadioDecode (radios : Radios) (radio : ℕ) (s : Settings) (mask : List ℕ) (llr : List ℤ)
    (before after : Slices) (r : Tallied Radios) : Type 0 where
  pub answer : result_of r.outcome
      ≡ answer_by (radio_call_number radio radios.tallies) (decode_result s mask llr before)
  pub tallies-are : r.tally.tallies ≡ tallies_counted radio radios.tallies (decode_result s mask llr before)
  pub slices : after
      ≡ unless_refused (radio_call_number radio radios.tallies) (decode_slices s mask llr before) before
