-- What crosses the C interface: lists of 32-bit numbers as settings and as the tallies of the radios, and what the
-- decoder's functions return and write. Definitions only.
use Rattle.std.specs.Prelude.{ℕ, zero, suc, ◌*◌, ◌≡◌, List, [], ◌∷◌, ◌++◌, leb, ℤ, length, get_or, drop, Float}
use Rattle.calls.specs.Numbers.{check, first_refusal}
use Rattle.calls.specs.LentMemory.{unless_refused}
use Rattle.polar.specs.declared.Code.{Code}
use Rattle.antennas.specs.declared.Receiver.{Receiver}
use Rattle.settings.specs.declared.Settings.{Settings}
use Rattle.settings.specs.Slices.{Slices}
use Rattle.decoder.specs.Decoder.{Result, refused, ended, decode_result, decode_slices}
use Rattle.tally.specs.declared.Tally.{Tally}
use Rattle.tally.specs.Tally.{answer_by}
use Rattle.radios.specs.Radios.{radio_count, radio_call_number, tallies_counted}

abbrev pub code_in : ℕ → Code
code_in m = record { m = m }

abbrev pub receiver_in : Float → Float → Receiver
receiver_in first second = record { first = first; second = second }

-- ---- lists of numbers: how many elements of a list of settings, of one tally and of all tallies are read or written

abbrev pub settings_length : ℕ
settings_length = 6

abbrev pub tally_length : ℕ
tally_length = 5

abbrev pub tallies_length : ℕ
tallies_length = tally_length * radio_count

-- in the order of the report's first name line
abbrev pub settings_in : List ℕ → Settings
settings_in l =
    record {
      m = get_or l 0 0;
      ceiling = get_or l 1 0;
      scale = get_or l 2 0;
      limit = get_or l 3 0;
      criterion = get_or l 4 0;
      operand = get_or l 5 0;
    }

abbrev pub tally_in : List ℕ → Tally
tally_in l =
    record {
      blocks = get_or l 0 0;
      by_criterion = get_or l 1 0;
      by_limit = get_or l 2 0;
      refusals = get_or l 3 0;
      iterations = get_or l 4 0;
    }

abbrev pub tally_list : Tally → List ℕ
tally_list t = t.blocks ∷ t.by_criterion ∷ t.by_limit ∷ t.refusals ∷ t.iterations ∷ []

-- n tallies, one after the other: radio r has the elements 5r to 5r + 4
abbrev pub tallies_from : ℕ → List ℕ → List Tally
tallies_from zero l = []
tallies_from (suc n) l = tally_in l ∷ tallies_from n (drop tally_length l)

abbrev pub tallies_in : List ℕ → List Tally
tallies_in = tallies_from radio_count

-- each tally in its five elements, the old contents after them
abbrev pub tallies_out : List Tally → List ℕ → List ℕ
tallies_out [] old = old
tallies_out (t ∷ tallies) old = tally_list t ++ tallies_out tallies (drop tally_length old)

-- ---- what is tested before the decoder is called

-- 7, for a list of settings with fewer than six elements
abbrev pub settings_list_number : List ℕ → ℕ
settings_list_number settings = check (leb settings_length (length settings)) 7 0

-- 7, for a list of tallies with fewer than 320 elements, or for the settings
abbrev pub lists_number : List ℕ → List ℕ → ℕ
lists_number tallies settings = check (leb tallies_length (length tallies)) 7 (settings_list_number settings)

-- 7 of either list, then 16, then 15 of the radio's own tally
abbrev pub radio_first_number : ℕ → List ℕ → List ℕ → ℕ
radio_first_number radio tallies settings =
    first_refusal (lists_number tallies settings) (radio_call_number radio (tallies_in tallies))

-- ---- the number that is returned for an answer, and what the two numbers lent for iteration and reason hold
-- afterwards

abbrev pub result_number : Result → ℕ
result_number (refused number) = number
result_number (ended iteration reason) = 0

abbrev pub iterations_out : Result → ℕ → ℕ
iterations_out (refused number) old = old
iterations_out (ended iteration reason) old = iteration

abbrev pub reason_out : Result → ℕ → ℕ
reason_out (refused number) old = old
reason_out (ended iteration reason) old = reason

-- ---- what a decoding function is lent to write: the decoder's slices, and a number each for iteration and reason

pub record Lent : Type 0 where
  pub slices : Slices
  pub iterations : ℕ
  pub reason : ℕ

abbrev pub lent : Slices → ℕ → ℕ → Lent
lent slices iterations reason = record { slices = slices; iterations = iterations; reason = reason }

-- ---- the promise of both decoding functions; `first` is the number of the tests before the decoder, 0 where they pass

module _ (first : ℕ) (settings mask : List ℕ) (llr : List ℤ) (before : Lent) where
  abbrev pub call_result : Result
  call_result = answer_by first (decode_result (settings_in settings) mask llr before.slices)

  abbrev pub lent_after : Lent
  lent_after =
      lent (unless_refused first (decode_slices (settings_in settings) mask llr before.slices) before.slices)
      (iterations_out call_result before.iterations)
      (reason_out call_result before.reason)

  pub record DecodeCall (after : Lent) (r : ℕ) : Type 0 where
    pub number_is : r ≡ result_number call_result
    pub lent_is : after ≡ lent_after

-- ---- the promise of `vedrogne_decode_radio`: the same, and the tallies afterwards

-- after the 7 of a short list they are as they were; else they are those that the method `decode` of `Radios` hands
-- back
abbrev pub tallies_list_after : ℕ → List ℕ → List ℕ → Result → List ℕ
tallies_list_after radio tallies settings answer =
    unless_refused (lists_number tallies settings)
    (tallies_out (tallies_counted radio (tallies_in tallies) answer) tallies) tallies

pub record RadioCall (radio : ℕ) (tallies tallies' settings mask : List ℕ) (llr : List ℤ) (before after : Lent) (r : ℕ)
    : Type 0 where
  pub call : DecodeCall (radio_first_number radio tallies settings) settings mask llr before after r
  pub tallies-are : tallies'
      ≡ tallies_list_after radio tallies settings (decode_result (settings_in settings) mask llr before.slices)
