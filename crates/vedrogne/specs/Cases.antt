-- Lists at their boundary lengths, and answers as numbers. Computed facts.
use Rattle.std.specs.Prelude.{ℕ, ◌≡◌, refl, List, [], ◌∷◌, ◌++◌, map, take, drop, replicate}
use Rattle.decoder.specs.Decoder.{refused, ended}
use Rattle.report_input.specs.Input.{block_of, block}
use Rattle.report_input.specs.Input as reader
use Rattle.vedrogne.specs.Interface.{
  settings_in,
  settings_list_number,
  radio_first_number,
  tallies_list_after,
  result_number,
  iterations_out,
  reason_out,
}
use Rattle.vedrogne.specs.TextCalls.{settings_after, read_meaning, report_call_number}

-- the report's order; a seventh element is not read
pub settings : settings_in (1 ∷ 31 ∷ 16 ∷ 10 ∷ 2 ∷ 3 ∷ 99 ∷ [])
    ≡ record { m = 1; ceiling = 31; scale = 16; limit = 10; criterion = 2; operand = 3 }
settings = refl

pub five-settings : settings_list_number (1 ∷ 31 ∷ 16 ∷ 10 ∷ 1 ∷ []) ≡ 7
five-settings = refl

pub six-settings : settings_list_number (1 ∷ 31 ∷ 16 ∷ 10 ∷ 1 ∷ 0 ∷ []) ≡ 0
six-settings = refl

-- a list of tallies in which radio 1 has 2 1 0 1 9, radio 2 has 1 0 0 0 0, which 15 refuses, and radio 63 has
-- 1 0 1 0 7; with one element more after them
abbrev tallies : List ℕ
tallies =
    0 ∷ 0 ∷ 0 ∷ 0 ∷ 0 ∷ 2 ∷ 1 ∷ 0 ∷ 1 ∷ 9 ∷ 1 ∷ 0 ∷ 0 ∷ 0 ∷ 0
    ∷ replicate 300 0 ++ (1 ∷ 0 ∷ 1 ∷ 0 ∷ 7 ∷ 77 ∷ [])

abbrev six : List ℕ
six = 1 ∷ 31 ∷ 16 ∷ 10 ∷ 1 ∷ 0 ∷ []

-- 7 of either list comes before 16; 15 looks at the radio's own numbers
pub short-of-one : radio_first_number 64 (take 319 tallies) six ≡ 7
short-of-one = refl

pub five-settings-and-16 : radio_first_number 64 tallies (take 5 six) ≡ 7
five-settings-and-16 = refl

pub first-numbers : map (λ radio. radio_first_number radio tallies six) (0 ∷ 1 ∷ 2 ∷ 3 ∷ 63 ∷ 64 ∷ 4294967295 ∷ [])
    ≡ 0 ∷ 0 ∷ 15 ∷ 0 ∷ 0 ∷ 16 ∷ 16 ∷ []
first-numbers = refl

-- an ending by the limit for radio 1 and a refusal for radio 63; the others, and the element after them, stay
pub ending-counted : tallies_list_after 1 tallies six (ended 10 2)
    ≡ 0 ∷ 0 ∷ 0 ∷ 0 ∷ 0 ∷ 3 ∷ 1 ∷ 1 ∷ 1 ∷ 19 ∷ drop 10 tallies
ending-counted = refl

pub refusal-counted : tallies_list_after 63 tallies six (refused 7) ≡ take 315 tallies ++ (2 ∷ 0 ∷ 1 ∷ 1 ∷ 7 ∷ 77 ∷ [])
refusal-counted = refl

-- number, iteration and reason of an ending and of a refusal; the lent numbers held 77 and 88
pub ending-told : result_number (ended 10 2) ∷ iterations_out (ended 10 2) 77 ∷ reason_out (ended 10 2) 88 ∷ []
    ≡ 0 ∷ 10 ∷ 2 ∷ []
ending-told = refl

pub refusal-told : result_number (refused 10) ∷ iterations_out (refused 10) 77 ∷ reason_out (refused 10) 88 ∷ []
    ≡ 10 ∷ 77 ∷ 88 ∷ []
refusal-told = refl

-- ---- texts

-- a list of five for the settings is refused before a text that is malformed
pub five-to-read-into : read_meaning (0 ∷ 0 ∷ 0 ∷ 0 ∷ 0 ∷ []) (block_of [] []) [] ≡ reader.refused 7
five-to-read-into = refl

-- six are written, in the report's order; a seventh stays
pub settings-written : settings_after
    (block (record { m = 1; ceiling = 31; scale = 16; limit = 10; criterion = 2; operand = 3 }) (block_of [] []))
    (9 ∷ 9 ∷ 9 ∷ 9 ∷ 9 ∷ 9 ∷ 99 ∷ [])
    ≡ 1 ∷ 31 ∷ 16 ∷ 10 ∷ 2 ∷ 3 ∷ 99 ∷ []
settings-written = refl

pub report-rooms : map report_call_number (32767 ∷ 32768 ∷ 32769 ∷ []) ≡ 7 ∷ 0 ∷ 0 ∷ []
report-rooms = refl
