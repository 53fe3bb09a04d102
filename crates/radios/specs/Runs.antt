-- Request 2026-05, over a run of calls for radios, each handed the tallies that the one before gave back.
-- Definitions only.
use Rattle.std.specs.Prelude.{ℕ, cond, List, [], ◌∷◌, ltb, eqb, replicate}
use Rattle.decoder.specs.Decoder.{Result}
use Rattle.tally.specs.declared.Tally.{Tally}
use Rattle.tally.specs.Tally.{answer_by}
use Rattle.tally.specs.Runs.{Call, decoded, none, plus}
use Rattle.radios.specs.Radios.{radio_count, radio_number, radio_call_number, tallies_counted}

-- a call for a radio: what it is handed beside the tallies
pub record CallFor : Type 0 where
  pub radio : ℕ
  pub call : Call

-- five zeros for each radio
abbrev pub no_blocks : List Tally
no_blocks = replicate radio_count none

-- the tallies that a call leaves, and its answer
abbrev pub tallies_by : List Tally → CallFor → List Tally
tallies_by tallies c = tallies_counted c.radio tallies (decoded c.call)

abbrev pub answer_for : List Tally → CallFor → Result
answer_for tallies c = answer_by (radio_call_number c.radio tallies) (decoded c.call)

-- its answer where 15 doesn't refuse it: 16, or the decoder's
abbrev pub answer_without15 : CallFor → Result
answer_without15 c = answer_by (radio_number c.radio) (decoded c.call)

-- those of a run of calls
abbrev pub tallies_after : List Tally → List CallFor → List Tally
tallies_after tallies [] = tallies
tallies_after tallies (c ∷ calls) = tallies_after (tallies_by tallies c) calls

abbrev pub radio_answers : List Tally → List CallFor → List Result
radio_answers tallies [] = []
radio_answers tallies (c ∷ calls) = answer_for tallies c ∷ radio_answers (tallies_by tallies c) calls

-- ---- the calls made for one radio, and the calls not refused with 16

-- the answers of the calls made for a radio
abbrev pub answers_to : ℕ → List Tally → List CallFor → List Result
answers_to radio tallies [] = []
answers_to radio tallies (c ∷ calls) =
    let later = answers_to radio (tallies_by tallies c) calls in
    cond (eqb c.radio radio) (answer_for tallies c ∷ later) later

-- the calls that 16 doesn't refuse
abbrev pub known_calls : List CallFor → List Call
known_calls [] = []
known_calls (c ∷ calls) = cond (ltb c.radio radio_count) (c.call ∷ known_calls calls) (known_calls calls)

-- ---- the sum over the radios, number by number

abbrev pub sum_over : List Tally → Tally
sum_over [] = none
sum_over (t ∷ tallies) = plus t (sum_over tallies)
