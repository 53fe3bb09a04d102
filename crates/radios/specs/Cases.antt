-- The boundary values of 16, that 15 looks at one tally, and a run of calls by hand. Computed facts.
use Rattle.std.specs.Prelude.{◌≡◌, refl, List, [], ◌∷◌, map, set}
use Rattle.decoder.specs.Decoder.{refused, ended}
use Rattle.tally.specs.declared.Tally.{Tally}
use Rattle.tally.specs.Cases.{tally}
use Rattle.radios.specs.Radios.{radio_number, radio_call_number, tallies_counted}
use Rattle.radios.specs.Runs.{no_blocks, sum_over}

-- the largest number of 32 bits last
pub numbers : map radio_number (0 ∷ 1 ∷ 63 ∷ 64 ∷ 4294967295 ∷ []) ≡ 0 ∷ 0 ∷ 0 ∷ 16 ∷ 16 ∷ []
numbers = refl

-- radios 0 and 5 have tallies that 15 refuses, radio 63 has a full one
abbrev some-unusable : List Tally
some-unusable =
    set (set (set no_blocks 0 (tally 1 0 0 0 0)) 5 (tally 1 1 0 0 201)) 63 (tally 1000000 1000000 0 0 1000000)

pub own-tally-only : map (λ radio. radio_call_number radio some-unusable) (0 ∷ 1 ∷ 4 ∷ 5 ∷ 6 ∷ 62 ∷ 63 ∷ 64 ∷ [])
    ≡ 15 ∷ 0 ∷ 0 ∷ 15 ∷ 0 ∷ 0 ∷ 15 ∷ 16 ∷ []
own-tally-only = refl

-- calls for radios 5, 5 and 63: an ending by either reason and a refusal
abbrev counted-three : List Tally
counted-three =
    tallies_counted 63 (tallies_counted 5 (tallies_counted 5 no_blocks (ended 7 1)) (ended 64 2)) (refused 10)

pub counted-in-turn : counted-three ≡ set (set no_blocks 5 (tally 2 1 1 0 71)) 63 (tally 1 0 0 1 0)
counted-in-turn = refl

pub their-sum : sum_over counted-three ≡ tally 3 1 1 1 71
their-sum = refl

-- what 15 and 16 refuse leaves all 64 as they were
pub kept-on-15 : tallies_counted 5 some-unusable (ended 7 1) ≡ some-unusable
kept-on-15 = refl

pub kept-on-16 : tallies_counted 64 counted-three (ended 7 1) ≡ counted-three
kept-on-16 = refl
