-- The boundary values of 15. Computed facts.
use Rattle.std.specs.Prelude.{ℕ, ◌≡◌, refl, [], ◌∷◌, map}
use Rattle.decoder.specs.Decoder.{refused, ended}
use Rattle.tally.specs.declared.Tally.{Tally}
use Rattle.tally.specs.Tally.{tally_number, counted}
use Rattle.tally.specs.Runs.{none, others, counts_over}

-- blocks, endings by reason 1 and by reason 2, refusals, iterations
abbrev pub tally : ℕ → ℕ → ℕ → ℕ → ℕ → Tally
tally blocks by-criterion by-limit refusals iterations =
    record {
      blocks = blocks;
      by_criterion = by-criterion;
      by_limit = by-limit;
      refusals = refusals;
      iterations = iterations;
    }

-- five zeros, and the last block
pub blocks : map tally_number (none ∷ tally 999999 0 0 999999 0 ∷ tally 1000000 0 0 1000000 0 ∷ []) ≡ 0 ∷ 0 ∷ 15 ∷ []
blocks = refl

-- blocks one below, at and one above the sum of endings and refusals
pub sum : map (λ n. tally_number (tally n 3 2 4 5)) (8 ∷ 9 ∷ 10 ∷ []) ≡ 15 ∷ 0 ∷ 15 ∷ []
sum = refl

-- iterations one below the endings, at them, above 64 times them, at 200 times them and one above
pub iterations : map (λ n. tally_number (tally 9 3 2 4 n)) (4 ∷ 5 ∷ 321 ∷ 1000 ∷ 1001 ∷ []) ≡ 15 ∷ 0 ∷ 0 ∷ 0 ∷ 15 ∷ []
iterations = refl

-- without an ending there are no iterations
pub refusals-only : map (λ n. tally_number (tally 4 0 0 4 n)) (0 ∷ 1 ∷ []) ≡ 0 ∷ 15 ∷ []
refusals-only = refl

-- the largest numbers of 32 bits, and sums that would be 0 and 4 at 32 bits
pub largest : tally_number (tally 4294967295 4294967295 4294967295 4294967295 4294967295) ≡ 15
largest = refl

pub past-32-bits : map tally_number (tally 0 4294967295 1 0 0 ∷ tally 4 4294967295 0 5 4294967295 ∷ []) ≡ 15 ∷ 15 ∷ []
past-32-bits = refl

-- an ending by either reason and a refusal, counted one after the other; a refusal with 15
-- among the answers counts nowhere
pub counted-in-turn : counted (counted (counted none (ended 7 1)) (refused 10)) (ended 64 2) ≡ tally 3 1 1 1 71
counted-in-turn = refl

pub counted-over : counts_over (others (ended 7 1 ∷ refused 10 ∷ refused 15 ∷ ended 64 2 ∷ [])) ≡ tally 3 1 1 1 71
counted-over = refl

-- a reason other than 1 and 2 counts as neither, so a tally that met one is refused
pub another-reason : tally_number (counted none (ended 7 3)) ≡ 15
another-reason = refl
