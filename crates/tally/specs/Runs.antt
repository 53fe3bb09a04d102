-- A run of tallied calls, each handed the tally that the one before gave back, and the counts
-- over its answers. Definitions only.
use Rattle.std.specs.Prelude.{ℕ, ◌+◌, Bool, true, false, not, cond, List, [], ◌∷◌, eqb, ℤ, length}
use Rattle.settings.specs.declared.Settings.{Settings}
use Rattle.settings.specs.Slices.{Slices}
use Rattle.decoder.specs.Decoder.{Result, refused, ended, decode_result}
use Rattle.tally.specs.declared.Tally.{Tally}
use Rattle.tally.specs.Tally.{tally_number, answer_by, tally_by}

-- what a call is handed beside the tally
pub record Call : Type 0 where
  pub settings : Settings
  pub mask : List ℕ
  pub llr : List ℤ
  pub slices : Slices

-- what the decoder answers it
abbrev pub decoded : Call → Result
decoded c = decode_result c.settings c.mask c.llr c.slices

-- five zeros
abbrev pub none : Tally
none = record { blocks = 0; by_criterion = 0; by_limit = 0; refusals = 0; iterations = 0 }

-- two tallies added, number by number
abbrev pub plus : Tally → Tally → Tally
plus t u =
    record {
      blocks = t.blocks + u.blocks;
      by_criterion = t.by_criterion + u.by_criterion;
      by_limit = t.by_limit + u.by_limit;
      refusals = t.refusals + u.refusals;
      iterations = t.iterations + u.iterations;
    }

-- the tally that a run of calls leaves, and their answers
abbrev pub tally_after : Tally → List Call → Tally
tally_after t [] = t
tally_after t (c ∷ calls) = tally_after (tally_by (tally_number t) t (decoded c)) calls

abbrev pub answers : Tally → List Call → List Result
answers t [] = []
answers t (c ∷ calls) = answer_by (tally_number t) (decoded c) ∷ answers (tally_by (tally_number t) t (decoded c)) calls

-- ---- counting answers

-- a call refused with 15 counts nowhere; the others are what is counted
abbrev pub counts : Result → Bool
counts (refused number) = not (eqb number 15)
counts (ended iteration reason) = true

abbrev pub others : List Result → List Result
others [] = []
others (r ∷ rs) = cond (counts r) (r ∷ others rs) (others rs)

-- whether an answer is an ending by the reason of this number
abbrev pub ended_by : ℕ → Result → Bool
ended_by number (refused refusal) = false
ended_by number (ended iteration reason) = eqb reason number

abbrev pub is_refused : Result → Bool
is_refused (refused number) = true
is_refused (ended iteration reason) = false

-- how many answers are of a kind
abbrev pub how_many : (Result → Bool) → List Result → ℕ
how_many kind [] = 0
how_many kind (r ∷ rs) = cond (kind r) 1 0 + how_many kind rs

-- the iterations of an answer: a refusal has none
abbrev pub iterations_of : Result → ℕ
iterations_of (refused number) = 0
iterations_of (ended iteration reason) = iteration

abbrev pub sum_of_iterations : List Result → ℕ
sum_of_iterations [] = 0
sum_of_iterations (r ∷ rs) = iterations_of r + sum_of_iterations rs

-- the five counts over a list of answers
abbrev pub counts_over : List Result → Tally
counts_over rs =
    record {
      blocks = length rs;
      by_criterion = how_many (ended_by 1) rs;
      by_limit = how_many (ended_by 2) rs;
      refusals = how_many is_refused rs;
      iterations = sum_of_iterations rs;
    }
