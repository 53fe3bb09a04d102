-- Document 01, "The tally", and 15 of "Numbers by who causes them". Definitions only.
use Rattle.std.specs.Prelude.{ℕ, zero, suc, ◌+◌, ◌*◌, ◌≡◌, Bool, ◌&&◌, cond, List, ltb, eqb, ℤ}
use Rattle.calls.specs.Numbers.{check, between}
use Rattle.calls.specs.LentMemory.{unless_refused}
use Rattle.settings.specs.declared.Settings.{Settings}
use Rattle.settings.specs.Slices.{Slices}
use Rattle.decoder.specs.Decoder.{Result, refused, ended, result_of, decode_result, decode_slices}
use Rattle.tally.specs.declared.Tally.{Tally}
use Rattle.tally.specs.declared.Tallied.{Tallied}

-- endings by either reason
abbrev pub endings : Tally → ℕ
endings t = t.by_criterion + t.by_limit

-- the first number of blocks that a tally is refused with, and the iterations that it allows for each ending
abbrev pub most_blocks : ℕ
most_blocks = 1000000

abbrev pub most_iterations : ℕ
most_iterations = 200

-- whether its numbers can be counts: blocks are the sum of endings and refusals, and iterations are from the endings to
-- 200 times them
abbrev pub consistent : Tally → Bool
consistent t =
    eqb t.blocks (endings t + t.refusals) && between (endings t) (most_iterations * endings t) t.iterations

-- 15: blocks at or above 1,000,000; or blocks not the sum of endings and refusals; or iterations below
-- the endings or above 200 times them
abbrev pub tally_number : Tally → ℕ
tally_number t = check (ltb t.blocks most_blocks) 15 (check (consistent t) 15 0)

-- the tally with one answer of the decoder counted: a refusal is a block with no iterations, an ending counts by its
-- own reason, 1 or 2
abbrev pub counted : Tally → Result → Tally
counted t (refused number) =
    record {
      blocks = t.blocks + 1;
      by_criterion = t.by_criterion;
      by_limit = t.by_limit;
      refusals = t.refusals + 1;
      iterations = t.iterations;
    }
counted t (ended iteration reason) =
    record {
      blocks = t.blocks + 1;
      by_criterion = t.by_criterion + cond (eqb reason 1) 1 0;
      by_limit = t.by_limit + cond (eqb reason 2) 1 0;
      refusals = t.refusals;
      iterations = t.iterations + iteration;
    }

-- the answer and the tally of a call, by the number of the tests before the decoder, here 15, and the decoder's answer
abbrev pub answer_by : ℕ → Result → Result
answer_by zero r = r
answer_by (suc number) r = refused (suc number)

abbrev pub tally_by : ℕ → Tally → Result → Tally
tally_by zero t r = counted t r
tally_by (suc number) t r = t

-- ---- the promise of a tallied call: answer, tally, and the lent slices afterwards

pub record TalliedDecode (t : Tally) (s : Settings) (mask : List ℕ) (llr : List ℤ) (before after : Slices)
    (r : Tallied Tally) : Type 0 where
  pub answer : result_of r.outcome ≡ answer_by (tally_number t) (decode_result s mask llr before)
  pub tally-is : r.tally ≡ tally_by (tally_number t) t (decode_result s mask llr before)
  pub slices : after ≡ unless_refused (tally_number t) (decode_slices s mask llr before) before
