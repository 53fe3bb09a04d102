-- Request 2026-07: a tally that was counted while T ran to 200, and how it goes on. Definitions only.
use Rattle.std.specs.Prelude.{ℕ, ◌+◌, ◌*◌, ◌<◌, ◌≡◌, ◌&&◌, ltb, eqb}
use Rattle.calls.specs.Numbers.{check, between}
use Rattle.settings.specs.Limits.{old_decode_number}
use Rattle.settings.specs.Slices.{Slices, lengths_of}
use Rattle.decoder.specs.Decoder.{Result, result_by, result_of, ending, decode_slices}
use Rattle.tally.specs.declared.Tally.{Tally}
use Rattle.tally.specs.declared.Tallied.{Tallied}
use Rattle.tally.specs.Tally.{endings, tally_number, counted}
use Rattle.tally.specs.Runs.{Call, decoded}

-- 15 as it was before the request, with its numbers written out
abbrev pub old_tally_number : Tally → ℕ
old_tally_number t =
    check (ltb t.blocks 1000000) 15
    (check (eqb t.blocks (endings t + t.refusals) && between (endings t) (200 * endings t) t.iterations) 15 0)

-- the answer of a call before the request: by the number that it had, and with the same ending
abbrev pub old_decoded : Call → Result
old_decoded c =
    result_by (old_decode_number c.settings c.mask c.llr (lengths_of c.slices))
    (ending c.settings c.mask c.llr c.slices.work)

-- a call with this tally is answered as the decoder answers it, its answer is counted, its slices are written; and the
-- tally that it hands back is accepted by the next call, unless it has 1,000,000 blocks
pub record GoesOn (t : Tally) (c : Call) (after : Slices) (r : Tallied Tally) : Type 0 where
  pub answer : result_of r.outcome ≡ decoded c
  pub tally-is : r.tally ≡ counted t (decoded c)
  pub slices : after ≡ decode_slices c.settings c.mask c.llr c.slices
  pub next : t.blocks + 1 < 1000000 → tally_number r.tally ≡ 0
