-- Request 2026-07: "A tally's own check keeps its bound of 200, so that old tallies can go on."
use Rattle.std.specs.Prelude.{ℕ, ◌+◌, ◌≤◌, ◌≡◌, refl, Bool, cond, List, [], ◌∷◌, map, length}
use Rattle.std.proofs.Common.{ap, ◌∙◌}
use Rattle.calls.specs.LentMemory.{unless_refused}
use Rattle.settings.specs.Slices.{Slices, lengths_of}
use Rattle.settings.specs.LimitLaws.{limit-as-before}
use Rattle.decoder.specs.Decoder.{Result, result_by, ending, decode_slices}
use Rattle.tally.specs.declared.Tally.{Tally}
use Rattle.tally.specs.declared.Tallied.{Tallied}
use Rattle.tally.specs.Tally.{tally_number, answer_by, tally_by, TalliedDecode}
use Rattle.tally.specs.Runs.{Call, decoded, plus, tally_after, answers, others, counts_over}
use Rattle.tally.specs.TallyLaws.{
  decoded-answer,
  counted-usable,
  answered-from,
  answer-counts,
  counted-after,
}
use Rattle.tally.specs.OldTallies.{old_tally_number, old_decoded, GoesOn}

-- every tally is accepted, or refused, as it was
pub same_number : (t : Tally) → tally_number t ≡ old_tally_number t
same_number t = refl

-- a call with a limit up to 64 is answered as it was, so it counts as before
pub same_answer : (c : Call) → c.settings.limit ≤ 64 → decoded c ≡ old_decoded c
same_answer c h =
    ap (λ (n : ℕ). result_by n (ending c.settings c.mask c.llr c.slices.work))
    (limit-as-before c.settings c.mask c.llr (lengths_of c.slices) h)

-- each answer of the decoder counts
all-count : (calls : List Call) → others (map decoded calls) ≡ map decoded calls
all-count [] = refl
all-count (c ∷ calls) =
    ap (λ (test : Bool). cond test (decoded c ∷ others (map decoded calls)) (others (map decoded calls)))
    (answer-counts (decoded c) (decoded-answer c))
    ∙ ap (λ (rs : List Result). decoded c ∷ rs) (all-count calls)

module _ (t : Tally) (old : old_tally_number t ≡ 0) where
  -- whatever a call with an old tally hands back, it counts in it
  pub old-tally-goes-on : (c : Call) (after : Slices) (r : Tallied Tally)
      → TalliedDecode t c.settings c.mask c.llr c.slices after r → GoesOn t c after r
  old-tally-goes-on c after r d =
      let accepted : tally_number t ≡ 0 = old in
      let written = decode_slices c.settings c.mask c.llr c.slices in
      let tally = d.tally-is ∙ ap (λ (n : ℕ). tally_by n t (decoded c)) accepted in
      record {
        answer = d.answer ∙ ap (λ (n : ℕ). answer_by n (decoded c)) accepted;
        tally-is = tally;
        slices = d.slices ∙ ap (λ (n : ℕ). unless_refused n written c.slices) accepted;
        next = λ few. ap tally_number tally ∙ counted-usable t c accepted few;
      }

  -- and so do all calls of a run, up to 1,000,000 blocks: none is refused with 15, and the tally afterwards is the old
  -- one with the counts over their answers added
  pub old-tally-run : (calls : List Call) → t.blocks + length calls ≤ 1000000
      → (answers t calls ≡ map decoded calls) × (tally_after t calls ≡ plus t (counts_over (map decoded calls)))
  old-tally-run calls few =
      let accepted : tally_number t ≡ 0 = old in
      let answered = answered-from calls t accepted few in
      let counts = ap (λ (rs : List Result). plus t (counts_over (others rs))) answered in
      let all = ap (λ (rs : List Result). plus t (counts_over rs)) (all-count calls) in
      (answered, counted-after calls t ∙ counts ∙ all)
