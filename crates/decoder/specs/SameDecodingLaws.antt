-- Answer and outputs don't depend on what the memory held that a call is lent to write (`old-contents-unread`): in any
-- workspace the first 2 (m + 1) N elements go as in one of so many zeros, and what follows them stays.
use Prim.Native.Nat.{ℕ, zero, suc, ◌+◌, ◌^◌, ◌≤◌, ◌<◌}
use Rattle.std.specs.Prelude.{◌≡◌, refl, Bool, pos, length, get_or, drop, replicate}
use Rattle.std.proofs.Common.{sym, ap₂, ◌∙◌, subst, arith, take-append-drop}
use Rattle.std.proofs.Math.Path.{ap, fun_ext}
use mathlib.Core.List.{List, ◌++◌}
use Rattle.std.proofs.Math.IntN.{ℤ}
use Rattle.std.proofs.Math.ListN.{take}
use Rattle.std.proofs.lemmas.List.{length-replicate}
use Rattle.std.proofs.Math.Seq.{length-take-le}
use Rattle.calls.specs.Bounds.{workspace_length}
use Rattle.calls.specs.LentMemory.{unless_refused}
use Rattle.calls.specs.LentMemoryLaws.{same-overwritten, same-before-rest, none_written}
use Rattle.calls.specs.Numbers.{first_refusal}
use Rattle.message.specs.Message.{add}
use Rattle.sweeps.specs.Iteration.{iterations, start}
use Rattle.sweeps.specs.IterationLaws.{length-start, length-iterations}
use Rattle.sweeps.specs.RestLaws.{row-append, start-append, start-any, iterations-append}
use Rattle.criteria.specs.Marks.{mark_of}
use Rattle.criteria.specs.CriteriaLaws.{holds_same}
use Rattle.settings.specs.declared.Settings.{Settings}
use Rattle.settings.specs.Settings.{decode_number}
use Rattle.settings.specs.SettingsLaws.{SlicesAccepted, accepted}
use Rattle.settings.specs.Slices.{Slices, lengths_of}
use Rattle.decoder.specs.Decoder.{
  rule_of,
  soft_of,
  soft_at,
  coded_soft_at,
  criterion_of,
  Ending,
  ending_of,
  after,
  ending,
  final,
  outputs_of,
  call_number,
}
use Rattle.decoder.specs.ResultLaws.{result-same}
use Rattle.decoder.specs.SameDecoding.{SameSlices, SameDecoding}

-- ---- an output of the workspace w reads nothing of what follows it

abbrev ReadsWorkspace : ℕ → (List ℤ → ℕ → ℤ) → Type 0
ReadsWorkspace m output =
    (w r : List ℤ) → length w ≡ workspace_length m → (i : ℕ) → i < 2 ^ m → output (w ++ r) i ≡ output w i

soft-reads : (s : Settings) (mask : List ℕ) → ReadsWorkspace s.m (soft_at s mask)
soft-reads s mask w r long i hi =
    ap₂ (soft_of (rule_of s) (get_or mask i 0)) (row-append s.m r w 0 i long (omega arith) hi)
    (row-append s.m r w (s.m + 1 + 0) i long (omega arith) hi)

coded-soft-reads : (s : Settings) → ReadsWorkspace s.m (coded_soft_at s)
coded-soft-reads s w r long i hi =
    ap₂ (add (rule_of s)) (row-append s.m r w s.m i long (omega arith) hi)
    (row-append s.m r w (s.m + 1 + s.m) i long (omega arith) hi)

-- ---- the run of a block

module _ (s : Settings) (mask : List ℕ) (llr : List ℤ) where
  abbrev zeros : List ℤ
  zeros = replicate (workspace_length s.m) (pos 0)

  length-zeros : length zeros ≡ workspace_length s.m
  length-zeros = length-replicate (workspace_length s.m) (pos 0)

  length_run : (t : ℕ) → length (after s mask llr zeros t) ≡ workspace_length s.m
  unfolding after
  length_run t =
      length-iterations (rule_of s) s.m t (start s.m s.ceiling mask llr zeros)
      ∙ length-start s.m s.ceiling mask llr zeros ∙ length-zeros

  module _ (old : List ℤ) (room : workspace_length s.m ≤ length old) where
    abbrev rest : List ℤ
    rest = drop (workspace_length s.m) old

    after-append : (t : ℕ) → after s mask llr old t ≡ after s mask llr zeros t ++ rest
    unfolding after
    after-append t =
        let m = s.m in
        let begin : List ℤ → List ℤ = start m s.ceiling mask llr in
        let own = take (workspace_length m) old in
        let long = length-take-le (workspace_length m) old room in
        ap (λ (l : List ℤ). iterations (rule_of s) m t (begin l)) (sym (take-append-drop (workspace_length m) old))
        ∙ ap (iterations (rule_of s) m t)
        (start-append m rest s.ceiling mask llr own long
        ∙ ap (λ (l : List ℤ). l ++ rest) (start-any m s.ceiling mask llr own zeros long length-zeros))
        ∙ iterations-append m rest (rule_of s) t (begin zeros)
        (length-start m s.ceiling mask llr zeros ∙ length-zeros)

    output-after : (output : List ℤ → ℕ → ℤ) → ReadsWorkspace s.m output → (t i : ℕ) → i < 2 ^ s.m
        → output (after s mask llr old t) i ≡ output (after s mask llr zeros t) i
    output-after output reads t i hi =
        ap (λ (w : List ℤ). output w i) (after-append t) ∙ reads (after s mask llr zeros t) rest (length_run t) i hi

-- ---- slices by the number of the calls

-- nothing is written after a refusal
kept-slices : (number m : ℕ) (old old' : Slices) → SameSlices (suc number) m old old' old old'
kept-slices number m old old' = record {
  soft = none_written old.soft old'.soft;
  mark = none_written old.mark old'.mark;
  coded_soft = none_written old.coded_soft old'.coded_soft;
  coded_mark = none_written old.coded_mark old'.coded_mark;
  work = none_written old.work old'.work;
}

slices-by-number : (number m : ℕ) (old old' new new' : Slices) → (number ≡ 0 → SameSlices 0 m old old' new new')
    → SameSlices number m old old' (unless_refused number new old) (unless_refused number new' old')
slices-by-number zero m old old' new new' h = h refl
slices-by-number (suc number) m old old' new new' h = kept-slices number m old old'

pub same-slices-accepted : {number m : ℕ} {old old' new new' : Slices} → number ≡ 0
    → SameSlices number m old old' new new' → SameSlices 0 m old old' new new'
same-slices-accepted {number} {m} {old} {old'} {new} {new'} ok = subst (λ (n : ℕ). SameSlices n m old old' new new') ok

-- what is tested before the decoder's own tests: radio, tally, the lengths of lists
pub same-slices-first : (first number m : ℕ) (old old' new new' : Slices) → SameSlices number m old old' new new'
    → SameSlices (first_refusal first number) m old old' (unless_refused first new old) (unless_refused first new' old')
same-slices-first zero number m old old' new new' h = h
same-slices-first (suc first) number m old old' new new' h = kept-slices first m old old'

-- ---- two calls that are lent slices of the same lengths

module _ (s : Settings) (mask : List ℕ) (llr : List ℤ) (lent lent' : Slices)
    (lengths : lengths_of lent ≡ lengths_of lent') where
  numbers : call_number s mask llr lent ≡ call_number s mask llr lent'
  numbers = ap (decode_number s mask llr) lengths

  -- the run of either goes as the one from zeros, so both end alike, with the same outputs
  pub old-contents-unread : SameDecoding s s mask llr lent lent'
  unfolding ending after
  old-contents-unread = record {
    answer = result-same (call_number s mask llr lent') (call_number s mask llr lent) _ _ numbers
        (λ ok. endings-same (numbers ∙ ok));
    slices =
        rw (← numbers)
        (slices-by-number (call_number s mask llr lent) s.m lent lent' _ _ outputs-same);
  }
    where
      ending-any : (old : List ℤ) → workspace_length s.m ≤ length old
          → ending s mask llr old ≡ ending s mask llr (zeros s mask llr)
      ending-any old room =
          ap (λ (held : ℕ → Bool). ending_of held s.limit)
          (fun_ext
          (holds_same s.m mask _ _ _ _ (output-after s mask llr old room (soft_at s mask) (soft-reads s mask))
          (output-after s mask llr old room (coded_soft_at s) (coded-soft-reads s)) (criterion_of s)))

      -- as they stand at the end
      final-append : (old : List ℤ) → workspace_length s.m ≤ length old
          → final s mask llr old ≡ final s mask llr (zeros s mask llr) ++ drop (workspace_length s.m) old
      final-append old room =
          ap (λ (e : Ending). after s mask llr old e.iteration) (ending-any old room)
          ∙ after-append s mask llr old room (ending s mask llr (zeros s mask llr)).iteration

      output-final : (old : List ℤ) → workspace_length s.m ≤ length old → (output : List ℤ → ℕ → ℤ)
          → ReadsWorkspace s.m output → (i : ℕ) → i < 2 ^ s.m
          → output (final s mask llr old) i ≡ output (final s mask llr (zeros s mask llr)) i
      output-final old room output reads i hi =
          ap (λ (w : List ℤ). output w i) (final-append old room)
          ∙ reads (final s mask llr (zeros s mask llr)) (drop (workspace_length s.m) old)
          (length_run s mask llr (ending s mask llr (zeros s mask llr)).iteration) i hi

      long : call_number s mask llr lent ≡ 0 → SlicesAccepted s.m (length mask) (length llr) (lengths_of lent)
      long ok = (accepted s mask llr (lengths_of lent) ok).slices

      long' : call_number s mask llr lent ≡ 0 → SlicesAccepted s.m (length mask) (length llr) (lengths_of lent')
      long' ok = (accepted s mask llr (lengths_of lent') (sym numbers ∙ ok)).slices

      endings-same : call_number s mask llr lent ≡ 0 → ending s mask llr lent.work ≡ ending s mask llr lent'.work
      endings-same ok =
          ending-any lent.work (long ok).work-long
          ∙ sym (ending-any lent'.work (long' ok).work-long)

      output-same : call_number s mask llr lent ≡ 0 → (output : List ℤ → ℕ → ℤ) → ReadsWorkspace s.m output
          → (i : ℕ) → i < 2 ^ s.m
          → output (final s mask llr lent.work) i ≡ output (final s mask llr lent'.work) i
      output-same ok output reads i hi =
          output-final lent.work (long ok).work-long output reads i hi
          ∙ sym (output-final lent'.work (long' ok).work-long output reads i hi)

      outputs-same : call_number s mask llr lent ≡ 0
          → SameSlices 0 s.m lent lent' (outputs_of s mask (final s mask llr lent.work) lent)
          (outputs_of s mask (final s mask llr lent'.work) lent')
      outputs-same ok =
          let soft-same = output-same ok (soft_at s mask) (soft-reads s mask) in
          let coded-same = output-same ok (coded_soft_at s) (coded-soft-reads s) in
          record {
            soft =
                same-overwritten (2 ^ s.m) _ _ lent.soft lent'.soft (long ok).soft-long (long' ok).soft-long soft-same;
            mark =
                same-overwritten (2 ^ s.m) _ _ lent.mark lent'.mark (long ok).mark-long (long' ok).mark-long
                (λ i hi. ap mark_of (soft-same i hi));
            coded_soft =
                same-overwritten (2 ^ s.m) _ _ lent.coded_soft lent'.coded_soft (long ok).coded-soft-long
                (long' ok).coded-soft-long coded-same;
            coded_mark =
                same-overwritten (2 ^ s.m) _ _ lent.coded_mark lent'.coded_mark (long ok).coded-mark-long
                (long' ok).coded-mark-long (λ i hi. ap mark_of (coded-same i hi));
            work =
                rw (
                  final-append lent.work (long ok).work-long,
                  final-append lent'.work (long' ok).work-long,
                )
                (same-before-rest (workspace_length s.m) (final s mask llr (zeros s mask llr)) lent.work
                lent'.work (length_run s mask llr (ending s mask llr (zeros s mask llr)).iteration));
          }
