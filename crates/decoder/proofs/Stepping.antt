-- One iteration from its two parts: the iteration with its soft outputs and coded outputs,
-- and the criterion with the marks.
use Prim.Native.Nat.{ℕ, ◌^◌, ◌≤◌, ◌<◌}
use mathlib.Core.Path.{◌≡◌, refl, ap, subst, ◌∙◌}
use mathlib.Core.List.{List}
use lib.IntN.{ℤ, pos}
use lib.ListN.{get_or}
use Rattle.calls.specs.Bounds.{largest_ceiling}
use Rattle.calls.specs.LentMemory.{overwrite}
use Rattle.calls.specs.WrittenLaws.{Written, written_at}
use Rattle.sweeps.specs.Iteration.{iteration}
use Rattle.criteria.specs.declared.Criterion.{Criterion}
use Rattle.criteria.specs.declared.Memory.{Memory}
use Rattle.criteria.specs.declared.Progress.{Progress}
use Rattle.criteria.specs.Marks.{mark_of}
use Rattle.criteria.specs.MemoryLaws.{memory-next-same, holds-now-same}
use Rattle.criteria.specs.Private.{SoftValues, MarkBytes, CriterionTried}
use Rattle.criteria.specs.SliceLaws.{soft-values, marked, mark-bytes}
use Rattle.settings.specs.declared.Settings.{Settings}
use Rattle.settings.specs.Slices.{Slices, slices}
use Rattle.settings.specs.SlicesLaws.{OutputsFit, slices-same}
use Rattle.decoder.specs.Decoder.{rule_of, soft_at, coded_soft_at, coded_mark_at, criterion_of, outputs_of}
use Rattle.decoder.specs.OutputLaws.{soft-size}
use Rattle.decoder.specs.Run.{OneIteration}

-- what an iteration writes, which is all but the marks
pub record Iterated (s : Settings) (mask : List ℕ) (before : Slices) (soft coded_soft : List ℤ) (coded_mark : List ℕ)
    (work : List ℤ) : Type 0 where
  pub fits : OutputsFit (2 ^ s.m) before
  pub work-is : work ≡ iteration (rule_of s) s.m before.work
  pub soft-is : soft ≡ overwrite (2 ^ s.m) (soft_at s mask work) before.soft
  pub coded_soft-is : coded_soft ≡ overwrite (2 ^ s.m) (coded_soft_at s work) before.coded_soft
  pub coded_mark-is : coded_mark ≡ overwrite (2 ^ s.m) (coded_mark_at s work) before.coded_mark

module _ {s : Settings} {mask : List ℕ} {before : Slices} {soft coded_soft : List ℤ} {coded_mark : List ℕ}
    {work : List ℤ} (h : Iterated s mask before soft coded_soft coded_mark work) where
  softs : Written (2 ^ s.m) (soft_at s mask work) before.soft soft
  softs = record { is = h.soft-is }

  coded_marks : Written (2 ^ s.m) (coded_mark_at s work) before.coded_mark coded_mark
  coded_marks = record { is = h.coded_mark-is }

  -- what the criterion asks for
  pub triable : s.ceiling ≤ largest_ceiling → SoftValues (2 ^ s.m) soft × MarkBytes (2 ^ s.m) coded_mark
  triable top = (
    soft-values softs h.fits.soft s.ceiling top (λ i l. soft-size (rule_of s) (get_or mask i 0) _ _),
    mark-bytes (coded_soft_at s work) coded_marks h.fits.coded_mark,
  )

  pub one-iteration : {memory : Memory} {criterion : Criterion} {mark : List ℕ} {r : Progress}
      → criterion ≡ criterion_of s
      → CriterionTried s.m criterion memory mask (λ i. get_or soft i (pos 0)) (λ i. get_or coded_mark i 0) before.mark
      mark r
      → OneIteration s memory mask before (slices soft mark coded_soft coded_mark work) r
  one-iteration {memory} {criterion} {mark} {r} is given =
      let tried = subst
      (λ (k : Criterion). CriterionTried s.m k memory mask (λ i. get_or soft i (pos 0)) (λ i. get_or coded_mark i 0)
      before.mark mark r) is given in
      let values : (i : ℕ) → i < 2 ^ s.m → get_or soft i (pos 0) ≡ soft_at s mask work i =
      λ i l. written_at softs i (pos 0) l h.fits.soft in
      let coded_values : (i : ℕ) → i < 2 ^ s.m → get_or coded_mark i 0 ≡ coded_mark_at s work i =
      λ i l. written_at coded_marks i 0 l h.fits.coded_mark in
      record {
        slices =
            slices-same h.soft-is (marked softs h.fits.soft before.mark mark tried.marks-are) h.coded_soft-is
            h.coded_mark-is refl
            ∙ ap (λ (w : List ℤ). outputs_of s mask w before) h.work-is;
        memory-is =
            tried.memory-is
            ∙ memory-next-same s.m (criterion_of s) mask memory (λ i. get_or before.mark i 0) _ (soft_at s mask work)
            (λ i. get_or coded_mark i 0) (coded_mark_at s work) values coded_values;
        holds-is =
            tried.holds-is
            ∙ holds-now-same s.m (criterion_of s) mask r.memory _ (soft_at s mask work) _ _ _ (coded_mark_at s work)
            values (λ i l. ap mark_of (values i l)) coded_values;
      }
