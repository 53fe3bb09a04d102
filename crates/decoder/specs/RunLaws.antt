-- Laws of a run: where it starts, what one step more gives, when it has ended, and that `decode` is the run
-- from the start. Who makes one step at a time keeps the workspace, what the criterion remembers, and the count
-- of the iterations (`RunGoesOn`).
use Rattle.std.specs.Prelude.{ℕ, zero, suc, ◌^◌, ◌≤◌, ◌<◌, ◌≡◌, true, false, List, ℤ, get_or}
use Rattle.std.proofs.Math.Path.{refl}
use Rattle.std.proofs.Common.{sym, ap, ◌∙◌, ⊎_elim, eq-or-lt_of_le, le_of_suc-le-suc, arith}
use Rattle.sweeps.specs.Iteration.{iteration}
use Rattle.sweeps.specs.IterationLaws.{WorkspaceValid, valid-iterations, length-iterations}
use Rattle.criteria.specs.declared.Criterion.TheVariants.{Never}
use Rattle.criteria.specs.declared.Memory.{Memory}
use Rattle.criteria.specs.declared.Progress.{Progress}
use Rattle.criteria.specs.Memory.{nothing}
use Rattle.criteria.specs.MemoryLaws.{memory-begins, memory-in-range, memory-next, holds-next}
use Rattle.criteria.specs.Private.{most_remembered, MemoryInRange}
use Rattle.settings.specs.declared.Settings.{Settings}
use Rattle.settings.specs.Slices.{Slices, lengths_of}
use Rattle.settings.specs.SlicesLaws.{OutputsFit}
use Rattle.decoder.specs.Decoder.{
  rule_of,
  soft_at,
  mark_at,
  coded_mark_at,
  criterion_of,
  after,
  ending,
  work_after,
  soft_after,
  coded_soft_after,
  holds_after,
  end_of,
  start_of,
}
use Rattle.decoder.specs.EndingLaws.{ending-found, ending-last}
use Rattle.decoder.specs.OutputLaws.{outputs-again, outputs-marks, outputs-lengths}
use Rattle.decoder.specs.Run.{remembered_after, limit_of, slices_after, OneIteration, RunGoesOn}

-- ---- the start

pub run-begins : (s : Settings) (mask : List ℕ) (w : List ℤ) → RunGoesOn s mask w 0 nothing w
run-begins s mask w = record {
  work-is = refl;
  memory-is = memory-begins s.m (criterion_of s) mask (soft_after s mask w) (coded_soft_after s mask w);
  none = λ j p q. absurd (omega arith);
}

-- ---- t iterations

module _ {s : Settings} {mask : List ℕ} {w : List ℤ} {t : ℕ} {memory : Memory} {now : List ℤ}
    (h : RunGoesOn s mask w t memory now) where
  pub run-valid : WorkspaceValid (rule_of s) s.m w → WorkspaceValid (rule_of s) s.m now
  run-valid valid = rw h.work-is (valid-iterations valid t)

  pub run-memory : t < most_remembered → MemoryInRange memory
  run-memory few =
      memory-in-range s.m (criterion_of s) mask (soft_after s mask w) (coded_soft_after s mask w) t h.memory-is few

  -- at the limit, which is no 0
  pub run-ends-last : t ≡ s.limit → 1 ≤ t → end_of s mask w ≡ limit_of s
  run-ends-last last some =
      ending-last (holds_after s mask w) s.limit (omega arith) (λ j p q. h.none j p (omega arith))

-- ---- one step more

module _ {s : Settings} {mask : List ℕ} {w : List ℤ} {t : ℕ} {memory : Memory} {before after : Slices} {r : Progress}
    (h : RunGoesOn s mask w t memory before.work)
    (marks : 1 ≤ t → (i : ℕ) → i < 2 ^ s.m → get_or before.mark i 0 ≡ mark_at s mask before.work i)
    (step : OneIteration s memory mask before after r) where
  pub step-work : after.work ≡ work_after s mask w (suc t)
  step-work = ap (λ (x : Slices). x.work) step.slices ∙ ap (iteration (rule_of s) s.m) h.work-is

  marks-before : 1 ≤ t → (i : ℕ) → i < 2 ^ s.m → get_or before.mark i 0 ≡ mark_at s mask (work_after s mask w t) i
  marks-before some i l = marks some i l ∙ ap (λ (v : List ℤ). mark_at s mask v i) h.work-is

  step-memory : r.memory ≡ remembered_after s mask w (suc t)
  step-memory =
      step.memory-is
      ∙ memory-next s.m (criterion_of s) mask (soft_after s mask w) (coded_soft_after s mask w) t
      (λ i. get_or before.mark i 0) marks-before
      (soft_at s mask after.work) (λ i l. ap (λ (v : List ℤ). soft_at s mask v i) step-work)
      (coded_mark_at s after.work) (λ i l. ap (λ (v : List ℤ). coded_mark_at s v i) step-work) h.memory-is

  -- each of the three stands by itself, so that a definition that is wrong is refused at each
  pub step-holds : r.holds ≡ holds_after s mask w (suc t)
  step-holds =
      let memory-is : r.memory ≡ remembered_after s mask w (suc t) =
      step.memory-is
      ∙ memory-next s.m (criterion_of s) mask (soft_after s mask w) (coded_soft_after s mask w) t
      (λ i. get_or before.mark i 0) marks-before
      (soft_at s mask after.work) (λ i l. ap (λ (v : List ℤ). soft_at s mask v i) step-work)
      (coded_mark_at s after.work) (λ i l. ap (λ (v : List ℤ). coded_mark_at s v i) step-work) h.memory-is in
      step.holds-is
      ∙ holds-next s.m (criterion_of s) mask (soft_after s mask w) (coded_soft_after s mask w) t
      (λ i. get_or before.mark i 0) marks-before
      (soft_at s mask after.work) (λ i l. ap (λ (v : List ℤ). soft_at s mask v i) step-work)
      (coded_mark_at s after.work) (λ i l. ap (λ (v : List ℤ). coded_mark_at s v i) step-work) memory-is

  -- the criterion does not hold: the run goes on
  pub run-next : r.holds ≡ false → RunGoesOn s mask w (suc t) r.memory after.work
  run-next fails =
      let memory-is : r.memory ≡ remembered_after s mask w (suc t) =
      step.memory-is
      ∙ memory-next s.m (criterion_of s) mask (soft_after s mask w) (coded_soft_after s mask w) t
      (λ i. get_or before.mark i 0) marks-before
      (soft_at s mask after.work) (λ i l. ap (λ (v : List ℤ). soft_at s mask v i) step-work)
      (coded_mark_at s after.work) (λ i l. ap (λ (v : List ℤ). coded_mark_at s v i) step-work) h.memory-is in
      let holds-is : r.holds ≡ holds_after s mask w (suc t) =
      step.holds-is
      ∙ holds-next s.m (criterion_of s) mask (soft_after s mask w) (coded_soft_after s mask w) t
      (λ i. get_or before.mark i 0) marks-before
      (soft_at s mask after.work) (λ i l. ap (λ (v : List ℤ). soft_at s mask v i) step-work)
      (coded_mark_at s after.work) (λ i l. ap (λ (v : List ℤ). coded_mark_at s v i) step-work) memory-is in
      record {
        work-is = step-work;
        memory-is = memory-is;
        none =
            λ j p q. ⊎_elim (λ e. rw e (sym holds-is ∙ fails)) (λ l. h.none j p (le_of_suc-le-suc l))
            (eq-or-lt_of_le q);
      }

  -- it holds: the run has ended
  pub run_ends : r.holds ≡ true → suc t ≤ s.limit → end_of s mask w ≡ record { iteration = suc t; reason = 1 }
  run_ends ok high =
      let memory-is : r.memory ≡ remembered_after s mask w (suc t) =
      step.memory-is
      ∙ memory-next s.m (criterion_of s) mask (soft_after s mask w) (coded_soft_after s mask w) t
      (λ i. get_or before.mark i 0) marks-before
      (soft_at s mask after.work) (λ i l. ap (λ (v : List ℤ). soft_at s mask v i) step-work)
      (coded_mark_at s after.work) (λ i l. ap (λ (v : List ℤ). coded_mark_at s v i) step-work) h.memory-is in
      let holds-is : r.holds ≡ holds_after s mask w (suc t) =
      step.holds-is
      ∙ holds-next s.m (criterion_of s) mask (soft_after s mask w) (coded_soft_after s mask w) t
      (λ i. get_or before.mark i 0) marks-before
      (soft_at s mask after.work) (λ i l. ap (λ (v : List ℤ). soft_at s mask v i) step-work)
      (coded_mark_at s after.work) (λ i l. ap (λ (v : List ℤ). coded_mark_at s v i) step-work) memory-is in
      ending-found (holds_after s mask w) (suc t) s.limit (omega arith) high
      (λ j p q. h.none j p (le_of_suc-le-suc q)) (sym holds-is ∙ ok)

-- a criterion that holds at no iteration
pub ends-never : (s : Settings) (mask : List ℕ) (w : List ℤ) → criterion_of s ≡ Never → 1 ≤ s.limit
    → end_of s mask w ≡ limit_of s
ends-never s mask w never some = ending-last (holds_after s mask w) s.limit some (λ j p q. rw never)

-- criterion 0 is one
pub never_ends : (s : Settings) (mask : List ℕ) (w : List ℤ) → s.criterion ≡ 0 → 1 ≤ s.limit
    → end_of s mask w ≡ limit_of s
never_ends s mask w never some = ends-never s mask w (rw never) some

-- ---- the slices of a run that keeps its outputs

module _ (s : Settings) (mask : List ℕ) where
  -- one step more
  pub slices-next : (t : ℕ) (first : Slices) {before after : Slices} {memory : Memory} {r : Progress}
      → before ≡ slices_after s mask t first
      → OneIteration s memory mask before after r → after ≡ slices_after s mask (suc t) first
  slices-next zero first is step = step.slices ∙ rw is
  slices-next (suc t) first is step =
      step.slices
      ∙ rw is
      (outputs-again s mask (work_after s mask first.work (suc (suc t))) (work_after s mask first.work (suc t))
      first)

  -- their lengths stay
  pub slices-lengths : (t : ℕ) (first : Slices) → lengths_of (slices_after s mask t first) ≡ lengths_of first
  slices-lengths zero first = refl
  slices-lengths (suc t) first =
      outputs-lengths s mask (work_after s mask first.work (suc t)) first
      (length-iterations (rule_of s) s.m (suc t) first.work)

  -- the mark slice holds the marks of the workspace
  pub slices-marks : (t : ℕ) (first : Slices) → OutputsFit (2 ^ s.m) first → 1 ≤ t → (i : ℕ) → i < 2 ^ s.m
      → get_or (slices_after s mask t first).mark i 0 ≡ mark_at s mask (slices_after s mask t first).work i
  slices-marks zero first fits some i l = absurd (omega arith)
  slices-marks (suc t) first fits some i l =
      outputs-marks s mask (work_after s mask first.work (suc t)) first fits i l

-- ---- `decode` is the run from the start

module _ (s : Settings) (mask : List ℕ) (llr old : List ℤ) where
  pub run-from-start : ending s mask llr old ≡ end_of s mask (start_of s mask llr old)
  unfolding ending
  run-from-start = refl

  pub work-from-start : (t : ℕ) → after s mask llr old t ≡ work_after s mask (start_of s mask llr old) t
  unfolding after
  work-from-start t = refl
