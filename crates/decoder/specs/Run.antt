-- A run of the decoder, step by step: what a criterion remembers and the slices hold after t iterations, what one
-- iteration leaves, and what a run that has ended leaves. A reader of the contract of `decode` needs none of it.
use Rattle.std.specs.Prelude.{ℕ, zero, suc, ◌≤◌, ◌≡◌, false, List, ℤ, get_or, Ok}
use Rattle.sweeps.specs.Iteration.{iteration}
use Rattle.criteria.specs.declared.Memory.{Memory}
use Rattle.criteria.specs.declared.Progress.{Progress}
use Rattle.criteria.specs.Memory.{memory_after, memory_next, holds_now}
use Rattle.settings.specs.declared.Settings.{Settings}
use Rattle.settings.specs.Slices.{Slices}
use Rattle.decoder.specs.declared.Ending.{Ending as CodeEnding}
use Rattle.decoder.specs.Decoder.{
  rule_of,
  soft_at,
  mark_at,
  coded_mark_at,
  criterion_of,
  Ending,
  work_after,
  soft_after,
  coded_soft_after,
  holds_after,
  ended,
  result_of,
  outputs_of,
}

-- what the criterion remembers after t iterations of the workspace w
abbrev pub remembered_after : Settings → List ℕ → List ℤ → ℕ → Memory
remembered_after s mask w = memory_after s.m (criterion_of s) mask (soft_after s mask w) (coded_soft_after s mask w)

-- the ending of a run whose criterion never holds
abbrev pub limit_of : Settings → Ending
limit_of s = record { iteration = s.limit; reason = 2 }

-- the slices after t iterations: untouched before the first, then the outputs of the last
abbrev pub slices_after : Settings → List ℕ → ℕ → Slices → Slices
slices_after s mask zero first = first
slices_after s mask (suc t) first = outputs_of s mask (work_after s mask first.work (suc t)) first

-- a run that has ended: its answer, and the slices before and after it
pub record EndsAs (s : Settings) (mask : List ℕ) (e : Ending) (before after : Slices) (r : CodeEnding) : Type 0 where
  pub answer : result_of (Ok r) ≡ ended e.iteration e.reason
  pub slices : after ≡ outputs_of s mask (work_after s mask before.work e.iteration) before

-- one iteration: the slices before and after it, and the criterion's answer. The marks
-- before it are those of the mark slice
pub record OneIteration (s : Settings) (memory : Memory) (mask : List ℕ) (before after : Slices)
    (r : Progress) : Type 0 where
  pub slices : after ≡ outputs_of s mask (iteration (rule_of s) s.m before.work) before
  pub memory-is : r.memory
      ≡ memory_next s.m (criterion_of s) mask memory (λ i. get_or before.mark i 0) (soft_at s mask after.work)
      (coded_mark_at s after.work)
  pub holds-is : r.holds
      ≡ holds_now s.m (criterion_of s) mask r.memory (soft_at s mask after.work) (mark_at s mask after.work)
      (coded_mark_at s after.work)

-- a run that goes on: t iterations of w have given the workspace `now`, and the criterion held after none of them
pub record RunGoesOn (s : Settings) (mask : List ℕ) (w : List ℤ) (t : ℕ) (memory : Memory) (now : List ℤ) : Type 0 where
  pub work-is : now ≡ work_after s mask w t
  pub memory-is : memory ≡ remembered_after s mask w t
  pub none : (j : ℕ) → 1 ≤ j → j ≤ t → holds_after s mask w j ≡ false
