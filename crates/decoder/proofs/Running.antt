-- The loop of a run: t steps are done, the run goes on, and the slices are those of the last step.
use Prim.Native.Nat.{ℕ, zero, suc, ◌^◌, ◌≤◌, ◌<◌}
use mathlib.Core.Path.{◌≡◌, sym, subst, ◌∙◌}
use mathlib.Core.Bool.{true, false}
use mathlib.Core.List.{List}
use native.Mathlib.Omega.{arith}
use lib.ListN.{get_or}
use Rattle.criteria.specs.declared.Memory.{Memory}
use Rattle.criteria.specs.declared.Progress.{Progress}
use Rattle.settings.specs.declared.Settings.{Settings}
use Rattle.settings.specs.Slices.{Slices}
use Rattle.settings.specs.SlicesLaws.{OutputsFit}
use Rattle.decoder.specs.declared.Reason.TheVariants as reason
use Rattle.std.specs.Prelude.{Ok}
use Rattle.decoder.specs.declared.Ending.{Ending as CodeEnding}
use Rattle.decoder.specs.Decoder.{mark_at, end_of, ended, result_of}
use Rattle.decoder.specs.Run.{slices_after, EndsAs, OneIteration, RunGoesOn}
use Rattle.decoder.specs.RunLaws.{run-next, run_ends, run-ends-last, slices-next, slices-marks}

pub record Steps (s : Settings) (mask : List ℕ) (t : ℕ) (memory : Memory) (first now : Slices) : Type 0 where
  pub goes_on : RunGoesOn s mask first.work t memory now.work
  pub slices : now ≡ slices_after s mask t first

module _ {s : Settings} {mask : List ℕ} {t : ℕ} {memory : Memory} {first now : Slices}
    (h : Steps s mask t memory first now) where
  -- one step more
  module _ {x : Slices} {r : Progress} (step : OneIteration s memory mask now x r) where
    next-slices : x ≡ slices_after s mask (suc t) first
    next-slices = slices-next s mask t first h.slices step

    module _ (fits : OutputsFit (2 ^ s.m) first) where
      marks : 1 ≤ t → (i : ℕ) → i < 2 ^ s.m → get_or now.mark i 0 ≡ mark_at s mask now.work i
      marks some i l =
          subst (λ (y : Slices). get_or y.mark i 0 ≡ mark_at s mask y.work i) (sym h.slices)
          (slices-marks s mask t first fits some i l)

      pub next-step : r.holds ≡ false → (n : ℕ) → n ≡ suc t → Steps s mask n r.memory first x
      next-step fails n e = rw e record { goes_on = run-next h.goes_on marks step fails; slices = next-slices }

      pub found : r.holds ≡ true → suc t ≤ s.limit → (n : ℕ) → n ≡ suc t
          → EndsAs s mask (end_of s mask first.work) first x (record { iterations = n; reason = reason.Criterion })
      found ok high n is =
          let e = run_ends h.goes_on marks step ok high in
          record { answer = rw (e, is); slices = next-slices ∙ rw e }

-- at the limit, which is no 0
pub steps-ended : (t : ℕ) {s : Settings} {mask : List ℕ} {memory : Memory} {first now : Slices} {r : CodeEnding}
    → Steps s mask t memory first now
    → t ≡ s.limit → 1 ≤ t → result_of (Ok r) ≡ ended s.limit 2
    → EndsAs s mask (end_of s mask first.work) first now r
steps-ended zero h last some is = absurd (omega arith)
steps-ended (suc t) h last some is =
    let e = run-ends-last h.goes_on last some in
    record { answer = rw e is; slices = h.slices ∙ rw (e, ← last) }
