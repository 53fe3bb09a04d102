-- What `decode` comes to: a refusal leaves everything as it was, and a run from the start is what the definitions say.
use Prim.Native.Nat.{ℕ, zero, suc, ◌^◌}
use mathlib.Core.Path.{◌≡◌, refl, sym, ap, subst, ◌∙◌}
use mathlib.Core.List.{List}
use lib.IntN.{ℤ}
use Rattle.std.specs.Prelude.{Result as Fallible, Ok, Err}
use Rattle.calls.specs.declared.Refusal.{Refusal}
use Rattle.calls.specs.Numbers.{refusal_number, number_of}
use Rattle.calls.specs.NumberLaws.{refusal-positive, refused-keeps}
use Rattle.message.specs.Rule.{RuleInRange}
use Rattle.sweeps.specs.IterationLaws.{WorkspaceValid, valid-start}
use Rattle.settings.specs.declared.Settings.{Settings}
use Rattle.settings.specs.SettingsLaws.{Accepted, accepted}
use Rattle.settings.specs.Slices.{Slices, slices, lengths_of}
use Rattle.settings.specs.SlicesLaws.{OutputsFit, outputs-fit, fit-with}
use Rattle.criteria.specs.declared.Criterion.TheVariants.{Never}
use Rattle.decoder.specs.declared.Ending.{Ending as CodeEnding}
use Rattle.decoder.specs.Decoder.{rule_of, Ending, ending, refused, result_by, call_number, outputs_of, Decoded}
use Rattle.decoder.specs.Decoder.{criterion_of, end_of, start_of}
use Rattle.decoder.specs.Run.{limit_of, EndsAs}
use Rattle.decoder.specs.RunLaws.{ends-never, run-from-start, work-from-start}

by-refusal : (n : ℕ) (e : Ending) → (0 ≡ n → ⊥) → refused n ≡ result_by n e
by-refusal zero e h = absurd (h refl)
by-refusal (suc n) e h = refl

pub decoded-refused : (s : Settings) (mask : List ℕ) (llr : List ℤ) (lent : Slices) (r : Refusal)
    → call_number s mask llr lent ≡ refusal_number r → Decoded s mask llr lent lent (Err r)
decoded-refused s mask llr lent r is = record {
  answer = rw is (by-refusal (refusal_number r) (ending s mask llr lent.work) (refusal-positive r));
  slices = rw is (sym (refused-keeps r _ lent));
}

-- a call that passes the tests, and a workspace that holds its start
pub record Begun (s : Settings) (mask : List ℕ) (llr : List ℤ) (lent : Slices) (work : List ℤ) : Type 0 where
  pub accepted_is : call_number s mask llr lent ≡ 0
  pub start_is : work ≡ start_of s mask llr lent.work

module _ {s : Settings} {mask : List ℕ} {llr : List ℤ} {lent : Slices} {work : List ℤ} where
  pub begun : {answer : Fallible Unit Refusal} {u : Unit} → number_of answer ≡ call_number s mask llr lent
      → answer ≡ Ok u → work ≡ start_of s mask llr lent.work → Begun s mask llr lent work
  begun tested passed start = record { accepted_is = sym tested ∙ ap number_of passed; start_is = start }

  module _ (h : Begun s mask llr lent work) where
    tests : Accepted s mask llr (lengths_of lent)
    tests = accepted s mask llr (lengths_of lent) h.accepted_is

    pub work-valid : WorkspaceValid (rule_of s) s.m work
    work-valid =
        let a = tests.settings in
        let tested : RuleInRange (rule_of s) = record {
          some = a.ceiling-some;
          ceiling-le = a.ceiling-le;
          scale-some = a.scale-some;
          scale-le = a.scale-le;
        } in
        rw h.start_is
        (valid-start {rule = rule_of s} mask llr lent.work tested a.m-some a.m-le tests.slices.work-long tests.within)

    abbrev started : Slices
    started = slices lent.soft lent.mark lent.coded_soft lent.coded_mark work

    pub work-fits : OutputsFit (2 ^ s.m) started
    work-fits = fit-with work (outputs-fit lent tests.slices)

    module _ {x : Slices} {r : CodeEnding} where
      pub decoded-run : EndsAs s mask (end_of s mask work) started x r → Decoded s mask llr lent x (Ok r)
      decoded-run ends =
          let e : end_of s mask work ≡ ending s mask llr lent.work =
          rw h.start_is (sym (run-from-start s mask llr lent.work)) in
          record {
            answer = ends.answer ∙ rw (e, h.accepted_is);
            slices =
                ends.slices
                ∙ rw (e, h.start_is, h.accepted_is)
                (ap (λ (v : List ℤ). outputs_of s mask v lent) (sym (work-from-start s mask llr lent.work _)));
          }

      -- the same under a criterion that never holds
      pub decoded-limit : criterion_of s ≡ Never → EndsAs s mask (limit_of s) started x r
          → Decoded s mask llr lent x (Ok r)
      decoded-limit never ends =
          decoded-run
          (subst (λ (e : Ending). EndsAs s mask e started x r)
          (sym (ends-never s mask work never tests.settings.limit-some)) ends)
