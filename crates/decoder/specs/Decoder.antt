-- Document 01, the outputs of "Messages" as 2026-02 amends them, "Endings" with the criterion of 2026-04, and what a
-- call of the decoder answers and leaves. Definitions only.
use Rattle.std.specs.Prelude.{ℕ, zero, suc, ◌-◌, ◌^◌, ◌≡◌, Bool, cond, List, ℤ, pos, get_or}
use Rattle.std.specs.Prelude.{Result as Fallible, Ok, Err}
use Rattle.calls.specs.declared.Refusal.{Refusal}
use Rattle.calls.specs.Numbers.{refusal_number}
use Rattle.calls.specs.LentMemory.{overwrite, unless_refused}
use Rattle.calls.specs.Signs.{flipped}
use Rattle.polar.specs.Mask.{by_kind}
use Rattle.message.specs.declared.MinSum.{MinSum}
use Rattle.message.specs.Message.{add}
use Rattle.sweeps.specs.Workspace.{L, R}
use Rattle.sweeps.specs.Iteration.{iterations, start}
use Rattle.criteria.specs.declared.Criterion.{Criterion}
use Rattle.criteria.specs.declared.Criterion.TheVariants.{
  Never,
  GMatrix,
  LeastSize,
  Steady,
  LeastInformationSize,
}
use Rattle.criteria.specs.Criteria.{holds}
use Rattle.criteria.specs.Marks.{mark_of}
use Rattle.settings.specs.declared.Settings.{Settings}
use Rattle.settings.specs.Settings.{decode_number}
use Rattle.settings.specs.Slices.{Slices, lengths_of}
use Rattle.decoder.specs.declared.Reason.{Reason}
use Rattle.decoder.specs.declared.Reason.TheVariants as reason
use Rattle.decoder.specs.declared.Ending.{Ending as CodeEnding}

-- ---- outputs: the soft output of an information position i is L(0, i) + R(0, i), that of a frozen one C (2026-02);
-- the coded soft output is L(m, i) + R(m, i). Both sums are cut to the ceiling

-- the settings of the message arithmetic
abbrev pub rule_of : Settings → MinSum
rule_of s = record { ceiling = s.ceiling; scale = s.scale }

-- what a soft output is, by the position's mask byte: the sum of the messages of both directions, or, at a frozen
-- position, C with the sign of the frozen bit
abbrev pub soft_of : MinSum → ℕ → ℤ → ℤ → ℤ
soft_of rule byte left right = by_kind byte (add rule left right) (λ bit. flipped bit (pos rule.ceiling))

abbrev pub soft_at : Settings → List ℕ → List ℤ → ℕ → ℤ
soft_at s mask w i = soft_of (rule_of s) (get_or mask i 0) (L s.m w 0 i) (R s.m w 0 i)

abbrev pub coded_soft_at : Settings → List ℤ → ℕ → ℤ
coded_soft_at s w i = add (rule_of s) (L s.m w s.m i) (R s.m w s.m i)

-- their marks
abbrev pub mark_at : Settings → List ℕ → List ℤ → ℕ → ℕ
mark_at s mask w i = mark_of (soft_at s mask w i)

abbrev pub coded_mark_at : Settings → List ℤ → ℕ → ℕ
coded_mark_at s w i = mark_of (coded_soft_at s w i)

-- ---- endings

-- criteria by their numbers; the operand of 0 and 1 is 0
abbrev pub criterion_by : ℕ → Settings → Criterion
criterion_by zero s = Never
criterion_by (suc zero) s = GMatrix
criterion_by (suc (suc zero)) s = LeastSize s.operand
criterion_by (suc (suc (suc zero))) s = Steady s.operand
criterion_by (suc (suc (suc (suc n)))) s = LeastInformationSize s.operand

abbrev pub criterion_of : Settings → Criterion
criterion_of s = criterion_by s.criterion s

-- the iteration and the reason
pub record Ending : Type 0 where
  pub iteration : ℕ
  pub reason : ℕ

-- the first iteration from t on where the criterion holds, with reason 1; if there is none among it and the n
-- after it, the last, with reason 2
abbrev pub ending_from : (ℕ → Bool) → ℕ → ℕ → Ending
ending_from holds_at t zero =
    cond (holds_at t) (record { iteration = t; reason = 1 }) (record { iteration = t; reason = 2 })
ending_from holds_at t (suc n) =
    cond (holds_at t) (record { iteration = t; reason = 1 }) (ending_from holds_at (suc t) n)

-- from 1 to the limit T
abbrev pub ending_of : (ℕ → Bool) → ℕ → Ending
ending_of holds_at T = ending_from holds_at 1 (T - 1)

-- a run from a workspace w
module _ (s : Settings) (mask : List ℕ) (w : List ℤ) where
  -- the workspace after t iterations, and its soft outputs
  abbrev pub work_after : ℕ → List ℤ
  work_after t = iterations (rule_of s) s.m t w

  abbrev pub soft_after : ℕ → ℕ → ℤ
  soft_after t = soft_at s mask (work_after t)

  abbrev pub coded_soft_after : ℕ → ℕ → ℤ
  coded_soft_after t = coded_soft_at s (work_after t)

  -- whether the criterion holds then
  abbrev pub holds_after : ℕ → Bool
  holds_after = holds s.m (criterion_of s) mask soft_after coded_soft_after

  -- the iteration and the reason at which it ends
  abbrev pub end_of : Ending
  end_of = ending_of holds_after s.limit

-- the run of a block, from the start: the workspace after t iterations, and its ending
abbrev pub start_of : Settings → List ℕ → List ℤ → List ℤ → List ℤ
start_of s mask llr old = start s.m s.ceiling mask llr old

unfoldable pub after : Settings → List ℕ → List ℤ → List ℤ → ℕ → List ℤ
after s mask llr old = work_after s mask (start_of s mask llr old)

unfoldable pub ending : Settings → List ℕ → List ℤ → List ℤ → Ending
ending s mask llr old = end_of s mask (start_of s mask llr old)

-- the workspace as it stands at the end
abbrev pub final : Settings → List ℕ → List ℤ → List ℤ → List ℤ
final s mask llr old = after s mask llr old (ending s mask llr old).iteration

-- ---- the answer of a call, by its number: a refusal's number alone, or the iteration and the reason

pub data Result : Type 0 where
  refused : ℕ → Result
  ended : ℕ → ℕ → Result

abbrev pub reason_number : Reason → ℕ
reason_number reason.Criterion = 1
reason_number reason.Limit = 2

-- what `decode` hands back
abbrev pub Outcome : Type 0
Outcome = Fallible CodeEnding Refusal

abbrev pub result_of : Outcome → Result
result_of (Ok e) = ended e.iterations (reason_number e.reason)
result_of (Err r) = refused (refusal_number r)

abbrev pub result_by : ℕ → Ending → Result
result_by zero e = ended e.iteration e.reason
result_by (suc number) e = refused (suc number)

-- ---- what the lent slices hold afterwards: the outputs of a workspace in their first N elements, and the workspace

abbrev pub outputs_of : Settings → List ℕ → List ℤ → Slices → Slices
outputs_of s mask w old =
    record {
      soft = overwrite (2 ^ s.m) (soft_at s mask w) old.soft;
      mark = overwrite (2 ^ s.m) (mark_at s mask w) old.mark;
      coded_soft = overwrite (2 ^ s.m) (coded_soft_at s w) old.coded_soft;
      coded_mark = overwrite (2 ^ s.m) (coded_mark_at s w) old.coded_mark;
      work = w;
    }

-- ---- a call, from what it is handed: settings, mask, LLRs, and the slices as they were lent

module _ (s : Settings) (mask : List ℕ) (llr : List ℤ) (lent : Slices) where
  abbrev pub call_number : ℕ
  call_number = decode_number s mask llr (lengths_of lent)

  abbrev pub decode_result : Result
  decode_result = result_by call_number (ending s mask llr lent.work)

  abbrev pub decode_slices : Slices
  decode_slices = unless_refused call_number (outputs_of s mask (final s mask llr lent.work) lent) lent

-- ---- the promise of `decode`: its answer and the lent slices afterwards, as functions of what came in

pub record Decoded (s : Settings) (mask : List ℕ) (llr : List ℤ) (before after : Slices) (r : Outcome) : Type 0 where
  pub answer : result_of r ≡ decode_result s mask llr before
  pub slices : after ≡ decode_slices s mask llr before
