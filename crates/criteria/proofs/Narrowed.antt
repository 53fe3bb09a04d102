-- What is remembered, and whether the criterion holds, of slices cut to their first 2 ^ m elements: what they are of
-- the whole slices, since they read no others.
use Prim.Native.Nat.{ℕ, ◌^◌, ◌<◌}
use mathlib.Core.Path.{◌≡◌, refl, ap, ◌∙◌}
use mathlib.Core.Bool.{Bool, true}
use mathlib.Core.List.{List}
use native.Mathlib.Omega.{arith}
use lib.IntN.{ℤ, pos}
use lib.ListN.{get_or, take}
use Rattle.std.proofs.lemmas.List.{get_or-take, length-take-le}
use Rattle.calls.specs.EveryLaws.{every-same}
use Rattle.polar.specs.Mask.{by_kind, every_information}
use Rattle.criteria.specs.declared.Criterion.{Criterion}
use Rattle.criteria.specs.declared.Criterion.TheVariants.{
  Never,
  GMatrix,
  LeastSize,
  Steady,
  LeastInformationSize,
}
use Rattle.criteria.specs.declared.Memory.{Memory}
use Rattle.criteria.specs.Marks.{mark_of}
use Rattle.criteria.specs.Criteria.{same_marks}
use Rattle.criteria.specs.Memory.{memory_next, holds_now}
use Rattle.criteria.specs.Private.{MarkBytes}
use Rattle.criteria.specs.CriteriaLaws.{same-marks-same}
use Rattle.criteria.specs.MemoryLaws.{holds-now-same}

module _ (m n : ℕ) (whole : n ≡ 2 ^ m) where
  first-at : {A : Type 0} (l : List A) (z : A) (i : ℕ) → i < 2 ^ m → get_or (take n l) i z ≡ get_or l i z
  first-at l z i h = get_or-take n l i z (omega arith)

  pub mark-bytes-first : {l : List ℕ} → MarkBytes (2 ^ m) l → MarkBytes (2 ^ m) (take n l)
  mark-bytes-first {l} h = record {
    long = omega (arith, h.long, length-take-le n l (omega (arith, h.long)));
    at = λ i q. rw (first-at l 0 i q) (h.at i q);
  }

  module _ (mask : List ℕ) where
    every-first : (test : ℕ → Bool)
        → every_information (2 ^ m) (take n mask) test ≡ every_information (2 ^ m) mask test
    every-first test =
        every-same (2 ^ m) _ _ (λ i l. ap (λ (byte : ℕ). by_kind byte (test i) (λ bit. true)) (first-at mask 0 i l))

    pub memory-next-first : (criterion : Criterion) (memory : Memory) (before coded : List ℕ) (soft : List ℤ)
        → memory_next m criterion (take n mask) memory (λ i. get_or (take n before) i 0)
        (λ i. get_or (take n soft) i (pos 0)) (λ i. get_or (take n coded) i 0)
        ≡ memory_next m criterion mask memory (λ i. get_or before i 0) (λ i. get_or soft i (pos 0))
        (λ i. get_or coded i 0)
    memory-next-first criterion memory before coded soft =
        let same : same_marks (2 ^ m) (take n mask) (λ i. get_or (take n before) i 0)
        (λ i. mark_of (get_or (take n soft) i (pos 0)))
        ≡ same_marks (2 ^ m) mask (λ i. get_or before i 0) (λ i. mark_of (get_or soft i (pos 0)))
        = every-first _
        ∙ same-marks-same (2 ^ m) mask _ _ _ _ (first-at before 0)
        (λ i l. ap mark_of (first-at soft (pos 0) i l)) in
        rw same

    holds-now-mask : (criterion : Criterion) (memory : Memory) (soft : ℕ → ℤ) (mark coded : ℕ → ℕ)
        → holds_now m criterion (take n mask) memory soft mark coded ≡ holds_now m criterion mask memory soft mark coded
    holds-now-mask Never memory soft mark coded = refl
    holds-now-mask GMatrix memory soft mark coded = refl
    holds-now-mask (LeastSize operand) memory soft mark coded = refl
    holds-now-mask (Steady W) memory soft mark coded = refl
    holds-now-mask (LeastInformationSize operand) memory soft mark coded = every-first _

    pub holds-now-first : (criterion : Criterion) (memory : Memory) (marks coded : List ℕ) (soft : List ℤ)
        (mark : ℕ → ℕ)
        → ((i : ℕ) → i < 2 ^ m → get_or marks i 0 ≡ mark i)
        → holds_now m criterion (take n mask) memory (λ i. get_or (take n soft) i (pos 0))
        (λ i. get_or (take n marks) i 0) (λ i. get_or (take n coded) i 0)
        ≡ holds_now m criterion mask memory (λ i. get_or soft i (pos 0)) mark (λ i. get_or coded i 0)
    holds-now-first criterion memory marks coded soft mark h =
        holds-now-mask criterion memory _ _ _
        ∙ holds-now-same m criterion mask memory _ _ _ _ _ _ (first-at soft (pos 0))
        (λ i l. first-at marks 0 i l ∙ h i l) (first-at coded 0)
