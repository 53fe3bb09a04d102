-- Laws of what a criterion remembers: the steady count decides criterion 3, and one iteration after another
-- `memory_next` and `holds_now` give what `memory_after` and `holds` say.
use Rattle.std.specs.Prelude.{ℕ, zero, suc, ◌-◌, ◌^◌, ◌≤◌, ◌<◌, ◌≡◌, refl, Bool, true, false, cond, ◌&&◌, List, leb, ℤ}
use Rattle.std.proofs.Common.{zero-le, sym, ap, ap₂, ◌∙◌, add-one, arith, le-leb}
use Rattle.std.proofs.Math.Bool.{and-false}
use Rattle.std.proofs.Math.Nat.{sub-zero, suc-sub-suc}
use Rattle.std.proofs.Math.Dec.{leb-suc-zero, leb-suc-suc}
use Rattle.std.proofs.lemmas.Bool.{lt-leb}
use Rattle.criteria.specs.declared.Criterion.{Criterion}
use Rattle.criteria.specs.declared.Criterion.TheVariants.{
  Never,
  GMatrix,
  LeastSize,
  Steady,
  LeastInformationSize,
}
use Rattle.criteria.specs.declared.Memory.{Memory}
use Rattle.criteria.specs.Marks.{mark_of}
use Rattle.calls.specs.Every.{every}
use Rattle.criteria.specs.Criteria.{same_marks, steady, holds}
use Rattle.criteria.specs.Memory.{
  steady_count,
  steady_next,
  kept_marks,
  count_for,
  nothing,
  memory_after,
  memory_next,
  holds_now,
}
use Rattle.criteria.specs.Private.{most_remembered, MemoryInRange}
use Rattle.calls.specs.EveryLaws.{every-same, every_first}
use Rattle.criteria.specs.CriteriaLaws.{
  g-matrix-same,
  least-size-same,
  same-marks-same,
  least-information-size-same,
}

-- ---- the steady count

pub steady-next : (same : ℕ → Bool) (t : ℕ)
    → steady_next t (steady_count same t) (same (suc t)) ≡ steady_count same (suc t)
steady-next same zero = refl
steady-next same (suc t) = refl

cond-le : (b : Bool) (n t : ℕ) → n ≤ t → cond b n 0 ≤ t
cond-le true n t h = h
cond-le false n t h = omega arith

pub steady-count-le : (same : ℕ → Bool) (t : ℕ) → steady_count same t ≤ t
steady-count-le same zero = omega arith
steady-count-le same (suc zero) = omega arith
steady-count-le same (suc (suc t)) =
    cond-le (same (suc (suc t))) (suc (steady_count same (suc t))) (suc (suc t))
    (omega (arith, steady-count-le same (suc t)))

-- a last iteration that changed the marks, and one that kept them
module _ (same : ℕ → Bool) (W t : ℕ) where
  first : {b : Bool} → same (suc t) ≡ b → every (suc W) (λ k. same (suc t - k)) ≡ b && every W (λ k. same (t - k))
  first e =
      every_first W (λ k. same (suc t - k))
      ∙ ap₂ (λ (a b : Bool). a && b) (ap same (sub-zero (suc t)) ∙ e)
      (every-same W _ _ (λ k l. ap same (suc-sub-suc t k)))

  changed : same (suc t) ≡ false → steady (suc W) same (suc t) ≡ false
  changed e = ap (λ (b : Bool). leb (suc (suc W)) (suc t) && b) (first e) ∙ and-false (leb (suc (suc W)) (suc t))

  kept : same (suc t) ≡ true → steady (suc W) same (suc t) ≡ steady W same t
  kept e = ap₂ (λ (a b : Bool). a && b) (leb-suc-suc (suc W) t) (first e)

pub steady-count : (W : ℕ) (same : ℕ → Bool) (t : ℕ) → 1 ≤ t → leb W (steady_count same t) ≡ steady W same t
steady-count W same zero h = absurd (omega arith)
steady-count zero same (suc t) h =
    le-leb 0 (steady_count same (suc t)) zero-le ∙ sym (ap (λ (b : Bool). b && true) (le-leb 1 (suc t) h))
steady-count (suc W) same (suc zero) h =
    lt-leb (suc W) 0 (omega arith)
    ∙ sym (ap (λ (b : Bool). b && every (suc W) (λ k. same (1 - k))) (lt-leb (suc (suc W)) 1 (omega arith)))
steady-count (suc W) same (suc (suc t)) h = go (steady-count W same (suc t) (omega arith)) (same (suc (suc t))) refl
  where
    go : leb W (steady_count same (suc t)) ≡ steady W same (suc t) → (b : Bool) → same (suc (suc t)) ≡ b
        → leb (suc W) (cond b (suc (steady_count same (suc t))) 0) ≡ steady (suc W) same (suc (suc t))
    go ih true e = leb-suc-suc W (steady_count same (suc t)) ∙ ih ∙ sym (kept same W (suc t) e)
    go ih false e = leb-suc-zero W ∙ sym (changed same W (suc t) e)

-- ---- before the first iteration

pub memory-begins : (m : ℕ) (criterion : Criterion) (mask : List ℕ) (soft coded_soft : ℕ → ℕ → ℤ)
    → nothing ≡ memory_after m criterion mask soft coded_soft 0
memory-begins m Never mask soft coded_soft = refl
memory-begins m GMatrix mask soft coded_soft = refl
memory-begins m (LeastSize operand) mask soft coded_soft = refl
memory-begins m (Steady W) mask soft coded_soft = refl
memory-begins m (LeastInformationSize operand) mask soft coded_soft = refl

-- ---- one iteration more

module _ (m : ℕ) (criterion : Criterion) (mask : List ℕ) (soft coded_soft : ℕ → ℕ → ℤ) (t : ℕ) where
  abbrev kept_at : ℕ → Bool
  kept_at = kept_marks m mask soft

  count-le : (criterion : Criterion) → count_for criterion (steady_count kept_at t) ≤ t
  count-le Never = zero-le
  count-le GMatrix = zero-le
  count-le (LeastSize operand) = zero-le
  count-le (Steady W) = steady-count-le kept_at t
  count-le (LeastInformationSize operand) = zero-le

  pub memory-in-range : {memory : Memory} → memory ≡ memory_after m criterion mask soft coded_soft t
      → t < most_remembered
      → MemoryInRange memory
  memory-in-range is l = rw is record { iterations-lt = l; steady-le = count-le criterion }

  -- `before` are the marks of iteration t, if there was one; value and coded_mark are the soft values and
  -- the coded marks of iteration t + 1
  module _ (before : ℕ → ℕ) (marks : 1 ≤ t → (i : ℕ) → i < 2 ^ m → before i ≡ mark_of (soft t i))
      (value : ℕ → ℤ) (values : (i : ℕ) → i < 2 ^ m → value i ≡ soft (suc t) i)
      (coded_mark : ℕ → ℕ) (coded_marks : (i : ℕ) → i < 2 ^ m → coded_mark i ≡ mark_of (coded_soft (suc t) i)) where
    abbrev same : Bool
    same = same_marks (2 ^ m) mask before (λ i. mark_of (value i))

    same_kept : 1 ≤ t → same ≡ kept_at (suc t)
    same_kept some =
        let last : suc t - 1 ≡ t = omega arith in
        rw last
        (same-marks-same (2 ^ m) mask before _ (λ i. mark_of (value i)) _ (marks some) (λ i l. ap mark_of (values i l)))

    count_next : (criterion : Criterion)
        → count_for criterion (steady_next t (count_for criterion (steady_count kept_at t)) same)
        ≡ count_for criterion (steady_count kept_at (suc t))
    count_next Never = refl
    count_next GMatrix = refl
    count_next (LeastSize operand) = refl
    count_next (LeastInformationSize operand) = refl
    count_next (Steady W) = steady-from t same_kept
      where
        steady-from : (n : ℕ) → (1 ≤ n → same ≡ kept_at (suc n))
            → steady_next n (steady_count kept_at n) same ≡ steady_count kept_at (suc n)
        steady-from zero is = refl
        steady-from (suc n) is = rw (is (omega arith)) (steady-next kept_at (suc n))

    pub memory-next : {memory : Memory} → memory ≡ memory_after m criterion mask soft coded_soft t
        → memory_next m criterion mask memory before value coded_mark
        ≡ memory_after m criterion mask soft coded_soft (suc t)
    memory-next is = rw is (λ i. record { iterations = add-one t i; steady = count_next criterion i })

    pub holds-next : {memory : Memory} → memory ≡ memory_after m criterion mask soft coded_soft (suc t)
        → holds_now m criterion mask memory value (λ i. mark_of (value i)) coded_mark
        ≡ holds m criterion mask soft coded_soft (suc t)
    holds-next is = rw is (by-criterion criterion)
      where
        by-criterion : (c : Criterion)
            → holds_now m c mask (memory_after m c mask soft coded_soft (suc t)) value (λ i. mark_of (value i))
            coded_mark
            ≡ holds m c mask soft coded_soft (suc t)
        by-criterion Never = refl
        by-criterion GMatrix = g-matrix-same m _ _ coded_mark _ (λ i l. ap mark_of (values i l)) coded_marks
        by-criterion (LeastSize operand) = least-size-same (2 ^ m) operand value (soft (suc t)) values
        by-criterion (Steady W) = steady-count W kept_at (suc t) (omega arith)
        by-criterion (LeastInformationSize operand) =
            least-information-size-same (2 ^ m) operand mask value (soft (suc t)) values

-- the criterion reads the first 2 ^ m places alone
pub memory-next-same : (m : ℕ) (criterion : Criterion) (mask : List ℕ) (memory : Memory) (before : ℕ → ℕ)
    (soft soft' : ℕ → ℤ) (coded coded' : ℕ → ℕ)
    → ((i : ℕ) → i < 2 ^ m → soft i ≡ soft' i) → ((i : ℕ) → i < 2 ^ m → coded i ≡ coded' i)
    → memory_next m criterion mask memory before soft coded ≡ memory_next m criterion mask memory before soft' coded'
memory-next-same m criterion mask memory before soft soft' coded coded' h k =
    let same : same_marks (2 ^ m) mask before (λ i. mark_of (soft i))
    ≡ same_marks (2 ^ m) mask before (λ i. mark_of (soft' i))
    = same-marks-same (2 ^ m) mask before before _ _ (λ i l. refl) (λ i l. ap mark_of (h i l)) in
    rw same

pub holds-now-same : (m : ℕ) (criterion : Criterion) (mask : List ℕ) (memory : Memory) (soft soft' : ℕ → ℤ)
    (mark mark' coded coded' : ℕ → ℕ)
    → ((i : ℕ) → i < 2 ^ m → soft i ≡ soft' i) → ((i : ℕ) → i < 2 ^ m → mark i ≡ mark' i)
    → ((i : ℕ) → i < 2 ^ m → coded i ≡ coded' i)
    → holds_now m criterion mask memory soft mark coded ≡ holds_now m criterion mask memory soft' mark' coded'
holds-now-same m Never mask memory soft soft' mark mark' coded coded' es em ec = refl
holds-now-same m GMatrix mask memory soft soft' mark mark' coded coded' es em ec =
    g-matrix-same m mark mark' coded coded' em ec
holds-now-same m (LeastSize operand) mask memory soft soft' mark mark' coded coded' es em ec =
    least-size-same (2 ^ m) operand soft soft' es
holds-now-same m (Steady W) mask memory soft soft' mark mark' coded coded' es em ec = refl
holds-now-same m (LeastInformationSize operand) mask memory soft soft' mark mark' coded coded' es em ec =
    least-information-size-same (2 ^ m) operand mask soft soft' es
