-- Laws of the criteria: each reads the first 2 ^ m places alone, and none changes where the signs of the soft outputs
-- turn with the bits u and those of the coded soft outputs with the coded bits.
use Rattle.std.specs.Prelude.{ℕ, zero, suc, ◌-◌, ◌^◌, ◌≤◌, ◌<◌, ◌≡◌, refl, Bool, true, false, not, ◌&&◌, List, leb, eqb}
use Rattle.std.specs.Prelude.{ℤ, pos, negsuc, nat_abs}
use Rattle.std.proofs.Common.{sym, ap, ap₂, ◌∙◌, true≢false, arith}
use Rattle.std.proofs.Math.Path.{fun_ext}
use Rattle.std.specs.Bool.{beq}
use Rattle.calls.specs.Signs.{flipped}
use Rattle.calls.specs.SignLaws.{size-flipped}
use Rattle.calls.specs.Bits.{xor, bit_of}
use Rattle.polar.specs.MaskLaws.{every-information-same}
use Rattle.polar.specs.Code.{coded}
use Rattle.polar.specs.TransformLaws.{coded-xor, coded-same}
use Rattle.criteria.specs.declared.Criterion.{Criterion}
use Rattle.criteria.specs.declared.Criterion.TheVariants.{
  Never,
  GMatrix,
  LeastSize,
  Steady,
  LeastInformationSize,
}
use Rattle.criteria.specs.Marks.{mark_of}
use Rattle.criteria.specs.Criteria.{
  untied,
  g_matrix,
  least_size,
  same_marks,
  steady,
  least_information_size,
  holds,
}
use Rattle.criteria.specs.Memory.{kept_marks}
use Rattle.calls.specs.NumberLaws.{and-passed}
use Rattle.calls.specs.EveryLaws.{every-same, every-at, where-true}

pub mark-le : (z : ℤ) → mark_of z ≤ 2
mark-le (pos zero) = omega arith
mark-le (pos (suc n)) = omega arith
mark-le (negsuc n) = omega arith

-- ---- each reads the first n places alone

pub untied-same : (n : ℕ) (mark mark' : ℕ → ℕ) → ((i : ℕ) → i < n → mark i ≡ mark' i) → untied n mark ≡ untied n mark'
untied-same n mark mark' h = every-same n _ _ (λ i l. ap (λ (x : ℕ). not (eqb x 2)) (h i l))

pub g-matrix-same : (m : ℕ) (mark mark' coded_mark coded_mark' : ℕ → ℕ) → ((i : ℕ) → i < 2 ^ m → mark i ≡ mark' i)
    → ((i : ℕ) → i < 2 ^ m → coded_mark i ≡ coded_mark' i) → g_matrix m mark coded_mark ≡ g_matrix m mark' coded_mark'
g-matrix-same m mark mark' coded_mark coded_mark' h k =
    ap₂ (λ (a b : Bool). a && b)
    (ap₂ (λ (a b : Bool). a && b) (untied-same (2 ^ m) mark mark' h) (untied-same (2 ^ m) coded_mark coded_mark' k))
    (every-same (2 ^ m) _ _ (λ i l.
    ap₂ beq (coded-same m i (λ j. bit_of (mark j)) (λ j. bit_of (mark' j)) (λ j q. ap bit_of (h j q)))
    (ap bit_of (k i l))))

pub least-size-same : (n operand : ℕ) (soft soft' : ℕ → ℤ) → ((i : ℕ) → i < n → soft i ≡ soft' i)
    → least_size n operand soft ≡ least_size n operand soft'
least-size-same n operand soft soft' h = every-same n _ _ (λ i l. ap (λ (z : ℤ). leb operand (nat_abs z)) (h i l))

pub least-information-size-same : (n operand : ℕ) (mask : List ℕ) (soft soft' : ℕ → ℤ)
    → ((i : ℕ) → i < n → soft i ≡ soft' i)
    → least_information_size n operand mask soft ≡ least_information_size n operand mask soft'
least-information-size-same n operand mask soft soft' h =
    every-information-same n mask _ _ (λ i l. ap (λ (z : ℤ). leb operand (nat_abs z)) (h i l))

pub same-marks-same : (n : ℕ) (mask : List ℕ) (before before' after after' : ℕ → ℕ)
    → ((i : ℕ) → i < n → before i ≡ before' i)
    → ((i : ℕ) → i < n → after i ≡ after' i) → same_marks n mask before after ≡ same_marks n mask before' after'
same-marks-same n mask before before' after after' h k =
    every-information-same n mask _ _ (λ i l. ap₂ eqb (h i l) (k i l))

pub steady-same : (W t : ℕ) (same same' : ℕ → Bool) → ((j : ℕ) → same j ≡ same' j) → steady W same t ≡ steady W same' t
steady-same W t same same' h = ap (λ (s : ℕ → Bool). steady W s t) (fun_ext h)

module _ (m : ℕ) (mask : List ℕ) (soft soft' coded_soft coded_soft' : ℕ → ℕ → ℤ)
    (same : (t i : ℕ) → i < 2 ^ m → soft t i ≡ soft' t i)
    (coded_same : (t i : ℕ) → i < 2 ^ m → coded_soft t i ≡ coded_soft' t i) where
  pub holds_same : (criterion : Criterion) (t : ℕ)
      → holds m criterion mask soft coded_soft t ≡ holds m criterion mask soft' coded_soft' t
  holds_same Never t = refl
  holds_same GMatrix t =
      g-matrix-same m _ _ _ _ (λ i l. ap mark_of (same t i l)) (λ i l. ap mark_of (coded_same t i l))
  holds_same (LeastSize operand) t = least-size-same (2 ^ m) operand (soft t) (soft' t) (same t)
  holds_same (Steady W) t =
      steady-same W t (kept_marks m mask soft) (kept_marks m mask soft') (λ j.
      same-marks-same (2 ^ m) mask _ _ _ _ (λ i l. ap mark_of (same (j - 1) i l)) (λ i l. ap mark_of (same j i l)))
  holds_same (LeastInformationSize operand) t =
      least-information-size-same (2 ^ m) operand mask (soft t) (soft' t) (same t)

-- ---- signs turned

tie-flipped : (b : Bool) (z : ℤ) → not (eqb (mark_of (flipped b z)) 2) ≡ not (eqb (mark_of z) 2)
tie-flipped false z = refl
tie-flipped true (pos zero) = refl
tie-flipped true (pos (suc n)) = refl
tie-flipped true (negsuc n) = refl

bit-flipped : (b : Bool) (z : ℤ) → not (eqb (mark_of z) 2) ≡ true
    → bit_of (mark_of (flipped b z)) ≡ xor b (bit_of (mark_of z))
bit-flipped false z e = refl
bit-flipped true (pos zero) e = absurd (true≢false (sym e))
bit-flipped true (pos (suc n)) e = refl
bit-flipped true (negsuc n) e = refl

pair-flipped : (b : Bool) (y z : ℤ) → eqb (mark_of (flipped b y)) (mark_of (flipped b z)) ≡ eqb (mark_of y) (mark_of z)
pair-flipped false y z = refl
pair-flipped true (pos zero) (pos zero) = refl
pair-flipped true (pos zero) (pos (suc n)) = refl
pair-flipped true (pos zero) (negsuc n) = refl
pair-flipped true (pos (suc k)) (pos zero) = refl
pair-flipped true (pos (suc k)) (pos (suc n)) = refl
pair-flipped true (pos (suc k)) (negsuc n) = refl
pair-flipped true (negsuc k) (pos zero) = refl
pair-flipped true (negsuc k) (pos (suc n)) = refl
pair-flipped true (negsuc k) (negsuc n) = refl

beq-xor : (a b c : Bool) → beq (xor a b) (xor a c) ≡ beq b c
beq-xor false b c = refl
beq-xor true false false = refl
beq-xor true false true = refl
beq-xor true true false = refl
beq-xor true true true = refl

-- one column of soft outputs, with the signs turned by the bits b
module _ (n : ℕ) (b : ℕ → Bool) (soft soft' : ℕ → ℤ) (flips : (i : ℕ) → i < n → soft' i ≡ flipped (b i) (soft i)) where
  pub untied-flipped : untied n (λ i. mark_of (soft' i)) ≡ untied n (λ i. mark_of (soft i))
  untied-flipped = every-same n _ _ (λ i l. rw (flips i l) (tie-flipped (b i) (soft i)))

  pub least-size-flipped : (operand : ℕ) → least_size n operand soft' ≡ least_size n operand soft
  least-size-flipped operand =
      every-same n _ _ (λ i l. ap (leb operand) (ap nat_abs (flips i l) ∙ size-flipped (b i) (soft i)))

  pub least-information-size-flipped : (operand : ℕ) (mask : List ℕ)
      → least_information_size n operand mask soft' ≡ least_information_size n operand mask soft
  least-information-size-flipped operand mask =
      every-information-same n mask _ _ (λ i l.
      ap (leb operand) (ap nat_abs (flips i l) ∙ size-flipped (b i) (soft i)))

  turned : untied n (λ i. mark_of (soft i)) ≡ true → (i : ℕ) → i < n
      → bit_of (mark_of (soft' i)) ≡ xor (b i) (bit_of (mark_of (soft i)))
  turned e i l = rw (flips i l) (bit-flipped (b i) (soft i) (every-at n i (λ i. not (eqb (mark_of (soft i)) 2)) e l))

  pub same-marks-flipped : (mask : List ℕ) (before before' : ℕ → ℤ)
      → ((i : ℕ) → i < n → before' i ≡ flipped (b i) (before i))
      → same_marks n mask (λ i. mark_of (before' i)) (λ i. mark_of (soft' i))
      ≡ same_marks n mask (λ i. mark_of (before i)) (λ i. mark_of (soft i))
  same-marks-flipped mask before before' h =
      every-information-same n mask _ _ (λ i l. rw (h i l, flips i l) (pair-flipped (b i) (before i) (soft i)))

-- where a mark or a coded mark is tied the criterion fails before and after; elsewhere both sides of the
-- comparison turn by the coded bit
module _ (m : ℕ) (u : ℕ → Bool) (soft soft' coded_soft coded_soft' : ℕ → ℤ)
    (flips : (i : ℕ) → i < 2 ^ m → soft' i ≡ flipped (u i) (soft i))
    (coded_flips : (i : ℕ) → i < 2 ^ m → coded_soft' i ≡ flipped (coded m u i) (coded_soft i)) where
  abbrev bits : ℕ → Bool
  bits j = bit_of (mark_of (soft j))

  compared : untied (2 ^ m) (λ i. mark_of (soft i)) ≡ true → untied (2 ^ m) (λ i. mark_of (coded_soft i)) ≡ true
      → (i : ℕ)
      → i < 2 ^ m
      → beq (coded m (λ j. bit_of (mark_of (soft' j))) i) (bit_of (mark_of (coded_soft' i)))
      ≡ beq (coded m bits i) (bit_of (mark_of (coded_soft i)))
  compared e f i l =
      ap₂ beq
      (coded-same m i _ (λ j. xor (u j) (bits j)) (turned (2 ^ m) u soft soft' flips e) ∙ coded-xor m i u bits)
      (turned (2 ^ m) (coded m u) coded_soft coded_soft' coded_flips f i l)
      ∙ beq-xor (coded m u i) (coded m bits i) (bit_of (mark_of (coded_soft i)))

  pub g-matrix-flipped : g_matrix m (λ i. mark_of (soft' i)) (λ i. mark_of (coded_soft' i))
      ≡ g_matrix m (λ i. mark_of (soft i)) (λ i. mark_of (coded_soft i))
  g-matrix-flipped =
      let marks = untied (2 ^ m) (λ i. mark_of (soft i)) in
      let coded_marks = untied (2 ^ m) (λ i. mark_of (coded_soft i)) in
      rw (
        untied-flipped (2 ^ m) u soft soft' flips,
        untied-flipped (2 ^ m) (coded m u) coded_soft coded_soft'
            coded_flips,
      )
      (where-true (marks && coded_marks) _ _
      (λ e. every-same (2 ^ m) _ _ (compared (and-passed marks coded_marks e).0 (and-passed marks coded_marks e).1)))

module _ (m : ℕ) (u : ℕ → Bool) (mask : List ℕ) (soft soft' coded_soft coded_soft' : ℕ → ℕ → ℤ)
    (flips : (t i : ℕ) → i < 2 ^ m → soft' t i ≡ flipped (u i) (soft t i))
    (coded_flips : (t i : ℕ) → i < 2 ^ m → coded_soft' t i ≡ flipped (coded m u i) (coded_soft t i)) where
  pub holds-flipped : (criterion : Criterion) (t : ℕ)
      → holds m criterion mask soft' coded_soft' t ≡ holds m criterion mask soft coded_soft t
  holds-flipped Never t = refl
  holds-flipped GMatrix t =
      g-matrix-flipped m u (soft t) (soft' t) (coded_soft t) (coded_soft' t) (flips t) (coded_flips t)
  holds-flipped (LeastSize operand) t = least-size-flipped (2 ^ m) u (soft t) (soft' t) (flips t) operand
  holds-flipped (Steady W) t =
      steady-same W t (kept_marks m mask soft') (kept_marks m mask soft) (λ j.
      same-marks-flipped (2 ^ m) u (soft j) (soft' j) (flips j) mask (soft (j - 1)) (soft' (j - 1)) (flips (j - 1)))
  holds-flipped (LeastInformationSize operand) t =
      least-information-size-flipped (2 ^ m) u (soft t) (soft' t) (flips t) operand mask
