-- Document 01, "Endings": the criteria, and that of 2026-04. They read marks, soft values and the mask, never messages.
-- Definitions only.
use Rattle.std.specs.Prelude.{ℕ, suc, ◌-◌, ◌^◌, Bool, false, not, ◌&&◌, List, leb, eqb, ℤ, nat_abs}
use Rattle.std.specs.Bool.{beq}
use Rattle.calls.specs.Every.{every}
use Rattle.calls.specs.Bits.{bit_of}
use Rattle.polar.specs.Mask.{every_information}
use Rattle.polar.specs.Code.{coded}
use Rattle.criteria.specs.declared.Criterion.{Criterion}
use Rattle.criteria.specs.declared.Criterion.TheVariants.{
  Never,
  GMatrix,
  LeastSize,
  Steady,
  LeastInformationSize,
}
use Rattle.criteria.specs.Marks.{mark_of}

-- 1, G-matrix: no tie among marks or coded marks, and the marks coded give the coded marks
abbrev pub untied : ℕ → (ℕ → ℕ) → Bool
untied n mark = every n (λ i. not (eqb (mark i) 2))

abbrev pub g_matrix : ℕ → (ℕ → ℕ) → (ℕ → ℕ) → Bool
g_matrix m mark coded_mark =
    untied (2 ^ m) mark && untied (2 ^ m) coded_mark
    && every (2 ^ m) (λ i. beq (coded m (λ j. bit_of (mark j)) i) (bit_of (coded_mark i)))

-- 2, least size: every soft output has size at least the operand
abbrev pub least_size : ℕ → ℕ → (ℕ → ℤ) → Bool
least_size n operand soft = every n (λ i. leb operand (nat_abs (soft i)))

-- 3, steady: the marks at information positions equalled those of the iteration before
abbrev pub same_marks : ℕ → List ℕ → (ℕ → ℕ) → (ℕ → ℕ) → Bool
same_marks n mask before now = every_information n mask (λ i. eqb (before i) (now i))

-- .. at each of the last W iterations; not before iteration W + 1
abbrev pub steady : ℕ → (ℕ → Bool) → ℕ → Bool
steady W same t = leb (suc W) t && every W (λ k. same (t - k))

-- 4, least size of information positions (2026-04): every information position's soft output has size at least the
-- operand
abbrev pub least_information_size : ℕ → ℕ → List ℕ → (ℕ → ℤ) → Bool
least_information_size n operand mask soft = every_information n mask (λ i. leb operand (nat_abs (soft i)))

-- whether the criterion holds after iteration t, where soft t i and coded_soft t i are the soft
-- outputs of iteration t at position i
abbrev pub holds : ℕ → Criterion → List ℕ → (ℕ → ℕ → ℤ) → (ℕ → ℕ → ℤ) → ℕ → Bool
holds m Never mask soft coded_soft t = false
holds m GMatrix mask soft coded_soft t = g_matrix m (λ i. mark_of (soft t i)) (λ i. mark_of (coded_soft t i))
holds m (LeastSize operand) mask soft coded_soft t = least_size (2 ^ m) operand (soft t)
holds m (Steady W) mask soft coded_soft t =
    steady W (λ j. same_marks (2 ^ m) mask (λ i. mark_of (soft (j - 1) i)) (λ i. mark_of (soft j i))) t
holds m (LeastInformationSize operand) mask soft coded_soft t = least_information_size (2 ^ m) operand mask (soft t)
