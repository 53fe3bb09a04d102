-- What a criterion remembers between iterations: the iterations so far, and under criterion 3 how many of the last ones
-- kept the marks. `memory_after` says what it is after t iterations; `memory_next` and `holds_now` give it, and whether
-- the criterion holds, from what it was and what one iteration more leaves. A reader of the contract of `decode`, which
-- cites `holds`, needs none of it.
use Rattle.std.specs.Prelude.{ℕ, zero, suc, ◌+◌, ◌-◌, ◌^◌, Bool, false, cond, List, leb, ℤ}
use Rattle.criteria.specs.declared.Criterion.{Criterion}
use Rattle.criteria.specs.declared.Criterion.TheVariants.{
  Never,
  GMatrix,
  LeastSize,
  Steady,
  LeastInformationSize,
}
use Rattle.criteria.specs.declared.Memory.{Memory}
use Rattle.criteria.specs.Marks.{mark_of}
use Rattle.criteria.specs.Criteria.{g_matrix, least_size, same_marks, least_information_size}

-- ---- the steady count

-- where `same t` says that iteration t kept the marks of the one before; the first iteration has none before it
abbrev pub steady_count : (ℕ → Bool) → ℕ → ℕ
steady_count same zero = 0
steady_count same (suc zero) = 0
steady_count same (suc (suc t)) = cond (same (suc (suc t))) (suc (steady_count same (suc t))) 0

-- the count after one iteration more, from the iterations so far and their count
abbrev pub steady_next : ℕ → ℕ → Bool → ℕ
steady_next zero count same = 0
steady_next (suc t) count same = cond same (suc count) 0

-- whether iteration j kept the marks at the information positions
abbrev pub kept_marks : ℕ → List ℕ → (ℕ → ℕ → ℤ) → ℕ → Bool
kept_marks m mask soft j = same_marks (2 ^ m) mask (λ i. mark_of (soft (j - 1) i)) (λ i. mark_of (soft j i))

-- criterion 3 alone counts
abbrev pub count_for : Criterion → ℕ → ℕ
count_for Never count = 0
count_for GMatrix count = 0
count_for (LeastSize operand) count = 0
count_for (Steady W) count = count
count_for (LeastInformationSize operand) count = 0

-- ---- what is remembered

-- before the first iteration
abbrev pub nothing : Memory
nothing = record { iterations = 0; steady = 0 }

-- after t iterations, where soft t i and coded_soft t i are the soft outputs of iteration t at position i, as in
-- `holds`
abbrev pub memory_after : ℕ → Criterion → List ℕ → (ℕ → ℕ → ℤ) → (ℕ → ℕ → ℤ) → ℕ → Memory
memory_after m criterion mask soft coded_soft t =
    record { iterations = t; steady = count_for criterion (steady_count (kept_marks m mask soft) t) }

-- after one iteration more, from the marks of the iteration before, and the soft values and coded marks of this one
abbrev pub memory_next : ℕ → Criterion → List ℕ → Memory → (ℕ → ℕ) → (ℕ → ℤ) → (ℕ → ℕ) → Memory
memory_next m criterion mask memory before soft coded_mark =
    record {
      iterations = memory.iterations + 1;
      steady =
          count_for criterion
          (steady_next memory.iterations memory.steady (same_marks (2 ^ m) mask before (λ i. mark_of (soft i))));
    }

-- whether the criterion holds, from what it remembers after the iteration, its soft values, marks and coded marks
abbrev pub holds_now : ℕ → Criterion → List ℕ → Memory → (ℕ → ℤ) → (ℕ → ℕ) → (ℕ → ℕ) → Bool
holds_now m Never mask memory soft mark coded_mark = false
holds_now m GMatrix mask memory soft mark coded_mark = g_matrix m mark coded_mark
holds_now m (LeastSize operand) mask memory soft mark coded_mark = least_size (2 ^ m) operand soft
holds_now m (Steady W) mask memory soft mark coded_mark = leb W memory.steady
holds_now m (LeastInformationSize operand) mask memory soft mark coded_mark =
    least_information_size (2 ^ m) operand mask soft
