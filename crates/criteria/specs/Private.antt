-- What the functions ask of lent memory and of what a criterion remembers, and what a criterion that is tried leaves.
use Rattle.std.specs.Prelude.{ℕ, ◌^◌, ◌≤◌, ◌<◌, ◌≡◌, List, ℤ, pos, nat_abs, length, get_or}
use Rattle.calls.specs.Bounds.{largest_ceiling}
use Rattle.calls.specs.LentMemory.{overwrite}
use Rattle.criteria.specs.declared.Criterion.{Criterion}
use Rattle.criteria.specs.declared.Memory.{Memory}
use Rattle.criteria.specs.declared.Progress.{Progress}
use Rattle.criteria.specs.Marks.{mark_of}
use Rattle.criteria.specs.Memory.{memory_next, holds_now}

-- n soft values, none above the largest ceiling
pub record SoftValues (n : ℕ) (l : List ℤ) : Type 0 where
  pub long : n ≤ length l
  pub at : (i : ℕ) → i < n → nat_abs (get_or l i (pos 0)) ≤ largest_ceiling

-- n marks
pub record MarkBytes (n : ℕ) (l : List ℕ) : Type 0 where
  pub long : n ≤ length l
  pub at : (i : ℕ) → i < n → get_or l i 0 ≤ 2

-- more iterations than any limit allows
abbrev pub most_remembered : ℕ
most_remembered = 1000

-- its counts have room for one more
pub record MemoryInRange (memory : Memory) : Type 0 where
  pub iterations-lt : memory.iterations < most_remembered
  pub steady-le : memory.steady ≤ memory.iterations

-- the criterion after an iteration with these soft values and coded marks: the marks before
-- it, those after it, and the answer
pub record CriterionTried (m : ℕ) (criterion : Criterion) (memory : Memory) (mask : List ℕ) (soft : ℕ → ℤ)
    (coded_mark : ℕ → ℕ)
    (marks marks' : List ℕ) (r : Progress) : Type 0 where
  pub marks-are : marks' ≡ overwrite (2 ^ m) (λ i. mark_of (soft i)) marks
  pub memory-is : r.memory ≡ memory_next m criterion mask memory (λ i. get_or marks i 0) soft coded_mark
  pub holds-is : r.holds ≡ holds_now m criterion mask r.memory soft (λ i. mark_of (soft i)) coded_mark
