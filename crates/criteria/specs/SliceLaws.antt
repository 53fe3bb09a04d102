-- Slices whose first n elements have just been written: soft values and marks as the criteria ask for them.
use Rattle.std.specs.Prelude.{ℕ, ◌≤◌, ◌<◌, ◌≡◌, List, ℤ, pos, nat_abs, length, get_or}
use Rattle.std.proofs.Common.{ap, ◌∙◌, arith}
use Rattle.calls.specs.Bounds.{largest_ceiling}
use Rattle.calls.specs.LentMemory.{overwrite}
use Rattle.calls.specs.LentMemoryLaws.{overwrite-same}
use Rattle.calls.specs.WrittenLaws.{Written, written-length, written_at}
use Rattle.criteria.specs.Marks.{mark_of}
use Rattle.criteria.specs.CriteriaLaws.{mark-le}
use Rattle.criteria.specs.Private.{SoftValues, MarkBytes}

module _ {n : ℕ} {g : ℕ → ℤ} {old soft : List ℤ} (h : Written n g old soft) (long : n ≤ length old) where
  pub soft-values : (C : ℕ) → C ≤ largest_ceiling → ((i : ℕ) → i < n → nat_abs (g i) ≤ C) → SoftValues n soft
  soft-values C top small = record {
    long = omega (arith, written-length h);
    at = λ i l. rw (written_at h i (pos 0) l long) (omega (arith, small i l));
  }

  -- the marks of soft values that have just been written
  pub marked : (marks x : List ℕ) → x ≡ overwrite n (λ i. mark_of (get_or soft i (pos 0))) marks
      → x ≡ overwrite n (λ i. mark_of (g i)) marks
  marked marks x is =
      is ∙ overwrite-same n _ (λ i. mark_of (g i)) marks (λ i l r. ap mark_of (written_at h i (pos 0) l long))

pub mark-bytes : {n : ℕ} (g : ℕ → ℤ) {old marks : List ℕ} → Written n (λ i. mark_of (g i)) old marks → n ≤ length old
    → MarkBytes n marks
mark-bytes g h long = record {
  long = omega (arith, written-length h);
  at = λ i l. rw (written_at h i 0 l long) (mark-le (g i));
}
