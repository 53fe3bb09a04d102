-- Laws of the texts: the lines of positions one by one, and how long they and the text of a refusal are at most.
use Rattle.std.specs.Prelude.{ℕ, zero, suc, ◌+◌, ◌-◌, ◌*◌, ◌≤◌, ◌<◌, ◌≡◌, refl, List, [], ◌++◌, ℤ, pos, length}
use Rattle.std.proofs.Common.{ap, ap₂, mul-suc, add-one, arith, length-append}
use Rattle.calls.specs.declared.Refusal.{Refusal}
use Rattle.calls.specs.Numbers.{refusal_number}
use Rattle.calls.specs.NumberLaws.{refusal-digits}
use Rattle.format.specs.Decimal.{shown, line}
use Rattle.format.specs.DecimalLaws.{length_last, shown-length}
use Rattle.format.specs.Texts.{position_lines, refusal_text}

-- ---- the lines of the positions

pub position-lines-next : (values : ℕ → List ℤ) (n i : ℕ) → i < n
    → position_lines values (n - i) i ≡ line (values i) ++ position_lines values (n - (i + 1)) (i + 1)
unfolding position_lines
position-lines-next values n i h = let left : n - i ≡ suc (n - suc i) = omega arith in rw (left, add-one i)

pub position-lines-end : (values : ℕ → List ℤ) (n i : ℕ) → n ≤ i → position_lines values (n - i) i ≡ []
unfolding position_lines
position-lines-end values n i h = let left : n - i ≡ 0 = omega arith in rw left

-- only the values of the positions count
pub position-lines-same : (values values' : ℕ → List ℤ) (n p : ℕ)
    → ((i : ℕ) → p ≤ i → i < p + n → values i ≡ values' i)
    → position_lines values n p ≡ position_lines values' n p
unfolding position_lines
position-lines-same values values' zero p same = refl
position-lines-same values values' (suc n) p same =
    ap₂ (λ (a b : List ℕ). a ++ b) (ap line (same p (omega arith) (omega arith)))
    (position-lines-same values values' n (suc p) (λ i l h. same i (omega arith) (omega arith)))

-- n lines of at most so many bytes
pub position-lines-length : (most : ℕ) (values : ℕ → List ℤ) (n p : ℕ)
    → ((i : ℕ) → p ≤ i → i < p + n → length (line (values i)) ≤ most)
    → length (position_lines values n p) ≤ most * n
unfolding position_lines
position-lines-length most values zero p short = omega arith
position-lines-length most values (suc n) p short =
    let rest = position-lines-length most values n (suc p) (λ i l h. short i (omega arith) (omega arith)) in
    omega (
      arith,
      rest,
      short p (omega arith) (omega arith),
      length-append (line (values p)) (position_lines values n (suc p)),
      mul-suc most n,
    )

-- ---- a refusal

-- at most 14 bytes, as no number has more than two digits
pub refusal-length : (r : Refusal) → length (refusal_text (refusal_number r)) ≤ 14
unfolding refusal_text line
refusal-length r =
    let n = pos (refusal_number r) in
    omega (arith, length_last (shown n) 10, shown-length n (omega (arith, refusal-digits r)))
