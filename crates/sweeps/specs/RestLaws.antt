-- Laws of what follows the workspace in a longer list: start and iterations neither read nor write it, and nothing
-- depends on what the workspace held before the start.
use Rattle.std.specs.Prelude.{ℕ, zero, suc, ◌+◌, ◌-◌, ◌*◌, ◌^◌, ◌≤◌, ◌<◌, ◌≡◌, refl, List, ◌++◌, ℤ, length}
use Rattle.std.proofs.Common.{ap, ◌∙◌, le_refl, arith}
use Rattle.std.proofs.Math.Nat.{suc-mul, mul-le-mul_right}
use Rattle.std.proofs.Math.IntN.{pos}
use Rattle.std.proofs.Math.ListN.{get_or-append}
use Rattle.calls.specs.Bounds.{workspace_length}
use Rattle.calls.specs.LentMemory.{overwrite}
use Rattle.calls.specs.LentMemoryLaws.{
  length-overwrite,
  overwrite-append,
  overwrite-all,
  overwrite_from-append,
  overwrite_from-same,
}
use Rattle.polar.specs.DigitLaws.{digit-cases, partner-lt}
use Rattle.message.specs.declared.MinSum.{MinSum}
use Rattle.sweeps.specs.Workspace.{row, set_row}
use Rattle.sweeps.specs.WorkspaceLaws.{row_lt, length-set_row}
use Rattle.sweeps.specs.Private.{joined_at, row_step}
use Rattle.sweeps.specs.Iteration.{
  left_at,
  left_step,
  right_step,
  left_steps,
  right_steps,
  iteration,
  iterations,
  prior,
  start,
}
use Rattle.sweeps.specs.IterationLaws.{
  right-joined,
  length-left,
  length-right,
  length-iterations,
}

-- a new message is made of messages of the block alone
joined_same : (rule : MinSum) (m t : ℕ) (x x' y y' : ℕ → ℤ) → t < m → ((i : ℕ) → i < 2 ^ m → x i ≡ x' i)
    → ((i : ℕ) → i < 2 ^ m → y i ≡ y' i) → (p : ℕ) → p < 2 ^ m → joined_at rule t x y p ≡ joined_at rule t x' y' p
joined_same rule m t x x' y y' ht hx hy p hp =
    digit-cases t p
    (λ z. let far = partner-lt m t p ht hp z in rw (z, hx p hp, hx (p + 2 ^ t) far, hy (p + 2 ^ t) far))
    (λ o. let near : p - 2 ^ t < 2 ^ m = omega arith in rw (o, hx p hp, hx (p - 2 ^ t) near, hy (p - 2 ^ t) near))

-- the same of the formula of a step to the left, on either side of a pair
left_same : (rule : MinSum) (m t : ℕ) (l l' r r' : ℕ → ℤ) → t < m → ((i : ℕ) → i < 2 ^ m → l i ≡ l' i)
    → ((i : ℕ) → i < 2 ^ m → r i ≡ r' i) → (p : ℕ) → p < 2 ^ m → left_at rule t l r p ≡ left_at rule t l' r' p
left_same rule m t l l' r r' ht hl hr p hp =
    digit-cases t p
    (λ z. let far = partner-lt m t p ht hp z in
    rw z (cc (hl p hp, hr p hp, hl (p + 2 ^ t) far, hr (p + 2 ^ t) far)))
    (λ o. let near : p - 2 ^ t < 2 ^ m = omega arith in
    rw o (cc (hl p hp, hr p hp, hl (p - 2 ^ t) near, hr (p - 2 ^ t) near)))

-- w is the workspace, r what follows it
module _ (m : ℕ) (r : List ℤ) where
  pub row-append : (w : List ℤ) (k i : ℕ) → length w ≡ workspace_length m → k < 2 * (m + 1) → i < 2 ^ m
      → row m (w ++ r) k i ≡ row m w k i
  row-append w k i long hk hi = get_or-append w r (pos 0) (k * 2 ^ m + i) (omega (arith, row_lt m k i hk hi))

  set-append : (w : List ℤ) (k : ℕ) (g h : ℕ → ℤ) → length w ≡ workspace_length m → k < 2 * (m + 1)
      → ((i : ℕ) → i < 2 ^ m → g i ≡ h i) → set_row m k g (w ++ r) ≡ set_row m k h w ++ r
  unfolding set_row
  set-append w k g h long hk same =
      overwrite_from-same (k * 2 ^ m) (2 ^ m) g h (w ++ r) same
      ∙ overwrite_from-append (k * 2 ^ m) (2 ^ m) h w r
      (omega (arith, suc-mul k (2 ^ m), mul-le-mul_right (2 ^ m) hk))

  module _ (rule : MinSum) where
    step-append : (w : List ℤ) (t k x y : ℕ) → length w ≡ workspace_length m → t < m → k < 2 * (m + 1)
        → x < 2 * (m + 1) → y < 2 * (m + 1)
        → row_step rule m t k x y (w ++ r) ≡ row_step rule m t k x y w ++ r
    unfolding row_step
    step-append w t k x y long ht hk hx hy =
        set-append w k _ _ long hk
        (joined_same rule m t _ _ _ _ ht (λ i hi. row-append w x i long hx hi) (λ i hi. row-append w y i long hy hi))

    left-step-append : (w : List ℤ) (s : ℕ) → length w ≡ workspace_length m → s < m
        → left_step rule m s (w ++ r) ≡ left_step rule m s w ++ r
    unfolding left_step
    left-step-append w s long hs =
        set-append w s _ _ long (omega arith)
        (left_same rule m (m - suc s) _ _ _ _ (omega arith) (λ i hi. row-append w (suc s) i long (omega arith) hi)
        (λ i hi. row-append w (m + 1 + s) i long (omega arith) hi))

    left-append : (n : ℕ) (w : List ℤ) → length w ≡ workspace_length m → n ≤ m
        → left_steps rule m n (w ++ r) ≡ left_steps rule m n w ++ r
    left-append zero w long hn = refl
    left-append (suc n) w long hn =
        let before = left_steps rule m n w in
        let s = m - suc n in
        ap (left_step rule m s) (left-append n w long (omega arith))
        ∙ left-step-append before s (length-left rule m n w ∙ long) (omega arith)

    right-append : (n : ℕ) (w : List ℤ) → length w ≡ workspace_length m → n ≤ m
        → right_steps rule m n (w ++ r) ≡ right_steps rule m n w ++ r
    right-append zero w long hn = refl
    right-append (suc n) w long hn =
        let before = right_steps rule m n w in
        ap (right_step rule m n) (right-append n w long (omega arith))
        ∙ rw (right-joined rule m n (before ++ r), right-joined rule m n before)
        (step-append before (m - suc n) (m + 1 + suc n) (m + 1 + n) (suc n) (length-right rule m n w ∙ long)
        (omega arith) (omega arith) (omega arith) (omega arith))

    pub iterations-append : (t : ℕ) (w : List ℤ) → length w ≡ workspace_length m
        → iterations rule m t (w ++ r) ≡ iterations rule m t w ++ r
    iterations-append zero w long = refl
    iterations-append (suc t) w long =
        let before = iterations rule m t w in
        let same = length-iterations rule m t w ∙ long in
        ap (iteration rule m) (iterations-append t w long)
        ∙ ap (right_steps rule m m) (left-append m before same (le_refl m))
        ∙ right-append m (left_steps rule m m before) (length-left rule m m before ∙ same) (le_refl m)

  pub start-append : (C : ℕ) (mask : List ℕ) (llr old : List ℤ) → length old ≡ workspace_length m
      → start m C mask llr (old ++ r) ≡ start m C mask llr old ++ r
  unfolding start
  start-append C mask llr old long =
      let zeros = overwrite (workspace_length m) (λ j. pos 0) old in
      let size = length-overwrite (workspace_length m) (λ j. pos 0) old ∙ long in
      rw (
        overwrite-append (workspace_length m) (λ j. pos 0) old r (omega arith),
        set-append zeros (m + 1 + 0) (prior C mask) (prior C mask) size (omega arith) (λ i h. refl),
      )
      (set-append _ m _ _ (length-set_row m (m + 1 + 0) (prior C mask) zeros ∙ size) (omega arith) (λ i h. refl))

-- whatever the workspace held
pub start-any : (m C : ℕ) (mask : List ℕ) (llr old old' : List ℤ) → length old ≡ workspace_length m
    → length old' ≡ workspace_length m
    → start m C mask llr old ≡ start m C mask llr old'
unfolding start
start-any m C mask llr old old' long long' =
    rw (overwrite-all (workspace_length m) (λ j. pos 0) old old' long long')
