-- Document 01, "Messages": the four formulas, one iteration, and the start. Definitions only.
use Rattle.std.specs.Prelude.{ℕ, zero, suc, ◌+◌, ◌-◌, ◌^◌, List, ℤ, pos, get_or}
use Rattle.calls.specs.LentMemory.{overwrite}
use Rattle.calls.specs.Signs.{flipped}
use Rattle.polar.specs.Mask.{by_kind}
use Rattle.polar.specs.Columns.{digit, by_side}
use Rattle.message.specs.declared.MinSum.{MinSum}
use Rattle.message.specs.Message.{add, f}
use Rattle.calls.specs.Bounds.{workspace_length}
use Rattle.sweeps.specs.Workspace.{L, R, set_l, set_r}

module _ (rule : MinSum) where
  -- step s joins columns s and s + 1 over the distance d = 2 ^ t. l is column s + 1 of L and r is column s of R; an
  -- upper position i has its partner at i + d, a lower position j at j - d
  abbrev pub left_at : ℕ → (ℕ → ℤ) → (ℕ → ℤ) → ℕ → ℤ
  left_at t l r p =
      let d = 2 ^ t in
      by_side (digit t p)
      (f rule (l p) (add rule (l (p + d)) (r (p + d))))
      (add rule (f rule (l (p - d)) (r (p - d))) (l p))

  abbrev pub right_at : ℕ → (ℕ → ℤ) → (ℕ → ℤ) → ℕ → ℤ
  right_at t l r p =
      let d = 2 ^ t in
      by_side (digit t p)
      (f rule (r p) (add rule (l (p + d)) (r (p + d))))
      (add rule (f rule (r (p - d)) (l (p - d))) (r p))

  module _ (m : ℕ) where
    -- the new column s of L, and the new column s + 1 of R
    unfoldable pub left_step : ℕ → List ℤ → List ℤ
    left_step s w = set_l m s (left_at (m - suc s) (L m w (suc s)) (R m w s)) w

    unfoldable pub right_step : ℕ → List ℤ → List ℤ
    right_step s w = set_r m (suc s) (right_at (m - suc s) (L m w (suc s)) (R m w s)) w

    -- L by steps m - 1 down to m - n; R by steps 0 up to n - 1
    abbrev pub left_steps : ℕ → List ℤ → List ℤ
    left_steps zero w = w
    left_steps (suc n) w = left_step (m - suc n) (left_steps n w)

    abbrev pub right_steps : ℕ → List ℤ → List ℤ
    right_steps zero w = w
    right_steps (suc n) w = right_step n (right_steps n w)

    -- one iteration, each step reading the newest values; and t of them
    abbrev pub iteration : List ℤ → List ℤ
    iteration w = right_steps m (left_steps m w)

    abbrev pub iterations : ℕ → List ℤ → List ℤ
    iterations zero w = w
    iterations (suc t) w = iteration (iterations t w)

-- column 0 of R at the start: C with the sign of the frozen bit where frozen, and 0 elsewhere
abbrev pub prior : ℕ → List ℕ → ℕ → ℤ
prior C mask i = by_kind (get_or mask i 0) (pos 0) (λ bit. flipped bit (pos C))

-- the start: column m of L holds the LLRs, column 0 of R the prior, and all else is 0
unfoldable pub start : ℕ → ℕ → List ℕ → List ℤ → List ℤ → List ℤ
start m C mask llr old =
    set_l m m (λ i. get_or llr i (pos 0)) (set_r m 0 (prior C mask) (overwrite (workspace_length m) (λ j. pos 0) old))
