-- One turn of each sweep's loop.
use Prim.Native.Nat.{ℕ, suc, ◌+◌, ◌-◌, ◌<◌}
use mathlib.Core.Path.{◌≡◌, sym, ◌∙◌}
use mathlib.Core.List.{List}
use native.Mathlib.Numerals.{add-one}
use native.Mathlib.Omega.{arith}
use lib.IntN.{ℤ}
use Rattle.message.specs.declared.MinSum.{MinSum}
use Rattle.sweeps.specs.Iteration.{left_steps, right_steps}
use Rattle.sweeps.specs.IterationLaws.{left-joined, right-joined, valid-left, valid-right}
use Rattle.sweeps.specs.Private.{row_step}

module _ (m t : ℕ) (h : t < m) where
  module _ (rule : MinSum) (old w y : List ℤ) where
    pub left-next : w ≡ left_steps rule m t old
        → y ≡ row_step rule m t (m - 1 - t) (m - 1 - t + 1) (m + 1 + (m - 1 - t)) w
        → y ≡ left_steps rule m (t + 1) old
    left-next before is =
        let s : m - 1 - t ≡ m - suc t = omega arith in
        let d : m - suc (m - suc t) ≡ t = omega arith in
        is
        ∙ rw (add-one t, s, before, add-one (m - suc t))
        (sym (left-joined rule m (m - suc t) (left_steps rule m t old) ∙ rw d))

    pub right-next : w ≡ right_steps rule m t old
        → y ≡ row_step rule m (m - 1 - t) (m + 1 + (t + 1)) (m + 1 + t) (t + 1) w
        → y ≡ right_steps rule m (t + 1) old
    right-next before is =
        let s : m - 1 - t ≡ m - suc t = omega arith in
        is ∙ rw (add-one t, s, before) (sym (right-joined rule m t (right_steps rule m t old)))

-- what the check tries in each sweep
pub ruleset left_turn = (valid-left, left-next)

pub ruleset right_turn = (valid-right, right-next)
