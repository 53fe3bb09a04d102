-- `row_step` meets its contract: the widths of a run are 2 ^ 0 and 2 ^ 3.
use Prim.Native.Nat.{◌≤◌, zero-le}
use mathlib.Core.Path.{refl}
use native.Mathlib.Omega.{arith}
use lib.Count.{count_trailing_zeros}
use Rattle.sweeps.proofs.row_step.Goals as goal

pub by_runs-requires-clause-width : goal.by_runs-requires-clause-width
unfolding count_trailing_zeros
by_runs-requires-clause-width c = (refl, zero-le)

pub by_runs-requires-then-step-ge3-clause-width : goal.by_runs-requires-then-step-ge3-clause-width
unfolding count_trailing_zeros
by_runs-requires-then-step-ge3-clause-width c = let far : 3 ≤ c.args.step.t = omega arith in (refl, far)
