-- `set_prior` meets its contract.
use Prim.Native.Nat.{◌+◌}
use native.Mathlib.Nat.{add-zero}
use native.Mathlib.Omega.{arith}
use Rattle.sweeps.proofs.Rows.{row-written}
use Rattle.sweeps.proofs.set_prior.Goals as goal

pub returns : goal.returns
returns c =
    rw add-zero
    (row-written c.args.m (c.args.m + 1) c.args.work.now c.power_of_two-n.ensures (omega arith) c.requires.3
    c.loop-i.invariant c.loop-i-test.false c.loop-i.auto.i-end)
