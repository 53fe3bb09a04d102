-- `neighbours::by_neighbours` meets its contract: the messages of the first 8 e positions are new.
use mathlib.Core.Path.{sym}
use native.Mathlib.Omega.{arith}
use Rattle.sweeps.proofs.Digits.{same-power, eights}
use Rattle.sweeps.proofs.Turns.{front-readable, front-next, front-all}
use Rattle.sweeps.proofs.neighbours.by_neighbours.Goals as goal

pub eight_beside-values-requires-clause-readable_run : goal.eight_beside-values-requires-clause-readable_run
eight_beside-values-requires-clause-readable_run c =
    front-readable c.power_of_two-n.ensures (same-power (sym c.requires.t_is.0)) 3 c.loop-e.e (omega arith)
    c.args.step.rows (omega arith) c.loop-e.invariant

pub loop-e-preserved : goal.loop-e-preserved
loop-e-preserved c =
    front-next c.power_of_two-n.ensures (same-power (sym c.requires.t_is.0)) 3 c.loop-e.e (omega arith)
    c.args.step.rows (omega arith) c.loop-e.invariant _ c.eight_beside-values.ensures c.put.ensures

pub returns : goal.returns
returns c =
    front-all c.power_of_two-n.ensures c.args.step.rows c.loop-e.invariant (omega (arith, eights))
