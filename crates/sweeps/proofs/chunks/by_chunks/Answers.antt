-- `chunks::by_chunks` meets its contract: the messages of the first 16 c positions are new.
use mathlib.Core.Path.{refl, sym}
use native.Mathlib.Omega.{arith}
use Rattle.sweeps.specs.Private.{new_run}
use Rattle.sweeps.proofs.Digits.{same-power, sixteens}
use Rattle.sweeps.proofs.Turns.{front-readable, front-next, front-all}
use Rattle.sweeps.proofs.chunks.by_chunks.Goals as goal

pub chunk-requires-clause-readable_run : goal.chunk-requires-clause-readable_run
chunk-requires-clause-readable_run g c =
    front-readable c.power_of_two-n.ensures (same-power (sym c.requires.t_is.0)) 4 c.loop-c.c (omega arith)
    c.args.step.rows (omega arith) c.loop-c.invariant

pub loop-c-preserved : goal.loop-c-preserved
unfolding new_run
loop-c-preserved g c =
    front-next c.power_of_two-n.ensures (same-power (sym c.requires.t_is.0)) 4 c.loop-c.c (omega arith)
    c.args.step.rows (omega arith) c.loop-c.invariant _ (λ i l. refl) c.chunk.ensures

pub returns : goal.returns
returns g c =
    front-all c.power_of_two-n.ensures c.args.step.rows c.loop-c.invariant (omega (arith, sixteens))
