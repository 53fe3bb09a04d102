-- `last_steps` meets its contract: the first k sixteens are coded.
use Rattle.std.proofs.Common.{arith}
use Rattle.polar.proofs.Sixteens.{sixteens}
use Rattle.polar.proofs.Passes.{next-bits, recoded-next}
use Rattle.polar.proofs.last_steps.Goals as goal

pub transform_sixteen-requires : goal.transform_sixteen-requires
transform_sixteen-requires c = next-bits c.loop-k.invariant c.args.m c.requires.bits (omega (arith, sixteens))

pub loop-k-preserved : goal.loop-k-preserved
loop-k-preserved c =
    recoded-next c.loop-k.invariant c.args.m c.requires.bits (omega (arith, sixteens)) _ c.transform_sixteen.ensures
