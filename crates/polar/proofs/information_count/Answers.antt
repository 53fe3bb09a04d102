-- `information_count` meets its contract.
use Rattle.std.proofs.Common.{arith}
use Rattle.polar.proofs.Loops.{count-le}
use Rattle.polar.proofs.information_count.Goals as goal

pub overflow_add-count : goal.overflow_add-count
overflow_add-count c = omega (arith, count-le c.args.mask.now c.loop-kind.kind-index, c.requires)
