-- `join` meets its contract: the first i are joined.
use Rattle.std.proofs.Common.{arith, rules}
use Rattle.calls.specs.LentMemoryLaws.{overwrite-behind}
use Rattle.calls.specs.WrittenLaws.{written_next, written_all}
use Rattle.polar.proofs.Steps.{runs-joined}
use Rattle.polar.proofs.join.Goals as goal

pub loop-i-preserved : goal.loop-i-preserved
loop-i-preserved c = search (rules, written_next, overwrite-behind)

pub returns : goal.returns
returns c =
    runs-joined c.args.d c.args.runs.now _ _ _ (omega arith) c.split_at_mut-upper.ensures.front
    c.split_at_mut-upper.ensures.back (written_all c.loop-i.invariant c.args.d (omega arith))
