-- `largest` meets its contract.
use Rattle.std.proofs.Common.{◌≡◌, max, fold, rules}
use Rattle.polar.proofs.Loops.{largest_leb}
use Rattle.polar.proofs.largest.Goals as goal

pub returns : goal.returns
returns c b = let e : c.fold.result ≡ fold max 0 c.args.bytes.now = search rules in rw e
    (largest_leb c.args.bytes.now b)
