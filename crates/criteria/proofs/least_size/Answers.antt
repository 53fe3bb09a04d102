-- `least_size` meets its contract.
use Prim.Native.Nat.{min}
use mathlib.Core.Path.{◌≡◌, ap, ◌∙◌}
use mathlib.Core.Bool.{true}
use mathlib.Core.List.{map}
use native.Mathlib.Omega.{arith}
use borrow.Author.Rules.{rules}
use lib.Dec.{leb}
use lib.IntN.{pos, nat_abs}
use Rattle.std.proofs.Common.{le-leb}
use Rattle.std.specs.List.{fold}
use Rattle.criteria.proofs.Folds.{fold-least}
use Rattle.criteria.proofs.least_size.Goals as goal

pub returns : goal.returns
returns c =
    let fits : leb c.args.operand 65535 ≡ true = le-leb c.args.operand 65535 (omega arith) in
    let folded : c.fold.result ≡ fold min 65535 (map nat_abs c.args.soft.now) = search rules in
    ap (leb c.args.operand) folded ∙ fold-least (pos 0) c.args.operand nat_abs 65535 c.args.soft.now ∙ rw fits
