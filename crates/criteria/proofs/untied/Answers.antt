-- `untied` meets its contract.
use mathlib.Core.Bool.{not}
use borrow.Author.Rules.{rules}
use lib.Dec.{eqb}
use Rattle.std.proofs.lemmas.Iterator.{YieldsList-from_slice}
use Rattle.calls.proofs.Folds.{every_from_fold}
use Rattle.criteria.proofs.untied.Goals as goal

pub returns : goal.returns
returns c =
    every_from_fold 0 (λ x. not (eqb x 2)) c.fold.ensures.ran (YieldsList-from_slice c.args.marks.now cc)
    (λ a x b q k. search rules)
