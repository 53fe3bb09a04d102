use Rattle.std.proofs.Common.{leb, rules}
use Rattle.std.specs.Prelude.{pos, nat_abs}
use Rattle.std.proofs.lemmas.Iterator.{YieldsList-from_slice}
use Rattle.calls.proofs.Folds.{every_from_fold}
use Rattle.settings.proofs.within_ceiling.Goals as goal

pub returns : goal.returns
returns c =
    every_from_fold (pos 0) (λ z. leb (nat_abs z) c.args.ceiling) c.fold.ensures.ran
    (YieldsList-from_slice c.args.llr.now cc) (λ within z b q k. search rules)
