-- `starts_with` meets its contract.
use Prim.Native.Nat.{ℕ}
use mathlib.Core.Path.{ap, ◌∙◌}
use native.Mathlib.Omega.{arith}
use borrow.Author.Rules.{rules}
use lib.Dec.{eqb}
use lib.ListN.{length, get_or, take}
use Rattle.std.proofs.lemmas.List.{length-take, get_or-take}
use Rattle.std.proofs.lemmas.Iterator.{YieldsList-from_slice, YieldsList-from_zip}
use Rattle.calls.specs.EveryLaws.{every-same}
use Rattle.calls.proofs.Folds.{every_from_fold}
use Rattle.criteria.proofs.Folds.{every-zip}
use Rattle.criteria.proofs.starts_with.Goals as goal

pub returns : goal.returns
returns c =
    let n = length c.args.first.now in
    let bytes = take n c.args.bytes.now in
    every_from_fold (0, 0) (λ q. eqb q.0 q.1) c.fold.ensures.ran
    (YieldsList-from_zip (YieldsList-from_slice bytes cc) (YieldsList-from_slice c.args.first.now cc))
    (λ a x b q k. search rules)
    ∙ every-zip 0 0 (λ i q. eqb q.0 q.1) bytes c.args.first.now n (omega (arith, length-take {A = ℕ}))
    ∙ every-same n _ _ (λ i l.
    ap (λ (x : ℕ). eqb x (get_or c.args.first.now i 0)) (get_or-take n c.args.bytes.now i 0 l))
