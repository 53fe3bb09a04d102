-- `same_marks` meets its contract.
use Prim.Native.Nat.{ℕ}
use mathlib.Core.Path.{ap, ◌∙◌}
use mathlib.Core.Bool.{true}
use native.Mathlib.Omega.{arith}
use borrow.Author.Rules.{rules}
use lib.Dec.{eqb}
use lib.IntN.{pos}
use lib.ListN.{length, get_or}
use Rattle.std.specs.List.{zip}
use Rattle.std.proofs.lemmas.Iterator.{YieldsList-from_slice, YieldsList-from_zip}
use Rattle.std.proofs.lemmas.Slice.Zip.{length-zip, get_or-zip}
use Rattle.calls.specs.EveryLaws.{every-same}
use Rattle.polar.specs.Mask.{by_kind}
use Rattle.criteria.specs.Marks.{mark_of}
use Rattle.calls.proofs.Folds.{every_from_fold}
use Rattle.criteria.proofs.Folds.{every-zip}
use Rattle.criteria.proofs.same_marks.Goals as goal

pub returns : goal.returns
returns c =
    let mask = c.args.mask.now in
    let before = c.args.before.now in
    let soft = c.args.soft.now in
    every_from_fold ((0, 0), pos 0) (λ q. by_kind q.0.0 (eqb q.0.1 (mark_of q.1)) (λ bit. true)) c.fold.ensures.ran
    (YieldsList-from_zip
    (YieldsList-from_zip (YieldsList-from_slice mask cc) (YieldsList-from_slice before cc))
    (YieldsList-from_slice soft cc))
    (λ a x b q k. search rules)
    ∙ every-zip (0, 0) (pos 0) (λ i q. by_kind q.0.0 (eqb q.0.1 (mark_of q.1)) (λ bit. true)) (zip mask before) soft
    (length mask) (omega (arith, length-zip mask before))
    ∙ every-same (length mask) _ _ (λ i l.
    ap (λ (q : ℕ × ℕ). by_kind q.0 (eqb q.1 (mark_of (get_or soft i (pos 0)))) (λ bit. true))
    (get_or-zip mask before i (0, 0) l (omega arith)))
