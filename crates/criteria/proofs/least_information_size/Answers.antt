-- `least_information_size` meets its contract.
use Prim.Native.Nat.{min}
use mathlib.Core.Path.{◌≡◌, ap, ◌∙◌}
use mathlib.Core.Bool.{Bool, true}
use native.Mathlib.Omega.{arith}
use borrow.Author.Rules.{rules}
use lib.Dec.{leb}
use lib.IntN.{pos, nat_abs}
use lib.ListN.{length, get_or}
use Rattle.std.specs.List.{zip}
use Rattle.std.proofs.Common.{le-leb}
use Rattle.std.proofs.lemmas.Iterator.{YieldsList-from_slice, YieldsList-from_map, YieldsList-from_zip}
use Rattle.std.proofs.lemmas.Iterator.Consumers.{fold_from_yields_List}
use Rattle.calls.specs.EveryLaws.{every-same}
use Rattle.polar.specs.Mask.{by_kind}
use Rattle.polar.specs.MaskLaws.{kind-ap}
use Rattle.criteria.proofs.Folds.{fold-least, every-zip}
use Rattle.criteria.proofs.least_information_size.Goals as goal

pub returns : goal.returns
returns c =
    let mask = c.args.mask.now in
    let soft = c.args.soft.now in
    let fits : leb c.args.operand 65535 ≡ true = le-leb c.args.operand 65535 (omega arith) in
    ap (leb c.args.operand)
    (fold_from_yields_List _ min 65535 _ c.fold.ensures.ran
    (YieldsList-from_map _ (λ q. by_kind q.0 (nat_abs q.1) (λ bit. 65535))
    (YieldsList-from_zip (YieldsList-from_slice mask cc) (YieldsList-from_slice soft cc)) (cc)
    (λ x r q k. search rules))
    (λ a x b q k. search rules))
    ∙ fold-least (0, pos 0) c.args.operand (λ q. by_kind q.0 (nat_abs q.1) (λ bit. 65535)) 65535 (zip mask soft)
    ∙ rw fits
    (every-zip 0 (pos 0) (λ i q. leb c.args.operand (by_kind q.0 (nat_abs q.1) (λ bit. 65535))) mask soft (length mask)
    (omega arith)
    ∙ every-same (length mask) _ _ (λ i l.
    kind-ap (leb c.args.operand) (nat_abs (get_or soft i (pos 0))) (λ bit. 65535) (get_or mask i 0)
    ∙ ap (λ (b : Bool). by_kind (get_or mask i 0) (leb c.args.operand (nat_abs (get_or soft i (pos 0)))) (λ bit. b))
    fits))
