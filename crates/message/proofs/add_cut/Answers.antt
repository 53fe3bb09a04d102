use Prim.Native.Nat.{ℕ}
use mathlib.Core.Path.{◌≡◌, ap, ◌∙◌}
use Rattle.std.proofs.Common.{arith}
use Rattle.std.proofs.lemmas.Int.{ints, clamps}
use Rattle.std.specs.Int.{int_max, int_min}
use lib.IntN.{ℤ, pos, negsuc, neg_ℤ, ◌+ℤ◌}
use Rattle.calls.proofs.Signed.{told}
use Rattle.message.specs.Rule.{Rule}
use Rattle.message.specs.Message.{cut, add}
use Rattle.message.proofs.add_cut.Goals as goal

cut-is : (C : ℕ) (z : ℤ) → int_max (int_min z (pos C)) (neg_ℤ (pos C)) ≡ cut C z
cut-is C (pos n) = omega (arith, ints, clamps)
cut-is C (negsuc n) = omega (arith, ints, clamps)

pub returns : goal.returns
unfolding add
returns c =
    let C = c.args.rule.ceiling in
    let z = c.args.a +ℤ c.args.b in
    let same : c.rule.inside.ceiling ≡ C = ap (λ (rule : Rule). rule.ceiling) c.rule.view_is in
    let both : c.max.result ≡ int_max (int_min z (pos C)) (neg_ℤ (pos C)) = omega (arith, ints, clamps) in
    told c.max.type_inv (both ∙ cut-is C z)
