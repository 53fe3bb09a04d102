use Prim.Native.Nat.{min}
use mathlib.Core.Bool.{Bool, true, false, not, beq}
use mathlib.Core.Path.{◌≡◌, refl, subst, ◌∙◌}
use Rattle.std.proofs.Common.{arith}
use Rattle.std.proofs.lemmas.Int.{ints, clamps}
use lib.IntN.{ℤ, nat_abs, pos}
use mir.Facts.{to_z-of_z}
use Rattle.calls.proofs.Signed.{told, below-zero}
use Rattle.calls.specs.Bits.{xor}
use Rattle.calls.specs.Signs.{is_negative, flipped}
use Rattle.message.specs.Rule.{RuleInRange}
use Rattle.message.specs.Message.{f}
use Rattle.message.specs.MessageLaws.{f-size}
use Rattle.message.proofs.min_sum.Goals as goal

-- two bits that differ are those whose exclusive-or is 1
unequal : (s t : Bool) (z : ℤ) → flipped (not (beq s t)) z ≡ flipped (xor s t) z
unequal false false z = refl
unequal false true z = refl
unequal true false z = refl
unequal true true z = refl

pub returns-clause-value : goal.returns-clause-value
unfolding f
returns-clause-value c =
    let a = c.args.a in
    let b = c.args.b in
    let size_is : c.min-size.result ≡ pos (min (nat_abs a) (nat_abs b)) = omega (arith, ints, clamps) in
    told c.scaled.type_inv c.scaled.ensures
    ∙ simp (
      to_z-of_z c.ranges.a,
      to_z-of_z c.ranges.b,
      told c.min-size.type_inv size_is,
      below-zero,
      ← c.rule.view_is,
    )
    (unequal (is_negative a) (is_negative b) _)

pub returns-clause-size : goal.returns-clause-size
returns-clause-size c =
    let in-range : RuleInRange c.args.rule = subst RuleInRange c.rule.view_is c.rule.invariant in
    rw (returns-clause-value c) (f-size c.args.rule c.args.a c.args.b in-range.scale-le)
