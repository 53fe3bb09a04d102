-- `messages::partnered` meets its contract: a cut sum lies within the ceiling.
use Prim.Native.Nat.{◌≤◌, ◌+◌}
use Rattle.std.proofs.Common.{rules, arith}
use native.Mathlib.Nat.{le_trans}
use lib.IntN.{nat_abs}
use mir.Syntax.{w16}
use mir.Val.{to_z, of_z}
use Rattle.calls.proofs.Signed.{told}
use Rattle.message.specs.MessageLaws.{add-size}
use Rattle.sweeps.proofs.messages.partnered.Goals as goal

pub combine-requires : goal.combine-requires
combine-requires c =
    let small : nat_abs (to_z w16 (of_z w16 c.add_cut-sum.result)) ≤ c.args.rule.ceiling + c.args.rule.ceiling =
    rw (told c.add_cut-sum.type_inv c.add_cut-sum.ensures) (le_trans (add-size _ _ _) (omega arith))
    in
    search (arith, rules)
