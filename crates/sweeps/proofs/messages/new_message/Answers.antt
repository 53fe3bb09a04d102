-- `messages::new_message` meets its contract: the sum fits, and its cut would change nothing.
use Prim.Native.Nat.{◌+◌}
use mathlib.Core.Path.{◌≡◌, ◌∙◌}
use lib.IntN.{ℤ, ◌+ℤ◌}
use mir.Syntax.{w16}
use mir.Val.{to_z, of_z}
use Rattle.calls.proofs.Signed.{told}
use Rattle.sweeps.proofs.Combined.{f-of-sum}
use Rattle.sweeps.specs.Private.{message_at, new_at}
use Rattle.sweeps.proofs.messages.new_message.Goals as goal

pub returns : goal.returns
unfolding new_at
returns c =
    let a = c.args in
    let w = a.work.now in
    let own : ℤ = message_at w (a.x + a.p) in
    let x-after : ℤ = message_at w (a.x + (a.p + a.d)) in
    let y-after : ℤ = message_at w (a.y + (a.p + a.d)) in
    let r = c.requires.readable in
    let sum_is : to_z w16 (of_z w16 c.sum-sum.result) ≡ x-after +ℤ y-after =
    told c.sum-sum.type_inv c.sum-sum.ensures
    ∙ rw (told c.get.type_inv c.get.ensures, told c.get-2.type_inv c.get-2.ensures)
    in
    told c.combine.type_inv c.combine.ensures
    ∙ simp (
      c.requires.upper_value,
      told c.get-3.type_inv c.get-3.ensures,
      sum_is,
      told c.get-4.type_inv c.get-4.ensures,
      told c.get-5.type_inv c.get-5.ensures,
      ← f-of-sum a.rule own x-after y-after r.own,
    )
