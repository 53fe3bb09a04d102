-- `messages::combine` meets its contract.
use mathlib.Core.Path.{◌≡◌, ◌∙◌}
use mathlib.Core.Bool.{cond}
use native.Mathlib.Nat.{le_trans}
use lib.IntN.{pos}
use mir.Facts.{to_z-of_z}
use mir.Syntax.{w16}
use mir.Val.{to_z, of_z}
use Rattle.calls.proofs.Signed.{told, kept}
use Rattle.message.specs.Message.{f}
use Rattle.sweeps.proofs.Combined.{picked-size, combined}
use Rattle.sweeps.proofs.messages.combine.Goals as goal

pub returns : goal.returns
returns c =
    let a = c.args in
    let first-is : to_z w16 (of_z w16 c.pick.result) ≡ cond a.upper a.own a.x =
    told c.pick.type_inv (simp (to_z-of_z c.ranges.own, to_z-of_z c.ranges.x) at c.pick.ensures)
    in
    let second_is : to_z w16 (of_z w16 c.pick-2.result) ≡ cond a.upper a.sum a.y =
    told c.pick-2.type_inv (simp (to_z-of_z c.ranges.sum, to_z-of_z c.ranges.y) at c.pick-2.ensures)
    in
    let part-is : to_z w16 (of_z w16 c.min_sum-part.result)
    ≡ f a.rule (cond a.upper a.own a.x) (cond a.upper a.sum a.y) =
    told c.min_sum-part.type_inv (simp (first-is, second_is) at c.min_sum-part.ensures.value)
    in
    let third-is : to_z w16 (of_z w16 c.pick-3.result) ≡ cond a.upper (pos 0) a.own =
    told c.pick-3.type_inv (simp (to_z-of_z c.ranges.own) at c.pick-3.ensures)
    in
    told c.add_cut.type_inv c.add_cut.ensures
    ∙ simp third-is
    (combined a.rule a.upper a.own a.sum a.x a.y _ part-is
    (rw (kept c.min_sum-part.result c.min_sum-part.type_inv)
    (le_trans (rw first-is at c.min_sum-part.ensures.size)
    (picked-size a.upper a.own a.x c.requires.0 c.requires.2))))
