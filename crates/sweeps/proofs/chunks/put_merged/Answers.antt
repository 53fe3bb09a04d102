-- `chunks::put_merged` meets its contract: the first i of the sixteen are written.
use Prim.Native.Nat.{◌^◌}
use mathlib.Core.Path.{◌≡◌, ◌∙◌}
use native.Mathlib.Omega.{arith}
use borrow.Author.Rules.{rules}
use mir.Syntax.{w16}
use mir.Val.{to_z, of_z}
use Rattle.calls.proofs.Signed.{told}
use Rattle.calls.specs.WrittenLaws.{written_next}
use Rattle.sweeps.specs.Private.{message_at, pair_of}
use Rattle.sweeps.proofs.chunks.put_merged.Goals as goal

pub loop-i-preserved : goal.loop-i-preserved
loop-i-preserved g c =
    let a = c.args in
    let h = pair_of (2 ^ g.row.T) c.loop-i.i in
    let u : to_z w16 (of_z w16 (message_at a.upper.now h)) ≡ message_at a.upper.now h = search rules in
    let v : to_z w16 (of_z w16 (message_at a.lower.now h)) ≡ message_at a.lower.now h = search rules in
    written_next c.loop-i.invariant (told c.pick.type_inv c.pick.ensures ∙ rw (c.power_of_two-d.ensures, u, v))
    (omega arith)
