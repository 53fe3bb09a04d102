-- `coded_soft_outputs` meets its contract.
use Prim.Native.Nat.{ℕ, ◌+◌, ◌*◌, ◌^◌}
use mathlib.Core.Path.{◌≡◌, ap₂, ◌∙◌}
use native.Mathlib.Omega.{arith}
use Rattle.calls.specs.WrittenLaws.{written_next}
use Rattle.message.specs.Message.{add}
use Rattle.calls.proofs.Signed.{told}
use Rattle.decoder.proofs.Loops.{row-read}
use Rattle.decoder.proofs.Workspace.coded_soft_outputs.Goals as goal

pub loop-i-preserved : goal.loop-i-preserved
loop-i-preserved c =
    let m : ℕ = c.args.self.now.settings.m in
    let width : c.power_of_two-n.result ≡ 2 ^ m = c.power_of_two-n.ensures in
    let left : m * c.power_of_two-n.result ≡ m * 2 ^ m = rw width in
    let right : (m + 1 + m) * c.power_of_two-n.result ≡ (m + 1 + m) * 2 ^ m = rw width in
    written_next c.loop-i.invariant
    (told c.add_cut.type_inv
    (c.add_cut.ensures
    ∙ ap₂ (add _) (row-read m m _ _ _ c.get.type_inv c.get.ensures left)
    (row-read m (m + 1 + m) _ _ _ c.get-in-loop-i.type_inv c.get-in-loop-i.ensures right)))
    (omega (arith, width))
