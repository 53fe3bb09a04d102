-- `soft_outputs` meets its contract.
use Prim.Native.Nat.{ℕ, ◌+◌, ◌*◌, ◌^◌}
use mathlib.Core.Path.{◌≡◌, sym, ap₂, ◌∙◌}
use native.Mathlib.Nat.{zero-mul, add-zero}
use native.Mathlib.Omega.{arith}
use lib.ListN.{get_or}
use Rattle.calls.specs.WrittenLaws.{written_next}
use Rattle.calls.proofs.Signed.{told}
use Rattle.decoder.specs.Decoder.{soft_of}
use Rattle.decoder.proofs.Loops.{row-read}
use Rattle.decoder.proofs.Workspace.soft_outputs.Goals as goal

pub loop-i-preserved : goal.loop-i-preserved
loop-i-preserved c =
    let m : ℕ = c.args.self.now.settings.m in
    let width : c.power_of_two-n.result ≡ 2 ^ m = c.power_of_two-n.ensures in
    let right : (m + 1) * c.power_of_two-n.result ≡ (m + 1 + 0) * 2 ^ m = rw (width, add-zero (m + 1)) in
    written_next c.loop-i.invariant
    (told c.soft_output.type_inv
    (c.soft_output.ensures
    ∙ ap₂ (soft_of _ (get_or c.args.mask.now c.loop-i.i 0))
    (row-read m 0 _ _ _ c.get.type_inv c.get.ensures (sym (zero-mul (2 ^ m))))
    (row-read m (m + 1 + 0) _ _ _ c.get-in-loop-i.type_inv c.get-in-loop-i.ensures right)))
    (omega (arith, width))
