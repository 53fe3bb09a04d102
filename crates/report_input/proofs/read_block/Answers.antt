-- `read_block` meets its contract.
use Rattle.std.proofs.Common.{◌≡◌, ◌^◌, length, take, arith}
use Rattle.std.proofs.lemmas.Grind.{common_steps}
use Rattle.std.proofs.Math.Bool.{true}
use Rattle.calls.specs.Bounds.{largest_m}
use Rattle.calls.specs.Numbers.{between}
use Rattle.report_input.specs.InputLaws.{refused-block, read-refused, read-again}
use Rattle.report_input.proofs.read_block.Goals as goal

pub returns-in_err-refusal : goal.returns-in_err-refusal
returns-in_err-refusal c = grind (arith, common_steps, refused-block, read-refused)

pub returns : goal.returns
returns c =
    let m = c.args.settings.m in
    let n = c.positions-n.result in
    let passed : between 1 largest_m m ≡ true = grind (arith, common_steps) in
    let size : length (take n c.args.mask.now) ≡ 2 ^ m = grind (arith, common_steps) in
    let long : length c.read_positions.new.mask ≡ n = grind (arith, common_steps) in
    let llr-long : length c.read_positions.new.llr ≡ n = grind (arith, common_steps) in
    let again = rw size at c.read_positions.ensures.text_value in
    rw passed (read-again _ _ _ _ _ c.in_ok-refusal.ensures.value again (rw (long, llr-long)))
