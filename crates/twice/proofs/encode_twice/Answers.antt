-- `encode_twice` meets its contract: by the promises of its tests and of the two calls.
use mathlib.Core.Path.{◌≡◌, sym, ◌∙◌}
use Rattle.twice.specs.Twice.{twice_number}
use Rattle.twice.specs.TwiceLaws.{number-by-lengths, neither-written}
use Rattle.twice.proofs.encode_twice.Goals as goal

pub returns-in_err-refusal-clause-block_after : goal.returns-in_err-refusal-clause-block_after
returns-in_err-refusal-clause-block_after c =
    let a = c.args in
    (neither-written a.code a.mask.now a.message.now a.block.now a.again.now _ c.in_err-refusal.ensures).0

pub returns-in_err-refusal-clause-again_after : goal.returns-in_err-refusal-clause-again_after
returns-in_err-refusal-clause-again_after c =
    let a = c.args in
    (neither-written a.code a.mask.now a.message.now a.block.now a.again.now _ c.in_err-refusal.ensures).1

pub returns-clause-block_after : goal.returns-clause-block_after
returns-clause-block_after c =
    let a = c.args in
    let passed : twice_number a.code a.mask.now a.message.now a.block.now a.again.now ≡ 0
    = number-by-lengths a.code a.mask.now a.message.now a.block.now a.again.now ∙ sym c.in_ok-refusal.ensures in
    rw passed c.encode.ensures.block_after
