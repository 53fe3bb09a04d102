-- `encode_refusal` meets its contract: the code's tests, and where they pass the message's.
use Rattle.std.proofs.Common.{sym}
use Rattle.polar.specs.CodeLaws.{code-accepted}
use Rattle.polar.proofs.Firsts.{accepted-long, accepted-count}
use Rattle.polar.proofs.encode_refusal.Goals as goal

pub information_count-requires : goal.information_count-requires
information_count-requires c =
    let accepted = code-accepted c.args.code c.args.mask.now c.args.room (sym c.in_ok-code_refusal.ensures) in
    rw c.power_of_two.ensures (accepted-long accepted)

pub returns : goal.returns
returns c =
    let accepted = code-accepted c.args.code c.args.mask.now c.args.room (sym c.in_ok-code_refusal.ensures) in
    let count = rw (c.power_of_two.ensures, accepted-count accepted) at c.information_count.ensures in
    rw (← c.in_ok-code_refusal.ensures, ← count) c.message_refusal.ensures
