-- `read_out_refusal` meets its contract: the code's tests, and where they pass the room for the message.
use Rattle.std.proofs.Common.{◌≡◌, ◌^◌, length, sym, rules}
use Rattle.polar.specs.Code.{information_count}
use Rattle.polar.specs.CodeLaws.{code-accepted}
use Rattle.polar.proofs.Firsts.{accepted-long, accepted-count}
use Rattle.polar.proofs.read_out_refusal.Goals as goal
use Rattle.polar.proofs.read_out_refusal.Goals.{After-information_count}

pub information_count-requires : goal.information_count-requires
information_count-requires c =
    let accepted = code-accepted c.args.code c.args.mask.now (length c.args.bytes.now)
    (sym c.in_ok-code_refusal.ensures)
    in
    rw c.power_of_two.ensures (accepted-long accepted)

count : (c : After-information_count) → c.information_count.result ≡ information_count c.args.mask.now
    (2 ^ c.args.code.m)
count c =
    let accepted = code-accepted c.args.code c.args.mask.now (length c.args.bytes.now)
    (sym c.in_ok-code_refusal.ensures)
    in
    rw (c.power_of_two.ensures, accepted-count accepted) at c.information_count.ensures

pub returns-then-room-information_count : goal.returns-then-room-information_count
returns-then-room-information_count c =
    rw (← c.in_ok-code_refusal.ensures, ← count (goal.at.returns-then-room-information_count c).After-information_count)
    (search rules)

pub returns-else-room-information_count : goal.returns-else-room-information_count
returns-else-room-information_count c =
    rw (← c.in_ok-code_refusal.ensures, ← count (goal.at.returns-else-room-information_count c).After-information_count)
    (search rules)
