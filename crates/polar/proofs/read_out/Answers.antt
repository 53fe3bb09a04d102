-- `read_out` meets its contract.
use Rattle.std.proofs.Common.{◌≤◌, ◌^◌, sym, length}
use Rattle.polar.specs.Code.{information_count}
use Rattle.polar.specs.CodeLaws.{CodeAccepted, read-out-accepted}
use Rattle.polar.proofs.Firsts.{accepted-length, accepted-count, accepted-bytes}
use Rattle.polar.proofs.read_out.Goals as goal
use Rattle.polar.proofs.read_out.Goals.{In_ok-read_out_refusal}

accepted : (c : In_ok-read_out_refusal) → CodeAccepted c.args.code c.args.mask.now (length c.args.bytes.now)
    × (information_count c.args.mask.now (2 ^ c.args.code.m) ≤ length c.args.message.now)
accepted c = read-out-accepted _ _ _ _ (sym c.in_ok-read_out_refusal.ensures)

pub gather-requires : goal.gather-requires
gather-requires c =
    let h = accepted (goal.at.gather-requires c).In_ok-read_out_refusal in
    rw (c.power_of_two.ensures, accepted-count h.0, accepted-length h.0) (h.0.room-long, h.1)

pub returns-clause-message_after : goal.returns-clause-message_after
returns-clause-message_after c =
    let h = accepted (goal.at.returns-clause-message_after c).In_ok-read_out_refusal in
    rw (c.gather.ensures, ← c.in_ok-read_out_refusal.ensures, c.power_of_two.ensures)
    (accepted-bytes h.0 c.args.bytes.now c.args.message.now)
