-- `encode` meets its contract.
use Rattle.std.proofs.Common.{◌≡◌, ◌^◌, ◌∙◌, sym, length}
use Rattle.calls.specs.Bits.{byte_of}
use Rattle.calls.specs.LentMemory.{overwrite}
use Rattle.polar.specs.Code.{information_count, u_bit}
use Rattle.polar.specs.BlockLaws.{bits-written}
use Rattle.polar.specs.CodeLaws.{CodeAccepted, MessageAccepted, encode-accepted}
use Rattle.polar.proofs.Firsts.{accepted-count, accepted-u}
use Rattle.polar.proofs.Steps.{placed-coded}
use Rattle.polar.proofs.encode.Goals as goal
use Rattle.polar.proofs.encode.Goals.{In_ok-encode_refusal, After-place}

accepted : (c : In_ok-encode_refusal) → CodeAccepted c.args.code c.args.mask.now (length c.args.block.now)
    × MessageAccepted c.args.message.now (information_count c.args.mask.now (2 ^ c.args.code.m))
accepted c = encode-accepted _ _ _ _ (sym c.in_ok-encode_refusal.ensures)

pub place-requires-clause-message_accepted : goal.place-requires-clause-message_accepted
place-requires-clause-message_accepted c =
    let h = accepted (goal.at.place-requires-clause-message_accepted c).In_ok-encode_refusal in
    rw (c.power_of_two.ensures, accepted-count h.0) h.1

placed : (c : After-place) → CodeAccepted c.args.code c.args.mask.now (length c.args.block.now)
    → c.place.new.block
    ≡ overwrite (2 ^ c.args.code.m) (λ i. byte_of (u_bit c.args.mask.now c.args.message.now i)) c.args.block.now
placed c h = rw c.power_of_two.ensures at c.place.ensures ∙ accepted-u h c.args.message.now c.args.block.now

pub transform-requires-clause-bits : goal.transform-requires-clause-bits
transform-requires-clause-bits c =
    let at = goal.at.transform-requires-clause-bits c in
    let h = (accepted at.In_ok-encode_refusal).0 in
    bits-written _ (u_bit c.args.mask.now c.args.message.now) _ _ h.room-long (placed at.After-place h)

pub returns-clause-block_after : goal.returns-clause-block_after
returns-clause-block_after c =
    let at = goal.at.returns-clause-block_after c in
    let h = (accepted at.In_ok-encode_refusal).0 in
    rw (← c.in_ok-encode_refusal.ensures)
    (placed-coded _ (u_bit c.args.mask.now c.args.message.now) _ _ _ h.room-long (placed at.After-place h)
    c.transform.ensures)
