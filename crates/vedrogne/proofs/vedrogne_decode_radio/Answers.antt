-- `vedrogne_decode_radio` meets its contract.
use Rattle.std.proofs.Common.{◌≤◌, ◌≡◌, sym, ◌∙◌, arith, length}
use Rattle.vedrogne.specs.Interface.{tallies_length, lists_number}
use Rattle.vedrogne.proofs.Promises.{lists-accepted, radio-refused, radio-counted}
use Rattle.vedrogne.proofs.vedrogne_decode_radio.Goals as goal
use Rattle.vedrogne.proofs.vedrogne_decode_radio.Goals.{After-is_radio}

long : (c : After-is_radio) → tallies_length ≤ length c.args.tallies.now
long c = omega arith

lists : (c : After-is_radio) → lists_number c.args.tallies.now c.args.settings.now ≡ 0
lists c = lists-accepted c.args.tallies.now c.args.settings.now (long c) c.in_ok-settings.ensures.0

pub returns-then-not-is_radio : goal.returns-then-not-is_radio
returns-then-not-is_radio c =
    let d = (goal.at.returns-then-not-is_radio c).After-is_radio in
    radio-refused _ _ _ _ _ _ (lists d) (long d) (sym c.is_radio.ensures ∙ c.if-not-is_radio.true)

pub returns : goal.returns
returns c =
    let d = (goal.at.returns c).After-is_radio in
    let out = c.result_out.ensures in
    radio-counted _ _ _ _ _ _ (lists d) (long d) (sym c.is_radio.ensures ∙ c.if-not-is_radio.false)
    c.tally_out.ensures (out.value, (out.iterations_after, out.reason_after))
    c.tally_in.ensures c.in_ok-settings.ensures.1 c.decode-outcome.ensures
