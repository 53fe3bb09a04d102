-- `octets::by_octet` meets its contract.
use mathlib.Core.Path.{◌≡◌}
use native.Mathlib.Omega.{arith}
use Rattle.sweeps.proofs.Digits.{same-power}
use Rattle.sweeps.proofs.Turns.{octet-all}
use Rattle.sweeps.proofs.octets.by_octet.Goals as goal

pub returns-in-0 : goal.returns-in-0
returns-in-0 c =
    let e : 0 ≡ c.args.step.t = omega arith in
    octet-all c.requires.m_is c.requires.workspace_valid c.args.step.rows 1 (same-power e) c.octet.result
    c.octet.ensures c.put.ensures

pub returns-in-1 : goal.returns-in-1
returns-in-1 c =
    let e : 1 ≡ c.args.step.t = omega arith in
    octet-all c.requires.m_is c.requires.workspace_valid c.args.step.rows 2 (same-power e) c.octet-in-1.result
    c.octet-in-1.ensures c.put-in-1.ensures

pub returns-in_default : goal.returns-in_default
returns-in_default c =
    let e : 2 ≡ c.args.step.t = omega (arith, c.args.step.rows.distance) in
    octet-all c.requires.m_is c.requires.workspace_valid c.args.step.rows 4 (same-power e) c.octet-in_default.result
    c.octet-in_default.ensures c.put-in_default.ensures
