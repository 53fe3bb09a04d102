-- `octets::octet` meets its contract.
use Prim.Native.Nat.{◌^◌}
use mathlib.Core.Path.{◌≡◌, ◌∙◌}
use borrow.Author.Rules.{rules}
use native.Mathlib.Omega.{arith}
use lib.Bits.{bit_xor}
use lib.Dec.{eqb}
use lib.IntN.{pos}
use mir.Syntax.{w16}
use mir.Val.{of_z}
use Rattle.sweeps.specs.Private.{message_at, partnered_at}
use Rattle.sweeps.proofs.Digits.{same-power}
use Rattle.sweeps.proofs.Made.{callable, made}
use Rattle.sweeps.proofs.Places.{table-test, partnered-new, partner-readable}
use Rattle.sweeps.proofs.octets.octet.Goals as goal

pub from_fn-requires : goal.from_fn-requires
from_fn-requires g c = (
  omega arith,
  callable _ (λ x p q h. search rules) 8 _ _
      (λ x l. let r = partner-readable g.row.T (c.requires.readable_run x l) in
      let d : c.power_of_two-d.result ≡ 2 ^ g.row.T = c.power_of_two-d.ensures ∙ same-power (omega arith) in
      search (rules, d)),
)

pub returns : goal.returns
returns g c i l =
    let a = c.args in
    let w = a.work.now in
    let before = (c.requires.readable_run i l).before in
    let d : c.power_of_two-d.result ≡ 2 ^ g.row.T = c.power_of_two-d.ensures ∙ same-power (omega arith) in
    made (λ i v. v ≡ partnered_at a.rule (eqb (of_z w16 (message_at a.masks.now i)) 0) a.x a.y w i
    (bit_xor i c.power_of_two-d.result)) (λ i y q h. (search rules, search rules)) c.from_fn.result (pos 0)
    c.from_fn.ensures.items i l
    ∙ rw (table-test (2 ^ g.row.T) a.masks.now i c.requires.mask_table l, d)
    (partnered-new a.rule g.row.T a.x a.y w i before.0 before.1)
