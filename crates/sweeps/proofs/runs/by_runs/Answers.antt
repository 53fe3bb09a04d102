-- `runs::by_runs` meets its contract: the upper positions of the first r runs are done, and their partners.
use native.Mathlib.Omega.{arith}
use borrow.Author.Rules.{rules}
use borrow.Author.Tests.{eq-eqb, ne_eqb}
use lib.Pow.{pow_mono}
use Rattle.sweeps.proofs.Turns.{run-readable, run-room, run-turn, pairs-all}
use Rattle.sweeps.proofs.runs.by_runs.Goals as goal

pub overflow_sub-r-end : goal.overflow_sub-r-end
overflow_sub-r-end g c =
    let step = c.args.step in
    rw (c.power_of_two-n.ensures, c.power_of_two-d.ensures)
    (pow_mono {i = step.t} {j = step.m} (omega (arith, step.rows.distance)))

pub join-requires-clause-readable_run : goal.join-requires-clause-readable_run
join-requires-clause-readable_run g c =
    run-readable c.power_of_two-n.ensures c.power_of_two-d.ensures _ c.loop-r.r c.requires.width.0 c.requires.width.1
    (omega arith) c.args.step.rows c.loop-r.invariant (search rules)

pub join-requires-clause-d_in_bounds : goal.join-requires-clause-d_in_bounds
join-requires-clause-d_in_bounds g c =
    run-room c.power_of_two-n.ensures c.power_of_two-d.ensures _ c.loop-r.r c.requires.width.0 c.requires.width.1
    (omega arith) c.args.step.rows c.loop-r.invariant (search rules)

-- (No name of what the `if` leaves is cited: the text of its test makes that name, and a wrong program has another.)
pub loop-r-preserved : goal.loop-r-preserved
loop-r-preserved g c =
    run-turn c.power_of_two-n.ensures c.power_of_two-d.ensures _ c.loop-r.r c.requires.width.0 c.requires.width.1
    (omega arith) c.args.step.rows c.loop-r.invariant
    (λ z. search (rules, z, eq-eqb _ 0 z)) (λ o. search (rules, o, ne_eqb _ 0 o))

pub returns : goal.returns
returns g c =
    pairs-all c.power_of_two-n.ensures c.power_of_two-d.ensures _ c.loop-r.r c.requires.width.0 c.requires.width.1
    (omega arith) c.args.step.rows c.loop-r.invariant
