-- `steps_to_sixteen` meets its contract: at m = 4 there is no such step, and else the last comes after the first ones.
use Rattle.std.proofs.Common.{ℕ, ◌+◌, ◌-◌, ◌^◌, ◌≡◌, ◌∙◌, ap, arith}
use Rattle.calls.specs.LentMemory.{overwrite}
use Rattle.polar.proofs.Steps.{Columned, stepped, columned-none, columned-bits, columned-next}
use Rattle.polar.proofs.steps_to_sixteen.Goals as goal
use Rattle.polar.proofs.steps_to_sixteen.Goals.{After-first_steps}

columned : (c : After-first_steps) → Columned c.args.m (c.args.m - 5) c.args.block.now c.first_steps.new.block
columned c = record { is = c.first_steps.ensures }

pub butterflies-requires-clause-bits : goal.butterflies-requires-clause-bits
butterflies-requires-clause-bits c =
    columned-bits (columned (goal.at.butterflies-requires-clause-bits c).After-first_steps) c.requires.bits

pub returns-then-m-gt4 : goal.returns-then-m-gt4
returns-then-m-gt4 c =
    let m = c.args.m in
    let x = c.first_steps.new.block in
    let all : m - 4 ≡ m - 5 + 1 = omega arith in
    let over : 4 ≡ m - 1 - (m - 5) = omega arith in
    let last = c.butterflies.ensures ∙ ap (λ (t : ℕ). overwrite (2 ^ m) (stepped t x) x) over in
    rw all
    (columned-next (columned (goal.at.returns-then-m-gt4 c).After-first_steps) c.requires.bits (omega arith) _ last).is

pub returns-else-m-gt4 : goal.returns-else-m-gt4
returns-else-m-gt4 c =
    let none : c.args.m - 4 ≡ 0 = omega arith in
    rw none (columned-none {m = c.args.m} c.requires.bits).is
