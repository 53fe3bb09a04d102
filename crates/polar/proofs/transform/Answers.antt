-- `transform` meets its contract: all m steps, or the last four of them after the others.
use Rattle.std.proofs.Common.{◌-◌, refl, arith}
use Rattle.polar.proofs.Steps.{Columned, columned-bits, columned-all}
use Rattle.polar.proofs.Passes.{columned-recoded}
use Rattle.polar.proofs.transform.Goals as goal
use Rattle.polar.proofs.transform.Goals.{After-steps_to_sixteen}

columned : (c : After-steps_to_sixteen)
    → Columned c.args.m (c.args.m - 4) c.args.block.now c.steps_to_sixteen.new.block
columned c = record { is = c.steps_to_sixteen.ensures }

pub last_steps-requires-clause-bits : goal.last_steps-requires-clause-bits
last_steps-requires-clause-bits c =
    columned-bits (columned (goal.at.last_steps-requires-clause-bits c).After-steps_to_sixteen) c.requires.bits

pub returns-then-m-lt4 : goal.returns-then-m-lt4
returns-then-m-lt4 c = columned-all {m = c.args.m} {old = c.args.block.now} record { is = c.first_steps.ensures } refl

pub returns-else-m-lt4 : goal.returns-else-m-lt4
returns-else-m-lt4 c =
    columned-recoded _ _ _ _ c.requires.bits (omega arith)
    (columned (goal.at.returns-else-m-lt4 c).After-steps_to_sixteen) c.last_steps.ensures
