-- `run` meets its contract.
use native.Mathlib.Numerals.{add-one}
use native.Mathlib.Omega.{arith}
use borrow.Author.Rules.{rules}
use Rattle.decoder.specs.RunLaws.{run-valid, run-memory}
use Rattle.decoder.proofs.Running.{steps-ended, next-step, found}
use Rattle.decoder.proofs.run.Goals as goal

pub step-progress-requires-clause-workspace_valid : goal.step-progress-requires-clause-workspace_valid
step-progress-requires-clause-workspace_valid c =
    (run-valid c.loop-done.invariant.goes_on c.requires.workspace_valid)

pub step-progress-requires-clause-operand_le_largest_ceiling :
    goal.step-progress-requires-clause-operand_le_largest_ceiling
step-progress-requires-clause-operand_le_largest_ceiling c =
    (c.requires.operand_le_largest_ceiling.0, run-memory c.loop-done.invariant.goes_on (omega arith))

pub returns-then-progress : goal.returns-then-progress
returns-then-progress c =
    found c.loop-done.invariant c.step-progress.ensures c.requires.outputs_fit c.if-progress.true (omega arith) _
    (add-one c.loop-done.done)

pub loop-done-preserved : goal.loop-done-preserved
loop-done-preserved c =
    next-step c.loop-done.invariant c.step-progress.ensures c.requires.outputs_fit c.if-progress.false _
    (add-one c.loop-done.done)

pub returns : goal.returns
returns c = steps-ended _ c.loop-done.invariant (omega arith) (omega arith) (search rules)
