use Rattle.settings.specs.Slices.{slices}
use Rattle.decoder.proofs.Running.{Steps}
use Rattle.decoder.proofs.run.Given as goal

abbrev pub invariant-loop-done : goal.invariant-loop-done
invariant-loop-done l = Steps l.settings l.mask l.done l.memory
    (slices l.initial.soft l.initial.mark l.initial.coded_soft l.initial.coded_mark l.initial.work)
    (slices l.soft l.mark l.coded_soft l.coded_mark l.work)
