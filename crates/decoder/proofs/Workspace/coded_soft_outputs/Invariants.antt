use Rattle.calls.specs.WrittenLaws.{Written}
use Rattle.decoder.proofs.Loops.{coded_soft_by}
use Rattle.decoder.proofs.Workspace.coded_soft_outputs.Given as goal

abbrev pub invariant-loop-i : goal.invariant-loop-i
invariant-loop-i l = Written l.i (coded_soft_by l.rule l.m l.work) l.initial.place-items l.place-items
