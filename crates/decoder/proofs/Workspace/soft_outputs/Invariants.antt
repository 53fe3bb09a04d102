use Rattle.calls.specs.WrittenLaws.{Written}
use Rattle.decoder.proofs.Loops.{soft_by}
use Rattle.decoder.proofs.Workspace.soft_outputs.Given as goal

abbrev pub invariant-loop-i : goal.invariant-loop-i
invariant-loop-i l = Written l.i (soft_by l.rule l.m l.mask l.work) l.initial.place-items l.place-items
