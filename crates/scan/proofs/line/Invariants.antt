use Rattle.std.proofs.Common.{◌≡◌, ◌-◌, take}
use Rattle.std.proofs.lemmas.List.Edits.{sets}
use Rattle.scan.specs.Lines.{line}
use Rattle.scan.specs.ScanLaws.{behind}
use Rattle.scan.specs.Stored.{values_stored}
use Rattle.scan.proofs.line.Given as goal

abbrev pub invariant-loop-i : goal.invariant-loop-i
invariant-loop-i l = (line l.count l.text ≡ behind (take l.i l.values) (line (l.count - l.i) l.rest))
    × (sets l.values l.i (values_stored (l.count - l.i) l.rest)
    ≡ sets l.initial.values 0 (values_stored l.count l.text))
