-- `g_matrix` meets its contract.
use mathlib.Core.Path.{sym, ◌∙◌}
use native.Mathlib.Omega.{arith}
use lib.ListN.{replicate}
use Rattle.calls.specs.Bounds.{most_positions}
use Rattle.criteria.proofs.Matrix.{room, copied-holds, holds-bits, compared}
use Rattle.criteria.proofs.g_matrix.Goals as goal

pub transform-requires-clause-bits : goal.transform-requires-clause-bits
transform-requires-clause-bits c =
    holds-bits
    (copied-holds (replicate most_positions 0) _ c.requires.marks_length c.requires.mark_bytes
    (sym c.untied.ensures ∙ c.if-not-untied.false)
    (omega (arith, room c.args.outputs.now.m c.args.outputs.now.m_in_range))
    c.copy.ensures)

pub returns : goal.returns
returns c =
    c.starts_with.ensures
    ∙ compared
    (copied-holds (replicate most_positions 0) _ c.requires.marks_length c.requires.mark_bytes
    (sym c.untied.ensures ∙ c.if-not-untied.false)
    (omega (arith, room c.args.outputs.now.m c.args.outputs.now.m_in_range))
    c.copy.ensures)
    _ c.transform.ensures c.requires.marks_length c.args.outputs.now.coded_length c.args.outputs.now.coded_marks
    (sym c.untied.ensures ∙ c.if-not-untied.false) (sym c.untied-2.ensures ∙ c.if-not-untied-2.false)
