-- `messages::upper` meets its contract: the cut of the sum would change nothing.
use mathlib.Core.Path.{sym, ◌∙◌}
use mir.Facts.{to_z-of_z}
use Rattle.calls.proofs.Signed.{told}
use Rattle.sweeps.proofs.Combined.{f-of-sum}
use Rattle.sweeps.proofs.messages.upper.Goals as goal

pub returns : goal.returns
returns c =
    told c.min_sum.type_inv c.min_sum.ensures.value
    ∙ simp (to_z-of_z c.ranges.own, told c.sum.type_inv c.sum.ensures, to_z-of_z c.ranges.x, to_z-of_z c.ranges.y)
    (sym (f-of-sum c.args.rule c.args.own c.args.x c.args.y c.requires.0))
