-- `outputs` meets its contract.
use mathlib.Core.Path.{refl}
use Rattle.criteria.specs.SliceLaws.{marked}
use Rattle.settings.specs.SlicesLaws.{slices-same}
use Rattle.decoder.proofs.outputs.Goals as goal

pub returns : goal.returns
returns c =
    slices-same c.soft_outputs.ensures
    (marked (record { is = c.soft_outputs.ensures }) c.requires.outputs_fit.soft c.args.mark.now _
    (rw c.power_of_two.ensures at c.mark_all.ensures))
    c.coded_outputs.ensures.coded_soft_after c.coded_outputs.ensures.coded_mark_after refl
