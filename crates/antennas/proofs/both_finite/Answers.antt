use Rattle.std.proofs.Common.{◌∙◌, rules}
use Rattle.std.proofs.lemmas.Iterator.{YieldsList-from_slice, YieldsList-from_zip}
use Rattle.std.proofs.lemmas.Iterator.Search.{all_from_yields_List}
use Rattle.antennas.proofs.Pairs.{both, pairs-listed}
use Rattle.antennas.proofs.both_finite.Goals as goal

pub returns : goal.returns
returns c =
    let a = c.args in
    all_from_yields_List both c.all.new.self _ _ c.all.ensures.ran
    (YieldsList-from_zip (YieldsList-from_slice a.first.now cc) (YieldsList-from_slice a.second.now cc))
    (λ pair b q k. search rules)
    ∙ pairs-listed a.first.now a.second.now c.requires
