use Rattle.std.proofs.Common.{◌∙◌, rules}
use Rattle.std.proofs.lemmas.Iterator.{YieldsList-from_slice}
use Rattle.std.proofs.lemmas.Iterator.Search.{all_from_yields_List}
use lib.Ieee.{nan}
use Rattle.calls.specs.EveryLaws.{every-listed}
use Rattle.channel.specs.Front.{is_finite}
use Rattle.channel.proofs.Samples.{library-finite}
use Rattle.channel.proofs.all_finite.Goals as goal

pub returns : goal.returns
returns c =
    let samples = c.args.samples.now in
    all_from_yields_List is_finite _ _ _ c.all.ensures.ran (YieldsList-from_slice samples cc)
    (λ x b q k. search (rules, library-finite))
    ∙ every-listed nan is_finite samples
