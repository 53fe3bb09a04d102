-- `decode` meets its contract.
use Rattle.std.proofs.Common.{sym, ap, ◌∙◌}
use Rattle.calls.specs.Numbers.{number_of}
use Rattle.tally.proofs.Promises.{answered}
use Rattle.tally.proofs.Tally.decode.Goals as goal

pub counted-tally-requires : goal.counted-tally-requires
counted-tally-requires c =
    let a = c.args in (
      sym c.refusal.ensures ∙ ap number_of c.in-Ok.is,
      answered a.settings a.mask.now a.llr.now _ c.decode-outcome.ensures,
    )
