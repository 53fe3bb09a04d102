-- `clear` meets its contract.
use mathlib.Core.Path.{◌∙◌}
use native.Mathlib.Omega.{arith}
use borrow.Author.Rules.{rules}
use Rattle.std.proofs.lemmas.List.{get_or-replicate}
use lib.IntN.{pos}
use Rattle.sweeps.proofs.Parts.{copied, overwrite_from-same}
use Rattle.sweeps.proofs.clear.Goals as goal

pub returns : goal.returns
returns c =
    copied 0 c.args.n c.args.n c.fill.new.self c.args.work.now (pos 0) (omega arith) (search rules) (omega arith)
    ∙ overwrite_from-same 0 c.args.n _ _ c.args.work.now (search (rules, get_or-replicate, c.fill.ensures.after))
