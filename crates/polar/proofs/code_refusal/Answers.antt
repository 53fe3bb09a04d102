-- `code_refusal` meets its contract: each return is that of the first test that fails.
use Rattle.std.proofs.Common.{rules}
use Rattle.polar.proofs.Firsts.{code_firsts}
use Rattle.polar.proofs.code_refusal.Goals as goal

pub returns : goal.returns
returns c = search (rules, code_firsts, c.if-not-contains.ensures.cases)
