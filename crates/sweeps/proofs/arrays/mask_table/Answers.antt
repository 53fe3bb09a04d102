use Rattle.sweeps.proofs.Made.{made}
use lib.IntN.{pos}
use lib.Bits.{bit_and}
use borrow.Author.Rules.{rules}
use mathlib.Core.Path.{◌≡◌}
use Rattle.sweeps.proofs.arrays.mask_table.Goals as goal

pub returns : goal.returns
returns c =
    made (λ i v. v ≡ pos (bit_and i c.args.d)) (λ i y q h. (search rules, search rules)) c.from_fn.result (pos 0)
    c.from_fn.ensures.items
