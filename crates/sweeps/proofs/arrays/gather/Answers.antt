-- `arrays::gather` meets its contract.
use borrow.Author.Rules.{rules}
use native.Mathlib.Omega.{arith}
use lib.Bits.{and_le_l}
use Rattle.sweeps.proofs.Made.{callable}
use Rattle.sweeps.proofs.arrays.gather.Goals as goal

pub from_fn-requires : goal.from_fn-requires
from_fn-requires c = (omega arith, callable _ (λ x p q h. search rules) 8 _ _ (λ x l. search (rules, and_le_l)))
