-- The settings of the message arithmetic, as clauses and definitions see a `MinSum`. Definitions only.
use Rattle.std.specs.Prelude.{ℕ, ◌≤◌}
use Rattle.calls.specs.Bounds.{largest_ceiling, largest_scale}

-- the ceiling C and the scale k
pub record Rule : Type 0 where
  pub ceiling : ℕ
  pub scale : ℕ

-- both within their ranges: what is true of every `MinSum`
pub record RuleInRange (rule : Rule) : Type 0 where
  pub some : 1 ≤ rule.ceiling
  pub ceiling-le : rule.ceiling ≤ largest_ceiling
  pub scale-some : 1 ≤ rule.scale
  pub scale-le : rule.scale ≤ largest_scale
