use Rattle.std.proofs.Common.{ℕ, ◌<◌, pos, get_or}
use Rattle.channel.proofs.fill_each.Given as goal

abbrev pub invariant-loop-i : goal.invariant-loop-i
invariant-loop-i g l = (k : ℕ) → k < l.i → goal.F-post g l.llr_at k (get_or l.llr k (pos 0))
