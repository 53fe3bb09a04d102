-- `holds_now` meets its contract. Criterion 4 is handed the whole slices: the answer is that of slices cut from element
-- 0 on as well, so that of a cut from element 1 on it is refused what it computes, and not the cut.
use Rattle.std.proofs.Common.{rules}
use Rattle.std.proofs.Math.Nat.{sub-zero}
use Rattle.std.proofs.Math.Seq.{take-length}
use Rattle.criteria.proofs.holds_now.Goals as goal

pub returns-in-LeastInformationSize : goal.returns-in-LeastInformationSize
returns-in-LeastInformationSize c = simp (c.least_information_size.ensures, sub-zero, take-length) (search rules)
