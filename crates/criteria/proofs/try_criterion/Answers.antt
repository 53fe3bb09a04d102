-- `try_criterion` meets its contract.
use Prim.Native.Nat.{◌^◌}
use mathlib.Core.Path.{◌∙◌}
use lib.IntN.{pos}
use lib.ListN.{get_or}
use Rattle.calls.specs.WrittenLaws.{Written, written_at}
use Rattle.criteria.specs.Marks.{mark_of}
use Rattle.criteria.specs.SliceLaws.{mark-bytes}
use Rattle.criteria.proofs.Narrowed.{mark-bytes-first, memory-next-first, holds-now-first}
use Rattle.criteria.proofs.try_criterion.Goals as goal

pub holds_now-holds-requires-clause-mark_bytes : goal.holds_now-holds-requires-clause-mark_bytes
holds_now-holds-requires-clause-mark_bytes c =
    let marked : Written (2 ^ c.args.m) (λ i. mark_of (get_or c.args.soft.now i (pos 0))) c.args.marks.now
    c.mark_all.new.marks = record { is = rw c.power_of_two-n.ensures at c.mark_all.ensures } in
    mark-bytes-first c.args.m _ c.power_of_two-n.ensures
    (mark-bytes (λ i. get_or c.args.soft.now i (pos 0)) marked c.requires.m_in_bounds.1)

pub returns : goal.returns
returns c =
    let marked : Written (2 ^ c.args.m) (λ i. mark_of (get_or c.args.soft.now i (pos 0))) c.args.marks.now
    c.mark_all.new.marks = record { is = rw c.power_of_two-n.ensures at c.mark_all.ensures } in
    record {
      marks-are = marked.is;
      memory-is =
          c.next-next.ensures
          ∙ memory-next-first c.args.m _ c.power_of_two-n.ensures c.args.mask.now c.args.criterion c.args.memory
          c.args.marks.now c.args.coded.now c.args.soft.now;
      holds-is =
          c.holds_now-holds.ensures
          ∙ holds-now-first c.args.m _ c.power_of_two-n.ensures c.args.mask.now c.args.criterion c.next-next.result
          c.mark_all.new.marks c.args.coded.now c.args.soft.now (λ i. mark_of (get_or c.args.soft.now i (pos 0)))
          (λ i l. written_at marked i 0 l c.requires.m_in_bounds.1);
    }
