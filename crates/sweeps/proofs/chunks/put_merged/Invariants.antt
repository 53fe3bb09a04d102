use Prim.Native.Nat.{◌^◌}
use Rattle.calls.specs.WrittenLaws.{Written}
use Rattle.sweeps.specs.Private.{merged_at}
use Rattle.sweeps.proofs.chunks.put_merged.Given as goal

abbrev pub invariant-loop-i : goal.invariant-loop-i
invariant-loop-i g l =
    Written l.i (merged_at (2 ^ g.row.T) l.upper l.lower) l.initial.message-items l.message-items
