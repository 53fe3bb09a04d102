use Prim.Native.Nat.{◌^◌}
use Rattle.sweeps.specs.Private.{upper_at, lower_at}
use Rattle.sweeps.proofs.Merged.{upper_of, GatheredPairs}
use Rattle.sweeps.proofs.Parts.{ArrayPart}
use Rattle.sweeps.proofs.chunks.chunk.Given as goal

abbrev pub invariant-loop-i : goal.invariant-loop-i
invariant-loop-i g l =
    GatheredPairs l.rule (2 ^ g.row.T) l.x l.y l.work l.x_upper l.x_lower l.y_upper l.y_lower
    × ArrayPart 8 l.i (λ j. upper_at l.rule (2 ^ g.row.T) l.x l.y l.work (upper_of (2 ^ g.row.T) j)) l.upper
    × ArrayPart 8 l.i (λ j. lower_at l.rule (2 ^ g.row.T) l.x l.y l.work (upper_of (2 ^ g.row.T) j)) l.lower
