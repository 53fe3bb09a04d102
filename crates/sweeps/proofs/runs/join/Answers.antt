-- `runs::join` meets its contract: the first i of both runs are computed.
use Prim.Native.Nat.{◌+◌}
use mathlib.Core.Path.{ap, ◌∙◌}
use native.Mathlib.Omega.{arith}
use Rattle.calls.specs.LentMemory.{overwrite_from}
use Rattle.calls.proofs.Signed.{told}
use Rattle.sweeps.specs.Private.{upper_at, lower_at, pair_runs}
use Rattle.sweeps.proofs.Parts.{array-next, array_at, overwrite_from-same}
use Rattle.sweeps.proofs.runs.join.Goals as goal

pub loop-i-preserved : goal.loop-i-preserved
loop-i-preserved g c =
    let h = c.loop-i.invariant in (
      array-next h.0 (omega arith) (told c.upper_message.type_inv c.upper_message.ensures),
      array-next h.1 (omega arith) (told c.lower_message.type_inv c.lower_message.ensures),
    )

pub returns : goal.returns
unfolding pair_runs
returns g c =
    let a = c.args in
    let w = a.work.now in
    let h = c.loop-i.invariant in
    let W = g.row.W in
    let first =
    c.put.ensures
    ∙ overwrite_from-same a.to W _ (upper_at a.rule a.d a.x a.y w) w (array_at h.0 (omega arith))
    in
    c.put-2.ensures
    ∙ overwrite_from-same (a.to + a.d) W _ (lower_at a.rule a.d a.x a.y w) _ (array_at h.1 (omega arith))
    ∙ ap (overwrite_from (a.to + a.d) W (lower_at a.rule a.d a.x a.y w)) first
