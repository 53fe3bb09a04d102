-- `chunks::chunk` meets its contract: the first i of both eights are computed.
use Prim.Native.Nat.{◌<◌, ◌^◌}
use mathlib.Core.Path.{refl, ◌∙◌}
use native.Mathlib.Omega.{arith}
use Rattle.calls.proofs.Signed.{told}
use Rattle.sweeps.specs.Private.{new_at, new_run}
use Rattle.sweeps.proofs.Merged.{of-pairs, merged-new, xu-small, xl-small, yu-small, yl-small, pair-upper, pair-lower}
use Rattle.sweeps.proofs.Parts.{array-none, array-next, array_at, overwrite_from-same}
use Rattle.sweeps.proofs.chunks.chunk.Goals as goal

pub loop-i-init : goal.loop-i-init
loop-i-init g c = (
  record {
    ready = c.requires.readable_run;
    x-upper = rw c.power_of_two-d.ensures at c.gather-x_upper.ensures;
    x-lower = rw c.power_of_two-d.ensures at c.gather-x_lower.ensures;
    y-upper = rw c.power_of_two-d.ensures at c.gather-y_upper.ensures;
    y-lower = rw c.power_of_two-d.ensures at c.gather-y_lower.ensures;
  },
  array-none refl,
  array-none refl,
)

pub upper_of-requires-clause-within : goal.upper_of-requires-clause-within
upper_of-requires-clause-within g c =
    let h = c.loop-i.invariant.0 in
    let i = c.loop-i.i in
    let l : i < 8 = omega arith in (xu-small h i l, xl-small h i l, yl-small h i l)

pub lower_of-requires-clause-within : goal.lower_of-requires-clause-within
lower_of-requires-clause-within g c =
    let h = c.loop-i.invariant.0 in
    let i = c.loop-i.i in
    let l : i < 8 = omega arith in (xl-small h i l, xu-small h i l, yu-small h i l)

pub loop-i-preserved : goal.loop-i-preserved
loop-i-preserved g c =
    let h = c.loop-i.invariant in
    let i = c.loop-i.i in
    let l : i < 8 = omega arith in (
      h.0,
      array-next h.1 l (told c.upper_of.type_inv c.upper_of.ensures ∙ pair-upper h.0 i l),
      array-next h.2 l (told c.lower_of.type_inv c.lower_of.ensures ∙ pair-lower h.0 i l),
    )

pub returns : goal.returns
unfolding new_run
returns g c =
    let h = c.loop-i.invariant in
    let a = c.args in
    let r = (c.requires.readable_run 0 (omega arith)).before in
    c.put_merged.ensures
    ∙ overwrite_from-same a.to 16 _ (new_at a.rule (2 ^ g.row.T) a.x a.y a.work.now) a.work.now
    (merged-new a.rule g.row.T a.x a.y a.work.now c.loop-i.upper c.loop-i.lower
    (of-pairs g.row.T c.requires.distance.0 c.requires.distance.1) r.0 r.1
    (array_at h.1 (omega arith)) (array_at h.2 (omega arith)))
