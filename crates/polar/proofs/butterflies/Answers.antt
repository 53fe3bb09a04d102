-- `butterflies` meets its contract: the first p positions, whole runs of d, are as the step makes them.
use Rattle.std.proofs.Common.{◌≡◌, ◌≤◌, ◌+◌, ◌^◌, arith, rules, bit_and}
use Rattle.polar.specs.DigitLaws.{mask-clear, mask-set, run_fits}
use Rattle.polar.proofs.Parts.{part-length}
use Rattle.polar.proofs.Steps.{Stepped, pair-fits, stepped-upper, stepped-lower}
use Rattle.polar.proofs.butterflies.Goals as goal
use Rattle.polar.proofs.butterflies.Goals.{Joined-p-d-eq0, else-p-d-eq0, then-p-d-eq0}

pub join-requires : goal.join-requires
join-requires c =
    let h = c.loop-p.invariant in
    let clear : bit_and c.loop-p.p c.power_of_two-d.result ≡ 0 = search rules in
    let fits = pair-fits h.3 c.args.m c.requires.m_le_largest_m.1 (omega arith) c.requires.bits _ h.1 clear in
    omega (arith, part-length c.loop-p.p c.loop-p.block, fits)

stepped : (c : Joined-p-d-eq0)
    → Stepped c.args.t (c.loop-p.p + c.power_of_two-d.result) c.args.block.now c.if-p-d-eq0.block
stepped c =
    let h = c.loop-p.invariant in
    elim c.if-p-d-eq0.branch [
      | then-p-d-eq0 w ↦ rw w.block-is
          (stepped-upper h.3 c.args.m c.requires.m_le_largest_m.1 (omega arith) c.requires.bits
          (mask-clear _ _ _ h.1 w.if-p-d-eq0.true) _ _ h.1 w.join.ensures)
      | else-p-d-eq0 w ↦ rw w.block-is
          (stepped-lower h.3 c.args.m c.requires.m_le_largest_m.1 (omega arith) c.requires.bits
          (mask-set _ _ _ h.1 w.if-p-d-eq0.false) _ h.1)
    ]

run-fits : (c : Joined-p-d-eq0) → c.loop-p.p + 2 ^ c.args.t ≤ 2 ^ c.args.m
run-fits c = run_fits _ _ c.loop-p.invariant.3.runs _ c.requires.m_le_largest_m.1 (omega arith)

pub loop-p-preserved : goal.loop-p-preserved
loop-p-preserved c =
    let j = (goal.at.loop-p-preserved c).Joined-p-d-eq0 in
    let h = c.loop-p.invariant in
    (h.0, h.1, omega (arith, run-fits j), stepped j)

pub returns-after-p-d-eq0 : goal.returns-after-p-d-eq0
returns-after-p-d-eq0 c =
    let j = (goal.at.returns-after-p-d-eq0 c).Joined-p-d-eq0 in
    let e : c.loop-p.p + c.power_of_two-d.result ≡ 2 ^ c.args.m = omega (arith, run-fits j) in
    rw e at (stepped j).is
