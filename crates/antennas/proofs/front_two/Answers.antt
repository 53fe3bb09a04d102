use Rattle.std.proofs.Common.{◌≡◌, ℕ, ◌<◌, ℤ, true, T, length, get_or, take, length-take-le, arith, rules}
use Rattle.std.proofs.lemmas.Float.{T_from_true}
use lib.Ieee.{nan}
use Rattle.calls.specs.LentMemory.{overwrite}
use Rattle.calls.specs.NumberLaws.{and-passed}
use Rattle.channel.specs.Front.{is_finite, all_finite}
use Rattle.channel.proofs.Samples.{sample-finite}
use Rattle.channel.proofs.Written.{first-written, each-written}
use Rattle.antennas.specs.FrontTwo.{branches, are_finite, llr_at, front_two_number}
use Rattle.antennas.proofs.Pairs.{pair_firsts}
use Rattle.antennas.proofs.front_two.Goals as goal

pub fill_each-requires : goal.fill_each-requires
fill_each-requires c i l =
    let a = c.args in
    let n = c.in_ok-n.n in
    let below : i < n = omega (arith, length-take-le n a.llr.now (omega arith)) in
    let firsts = pair_firsts n a.first.now a.second.now (omega arith) (omega arith) in
    let finite : are_finite n (branches a.first.now a.second.now) ≡ true = search rules in
    let each = and-passed (all_finite n a.first.now) (all_finite n a.second.now) finite in
    let x : T (is_finite (get_or a.first.now i nan)) = sample-finite n i a.first.now below (T_from_true _ each.0) in
    let y : T (is_finite (get_or a.second.now i nan)) = sample-finite n i a.second.now below (T_from_true _ each.1) in
    search rules

pub returns-then-not-both_finite : goal.returns-then-not-both_finite
returns-then-not-both_finite c =
    let firsts = pair_firsts c.in_ok-n.n c.args.first.now c.args.second.now (omega arith) (omega arith) in
    record { result_value = search rules; llr_after = search rules }

pub returns : goal.returns
returns c =
    let a = c.args in
    let n = c.in_ok-n.n in
    let old = a.llr.now in
    let samples = branches a.first.now a.second.now in
    let firsts = pair_firsts n a.first.now a.second.now (omega arith) (omega arith) in
    let finite : are_finite n samples ≡ true = search rules in
    let accepted : front_two_number a.m a.ceiling a.receiver samples (length old) ≡ 0 = search rules in
    let new : ℕ → ℤ = llr_at a.ceiling a.receiver samples in
    let filled : c.fill_each.new.llr ≡ overwrite (length (take n old)) new (take n old) =
    each-written new (take n old) c.fill_each.new.llr c.fill_each.auto.llr
    (λ i l. let called = c.fill_each.ensures i l in search rules) in
    record {
      result_value = search rules;
      llr_after = rw (accepted, ← c.in_ok-n.ensures.1, filled) (first-written n new old (omega arith));
    }
