use Rattle.std.proofs.Common.{◌≡◌, ℕ, ℤ, true, length, get_or, take, length-take-le, arith, rules}
use Rattle.std.proofs.lemmas.Float.{T_from_true}
use lib.Ieee.{nan}
use Rattle.calls.specs.LentMemory.{overwrite}
use Rattle.channel.specs.Front.{all_finite, llr_of, front_number}
use Rattle.channel.proofs.Samples.{finite_firsts}
use Rattle.channel.proofs.Written.{first-written}
use Rattle.channel.proofs.front.Goals as goal

pub fill-requires-clause-finite : goal.fill-requires-clause-finite
fill-requires-clause-finite c =
    let n = c.in_ok-n.n in
    let firsts = finite_firsts n c.args.samples.now (omega arith) in
    T_from_true _ (rw (length-take-le n c.args.llr.now (omega arith)) (search rules))

pub returns-clause-llr_after : goal.returns-clause-llr_after
returns-clause-llr_after c =
    let a = c.args in
    let n = c.in_ok-n.n in
    let old = a.llr.now in
    let firsts = finite_firsts n a.samples.now (omega arith) in
    let finite : all_finite n a.samples.now ≡ true = search rules in
    let accepted : front_number a.m a.ceiling a.channel a.samples.now (length old) ≡ 0 = search rules in
    let new : ℕ → ℤ = λ i. llr_of a.ceiling a.channel (get_or a.samples.now i nan) in
    let filled : c.fill.new.llr ≡ overwrite (length (take n old)) new (take n old) = search rules in
    rw (accepted, ← c.in_ok-n.ensures.1, filled) (first-written n new old (omega arith))
