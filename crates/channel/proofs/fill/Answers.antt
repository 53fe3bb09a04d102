use Rattle.std.proofs.Common.{◌≡◌, ◌∙◌, sym, ◌≤◌, pos, nat_abs, T, false, length, get_or, arith, rules}
use lib.Ieee.{nan, fin}
use mir.Syntax.{w16}
use mir.Val.{to_z, of_z}
use mir.Facts.{to_z_pos}
use Rattle.calls.specs.Bounds.{largest_ceiling}
use Rattle.channel.specs.Front.{is_above_zero, llr_of}
use Rattle.channel.specs.FrontLaws.{quantised-bound}
use Rattle.channel.specs.Private.{by_sign}
use Rattle.channel.proofs.Samples.{sample-finite, product-number, above-zero-number}
use Rattle.channel.proofs.Signs.{sign-last, ceiling-kept}
use Rattle.channel.proofs.Written.{each-written}
use Rattle.channel.proofs.fill.Goals as goal

pub fill_each-requires : goal.fill_each-requires
fill_each-requires c i l =
    let x = get_or c.args.samples.now i nan in
    let finite = sample-finite (length c.args.llr.now) i c.args.samples.now l c.requires.finite in
    let usable : T (is_above_zero c.in-Gaussian.factor) = search rules in
    let number = product-number x c.in-Gaussian.factor finite usable in
    search rules

pub quantise-size-requires : goal.quantise-size-requires
quantise-size-requires c =
    let usable : T (is_above_zero c.in-Flipping.weight) = search rules in
    above-zero-number c.in-Flipping.weight usable

pub fill_each-requires-in-Flipping : goal.fill_each-requires-in-Flipping
fill_each-requires-in-Flipping c i l =
    let held : to_z w16 (of_z w16 c.quantise-size.result) ≡ c.quantise-size.result = search rules in
    let size : nat_abs c.quantise-size.result ≤ largest_ceiling =
    rw c.quantise-size.ensures
    (omega (arith, quantised-bound c.args.ceiling.value c.in-Flipping.weight, c.args.ceiling.in_range.1))
    in
    search rules

pub returns-in-Gaussian : goal.returns-in-Gaussian
returns-in-Gaussian c =
    let a = c.args in
    each-written (λ i. llr_of a.ceiling.value a.channel (get_or a.samples.now i nan)) a.llr.now _ c.fill_each.auto.llr
    (λ i l. let called = c.fill_each.ensures i l in search rules)

pub returns-in-Flipping : goal.returns-in-Flipping
returns-in-Flipping c =
    let a = c.args in
    let size = to_z w16 (of_z w16 c.quantise-size.result) in
    let held : size ≡ c.quantise-size.result = search rules in
    each-written (λ i. llr_of a.ceiling.value a.channel (get_or a.samples.now i nan)) a.llr.now _
    c.fill_each-in-Flipping.auto.llr
    (λ i l.
    let x = get_or a.samples.now i nan in
    let called = c.fill_each-in-Flipping.ensures i l in
    let signed : get_or c.fill_each-in-Flipping.new.llr i (pos 0) ≡ by_sign x size = search rules in
    rw c.in-Flipping.is
    (signed ∙ sign-last a.ceiling.value x c.in-Flipping.weight _ (held ∙ c.quantise-size.ensures)))

pub returns-in-Erasing : goal.returns-in-Erasing
returns-in-Erasing c =
    let a = c.args in
    let C = a.ceiling.value in
    let held : to_z w16 C ≡ pos C = to_z_pos w16 (omega (arith, a.ceiling.in_range.1)) in
    each-written (λ i. llr_of C a.channel (get_or a.samples.now i nan)) a.llr.now _ c.fill_each-in-Erasing.auto.llr
    (λ i l.
    let x = get_or a.samples.now i nan in
    let called = c.fill_each-in-Erasing.ensures i l in
    let signed : get_or c.fill_each-in-Erasing.new.llr i (pos 0) ≡ by_sign x (to_z w16 C) = search rules in
    rw c.in-Erasing.is
    (signed ∙ sign-last C x (fin false C (pos 0)) _ (held ∙ sym (ceiling-kept C))))
