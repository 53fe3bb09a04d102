-- A size with a sample's sign may be brought to a whole number before the sign is given to it.
use Prim.Native.Nat.{ℕ, zero, suc, ◌*◌}
use mathlib.Core.Path.{◌≡◌, refl, sym, ap, ◌∙◌}
use mathlib.Core.Bool.{Bool, true, false, cond}
use native.Mathlib.Nat.{le_refl}
use lib.IntN.{ℤ, pos, neg_ℤ}
use lib.Ieee.{Float, nan, inf, fin, neg}
use borrow.Author.Tests.{le-leb}
use Rattle.channel.specs.Front.{with_sample_sign, nearest, quantised}
use Rattle.channel.specs.FrontLaws.{rounded-zero, quantised-odd}
use Rattle.channel.specs.Private.{by_sign}

either : (C : ℕ) (s : Bool) (size : Float)
    → quantised C (cond s (neg size) size) ≡ cond s (neg_ℤ (quantised C size)) (quantised C size)
either C true size = quantised-odd C size
either C false size = refl

of-sign : (C : ℕ) (x size : Float) → by_sign x (quantised C size) ≡ quantised C (with_sample_sign x size)
unfolding with_sample_sign by_sign quantised
of-sign C nan size = refl
of-sign C (inf s) size = sym (either C s size)
of-sign C (fin s zero e) size = sym (ap pos (rounded-zero C))
of-sign C (fin s (suc m) e) size = sym (either C s size)

pub sign-last : (C : ℕ) (x size : Float) (z : ℤ) → z ≡ quantised C size
    → by_sign x z ≡ quantised C (with_sample_sign x size)
sign-last C x size z e = ap (by_sign x) e ∙ of-sign C x size

pub ceiling-kept : (C : ℕ) → quantised C (fin false C (pos 0)) ≡ pos C
unfolding quantised
ceiling-kept C = ap (λ (t : Bool). pos (cond t C (nearest (C * 1) 1))) (le-leb (C * 1) (C * 1) (le_refl (C * 1)))
