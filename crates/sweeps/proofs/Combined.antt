-- Both formulas of a position by one f: an upper position adds 0 to its f, a lower one its own message.
use Prim.Native.Nat.{ℕ, zero, suc, ◌≤◌}
use mathlib.Core.Path.{◌≡◌, sym, ap, ◌∙◌}
use native.Mathlib.Omega.{arith}
use mathlib.Core.Bool.{Bool, true, false, cond}
use lib.IntN.{ℤ, pos, negsuc, nat_abs, ◌+ℤ◌}
use Rattle.message.specs.declared.MinSum.{MinSum}
use Rattle.message.specs.Message.{add, f}
use Rattle.message.specs.MessageLaws.{add-zero, f-zero, f-sum}

pub picked-size : (b : Bool) (x y : ℤ) {n : ℕ} → nat_abs x ≤ n → nat_abs y ≤ n → nat_abs (cond b x y) ≤ n
picked-size true x y h k = h
picked-size false x y h k = k

-- part is that f
pub combined : (rule : MinSum) (b : Bool) (own sum x y part : ℤ) → part ≡ f rule (cond b own x) (cond b sum y)
    → nat_abs part ≤ rule.ceiling
    → add rule part (cond b (pos 0) own) ≡ cond b (f rule own sum) (add rule (f rule x y) own)
combined rule true own sum x y part e small = add-zero rule part small ∙ e
combined rule false own sum x y part e small = ap (λ (z : ℤ). add rule z own) e

-- of a message and a sum, whose cut changes nothing; where the ceiling is 0, so is the message
pub f-of-sum : (rule : MinSum) (a x y : ℤ) → nat_abs a ≤ rule.ceiling → f rule a (add rule x y) ≡ f rule a (x +ℤ y)
f-of-sum rule (pos zero) x y h = f-zero rule (add rule x y) ∙ sym (f-zero rule (x +ℤ y))
f-of-sum rule (pos (suc n)) x y h = f-sum rule (pos (suc n)) x y (omega arith) h
f-of-sum rule (negsuc n) x y h = f-sum rule (negsuc n) x y (omega arith) h
