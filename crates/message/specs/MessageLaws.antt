-- Laws of the message arithmetic, for every rule and every two numbers: sizes, orders, and how a turned sign comes out;
-- and f by the cases of document 01.
use Rattle.std.specs.Prelude.{ℕ, zero, suc, ◌-◌, ◌*◌, ◌/◌, ◌≤◌, min, ◌≡◌, refl, Bool, true, false, cond, ◌||◌, ℤ, pos}
use Rattle.std.specs.Prelude.{negsuc, neg_ℤ, nat_abs, ◌+ℤ◌, ◌*ℤ◌}
use Rattle.std.proofs.Common.{sym, ap, ap₂, ◌∙◌, le_refl, mul-le-mul, mul-zero, one-mul, arith}
use Rattle.std.proofs.Math.Nat.{min_comm}
use Rattle.std.proofs.Math.IntN.{neg_ℤ-neg_ℤ, neg_ℤ-+ℤ, +ℤ_comm, +ℤ_idr}
use Rattle.calls.specs.Signs.{is_negative, flipped}
use Rattle.calls.specs.Bits.{xor}
use Rattle.calls.specs.Bounds.{largest_scale}
use Rattle.calls.specs.BitLaws.{xor_comm}
use Rattle.calls.specs.SignLaws.{size-flipped, flipped-zero, flipped-xor}
use Rattle.message.specs.Message.{cut, add, f}
use Rattle.message.specs.declared.MinSum.{MinSum}

-- ---- the sum

cut_negated : (C : ℕ) (z : ℤ) → cut C (neg_ℤ z) ≡ neg_ℤ (cut C z)
cut_negated C (pos zero) = let none : min 0 C ≡ 0 = omega arith in simp none
cut_negated C (pos (suc n)) = refl
cut_negated C (negsuc n) = sym (neg_ℤ-neg_ℤ (pos (min (suc n) C)))

cut-within : (C : ℕ) (z : ℤ) → nat_abs z ≤ C → cut C z ≡ z
cut-within C (pos n) h = let all : min n C ≡ n = omega arith in ap pos all
cut-within C (negsuc n) h = let all : min (suc n) C ≡ suc n = omega arith in ap (λ (i : ℕ). neg_ℤ (pos i)) all

pub add-size : (rule : MinSum) (a b : ℤ) → nat_abs (add rule a b) ≤ rule.ceiling
unfolding add
add-size rule a b = simp size-flipped (omega arith)

pub add_comm : (rule : MinSum) (a b : ℤ) → add rule a b ≡ add rule b a
unfolding add
add_comm rule a b = ap (cut rule.ceiling) (+ℤ_comm a b)

pub add-zero : (rule : MinSum) (a : ℤ) → nat_abs a ≤ rule.ceiling → add rule a (pos 0) ≡ a
unfolding add
add-zero rule a h = ap (cut rule.ceiling) (+ℤ_idr a) ∙ cut-within rule.ceiling a h

-- the sign of both comes out of a sum
pub add-flipped : (rule : MinSum) (s : Bool) (a b : ℤ) → add rule (flipped s a) (flipped s b) ≡ flipped s (add rule a b)
unfolding add
add-flipped rule false a b = refl
add-flipped rule true a b = ap (cut rule.ceiling) (sym (neg_ℤ-+ℤ a b)) ∙ cut_negated rule.ceiling (a +ℤ b)

-- ---- f

-- the formula of f, of a scale k. The laws of f that follow are laws of it: each rests on the definition of f, and none
-- on another law of f
abbrev scaled_min : ℕ → ℤ → ℤ → ℤ
scaled_min k a b = flipped (xor (is_negative a) (is_negative b)) (pos (k * min (nat_abs a) (nat_abs b) / 16))

scaled-size : (k : ℕ) (a b : ℤ) → nat_abs (scaled_min k a b) ≡ k * min (nat_abs a) (nat_abs b) / 16
scaled-size k a b = simp size-flipped

scaled-size-min : (k : ℕ) (a b : ℤ) → k ≤ largest_scale → nat_abs (scaled_min k a b) ≤ min (nat_abs a) (nat_abs b)
scaled-size-min k a b h =
    let m = min (nat_abs a) (nat_abs b) in
    let product : k * m ≤ 16 * m = mul-le-mul h (le_refl m) in
    rw (scaled-size k a b) (omega arith)

scaled-comm : (k : ℕ) (a b : ℤ) → scaled_min k a b ≡ scaled_min k b a
scaled-comm k a b =
    ap₂ (λ (s : Bool) (n : ℕ). flipped s (pos (k * n / 16)))
    (xor_comm (is_negative a) (is_negative b))
    (min_comm (nat_abs a) (nat_abs b))

scaled-zero : (k : ℕ) (b : ℤ) → scaled_min k (pos 0) b ≡ pos 0
scaled-zero k b =
    let least : min 0 (nat_abs b) ≡ 0 = omega arith in
    let size : k * min 0 (nat_abs b) ≡ 0 = rw least (mul-zero k) in
    rw size (flipped-zero (is_negative b))

scaled-negated : (k : ℕ) (a b : ℤ) → scaled_min k (neg_ℤ a) b ≡ neg_ℤ (scaled_min k a b)
scaled-negated k (pos zero) b = scaled-zero k b ∙ ap neg_ℤ (sym (scaled-zero k b))
scaled-negated k (pos (suc n)) b = flipped-xor true (is_negative b) _
scaled-negated k (negsuc n) b = sym (neg_ℤ-neg_ℤ _) ∙ ap neg_ℤ (sym (flipped-xor true (is_negative b) _))

scaled-flipped-first : (k : ℕ) (s : Bool) (a b : ℤ) → scaled_min k (flipped s a) b ≡ flipped s (scaled_min k a b)
scaled-flipped-first k false a b = refl
scaled-flipped-first k true a b = scaled-negated k a b

scaled-flipped : (k : ℕ) (s t : Bool) (a b : ℤ)
    → scaled_min k (flipped s a) (flipped t b) ≡ flipped (xor s t) (scaled_min k a b)
scaled-flipped k s t a b =
    scaled-flipped-first k s a (flipped t b)
    ∙ ap (flipped s)
    (scaled-comm k a (flipped t b) ∙ scaled-flipped-first k t b a ∙ ap (flipped t) (scaled-comm k b a))
    ∙ sym (flipped-xor s t (scaled_min k a b))

pub f-size-is : (rule : MinSum) (a b : ℤ) → nat_abs (f rule a b) ≡ rule.scale * min (nat_abs a) (nat_abs b) / 16
unfolding f
f-size-is rule a b = scaled-size rule.scale a b

f-size-min : (rule : MinSum) (a b : ℤ) → rule.scale ≤ largest_scale → nat_abs (f rule a b) ≤ min (nat_abs a) (nat_abs b)
unfolding f
f-size-min rule a b h = scaled-size-min rule.scale a b h

pub f-size : (rule : MinSum) (a b : ℤ) → rule.scale ≤ largest_scale → nat_abs (f rule a b) ≤ nat_abs a
unfolding f
f-size rule a b h = omega (arith, scaled-size-min rule.scale a b h)

pub f-size-second : (rule : MinSum) (a b : ℤ) → rule.scale ≤ largest_scale → nat_abs (f rule a b) ≤ nat_abs b
unfolding f
f-size-second rule a b h = omega (arith, scaled-size-min rule.scale a b h)

pub f-comm : (rule : MinSum) (a b : ℤ) → f rule a b ≡ f rule b a
unfolding f
f-comm rule a b = scaled-comm rule.scale a b

-- of a 0 and any number
pub f-zero : (rule : MinSum) (b : ℤ) → f rule (pos 0) b ≡ pos 0
unfolding f
f-zero rule b = scaled-zero rule.scale b

f-negated : (rule : MinSum) (a b : ℤ) → f rule (neg_ℤ a) b ≡ neg_ℤ (f rule a b)
unfolding f
f-negated rule a b = scaled-negated rule.scale a b

f-flipped-first : (rule : MinSum) (s : Bool) (a b : ℤ) → f rule (flipped s a) b ≡ flipped s (f rule a b)
unfolding f
f-flipped-first rule s a b = scaled-flipped-first rule.scale s a b

-- the product of the signs comes out of f
pub f-flipped : (rule : MinSum) (s t : Bool) (a b : ℤ)
    → f rule (flipped s a) (flipped t b) ≡ flipped (xor s t) (f rule a b)
unfolding f
f-flipped rule s t a b = scaled-flipped rule.scale s t a b

-- of a message and a sum: the message lies within the ceiling and f takes the smaller size, so that the cut of the sum
-- changes nothing
f-cut : (rule : MinSum) (a z : ℤ) → 1 ≤ rule.ceiling → nat_abs a ≤ rule.ceiling
    → f rule a (cut rule.ceiling z) ≡ f rule a z
unfolding f
f-cut rule a (pos n) some h =
    let same : min (nat_abs a) (min n rule.ceiling) ≡ min (nat_abs a) n = omega arith in
    rw same
f-cut rule a (negsuc n) some h =
    let k : ℕ = min n (rule.ceiling - 1) in
    let size : min (suc n) rule.ceiling ≡ suc k = omega arith in
    let same : min (nat_abs a) (suc k) ≡ min (nat_abs a) (suc n) = omega arith in
    rw (size, same)

pub f-sum : (rule : MinSum) (a x y : ℤ) → 1 ≤ rule.ceiling → nat_abs a ≤ rule.ceiling
    → f rule a (add rule x y) ≡ f rule a (x +ℤ y)
unfolding add
f-sum rule a x y some h = f-cut rule a (x +ℤ y) some h

-- ---- document 01's cases

abbrev pub is_zero : ℤ → Bool
is_zero (pos zero) = true
is_zero (pos (suc n)) = false
is_zero (negsuc n) = false

abbrev pub sign_of : ℤ → ℤ
sign_of (pos zero) = pos 0
sign_of (pos (suc n)) = pos 1
sign_of (negsuc n) = negsuc 0

-- 0 if either is 0; else the size is k times the smaller size, divided by 16 and cut down, and the sign is the product
-- of the signs
abbrev pub f_by_cases : MinSum → ℤ → ℤ → ℤ
f_by_cases rule a b =
    cond (is_zero a || is_zero b)
    (pos 0)
    ((sign_of a *ℤ sign_of b) *ℤ pos (rule.scale * min (nat_abs a) (nat_abs b) / 16))

pub f-cases : (rule : MinSum) (a b : ℤ) → f rule a b ≡ f_by_cases rule a b
unfolding f
f-cases rule (pos zero) b = scaled-zero rule.scale b
f-cases rule (pos (suc n)) (pos zero) =
    scaled-comm rule.scale (pos (suc n)) (pos 0) ∙ scaled-zero rule.scale (pos (suc n))
f-cases rule (pos (suc n)) (pos (suc m)) = ap pos (sym (one-mul _))
f-cases rule (pos (suc n)) (negsuc m) =
    ap (λ (i : ℕ). neg_ℤ (pos i)) (sym (one-mul (rule.scale * min (suc n) (suc m) / 16)))
f-cases rule (negsuc n) (pos zero) = scaled-comm rule.scale (negsuc n) (pos 0) ∙ scaled-zero rule.scale (negsuc n)
f-cases rule (negsuc n) (pos (suc m)) =
    ap (λ (i : ℕ). neg_ℤ (pos i)) (sym (one-mul (rule.scale * min (suc n) (suc m) / 16)))
f-cases rule (negsuc n) (negsuc m) = ap pos (sym (one-mul _))
