-- Laws of the cut to -4096..4096, for every float: it goes by sign and size; a negated value cut is the cut value
-- negated; an infinity becomes 4096 with its sign; a float of the format stays one; by itself the cut changes no LLR.
use Rattle.std.specs.Prelude.{ℕ, ◌*◌, ◌≤◌, ◌<◌, ◌≡◌, refl, Bool, true, false, not, cond, pos, T, ltb, Float}
use Rattle.std.proofs.Common.{sym, ap, ◌∙◌, mul-one, mul-le-mul_right, arith, ltb-true, le-leb}
use Rattle.std.specs.Float.{nan, inf, fin, binary32}
use Rattle.std.specs.Float.Ieee.{up, down, neg, lt, fits}
use Rattle.std.specs.Float.Ieee.Fits.{cond-fits}
use Rattle.calls.specs.Bounds.{largest_ceiling}
use Rattle.calls.specs.Signs.{flipped}
use Rattle.channel.specs.Front.{nearest, rounded_size, quantised}
use Rattle.antennas.specs.FrontTwo.{largest_product, cut_to}

-- ---- the cut by sign and size

abbrev pub largest : Bool → Float
largest s = fin s 1 (pos 12)

unfoldable pub cut_size : Float → Float
cut_size nan = nan
cut_size (inf s) = largest s
cut_size (fin s m e) = cond (ltb (4096 * down e) (m * up e)) (largest s) (fin s m e)

pub cut-is : (x : Float) → cut_to largest_product x ≡ cut_size x
unfolding lt neg cut_size
cut-is nan = refl
cut-is (inf true) = refl
cut-is (inf false) = refl
cut-is (fin true m e) = rw (mul-one (m * up e))
cut-is (fin false m e) = rw (mul-one (m * up e)) (by-test (ltb (4096 * down e) (m * up e)))
  where
    by-test : (b : Bool) → let most = cond b (largest false) (fin false m e) in
        cond (lt most (largest true)) (largest true) most ≡ most
    by-test true = refl
    by-test false = refl

-- ---- a value negated

cond-neg : (b : Bool) (x y : Float) → cond b (neg x) (neg y) ≡ neg (cond b x y)
cond-neg true x y = refl
cond-neg false x y = refl

size-neg : (x : Float) → cut_size (neg x) ≡ neg (cut_size x)
unfolding cut_size neg
size-neg nan = refl
size-neg (inf s) = refl
size-neg (fin s m e) = cond-neg (ltb (4096 * down e) (m * up e)) (largest s) (fin s m e)

pub cut-neg : (x : Float) → cut_to largest_product (neg x) ≡ neg (cut_to largest_product x)
cut-neg x = cut-is (neg x) ∙ size-neg x ∙ ap neg (sym (cut-is x))

-- ---- an infinity

pub cut-infinite : (s : Bool) → cut_to largest_product (inf s) ≡ largest s
unfolding lt neg
cut-infinite true = refl
cut-infinite false = refl

pub largest-opposite : (s : Bool) → largest s ≡ neg (largest (not s))
unfolding neg
largest-opposite true = refl
largest-opposite false = refl

-- ---- by itself the cut changes no LLR: 4096 is above every ceiling

at-ceiling : (C n d : ℕ) → C * d ≤ n → rounded_size C n d ≡ C
at-ceiling C n d h = ap (λ (t : Bool). cond t C (nearest n d)) (le-leb (C * d) n h)

pub quantised-cut : (C : ℕ) (x : Float) → C ≤ largest_ceiling → quantised C (cut_size x) ≡ quantised C x
unfolding quantised cut_size
quantised-cut C nan h = refl
quantised-cut C (inf s) h = ap (λ (n : ℕ). flipped s (pos n)) (at-ceiling C 4096 1 (omega arith))
quantised-cut C (fin s m e) h = by-test (ltb (4096 * down e) (m * up e)) refl
  where
    over : 4096 * down e < m * up e → C * down e ≤ m * up e
    over l = let k : C ≤ 4096 = omega arith in omega (arith, mul-le-mul_right (down e) k)

    by-test : (b : Bool) → ltb (4096 * down e) (m * up e) ≡ b
        → quantised C (cond b (largest s) (fin s m e)) ≡ flipped s (pos (rounded_size C (m * up e) (down e)))
    by-test false q = refl
    by-test true q =
        ap (λ (n : ℕ). flipped s (pos n))
        (at-ceiling C 4096 1 (omega arith)
        ∙ sym (at-ceiling C (m * up e) (down e) (over (ltb-true (4096 * down e) (m * up e) q))))

largest-fits : (s : Bool) → T (fits binary32 (largest s))
unfolding fits
largest-fits s = tt

pub cut_fits : (x : Float) → T (fits binary32 x) → T (fits binary32 (cut_size x))
unfolding cut_size
cut_fits nan h = h
cut_fits (inf s) h = largest-fits s
cut_fits (fin s m e) h =
    cond-fits binary32 (ltb (4096 * down e) (m * up e)) (largest s) (fin s m e) (largest-fits s) h
