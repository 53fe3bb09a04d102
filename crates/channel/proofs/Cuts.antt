-- A value clamped to the ceiling on both sides: its whole number is the quantised value.
use Prim.Native.Nat.{ℕ, ◌+◌, ◌*◌, ◌≤◌, ◌<◌}
use mathlib.Core.Path.{◌≡◌, refl, sym, ap, ◌∙◌}
use mathlib.Core.Bool.{Bool, true, false, not, cond, true≢false}
use native.Mathlib.Nat.{mul-one, mul-pos, mul-le-mul_right, le_of_mul-le-mul_right}
use native.Mathlib.Omega.{arith}
use Rattle.std.specs.Float.{float_clamp}
use lib.Dec.{T, leb, ltb, le→leb}
use lib.IntN.{ℤ, pos}
use lib.Ieee.{Float, nan, inf, fin, binary32, up, down, is_nan, lt, le, neg, of_int}
use lib.Ieee.Back.{round_whole}
use lib.Ieee.Exact.{HasValue}
use lib.Ieee.Fits.{down_pos}
use Rattle.std.proofs.lemmas.Float.{T_from_true, le_of_lt}
use borrow.Author.Tests.{lt-ltb, ltb-true, ltb-false, le-leb, leb-true}
use Rattle.calls.specs.Bounds.{largest_ceiling}
use Rattle.calls.specs.Signs.{flipped}
use Rattle.channel.specs.Front.{nearest, quantised}
use Rattle.channel.specs.FrontLaws.{nearest-whole}
use Rattle.channel.specs.Private.{is_within, whole_of}

top-value : (C : ℕ) → C ≤ largest_ceiling → HasValue (of_int binary32 (pos C)) false C 1
unfolding of_int
top-value C h = round_whole binary32 false C (omega arith)

-- what the clamped value is to be
abbrev pub CutWell : ℕ → Float → Float → Type 0
CutWell C x y = T (is_within largest_ceiling y) × (whole_of y ≡ quantised C x)

-- the top, n * 2 ^ d, is C
module _ (C n : ℕ) (d : ℤ) (high : C ≤ largest_ceiling) (v : n * up d ≡ C * down d) where
  top-well : (s : Bool) → T (is_within largest_ceiling (fin s n d)) × (whole_of (fin s n d) ≡ flipped s (pos C))
  unfolding is_within whole_of
  top-well s = (
    rw v (le→leb (C * down d) (largest_ceiling * down d) (mul-le-mul_right (down d) high)),
    ap (λ (k : ℕ). flipped s (pos k)) (rw v (nearest-whole C (down d) (down_pos d))),
  )

  -- by the sizes, with the sign s
  module _ (s : Bool) (m : ℕ) (e : ℤ) where
    -- the quantised value, by whether its size reaches the ceiling
    abbrev by-reach : Bool → ℤ
    by-reach b = flipped s (pos (cond b C (nearest (m * up e) (down e))))

    no_less : n * up d * down e ≤ m * up e * down d → C * down e ≤ m * up e
    no_less h =
        let k : C * down d * down e ≤ m * up e * down d = rw v at h in
        let g : C * down e * down d ≤ m * up e * down d = omega arith in
        le_of_mul-le-mul_right g (down_pos d)

    no_more : m * up e * down d ≤ n * up d * down e → m * up e ≤ C * down e
    no_more h =
        let k : m * up e * down d ≤ C * down d * down e = rw v at h in
        let g : m * up e * down d ≤ C * down e * down d = omega arith in
        le_of_mul-le-mul_right g (down_pos d)

    kept : (b : Bool) → leb (C * down e) (m * up e) ≡ b → m * up e ≤ C * down e → whole_of (fin s m e) ≡ by-reach b
    unfolding whole_of
    kept true q l =
        let k : C * down e ≤ m * up e = leb-true (C * down e) (m * up e) q in
        let same : m * up e ≡ C * down e = omega arith in
        ap (λ (t : ℕ). flipped s (pos t)) (rw same (nearest-whole C (down e) (down_pos e)))
    kept false q l = refl

    cut_to_top : n * up d * down e ≤ m * up e * down d → CutWell C (fin s m e) (fin s n d)
    unfolding is_within whole_of quantised
    cut_to_top h = (
      (top-well s).0,
      (top-well s).1 ∙ ap by-reach (sym (le-leb (C * down e) (m * up e) (no_less h))),
    )

    sizes : (b : Bool) → ltb (n * up d * down e) (m * up e * down d) ≡ b
        → CutWell C (fin s m e) (cond b (fin s n d) (fin s m e))
    unfolding is_within whole_of quantised
    sizes true q = cut_to_top (omega (arith, ltb-true (n * up d * down e) (m * up e * down d) q))
    sizes false q =
        let l : m * up e ≤ C * down e = no_more (ltb-false (n * up d * down e) (m * up e * down d) q) in
        let k : C * down e ≤ largest_ceiling * down e = mul-le-mul_right (down e) high in
        (le→leb (m * up e) (largest_ceiling * down e) (omega arith), kept (leb (C * down e) (m * up e)) refl l)

  cut-well : (x : Float) → T (not (is_nan x)) → CutWell C x (float_clamp x (fin true n d) (fin false n d))
  unfolding is_nan lt quantised
  cut-well nan h = absurd h
  cut-well (inf true) h = top-well true
  cut-well (inf false) h = top-well false
  cut-well (fin false m e) h = sizes false m e (ltb (n * up d * down e) (m * up e * down d)) refl
  cut-well (fin true m e) h = sizes true m e (ltb (n * up d * down e) (m * up e * down d)) refl

  -- what is not above the lower end is cut to it: so the cut may be written with a comparison, as some programs of
  -- must-fail do
  lower-well : (x : Float) → T (not (is_nan x)) → 1 ≤ C → lt (fin true n d) x ≡ false → CutWell C x (fin true n d)
  unfolding is_nan lt quantised
  lower-well nan h low k = absurd h
  lower-well (inf true) h low k = top-well true
  lower-well (inf false) h low k = absurd (true≢false k)
  lower-well (fin false m e) h low k =
      let above : 0 < n * up d = rw v (mul-pos low (down_pos d)) in
      let sum = n * up d * down e + m * up e * down d in
      absurd (true≢false (sym (lt-ltb 0 sum (omega (arith, mul-pos above (down_pos e)))) ∙ k))
  lower-well (fin true m e) h low k = cut_to_top true m e (ltb-false (m * up e * down d) (n * up d * down e) k)

  -- below zero and above it
  in_order : 1 ≤ C → T (lt (fin true n d) (fin false n d))
  unfolding lt
  in_order low =
      let above : 0 < n * up d = rw v (mul-pos low (down_pos d)) in
      let sum = n * up d * down d + n * up d * down d in
      T_from_true _ (lt-ltb 0 sum (omega (arith, mul-pos above (down_pos d))))

-- so with the ceiling as a float
at-top : (C : ℕ) (x top : Float) → (1 ≤ C) × (C ≤ largest_ceiling) → T (not (is_nan x)) → HasValue top false C 1
    → T (le (neg top) top) × CutWell C x (float_clamp x (neg top) top)
    × (lt (neg top) x ≡ false → CutWell C x (neg top))
unfolding neg
at-top C x nan range h v = absurd v
at-top C x (inf s) range h v = absurd v
at-top C x (fin true n d) range h v = absurd (true≢false v.0)
at-top C x (fin false n d) range h v =
    let is : n * up d ≡ C * down d = sym (mul-one (n * up d)) ∙ v.1 in (
      le_of_lt (fin true n d) (fin false n d) (in_order C n d range.1 is range.0),
      cut-well C n d range.1 is x h,
      lower-well C n d range.1 is x h range.0,
    )

module _ (C : ℕ) (low : 1 ≤ C) (high : C ≤ largest_ceiling) where
  abbrev pub top : Float
  top = of_int binary32 (pos C)

  well : (x : Float) → T (not (is_nan x)) → T (le (neg top) top) × CutWell C x (float_clamp x (neg top) top)
      × (lt (neg top) x ≡ false → CutWell C x (neg top))
  well x h = at-top C x top (low, high) h (top-value C high)

  pub cut_ordered : T (le (neg top) top)
  unfolding is_nan
  cut_ordered = (well (fin false 0 (pos 0)) tt).0

  pub cut_within : (x : Float) → T (not (is_nan x)) → T (is_within largest_ceiling (float_clamp x (neg top) top))
  cut_within x h = (well x h).1.0

  pub cut_whole : (x : Float) → T (not (is_nan x)) → whole_of (float_clamp x (neg top) top) ≡ quantised C x
  cut_whole x h = (well x h).1.1

  pub lower_within : (x : Float) → T (not (is_nan x)) → lt (neg top) x ≡ false → T (is_within largest_ceiling (neg top))
  lower_within x h k = ((well x h).2 k).0

  pub lower_whole : (x : Float) → T (not (is_nan x)) → lt (neg top) x ≡ false → whole_of (neg top) ≡ quantised C x
  lower_whole x h k = ((well x h).2 k).1

pub ruleset cut_rules = (cut_ordered, cut_within, cut_whole, lower_within, lower_whole)
