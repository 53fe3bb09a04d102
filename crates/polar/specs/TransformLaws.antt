-- Laws of the transform, over m: the columns end in the closed form, coding twice gives back what was coded, coding is
-- linear. All go by halves: the even positions of a block of 2 ^ (m + 1), and its odd ones, are blocks of 2 ^ m.
use Rattle.std.specs.Prelude.{ℕ, zero, suc, ◌+◌, ◌-◌, ◌*◌, ◌/◌, ◌%◌, ◌^◌, ◌≤◌, ◌<◌, ◌≡◌, refl, Bool, true, false, ◌&&◌}
use Rattle.std.specs.Prelude.{eqb}
use Rattle.std.proofs.Common.{sym, ap, ap₂, ◌∙◌, subst, pow-suc, one-add, arith, shr-shr, eq-eqb, ne_eqb, eqb-true}
use Rattle.std.proofs.Math.Path.{fun_ext}
use Rattle.std.proofs.Math.Arith.{lt-one}
use Rattle.std.specs.Int.Bits.{bit_and}
use Rattle.std.proofs.lemmas.Nat.{and_block}
use Rattle.std.proofs.lemmas.Bool.{eqb-false}
use Rattle.calls.specs.Bits.{xor}
use Rattle.polar.specs.Code.{parity, includes, coded}
use Rattle.polar.specs.Columns.{digit, column_step, column}
use Rattle.calls.specs.BitLaws.{xor-cancel, and_xor}
use Rattle.polar.specs.ParityLaws.{parity-same, parity-none, parity-xor, parity-halves}

-- the even positions (r = 0) or the odd ones (r = 1)
abbrev half : ℕ → (ℕ → Bool) → ℕ → Bool
half r u j = u (j * 2 + r)

by-halves : (P : ℕ → Type 0) → ((q : ℕ) → P (q * 2 + 0)) → ((q : ℕ) → P (q * 2 + 1)) → (i : ℕ) → P i
by-halves P even odd i = go (i % 2) refl
  where
    go : (r : ℕ) → i % 2 ≡ r → P i
    go zero e = subst P (omega arith) (even (i / 2))
    go (suc r) e = subst P (omega arith) (odd (i / 2))

-- ---- the closed form by halves

eqb-double : (a b r : ℕ) → eqb (a * 2 + r) (b * 2 + r) ≡ eqb a b
eqb-double a b r = go (eqb a b) refl
  where
    go : (t : Bool) → eqb a b ≡ t → eqb (a * 2 + r) (b * 2 + r) ≡ t
    go true p = eq-eqb (a * 2 + r) (b * 2 + r) (ap (λ (x : ℕ). x * 2 + r) (eqb-true a b p))
    go false p = ne_eqb (a * 2 + r) (b * 2 + r) (λ z. eqb-false a b p (omega arith))

includes-kept : (q j r s : ℕ) → r < 2 → s < 2 → bit_and r s ≡ r → includes (q * 2 + r) (j * 2 + s) ≡ includes q j
includes-kept q j r s hr hs e = rw (and_block 1 q j r s hr hs, e) (eqb-double (bit_and q j) q r)

includes-lost : (q j : ℕ) → includes (q * 2 + 1) (j * 2 + 0) ≡ false
includes-lost q j =
    rw (and_block 1 q j 1 0 (omega arith) (omega arith)) (ne_eqb (bit_and q j * 2 + 0) (q * 2 + 1) (λ z. omega arith))

module _ (m : ℕ) (u : ℕ → Bool) (q : ℕ) where
  -- coded bit i of 2 ^ (m + 1), by the even and the odd positions of u
  halved : (i : ℕ) → coded (suc m) u i
      ≡ xor (parity (2 ^ m) (λ j. includes i (j * 2 + 0) && u (j * 2 + 0)))
      (parity (2 ^ m) (λ j. includes i (j * 2 + 1) && u (j * 2 + 1)))
  halved i = rw pow-suc (parity-halves (2 ^ m) (λ j. includes i j && u j))

  kept : (r s : ℕ) → r < 2 → s < 2 → bit_and r s ≡ r
      → parity (2 ^ m) (λ j. includes (q * 2 + r) (j * 2 + s) && u (j * 2 + s)) ≡ coded m (half s u) q
  kept r s hr hs e =
      parity-same (2 ^ m) _ _ (λ j l. ap (λ (a : Bool). a && u (j * 2 + s)) (includes-kept q j r s hr hs e))

  coded-even : coded (suc m) u (q * 2 + 0) ≡ xor (coded m (half 0 u) q) (coded m (half 1 u) q)
  coded-even =
      halved (q * 2 + 0)
      ∙ ap₂ xor (kept 0 0 (omega arith) (omega arith) refl) (kept 0 1 (omega arith) (omega arith) refl)

  coded-odd : coded (suc m) u (q * 2 + 1) ≡ coded m (half 1 u) q
  coded-odd =
      halved (q * 2 + 1)
      ∙ ap₂ xor
      (parity-same (2 ^ m) _ (λ j. false) (λ j l. ap (λ (a : Bool). a && u (j * 2 + 0)) (includes-lost q j))
      ∙ parity-none (2 ^ m))
      (kept 1 1 (omega arith) (omega arith) refl)

-- ---- linear, and of the first 2 ^ m bits alone

pub coded-xor : (m i : ℕ) (u v : ℕ → Bool) → coded m (λ j. xor (u j) (v j)) i ≡ xor (coded m u i) (coded m v i)
coded-xor m i u v =
    parity-same (2 ^ m) _ _ (λ j l. and_xor (includes i j) (u j) (v j))
    ∙ parity-xor (2 ^ m) (λ j. includes i j && u j) (λ j. includes i j && v j)

pub coded-same : (m i : ℕ) (u v : ℕ → Bool) → ((j : ℕ) → j < 2 ^ m → u j ≡ v j) → coded m u i ≡ coded m v i
coded-same m i u v h = parity-same (2 ^ m) _ _ (λ j l. ap (λ (a : Bool). includes i j && a) (h j l))

-- ---- coding twice

half_lt : (m q r : ℕ) → q * 2 + r < 2 ^ suc m → q < 2 ^ m
half_lt m q r h = omega (arith, pow-suc 2 m)

module _ (m : ℕ) (u : ℕ → Bool) (twice : (q : ℕ) (v : ℕ → Bool) → q < 2 ^ m → coded m (coded m v) q ≡ v q) (q : ℕ)
    (l : q < 2 ^ m) where
  twice-odd : coded m (half 1 (coded (suc m) u)) q ≡ half 1 u q
  twice-odd = ap (λ (v : ℕ → Bool). coded m v q) (fun_ext (coded-odd m u)) ∙ twice q (half 1 u) l

  twice-even : coded m (half 0 (coded (suc m) u)) q ≡ xor (half 0 u q) (half 1 u q)
  twice-even =
      ap (λ (v : ℕ → Bool). coded m v q) (fun_ext (coded-even m u))
      ∙ coded-xor m q (coded m (half 0 u)) (coded m (half 1 u))
      ∙ ap₂ xor (twice q (half 0 u) l) (twice q (half 1 u) l)

pub coded-twice : (m i : ℕ) (u : ℕ → Bool) → i < 2 ^ m → coded m (coded m u) i ≡ u i
coded-twice zero i u h = rw (lt-one h)
coded-twice (suc m) i u h =
    let ih : (q : ℕ) (v : ℕ → Bool) → q < 2 ^ m → coded m (coded m v) q ≡ v q = λ q v l. coded-twice m q v l in
    by-halves (λ i. i < 2 ^ suc m → coded (suc m) (coded (suc m) u) i ≡ u i)
    (λ q l. let lt = half_lt m q 0 l in
    coded-even m (coded (suc m) u) q ∙ ap₂ xor (twice-even m u ih q lt) (twice-odd m u ih q lt)
    ∙ xor-cancel (half 0 u q) (half 1 u q))
    (λ q l. coded-odd m (coded (suc m) u) q ∙ twice-odd m u ih q (half_lt m q 1 l)) i h

-- ---- the columns end in the closed form

-- a step over the distance 2 ^ (t + 1) is one over 2 ^ t in each half; the step over 1 joins the halves
column-step-half : (t r : ℕ) (v : ℕ → Bool) → r < 2 → half r (column_step (suc t) v) ≡ column_step t (half r v)
column-step-half t r v h = fun_ext (λ q.
    let e : (q * 2 + r) / 2 ≡ q = omega arith in
    let d : digit (suc t) (q * 2 + r) ≡ digit t q = rw (← one-add t, ← shr-shr (q * 2 + r) 1 t, e) in
    let p : q * 2 + r + 2 ^ suc t ≡ (q + 2 ^ t) * 2 + r = omega (arith, pow-suc 2 t) in
    rw (d, p))

column-half : (m s r : ℕ) (u : ℕ → Bool) → s ≤ m → r < 2 → half r (column (suc m) u s) ≡ column m (half r u) s
column-half m zero r u h k = refl
column-half m (suc s) r u h k =
    let e : suc m - suc s ≡ suc (m - suc s) = omega arith in
    rw e
    (column-step-half (m - suc s) r (column (suc m) u s) k
    ∙ ap (column_step (m - suc s)) (column-half m s r u (omega arith) k))

column-step-even : (v : ℕ → Bool) (q : ℕ) → column_step 0 v (q * 2 + 0) ≡ xor (half 0 v q) (half 1 v q)
column-step-even v q =
    let d : digit 0 (q * 2 + 0) ≡ 0 = omega arith in
    let p : q * 2 + 0 + 1 ≡ q * 2 + 1 = omega arith in
    rw (d, p)

column-step-odd : (v : ℕ → Bool) (q : ℕ) → column_step 0 v (q * 2 + 1) ≡ half 1 v q
column-step-odd v q = let d : digit 0 (q * 2 + 1) ≡ 1 = omega arith in rw d

pub column-coded : (m i : ℕ) (u : ℕ → Bool) → i < 2 ^ m → column m u m i ≡ coded m u i
column-coded zero i u h = rw (lt-one h)
column-coded (suc m) i u h =
    let e : suc m - suc m ≡ 0 = omega arith in
    let ends : (r q : ℕ) → r < 2 → q < 2 ^ m → half r (column (suc m) u m) q ≡ coded m (half r u) q
    = λ r q k l. ap (λ (v : ℕ → Bool). v q) (column-half m m r u (omega arith) k) ∙ column-coded m q (half r u) l in
    rw e
    (by-halves (λ i. i < 2 ^ suc m → column_step 0 (column (suc m) u m) i ≡ coded (suc m) u i)
    (λ q l. let lt = half_lt m q 0 l in
    column-step-even (column (suc m) u m) q ∙ ap₂ xor (ends 0 q (omega arith) lt) (ends 1 q (omega arith) lt)
    ∙ sym (coded-even m u q))
    (λ q l. column-step-odd (column (suc m) u m) q ∙ ends 1 q (omega arith) (half_lt m q 1 l) ∙ sym (coded-odd m u q))
    i h)
