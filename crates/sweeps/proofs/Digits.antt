-- Whole numbers of runs, and the digit that says on which side a position is: in runs of which a whole number makes the
-- distance, one distance further, and after a whole number of pairs of runs.
use Prim.Native.Nat.{ℕ, suc, ◌+◌, ◌-◌, ◌*◌, ◌/◌, ◌%◌, ◌^◌, ◌≤◌, ◌<◌}
use mathlib.Core.Path.{◌≡◌, sym, ap, ◌∙◌}
use native.Mathlib.Nat.{
  add-div_right,
  add-mul-div_right,
  add-zero,
  div-div-eq-div-mul,
  mul_assoc,
  mul_comm,
  mul-suc,
  mul-le-mul_left,
  mul-div-le,
  mul-div_cancel,
  mul-sub,
  pow-suc,
}
use native.Mathlib.Omega.{arith}
use lib.Pow.{pow_pos, pow-add}
use Rattle.std.proofs.lemmas.Nat.{div-mul-add}
use Rattle.polar.specs.Columns.{digit}
use Rattle.polar.specs.DigitLaws.{Multiple}

pub same-power : {t u : ℕ} → t ≡ u → 2 ^ t ≡ 2 ^ u
same-power e = ap (λ (k : ℕ). 2 ^ k) e

-- a multiple of a multiple, and of powers
pub multiple-trans : {d n p : ℕ} → Multiple d n → Multiple n p → Multiple d p
multiple-trans {d} {n} {p} g h =
    record {
      times = h.times * g.times;
      is = h.is ∙ ap (λ (x : ℕ). h.times * x) g.is ∙ sym (mul_assoc h.times g.times d);
    }

pub power-multiple : (s m : ℕ) → s ≤ m → Multiple (2 ^ s) (2 ^ m)
power-multiple s m le =
    let e : m ≡ m - s + s = omega arith in
    record { times = 2 ^ (m - s); is = ap (λ (k : ℕ). 2 ^ k) e ∙ pow-add 2 (m - s) s }

pub multiple-less : {d n p : ℕ} → Multiple d n → Multiple d p → Multiple d (n - p)
multiple-less {d} g h =
    record {
      times = g.times - h.times;
      is = rw (g.is, h.is, mul_comm g.times d, mul_comm h.times d, mul_comm (g.times - h.times) d)
          (sym (mul-sub d g.times h.times));
    }

-- turn c of the n / W turns of a loop, and all of them
pub turn-fits : (W n c : ℕ) → c < n / W → W * c + W ≤ n
turn-fits W n c l = omega (arith, mul-suc W c, mul-le-mul_left W l, mul-div-le n W)

pub turns-all : {W n : ℕ} → 0 < W → Multiple W n → W * (n / W) ≡ n
turns-all {W} {n} some h = rw h.is (ap (λ (x : ℕ). W * x) (mul-div_cancel h.times some) ∙ mul_comm W h.times)

pub eights : (m : ℕ) → 3 ≤ m → 8 * (2 ^ m / 8) ≡ 2 ^ m
eights m le = turns-all (omega arith) (power-multiple 3 m le)

pub sixteens : (m : ℕ) → 4 ≤ m → 16 * (2 ^ m / 16) ≡ 2 ^ m
sixteens m le = turns-all (omega arith) (power-multiple 4 m le)

-- a run of W positions, where a whole number of them makes the distance
module _ (t p : ℕ) {W : ℕ} (step : Multiple W (2 ^ t)) (whole : Multiple W p) where
  quotient : (i : ℕ) → i < W → (p + i) / 2 ^ t ≡ whole.times / step.times
  quotient i l =
      rw (
        step.is,
        whole.is,
        mul_comm step.times W,
        ← div-div-eq-div-mul (whole.times * W + i) W step.times,
        div-mul-add whole.times W i l,
      )

  pub same-digit : (i : ℕ) → i < W → digit t (p + i) ≡ digit t p
  same-digit i l =
      let first : p / 2 ^ t ≡ whole.times / step.times = rw add-zero at (quotient 0 (omega arith)) in
      ap (λ (x : ℕ). x % 2) (quotient i l ∙ sym first)

-- one distance further
next-digit : (t p : ℕ) → digit t (p + 2 ^ t) ≡ (p / 2 ^ t + 1) % 2
next-digit t p = ap (λ (x : ℕ). x % 2) (add-div_right p (pow_pos t))

pub after-upper : (t p : ℕ) → digit t p ≡ 0 → digit t (p + 2 ^ t) ≡ 1
after-upper t p z = next-digit t p ∙ omega arith

pub after_lower : (t p : ℕ) → digit t p ≡ 1 → digit t (p + 2 ^ t) ≡ 0
after_lower t p o = next-digit t p ∙ omega arith

-- after a whole number of pairs of runs
pub digit-behind : (t p i : ℕ) → Multiple (2 ^ suc t) p → digit t (p + i) ≡ digit t i
digit-behind t p i h =
    let c : ℕ = h.times in
    let two : p + i ≡ i + 2 * c * 2 ^ t = rw (h.is, pow-suc 2 t) (omega arith) in
    ap (λ (x : ℕ). x / 2 ^ t % 2) two
    ∙ ap (λ (x : ℕ). x % 2) (add-mul-div_right i (2 * c) (pow_pos t)) ∙ omega arith
