-- Laws of one binary digit: the mask test, and the runs of 2 ^ t positions that share their digit of weight 2 ^ t.
use Rattle.std.specs.Prelude.{ℕ, zero, suc, ◌+◌, ◌-◌, ◌*◌, ◌/◌, ◌%◌, ◌^◌, ◌≤◌, ◌<◌, ◌≡◌, refl, Bool}
use Rattle.std.proofs.Common.{sym, ap, ap₂, ◌∙◌, subst, zero-mul, one-mul, suc-mul, add-mul, mul-le-mul_right}
use Rattle.std.proofs.Common.{div-lt_iff_lt-mul, le-div_iff_mul-le, mod-lt, pow-suc, mul_comm, arith, pow_pos, pow-add}
use Rattle.std.specs.Int.Bits.{bit_and}
use Rattle.std.proofs.lemmas.Nat.Bits.{and_high}
use Rattle.std.proofs.Math.Pow.{high, split}
use Rattle.std.proofs.lemmas.Nat.{shl-shr}
use Rattle.calls.specs.Bits.{xor}
use Rattle.polar.specs.Columns.{digit, column_step}

pub digit-cases : (t i : ℕ) {A : Type 0} → (digit t i ≡ 0 → A) → (digit t i ≡ 1 → A) → A
digit-cases t i {A} clear set = go (digit t i) refl
  where
    go : (n : ℕ) → digit t i ≡ n → A
    go zero e = clear e
    go (suc n) e = set (omega (arith, mod-lt (i / 2 ^ t) {m = 2} (omega arith)))

-- the mask test of the code: `p & d`, where d is 2 ^ t, is the digit times its weight
module _ (p t d : ℕ) (e : d ≡ 2 ^ t) where
  pub masked : bit_and p d ≡ digit t p * 2 ^ t
  masked =
      let w : 2 ^ (1 + t) - 2 ^ t ≡ d = rw (pow-add, e) (omega arith) in
      ap (bit_and p) (sym w) ∙ and_high p 1 t

  pub mask-clear : bit_and p d ≡ 0 → digit t p ≡ 0
  mask-clear h =
      digit-cases t p (λ z. z)
      (λ o. let w : 0 ≡ 1 * 2 ^ t = sym h ∙ masked ∙ ap (λ (x : ℕ). x * 2 ^ t) o in absurd (omega (arith, pow_pos t)))

  pub mask-set : (bit_and p d ≡ 0 → ⊥) → digit t p ≡ 1
  mask-set h = digit-cases t p (λ z. absurd (h (masked ∙ ap (λ (x : ℕ). x * 2 ^ t) z ∙ zero-mul (2 ^ t)))) (λ o. o)

-- a lower position stands at least its digit's weight from the start
pub weight-le : (t p : ℕ) → digit t p ≡ 1 → 2 ^ t ≤ p
weight-le t p o = subst (λ (n : ℕ). n ≤ p) (one-mul (2 ^ t)) ((le-div_iff_mul-le (pow_pos t)).0 (omega arith))

-- a whole number of distances
pub record Multiple (d p : ℕ) : Type 0 where
  pub times : ℕ
  pub is : p ≡ times * d

pub multiple-none : (d : ℕ) → Multiple d 0
multiple-none d = record { times = 0; is = sym (zero-mul d) }

pub multiple-next : {d p : ℕ} → Multiple d p → Multiple d (p + d)
multiple-next {d} {p} h =
    record { times = suc h.times; is = ap (λ (x : ℕ). x + d) h.is ∙ sym (suc-mul h.times d) }

-- the run of 2 ^ t positions from p on: they share the digit, lie within the block, and so does the run after an upper
-- one
module _ (t p : ℕ) (h : Multiple (2 ^ t) p) where
  number : p / 2 ^ t ≡ h.times
  number = rw h.is (shl-shr h.times t)

  pub run-digit : (i : ℕ) → i < 2 ^ t → digit t (p + i) ≡ digit t p
  run-digit i l = rw number (rw (h.is, high h.times t l))

  module _ (m : ℕ) (ht : t < m) (hp : p < 2 ^ m) where
    -- runs in the half of a block
    abbrev half : ℕ
    half = 2 ^ (m - suc t)

    runs : 2 ^ m ≡ 2 * half * 2 ^ t
    runs =
        let n : m ≡ suc (m - suc t) + t = omega arith in
        ap (λ (x : ℕ). 2 ^ x) n ∙ pow-add 2 (suc (m - suc t)) t
        ∙ ap (λ (x : ℕ). x * 2 ^ t) (pow-suc 2 (m - suc t) ∙ mul_comm half 2)

    before : h.times < 2 * half
    before = rw number at ((div-lt_iff_lt-mul (pow_pos t)).1 (subst (λ (n : ℕ). p < n) runs hp))

    fits : (n : ℕ) → h.times + n ≤ 2 * half → p + n * 2 ^ t ≤ 2 ^ m
    fits n l = rw (h.is, runs, ← add-mul h.times n (2 ^ t)) (mul-le-mul_right (2 ^ t) l)

    pub run_fits : p + 2 ^ t ≤ 2 ^ m
    run_fits = rw one-mul at (fits 1 (omega (arith, before)))

    pub upper_fits : digit t p ≡ 0 → p + 2 ^ t + 2 ^ t ≤ 2 ^ m
    upper_fits z = let even : h.times % 2 ≡ 0 = rw number at z in omega (arith, fits 2 (omega (arith, before)))

-- an upper position's partner lies within the block
pub partner-lt : (m t i : ℕ) → t < m → i < 2 ^ m → digit t i ≡ 0 → i + 2 ^ t < 2 ^ m
partner-lt m t i ht hi z =
    let p : ℕ = i / 2 ^ t * 2 ^ t in
    let h : Multiple (2 ^ t) p = record { times = i / 2 ^ t; is = refl } in
    let whole : p + i % 2 ^ t ≡ i = split i t in
    let r : i % 2 ^ t < 2 ^ t = mod-lt i (pow_pos t) in
    let upper : digit t p ≡ 0 = sym (run-digit t p h (i % 2 ^ t) r) ∙ rw whole z in
    omega (arith, upper_fits t p h m ht (omega arith) upper)

-- a step of a block reads that block alone
pub column-step-same : (m t i : ℕ) (v w : ℕ → Bool) → t < m → i < 2 ^ m → ((j : ℕ) → j < 2 ^ m → v j ≡ w j)
    → column_step t v i ≡ column_step t w i
column-step-same m t i v w ht hi same =
    digit-cases t i
    (λ z. rw z (ap₂ xor (same i hi) (same (i + 2 ^ t) (partner-lt m t i ht hi z))))
    (λ o. rw o (same i hi))
