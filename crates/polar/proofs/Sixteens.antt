-- A block of sixteen positions or more is made of whole sixteens.
use Rattle.std.proofs.Common.{ℕ, ◌+◌, ◌-◌, ◌*◌, ◌^◌, ◌≤◌, ◌≡◌, ap, ◌∙◌, arith, pow-add}
use Rattle.polar.specs.DigitLaws.{Multiple}

pub power-sixteens : (t : ℕ) → 4 ≤ t → Multiple 16 (2 ^ t)
power-sixteens t h =
    let e : t ≡ t - 4 + 4 = omega arith in
    record { times = 2 ^ (t - 4); is = ap (λ (k : ℕ). 2 ^ k) e ∙ pow-add 2 (t - 4) 4 }

-- they are 2 ^ (t - 4)
pub sixteens : (t : ℕ) → 4 ≤ t → 16 * 2 ^ (t - 4) ≡ 2 ^ t
sixteens t h =
    let e : t ≡ t - 4 + 4 = omega arith in
    omega (arith, ap (λ (k : ℕ). 2 ^ k) e, pow-add 2 (t - 4) 4)
