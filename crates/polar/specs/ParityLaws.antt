-- Laws of parity: the exclusive-or of many bits.
use Rattle.std.specs.Prelude.{ℕ, zero, suc, ◌+◌, ◌*◌, ◌<◌, ◌≡◌, refl, Bool, false}
use Rattle.std.proofs.Common.{ap, ap₂, ◌∙◌, add-zero, arith}
use Rattle.calls.specs.Bits.{xor}
use Rattle.calls.specs.BitLaws.{xor_assoc, xor-swap}
use Rattle.polar.specs.Code.{parity}

pub parity-same : (n : ℕ) (f g : ℕ → Bool) → ((j : ℕ) → j < n → f j ≡ g j) → parity n f ≡ parity n g
parity-same zero f g h = refl
parity-same (suc n) f g h = ap₂ xor (parity-same n f g (λ j l. h j (omega arith))) (h n (omega arith))

pub parity-none : (n : ℕ) → parity n (λ j. false) ≡ false
parity-none zero = refl
parity-none (suc n) = ap (λ (a : Bool). xor a false) (parity-none n)

pub parity-xor : (n : ℕ) (f g : ℕ → Bool) → parity n (λ j. xor (f j) (g j)) ≡ xor (parity n f) (parity n g)
parity-xor zero f g = refl
parity-xor (suc n) f g =
    ap (λ (a : Bool). xor a (xor (f n) (g n))) (parity-xor n f g) ∙ xor-swap (parity n f) (parity n g) (f n) (g n)

-- over twice as many: the even and the odd places apart
pub parity-halves : (n : ℕ) (f : ℕ → Bool)
    → parity (n * 2) f ≡ xor (parity n (λ j. f (j * 2 + 0))) (parity n (λ j. f (j * 2 + 1)))
parity-halves zero f = refl
parity-halves (suc n) f =
    let even = parity n (λ j. f (j * 2 + 0)) in
    let odd = parity n (λ j. f (j * 2 + 1)) in
    let two : suc n * 2 ≡ suc (suc (n * 2)) = omega arith in
    let last : suc (n * 2) ≡ n * 2 + 1 = omega arith in
    rw (two, last, parity-halves n f, add-zero (n * 2))
    (xor_assoc (xor even odd) (f (n * 2)) (f (n * 2 + 1)) ∙ xor-swap even odd (f (n * 2)) (f (n * 2 + 1)))
