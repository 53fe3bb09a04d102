-- Laws of exclusive-or, which is mathlib's, and of bits as bytes.
use Rattle.std.specs.Prelude.{ℕ, zero, suc, ◌≤◌, ◌≡◌, refl, Bool, true, false, ◌&&◌}
use Rattle.std.proofs.Common.{sym, ap, ◌∙◌, arith}
use Rattle.std.proofs.Math.Bool.{xor as library_xor}
use Rattle.std.specs.Int.Bits.{bit_xor}
use Rattle.calls.specs.Bits.{xor, byte_of, bit_of}

-- it is mathlib's
pub xor-library : (a b : Bool) → xor a b ≡ library_xor a b
unfolding library_xor
xor-library false false = refl
xor-library false true = refl
xor-library true false = refl
xor-library true true = refl

pub xor_assoc : (a b c : Bool) → xor (xor a b) c ≡ xor a (xor b c)
xor_assoc false b c = refl
xor_assoc true false c = refl
xor_assoc true true false = refl
xor_assoc true true true = refl

pub xor_comm : (a b : Bool) → xor a b ≡ xor b a
xor_comm false false = refl
xor_comm false true = refl
xor_comm true false = refl
xor_comm true true = refl

pub xor-cancel : (a b : Bool) → xor (xor a b) b ≡ a
xor-cancel false false = refl
xor-cancel false true = refl
xor-cancel true false = refl
xor-cancel true true = refl

-- a sum of two sums, taken the other way round
pub xor-swap : (a b c d : Bool) → xor (xor a b) (xor c d) ≡ xor (xor a c) (xor b d)
xor-swap a b c d =
    xor_assoc a b (xor c d)
    ∙ ap (xor a) (sym (xor_assoc b c d) ∙ ap (λ (x : Bool). xor x d) (xor_comm b c) ∙ xor_assoc c b d)
    ∙ sym (xor_assoc a c (xor b d))

pub and_xor : (a b c : Bool) → a && xor b c ≡ xor (a && b) (a && c)
and_xor false b c = refl
and_xor true b c = refl

-- ---- bytes

pub byte-of-bit : (n : ℕ) → n ≤ 1 → byte_of (bit_of n) ≡ n
byte-of-bit zero h = refl
byte-of-bit (suc zero) h = refl
byte-of-bit (suc (suc n)) h = absurd (omega arith)

pub bit-of-byte : (b : Bool) → bit_of (byte_of b) ≡ b
bit-of-byte false = refl
bit-of-byte true = refl

pub byte_le : (b : Bool) → byte_of b ≤ 1
byte_le false = omega arith
byte_le true = omega arith

-- the exclusive-or of bytes is that of their bits
pub xor_bytes : (a b : Bool) → bit_xor (byte_of a) (byte_of b) ≡ byte_of (xor a b)
xor_bytes false false = refl
xor_bytes false true = refl
xor_bytes true false = refl
xor_bytes true true = refl
