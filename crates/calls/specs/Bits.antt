-- Bits: `true` is 1. In memory a bit is a byte. Definitions only.
use Rattle.std.specs.Prelude.{ℕ, zero, suc, Bool, true, false, not}

-- (mathlib's exclusive-or computes only once both bits are known)
abbrev pub xor : Bool → Bool → Bool
xor false b = b
xor true b = not b

abbrev pub byte_of : Bool → ℕ
byte_of false = 0
byte_of true = 1

abbrev pub bit_of : ℕ → Bool
bit_of zero = false
bit_of (suc n) = true
