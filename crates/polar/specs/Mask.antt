-- Document 01, "The code": the mask has one byte for each position, and this is the one place that says what a byte
-- means. Definitions only.
use Rattle.std.specs.Prelude.{ℕ, zero, suc, Bool, true, false, List, leb, get_or}
use Rattle.calls.specs.Every.{every}

-- an information position, or one that is frozen to a bit
pub data Kind : Type 0 where
  information : Kind
  frozen : Bool → Kind

-- 0 is an information position; every other byte is frozen to 0
abbrev pub kind_of : ℕ → Kind
kind_of zero = information
kind_of (suc n) = frozen false

module _ {A : Type 0} where
  abbrev pub on_kind : Kind → A → (Bool → A) → A
  on_kind information at_information at_frozen = at_information
  on_kind (frozen bit) at_information at_frozen = at_frozen bit

  -- by the mask's byte: the first at an information position, the second, given the frozen bit, at a frozen one
  abbrev pub by_kind : ℕ → A → (Bool → A) → A
  by_kind byte at_information at_frozen = on_kind (kind_of byte) at_information at_frozen

abbrev pub is_information : ℕ → Bool
is_information byte = by_kind byte true (λ bit. false)

-- the bit of a frozen position
abbrev pub frozen_bit : ℕ → Bool
frozen_bit byte = by_kind byte false (λ bit. bit)

-- whether every information position of the first n passes a test
abbrev pub every_information : ℕ → List ℕ → (ℕ → Bool) → Bool
every_information n mask test = every n (λ i. by_kind (get_or mask i 0) (test i) (λ bit. true))

-- the bytes that a mask may hold, and the test of its first n: 8
abbrev pub is_mask_byte : ℕ → Bool
is_mask_byte byte = leb byte 1

abbrev pub mask_accepted : ℕ → List ℕ → Bool
mask_accepted n mask = every n (λ i. is_mask_byte (get_or mask i 0))
