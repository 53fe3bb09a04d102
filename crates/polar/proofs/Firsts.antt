-- The first n bytes of a list, which the code takes as a slice of their own: the definitions of them are those of the
-- list.
use Rattle.std.proofs.Common.{ℕ, zero, suc, ◌+◌, ◌≤◌, ◌<◌, ◌≡◌, refl, ap, ap₂, Bool, List, [], ◌∷◌, ◌++◌, leb, length}
use Rattle.std.proofs.Common.{◌^◌, pow_mono, take, get_or, get_or-take, length-take-le, arith}
use Rattle.calls.specs.EveryLaws.{every_firsts}
use Rattle.calls.specs.LentMemory.{overwrite}
use Rattle.calls.specs.LentMemoryLaws.{overwrite-same}
use Rattle.calls.specs.NumberLaws.{between-passed}
use Rattle.calls.specs.Bits.{byte_of, bit_of}
use Rattle.calls.specs.Bounds.{largest_m}
use Rattle.polar.specs.declared.Code.{Code}
use Rattle.polar.specs.Mask.{by_kind, is_mask_byte, mask_accepted}
use Rattle.polar.specs.Code.{information_count, u_bit, are_bits, information_bytes}
use Rattle.polar.specs.CodeLaws.{CodeAccepted}

pub bits_firsts : (n : ℕ) (l : List ℕ) → n ≤ length l → are_bits (length (take n l)) (take n l) ≡ are_bits n l
bits_firsts n l = every_firsts 0 (λ b. leb b 1) n l

pub mask_firsts : (n : ℕ) (l : List ℕ) → n ≤ length l → mask_accepted (length (take n l)) (take n l) ≡ mask_accepted n l
mask_firsts n l = every_firsts 0 is_mask_byte n l

module _ (n : ℕ) (mask : List ℕ) where
  kind-same : {A : Type 0} (i : ℕ) (a : A) (f : Bool → A) → i < n
      → by_kind (get_or (take n mask) i 0) a f ≡ by_kind (get_or mask i 0) a f
  kind-same i a f h = ap (λ (b : ℕ). by_kind b a f) (get_or-take n mask i 0 h)

  count-same : (i : ℕ) → i ≤ n → information_count (take n mask) i ≡ information_count mask i
  count-same zero h = refl
  count-same (suc i) h = ap₂ (λ (a b : ℕ). a + b) (count-same i (omega arith)) (kind-same i 1 (λ bit. 0) (omega arith))

  pub count_firsts : n ≤ length mask → information_count (take n mask) (length (take n mask)) ≡ information_count mask n
  count_firsts h = rw (length-take-le n mask h) (count-same n (omega arith))

  pub u_firsts : (message : List ℕ) (i : ℕ) → i < n → u_bit (take n mask) message i ≡ u_bit mask message i
  u_firsts message i h =
      rw (count-same i (omega arith))
      (kind-same i (bit_of (get_or message (information_count mask i) 0)) (λ bit. bit) h)

  bytes-same : (bytes : List ℕ) (i : ℕ) → i ≤ n → information_bytes (take n mask) bytes i ≡ information_bytes mask
      bytes i
  bytes-same bytes zero h = refl
  bytes-same bytes (suc i) h =
      ap₂ (λ (a b : List ℕ). a ++ b) (bytes-same bytes i (omega arith))
      (kind-same i (get_or bytes i 0 ∷ []) (λ bit. []) (omega arith))

  pub bytes_firsts : (bytes : List ℕ) → n ≤ length mask
      → information_bytes (take n mask) bytes (length (take n mask)) ≡ information_bytes mask bytes n
  bytes_firsts bytes h = rw (length-take-le n mask h) (bytes-same bytes n (omega arith))

-- the first 2 ^ m bytes of a mask that the code's tests accept
module _ {code : Code} {mask : List ℕ} {room : ℕ} (h : CodeAccepted code mask room) where
  pub accepted-length : length (take (2 ^ code.m) mask) ≡ 2 ^ code.m
  accepted-length = length-take-le (2 ^ code.m) mask h.mask-long

  pub accepted-long : length (take (2 ^ code.m) mask) ≤ 2 ^ largest_m
  accepted-long = rw accepted-length (pow_mono h.size)

  pub accepted-count : information_count (take (2 ^ code.m) mask) (length (take (2 ^ code.m) mask))
      ≡ information_count mask (2 ^ code.m)
  accepted-count = count_firsts (2 ^ code.m) mask h.mask-long

  -- what `place` and `gather` leave, given these bytes
  pub accepted-u : (message old : List ℕ)
      → overwrite (length (take (2 ^ code.m) mask)) (λ i. byte_of (u_bit (take (2 ^ code.m) mask) message i)) old
      ≡ overwrite (2 ^ code.m) (λ i. byte_of (u_bit mask message i)) old
  accepted-u message old =
      rw accepted-length
      (overwrite-same (2 ^ code.m) _ _ old (λ i l k. ap byte_of (u_firsts (2 ^ code.m) mask message i l)))

  pub accepted-bytes : (bytes old : List ℕ)
      → overwrite (information_count (take (2 ^ code.m) mask) (length (take (2 ^ code.m) mask)))
      (λ k. get_or (information_bytes (take (2 ^ code.m) mask) bytes (length (take (2 ^ code.m) mask))) k 0) old
      ≡ overwrite (information_count mask (2 ^ code.m)) (λ k. get_or (information_bytes mask bytes (2 ^ code.m)) k 0)
      old
  accepted-bytes bytes old = rw (accepted-count, bytes_firsts (2 ^ code.m) mask bytes h.mask-long)

-- what the check tries at the tests of a code
pub ruleset code_firsts = (mask_firsts, count_firsts, between-passed)
