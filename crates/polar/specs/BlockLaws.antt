-- Laws of a block in memory: a list whose first n bytes are bits, and such a list overwritten by bits.
use Rattle.std.specs.Prelude.{ℕ, ◌≤◌, ◌<◌, ◌≡◌, Bool, List, length, get_or}
use Rattle.std.proofs.Common.{◌∙◌, arith}
use Rattle.calls.specs.LentMemory.{overwrite}
use Rattle.calls.specs.LentMemoryLaws.{length-overwrite, overwrite-at, overwrite-same, overwrite-own}
use Rattle.calls.specs.Bits.{byte_of, bit_of}
use Rattle.calls.specs.BitLaws.{byte-of-bit, bit-of-byte, byte_le}

abbrev pub bits_of : List ℕ → ℕ → Bool
bits_of l i = bit_of (get_or l i 0)

pub record Bits (n : ℕ) (l : List ℕ) : Type 0 where
  pub long : n ≤ length l
  pub at : (i : ℕ) → i < n → get_or l i 0 ≤ 1

pub bits-own : {n : ℕ} {l : List ℕ} → Bits n l → overwrite n (λ i. byte_of (bits_of l i)) l ≡ l
bits-own {n} {l} h =
    overwrite-same n (λ i. byte_of (bits_of l i)) (λ i. get_or l i 0) l (λ i q r. byte-of-bit (get_or l i 0) (h.at i q))
    ∙ overwrite-own n l 0

-- bits written to a list that is long enough: they are bits, and can be read back
module _ (n : ℕ) (b : ℕ → Bool) (l x : List ℕ) (long : n ≤ length l) (e : x ≡ overwrite n (λ i. byte_of (b i)) l) where
  written : (i : ℕ) → i < n → get_or x i 0 ≡ byte_of (b i)
  written i h = rw e (overwrite-at n (λ i. byte_of (b i)) l i 0 h (omega arith))

  pub bits-written : Bits n x
  bits-written = record {
    long = rw (e, length-overwrite) long;
    at = λ i h. rw (written i h) (byte_le (b i));
  }

  pub read_back : (i : ℕ) → i < n → bits_of x i ≡ b i
  read_back i h = rw (written i h) (bit-of-byte (b i))
