-- Document 01, "The code", and the coder's and the read-out's lines of "Numbers by who causes them". Definitions only.
use Rattle.std.specs.Prelude.{ℕ, zero, suc, ◌+◌, ◌^◌, Bool, false, ◌&&◌, List, [], ◌∷◌, ◌++◌, eqb, leb, length, get_or}
use Rattle.std.specs.Int.Bits.{bit_and}
use Rattle.calls.specs.Bounds.{largest_m}
use Rattle.calls.specs.Bits.{xor, byte_of, bit_of}
use Rattle.calls.specs.Numbers.{check, first_refusal, between}
use Rattle.calls.specs.Every.{every}
use Rattle.calls.specs.LentMemory.{overwrite, unless_refused}
use Rattle.polar.specs.declared.Code.{Code}
use Rattle.polar.specs.Mask.{by_kind, mask_accepted}

-- ---- the message in the block

-- how many of the first n positions are information positions; K is the count over all N positions
abbrev pub information_count : List ℕ → ℕ → ℕ
information_count mask zero = 0
information_count mask (suc n) = information_count mask n + by_kind (get_or mask n 0) 1 (λ bit. 0)

-- u: the message bits fill the information positions in rising order, a frozen position carries its frozen bit
abbrev pub u_bit : List ℕ → List ℕ → ℕ → Bool
u_bit mask message i = by_kind (get_or mask i 0) (bit_of (get_or message (information_count mask i) 0)) (λ bit. bit)

-- ---- the coded bits

-- the exclusive-or of f 0, f 1, .. f (n - 1)
abbrev pub parity : ℕ → (ℕ → Bool) → Bool
parity zero f = false
parity (suc n) f = xor (parity n f) (f n)

-- the binary digits of j include every digit of i
abbrev pub includes : ℕ → ℕ → Bool
includes i j = eqb (bit_and i j) i

-- coded bit i: the exclusive-or of all u at positions j, of the N = 2 ^ m, whose binary digits include every digit of i
abbrev pub coded : ℕ → (ℕ → Bool) → ℕ → Bool
coded m u i = parity (2 ^ m) (λ j. includes i j && u j)

-- ---- the read-out: the bytes at the information positions, in rising order

abbrev pub information_bytes : List ℕ → List ℕ → ℕ → List ℕ
information_bytes mask bytes zero = []
information_bytes mask bytes (suc n) =
    information_bytes mask bytes n ++ by_kind (get_or mask n 0) (get_or bytes n 0 ∷ []) (λ bit. [])

-- ---- the coder: 1; 7, mask or block; 8; 9; 7, message; 13. The read-out: 1; 7, mask or bytes; 8; 9; 7, message

-- the first n bytes of a message are bits
abbrev pub are_bits : ℕ → List ℕ → Bool
are_bits n l = every n (λ i. leb (get_or l i 0) 1)

-- what both test of the code; `room` is the length of the slice of N elements beside the mask
abbrev pub code_number : Code → List ℕ → ℕ → ℕ
code_number code mask room =
    check (between 1 largest_m code.m) 1
    (check (leb (2 ^ code.m) (length mask) && leb (2 ^ code.m) room) 7
    (check (mask_accepted (2 ^ code.m) mask) 8
    (check (leb 1 (information_count mask (2 ^ code.m))) 9 0)))

-- what the coder tests of a message for K information positions
abbrev pub message_number : List ℕ → ℕ → ℕ
message_number message K = check (leb K (length message)) 7 (check (are_bits K message) 13 0)

abbrev pub encode_number : Code → List ℕ → List ℕ → ℕ → ℕ
encode_number code mask message room =
    first_refusal (code_number code mask room) (message_number message (information_count mask (2 ^ code.m)))

abbrev pub encode_block : Code → List ℕ → List ℕ → List ℕ → List ℕ
encode_block code mask message old =
    unless_refused (encode_number code mask message (length old))
    (overwrite (2 ^ code.m) (λ i. byte_of (coded code.m (u_bit mask message) i)) old)
    old

abbrev pub read_out_number : Code → List ℕ → List ℕ → ℕ → ℕ
read_out_number code mask bytes room =
    first_refusal (code_number code mask (length bytes)) (check (leb (information_count mask (2 ^ code.m)) room) 7 0)

abbrev pub read_out_message : Code → List ℕ → List ℕ → List ℕ → List ℕ
read_out_message code mask bytes old =
    unless_refused (read_out_number code mask bytes (length old))
    (overwrite (information_count mask (2 ^ code.m)) (λ k. get_or (information_bytes mask bytes (2 ^ code.m)) k 0) old)
    old
