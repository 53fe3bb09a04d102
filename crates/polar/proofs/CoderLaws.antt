-- What the coder and the read-out do together: coding twice returns the message, coding is linear, and the read-out of
-- u is the message.
use Rattle.std.specs.Prelude.{ℕ, zero, suc, ◌+◌, ◌^◌, ◌≤◌, ◌<◌, ◌≡◌, refl, Bool, true, false, List, [], ◌∷◌, ◌++◌, leb}
use Rattle.std.specs.Prelude.{length, get_or, take}
use Rattle.std.proofs.Common.{sym, ap, ap₂, ◌∙◌, append-nil, add-zero, add-one, arith, take-suc, get_or-take, le-leb}
use Rattle.std.proofs.Common.{leb-true}
use Rattle.calls.specs.Bounds.{largest_m}
use Rattle.calls.specs.Numbers.{check}
use Rattle.calls.specs.EveryLaws.{every_of}
use Rattle.calls.specs.LentMemory.{overwrite}
use Rattle.calls.specs.LentMemoryLaws.{overwrite-same}
use Rattle.polar.specs.declared.Code.{Code}
use Rattle.calls.specs.Bits.{xor, byte_of, bit_of}
use Rattle.polar.specs.Mask.{by_kind, is_information}
use Rattle.polar.specs.MaskLaws.{kind-information}
use Rattle.polar.specs.Code.{
  information_count,
  u_bit,
  coded,
  information_bytes,
  are_bits,
  code_number,
  message_number,
  encode_number,
  encode_block,
  read_out_number,
  read_out_message,
}
use Rattle.calls.specs.BitLaws.{byte-of-bit}
use Rattle.polar.specs.BlockLaws.{bits_of, Bits, bits-written, read_back}
use Rattle.polar.specs.CodeLaws.{bits_at, CodeAccepted, MessageAccepted, encode-accepted}
use Rattle.polar.specs.TransformLaws.{coded-xor, coded-same, coded-twice}

-- ---- a call is accepted where what its tests ask holds

all-bits : (n : ℕ) (l : List ℕ) → ((i : ℕ) → i < n → get_or l i 0 ≤ 1) → are_bits n l ≡ true
all-bits n l h = every_of n (λ i. leb (get_or l i 0) 1) (λ i q. le-leb (get_or l i 0) 1 (h i q))

code-passes : {code : Code} {mask : List ℕ} {room : ℕ} → CodeAccepted code mask room → code_number code mask room ≡ 0
code-passes h =
    simp (
      le-leb 1 _ h.some,
      le-leb _ largest_m h.size,
      le-leb _ _ h.mask-long,
      le-leb _ _ h.room-long,
      h.values,
      le-leb 1 _ h.information,
    )

-- the same code with other room
with-room : {code : Code} {mask : List ℕ} {room : ℕ} → CodeAccepted code mask room → (other : ℕ) → 2 ^ code.m ≤ other
    → CodeAccepted code mask other
with-room h other long = record {
  some = h.some;
  size = h.size;
  mask-long = h.mask-long;
  room-long = long;
  values = h.values;
  information = h.information;
}

message-passes : {message : List ℕ} {K : ℕ} → MessageAccepted message K → message_number message K ≡ 0
message-passes h = simp (le-leb _ _ h.long, h.bits)

-- ---- coding a block again, with the same mask

count-le : (mask : List ℕ) (n : ℕ) → information_count mask n ≤ n
count-le mask zero = omega arith
count-le mask (suc n) = one_more (get_or mask n 0) (count-le mask n)
  where
    one_more : (b : ℕ) → information_count mask n ≤ n → information_count mask n + by_kind b 1 (λ bit. 0) ≤ suc n
    one_more zero h = omega arith
    one_more (suc b) h = omega arith

module _ (code : Code) (mask message old : List ℕ) (accepted : encode_number code mask message (length old) ≡ 0) where
  abbrev m : ℕ
  m = code.m

  abbrev first : List ℕ
  first = encode_block code mask message old

  parts : CodeAccepted code mask (length old) × MessageAccepted message (information_count mask (2 ^ m))
  parts = encode-accepted code mask message (length old) accepted

  written : first ≡ overwrite (2 ^ m) (λ i. byte_of (coded m (u_bit mask message) i)) old
  written = rw accepted

  bits : Bits (2 ^ m) first
  bits = bits-written (2 ^ m) (coded m (u_bit mask message)) old first parts.0.room-long written

  by-room : (room : ℕ) (long : Bool) → leb (2 ^ m) room ≡ long → encode_number code mask first room ≡ check long 7 0
  by-room room true e =
      let few = count-le mask (2 ^ m) in
      rw (code-passes (with-room parts.0 room (leb-true _ _ e)))
      (message-passes {message = first} {K = information_count mask (2 ^ m)} record {
        long = omega (arith, few, bits.long);
        bits = all-bits (information_count mask (2 ^ m)) first (λ i l. bits.at i (omega (arith, few)));
      })
  by-room room false e =
      simp (le-leb 1 _ parts.0.some, le-leb _ largest_m parts.0.size, le-leb _ _ parts.0.mask-long, e)

  -- the coder takes its own block for a message, and refuses it exactly where the slice for the second block is too
  -- short
  pub encode-again : (room : ℕ) → encode_number code mask first room ≡ check (leb (2 ^ m) room) 7 0
  encode-again room = by-room room (leb (2 ^ m) room) refl

  -- with every position an information position coding twice returns the message
  module _ (all : (i : ℕ) → i < 2 ^ m → is_information (get_or mask i 0) ≡ true) where
    count-all : (n : ℕ) → n ≤ 2 ^ m → information_count mask n ≡ n
    count-all zero h = refl
    count-all (suc n) h =
        ap₂ (λ (a b : ℕ). a + b) (count-all n (omega arith))
        (kind-information 1 (λ bit. 0) (get_or mask n 0) (all n (omega arith)))
        ∙ add-one n

    u-all : (message : List ℕ) (i : ℕ) → i < 2 ^ m → u_bit mask message i ≡ bits_of message i
    u-all message i h =
        kind-information (bit_of (get_or message (information_count mask i) 0)) (λ bit. bit) (get_or mask i 0) (all i h)
        ∙ rw (count-all i (omega arith))

    back : (i : ℕ) → i < 2 ^ m → byte_of (coded m (u_bit mask first) i) ≡ get_or message i 0
    back i h =
        let read = read_back (2 ^ m) (coded m (u_bit mask message)) old first parts.0.room-long written in
        ap byte_of
        (coded-same m i (u_bit mask first) (coded m (u_bit mask message)) (λ j l. u-all first j l ∙ read j l)
        ∙ coded-twice m i (u_bit mask message) h ∙ u-all message i h)
        ∙ byte-of-bit (get_or message i 0)
        (bits_at (information_count mask (2 ^ m)) message parts.1.bits i (rw (count-all (2 ^ m) (omega arith)) h))

    -- the coder, applied to what it wrote, writes the message
    pub encode-twice : (again : List ℕ) → 2 ^ m ≤ length again
        → encode_block code mask first again ≡ overwrite (2 ^ m) (λ i. get_or message i 0) again
    encode-twice again room =
        rw (encode-again (length again), le-leb _ _ room)
        (overwrite-same (2 ^ m) _ (λ i. get_or message i 0) again (λ i h r. back i h))

-- ---- linear: the exclusive-or of two messages codes to that of their blocks

by-kind-xor : (b : ℕ) (x y : Bool)
    → by_kind b (xor x y) (λ bit. bit) ≡ xor (by_kind b x (λ bit. bit)) (by_kind b y (λ bit. bit))
by-kind-xor zero x y = refl
by-kind-xor (suc b) x y = refl

pub encode-linear : (m : ℕ) (mask a b sum : List ℕ) → ((k : ℕ) → bits_of sum k ≡ xor (bits_of a k) (bits_of b k))
    → (i : ℕ)
    → coded m (u_bit mask sum) i ≡ xor (coded m (u_bit mask a) i) (coded m (u_bit mask b) i)
encode-linear m mask a b sum h i =
    coded-same m i (u_bit mask sum) (λ j. xor (u_bit mask a j) (u_bit mask b j))
    (λ j l. let k = information_count mask j in
    ap (λ (x : Bool). by_kind (get_or mask j 0) x (λ bit. bit)) (h k)
    ∙ by-kind-xor (get_or mask j 0) (bits_of a k) (bits_of b k))
    ∙ coded-xor m i (u_bit mask a) (u_bit mask b)

-- ---- the read-out of u is the message

module _ (mask message bytes : List ℕ) (n : ℕ) (one : get_or bytes n 0 ≡ byte_of (u_bit mask message n))
    (before : information_bytes mask bytes n ≡ take (information_count mask n) message) where
  one_more : (b : ℕ) → get_or mask n 0 ≡ b → MessageAccepted message (information_count mask n + by_kind b 1 (λ bit. 0))
      → information_bytes mask bytes n ++ by_kind b (get_or bytes n 0 ∷ []) (λ bit. [])
      ≡ take (information_count mask n + by_kind b 1 (λ bit. 0)) message
  one_more zero e h =
      let k = information_count mask n in
      let next : get_or bytes n 0 ≡ get_or message k 0
      = one ∙ rw e (byte-of-bit (get_or message k 0) (bits_at (k + 1) message h.bits k (omega arith))) in
      let l : k < length message = omega (arith, h.long) in
      rw (before, next, add-one k) (sym (take-suc message k 0 l))
  one_more (suc b) e h = rw (append-nil, add-zero) before

message-less : (message : List ℕ) (n b : ℕ) → MessageAccepted message (n + b) → MessageAccepted message n
message-less message n b h = record {
  long = omega (arith, h.long);
  bits = all-bits n message (λ i l. bits_at (n + b) message h.bits i (omega arith));
}

information-back : (mask message bytes : List ℕ) (n : ℕ)
    → ((i : ℕ) → i < n → get_or bytes i 0 ≡ byte_of (u_bit mask message i))
    → MessageAccepted message (information_count mask n)
    → information_bytes mask bytes n ≡ take (information_count mask n) message
information-back mask message bytes zero is h = refl
information-back mask message bytes (suc n) is h =
    one_more mask message bytes n (is n (omega arith))
    (information-back mask message bytes n (λ i l. is i (omega arith))
    (message-less message (information_count mask n) _ h)) (get_or mask n 0) refl h

module _ (code : Code) (mask message bytes old : List ℕ) (room : ℕ)
    (accepted : encode_number code mask message room ≡ 0)
    (long : 2 ^ code.m ≤ length bytes)
    (is : (i : ℕ) → i < 2 ^ code.m → get_or bytes i 0 ≡ byte_of (u_bit mask message i))
    (fits : information_count mask (2 ^ code.m) ≤ length old) where
  encoded : CodeAccepted code mask room × MessageAccepted message (information_count mask (2 ^ code.m))
  encoded = encode-accepted code mask message room accepted

  pub read-out-accepts : read_out_number code mask bytes (length old) ≡ 0
  read-out-accepts = rw (code-passes (with-room encoded.0 (length bytes) long)) (simp (le-leb _ _ fits))

  pub read-out-message : read_out_message code mask bytes old
      ≡ overwrite (information_count mask (2 ^ code.m)) (λ k. get_or message k 0) old
  read-out-message =
      let K = information_count mask (2 ^ code.m) in
      rw read-out-accepts
      (overwrite-same K _ (λ k. get_or message k 0) old
      (λ k l r. ap (λ (x : List ℕ). get_or x k 0) (information-back mask message bytes (2 ^ code.m) is encoded.1)
      ∙ get_or-take K message k 0 l))
