-- One turn of the coder's loops: what the element at i adds to what the first i give.
use Rattle.std.proofs.Common.{ℕ, zero, suc, ◌+◌, ◌-◌, ◌≤◌, ◌<◌, max, ◌≡◌, refl, sym, ap, ap₂, ◌∙◌, Bool, true, false}
use Rattle.std.proofs.Common.{◌&&◌, List, [], ◌∷◌, ◌++◌, ⊎_elim, add-zero, add-suc, eq-or-lt_of_le, le_of_suc-le-suc}
use Rattle.std.proofs.Common.{add-one, arith, leb, length, get_or, fold, set, length-append, le-leb, leb-true}
use Rattle.std.proofs.Common.{leb-false}
use Rattle.std.proofs.Math.ListN.{get_or-append}
use Rattle.std.proofs.Math.Seq.{get_or_at}
use borrow.Author.Tests.{lt-leb}
use Rattle.std.proofs.Math.Bool.{and-true, and_assoc}
use Rattle.calls.specs.Every.{every}
use Rattle.calls.specs.EveryLaws.{every_first}
use Rattle.calls.specs.LentMemory.{overwrite}
use Rattle.calls.specs.LentMemoryLaws.{overwrite-store}
use Rattle.calls.specs.Bits.{byte_of, bit_of}
use Rattle.polar.specs.Mask.{Kind, information, frozen, kind_of, on_kind, by_kind, is_information, frozen_bit}
use Rattle.polar.specs.MaskLaws.{kind-information, kind-frozen}
use Rattle.polar.specs.Code.{information_count, u_bit, information_bytes}
use Rattle.polar.specs.CodeLaws.{bits_at, MessageAccepted}
use Rattle.calls.specs.BitLaws.{byte-of-bit}

-- the larger of two is at most b where both are
max-leb : (x y b : ℕ) → leb (max x y) b ≡ leb x b && leb y b
max-leb x y b = go (leb x b) (leb y b) refl refl
  where
    go : (s t : Bool) → leb x b ≡ s → leb y b ≡ t → leb (max x y) b ≡ s && t
    go true true p q = le-leb (max x y) b (omega (arith, leb-true x b p, leb-true y b q))
    go true false p q = lt-leb (max x y) b (omega (arith, leb-false y b q))
    go false t p q = lt-leb (max x y) b (omega (arith, leb-false x b p))

-- so the largest of many is at most b where each of them is
fold-max : (l : List ℕ) (a b : ℕ)
    → leb (fold max a l) b ≡ leb a b && every (length l) (λ i. leb (get_or l i 0) b)
fold-max [] a b = sym (and-true (leb a b))
fold-max (x ∷ l) a b = fold-max l (max a x) b ∙ rw (max-leb, and_assoc, every_first)

pub largest_leb : (l : List ℕ) (b : ℕ) → leb (fold max 0 l) b ≡ every (length l) (λ i. leb (get_or l i 0) b)
largest_leb l b = fold-max l 0 b ∙ rw (le-leb 0 b (omega arith))

module _ (l : List ℕ) (i : ℕ) where
  pub count-information : is_information (get_or l i 0) ≡ true → information_count l i + 1 ≡ information_count l (i + 1)
  count-information z = rw (add-one i, kind-information {A = ℕ} 1 (λ bit. 0) (get_or l i 0) z)

  pub count-frozen : is_information (get_or l i 0) ≡ false → information_count l i ≡ information_count l (i + 1)
  count-frozen z = rw (add-one i, kind-frozen {A = ℕ} 1 (λ bit. 0) (get_or l i 0) z) (omega arith)

one_at_most : (byte : ℕ) → by_kind byte 1 (λ bit. 0) ≤ 1
one_at_most byte = go (kind_of byte)
  where
    go : (k : Kind) → on_kind k 1 (λ bit. 0) ≤ 1
    go information = omega arith
    go (frozen bit) = omega arith

count-mono : (mask : List ℕ) (i k : ℕ) → information_count mask i ≤ information_count mask (i + k)
count-mono mask i zero = rw add-zero (omega arith)
count-mono mask i (suc k) = rw add-suc (omega (arith, count-mono mask i k))

-- an information position's own count is below that of all
pub count-lt : (mask : List ℕ) (i n : ℕ) → is_information (get_or mask i 0) ≡ true → i < n
    → information_count mask i < information_count mask n
count-lt mask i n z h =
    let e : i + 1 + (n - (i + 1)) ≡ n = omega arith in
    omega (arith, count-information mask i z, rw e at (count-mono mask (i + 1) (n - (i + 1))))

pub count-le : (mask : List ℕ) (n : ℕ) → information_count mask n ≤ n
count-le mask zero = omega arith
count-le mask (suc n) = omega (arith, count-le mask n, one_at_most (get_or mask n 0))

-- ---- the coder's loop: the first i positions of the block are u, and `used` message bits are placed

pub record Placed (mask message : List ℕ) (i used : ℕ) (old block : List ℕ) : Type 0 where
  pub is : block ≡ overwrite i (λ j. byte_of (u_bit mask message j)) old
  pub count : used ≡ information_count mask i

module _ {mask message : List ℕ} {i used : ℕ} {old block : List ℕ} (h : Placed mask message i used old block) where
  store : {v : ℕ} → v ≡ byte_of (u_bit mask message i) → i < length old
      → set block i v ≡ overwrite (i + 1) (λ j. byte_of (u_bit mask message j)) old
  store e l = rw (e, h.is, add-one i) (overwrite-store i (λ j. byte_of (u_bit mask message j)) old l)

  -- an information position: the next message bit is there
  module _ {n : ℕ} (accepted : MessageAccepted message (information_count mask n))
      (z : true ≡ is_information (get_or mask i 0)) (l : i < n) where
    pub placed-lt : used < length message
    placed-lt = omega (arith, h.count, count-lt mask i n (sym z) l, accepted.long)

    pub placed-information : i < length old
        → Placed mask message (i + 1) (used + 1) old (set block i (get_or message used 0))
    placed-information q =
        let used_lt : used < information_count mask n = omega (arith, h.count, count-lt mask i n (sym z) l) in
        let bit = bits_at (information_count mask n) message accepted.bits used used_lt in
        record {
          is = store
              (sym (ap byte_of
              (kind-information (bit_of (get_or message (information_count mask i) 0)) (λ bit. bit) (get_or mask i 0)
              (sym z))
              ∙ rw h.count (byte-of-bit _ (rw h.count at bit))))
              q;
          count = rw h.count (count-information mask i (sym z));
        }

  pub placed-frozen : false ≡ is_information (get_or mask i 0) → {v : ℕ} → v ≡ byte_of (frozen_bit (get_or mask i 0))
      → i < length old
      → Placed mask message (i + 1) used old (set block i v)
  placed-frozen z e l = record {
    is =
        store
        (e
        ∙ ap byte_of
        (sym (kind-frozen (bit_of (get_or message (information_count mask i) 0)) (λ bit. bit) (get_or mask i 0)
        (sym z)))) l;
    count = h.count ∙ count-frozen mask i (sym z);
  }

-- ---- the read-out's loop: the information bytes of the first i positions are copied

module _ (mask bytes : List ℕ) where
  by-kind-length : (byte x : ℕ) → length (by_kind byte (x ∷ []) (λ bit. [])) ≡ by_kind byte 1 (λ bit. 0)
  by-kind-length byte x = go (kind_of byte)
    where
      go : (k : Kind) → length (on_kind k (x ∷ []) (λ bit. [])) ≡ on_kind k 1 (λ bit. 0)
      go information = refl
      go (frozen bit) = refl

  pub information-length : (n : ℕ) → length (information_bytes mask bytes n) ≡ information_count mask n
  information-length zero = refl
  information-length (suc n) =
      simp length-append
      (ap₂ (λ (a b : ℕ). a + b) (information-length n) (by-kind-length (get_or mask n 0) (get_or bytes n 0)))

  -- the byte of an information position stands at that position's count
  pub information-at : (n i : ℕ) → is_information (get_or mask i 0) ≡ true → i < n
      → get_or (information_bytes mask bytes n) (information_count mask i) 0 ≡ get_or bytes i 0
  information-at zero i z h = absurd (omega arith)
  information-at (suc n) i z h =
      ⊎_elim
      (λ e. let here : is_information (get_or mask n 0) ≡ true = rw e at z in
      rw e
      (ap (λ (l : List ℕ). get_or (information_bytes mask bytes n ++ l) (information_count mask n) 0)
      (kind-information (get_or bytes n 0 ∷ []) (λ bit. []) (get_or mask n 0) here)
      ∙ get_or_at (information_bytes mask bytes n) (get_or bytes n 0) [] 0 (information_count mask n)
      (information-length n)))
      (λ l. get_or-append (information_bytes mask bytes n) _ 0 (information_count mask i)
      (omega (arith, information-length n, count-lt mask i n z l)) ∙ information-at n i z l)
      (eq-or-lt_of_le (le_of_suc-le-suc h))

pub record Gathered (mask bytes : List ℕ) (n i count : ℕ) (old message : List ℕ) : Type 0 where
  pub is : message ≡ overwrite count (λ k. get_or (information_bytes mask bytes n) k 0) old
  pub counted : count ≡ information_count mask i

module _ {mask bytes : List ℕ} {n i count : ℕ} {old message : List ℕ}
    (h : Gathered mask bytes n i count old message) where
  -- an information position: there is room for its byte
  module _ (room : information_count mask n ≤ length old) (z : true ≡ is_information (get_or mask i 0)) (l : i < n)
    where
      pub gathered-lt : count < length old
      gathered-lt = omega (arith, h.counted, count-lt mask i n (sym z) l)

      pub gathered-information : Gathered mask bytes n (i + 1) (count + 1) old (set message count (get_or bytes i 0))
      gathered-information = record {
        is =
            let at : get_or bytes i 0 ≡ get_or (information_bytes mask bytes n) count 0
            = rw h.counted (sym (information-at mask bytes n i (sym z) l)) in
            rw (at, h.is, add-one count)
            (overwrite-store count (λ k. get_or (information_bytes mask bytes n) k 0) old gathered-lt);
        counted = rw h.counted (count-information mask i (sym z));
      }

  pub gathered-frozen : false ≡ is_information (get_or mask i 0) → Gathered mask bytes n (i + 1) count old message
  gathered-frozen z = record { is = h.is; counted = h.counted ∙ count-frozen mask i (sym z) }
