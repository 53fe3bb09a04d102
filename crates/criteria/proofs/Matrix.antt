-- Criterion 1: untied marks are bits; copied and coded in place they give the coded bits, which
-- are compared with the coded marks.
use Prim.Native.Nat.{ℕ, zero, suc, ◌^◌, ◌≤◌, ◌<◌}
use mathlib.Core.Path.{◌≡◌, refl, ap, ◌∙◌}
use mathlib.Core.Bool.{Bool, true, false, not, beq}
use mathlib.Core.List.{List, [], ◌∷◌, ◌++◌}
use native.Mathlib.Nat.{pow-le-pow_right}
use native.Mathlib.Omega.{arith}
use borrow.Author.Tests.{not-true, eqb-false}
use lib.Dec.{eqb}
use lib.ListN.{length, get_or, drop}
use Rattle.calls.specs.Bounds.{largest_m, most_positions}
use Rattle.calls.specs.LentMemory.{overwrite}
use Rattle.calls.specs.LentMemoryLaws.{length-overwrite, overwrite-at}
use Rattle.calls.specs.Bits.{byte_of, bit_of}
use Rattle.polar.specs.Code.{coded}
use Rattle.polar.specs.BlockLaws.{bits_of, Bits}
use Rattle.polar.specs.TransformLaws.{coded-same}
use Rattle.calls.specs.Every.{every}
use Rattle.criteria.specs.Criteria.{untied, g_matrix}
use Rattle.criteria.specs.Private.{MarkBytes}
use Rattle.calls.specs.EveryLaws.{every-at, every-same}

pub room : (m : ℕ) → m ≤ largest_m → 2 ^ m ≤ most_positions
room m h = pow-le-pow_right {n = 2} (omega arith) h

byte-eqb : (b : Bool) (k : ℕ) → k ≤ 1 → eqb (byte_of b) k ≡ beq b (bit_of k)
byte-eqb b (suc (suc k)) h = absurd (omega arith)
byte-eqb false zero h = refl
byte-eqb false (suc zero) h = refl
byte-eqb true zero h = refl
byte-eqb true (suc zero) h = refl

untied-bit : (n : ℕ) (l : List ℕ) → MarkBytes n l → untied n (λ i. get_or l i 0) ≡ true → (i : ℕ) → i < n
    → get_or l i 0 ≤ 1
untied-bit n l h e i q =
    let two : get_or l i 0 ≡ 2 → ⊥ = eqb-false _ _ (not-true _ (every-at n i (λ i. not (eqb (get_or l i 0) 2)) e q)) in
    go (get_or l i 0) (h.at i q) two
  where
    go : (k : ℕ) → k ≤ 2 → (k ≡ 2 → ⊥) → k ≤ 1
    go zero h f = omega arith
    go (suc zero) h f = omega arith
    go (suc (suc k)) h f = absurd (f (omega arith))

-- a list before the rest of another is that one, overwritten
pub copied : (l old : List ℕ) → length l ≤ length old
    → l ++ drop (length l) old ≡ overwrite (length l) (λ i. get_or l i 0) old
copied [] old h = refl
copied (x ∷ l) [] h = absurd (omega arith)
copied (x ∷ l) (y ∷ old) h = ap (λ (r : List ℕ). x ∷ r) (copied l old (omega arith))

-- a block x that holds the marks, which are bits
pub record Holds (m : ℕ) (marks x : List ℕ) : Type 0 where
  pub long : 2 ^ m ≤ length x
  pub at : (i : ℕ) → i < 2 ^ m → get_or x i 0 ≡ get_or marks i 0
  pub bit : (i : ℕ) → i < 2 ^ m → get_or marks i 0 ≤ 1

pub copied-holds : {m : ℕ} {marks : List ℕ} (old x : List ℕ) → length marks ≡ 2 ^ m → MarkBytes (2 ^ m) marks
    → untied (length marks) (λ i. get_or marks i 0) ≡ true
    → length marks ≤ length old → x ≡ overwrite (length marks) (λ i. get_or marks i 0) old → Holds m marks x
copied-holds {m} {marks} old x n h clear l is = record {
  long = rw (is, length-overwrite) (omega arith);
  at = λ i q. rw is (overwrite-at (length marks) (λ i. get_or marks i 0) old i 0 (omega arith) (omega arith));
  bit = untied-bit (2 ^ m) marks h (rw n at clear);
}

module _ {m : ℕ} {marks x : List ℕ} (h : Holds m marks x) where
  pub holds-bits : Bits (2 ^ m) x
  holds-bits = record { long = h.long; at = λ i q. rw (h.at i q) (h.bit i q) }

  -- coded in place
  module _ (y : List ℕ) (becomes : y ≡ overwrite (2 ^ m) (λ i. byte_of (coded m (bits_of x) i)) x) where
    pub coded-long : 2 ^ m ≤ length y
    coded-long = rw (becomes, length-overwrite) h.long

    coded-at : (i : ℕ) → i < 2 ^ m → get_or y i 0 ≡ byte_of (coded m (λ j. bit_of (get_or marks j 0)) i)
    coded-at i q =
        let l : i < length x = omega (arith, h.long) in
        rw becomes (overwrite-at (2 ^ m) (λ i. byte_of (coded m (bits_of x) i)) x i 0 q l)
        ∙ ap byte_of (coded-same m i (bits_of x) (λ j. bit_of (get_or marks j 0)) (λ j l. ap bit_of (h.at j l)))

    pub compared : {coded_marks : List ℕ} → length marks ≡ 2 ^ m → length coded_marks ≡ 2 ^ m
        → MarkBytes (2 ^ m) coded_marks
        → untied (length marks) (λ i. get_or marks i 0) ≡ true
        → untied (length coded_marks) (λ i. get_or coded_marks i 0) ≡ true
        → every (length coded_marks) (λ i. eqb (get_or y i 0) (get_or coded_marks i 0))
        ≡ g_matrix m (λ i. get_or marks i 0) (λ i. get_or coded_marks i 0)
    compared {coded_marks} n n' k clear coded_clear =
        let clear' : untied (2 ^ m) (λ i. get_or marks i 0) ≡ true = rw n at clear in
        let coded_clear' : untied (2 ^ m) (λ i. get_or coded_marks i 0) ≡ true = rw n' at coded_clear in
        rw (n', clear', coded_clear')
        (every-same (2 ^ m) _ _ (λ i q.
        ap (λ (b : ℕ). eqb b (get_or coded_marks i 0)) (coded-at i q)
        ∙ byte-eqb (coded m (λ j. bit_of (get_or marks j 0)) i) (get_or coded_marks i 0)
        (untied-bit (2 ^ m) coded_marks k coded_clear' i q)))
