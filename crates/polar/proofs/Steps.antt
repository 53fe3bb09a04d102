-- The turns of the loops over runs and over positions of a step.
use Rattle.std.proofs.Common.{ℕ, suc, ◌+◌, ◌-◌, ◌^◌, ◌≤◌, ◌<◌, ◌≡◌, sym, ap, ap₂, ◌∙◌, Bool, List, add-one, arith}
use Rattle.std.proofs.Common.{bit_and, bit_xor, length, get_or, take, drop, take-append-drop, get_or-take}
use Rattle.std.proofs.Common.{get_or-drop, ◌++◌, length-take-le}
use Rattle.calls.specs.LentMemory.{overwrite, overwrite_from}
use Rattle.calls.specs.LentMemoryLaws.{length-overwrite, overwrite-append, overwrite-behind, overwrite-keeps}
use Rattle.calls.specs.LentMemoryLaws.{overwrite-more, overwrite-same, overwrite-twice}
use Rattle.calls.specs.Bits.{byte_of}
use Rattle.polar.specs.Code.{coded}
use Rattle.polar.specs.Columns.{digit, column_step, column}
use Rattle.calls.specs.BitLaws.{byte-of-bit, xor_bytes}
use Rattle.polar.specs.BlockLaws.{bits_of, Bits, bits-own, bits-written, read_back}
use Rattle.polar.specs.DigitLaws.{Multiple, multiple-next, mask-clear, run-digit, run_fits, upper_fits}
use Rattle.polar.specs.DigitLaws.{column-step-same}
use Rattle.polar.specs.TransformLaws.{column-coded, coded-same}
use Rattle.polar.proofs.Parts.{part, with_part, part-at, part-overwritten}

-- ---- two runs: each position of the first is joined with the one d after it

abbrev pair : List ℕ → ℕ → ℕ → ℕ
pair l d j = bit_xor (get_or l j 0) (get_or l (d + j) 0)

pub runs-joined : (d : ℕ) (runs upper lower new : List ℕ) → d ≤ length runs → upper ≡ take d runs → lower ≡ drop d runs
    → new ≡ overwrite d (λ i. bit_xor (get_or upper i 0) (get_or lower i 0)) upper
    → new ++ lower ≡ overwrite d (pair runs d) runs
runs-joined d runs upper lower new long front back e =
    let fits : d ≤ length (take d runs) = omega (arith, length-take-le d runs long) in
    rw (e, front, back, ← overwrite-append, take-append-drop)
    (overwrite-same d _ (pair runs d) runs (λ i q r. ap₂ bit_xor (get_or-take d runs i 0 q) (get_or-drop d runs i 0)))

-- ---- a step over the distance 2 ^ t: the first p positions, whole runs, are done

abbrev pub stepped : ℕ → List ℕ → ℕ → ℕ
stepped t old i = byte_of (column_step t (bits_of old) i)

pub record Stepped (t p : ℕ) (old block : List ℕ) : Type 0 where
  pub runs : Multiple (2 ^ t) p
  pub is : block ≡ overwrite p (stepped t old) old

module _ {t p : ℕ} {old block : List ℕ} (h : Stepped t p old block) where
  pub stepped-length : length block ≡ length old
  stepped-length = ap length h.is ∙ simp length-overwrite

  module _ (m : ℕ) (ht : t < m) (hp : p < 2 ^ m) (bits : Bits (2 ^ m) old) where
    own : (i : ℕ) → i < 2 ^ m → byte_of (bits_of old i) ≡ get_or old i 0
    own i l = byte-of-bit (get_or old i 0) (bits.at i l)

    abbrev d : ℕ
    d = 2 ^ t

    -- an upper run, by the code's mask test: it is in the block, and so is its pair
    pub pair-fits : (e : ℕ) → e ≡ d → bit_and p e ≡ 0 → p + e + e ≤ length block
    pair-fits e same z =
        rw same
        (omega (arith, stepped-length, bits.long, upper_fits t p h.runs m ht hp (mask-clear p t e same z)))

    -- what stands from p on is as it was
    here : (i : ℕ) → p ≤ i → i < 2 ^ m → get_or block i 0 ≡ byte_of (bits_of old i)
    here i q l = rw h.is (overwrite-behind p (stepped t old) old i 0 q) ∙ sym (own i l)

    joins : digit t p ≡ 0 → (i : ℕ) → i < d → pair (part p block) d i ≡ stepped t old (p + i)
    joins z i l =
        let in_block = upper_fits t p h.runs m ht hp z in
        let across : p + (d + i) ≡ p + i + d = omega arith in
        let upper : digit t (p + i) ≡ 0 = run-digit t p h.runs i l ∙ z in
        ap₂ bit_xor (part-at p i block ∙ here (p + i) (omega arith) (omega arith))
        (part-at p (d + i) block ∙ rw across (here (p + i + d) (omega arith) (omega arith)))
        ∙ xor_bytes (bits_of old (p + i)) (bits_of old (p + i + d))
        ∙ rw upper

    pub stepped-upper : digit t p ≡ 0 → (e : ℕ) (new : List ℕ) → e ≡ d
        → new ≡ overwrite e (pair (part p block) e) (part p block)
        → Stepped t (p + e) old (with_part p block new)
    stepped-upper z e new same is = rw same record {
      runs = multiple-next h.runs;
      is = ap (with_part p block) is
          ∙ rw same (part-overwritten p d (pair (part p block) d) block (omega (arith, stepped-length, bits.long)))
          ∙ ap (overwrite_from p d (pair (part p block) d)) h.is
          ∙ overwrite-more p d (pair (part p block) d) (stepped t old) old (joins z);
    }

    -- a lower run
    keeps : digit t p ≡ 1 → (i : ℕ) → p ≤ i → i < p + d → get_or old i 0 ≡ stepped t old i
    keeps o i low l =
        let e : p + (i - p) ≡ i = omega arith in
        let lower : digit t i ≡ 1 = rw e at (run-digit t p h.runs (i - p) (omega arith)) ∙ o in
        rw lower (sym (own i (omega (arith, run_fits t p h.runs m ht hp))))

    pub stepped-lower : digit t p ≡ 1 → (e : ℕ) → e ≡ d → Stepped t (p + e) old block
    stepped-lower o e same = rw same record {
      runs = multiple-next h.runs;
      is = h.is ∙ overwrite-keeps p d (stepped t old) old 0 (keeps o);
    }

-- ---- the transform: the block holds column s

pub record Columned (m s : ℕ) (old block : List ℕ) : Type 0 where
  pub is : block ≡ overwrite (2 ^ m) (λ i. byte_of (column m (bits_of old) s i)) old

pub columned-none : {m : ℕ} {old : List ℕ} → Bits (2 ^ m) old → Columned m 0 old old
columned-none bits = record { is = sym (bits-own bits) }

module _ {m s : ℕ} {old block : List ℕ} (h : Columned m s old block) where
  pub columned-bits : Bits (2 ^ m) old → Bits (2 ^ m) block
  columned-bits bits = bits-written (2 ^ m) (column m (bits_of old) s) old block bits.long h.is

  pub columned-next : Bits (2 ^ m) old → s < m → (y : List ℕ) → y ≡ overwrite (2 ^ m) (stepped (m - 1 - s) block) block
      → Columned m (s + 1) old y
  columned-next bits l y e =
      let t : m - 1 - s ≡ m - suc s = omega arith in
      record {
        is = rw (add-one s, e, t)
            (overwrite-same (2 ^ m) (stepped (m - suc s) block) (λ i. byte_of (column m (bits_of old) (suc s) i)) block
            (λ i q r. ap byte_of
            (column-step-same m (m - suc s) i (bits_of block) (column m (bits_of old) s) (omega arith) q
            (read_back (2 ^ m) (column m (bits_of old) s) old block bits.long h.is)))
            ∙ rw h.is
            (overwrite-twice (2 ^ m) (λ i. byte_of (column m (bits_of old) (suc s) i))
            (λ i. byte_of (column m (bits_of old) s i)) old));
      }

  pub columned-all : s ≡ m → block ≡ overwrite (2 ^ m) (λ i. byte_of (coded m (bits_of old) i)) old
  columned-all e =
      h.is ∙ rw e (overwrite-same (2 ^ m) _ _ old (λ i q r. ap byte_of (column-coded m i (bits_of old) q)))

-- ---- the bits u, placed and then coded in place, give the coded bits of u
pub placed-coded : (m : ℕ) (u : ℕ → Bool) (old x y : List ℕ) → 2 ^ m ≤ length old
    → x ≡ overwrite (2 ^ m) (λ i. byte_of (u i)) old
    → y ≡ overwrite (2 ^ m) (λ i. byte_of (coded m (bits_of x) i)) x
    → y ≡ overwrite (2 ^ m) (λ i. byte_of (coded m u i)) old
placed-coded m u old x y long placed is =
    is
    ∙ overwrite-same (2 ^ m) _ (λ i. byte_of (coded m u i)) x
    (λ i q r. ap byte_of (coded-same m i (bits_of x) u (read_back (2 ^ m) u old x long placed)))
    ∙ rw placed (overwrite-twice (2 ^ m) (λ i. byte_of (coded m u i)) (λ i. byte_of (u i)) old)
