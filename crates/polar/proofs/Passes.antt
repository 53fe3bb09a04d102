-- The last four steps in one pass: they join no position with one outside its sixteen, so each sixteen is coded as a
-- block of its own.
use Rattle.std.proofs.Common.{ℕ, zero, suc, ◌+◌, ◌-◌, ◌*◌, ◌/◌, ◌%◌, ◌^◌, ◌≤◌, ◌<◌, ◌≡◌, sym, ap, ◌∙◌, Bool, List}
use Rattle.std.proofs.Common.{add-zero, add-suc, arith, length, get_or}
use Rattle.std.proofs.Math.Path.{fun_ext}
use Rattle.calls.specs.LentMemory.{overwrite, overwrite_from}
use Rattle.calls.specs.LentMemoryLaws.{
  length-overwrite,
  overwrite-behind,
  overwrite-more,
  overwrite-same,
  overwrite-twice,
}
use Rattle.calls.specs.Bits.{byte_of, bit_of}
use Rattle.polar.specs.Code.{coded}
use Rattle.polar.specs.Columns.{digit, column_step, column}
use Rattle.polar.specs.Private.{sixteens_coded}
use Rattle.polar.specs.BlockLaws.{bits_of, Bits, read_back}
use Rattle.polar.specs.TransformLaws.{column-coded, coded-same}
use Rattle.polar.proofs.Parts.{part, with_part, part-at, part-length, part-overwritten}
use Rattle.polar.proofs.Sixteens.{power-sixteens}
use Rattle.polar.proofs.Steps.{Columned}

-- ---- the steps of a sixteen are those of the whole

sixteen-digit : (t h i : ℕ) → t < 4 → digit t (h * 16 + i) ≡ digit t i
sixteen-digit zero h i l = omega arith
sixteen-digit (suc zero) h i l = omega arith
sixteen-digit (suc (suc zero)) h i l = omega arith
sixteen-digit (suc (suc (suc zero))) h i l = omega arith
sixteen-digit (suc (suc (suc (suc t)))) h i l = absurd (omega arith)

-- what stands from position h * 16 on
abbrev from : ℕ → (ℕ → Bool) → ℕ → Bool
from h v i = v (h * 16 + i)

sixteen-step : (t h : ℕ) (v : ℕ → Bool) → t < 4 → from h (column_step t v) ≡ column_step t (from h v)
sixteen-step t h v l = fun_ext (λ i.
    let e : h * 16 + i + 2 ^ t ≡ h * 16 + (i + 2 ^ t) = omega arith in
    rw (sixteen-digit t h i l, e))

sixteen-column : (m s h : ℕ) (u : ℕ → Bool) → 4 ≤ m → s ≤ 4
    → from h (column m u (m - 4 + s)) ≡ column 4 (from h (column m u (m - 4))) s
sixteen-column m zero h u k l = rw add-zero
sixteen-column m (suc s) h u k l =
    let e : m - suc (m - 4 + s) ≡ 4 - suc s = omega arith in
    rw (add-suc, e)
    (sixteen-step (4 - suc s) h (column m u (m - 4 + s)) (omega arith)
    ∙ ap (column_step (4 - suc s)) (sixteen-column m s h u k (omega arith)))

sixteens-coded : (m i : ℕ) (u : ℕ → Bool) → 4 ≤ m → i < 2 ^ m → sixteens_coded (column m u (m - 4)) i ≡ coded m u i
sixteens-coded m i u k l =
    let all : m - 4 + 4 ≡ m = omega arith in
    let whole : i / 16 * 16 + i % 16 ≡ i = omega arith in
    let v = from (i / 16) (column m u (m - 4)) in
    let ends : column m u m (i / 16 * 16 + i % 16) ≡ column 4 v 4 (i % 16)
    = rw all at (ap (λ (w : ℕ → Bool). w (i % 16)) (sixteen-column m 4 (i / 16) u k (omega arith))) in
    sym (column-coded 4 (i % 16) v (omega arith)) ∙ sym ends ∙ rw whole (column-coded m i u l)

-- ---- the first k sixteens are coded

abbrev recoded : List ℕ → ℕ → ℕ
recoded old i = byte_of (sixteens_coded (bits_of old) i)

pub record Recoded (k : ℕ) (old block : List ℕ) : Type 0 where
  pub is : block ≡ overwrite (16 * k) (recoded old) old

module _ {k : ℕ} {old block : List ℕ} (h : Recoded k old block) where
  recoded-length : length block ≡ length old
  recoded-length = ap length h.is ∙ simp length-overwrite

  abbrev next : List ℕ
  next = part (16 * k) block

  next-at : (j : ℕ) → get_or next j 0 ≡ get_or old (16 * k + j) 0
  next-at j =
      part-at (16 * k) j block
      ∙ rw h.is (overwrite-behind (16 * k) (recoded old) old (16 * k + j) 0 (omega arith))

  module _ (m : ℕ) (bits : Bits (2 ^ m) old) (fits : 16 * k + 16 ≤ 2 ^ m) where
    pub next-bits : Bits 16 next
    next-bits = record {
      long = omega (arith, part-length (16 * k) block, recoded-length, bits.long);
      at = λ i l. rw (next-at i) (bits.at (16 * k + i) (omega arith));
    }

    new : (i : ℕ) → i < 16 → byte_of (coded 4 (bits_of next) i) ≡ recoded old (16 * k + i)
    new i l =
        let start : (16 * k + i) / 16 * 16 ≡ 16 * k = omega arith in
        let place : (16 * k + i) % 16 ≡ i = omega arith in
        rw (start, place)
        (ap byte_of (coded-same 4 i (bits_of next) (λ j. bits_of old (16 * k + j)) (λ j q. ap bit_of (next-at j))))

    pub recoded-next : (y : List ℕ) → y ≡ overwrite 16 (λ i. byte_of (coded 4 (bits_of next) i)) next
        → Recoded (k + 1) old (with_part (16 * k) block y)
    recoded-next y e =
        let g : ℕ → ℕ = λ i. byte_of (coded 4 (bits_of next) i) in
        let more : 16 * (k + 1) ≡ 16 * k + 16 = omega arith in
        record {
          is = ap (with_part (16 * k) block) e
              ∙ part-overwritten (16 * k) 16 g block (omega (arith, recoded-length, bits.long))
              ∙ ap (overwrite_from (16 * k) 16 g) h.is
              ∙ rw more (overwrite-more (16 * k) 16 g (recoded old) old new);
        }

-- the last four steps after the others
pub columned-recoded : (m : ℕ) (old x y : List ℕ) → Bits (2 ^ m) old → 4 ≤ m → Columned m (m - 4) old x
    → y ≡ overwrite (2 ^ m) (recoded x) x
    → y ≡ overwrite (2 ^ m) (λ i. byte_of (coded m (bits_of old) i)) old
columned-recoded m old x y bits k h e =
    let v = column m (bits_of old) (m - 4) in
    let end : ℕ → ℕ = λ i. byte_of (coded m (bits_of old) i) in
    let read : (i : ℕ) → i < 2 ^ m → bits_of x i ≡ v i = read_back (2 ^ m) v old x bits.long h.is in
    e
    ∙ overwrite-same (2 ^ m) (recoded x) end x
    (λ i q r. ap byte_of
    (coded-same 4 (i % 16) _ _ (λ j l. read (i / 16 * 16 + j) (omega (arith, (power-sixteens m k).is)))
    ∙ sixteens-coded m i (bits_of old) k q))
    ∙ rw h.is (overwrite-twice (2 ^ m) end (λ i. byte_of (v i)) old)
