-- Laws of writing: one text after another, and a text that is written piece by piece.
use Rattle.std.specs.Prelude.{ℕ, suc, ◌+◌, ◌≤◌, ◌≡◌, refl, List, [], ◌∷◌, ◌++◌, length, set, take, drop}
use Rattle.std.proofs.Common.{sym, ap, ◌∙◌, arith, add-zero, length-append, length-take-le}
use Rattle.std.proofs.lemmas.List.Edits.{sets, sets-eq}
use Rattle.std.proofs.Math.Seq.{length-sets, take-append_seam}
use Rattle.format.specs.Wrote.{Wrote, Within}

-- to store two texts, the second from the position j after the first on, is to store them as one
pub sets-append : (l : List ℕ) (i j : ℕ) (x y : List ℕ) → j ≡ i + length x → sets l i (x ++ y) ≡ sets (sets l i x) j y
sets-append l i j [] y e = let same : j ≡ i = omega arith in rw same
sets-append l i j (b ∷ x) y e = sets-append (set l i b) (suc i) j x y (omega arith)

module _ {old new : List ℕ} {at next : ℕ} {x : List ℕ} where
  -- the slice keeps its length
  pub wrote-length : Wrote old at x new next → length new ≡ length old
  wrote-length w = ap length w.new_is ∙ length-sets old at x

  -- a second text after the first
  pub wrote_then : {last : List ℕ} {end : ℕ} {y : List ℕ} → Wrote old at x new next → Wrote new next y last end
      → Wrote old at (x ++ y) last end
  wrote_then {y = y} w v = record {
    new_is = v.new_is ∙ rw w.new_is (sym (sets-append old at next x y w.next-is));
    next-is = omega (arith, w.next-is, v.next-is, length-append x y);
  }

  -- where both have room, the second has room after the first
  pub wrote-room : (y : List ℕ) → Wrote old at x new next → at + length (x ++ y) ≤ length old
      → next + length y ≤ length new
  wrote-room y w h = omega (arith, w.next-is, wrote-length w, length-append x y)

  -- the whole slice afterwards, where the text had room
  pub wrote-whole : Wrote old at x new next → at + length x ≤ length old
      → new ≡ take at old ++ x ++ drop (at + length x) old
  wrote-whole w h = w.new_is ∙ sets-eq x old at h

-- a text from the start of the slice on is what stands before the next position
pub wrote-first : {old new : List ℕ} {next : ℕ} {x : List ℕ} → Wrote old 0 x new next → length x ≤ length old
    → take next new ≡ x
wrote-first {old = old} {x = x} w h =
    let n : 0 + length x ≡ length x = omega arith in
    rw (w.new_is ∙ sets-eq x old 0 (omega arith), w.next-is, n) (take-append_seam x (drop (length x) old))

-- its length counts bytes of the slice
pub wrote-within : {old new : List ℕ} {at next : ℕ} {x : List ℕ} → Wrote old at x new next → next ≤ length old
    → Within next new
wrote-within {new = new} {next = next} w h =
    let long = wrote-length w in
    (omega (arith, long), sym (length-take-le next new (omega (arith, long))))

-- nothing written
pub wrote_none : {old : List ℕ} {at : ℕ} → Wrote old at [] old at
wrote_none {at = at} = record { new_is = refl; next-is = sym (add-zero at) }

-- one byte written
pub wrote-byte : {old : List ℕ} {at b : ℕ} → Wrote old at (b ∷ []) (set old at b) (at + 1)
wrote-byte = record { new_is = refl; next-is = refl }

-- A text that is partly written: once rest is written from position next on, the whole of x stands from position at on.
pub record Writing (old : List ℕ) (at : ℕ) (x new : List ℕ) (next : ℕ) (rest : List ℕ) : Type 0 where
  pub new-becomes : sets new next rest ≡ sets old at x
  pub next-becomes : next + length rest ≡ at + length x

-- at the start all is left
pub writing-starts : {old : List ℕ} {at : ℕ} {x : List ℕ} → Writing old at x old at x
writing-starts = record { new-becomes = refl; next-becomes = refl }

module _ {old new : List ℕ} {at next : ℕ} {x : List ℕ} where
  -- a piece is written, and the rest is left
  pub writing-next : {last rest : List ℕ} {end : ℕ} {y z : List ℕ} → Writing old at x new next rest → rest ≡ y ++ z
      → Wrote new next y last end →
      Writing old at x last end z
  writing-next {rest = rest} {end = end} {y = y} {z = z} u e w = record {
    new-becomes =
        rw w.new_is (sym (sets-append new next end y z w.next-is) ∙ ap (sets new next) (sym e) ∙ u.new-becomes);
    next-becomes = omega (arith, w.next-is, u.next-becomes, ap length e ∙ length-append y z);
  }

  -- one byte is written, and the rest is left
  pub writing-byte : {rest z : List ℕ} {b end : ℕ} → Writing old at x new next rest → rest ≡ b ∷ z → end ≡ next + 1
      → Writing old at x (set new next b) end z
  writing-byte {b = b} u e h = writing-next {y = b ∷ []} u e (record { new_is = refl; next-is = h })

  -- at the end nothing is left
  pub writing-ends : {rest : List ℕ} → Writing old at x new next rest → rest ≡ [] → Wrote old at x new next
  writing-ends {rest = rest} u e = record {
    new_is = sym (ap (sets new next) e) ∙ u.new-becomes;
    next-is = omega (arith, u.next-becomes, ap length e);
  }

  -- the slice keeps its length
  pub writing-length : {rest : List ℕ} → Writing old at x new next rest → length new ≡ length old
  writing-length {rest = rest} u = sym (length-sets new next rest) ∙ ap length u.new-becomes ∙ length-sets old at x

  -- where the whole text had room, the next piece has room
  pub writing-room : {rest : List ℕ} (y z : List ℕ) → Writing old at x new next rest → rest ≡ y ++ z
      → at + length x ≤ length old → next + length y ≤ length new
  writing-room {rest = rest} y z u e h =
      omega (arith, u.next-becomes, writing-length u, ap length e ∙ length-append y z)
