-- Laws of a cursor: one text after another, and a text that is appended piece by piece.
use Rattle.std.specs.Prelude.{ℕ, ◌+◌, ◌-◌, ◌≡◌, refl, List, [], ◌++◌, ◌≤◌, length, take, drop}
use Rattle.std.proofs.Common.{sym, ap, ◌∙◌, subst, arith, zero-add}
use Rattle.std.proofs.Common.{append_assoc, append-nil, length-append, length-drop}
use Rattle.std.proofs.lemmas.List.{drop-drop}
use Rattle.std.proofs.lemmas.List.Edits.{sets, sets-eq}
use Rattle.std.proofs.Math.Seq.{length-sets, take-length, drop-length}
use Rattle.format.specs.declared.Cursor.{Cursor}
use Rattle.format.specs.Wrote.{Wrote}
use Rattle.format.specs.WroteLaws.{sets-append, wrote-first}
use Rattle.format.specs.Writing.{HasRoom, Appended}

-- nothing appended
pub appended_none : {c : Cursor} → Appended c [] c
appended_none {c = c} = record { out-is = refl; at-is = omega arith; same_reference = refl }

-- where two texts have room, the first has
pub room-before : (c : Cursor) (x y : List ℕ) → HasRoom c (x ++ y) → HasRoom c x
room-before c x y h = omega (arith, h, length-append x y)

module _ {old new : Cursor} {x : List ℕ} where
  -- the slice keeps its length
  pub appended-length : Appended old x new → length new.out.now ≡ length old.out.now
  appended-length a = ap length a.out-is ∙ length-sets old.out.now old.at x

  -- a second text after the first
  pub appended_then : {last : Cursor} {y : List ℕ} → Appended old x new → Appended new y last
      → Appended old (x ++ y) last
  appended_then {y = y} a b = record {
    out-is = b.out-is ∙ rw a.out-is (sym (sets-append old.out.now old.at new.at x y a.at-is));
    at-is = omega (arith, a.at-is, b.at-is, length-append x y);
    same_reference = b.same_reference ∙ a.same_reference;
  }

  -- where both have room, the second has room after the first
  pub room-after : (y : List ℕ) → Appended old x new → HasRoom old (x ++ y) → HasRoom new y
  room-after y a h = omega (arith, h, a.at-is, appended-length a, length-append x y)

  -- a cursor after a text that had room is within its slice
  pub appended-within : HasRoom old x → Appended old x new → new.at ≤ length new.out.now
  appended-within h a = omega (arith, h, a.at-is, appended-length a)

  -- what a cursor that began at the start of a slice leaves
  pub appended-wrote : old.at ≡ 0 → Appended old x new → Wrote old.out.now 0 x new.out.now new.at
  appended-wrote e a = record {
    new_is = a.out-is ∙ ap (λ (at : ℕ). sets old.out.now at x) e;
    next-is = omega (arith, a.at-is, e);
  }

-- to store a text in what is left of a slice is to store it there
sets-rest : (l x : List ℕ) (at : ℕ) → at + length x ≤ length l
    → take at l ++ (sets (take (length l - at) (drop at l)) 0 x ++ drop (length l - at) (drop at l)) ≡ sets l at x
sets-rest l x at h =
    let rest = drop at l in
    let long : length l - at ≡ length rest = sym (length-drop at l) in
    let after : drop (0 + length x) rest ≡ drop (at + length x) l =
    drop-drop (0 + length x) at l ∙ ap (λ (k : ℕ). drop (at + k) l) (zero-add (length x)) in
    let part : sets rest 0 x ≡ x ++ drop (at + length x) l =
    sets-eq x rest 0 (omega (arith, long, h)) ∙ ap (λ (r : List ℕ). x ++ r) after in
    rw (long, take-length rest, drop-length rest, append-nil (sets rest 0 x), part)
    (sym (sets-eq x l at h ∙ append_assoc (take at l) x (drop (at + length x) l)))

-- a text that is written in what is left of the slice
pub rest-wrote : (c : Cursor) {x rest : List ℕ} {n : ℕ} → HasRoom c x
    → Wrote (take (length c.out.now - c.at) (drop c.at c.out.now)) 0 x rest n
    → (take c.at c.out.now ++ (rest ++ drop (length c.out.now - c.at) (drop c.at c.out.now))
    ≡ sets c.out.now c.at x) × (c.at + n ≡ c.at + length x)
rest-wrote c {x} h w = (rw w.new_is (sets-rest c.out.now x c.at h), omega (arith, w.next-is))

-- at the start of a slice a text has room that is no longer
pub start-room : (c : Cursor) {out : List ℕ} (x : List ℕ) → (c.out.now ≡ out) × (c.at ≡ 0) → length x ≤ length out
    → HasRoom c x
start-room c x starts h = omega (arith, h, ap length starts.0, starts.1)

-- and what stands before the cursor afterwards is that text
pub appended-first : {old new : Cursor} {x : List ℕ} → old.at ≡ 0 → HasRoom old x → Appended old x new
    → take new.at new.out.now ≡ x
appended-first e h a = wrote-first (appended-wrote e a) (omega (arith, h, e))

-- A text that is partly appended: rest is left, and has room; once it is appended too, the whole of x is.
pub record Appending (old : Cursor) (x : List ℕ) (new : Cursor) (rest : List ℕ) : Type 0 where
  pub room : HasRoom new rest
  pub whole : {last : Cursor} → Appended new rest last → Appended old x last

module _ {old new : Cursor} {x rest : List ℕ} where
  -- the next piece has room
  pub appending-room : (y z : List ℕ) → Appending old x new rest → rest ≡ y ++ z → HasRoom new y
  appending-room y z p e = room-before new y z (subst (HasRoom new) e p.room)

  -- it is appended, and what follows it is left
  pub appending-next : {last : Cursor} {y z : List ℕ} → Appending old x new rest → rest ≡ y ++ z
      → Appended new y last → Appending old x last z
  appending-next {y = y} {z = z} p e a = record {
    room = room-after z a (subst (HasRoom new) e p.room);
    whole = λ {last} b. p.whole (subst (λ (l : List ℕ). Appended new l last) (sym e) (appended_then a b));
  }

  -- at the end nothing is left
  pub appending-ends : Appending old x new rest → rest ≡ [] → Appended old x new
  appending-ends p e = p.whole (subst (λ (l : List ℕ). Appended new l new) (sym e) appended_none)
