-- Arrays that are made of their indices, by a function that changes nothing.
use Prim.Native.Nat.{ℕ, zero, suc, ◌+◌, ◌<◌}
use mathlib.Core.Path.{◌≡◌, sym, subst, ◌∙◌}
use mathlib.Core.List.{List, [], ◌∷◌}
use native.Mathlib.Omega.{arith}
use denote.Param.Members.{Mut, Called}
use Rattle.std.specs.Array.{index_steps, IsFromFnResultFrom, IsFromFnResult}
use Rattle.std.specs.Iterator.{CallableAtEachTurn}
use Rattle.std.specs.List.{FoldsTo, slice_index_or}

-- it may be called at each index below n
module _ {P : Type 0} (R : P → ℕ → P → Type 0) (stays : (x : ℕ) (p q : P) → R p x q → q ≡ p) where
  unmoved : (xs : List ℕ) (p q : P) → FoldsTo R p xs q → q ≡ p
  unmoved [] p q e = sym e
  unmoved (x ∷ xs) p q (j, r, f) = unmoved xs j q f ∙ stays x p j r

  pub callable : (n : ℕ) (Q : P → ℕ → Type 0) (p : P) → ((x : ℕ) → x < n → Q p x)
      → CallableAtEachTurn (index_steps n) R Q 0 p
  callable n Q p h =
      record {
        at = λ xs t q x u y f s. subst (λ (k : P). Q k x) (sym (unmoved xs p q f)) (h x (omega (arith, s.0, s.1)));
      }

-- each element is what the call at its index gave
module _ {F B : Type 0} {g : Mut F (ℕ × Unit {0}) B} {f : F} (G : ℕ → B → Type 0)
    (gives : (i : ℕ) (y : B) (q : F) → Called g f (i, tt) y q → (q ≡ f) × G i y) (ys : List B) (d : B) where
  from : (n i : ℕ) → IsFromFnResultFrom g f ys i n → (j k : ℕ) → j < n → k ≡ i + j → G k (slice_index_or ys k d)
  from zero i h j k l e = absurd (omega arith)
  from (suc n) i (q, y, there, called, rest) zero k l e =
      let own : k ≡ i = omega arith in
      rw own (rw (there.1 d) ((gives i y q called).1))
  from (suc n) i (q, y, there, called, rest) (suc j) k l e =
      from n (i + 1) (rw ((gives i y q called).0) at rest) j k (omega arith) (omega arith)

  pub made : {n : ℕ} → IsFromFnResult g f ys n → (i : ℕ) → i < n → G i (slice_index_or ys i d)
  made {n} h i l = from n 0 h.each i i l (omega arith)
