-- Tests of whole slices: a fold that keeps the least of their sizes is at least a number where each of them is, and a
-- test of two slices side by side is that of their places.
use Prim.Native.Nat.{ℕ, min}
use mathlib.Core.Path.{◌≡◌, sym, ap, ◌∙◌}
use mathlib.Core.Bool.{Bool, ◌&&◌, and-true, and_assoc}
use mathlib.Core.List.{List, [], ◌∷◌, map}
use native.Mathlib.Omega.{arith}
use lib.Dec.{leb}
use lib.ListN.{length, get_or}
use Rattle.std.specs.List.{fold, zip}
use Rattle.std.proofs.lemmas.Bool.Decides.{nat_tests}
use Rattle.std.proofs.lemmas.Slice.Zip.{length-zip, get_or-zip}
use Rattle.calls.specs.Every.{every}
use Rattle.calls.specs.EveryLaws.{every-same, every_first}

module _ {A : Type 0} (z : A) where
  leb-min : (k a b : ℕ) → leb k (min a b) ≡ leb k a && leb k b
  leb-min k a b = grind (arith, nat_tests)

  pub fold-least : (k : ℕ) (size : A → ℕ) (a : ℕ) (xs : List A)
      → leb k (fold min a (map size xs)) ≡ leb k a && every (length xs) (λ i. leb k (size (get_or xs i z)))
  fold-least k size a [] = sym (and-true (leb k a))
  fold-least k size a (x ∷ xs) =
      let later : Bool = every (length xs) (λ i. leb k (size (get_or xs i z))) in
      fold-least k size (min a (size x)) xs ∙ ap (λ (b : Bool). b && later) (leb-min k a (size x))
      ∙ and_assoc (leb k a) (leb k (size x)) later
      ∙ ap (λ (b : Bool). leb k a && b) (sym (every_first (length xs) (λ i. leb k (size (get_or (x ∷ xs) i z)))))

-- the places of two lists, as far as the shorter reaches
pub every-zip : {A B : Type 0} (y : A) (z : B) (p : ℕ → A × B → Bool) (xs : List A) (ys : List B) (n : ℕ)
    → min (length xs) (length ys) ≡ n
    → every (length (zip xs ys)) (λ i. p i (get_or (zip xs ys) i (y, z)))
    ≡ every n (λ i. p i (get_or xs i y, get_or ys i z))
every-zip y z p xs ys n h =
    ap (λ k. every k (λ i. p i (get_or (zip xs ys) i (y, z)))) (length-zip xs ys ∙ h)
    ∙ every-same n _ _ (λ i l. ap (p i) (get_or-zip xs ys i (y, z) (omega arith) (omega arith)))
