-- Laws of `every`: it reads the first n places alone, is true where each of them is, grows by one place, and its first
-- place can be taken off. Of the places of a list it is the library's test of all, and a fold that keeps one flag.
use Rattle.std.specs.Prelude.{ℕ, zero, suc, ◌+◌, ◌≤◌, ◌<◌, ◌≡◌, refl, Bool, true, false, ◌&&◌, List, [], ◌∷◌}
use Rattle.std.specs.Prelude.{length, get_or, take}
use Rattle.std.specs.List.{fold, list_all}
use Rattle.std.proofs.Common.{sym, ap, ap₂, ◌∙◌, ⊎_elim, eq-or-lt_of_le, le_of_suc-le-suc, add-one, arith}
use Rattle.std.proofs.Common.{get_or-take, length-take-le}
use Rattle.std.proofs.Math.Bool.{and-true, and_assoc}
use Rattle.calls.specs.NumberLaws.{and-passed}
use Rattle.calls.specs.Every.{every}

-- what stands after a test matters only where the test passes
pub where-true : (a b c : Bool) → (a ≡ true → b ≡ c) → a && b ≡ a && c
where-true true b c h = h refl
where-true false b c h = refl

pub every-same : (n : ℕ) (p q : ℕ → Bool) → ((i : ℕ) → i < n → p i ≡ q i) → every n p ≡ every n q
every-same zero p q h = refl
every-same (suc n) p q h =
    ap₂ (λ (a b : Bool). a && b) (every-same n p q (λ i l. h i (omega arith))) (h n (omega arith))

pub every-at : (n i : ℕ) (p : ℕ → Bool) → every n p ≡ true → i < n → p i ≡ true
every-at zero i p e l = absurd (omega arith)
every-at (suc n) i p e l =
    ⊎_elim
    (λ z. rw z (and-passed (every n p) (p n) e).1)
    (λ k. every-at n i p (and-passed (every n p) (p n) e).0 k)
    (eq-or-lt_of_le (le_of_suc-le-suc l))

pub every_of : (n : ℕ) (p : ℕ → Bool) → ((i : ℕ) → i < n → p i ≡ true) → every n p ≡ true
every_of zero p h = refl
every_of (suc n) p h = rw (every_of n p (λ i l. h i (omega arith))) (h n (omega arith))

pub every-next : (i : ℕ) (p : ℕ → Bool) {flag v : Bool} → flag ≡ every i p → v ≡ p i → flag && v ≡ every (i + 1) p
every-next i p e f = rw add-one (ap₂ (λ (a b : Bool). a && b) e f)

pub every_first : (n : ℕ) (p : ℕ → Bool) → every (suc n) p ≡ p 0 && every n (λ i. p (suc i))
every_first zero p = sym (and-true (p 0))
every_first (suc n) p =
    ap (λ (a : Bool). a && p (suc n)) (every_first n p) ∙ and_assoc (p 0) (every n (λ i. p (suc i))) (p (suc n))

-- ---- the places of a list of any type, read with z past its end

module _ {A : Type 0} (z : A) (p : A → Bool) where
  pub every-listed : (xs : List A) → list_all p xs ≡ every (length xs) (λ i. p (get_or xs i z))
  every-listed [] = refl
  every-listed (x ∷ xs) =
      ap (λ (a : Bool). p x && a) (every-listed xs) ∙ sym (every_first (length xs) (λ i. p (get_or (x ∷ xs) i z)))

  pub every-folded : (b : Bool) (xs : List A)
      → fold (λ a x. a && p x) b xs ≡ b && every (length xs) (λ i. p (get_or xs i z))
  every-folded b [] = sym (and-true b)
  every-folded b (x ∷ xs) =
      every-folded (b && p x) xs ∙ and_assoc b (p x) (every (length xs) (λ i. p (get_or xs i z)))
      ∙ ap (λ (a : Bool). b && a) (sym (every_first (length xs) (λ i. p (get_or (x ∷ xs) i z))))

  -- the first n of a list, taken as a list of their own
  pub every_firsts : (n : ℕ) (xs : List A) → n ≤ length xs
      → every (length (take n xs)) (λ i. p (get_or (take n xs) i z)) ≡ every n (λ i. p (get_or xs i z))
  every_firsts n xs h =
      rw (length-take-le n xs h) (every-same n _ _ (λ i l. ap p (get_or-take n xs i z l)))
