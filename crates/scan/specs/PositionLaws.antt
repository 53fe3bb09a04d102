-- The definitions at the text from a position on, in the terms of a reader that keeps a position.
use Rattle.std.specs.Prelude.{ℕ, zero, suc, ◌+◌, ◌-◌, ◌*◌, ◌<◌, ◌≤◌, ◌≡◌, refl, true, cond, List, []}
use Rattle.std.specs.Prelude.{◌∷◌, eqb, pos, neg_ℤ, length, get_or, drop}
use Rattle.std.proofs.Common.{ap, ◌∙◌, arith, add-one, sub-one, drop_of_length-le, drop-cons}
use Rattle.scan.specs.Reading.{found, malformed, bind, first, rest}
use Rattle.scan.specs.Numbers.{is_digit, digits, natural, number}
use Rattle.scan.specs.Lines.{spaces, separator, literal}

-- ---- the byte at a position, and the text after it

pub first-drop : (i : ℕ) (t : List ℕ) → first (drop i t) ≡ get_or t i 0
first-drop zero [] = refl
first-drop zero (b ∷ t) = refl
first-drop (suc i) [] = refl
first-drop (suc i) (b ∷ t) = first-drop i t

pub rest-drop : (i : ℕ) (t : List ℕ) → rest (drop i t) ≡ drop (i + 1) t
rest-drop i t = rw add-one (by-suc i t)
  where
    by-suc : (i : ℕ) (t : List ℕ) → rest (drop i t) ≡ drop (suc i) t
    by-suc zero [] = refl
    by-suc zero (b ∷ t) = refl
    by-suc (suc i) [] = refl
    by-suc (suc i) (b ∷ t) = by-suc i t

-- after the end the first byte counts as 0, so any other byte has its place before the end
pub inside : (i : ℕ) (t : List ℕ) → 0 < first (drop i t) → i < length t
inside zero [] h = absurd (omega arith)
inside (suc i) [] h = absurd (omega arith)
inside zero (b ∷ t) h = omega arith
inside (suc i) (b ∷ t) h = omega (arith, inside i t h)

-- ---- numbers

pub digits-next : (k v i : ℕ) (t : List ℕ) → 0 < k → is_digit (first (drop i t)) ≡ true →
    digits k v (drop i t) ≡ digits (k - 1) (10 * v + (first (drop i t) - 48)) (drop (i + 1) t)
unfolding digits
digits-next zero v i t h e = absurd (omega arith)
digits-next (suc k) v i t h e = rw (e, sub-one (suc k), rest-drop i t)

pub number-minus : (i : ℕ) (t : List ℕ) → eqb (first (drop i t)) 45 ≡ true →
    number (drop i t) ≡ bind (natural 6 (drop (i + 1) t)) (λ n s. found (neg_ℤ (pos n)) s)
unfolding number
number-minus i t e = rw (e, rest-drop i t)

-- ---- what stands after a value

pub spaces-next : (i : ℕ) (t : List ℕ) → eqb (first (drop i t)) 32 ≡ true → spaces (drop i t) ≡ spaces (drop (i + 1) t)
unfolding spaces
spaces-next i t e = step (drop i t) e ∙ ap spaces (rest-drop i t)
  where
    step : (s : List ℕ) → eqb (first s) 32 ≡ true → spaces s ≡ spaces (rest s)
    step [] e = refl
    step (b ∷ s) e = rw e

pub separator-last : (i : ℕ) (t : List ℕ)
    → separator 0 (drop i t) ≡ cond (eqb (first (drop i t)) 10) (found tt (drop (i + 1) t)) malformed
unfolding separator
separator-last i t = rw (rest-drop i t)

-- ---- fixed texts

pub literal-next : (name : List ℕ) (i : ℕ) (t : List ℕ) (p : ℕ) → i < length name → p < length t →
    literal (drop i name) (drop p t)
    ≡ cond (eqb (get_or name i 0) (get_or t p 0)) (literal (drop (i + 1) name) (drop (p + 1) t)) malformed
unfolding literal
literal-next name i t p h g = rw (drop-cons name i 0 h, drop-cons t p 0 g, add-one i, add-one p)

pub literal-short : (name : List ℕ) (i : ℕ) (t : List ℕ) (p : ℕ) → i < length name → length t ≤ p
    → literal (drop i name) (drop p t) ≡ malformed
unfolding literal
literal-short name i t p h g = rw (drop-cons name i 0 h, drop_of_length-le t g)

pub literal-end : (name : List ℕ) (i : ℕ) (s : List ℕ) → length name ≤ i → literal (drop i name) s ≡ found tt s
unfolding literal
literal-end name i s h = rw (drop_of_length-le name h)
