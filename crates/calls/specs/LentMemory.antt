-- What lent memory holds after a call: the answer in its stated places, its old contents everywhere else, and after a
-- refusal its old contents throughout; and when two calls write the same. Definitions only.
use Rattle.std.specs.Prelude.{ℕ, zero, suc, ◌≡◌, List, [], ◌∷◌, ◌++◌, length, take, drop}

module _ {A : Type 0} where
  -- g 0, g 1, .. g (n - 1) in the first n elements, the old contents after them
  abbrev pub overwrite : ℕ → (ℕ → A) → List A → List A
  overwrite zero g old = old
  overwrite (suc n) g [] = []
  overwrite (suc n) g (x ∷ old) = g 0 ∷ overwrite n (λ i. g (suc i)) old

  -- the same from element a on
  abbrev pub overwrite_from : ℕ → ℕ → (ℕ → A) → List A → List A
  overwrite_from zero n g old = overwrite n g old
  overwrite_from (suc a) n g [] = []
  overwrite_from (suc a) n g (x ∷ old) = x ∷ overwrite_from a n g old

  -- a list in the first elements, the old contents after it
  abbrev pub written_over : List A → List A → List A
  written_over values old = values ++ drop (length values) old

  -- what a call leaves, by the number of its answer: the new where it is accepted, the old where it is refused
  abbrev pub unless_refused : ℕ → A → A → A
  unless_refused zero new old = new
  unless_refused (suc number) new old = old

  -- a slice of each of two calls: afterwards its first n elements are the same in both, and every other element is what
  -- that slice held before
  pub record SameWritten (n : ℕ) (old old' new new' : List A) : Type 0 where
    pub first : take n new ≡ take n new'
    pub rest : drop n new ≡ drop n old
    pub rest' : drop n new' ≡ drop n old'
