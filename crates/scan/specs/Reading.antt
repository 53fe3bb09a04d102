-- What reading the start of a text finds. Definitions only.
use Rattle.std.specs.Prelude.{ℕ, List, [], ◌∷◌}

-- something, and the text after it; or nothing that the rules allow
pub data Reading (A : Type 0) : Type 0 where
  found : A → List ℕ → Reading A
  malformed : Reading A

-- one reading after another: the second goes on where the first ended, and may depend on what it found
module _ {A B : Type 0} where
  abbrev pub bind : Reading A → (A → List ℕ → Reading B) → Reading B
  bind (found a s) next = next a s
  bind malformed next = malformed

  -- what to make of a reading that found something, and what where it did not
  abbrev pub if_found : Reading A → B → (A → List ℕ → B) → B
  if_found (found a s) none next = next a s
  if_found malformed none next = none

-- the first byte of a text, 0 where it is empty (no rule lets a byte 0 pass), and the text after it
abbrev pub first : List ℕ → ℕ
first [] = 0
first (b ∷ s) = b

abbrev pub rest : List ℕ → List ℕ
rest [] = []
rest (b ∷ s) = s
