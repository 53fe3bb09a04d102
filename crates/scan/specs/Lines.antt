-- Document 01, "The report's text": a line of values, "parted by one or more spaces, none at either end", ended by byte
-- 10; and a fixed text. Definitions only.
use Rattle.std.specs.Prelude.{ℕ, zero, suc, cond, List, [], ◌∷◌, eqb, ℤ}
use Rattle.scan.specs.Reading.{Reading, found, malformed, bind, first, rest}
use Rattle.scan.specs.Numbers.{natural, number}

-- the text after its leading spaces, bytes 32
unfoldable pub spaces : List ℕ → List ℕ
spaces [] = []
spaces (b ∷ s) = cond (eqb b 32) (spaces s) (b ∷ s)

-- what stands after a value with n more to come in its line: byte 10 after the last, one or more spaces after any
-- other
unfoldable pub separator : ℕ → List ℕ → Reading Unit
separator zero s = cond (eqb (first s) 10) (found tt (rest s)) malformed
separator (suc n) s = cond (eqb (first s) 32) (found tt (spaces s)) malformed

-- a line of n values
unfoldable pub line : ℕ → List ℕ → Reading (List ℤ)
line zero s = found [] s
line (suc n) s =
    bind (number s) (λ z s.
    bind (separator n s) (λ _ s.
    bind (line n s) (λ zs s. found (z ∷ zs) s)))

-- request 2026-05, a count in a line of counts: 1 to 9 digits, and what stands after them with n more to come
unfoldable pub item : ℕ → List ℕ → Reading ℕ
item n s =
    bind (natural 9 s) (λ v s.
    bind (separator n s) (λ _ s. found v s))

-- exactly these bytes
unfoldable pub literal : List ℕ → List ℕ → Reading Unit
literal [] s = found tt s
literal (a ∷ name) [] = malformed
literal (a ∷ name) (b ∷ s) = cond (eqb a b) (literal name s) malformed
