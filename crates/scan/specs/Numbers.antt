-- Document 01, "The report's text": "an optional minus and 1 to 6 digits, leading zeros allowed". Definitions only.
use Rattle.std.specs.Prelude.{ℕ, zero, suc, ◌+◌, ◌-◌, ◌*◌, Bool, cond, ◌&&◌, List, leb, eqb, ℤ, pos, neg_ℤ}
use Rattle.scan.specs.Reading.{Reading, found, malformed, bind, first, rest}

-- bytes 48 to 57
abbrev pub is_digit : ℕ → Bool
is_digit b = leb 48 b && leb b 57

-- at most k digits more, after those that made v
unfoldable pub digits : ℕ → ℕ → List ℕ → Reading ℕ
digits zero v s = found v s
digits (suc k) v s = cond (is_digit (first s)) (digits k (10 * v + (first s - 48)) (rest s)) (found v s)

-- 1 to k digits
unfoldable pub natural : ℕ → List ℕ → Reading ℕ
natural k s = cond (is_digit (first s)) (digits k 0 s) malformed

-- 1 to 6 digits with an optional minus, byte 45
unfoldable pub number : List ℕ → Reading ℤ
number s =
    cond (eqb (first s) 45)
    (bind (natural 6 (rest s)) (λ n s. found (neg_ℤ (pos n)) s))
    (bind (natural 6 s) (λ n s. found (pos n) s))
