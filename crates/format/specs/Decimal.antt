-- Document 01, "The report's text": how a number and a line of values are written. Definitions only.
use Rattle.std.specs.Prelude.{ℕ, zero, suc, ◌+◌, ◌/◌, ◌%◌, cond, List, [], ◌∷◌, ◌++◌, ltb, ℤ, pos, negsuc}

-- the last k digits of n, or all of them where n has fewer; byte 48 is the digit 0
unfoldable pub digits : ℕ → ℕ → List ℕ
digits zero n = []
digits (suc k) n =
    -- bound first, so that a computation goes no further than the first digit
    let longer = digits k (n / 10) ++ ((48 + n % 10) ∷ []) in cond (ltb n 10) ((48 + n) ∷ []) longer

-- n in decimal, without leading zeros: n has at most n + 1 digits
unfoldable pub decimal : ℕ → List ℕ
decimal n = digits (suc n) n

-- a whole number, with a minus (byte 45) before a negative one and no other
unfoldable pub shown : ℤ → List ℕ
shown (pos n) = decimal n
shown (negsuc n) = 45 ∷ decimal (suc n)

-- the values of a line, parted by one space (byte 32), and byte 10 at its end
unfoldable pub line : List ℤ → List ℕ
line [] = []
line (z ∷ []) = shown z ++ (10 ∷ [])
line (z ∷ y ∷ zs) = shown z ++ (32 ∷ line (y ∷ zs))
