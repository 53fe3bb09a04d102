-- Laws of numbers and lines: by which steps they are written, and how long they are at most.
use Rattle.std.specs.Prelude.{ℕ, zero, suc, ◌+◌, ◌*◌, ◌/◌, ◌%◌, ◌^◌, ◌<◌, ◌≤◌, ◌≡◌, refl, Bool, true, false, cond, List}
use Rattle.std.specs.Prelude.{[], ◌∷◌, ◌++◌, ltb, ℤ, pos, negsuc, nat_abs, length, get_or, drop}
use Rattle.std.proofs.Common.{sym, ap, ◌∙◌, true≢false, append_assoc, append-nil, arith, add-one, lt-ltb, le-ltb}
use Rattle.std.proofs.Common.{ltb-true, ltb-false, length-append, drop_of_length-le, drop-cons}
use Rattle.std.proofs.Math.Nat.{pow-succ'}
use Rattle.std.specs.Int.Signed.{lt_z}
use Rattle.format.specs.Decimal.{digits, decimal, shown, line}

-- a text and one byte after it
pub length_last : (x : List ℕ) (b : ℕ) → length (x ++ (b ∷ [])) ≡ length x + 1
length_last x b = length-append x (b ∷ [])

-- induction by digits: what holds of every number below 10, and of any other where it holds of its tenth, holds of
-- every number
pub by_digits : (P : ℕ → Type 0) → ((n : ℕ) → n < 10 → P n) → ((n : ℕ) → 10 ≤ n → P (n / 10) → P n) → (n : ℕ) → P n
by_digits P small large n = below (suc n) n (omega arith)
  where
    split : (n : ℕ) (t : Bool) → ltb n 10 ≡ t → (10 ≤ n → P (n / 10)) → P n
    split n true e tenth = small n (ltb-true n 10 e)
    split n false e tenth = let h = ltb-false n 10 e in large n h (tenth h)

    below : (k n : ℕ) → n < k → P n
    below zero n h = absurd (omega arith)
    below (suc k) n h = split n (ltb n 10) refl (λ g. below k (n / 10) (omega arith))

-- how many digits are allowed does not matter, where there are more than n
digits-enough : (n k l : ℕ) → n < k → n < l → digits k n ≡ digits l n
unfolding digits
digits-enough = by_digits (λ n. (k l : ℕ) → n < k → n < l → digits k n ≡ digits l n) small large
  where
    small : (n : ℕ) → n < 10 → (k l : ℕ) → n < k → n < l → digits k n ≡ digits l n
    small n s zero l h g = absurd (omega arith)
    small n s (suc k) zero h g = absurd (omega arith)
    small n s (suc k) (suc l) h g = rw (lt-ltb n 10 s)

    large : (n : ℕ) → 10 ≤ n → ((k l : ℕ) → n / 10 < k → n / 10 < l → digits k (n / 10) ≡ digits l (n / 10)) →
        (k l : ℕ) → n < k → n < l → digits k n ≡ digits l n
    large n s tenth zero l h g = absurd (omega arith)
    large n s tenth (suc k) zero h g = absurd (omega arith)
    large n s tenth (suc k) (suc l) h g = rw (le-ltb n 10 s, tenth k l (omega arith) (omega arith))

-- a number below 10 is one digit
pub decimal-small : (n : ℕ) → n < 10 → decimal n ≡ (48 + n) ∷ []
unfolding decimal digits
decimal-small n h = rw (lt-ltb n 10 h)

-- any other is its tenth in decimal, and the last digit after it
pub decimal-large : (n : ℕ) → 10 ≤ n → decimal n ≡ decimal (n / 10) ++ ((48 + n % 10) ∷ [])
unfolding decimal digits
decimal-large n h = rw (le-ltb n 10 h, digits-enough (n / 10) n (suc (n / 10)) (omega arith) (omega arith))

-- a number of 10 or more is one byte longer than its tenth
pub decimal-longer : (n : ℕ) → 10 ≤ n → length (decimal n) ≡ length (decimal (n / 10)) + 1
decimal-longer n h = ap length (decimal-large n h) ∙ length_last (decimal (n / 10)) (48 + n % 10)

-- a number below a power of 10 has at most as many digits as the exponent says
pub decimal-length : (k n : ℕ) → n < 10 ^ suc k → length (decimal n) ≤ suc k
decimal-length k n = by_digits (λ n. (k : ℕ) → n < 10 ^ suc k → length (decimal n) ≤ suc k) small large n k
  where
    small : (n : ℕ) → n < 10 → (k : ℕ) → n < 10 ^ suc k → length (decimal n) ≤ suc k
    small n s k h = omega (arith, ap length (decimal-small n s))

    large : (n : ℕ) → 10 ≤ n → ((k : ℕ) → n / 10 < 10 ^ suc k → length (decimal (n / 10)) ≤ suc k) → (k : ℕ)
        → n < 10 ^ suc k → length (decimal n) ≤ suc k
    large n s tenth zero h = absurd (omega arith)
    large n s tenth (suc k) h =
        let l = tenth k (omega (arith, pow-succ' 10 (suc k))) in omega (arith, decimal-longer n s)

-- a number below 0 is a minus and its size in decimal
pub shown-negative : (z : ℤ) → lt_z z (pos 0) ≡ true → shown z ≡ 45 ∷ decimal (nat_abs z)
unfolding shown
shown-negative (pos n) e = let h : n < 0 = ltb-true n 0 e in absurd (omega arith)
shown-negative (negsuc n) e = refl

-- any other is its size in decimal
pub shown-positive : (z : ℤ) → lt_z z (pos 0) ≡ false → shown z ≡ decimal (nat_abs z)
unfolding shown
shown-positive (pos n) e = refl
shown-positive (negsuc n) e = absurd (true≢false e)

-- a value of at most four digits takes at most five bytes
pub shown-length : (z : ℤ) → nat_abs z ≤ 9999 → length (shown z) ≤ 5
unfolding shown
shown-length (pos n) h = let l = decimal-length 3 n (omega arith) in omega arith
shown-length (negsuc n) h = let l = decimal-length 3 (suc n) (omega arith) in omega arith

-- the byte after a value, by the values that follow: a space, or byte 10 where there are none
abbrev pub behind : List ℤ → ℕ
behind [] = 10
behind (z ∷ zs) = 32

-- a line is its first value, the byte after it, and the line of the rest
pub line-cons : (z : ℤ) (zs : List ℤ) → line (z ∷ zs) ≡ shown z ++ (behind zs ∷ []) ++ line zs
unfolding line
line-cons z [] = sym (append-nil (shown z ++ (10 ∷ [])))
line-cons z (y ∷ zs) = sym (append_assoc (shown z) (32 ∷ []) (line (y ∷ zs)))

-- values follow the j-th position exactly where it is below the length
pub behind-drop : (zs : List ℤ) (j : ℕ) → cond (ltb j (length zs)) 32 10 ≡ behind (drop j zs)
behind-drop zs j = split (ltb j (length zs)) refl
  where
    split : (t : Bool) → ltb j (length zs) ≡ t → cond t 32 10 ≡ behind (drop j zs)
    split true e = sym (ap behind (drop-cons zs j (pos 0) (ltb-true j (length zs) e)))
    split false e = sym (ap behind (drop_of_length-le zs (ltb-false j (length zs) e)))

-- what stands from the i-th value of a line on: the value, the byte b after it, and the rest
pub line-next : (zs : List ℤ) (i b : ℕ) → i < length zs → b ≡ cond (ltb (i + 1) (length zs)) 32 10 →
    line (drop i zs) ≡ shown (get_or zs i (pos 0)) ++ (b ∷ []) ++ line (drop (i + 1) zs)
unfolding line
line-next zs i b h e =
    rw (e ∙ behind-drop zs (i + 1), add-one i, drop-cons zs i (pos 0) h)
    (cons (get_or zs i (pos 0)) (drop (suc i) zs))
  where
    -- `line-cons` again: each law stands by itself, so that each says by itself where a definition breaks it
    cons : (z : ℤ) (zs : List ℤ) → line (z ∷ zs) ≡ shown z ++ (behind zs ∷ []) ++ line zs
    cons z [] = sym (append-nil (shown z ++ (10 ∷ [])))
    cons z (y ∷ zs) = sym (append_assoc (shown z) (32 ∷ []) (line (y ∷ zs)))

-- after the last value nothing is left
pub line-ends : (zs : List ℤ) (i : ℕ) → length zs ≤ i → line (drop i zs) ≡ []
unfolding line
line-ends zs i h = rw (drop_of_length-le zs h)

-- every value has at most four digits; for a list of given values this is one bound a value, which `omega arith` shows
abbrev pub FourDigits : List ℤ → Type 0
FourDigits [] = Unit
FourDigits (z ∷ zs) = (nat_abs z ≤ 9999) × FourDigits zs

-- a line of such values takes at most six bytes a value
pub line-length : (zs : List ℤ) → FourDigits zs → length (line zs) ≤ 6 * length zs
unfolding line
line-length [] h = omega arith
line-length (z ∷ []) h = omega (arith, length_last (shown z) 10, shown-length z h.0)
line-length (z ∷ y ∷ zs) h =
    let l = line-length (y ∷ zs) h.1 in
    omega (arith, length-append (shown z) (32 ∷ line (y ∷ zs)), shown-length z h.0)

-- the same bound, given by position
pub four-digits : (zs : List ℤ) → ((i : ℕ) → nat_abs (get_or zs i (pos 0)) ≤ 9999) → FourDigits zs
four-digits [] h = tt
four-digits (z ∷ zs) h = (h 0, four-digits zs (λ i. h (suc i)))
