-- Reading what was written gives it back: numbers, lines and fixed texts, in front of any text.
use Rattle.std.specs.Prelude.{ℕ, suc, ◌+◌, ◌-◌, ◌*◌, ◌/◌, ◌%◌, ◌<◌, ◌≤◌, ◌≡◌, refl, true, false, List, [], ◌∷◌, ◌++◌}
use Rattle.std.specs.Prelude.{eqb, ℤ, pos, negsuc, nat_abs, length}
use Rattle.std.proofs.Common.{sym, ap, ap₂, ◌∙◌, append_assoc, add_assoc, zero-add, one-add, arith, length-append}
use Rattle.std.proofs.Common.{le-leb, eq-eqb, ne_eqb}
use Rattle.format.specs.Decimal as format
use Rattle.format.specs.Decimal.{decimal, shown}
use Rattle.format.specs.DecimalLaws.{
  length_last,
  by_digits,
  decimal-small,
  decimal-large,
  decimal-length,
  behind,
  line-cons,
  FourDigits,
}
use Rattle.scan.specs.Reading.{Reading, found, malformed, first}
use Rattle.scan.specs.Numbers.{is_digit, digits, natural, number}
use Rattle.scan.specs.Lines.{spaces, separator, line, literal}
use Rattle.scan.specs.ScanLaws.{digit-range, digits-end, natural-found, spaces-end}

-- ---- numbers

is-digit : (d : ℕ) → d < 10 → is_digit (48 + d) ≡ true
is-digit d h = rw (le-leb 48 (48 + d) (omega arith)) (le-leb (48 + d) 57 (omega arith))

-- one digit more
digits-one : (j v d : ℕ) (s : List ℕ) → d < 10 → digits (1 + j) v ((48 + d) ∷ s) ≡ digits j (10 * v + d) s
unfolding digits
digits-one j v d s h = let e : 48 + d - 48 ≡ d = omega arith in rw (one-add j, is-digit d h, e)

-- as many digits as n has make n
abbrev DigitsBack : ℕ → Type 0
DigitsBack n = (j : ℕ) (s : List ℕ) → digits (length (decimal n) + j) 0 (decimal n ++ s) ≡ digits j n s

digits-back : (n : ℕ) → DigitsBack n
digits-back = by_digits DigitsBack small large
  where
    small : (n : ℕ) → n < 10 → DigitsBack n
    small n h j s = rw (decimal-small n h) (digits-one j 0 n s h ∙ ap (λ (v : ℕ). digits j v s) (zero-add n))

    large : (n : ℕ) → 10 ≤ n → DigitsBack (n / 10) → DigitsBack n
    large n h tenth j s =
        let whole : 10 * (n / 10) + n % 10 ≡ n = omega arith in
        rw (
          decimal-large n h,
          length_last (decimal (n / 10)) (48 + n % 10),
          add_assoc (length (decimal (n / 10))) 1 j,
          append_assoc (decimal (n / 10)) ((48 + n % 10) ∷ []) s,
        )
        (tenth (1 + j) ((48 + n % 10) ∷ s)
        ∙ digits-one j (n / 10) (n % 10) s (omega arith)
        ∙ ap (λ (v : ℕ). digits j v s) whole)

-- so a number's digits are its own
pub decimal-same : (n k : ℕ) (s : List ℕ) → decimal n ++ s ≡ decimal k ++ s → n ≡ k
unfolding digits
decimal-same n k s e =
    let long : length (decimal n) ≡ length (decimal k) =
    omega (arith, ap length e, length-append (decimal n) s, length-append (decimal k) s) in
    ap value_of (sym (digits-back n 0 s) ∙ ap₂ (λ (j : ℕ) (t : List ℕ). digits (j + 0) 0 t) long e ∙ digits-back k 0 s)
  where
    value_of : Reading ℕ → ℕ
    value_of (found v t) = v
    value_of malformed = 0

abbrev FirstDigit : ℕ → Type 0
FirstDigit n = (s : List ℕ) → is_digit (first (decimal n ++ s)) ≡ true

first-digit : (n : ℕ) → FirstDigit n
first-digit = by_digits FirstDigit small large
  where
    small : (n : ℕ) → n < 10 → FirstDigit n
    small n h s = rw (decimal-small n h) (is-digit n h)

    large : (n : ℕ) → 10 ≤ n → FirstDigit (n / 10) → FirstDigit n
    large n h tenth s =
        rw (decimal-large n h, append_assoc (decimal (n / 10)) ((48 + n % 10) ∷ []) s) (tenth ((48 + n % 10) ∷ s))

natural-back : (n : ℕ) (s : List ℕ) → n ≤ 999999 → is_digit (first s) ≡ false → natural 6 (decimal n ++ s) ≡ found n s
natural-back n s h e =
    let short = decimal-length 5 n (omega arith) in
    let left = 6 - length (decimal n) in
    let six : length (decimal n) + left ≡ 6 = omega arith in
    natural-found 6 (decimal n ++ s) n s (first-digit n s)
    (rw (← six) (digits-back n left s ∙ digits-end left n s e))

-- no digit is a minus or a space
digit_not : (b c : ℕ) → is_digit b ≡ true → c < 48 → eqb b c ≡ false
digit_not b c h l = let r = digit-range b h in ne_eqb b c (λ e. omega arith)

-- a number of at most six digits, where no digit stands after it
pub number-back : (z : ℤ) (s : List ℕ) → nat_abs z ≤ 999999 → is_digit (first s) ≡ false
    → number (shown z ++ s) ≡ found z s
unfolding number shown
number-back (pos n) s h e =
    rw (digit_not (first (decimal n ++ s)) 45 (first-digit n s) (omega arith), natural-back n s h e)
number-back (negsuc n) s h e = rw (natural-back (suc n) s h e)

-- ---- lines

first-shown : (z : ℤ) (s : List ℕ) → eqb (first (shown z ++ s)) 32 ≡ false
unfolding shown
first-shown (pos n) s = digit_not (first (decimal n ++ s)) 32 (first-digit n s) (omega arith)
first-shown (negsuc n) s = refl

-- the line of a value and more values, in front of a text
line-front : (z : ℤ) (zs : List ℤ) (s : List ℕ)
    → format.line (z ∷ zs) ++ s ≡ shown z ++ (behind zs ∷ (format.line zs ++ s))
line-front z zs s = rw (line-cons z zs) (simp append_assoc)

separator-back : (zs : List ℤ) (s : List ℕ)
    → separator (length zs) (behind zs ∷ (format.line zs ++ s)) ≡ found tt (format.line zs ++ s)
unfolding separator spaces
separator-back [] s = refl
separator-back (z ∷ zs) s =
    ap (found tt) (spaces-end (format.line (z ∷ zs) ++ s)
    (rw (line-front z zs s) (first-shown z (behind zs ∷ (format.line zs ++ s)))))

-- no digit stands after a value
behind-no-digit : (zs : List ℤ) → is_digit (behind zs) ≡ false
behind-no-digit [] = refl
behind-no-digit (z ∷ zs) = refl

-- a line of values
pub line-back : (zs : List ℤ) (s : List ℕ) → FourDigits zs → line (length zs) (format.line zs ++ s) ≡ found zs s
unfolding line format.line
line-back [] s h = refl
line-back (z ∷ zs) s h =
    rw (
      line-front z zs s,
      number-back z (behind zs ∷ (format.line zs ++ s)) (omega arith) (behind-no-digit zs),
      separator-back zs s,
      line-back zs s h.1,
    )

-- ---- fixed texts

pub literal-back : (name s : List ℕ) → literal name (name ++ s) ≡ found tt s
unfolding literal
literal-back [] s = refl
literal-back (a ∷ name) s = rw (eq-eqb a a refl) (literal-back name s)
