-- Computed cases of the definitions: numbers, lines and a fixed text, each beside the text that it is to be.
use Rattle.std.specs.Prelude.{◌≡◌, refl, [], ◌∷◌, pos, negsuc}
use Rattle.calls.specs.Texts.{bytes}
use Rattle.format.specs.Decimal.{digits, decimal, shown, line}

pub record Cases : Type 0 where
  pub zero : shown (pos 0) ≡ bytes "0"
  pub one-digit : shown (pos 7) ≡ bytes "7"
  pub two_digits : shown (pos 10) ≡ bytes "10"
  pub six-digits : shown (pos 999999) ≡ bytes "999999"
  pub minus_one : shown (negsuc 0) ≡ bytes "-1"
  pub lowest-message : shown (negsuc 2046) ≡ bytes "-2047"
  pub highest-i32 : shown (pos 2147483647) ≡ bytes "2147483647"
  pub lowest-i32 : shown (negsuc 2147483647) ≡ bytes "-2147483648"
  pub refusal-number : line (pos 14 ∷ []) ≡ bytes "14\n"
  pub iteration-and-reason : line (pos 1 ∷ pos 1 ∷ []) ≡ bytes "1 1\n"
  pub position-0 : line (pos 0 ∷ pos 31 ∷ pos 0 ∷ pos 2 ∷ pos 0 ∷ []) ≡ bytes "0 31 0 2 0\n"
  pub negative-values : line (pos 1 ∷ negsuc 1 ∷ pos 1 ∷ negsuc 1 ∷ pos 1 ∷ []) ≡ bytes "1 -2 1 -2 1\n"
  pub refusal-name : bytes "refused\n" ≡ 114 ∷ 101 ∷ 102 ∷ 117 ∷ 115 ∷ 101 ∷ 100 ∷ 10 ∷ []

pub cases : Cases
unfolding shown decimal digits line
cases = record {
  zero = refl;
  one-digit = refl;
  two_digits = refl;
  six-digits = refl;
  minus_one = refl;
  lowest-message = refl;
  highest-i32 = refl;
  lowest-i32 = refl;
  refusal-number = refl;
  iteration-and-reason = refl;
  position-0 = refl;
  negative-values = refl;
  refusal-name = refl;
}
