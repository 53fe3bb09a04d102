-- The definitions at chosen texts. Computed facts.
use Rattle.std.specs.Prelude.{ℕ, ◌≡◌, refl, List, [], ◌∷◌, ℤ, pos, negsuc}
use Prim.Native.String.{String}
use Rattle.calls.specs.Texts.{bytes}
use Rattle.scan.specs.Reading.{Reading, found, malformed}
use Rattle.scan.specs.Numbers.{digits, natural, number}
use Rattle.scan.specs.Lines.{spaces, separator, line, item, literal}
use Rattle.scan.specs.Stored.{values_stored}

abbrev read : ℕ → String → Reading (List ℤ)
read n s = line n (bytes s)

abbrev values : List ℤ → String → Reading (List ℤ)
values zs s = found zs (bytes s)

-- ---- lines of values that are accepted

one-digit : read 1 "7\n" ≡ values (pos 7 ∷ []) ""
unfolding line number natural digits separator spaces
one-digit = refl

leading_zeros : read 2 "007 -0\n" ≡ values (pos 7 ∷ pos 0 ∷ []) ""
unfolding line number natural digits separator spaces
leading_zeros = refl

negative : read 1 "-3\n" ≡ values (negsuc 2 ∷ []) ""
unfolding line number natural digits separator spaces
negative = refl

six-digits : read 2 "999999 -999999\n" ≡ values (pos 999999 ∷ negsuc 999998 ∷ []) ""
unfolding line number natural digits separator spaces
six-digits = refl

several-spaces : read 3 "1  2   3\n" ≡ values (pos 1 ∷ pos 2 ∷ pos 3 ∷ []) ""
unfolding line number natural digits separator spaces
several-spaces = refl

-- the text goes on after byte 10
next-line : read 2 "1 2\n3 4\n" ≡ values (pos 1 ∷ pos 2 ∷ []) "3 4\n"
unfolding line number natural digits separator spaces
next-line = refl

-- ---- lines that are not

seven-digits : read 1 "0000001\n" ≡ malformed
unfolding line number natural digits separator spaces
seven-digits = refl

plus : read 1 "+1\n" ≡ malformed
unfolding line number natural digits separator spaces
plus = refl

no-digits : read 1 "\n" ≡ malformed
unfolding line number natural digits separator spaces
no-digits = refl

minus-alone : read 1 "-\n" ≡ malformed
unfolding line number natural digits separator spaces
minus-alone = refl

two-minuses : read 1 "--1\n" ≡ malformed
unfolding line number natural digits separator spaces
two-minuses = refl

space-behind-minus : read 1 "- 1\n" ≡ malformed
unfolding line number natural digits separator spaces
space-behind-minus = refl

tab : read 2 "1\t2\n" ≡ malformed
unfolding line number natural digits separator spaces
tab = refl

leading-space : read 2 " 1 2\n" ≡ malformed
unfolding line number natural digits separator spaces
leading-space = refl

trailing-space : read 2 "1 2 \n" ≡ malformed
unfolding line number natural digits separator spaces
trailing-space = refl

no-newline : read 2 "1 2" ≡ malformed
unfolding line number natural digits separator spaces
no-newline = refl

carriage-return : read 2 "1 2\r\n" ≡ malformed
unfolding line number natural digits separator spaces
carriage-return = refl

too_many : read 2 "1 2 3\n" ≡ malformed
unfolding line number natural digits separator spaces
too_many = refl

-- a line does not go on after byte 10
too_few : read 2 "1\n2\n" ≡ malformed
unfolding line number natural digits separator spaces
too_few = refl

empty : read 1 "" ≡ malformed
unfolding line number natural digits separator spaces
empty = refl

-- ---- what is stored of a line

abbrev stored : ℕ → String → List ℤ
stored n s = values_stored n (bytes s)

stored-whole : stored 3 "1 2 3\n" ≡ pos 1 ∷ pos 2 ∷ pos 3 ∷ []
unfolding values_stored number natural digits separator spaces
stored-whole = refl

-- the second value is no number, or has no space after it
stored-to-the-fault : stored 3 "1 x 3\n" ≡ pos 1 ∷ []
unfolding values_stored number natural digits separator spaces
stored-to-the-fault = refl

stored-to-the-line-end : stored 3 "1 2\n3\n" ≡ pos 1 ∷ []
unfolding values_stored number natural digits separator spaces
stored-to-the-line-end = refl

-- ---- counts

abbrev count : ℕ → String → Reading ℕ
count n s = item n (bytes s)

nine-digits : count 0 "999999999\n" ≡ found 999999999 []
unfolding item natural digits separator spaces
nine-digits = refl

count-before-another : count 1 "007  8\n" ≡ found 7 (bytes "8\n")
unfolding item natural digits separator spaces
count-before-another = refl

ten-digits : count 0 "0000000001\n" ≡ malformed
unfolding item natural digits separator spaces
ten-digits = refl

count-with-minus : count 0 "-1\n" ≡ malformed
unfolding item natural digits separator spaces
count-with-minus = refl

no-count : count 1 "\n" ≡ malformed
unfolding item natural digits separator spaces
no-count = refl

line-end-too-early : count 1 "1\n2\n" ≡ malformed
unfolding item natural digits separator spaces
line-end-too-early = refl

-- ---- fixed texts

same_name : literal (bytes "m limit\n") (bytes "m limit\n1 10\n") ≡ found tt (bytes "1 10\n")
unfolding literal
same_name = refl

other-last-byte : literal (bytes "m limit\n") (bytes "m limit 1 10\n") ≡ malformed
unfolding literal
other-last-byte = refl

name-cut : literal (bytes "m limit\n") (bytes "m lim") ≡ malformed
unfolding literal
name-cut = refl

-- the end of the text is no byte 0
byte-zero : literal (0 ∷ []) [] ≡ malformed
unfolding literal
byte-zero = refl
