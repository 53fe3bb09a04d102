-- The definitions at chosen lists. Computed facts.
use Rattle.std.specs.Prelude.{ℕ, ◌≡◌, refl, [], ◌∷◌, ◌++◌, map, set}
use Prim.Native.String.{String}
use Rattle.calls.specs.Texts.{bytes}
use Rattle.tally.specs.Cases.{tally}
use Rattle.radios.specs.Runs.{no_blocks}
use Rattle.scan.specs.Numbers.{digits, natural}
use Rattle.scan.specs.Lines.{spaces, separator, item, literal}
use Rattle.radio_list.specs.RadioList.{
  list_names,
  radio_line,
  checked_line,
  Listed,
  refused,
  listed,
  read_lines,
  meaning,
}

-- the lines after the first
abbrev lines : String → Listed
lines s = meaning (list_names ++ bytes s)

-- ---- lists that are accepted

no_line : lines "" ≡ listed no_blocks
unfolding meaning read_lines checked_line radio_line item natural digits separator spaces literal
no_line = refl

two-radios : lines "3 9 3 2 4 5\n7 4  0 1 3 200\n"
    ≡ listed (set (set no_blocks 3 (tally 9 3 2 4 5)) 7 (tally 4 0 1 3 200))
unfolding meaning read_lines checked_line radio_line item natural digits separator spaces literal
two-radios = refl

radio-0-and-63 : lines "0 1 1 0 0 1\n063 1 0 1 0 200\n"
    ≡ listed (set (set no_blocks 0 (tally 1 1 0 0 1)) 63 (tally 1 0 1 0 200))
unfolding meaning read_lines checked_line radio_line item natural digits separator spaces literal
radio-0-and-63 = refl

-- a full tally
block-1000000 : lines "0 1000000 1000000 0 0 200000000\n"
    ≡ listed (set no_blocks 0 (tally 1000000 1000000 0 0 200000000))
unfolding meaning read_lines checked_line radio_line item natural digits separator spaces literal
block-1000000 = refl

-- ---- lists that are not

abbrev number_in : Listed → ℕ
number_in (refused number) = number
number_in (listed tallies) = 0

abbrev number : String → ℕ
number s = number_in (lines s)

other-first-lines : map (λ s. number_in (meaning (bytes s)))
    ("" ∷ "3 9 3 2 4 5\n" ∷ "radio blocks criterion limit refusals\n" ∷ [])
    ≡ 14 ∷ 14 ∷ 14 ∷ []
unfolding meaning read_lines checked_line radio_line item natural digits separator spaces literal
other-first-lines = refl

radio-numbers : map number ("64 0 0 0 0 0\n" ∷ "999999999 0 0 0 0 0\n" ∷ []) ≡ 16 ∷ 16 ∷ []
unfolding meaning read_lines checked_line radio_line item natural digits separator spaces literal
radio-numbers = refl

-- a radio twice, one below the one before, and one after radio 63
order : map number
    ("5 0 0 0 0 0\n5 0 0 0 0 0\n" ∷ "5 0 0 0 0 0\n4 0 0 0 0 0\n" ∷ "63 0 0 0 0 0\n0 0 0 0 0 0\n" ∷ [])
    ≡ 14 ∷ 14 ∷ 14 ∷ []
unfolding meaning read_lines checked_line radio_line item natural digits separator spaces literal
order = refl

-- too many blocks; blocks not the sum; iterations below the endings and above 200 times them
counts : map number
    ("0 1000001 0 0 1000001 0\n" ∷ "0 8 3 2 4 5\n" ∷ "0 9 3 2 4 4\n" ∷ "0 9 3 2 4 1001\n" ∷ [])
    ≡ 15 ∷ 15 ∷ 15 ∷ 15 ∷ []
unfolding meaning read_lines checked_line radio_line item natural digits separator spaces literal
counts = refl

-- ten digits, a minus, five numbers, seven
values : map number
    ("0 0000000001 1 0 0 1\n" ∷ "0 -0 0 0 0 0\n" ∷ "0 0 0 0 0\n" ∷ "0 0 0 0 0 0 0\n" ∷ [])
    ≡ 14 ∷ 14 ∷ 14 ∷ 14 ∷ []
unfolding meaning read_lines checked_line radio_line item natural digits separator spaces literal
values = refl

-- a tab, a space before the first number and after the last, no end of the line, an empty line
separators : map number
    ("0\t0 0 0 0 0\n" ∷ " 0 0 0 0 0 0\n" ∷ "0 0 0 0 0 0 \n" ∷ "0 0 0 0 0 0" ∷ "0 0 0 0 0 0\n\n" ∷ [])
    ≡ 14 ∷ 14 ∷ 14 ∷ 14 ∷ 14 ∷ []
unfolding meaning read_lines checked_line radio_line item natural digits separator spaces literal
separators = refl

-- 14 for the line before 16, 16 before 15, and 14 for the order before 15
within-a-line : map number
    ("64 1 0 0 0\n" ∷ "5 0 0 0 0 0\n64 1 0 0 0 0\n" ∷ "5 0 0 0 0 0\n4 1 0 0 0 0\n" ∷ [])
    ≡ 14 ∷ 16 ∷ 14 ∷ []
unfolding meaning read_lines checked_line radio_line item natural digits separator spaces literal
within-a-line = refl

-- 15 in the first line, 16 in the second, 14 in the third
first-fault : map number
    ("5 1 0 0 0 0\n64 0 0 0 0 0\nx\n" ∷ "5 0 0 0 0 0\n64 0 0 0 0 0\nx\n" ∷ "5 0 0 0 0 0\n6 0 0 0 0 0\nx\n" ∷ [])
    ≡ 15 ∷ 16 ∷ 14 ∷ []
unfolding meaning read_lines checked_line radio_line item natural digits separator spaces literal
first-fault = refl
