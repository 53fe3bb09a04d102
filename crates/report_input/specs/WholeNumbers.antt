-- The number of a text by its values as they are written: whole numbers of any size and either sign, each compared as
-- such. What the theorem `compared_whole` (WholeNumberLaws.antt) cites, in the order of document 01's sentences.
-- Definitions only.
use Rattle.std.specs.Prelude.{ℕ, zero, suc, ◌^◌, Bool, true, false, ◌&&◌, ◌||◌, List, [], ◌∷◌, map, leb, eqb, ℤ, pos}
use Rattle.std.specs.Prelude.{negsuc, nat_abs, length, get_or}
use Rattle.calls.specs.Bounds.{largest_m, largest_ceiling, largest_scale}
use Rattle.calls.specs.Numbers.{check, between}
use Rattle.settings.specs.Settings.{largest_limit, largest_criterion}
use Rattle.scan.specs.Reading.{Reading, found, malformed, bind}
use Rattle.scan.specs.Lines.{line}
use Rattle.report_input.specs.Input.{longest_text, value_at, setting_values}

-- ---- the lines of the positions

-- the values of n lines
unfoldable pub line_values : ℕ → List ℕ → Reading (List (List ℤ))
line_values zero s = found [] s
line_values (suc n) s =
    bind (line 3 s) (λ zs s.
    bind (line_values n s) (λ lines s. found (zs ∷ lines) s))

-- the values at one place of each line
abbrev pub column : ℕ → List (List ℤ) → List ℤ
column place lines = map (λ zs. value_at zs place) lines

-- p itself; a number below zero is no position
abbrev pub is_number : ℕ → ℤ → Bool
is_number p (pos n) = eqb n p
is_number p (negsuc n) = false

-- the first value of each line: p, p + 1, ..
abbrev pub numbered_from : ℕ → List (List ℤ) → Bool
numbered_from p [] = true
numbered_from p (zs ∷ lines) = is_number p (value_at zs 0) && numbered_from (suc p) lines

-- ---- tests of whole numbers

-- from low to high; a number below zero is in no range
abbrev pub in_range : ℕ → ℕ → ℤ → Bool
in_range low high (pos n) = between low high n
in_range low high (negsuc n) = false

-- of the first n values
abbrev pub all_of : ℕ → (ℤ → Bool) → List ℤ → Bool
all_of zero P l = true
all_of (suc n) P l = all_of n P l && P (get_or l n (pos 0))

abbrev pub any_of : ℕ → (ℤ → Bool) → List ℤ → Bool
any_of zero P l = false
any_of (suc n) P l = any_of n P l || P (get_or l n (pos 0))

abbrev pub operand_in_range : ℕ → ℤ → ℤ → Bool
operand_in_range C (pos zero) operand = in_range 0 0 operand
operand_in_range C (pos (suc zero)) operand = in_range 0 0 operand
operand_in_range C (pos (suc (suc zero))) operand = in_range 1 C operand
operand_in_range C (pos (suc (suc (suc zero)))) operand = in_range 1 8 operand
operand_in_range C (pos (suc (suc (suc (suc n))))) operand = in_range 1 C operand
operand_in_range C (negsuc n) operand = false

-- ---- the numbers

-- the decoder's: m, C, k, T, criterion and operand in the first list, then N mask values and N LLRs
abbrev pub whole_number : List ℤ → List ℤ → List ℤ → ℕ
whole_number zs mask llr =
    check (in_range 1 largest_m (value_at zs 0)) 1
    (check (in_range 1 largest_ceiling (value_at zs 1)) 2
    (check (in_range 1 largest_scale (value_at zs 2)) 3
    (check (in_range 1 largest_limit (value_at zs 3)) 4
    (check (in_range 0 largest_criterion (value_at zs 4)) 5
    (check (operand_in_range (nat_abs (value_at zs 1)) (value_at zs 4) (value_at zs 5)) 6
    (check (all_of (2 ^ nat_abs (value_at zs 0)) (in_range 0 1) mask) 8
    (check (any_of (2 ^ nat_abs (value_at zs 0)) (in_range 0 0) mask) 9
    (check (all_of (2 ^ nat_abs (value_at zs 0)) (λ l. leb (nat_abs l) (nat_abs (value_at zs 1))) llr) 10 0))))))))

-- the rest is tested for 14, then come the decoder's numbers
abbrev pub whole_tested : List ℤ → Reading (List (List ℤ)) → ℕ
whole_tested zs (found lines []) = check (numbered_from 0 lines) 14 (whole_number zs (column 1 lines) (column 2 lines))
whole_tested zs (found lines (x ∷ behind)) = 14
whole_tested zs malformed = 14

-- the first three lines are tested for 14, then m for 1
abbrev pub whole_sized : Reading (List ℤ) → ℕ
whole_sized (found zs behind) =
    check (in_range 1 largest_m (value_at zs 0)) 1 (whole_tested zs (line_values (2 ^ nat_abs (value_at zs 0)) behind))
whole_sized malformed = 14

-- the number of a text, 0 where it is accepted
unfoldable pub whole_text_number : List ℕ → ℕ
whole_text_number t = check (leb (length t) longest_text) 14 (whole_sized (setting_values t))
