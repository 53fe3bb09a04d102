-- Document 01's input, and texts at the edge of its rules. Computed facts.
use Rattle.std.specs.Prelude.{ℕ, ◌≡◌, refl, List, [], ◌∷◌, ◌++◌, map, pos, negsuc}
use Rattle.scan.specs.Numbers.{digits, natural, number}
use Rattle.scan.specs.Lines.{spaces, separator, line, literal}
use Rattle.calls.specs.Texts.{bytes}
use Rattle.report_input.specs.declared.Room.{Room}
use Rattle.report_input.specs.Input.{
  head,
  block_of,
  read_position,
  read_positions,
  setting_names,
  position_names,
  Meaning,
  block,
  number_in,
  meaning_in,
  meaning,
}

-- a text with these lines of settings and of positions
abbrev of : List ℕ → List ℕ → List ℕ
of settings positions = setting_names ++ settings ++ position_names ++ positions

abbrev usual : List ℕ
usual = bytes "1 31 16 10 1 0\n"

abbrev pair : List ℕ
pair = bytes "0 1 5\n1 0 -3\n"

abbrev worked : Meaning
worked =
    block (record { m = 1; ceiling = 31; scale = 16; limit = 10; criterion = 1; operand = 0 })
    (block_of (1 ∷ 0 ∷ []) (pos 5 ∷ negsuc 2 ∷ []))

-- document 01's input; and with leading zeros, several spaces and a minus before 0
pub accepted : map meaning (
    of usual pair
    ∷ of (bytes "01  31 000016 10   1 -0\n") (bytes "-0 1 000005\n1   0   -03\n")
    ∷ []
    ) ≡ worked ∷ worked ∷ []
unfolding digits natural number spaces separator line literal head read_position read_positions meaning_in meaning
accepted = refl

-- the refusals by the line of the settings: each value -1, then one that would lie in its range if it wrapped at 8 or
-- 16 bits
pub settings-numbers : map (λ settings. number_in (meaning (of settings pair))) (
    bytes "-1 31 16 10 1 0\n"
    ∷ bytes "1 -1 16 10 1 0\n"
    ∷ bytes "1 31 -1 10 1 0\n"
    ∷ bytes "1 31 16 -1 1 0\n"
    ∷ bytes "1 31 16 10 -1 0\n"
    ∷ bytes "1 31 16 10 1 -1\n"
    ∷ bytes "257 31 16 10 1 0\n"
    ∷ bytes "1 65567 16 10 1 0\n"
    ∷ bytes "1 31 272 10 1 0\n"
    ∷ bytes "1 31 16 65546 1 0\n"
    ∷ bytes "1 31 16 10 257 0\n"
    ∷ bytes "1 31 16 10 1 65536\n"
    ∷ []
    ) ≡ 1 ∷ 2 ∷ 3 ∷ 4 ∷ 5 ∷ 6 ∷ 1 ∷ 2 ∷ 3 ∷ 4 ∷ 5 ∷ 6 ∷ []
unfolding digits natural number spaces separator line literal head read_position read_positions meaning_in meaning
settings-numbers = refl

-- the refusals by the lines of the positions. 256 is no 0, 65,539 is no 3
pub position-numbers : map (λ positions. number_in (meaning (of usual positions))) (
    bytes "0 2 5\n1 0 -3\n"
    ∷ bytes "0 1 5\n1 256 -3\n"
    ∷ bytes "0 -1 5\n1 0 -3\n"
    ∷ bytes "0 1 5\n1 1 -3\n"
    ∷ bytes "0 1 32\n1 0 -3\n"
    ∷ bytes "0 1 5\n1 0 65539\n"
    ∷ bytes "0 1 5\n1 0 -65536\n"
    ∷ []
    ) ≡ 8 ∷ 8 ∷ 8 ∷ 9 ∷ 10 ∷ 10 ∷ 10 ∷ []
unfolding digits natural number spaces separator line literal head read_position read_positions meaning_in meaning
position-numbers = refl

-- the order: 14 in the first three lines, then 1, then 14 in the rest, then the others
pub order : map (λ text. number_in (meaning text)) (
    (setting_names ++ bytes "11 0 16 10 1 0\nposition frozen LLR\n0 1 +5\n")
    ∷ of (bytes "11 0 16 10 1 0\n") (bytes "0 1 +5\n")
    ∷ of (bytes "1 0 16 10 1 0\n") (bytes "0 1 +5\n1 0 -3\n")
    ∷ of (bytes "1 0 16 10 1 0\n") (bytes "0 1 32\n1 1 -3\n")
    ∷ []
    ) ≡ 14 ∷ 1 ∷ 14 ∷ 2 ∷ []
unfolding digits natural number spaces separator line literal head read_position read_positions meaning_in meaning
order = refl

-- no number of positions but N, in order, and nothing after them
pub malformed : map (λ positions. number_in (meaning (of usual positions))) (
    bytes ""
    ∷ bytes "0 1 5\n"
    ∷ bytes "0 1 5\n1 0 -3\n2 0 0\n"
    ∷ bytes "0 1 5\n1 0 -3\n\n"
    ∷ bytes "0 1 5\n1 0 -3"
    ∷ bytes "1 1 5\n2 0 -3\n"
    ∷ bytes "1 0 -3\n0 1 5\n"
    ∷ bytes "0 1\n1 0\n"
    ∷ []
    ) ≡ 14 ∷ 14 ∷ 14 ∷ 14 ∷ 14 ∷ 14 ∷ 14 ∷ 14 ∷ []
unfolding digits natural number spaces separator line literal head read_position read_positions meaning_in meaning
malformed = refl

-- 7, where a lent slice has no room for the two positions: after 14, 1 and 2 to 6, before 8. Exactly two are enough
abbrev room : ℕ → ℕ → Room
room mask llr = record { mask = mask; llr = llr }

pub rooms : map (λ room. number_in (meaning_in room (of usual pair)))
    (room 2 2 ∷ room 1 2 ∷ room 2 1 ∷ room 0 0 ∷ room 3 4 ∷ [])
    ≡ 0 ∷ 7 ∷ 7 ∷ 7 ∷ 0 ∷ []
unfolding digits natural number spaces separator line literal head read_position read_positions meaning_in
rooms = refl

pub rooms-in-order : map (λ text. number_in (meaning_in (room 1 1) text)) (
    of usual (bytes "0 1 5\n")
    ∷ of (bytes "11 31 16 10 1 0\n") pair
    ∷ of (bytes "1 31 16 10 1 1\n") pair
    ∷ of usual (bytes "0 2 5\n1 2 99\n")
    ∷ []
    ) ≡ 14 ∷ 1 ∷ 6 ∷ 7 ∷ []
unfolding digits natural number spaces separator line literal head read_position read_positions meaning_in
rooms-in-order = refl
