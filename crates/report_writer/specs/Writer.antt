-- Request 2026-01, "Tidy block files": the one text that settings and a block are written as, and what the writer
-- answers and leaves. Definitions only.
use Rattle.std.specs.Prelude.{ℕ, zero, suc, ◌^◌, List, [], ◌∷◌, ◌++◌, map, leb, ℤ, pos, length, get_or}
use Rattle.std.specs.Prelude.{Result, Ok, Err}
use Rattle.calls.specs.LentMemory.{written_over, unless_refused}
use Rattle.calls.specs.Numbers.{check, first_refusal, refusal_number}
use Rattle.format.specs.Decimal.{line}
use Rattle.format.specs.Texts.{position_lines}
use Rattle.report_input.specs.Input.{setting_names, position_names, Block, block_number}
use Rattle.calls.specs.declared.Refusal.{Refusal}
use Rattle.settings.specs.declared.Settings.{Settings}
use Rattle.settings.specs.Settings.{settings_list}

-- ---- the text: "single spaces, no leading zeros and no minus before 0", as `line` has them

-- every setting, in the order of its name
abbrev pub values_of : Settings → List ℤ
values_of s = map pos (settings_list s)

-- of a position its number, its mask value and its LLR
abbrev pub values_at : Block → ℕ → List ℤ
values_at b p = pos p ∷ pos (get_or b.mask p 0) ∷ get_or b.llr p (pos 0) ∷ []

-- names, the settings, names, and the N positions in order
unfoldable pub tidy_text : Settings → Block → List ℕ
tidy_text s b =
    setting_names
    ++ line (values_of s)
    ++ position_names
    ++ position_lines (values_at b) (2 ^ s.m) 0

-- how many bytes the text of an accepted block has at most: 1,024 positions, and as many digits as the ranges allow
abbrev pub longest_tidy_text : ℕ
longest_tidy_text = 12283

-- ---- the number: the decoder's, of what is handed in; last of all 7, for a slice shorter than the text

abbrev pub write_number : Settings → Block → ℕ → ℕ
write_number s b room = first_refusal (block_number s b) (check (leb (length (tidy_text s b)) room) 7 0)

-- ---- the promise of `write`: its answer, and the lent slice afterwards

pub data WriteAnswer : Type 0 where
  wrote : ℕ → WriteAnswer
  rejected : ℕ → WriteAnswer

abbrev pub write_answer_by : ℕ → ℕ → WriteAnswer
write_answer_by zero length = wrote length
write_answer_by (suc number) length = rejected (suc number)

-- the length of the text, or the number
abbrev pub write_answer : Settings → Block → List ℕ → WriteAnswer
write_answer s b old = write_answer_by (write_number s b (length old)) (length (tidy_text s b))

-- the text from the first byte on; bytes after it, and all bytes after a refusal, as they were
abbrev pub text_after : Settings → Block → List ℕ → List ℕ
text_after s b old = unless_refused (write_number s b (length old)) (written_over (tidy_text s b) old) old

abbrev pub answer_of : Result ℕ Refusal → WriteAnswer
answer_of (Ok n) = wrote n
answer_of (Err r) = rejected (refusal_number r)
