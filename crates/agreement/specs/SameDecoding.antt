-- Request 2026-04: two calls that differ in the criterion alone, and what it means that they agree. Definitions only.
use Rattle.std.specs.Prelude.{ℕ, ◌≡◌, List, ◌∷◌, leb, ℤ, length}
use Rattle.settings.specs.declared.Settings.{Settings}
use Rattle.settings.specs.Slices.{Slices}
use Rattle.decoder.specs.Decoder.{decode_result, decode_slices}
use Rattle.scan.specs.Reading.{Reading, found, bind}
use Rattle.report_input.specs.Input.{longest_text, head}

-- the settings with this criterion, all else as it was
abbrev pub under : ℕ → Settings → Settings
under criterion s =
    record {
      m = s.m;
      ceiling = s.ceiling;
      scale = s.scale;
      limit = s.limit;
      criterion = criterion;
      operand = s.operand;
    }

-- two calls of the decoder with the same mask, LLRs and memory lent: the same refusal number, or the same iteration and
-- reason; and every slice, the four outputs and the workspace, the same in every element
pub record SameDecoding (s s' : Settings) (mask : List ℕ) (llr : List ℤ) (lent : Slices) : Type 0 where
  pub answer : decode_result s mask llr lent ≡ decode_result s' mask llr lent
  pub slices : decode_slices s mask llr lent ≡ decode_slices s' mask llr lent

-- a list of settings with this criterion, as C hands it in; `behind` are the operand and what follows it. A list of
-- fewer than five elements has no criterion, and is refused with 7
abbrev pub list_under : ℕ → ℕ → ℕ → ℕ → ℕ → List ℕ → List ℕ
list_under criterion m ceiling scale limit behind = m ∷ ceiling ∷ scale ∷ limit ∷ criterion ∷ behind

-- what the first three lines of a text say, with this criterion; malformed ones say nothing
abbrev pub reading_under : ℕ → Reading Settings → Reading Settings
reading_under criterion reading = bind reading (λ s rest. found (under criterion s) rest)

-- two texts, both too long or neither, whose first three lines say the same but for the criterion, 4 in the first and 2
-- in the second, with the same bytes after them; or whose first three lines are both malformed
pub record TextsDiffer (reading : Reading Settings) (text text' : List ℕ) : Type 0 where
  pub four : head text ≡ reading_under 4 reading
  pub two : head text' ≡ reading_under 2 reading
  pub lengths : leb (length text) longest_text ≡ leb (length text') longest_text
