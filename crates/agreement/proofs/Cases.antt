-- Texts that differ in the criterion alone: P6 under criteria 4 and 2, and two whose settings line has a value too few.
-- Computed facts.
use Rattle.std.specs.Prelude.{ℕ, ◌≡◌, refl, List, ◌++◌}
use Rattle.calls.specs.Texts.{bytes}
use Rattle.settings.specs.declared.Settings.{Settings}
use Rattle.scan.specs.Numbers.{digits, natural, number}
use Rattle.scan.specs.Lines.{spaces, separator, line, literal}
use Rattle.scan.specs.Reading.{found, malformed}
use Rattle.report_input.specs.Input.{head}
use Rattle.report_text.specs.Report.{report}
use Rattle.agreement.specs.SameDecoding.{TextsDiffer}
use Rattle.agreement.proofs.Agreement.{report-agrees}

-- what both texts say; `reading_under` puts 4 and 2 in the place of its criterion
abbrev settings : Settings
settings = record { m = 1; ceiling = 31; scale = 16; limit = 10; criterion = 1; operand = 3 }

abbrev positions : List ℕ
positions = bytes "0 1 5\n1 0 -3\n"

abbrev text : List ℕ → List ℕ
text values = bytes "m ceiling scale limit criterion operand\n" ++ values ++ bytes "position frozen llr\n" ++ positions

pub texts : TextsDiffer (found settings positions) (text (bytes "1 31 16 10 4 3\n")) (text (bytes "1 31 16 10 2 3\n"))
unfolding digits natural number spaces separator line literal head
texts = record { four = refl; two = refl; lengths = refl }

pub reports : report (text (bytes "1 31 16 10 4 3\n")) ≡ report (text (bytes "1 31 16 10 2 3\n"))
reports = report-agrees texts

pub malformed-texts : TextsDiffer malformed (text (bytes "1 31 16 10 4\n")) (text (bytes "1 31 16 10 2\n"))
unfolding digits natural number spaces separator line literal head
malformed-texts = record { four = refl; two = refl; lengths = refl }
