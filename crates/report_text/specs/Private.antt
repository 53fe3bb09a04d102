-- For the contracts of private functions: the values that slices hold, and the first lines.
use Rattle.std.specs.Prelude.{ℕ, ◌≤◌, List, [], ◌∷◌, ◌++◌, ℤ, pos, length, get_or}
use Rattle.decoder.specs.declared.Ending.{Ending as CodeEnding}
use Rattle.decoder.specs.declared.Reason.{Reason}
use Rattle.decoder.specs.Decoder.{Ending, reason_number}
use Rattle.calls.specs.Texts.{bytes}
use Rattle.format.specs.Decimal.{line}
use Rattle.report_text.specs.Report.{outputs}
use Rattle.report_text.specs.declared.Outputs.{Outputs}

abbrev pub slice_values : List ℤ → List ℕ → List ℤ → List ℕ → ℕ → List ℤ
slice_values soft mark coded_soft coded_mark =
    outputs (λ i. get_or soft i (pos 0)) (λ i. get_or mark i 0) (λ i. get_or coded_soft i (pos 0))
    (λ i. get_or coded_mark i 0)

-- the values of what the decoder wrote, and that each of its slices has n elements
abbrev pub output_values : Outputs → ℕ → List ℤ
output_values o = slice_values o.soft.now o.mark.now o.coded_soft.now o.coded_mark.now

abbrev pub OutputsLong : ℕ → Outputs → Type 0
OutputsLong n o =
    (n ≤ length o.soft.now) × (n ≤ length o.mark.now) × (n ≤ length o.coded_soft.now) × (n ≤ length o.coded_mark.now)

abbrev pub ending_at : ℕ → Reason → Ending
ending_at iterations reason = record { iteration = iterations; reason = reason_number reason }

abbrev pub ending_of : CodeEnding → Ending
ending_of e = ending_at e.iterations e.reason

abbrev pub heading_text : Ending → List ℕ
heading_text e =
    bytes "iterations reason\n"
    ++ line (pos e.iteration ∷ pos e.reason ∷ [])
    ++ bytes "position soft mark coded codedmark\n"
