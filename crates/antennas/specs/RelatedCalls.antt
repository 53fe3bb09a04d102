-- The calls that a call of the front for two antennas is compared with: the samples of another block sent, the branches
-- exchanged, a branch of zeros. Definitions only.
use Rattle.std.specs.Prelude.{ℕ, Bool, false, List, pos, get_or, Float}
use Rattle.std.specs.Float.{nan, fin}
use Rattle.std.specs.Float.Ieee.{eq}
use Rattle.calls.specs.Every.{every}
use Rattle.channel.specs.FlippedSamples.{flipped_samples}
use Rattle.antennas.specs.declared.Receiver.{Receiver}
use Rattle.antennas.specs.FrontTwo.{Branches, branches}

-- of the first n places exactly those whose bit is 1, with both samples flipped
abbrev pub flipped_branches : ℕ → (ℕ → Bool) → Branches → Branches
flipped_branches n bit samples =
    branches (flipped_samples n bit samples.first) (flipped_samples n bit samples.second)

abbrev pub exchanged : Receiver → Receiver
exchanged receiver = record { first = receiver.second; second = receiver.first }

abbrev pub exchanged_branches : Branches → Branches
exchanged_branches samples = branches samples.second samples.first

-- each of the first n samples is there and equals 0, as floats compare: either zero does
abbrev pub all_zero : ℕ → List Float → Bool
all_zero n samples = every n (λ i. eq (get_or samples i nan) (fin false 0 (pos 0)))
