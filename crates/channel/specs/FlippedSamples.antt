-- The same transmission with other bits sent: samples with their sign turned at some places. Definitions only.
use Rattle.std.specs.Prelude.{ℕ, Bool, true, false, List, get_or, Float}
use Rattle.std.specs.Float.{nan}
use Rattle.std.specs.Float.Ieee.{neg}
use Rattle.calls.specs.LentMemory.{overwrite}

abbrev pub flipped_sample : Bool → Float → Float
flipped_sample true x = neg x
flipped_sample false x = x

-- of the first n samples exactly those whose bit is 1, flipped
abbrev pub flipped_samples : ℕ → (ℕ → Bool) → List Float → List Float
flipped_samples n bit samples = overwrite n (λ i. flipped_sample (bit i) (get_or samples i nan)) samples
