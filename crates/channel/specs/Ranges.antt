-- What a front's first two tests give: the block length of an m and the ceiling of a number, each in its range, and a
-- refusal elsewhere. Definitions only.
use Rattle.std.specs.Prelude.{ℕ, ◌^◌, ◌≡◌, true, false, Result, MatchResult}
use Rattle.calls.specs.Bounds.{largest_m, largest_ceiling}
use Rattle.calls.specs.Numbers.{between, refusal_number}
use Rattle.calls.specs.declared.Refusal.{Refusal}
use Rattle.channel.specs.declared.ceiling.Ceiling.{Ceiling}

abbrev pub IsBlockLength : ℕ → Result ℕ Refusal → Type 0
IsBlockLength m answer =
    MatchResult answer
    (λ n. (between 1 largest_m m ≡ true) × (n ≡ 2 ^ m))
    (λ refusal. (between 1 largest_m m ≡ false) × (refusal_number refusal ≡ 1))

abbrev pub IsCeiling : ℕ → Result Ceiling Refusal → Type 0
IsCeiling C answer =
    MatchResult answer
    (λ ceiling. (between 1 largest_ceiling C ≡ true) × (ceiling.value ≡ C))
    (λ refusal. (between 1 largest_ceiling C ≡ false) × (refusal_number refusal ≡ 2))
