-- The first n LLRs, which the code takes as a slice of their own.
use Rattle.std.proofs.Common.{ℕ, ◌≤◌, ◌≡◌, List, leb, length, take}
use Rattle.std.specs.Prelude.{ℤ, pos, nat_abs}
use Rattle.calls.specs.EveryLaws.{every_firsts}
use Rattle.settings.specs.Settings.{within_ceiling}

pub llr_firsts : (n C : ℕ) (llr : List ℤ) → n ≤ length llr
    → within_ceiling (length (take n llr)) C (take n llr) ≡ within_ceiling n C llr
llr_firsts n C = every_firsts (pos 0) (λ (z : ℤ). leb (nat_abs z) C) n
