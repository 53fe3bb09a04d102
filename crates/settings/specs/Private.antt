-- For the contract of a private function: a part of the decoder's number.
use Rattle.std.specs.Prelude.{ℕ, ◌^◌, List, leb, ℤ}
use Rattle.calls.specs.Numbers.{check}
use Rattle.polar.specs.Mask.{mask_accepted}
use Rattle.polar.specs.Code.{information_count}
use Rattle.settings.specs.Settings.{within_ceiling}

-- 8 to 10
abbrev pub mask_and_llr_number : ℕ → ℕ → List ℕ → List ℤ → ℕ
mask_and_llr_number m C mask llr =
    check (mask_accepted (2 ^ m) mask) 8
    (check (leb 1 (information_count mask (2 ^ m))) 9
    (check (within_ceiling (2 ^ m) C llr) 10 0))
