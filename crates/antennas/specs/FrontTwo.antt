-- Request 2026-06, second antenna: the samples of two branches, each with its factor, to whole LLRs. Definitions only.
use Rattle.std.specs.Prelude.{ℕ, ◌^◌, Bool, false, ◌&&◌, cond, List, leb, ℤ, pos, length, get_or, Float}
use Rattle.std.specs.Float.{nan, fin, binary32}
use Rattle.std.specs.Float.Ieee.{neg, add, mul, lt}
use Rattle.calls.specs.LentMemory.{overwrite, unless_refused}
use Rattle.channel.specs.Front.{quantised, is_above_zero, all_finite, front_tests}
use Rattle.antennas.specs.declared.Receiver.{Receiver}

-- ---- the LLR of a pair of samples

-- 4096, which is 1 * 2 ^ 12
abbrev pub largest_product : Float
largest_product = fin false 1 (pos 12)

-- a value cut to -largest..largest; an infinity, the product too large for the format, is cut like any other. (No
-- product of an accepted call is a NaN.)
abbrev pub cut_to : Float → Float → Float
cut_to largest value =
    let most = cond (lt largest value) largest value in
    cond (lt most (neg largest)) (neg largest) most

-- the product of each branch, rounded once, then cut; their sum, rounded once; its whole number, as for one antenna
abbrev pub llr_of_two : ℕ → Receiver → Float → Float → ℤ
llr_of_two C receiver x y =
    let a = cut_to largest_product (mul binary32 x receiver.first) in
    let b = cut_to largest_product (mul binary32 y receiver.second) in
    quantised C (add binary32 a b)

-- ---- the front: 1; 2; 7; 11; 12

abbrev pub are_usable : Receiver → Bool
are_usable receiver = is_above_zero receiver.first && is_above_zero receiver.second

-- the samples of both branches
pub record Branches : Type 0 where
  pub first : List Float
  pub second : List Float

abbrev pub branches : List Float → List Float → Branches
branches first second = record { first = first; second = second }

-- the first n of each
abbrev pub are_finite : ℕ → Branches → Bool
are_finite n samples = all_finite n samples.first && all_finite n samples.second

abbrev pub front_two_number : ℕ → ℕ → Receiver → Branches → ℕ → ℕ
front_two_number m C receiver samples room =
    front_tests m C
    (leb (2 ^ m) (length samples.first) && leb (2 ^ m) (length samples.second) && leb (2 ^ m) room)
    (are_usable receiver) (are_finite (2 ^ m) samples)

abbrev pub llr_at : ℕ → Receiver → Branches → ℕ → ℤ
llr_at C receiver samples i = llr_of_two C receiver (get_or samples.first i nan) (get_or samples.second i nan)

abbrev pub front_two_llrs : ℕ → ℕ → Receiver → Branches → List ℤ → List ℤ
front_two_llrs m C receiver samples old =
    unless_refused (front_two_number m C receiver samples (length old))
    (overwrite (2 ^ m) (llr_at C receiver samples) old)
    old
