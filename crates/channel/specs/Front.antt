-- Document 01, "From samples to LLRs", and the front's lines of "Numbers by who causes them". Definitions only. A float
-- is its value, as `lib.Ieee` has it: `nan`, `inf s`, or `fin s m e`, which is m * 2 ^ e, negative where s is true.
use Rattle.std.specs.Prelude.{ℕ, zero, suc, ◌+◌, ◌*◌, ◌/◌, ◌^◌, Bool, true, false, not, ◌&&◌, cond, List, leb, eqb, ℤ}
use Rattle.std.specs.Prelude.{pos, length, get_or, Float}
use Rattle.std.specs.Float.{nan, inf, fin, binary32}
use Rattle.std.specs.Float.Ieee.{up, down, neg, mul}
use Rattle.calls.specs.Bounds.{largest_m, largest_ceiling}
use Rattle.calls.specs.Numbers.{check, between}
use Rattle.calls.specs.Every.{every}
use Rattle.calls.specs.LentMemory.{overwrite, unless_refused}
use Rattle.calls.specs.Signs.{flipped}
use Rattle.channel.specs.declared.Channel.{Channel}
use Rattle.channel.specs.declared.Channel.TheVariants.{Gaussian, Flipping, Erasing}

-- ---- the value of a sample, by the kind of channel

-- a size with the sample's sign; a sample of either zero gives 0
unfoldable pub with_sample_sign : Float → Float → Float
with_sample_sign nan size = nan
with_sample_sign (inf s) size = cond s (neg size) size
with_sample_sign (fin s zero e) size = fin false 0 (pos 0)
with_sample_sign (fin s (suc m) e) size = cond s (neg size) size

-- Gaussian: one 32-bit product, rounded once. Flipping: the weight with the sample's sign. Erasing: the ceiling with
-- it, C * 2 ^ 0
abbrev pub value_of : ℕ → Channel → Float → Float
value_of C (Gaussian factor) x = mul binary32 x factor
value_of C (Flipping weight) x = with_sample_sign x weight
value_of C Erasing x = with_sample_sign x (fin false C (pos 0))

-- ---- the whole number of a value

-- the whole number nearest to n / d, halves up: of a size, halves away from zero
abbrev pub nearest : ℕ → ℕ → ℕ
nearest n d = (2 * n + d) / (2 * d)

-- a size n / d of at least the ceiling becomes the ceiling, any other the nearest whole number
abbrev pub rounded_size : ℕ → ℕ → ℕ → ℕ
rounded_size C n d = cond (leb (C * d) n) C (nearest n d)

-- an infinity, the product too large for the format, counts as beyond the ceiling. (No value of an accepted call is a
-- NaN.)
unfoldable pub quantised : ℕ → Float → ℤ
quantised C nan = pos 0
quantised C (inf s) = flipped s (pos C)
quantised C (fin s m e) = flipped s (pos (rounded_size C (m * up e) (down e)))

abbrev pub llr_of : ℕ → Channel → Float → ℤ
llr_of C channel x = quantised C (value_of C channel x)

-- ---- the front: 1; 2; 7; 11; 12

unfoldable pub is_finite : Float → Bool
is_finite nan = false
is_finite (inf s) = false
is_finite (fin s m e) = true

-- finite and above zero
unfoldable pub is_above_zero : Float → Bool
is_above_zero nan = false
is_above_zero (inf s) = false
is_above_zero (fin s m e) = not s && not (eqb m 0)

-- the factor or the weight; erasing has none
abbrev pub is_usable : Channel → Bool
is_usable (Gaussian factor) = is_above_zero factor
is_usable (Flipping weight) = is_above_zero weight
is_usable Erasing = true

-- the first n samples
abbrev pub all_finite : ℕ → List Float → Bool
all_finite n samples = every n (λ i. is_finite (get_or samples i nan))

-- the tests of a front in their order, over what is tested at 7 (are the slices long enough), at 11 (factor or weight)
-- and at 12 (the samples)
abbrev pub front_tests : ℕ → ℕ → Bool → Bool → Bool → ℕ
front_tests m C long usable finite =
    check (between 1 largest_m m) 1
    (check (between 1 largest_ceiling C) 2
    (check long 7
    (check usable 11
    (check finite 12 0))))

abbrev pub front_number : ℕ → ℕ → Channel → List Float → ℕ → ℕ
front_number m C channel samples room =
    front_tests m C (leb (2 ^ m) (length samples) && leb (2 ^ m) room) (is_usable channel) (all_finite (2 ^ m) samples)

abbrev pub front_llrs : ℕ → ℕ → Channel → List Float → List ℤ → List ℤ
front_llrs m C channel samples old =
    unless_refused (front_number m C channel samples (length old))
    (overwrite (2 ^ m) (λ i. llr_of C channel (get_or samples i nan)) old)
    old
