-- The definitions for two antennas at chosen cases, by computing: the cut at its ends, both roundings, halves, sums
-- that cancel, the ends of the format, and each refusal. Every group is a list of results beside the list of what is
-- expected; floats are given by their bits.
use Rattle.std.specs.Prelude.{ℕ, ◌≡◌, refl, true, false, List, [], ◌∷◌, map, pos, negsuc, Float}
use Rattle.std.specs.Float.{nan, inf, binary32}
use Rattle.std.specs.Float.Ieee.{of_bits, mul, add, neg, lt}
use Rattle.channel.specs.Front.{quantised, is_finite, is_above_zero}
use Rattle.antennas.specs.declared.Receiver.{Receiver}
use Rattle.antennas.specs.FrontTwo.{largest_product, cut_to, llr_of_two, branches, front_two_number}

abbrev float : ℕ → Float
float bits = of_bits binary32 bits

abbrev factors : ℕ → ℕ → Receiver
factors first second = record { first = float first; second = float second }

-- both factors 1; 1 and 2; both the largest float
abbrev plain : Receiver
plain = factors 0x3f80_0000 0x3f80_0000

abbrev unequal : Receiver
unequal = factors 0x3f80_0000 0x4000_0000

abbrev strongest : Receiver
strongest = factors 0x7f7f_ffff 0x7f7f_ffff

-- ---- the cut: 4096 and the float before it stay, the float after it and the largest are cut, each with its sign, and
-- an infinity like any other
cuts : map (λ bits. cut_to largest_product (float bits))
    (0x4580_0000 ∷ 0x457f_ffff ∷ 0xc57f_ffff ∷ 0x4580_0001 ∷ 0xc580_0001 ∷ 0xff7f_ffff ∷ 0x7f80_0000 ∷ 0xff80_0000 ∷ [])
    ≡ map float
    (0x4580_0000 ∷ 0x457f_ffff ∷ 0xc57f_ffff ∷ 0x4580_0000 ∷ 0xc580_0000 ∷ 0xc580_0000 ∷ 0x4580_0000 ∷ 0xc580_0000 ∷ [])
unfolding of_bits neg lt
cuts = refl

-- ---- the LLR of a pair with both factors 1: 0.75 and 0.75; 0.25 and 0.25, a half, and its negative; 1 and -0.5
halves : llr_of_two 31 plain (float 0x3f40_0000) (float 0x3f40_0000)
    ∷ llr_of_two 31 plain (float 0x3e80_0000) (float 0x3e80_0000)
    ∷ llr_of_two 31 plain (float 0xbe80_0000) (float 0xbe80_0000)
    ∷ llr_of_two 31 plain (float 0x3f80_0000) (float 0xbf00_0000)
    ∷ []
    ≡ pos 2 ∷ pos 1 ∷ negsuc 0 ∷ pos 1 ∷ []
unfolding of_bits mul add neg lt quantised
halves = refl

-- each factor is its own branch's: 1 and 2 times 1, with 3 and 0, and with 0 and 3
own-factors : llr_of_two 31 unequal (float 0x4040_0000) (float 0) ∷ llr_of_two 31 unequal (float 0) (float 0x4040_0000)
    ∷ []
    ≡ pos 3 ∷ pos 6 ∷ []
unfolding of_bits mul add neg lt quantised
own-factors = refl

-- the sum is rounded before it is brought to a whole number: 0.49999997 + 2^-26 is 0.5 then, and so is its negative
sum-rounded : llr_of_two 31 plain (float 0x3eff_ffff) (float 0x3280_0000)
    ∷ llr_of_two 31 plain (float 0xbeff_ffff) (float 0xb280_0000)
    ∷ llr_of_two 31 plain (float 0x3eff_ffff) (float 0)
    ∷ []
    ≡ pos 1 ∷ negsuc 0 ∷ pos 0 ∷ []
unfolding of_bits mul add neg lt quantised
sum-rounded = refl

-- and so is each product: 827.56805 times 1.2379646 is a little below 1024.5, and 1024.5 rounded; less 1024 that is a
-- half
product-rounded : llr_of_two 31 (factors 0x3f9e_75a0 0x3f80_0000) (float 0x444e_e45b) (float 0xc480_0000) ≡ pos 1
unfolding of_bits mul add neg lt quantised
product-rounded = refl

-- products are cut at 4096, and neither at 4095 nor at the ceiling, before they are added: 100000 less 4095, 4096.0005
-- less 4095, 3000 less 2990, 100000 less 100000, and -100000 and 1
cut-before : llr_of_two 31 plain (float 0x47c3_5000) (float 0xc57f_f000)
    ∷ llr_of_two 2047 plain (float 0x4580_0001) (float 0xc57f_f000)
    ∷ llr_of_two 31 plain (float 0x453b_8000) (float 0xc53a_e000)
    ∷ llr_of_two 31 plain (float 0x47c3_5000) (float 0xc7c3_5000)
    ∷ llr_of_two 31 plain (float 0xc7c3_5000) (float 0x3f80_0000)
    ∷ []
    ≡ pos 1 ∷ pos 1 ∷ pos 10 ∷ pos 0 ∷ negsuc 30 ∷ []
unfolding of_bits mul add neg lt quantised
cut-before = refl

-- the ends of the format: products too large for it, of like and of unlike signs; both zeros; the smallest floats
ends : llr_of_two 2047 strongest (float 0x7f7f_ffff) (float 0x7f7f_ffff)
    ∷ llr_of_two 2047 strongest (float 0x7f7f_ffff) (float 0xff7f_ffff)
    ∷ llr_of_two 31 plain (float 0x0000_0000) (float 0x8000_0000)
    ∷ llr_of_two 31 plain (float 0x8000_0000) (float 0x8000_0000)
    ∷ llr_of_two 31 plain (float 0x0000_0001) (float 0x0000_0001)
    ∷ []
    ≡ pos 2047 ∷ pos 0 ∷ pos 0 ∷ pos 0 ∷ pos 0 ∷ []
unfolding of_bits mul add neg lt quantised
ends = refl

-- ---- refusals: m = 1 unless said otherwise, so two samples of each branch and room for two LLRs are needed

abbrev one : Float
one = float 0x3f80_0000

abbrev pair : List Float
pair = one ∷ one ∷ []

-- the number with m = 1, C = 31 and both factors 1
abbrev number : List Float → List Float → ℕ → ℕ
number first second room = front_two_number 1 31 plain (branches first second) room

-- none: just enough, more than enough, and a NaN after the two samples of either branch
accepted : number pair pair 2 ∷ number (one ∷ pair) (one ∷ pair) 9
    ∷ number (one ∷ one ∷ nan ∷ []) (one ∷ one ∷ inf true ∷ []) 2 ∷ []
    ≡ 0 ∷ 0 ∷ 0 ∷ []
unfolding of_bits is_finite is_above_zero
accepted = refl

-- 1 at m = 0 and 11, and past it at m = 10; 2 at C = 0 and 2048
block-and-ceiling : map (λ m. front_two_number m 31 plain (branches pair pair) 2) (0 ∷ 11 ∷ 10 ∷ [])
    ∷ map (λ C. front_two_number 1 C plain (branches pair pair) 2) (0 ∷ 2048 ∷ 2047 ∷ [])
    ∷ []
    ≡ (1 ∷ 1 ∷ 7 ∷ []) ∷ (2 ∷ 2 ∷ 0 ∷ []) ∷ []
unfolding of_bits is_finite is_above_zero
block-and-ceiling = refl

-- 7: one sample too few of either branch, room for one LLR too few
short-slices : number (one ∷ []) pair 2 ∷ number pair (one ∷ []) 2 ∷ number pair pair 1 ∷ [] ≡ 7 ∷ 7 ∷ 7 ∷ []
unfolding of_bits is_finite is_above_zero
short-slices = refl

-- 11, of either factor: either zero, -1, infinity and NaN; the smallest float above zero will do
unusable : map (λ bits. front_two_number 1 31 (factors bits 0x3f80_0000) (branches pair pair) 2)
    (0x0000_0000 ∷ 0x8000_0000 ∷ 0xbf80_0000 ∷ 0x7f80_0000 ∷ 0x7fc0_0000 ∷ 0x0000_0001 ∷ [])
    ∷ map (λ bits. front_two_number 1 31 (factors 0x3f80_0000 bits) (branches pair pair) 2)
    (0x0000_0000 ∷ 0x8000_0000 ∷ 0xbf80_0000 ∷ 0x7f80_0000 ∷ 0x7fc0_0000 ∷ 0x0000_0001 ∷ [])
    ∷ []
    ≡ (11 ∷ 11 ∷ 11 ∷ 11 ∷ 11 ∷ 0 ∷ []) ∷ (11 ∷ 11 ∷ 11 ∷ 11 ∷ 11 ∷ 0 ∷ []) ∷ []
unfolding of_bits is_finite is_above_zero
unusable = refl

-- 12, of either branch: a NaN or an infinity, first or last
not_finite : number (nan ∷ one ∷ []) pair 2 ∷ number (one ∷ inf false ∷ []) pair 2
    ∷ number pair (inf true ∷ one ∷ []) 2 ∷ number pair (one ∷ nan ∷ []) 2 ∷ []
    ≡ 12 ∷ 12 ∷ 12 ∷ 12 ∷ []
unfolding of_bits is_finite is_above_zero
not_finite = refl

-- several at once: the lowest
several : front_two_number 0 0 (factors 0 0) (branches [] []) 0
    ∷ front_two_number 1 0 (factors 0 0) (branches [] []) 0
    ∷ front_two_number 1 31 (factors 0 0) (branches (nan ∷ nan ∷ []) (nan ∷ [])) 2
    ∷ front_two_number 1 31 (factors 0x3f80_0000 0) (branches (nan ∷ nan ∷ []) pair) 2
    ∷ []
    ≡ 1 ∷ 2 ∷ 7 ∷ 11 ∷ []
unfolding of_bits is_finite is_above_zero
several = refl
