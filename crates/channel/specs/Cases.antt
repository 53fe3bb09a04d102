-- The front's definitions at chosen cases, by computing: document 01's P10, halves, the ceiling, zeros, the ends of the
-- format, and each refusal. Every group is a list of results beside the list of what is expected.
use Rattle.std.specs.Prelude.{ℕ, ◌≡◌, refl, true, false, List, [], ◌∷◌, map, ℤ, pos, negsuc, Float}
use Rattle.std.specs.Float.{nan, inf, binary32}
use Rattle.std.specs.Float.Ieee.{of_bits, mul, neg}
use Rattle.channel.specs.Front.{with_sample_sign, quantised, llr_of, is_finite, is_above_zero, front_number}
use Rattle.channel.specs.declared.Channel.{Channel}
use Rattle.channel.specs.declared.Channel.TheVariants.{Gaussian, Flipping, Erasing}

abbrev float : ℕ → Float
float bits = of_bits binary32 bits

-- the LLRs of samples that are given by their bits
abbrev llrs : ℕ → Channel → List ℕ → List ℤ
llrs C channel samples = map (λ bits. llr_of C channel (float bits)) samples

-- 1 and -1; either zero; the smallest float above zero and its negative; the largest float and its negative
abbrev ones : List ℕ
ones = 0x3f80_0000 ∷ 0xbf80_0000 ∷ []

abbrev zeros : List ℕ
zeros = 0x0000_0000 ∷ 0x8000_0000 ∷ []

abbrev smallest : List ℕ
smallest = 0x0000_0001 ∷ 0x8000_0001 ∷ []

abbrev largest : List ℕ
largest = 0x7f7f_ffff ∷ 0xff7f_ffff ∷ []

-- channels: the factors 1, 1.5, the smallest and the largest float; the weights 0.25, 2.5 and 100
abbrev plain : Channel
plain = Gaussian (float 0x3f80_0000)

abbrev stronger : Channel
stronger = Gaussian (float 0x3fc0_0000)

abbrev weakest : Channel
weakest = Gaussian (float 0x0000_0001)

abbrev strongest : Channel
strongest = Gaussian (float 0x7f7f_ffff)

abbrev quarter : Channel
quarter = Flipping (float 0x3e80_0000)

abbrev between-two : Channel
between-two = Flipping (float 0x4020_0000)

abbrev hundred : Channel
hundred = Flipping (float 0x42c8_0000)

-- ---- P10: factor 1.5, samples 1 and -1; weight 0.25
p10 : llrs 31 stronger ones ∷ llrs 31 quarter ones ∷ [] ≡ (pos 2 ∷ negsuc 1 ∷ []) ∷ (pos 0 ∷ pos 0 ∷ []) ∷ []
unfolding of_bits mul neg with_sample_sign quantised
p10 = refl

-- ---- halves go away from zero: 0.5, -0.5, 1.5, 2.5, -2.5; the float just below 0.5 goes to 0
halves : llrs 31 plain (0x3f00_0000 ∷ 0xbf00_0000 ∷ 0x3fc0_0000 ∷ 0x4020_0000 ∷ 0xc020_0000 ∷ 0x3eff_ffff ∷ [])
    ≡ pos 1 ∷ negsuc 0 ∷ pos 2 ∷ pos 3 ∷ negsuc 2 ∷ pos 0 ∷ []
unfolding of_bits mul quantised
halves = refl

-- ---- the lowest ceiling, 1, with 0.25, 0.5, 1, -1, 1.5 and 3
lowest-ceiling : llrs 1 plain (0x3e80_0000 ∷ 0x3f00_0000 ∷ 0x3f80_0000 ∷ 0xbf80_0000 ∷ 0x3fc0_0000 ∷ 0x4040_0000 ∷ [])
    ≡ pos 0 ∷ pos 1 ∷ pos 1 ∷ negsuc 0 ∷ pos 1 ∷ pos 1 ∷ []
unfolding of_bits mul quantised
lowest-ceiling = refl

-- ---- the highest ceiling, 2047, with 2046.25, 2046.5, 2046.75, -2046.75, 2047 and 2048
highest-ceiling : llrs 2047 plain
    (0x44ff_c800 ∷ 0x44ff_d000 ∷ 0x44ff_d800 ∷ 0xc4ff_d800 ∷ 0x44ff_e000 ∷ 0x4500_0000 ∷ [])
    ≡ pos 2046 ∷ pos 2047 ∷ pos 2047 ∷ negsuc 2046 ∷ pos 2047 ∷ pos 2047 ∷ []
unfolding of_bits mul quantised
highest-ceiling = refl

-- ---- the smallest samples with the factor 1, the largest and the smallest; a product beyond the format is beyond the
-- ceiling
ends : llrs 31 plain smallest ∷ llrs 31 strongest smallest ∷ llrs 31 weakest smallest ∷ llrs 31 strongest largest ∷ []
    ≡ (pos 0 ∷ pos 0 ∷ []) ∷ (pos 0 ∷ pos 0 ∷ []) ∷ (pos 0 ∷ pos 0 ∷ []) ∷ (pos 31 ∷ negsuc 30 ∷ []) ∷ []
unfolding of_bits mul quantised
ends = refl

-- ---- either zero gives 0, of each kind
zero-samples : llrs 31 stronger zeros ∷ llrs 31 between-two zeros ∷ llrs 31 Erasing zeros ∷ []
    ≡ (pos 0 ∷ pos 0 ∷ []) ∷ (pos 0 ∷ pos 0 ∷ []) ∷ (pos 0 ∷ pos 0 ∷ []) ∷ []
unfolding of_bits mul with_sample_sign quantised
zero-samples = refl

-- ---- of the flipping and the erasing kind the sign alone counts: weight 2.5, a weight above the ceiling, and erasing
signs : llrs 31 between-two ones
    ∷ llrs 31 between-two smallest
    ∷ llrs 31 hundred ones
    ∷ llrs 31 Erasing ones
    ∷ llrs 2047 Erasing smallest
    ∷ []
    ≡ (pos 3 ∷ negsuc 2 ∷ [])
    ∷ (pos 3 ∷ negsuc 2 ∷ [])
    ∷ (pos 31 ∷ negsuc 30 ∷ [])
    ∷ (pos 31 ∷ negsuc 30 ∷ [])
    ∷ (pos 2047 ∷ negsuc 2046 ∷ [])
    ∷ []
unfolding of_bits neg with_sample_sign quantised
signs = refl

-- ---- refusals: m = 1 unless said otherwise, so two samples and room for two LLRs are needed

abbrev one : Float
one = float 0x3f80_0000

abbrev pair : List Float
pair = one ∷ one ∷ []

-- none: just enough, more than enough, and a NaN after the two samples
accepted : front_number 1 31 plain pair 2 ∷ front_number 1 2047 Erasing (one ∷ pair) 9
    ∷ front_number 1 1 plain (one ∷ one ∷ nan ∷ []) 2 ∷ []
    ≡ 0 ∷ 0 ∷ 0 ∷ []
unfolding of_bits is_finite is_above_zero
accepted = refl

-- 1 at m = 0 and 11, and past it at m = 10; 2 at C = 0 and 2048
block-and-ceiling : front_number 0 31 plain pair 2
    ∷ front_number 11 31 plain pair 2
    ∷ front_number 10 31 plain pair 2
    ∷ front_number 1 0 plain pair 2
    ∷ front_number 1 2048 plain pair 2
    ∷ []
    ≡ 1 ∷ 1 ∷ 7 ∷ 2 ∷ 2 ∷ []
unfolding of_bits is_finite is_above_zero
block-and-ceiling = refl

-- 7: one sample too few, room for one LLR too few
short-slices : front_number 1 31 plain (one ∷ []) 2 ∷ front_number 1 31 plain pair 1 ∷ [] ≡ 7 ∷ 7 ∷ []
unfolding of_bits is_finite is_above_zero
short-slices = refl

-- 11: a factor or weight of either zero, -1, infinity and NaN; the smallest float above zero will do
abbrev factors : List Float
factors = float 0x0000_0000 ∷ float 0x8000_0000 ∷ float 0xbf80_0000 ∷ inf false ∷ nan ∷ float 0x0000_0001 ∷ []

unusable : map (λ factor. front_number 1 31 (Gaussian factor) pair 2) factors
    ∷ map (λ weight. front_number 1 31 (Flipping weight) pair 2) factors ∷ []
    ≡ (11 ∷ 11 ∷ 11 ∷ 11 ∷ 11 ∷ 0 ∷ []) ∷ (11 ∷ 11 ∷ 11 ∷ 11 ∷ 11 ∷ 0 ∷ []) ∷ []
unfolding of_bits is_finite is_above_zero
unusable = refl

-- 12, of each kind: a NaN or an infinity, first or last
not_finite : front_number 1 31 Erasing (one ∷ nan ∷ []) 2
    ∷ front_number 1 31 Erasing (inf false ∷ one ∷ []) 2
    ∷ front_number 1 31 quarter (one ∷ inf true ∷ []) 2
    ∷ front_number 1 31 plain (nan ∷ one ∷ []) 2
    ∷ []
    ≡ 12 ∷ 12 ∷ 12 ∷ 12 ∷ []
unfolding of_bits is_finite is_above_zero
not_finite = refl

-- several at once: the lowest
several : front_number 0 0 (Gaussian nan) [] 0
    ∷ front_number 1 0 (Gaussian nan) [] 0
    ∷ front_number 1 31 (Gaussian nan) (nan ∷ []) 0
    ∷ front_number 1 31 (Gaussian nan) (nan ∷ nan ∷ []) 2
    ∷ []
    ≡ 1 ∷ 2 ∷ 7 ∷ 11 ∷ []
unfolding is_finite is_above_zero
several = refl
