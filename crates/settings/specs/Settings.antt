-- Document 01, the decoder's lines of "Numbers by who causes them": 1 to 10, of which 2026-04 amends 5 and 6, and
-- 2026-07 amends 4.
-- Definitions only.
use Rattle.std.specs.Prelude.{ℕ, zero, suc, ◌^◌, Bool, ◌&&◌, List, [], ◌∷◌, leb, eqb, ℤ, pos, nat_abs, length, get_or}
use Rattle.calls.specs.Bounds.{largest_m, largest_ceiling, largest_scale, workspace_length}
use Rattle.calls.specs.Every.{every}
use Rattle.calls.specs.Numbers.{check, first_refusal, between}
use Rattle.polar.specs.Mask.{mask_accepted}
use Rattle.polar.specs.Code.{information_count}
use Rattle.settings.specs.declared.Settings.{Settings}
use Rattle.settings.specs.declared.Lengths.{Lengths}

-- all settings, in the order of the report's first name line
abbrev pub settings_list : Settings → List ℕ
settings_list s = s.m ∷ s.ceiling ∷ s.scale ∷ s.limit ∷ s.criterion ∷ s.operand ∷ []

-- 6. The operand of criteria 0 and 1 is 0, of 2 it is 1 to C, of 3 it is 1 to 8, of 4 it is 1 to C (2026-04)
abbrev pub operand_fits : ℕ → ℕ → ℕ → Bool
operand_fits C zero operand = eqb operand 0
operand_fits C (suc zero) operand = eqb operand 0
operand_fits C (suc (suc zero)) operand = between 1 C operand
operand_fits C (suc (suc (suc zero))) operand = between 1 8 operand
operand_fits C (suc (suc (suc (suc n)))) operand = between 1 C operand

-- the largest limit T (2026-07)
abbrev pub largest_limit : ℕ
largest_limit = 64

-- the last criterion (2026-04)
abbrev pub largest_criterion : ℕ
largest_criterion = 4

-- 1 to 6
abbrev pub settings_number : Settings → ℕ
settings_number s =
    check (between 1 largest_m s.m) 1
    (check (between 1 largest_ceiling s.ceiling) 2
    (check (between 1 largest_scale s.scale) 3
    (check (between 1 largest_limit s.limit) 4
    (check (leb s.criterion largest_criterion) 5
    (check (operand_fits s.ceiling s.criterion s.operand) 6 0)))))

-- 7. Mask, LLRs and the four outputs need N elements, the workspace 2 (m + 1) N
abbrev pub slices_fit : ℕ → ℕ → ℕ → Lengths → Bool
slices_fit m mask llr lengths =
    leb (2 ^ m) mask
    && leb (2 ^ m) llr
    && leb (2 ^ m) lengths.soft
    && leb (2 ^ m) lengths.mark
    && leb (2 ^ m) lengths.coded_soft
    && leb (2 ^ m) lengths.coded_mark
    && leb (workspace_length m) lengths.work

-- 10. No LLR of the first n has a size above C
abbrev pub within_ceiling : ℕ → ℕ → List ℤ → Bool
within_ceiling n C llr = every n (λ i. leb (nat_abs (get_or llr i (pos 0))) C)

abbrev pub decode_number : Settings → List ℕ → List ℤ → Lengths → ℕ
decode_number s mask llr lengths =
    first_refusal (settings_number s)
    (check (slices_fit s.m (length mask) (length llr) lengths) 7
    (check (mask_accepted (2 ^ s.m) mask) 8
    (check (leb 1 (information_count mask (2 ^ s.m))) 9
    (check (within_ceiling (2 ^ s.m) s.ceiling llr) 10 0))))
