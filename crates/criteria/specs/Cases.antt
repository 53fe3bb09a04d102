-- Criteria 2 and 4 (2026-04) on soft outputs that no block has: sizes at frozen positions that are not the ceiling.
-- Computed facts.
use Rattle.std.specs.Prelude.{ℕ, ◌≡◌, refl, true, false, [], ◌∷◌, map, ℤ, pos, negsuc, get_or}
use Rattle.criteria.specs.Criteria.{least_size, least_information_size}

-- 7, -5, 2, 9
abbrev soft : ℕ → ℤ
soft i = get_or (pos 7 ∷ negsuc 4 ∷ pos 2 ∷ pos 9 ∷ []) i (pos 0)

-- every size counts for criterion 2, whatever the mask
pub every-position : map (λ operand. least_size 4 operand soft) (2 ∷ 3 ∷ []) ≡ true ∷ false ∷ []
every-position = refl

-- for criterion 4 those of information positions: of 7, 5 and 9; of 9; of 2
pub information-positions : map (λ operand. least_information_size 4 operand (0 ∷ 0 ∷ 1 ∷ 0 ∷ []) soft) (5 ∷ 6 ∷ [])
    ≡ true ∷ false ∷ []
information-positions = refl

pub last-position : map (λ operand. least_information_size 4 operand (1 ∷ 1 ∷ 1 ∷ 0 ∷ []) soft) (9 ∷ 10 ∷ [])
    ≡ true ∷ false ∷ []
last-position = refl

pub small-position : map (λ operand. least_information_size 4 operand (1 ∷ 1 ∷ 0 ∷ 1 ∷ []) soft) (2 ∷ 3 ∷ [])
    ≡ true ∷ false ∷ []
small-position = refl
