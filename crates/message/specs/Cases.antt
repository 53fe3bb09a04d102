-- The message arithmetic at chosen cases, by computing: results beside what is expected. `negsuc n` is -(n + 1).
use Rattle.std.specs.Prelude.{ℕ, ◌≡◌, refl, [], ◌∷◌, pos, negsuc, ◌*ℤ◌}
use Rattle.std.specs.Int.Signed.{shr_z}
use Rattle.message.specs.Message.{add, f}
use Rattle.message.specs.MessageLaws.{f_by_cases}
use Rattle.message.specs.declared.MinSum.{MinSum}

abbrev with : ℕ → ℕ → MinSum
with C k = record { ceiling = C; scale = k }

-- -3 and 3 with k = 15: the size 45 / 16 is 2, and the sign follows. The signed product -45 shifted by 4 places would
-- be -3
scaled-size : f (with 31 15) (negsuc 2) (pos 3) ∷ shr_z (pos 15 *ℤ negsuc 2) 16 ∷ [] ≡ negsuc 1 ∷ negsuc 2 ∷ []
unfolding f
scaled-size = refl

-- the four products of signs, and each k at its ends: with k = 16 the smaller size stays, with k = 1 a size below 16 is
-- 0
signs :
    f (with 31 16) (pos 5) (pos 9)
    ∷ f (with 31 16) (pos 5) (negsuc 8)
    ∷ f (with 31 16) (negsuc 4) (pos 9)
    ∷ f (with 31 16) (negsuc 4) (negsuc 8)
    ∷ f (with 31 1) (negsuc 15) (pos 30)
    ∷ f (with 31 1) (negsuc 14) (pos 30)
    ∷ []
    ≡ pos 5 ∷ negsuc 4 ∷ negsuc 4 ∷ pos 5 ∷ negsuc 0 ∷ pos 0 ∷ []
unfolding f
signs = refl

-- f where one of the two is 0
zeros :
    f (with 31 15) (pos 0) (negsuc 8) ∷ f (with 31 15) (negsuc 8) (pos 0) ∷ f (with 31 15) (pos 0) (pos 0) ∷ []
    ≡ pos 0 ∷ pos 0 ∷ pos 0 ∷ []
unfolding f
zeros = refl

-- the same by the paper's cases
by_cases :
    f_by_cases (with 31 15) (negsuc 2) (pos 3)
    ∷ f_by_cases (with 31 15) (negsuc 2) (negsuc 2)
    ∷ f_by_cases (with 31 15) (negsuc 8) (pos 0)
    ∷ []
    ≡ negsuc 1 ∷ pos 2 ∷ pos 0 ∷ []
by_cases = refl

-- sums within the ceiling and beyond it, for C = 31
sums :
    add (with 31 15) (pos 20) (pos 20)
    ∷ add (with 31 15) (negsuc 19) (negsuc 19)
    ∷ add (with 31 15) (pos 20) (negsuc 19)
    ∷ add (with 31 15) (pos 15) (pos 16)
    ∷ add (with 31 15) (negsuc 14) (negsuc 16)
    ∷ []
    ≡ pos 31 ∷ negsuc 30 ∷ pos 0 ∷ pos 31 ∷ negsuc 30 ∷ []
unfolding add
sums = refl

-- the least and the greatest ceiling
ceilings :
    add (with 1 16) (pos 1) (pos 1)
    ∷ add (with 1 16) (negsuc 0) (negsuc 0)
    ∷ add (with 2047 16) (pos 2047) (pos 1)
    ∷ add (with 2047 16) (negsuc 2046) (negsuc 2046)
    ∷ f (with 2047 16) (negsuc 2046) (negsuc 2046)
    ∷ f (with 2047 15) (negsuc 2046) (pos 2047)
    ∷ []
    ≡ pos 1 ∷ negsuc 0 ∷ pos 2047 ∷ negsuc 2046 ∷ pos 2047 ∷ negsuc 1918 ∷ []
unfolding add f
ceilings = refl
