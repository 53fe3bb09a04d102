-- A part of a list, from element p to the end: its elements, and the list after the part's first n are overwritten.
use Rattle.std.proofs.Common.{ℕ, zero, suc, ◌+◌, ◌-◌, ◌≤◌, ◌≡◌, refl, ap, List, [], ◌∷◌, ◌++◌, append-nil, arith}
use Rattle.std.proofs.Common.{le_of_suc-le-suc, length, get_or, take, drop, length-drop, get_or-drop}
use Rattle.std.proofs.Math.Seq.{take-length, drop-length}
use borrow.Author.Rules.{part_to_end}
use borrow.Rule.Slice.PartMut.{mid_of, put_mid}
use Rattle.calls.specs.LentMemory.{overwrite, overwrite_from}

-- what stands from p on, to the end; and the list with another part there
abbrev pub part : ℕ → List ℕ → List ℕ
part p l = mid_of p (length l - p) l

abbrev pub with_part : ℕ → List ℕ → List ℕ → List ℕ
with_part p l new = put_mid p (length l - p) l new

pub part-at : (p j : ℕ) (l : List ℕ) → get_or (part p l) j 0 ≡ get_or l (p + j) 0
part-at p j l = rw part_to_end (get_or-drop p l j 0)

pub part-length : (p : ℕ) (l : List ℕ) → length (part p l) ≡ length l - p
part-length p l = rw part_to_end (length-drop p l)

split-overwritten : (a n : ℕ) (g : ℕ → ℕ) (l : List ℕ) → a ≤ length l
    → take a l ++ overwrite n g (drop a l) ≡ overwrite_from a n g l
split-overwritten zero n g l h = refl
split-overwritten (suc a) n g [] h = absurd (omega arith)
split-overwritten (suc a) n g (x ∷ l) h =
    ap (λ (r : List ℕ). x ∷ r) (split-overwritten a n g l (le_of_suc-le-suc h))

pub part-overwritten : (p n : ℕ) (g : ℕ → ℕ) (l : List ℕ) → p ≤ length l
    → with_part p l (overwrite n g (part p l)) ≡ overwrite_from p n g l
part-overwritten p n g l h =
    rw (← length-drop p l, take-length (drop p l), drop-length (drop p l), append-nil (overwrite n g (drop p l)))
    (split-overwritten p n g l h)
