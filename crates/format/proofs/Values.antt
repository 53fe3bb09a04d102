-- Numbers and lines as they are written, and as the machine keeps their values in 32 bits with a sign.
use Prim.Native.Nat.{ℕ, ◌+◌, ◌/◌, ◌%◌, ◌<◌, ◌≤◌}
use mathlib.Core.Path.{◌≡◌, refl, ap, ◌∙◌}
use mathlib.Core.Bool.{cond}
use mathlib.Core.List.{List, [], ◌∷◌, ◌++◌}
use native.Mathlib.Omega.{arith}
use lib.Dec.{ltb}
use lib.IntN.{ℤ, pos}
use lib.ListN.{length, get_or, set, drop}
use lib.Seq.{sets}
use mir.Syntax.{w32}
use mir.Val.{SFits, to_z, of_z}
use mir.Facts.{to_z_pos, to_z-of_z}
use Rattle.format.specs.Decimal.{decimal, shown, line}
use Rattle.format.specs.DecimalLaws.{decimal-large, line-next}
use Rattle.format.specs.WroteLaws.{sets-append}

pub natural-held : (n : ℕ) → n ≤ 9999 → to_z w32 n ≡ pos n
natural-held n h = to_z_pos w32 (omega arith)

pub line-next-held : (zs : List ℤ) (i b : ℕ) → SFits w32 (get_or zs i (pos 0)) → i < length zs
    → b ≡ cond (ltb (i + 1) (length zs)) 32 10
    → line (drop i zs) ≡ shown (to_z w32 (of_z w32 (get_or zs i (pos 0)))) ++ (b ∷ []) ++ line (drop (i + 1) zs)
line-next-held zs i b fits h e = rw (to_z-of_z fits) (line-next zs i b h e)

-- to store a number of 10 or more is to store its tenth, and its last digit after it
pub sets-decimal : (l : List ℕ) (at n : ℕ) → 10 ≤ n
    → sets l at (decimal n) ≡ set (sets l at (decimal (n / 10))) (at + length (decimal (n / 10))) (48 + n % 10)
sets-decimal l at n h =
    ap (sets l at) (decimal-large n h)
    ∙ sets-append l at (at + length (decimal (n / 10))) (decimal (n / 10)) ((48 + n % 10) ∷ []) refl
