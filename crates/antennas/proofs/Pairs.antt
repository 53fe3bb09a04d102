-- Pairs of samples: all are finite where all samples of each branch are.
use Rattle.std.proofs.Common.{◌≡◌, ◌∙◌, refl, sym, ap, ap₂, Bool, ◌&&◌, List, [], ◌∷◌, length}
use Rattle.std.proofs.Common.{ℕ, ◌≤◌, take, length-take-le, arith}
use Rattle.std.specs.List.{zip, list_all}
use lib.Ieee.{Float, nan}
use Rattle.calls.specs.EveryLaws.{every-listed}
use Rattle.channel.specs.Front.{is_finite, all_finite}
use Rattle.channel.proofs.Samples.{finite_firsts}
use Rattle.antennas.specs.FrontTwo.{branches, are_finite}

abbrev pub both : Float × Float → Bool
both pair = is_finite pair.0 && is_finite pair.1

exchanged : (a b c d : Bool) → a && b && (c && d) ≡ a && c && (b && d)
exchanged a b c d = grind arith

listed : (xs ys : List Float) → length xs ≡ length ys
    → list_all both (zip xs ys) ≡ list_all is_finite xs && list_all is_finite ys
listed [] [] e = refl
listed [] (y ∷ ys) e = absurd (omega arith)
listed (x ∷ xs) [] e = absurd (omega arith)
listed (x ∷ xs) (y ∷ ys) e =
    ap (λ t. both (x, y) && t) (listed xs ys (omega arith))
    ∙ exchanged (is_finite x) (is_finite y) (list_all is_finite xs) (list_all is_finite ys)

pub pairs-listed : (xs ys : List Float) → length xs ≡ length ys
    → list_all both (zip xs ys) ≡ are_finite (length xs) (branches xs ys)
pairs-listed xs ys e =
    listed xs ys e
    ∙ ap₂ (λ (s t : Bool). s && t) (every-listed nan is_finite xs)
    (every-listed nan is_finite ys ∙ ap (λ n. all_finite n ys) (sym e))

-- the first n, which the code takes as slices of their own
pub pair_firsts : (n : ℕ) (xs ys : List Float) → n ≤ length xs → n ≤ length ys
    → are_finite (length (take n xs)) (branches (take n xs) (take n ys)) ≡ are_finite n (branches xs ys)
pair_firsts n xs ys h k =
    ap₂ (λ (s t : Bool). s && t) (finite_firsts n xs h)
    (ap (λ i. all_finite i (take n ys)) (length-take-le n xs h ∙ sym (length-take-le n ys k)) ∙ finite_firsts n ys k)
