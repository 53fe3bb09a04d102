-- A slice whose elements are written, all of them or the first n.
use Rattle.std.proofs.Common.{ℕ, suc, ◌≤◌, ◌<◌, ℤ, pos, ◌≡◌, ◌∙◌, refl, sym, ap, ap₂, get_or, List, [], ◌∷◌, ◌++◌}
use Rattle.std.proofs.Common.{length, take, drop, take-append-drop, length-take-le, arith}
use Rattle.calls.specs.LentMemory.{overwrite}
use Rattle.calls.specs.LentMemoryLaws.{overwrite-append}

pub first-written : {A : Type 0} (n : ℕ) (g : ℕ → A) (old : List A) → n ≤ length old
    → overwrite (length (take n old)) g (take n old) ++ drop n old ≡ overwrite n g old
first-written n g old h =
    let all = length-take-le n old h in
    rw all
    (sym (overwrite-append n g (take n old) (drop n old) (omega (arith, all)))
    ∙ ap (overwrite n g) (take-append-drop n old))

-- each element written
pub each-written : (g : ℕ → ℤ) (old new : List ℤ) → length new ≡ length old
    → ((i : ℕ) → i < length old → get_or new i (pos 0) ≡ g i)
    → new ≡ overwrite (length old) g old
each-written g [] [] e h = refl
each-written g [] (y ∷ new) e h = absurd (omega arith)
each-written g (x ∷ old) [] e h = absurd (omega arith)
each-written g (x ∷ old) (y ∷ new) e h =
    ap₂ (λ (a : ℤ) (r : List ℤ). a ∷ r) (h 0 (omega arith))
    (each-written (λ i. g (suc i)) old new (omega arith) (λ i l. h (suc i) (omega arith)))
