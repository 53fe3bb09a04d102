-- A fold that keeps the flag whether every element passed, over what an iterator yields: the test of every place.
use Rattle.std.proofs.Common.{◌≡◌, ◌∙◌, Bool, ◌&&◌, List, length, get_or}
use Rattle.std.specs.declared.option.Option.{Option}
use Rattle.std.specs.Fn.{Called}
use Rattle.std.specs.Iterator.{Drains}
use Rattle.std.specs.List.{FoldsTo}
use Rattle.std.proofs.lemmas.Iterator.{YieldsList}
use Rattle.std.proofs.lemmas.Iterator.Consumers.{fold_from_yields_List}
use denote.Param.Members.{Mut}
use Rattle.calls.specs.Every.{every}
use Rattle.calls.specs.EveryLaws.{every-folded}

pub every_from_fold : {S A B F : Type 0} {steps : S → Option A → S → Type 0} {v : A → B} {s : S} {all : List B}
    {g : Mut F (Bool × (A × Unit {0})) Bool} {f : F} (z : B) (test : B → Bool) {b r : Bool}
    → (xs : List A) × (q : F) × Drains steps s xs
    × FoldsTo {P = F × Bool} (λ a x c. Called g a.0 (a.1, (x, tt)) c.1 c.0) (f, b) xs (q, r)
    → YieldsList steps v s all
    → ((a : Bool) (x : A) (c : Bool) (q : F) → Called g f (a, (x, tt)) c q → (q ≡ f) × (c ≡ a && test (v x)))
    → r ≡ b && every (length all) (λ i. test (get_or all i z))
every_from_fold {all = all} {g = g} z test {b} {r} ran yields each =
    fold_from_yields_List g (λ a x. a && test x) b r ran yields each ∙ every-folded z test b all
