-- The loops that write soft outputs, in the terms of the code, and a workspace that iterations leave.
use Rattle.std.proofs.Common.{ℕ, ◌+◌, ◌*◌, ◌^◌, ◌<◌, ◌≤◌, ℤ, pos, ◌≡◌, sym, ap, ◌∙◌, get_or, List, ◌++◌, length}
use Rattle.std.proofs.Common.{take, drop, take-append-drop, length-take-le, arith}
use lib.Signed.{mag}
use mir.Syntax.{w16}
use mir.Val.{to_z, of_z}
use Rattle.calls.specs.LentMemory.{overwrite}
use Rattle.calls.specs.LentMemoryLaws.{overwrite-append}
use Rattle.calls.specs.WrittenLaws.{Written}
use Rattle.calls.proofs.Signed.{told}
use Rattle.message.specs.declared.MinSum.{MinSum}
use Rattle.message.specs.Message.{add}
use Rattle.sweeps.specs.Workspace.{row, L, R}
use Rattle.sweeps.specs.Iteration.{iteration, iterations}
use Rattle.sweeps.specs.IterationLaws.{WorkspaceValid, valid-iteration, valid-iterations}
use Rattle.decoder.specs.Decoder.{soft_of}

abbrev pub soft_by : MinSum → ℕ → List ℕ → List ℤ → ℕ → ℤ
soft_by rule m mask w i = soft_of rule (get_or mask i 0) (L m w 0 i) (R m w 0 i)

abbrev pub coded_soft_by : MinSum → ℕ → List ℤ → ℕ → ℤ
coded_soft_by rule m w i = add rule (L m w m i) (R m w m i)

-- a message that a loop reads: at position i of the row k, which starts at the element `at`
pub row-read : (m k : ℕ) (w : List ℤ) (at i : ℕ) {z : ℤ} → mag z < 2 ^ 15 → z ≡ get_or w (at + i) (pos 0)
    → at ≡ k * 2 ^ m → to_z w16 (of_z w16 z) ≡ row m w k i
row-read m k w at i fits is start = told fits (is ∙ ap (λ (a : ℕ). get_or w (a + i) (pos 0)) start)

-- the first n elements of a list, written as a slice of their own
pub written_first : {i n k : ℕ} {g : ℕ → ℤ} (old : List ℤ) {now : List ℤ} → Written i g (take n old) now
    → i ≡ length (take n old) → n ≤ length old → n ≡ k → now ++ drop n old ≡ overwrite k g old
written_first {n = n} {g = g} old h all long e =
    let whole = length-take-le n old long in
    rw (h.is, all, whole, ← e)
    (sym (overwrite-append n g (take n old) (drop n old) (omega (arith, whole)))
    ∙ ap (overwrite n g) (take-append-drop n old))

-- a workspace stays valid, by the rule that the code has computed
module _ {rule rule' : MinSum} {m : ℕ} {old new : List ℤ} (same : rule' ≡ rule) (valid : WorkspaceValid rule m old)
  where
    pub iterated_valid : new ≡ iteration rule' m old → WorkspaceValid rule m new
    iterated_valid is = rw (is, same) (valid-iteration valid)

    pub iterated_times_valid : (n : ℕ) → new ≡ iterations rule' m n old → WorkspaceValid rule m new
    iterated_times_valid n is = rw (is, same) (valid-iterations valid n)
