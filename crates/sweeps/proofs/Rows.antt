-- Runs and rows of the workspace that a loop fills.
use Prim.Native.Nat.{ℕ, ◌+◌, ◌-◌, ◌*◌, ◌^◌, ◌≤◌, ◌<◌}
use mathlib.Core.Path.{◌≡◌, refl, ◌∙◌}
use mathlib.Core.List.{List}
use native.Mathlib.Nat.{suc-mul, mul-le-mul_right}
use native.Mathlib.Omega.{arith}
use borrow.Rule.Slice.PartMut.{put_mid}
use lib.IntN.{ℤ, pos}
use lib.ListN.{length, take, drop}
use Rattle.std.proofs.Common.{length-take-le}
use Rattle.std.proofs.lemmas.List.{length-drop}
use Rattle.calls.specs.Bounds.{workspace_length}
use Rattle.calls.specs.LentMemory.{overwrite_from}
use Rattle.calls.specs.WrittenLaws.{Written, written-length, written_at, written_next}
use Rattle.sweeps.specs.Workspace.{set_row}
use Rattle.sweeps.proofs.Parts.{copied, overwrite_from-same}

-- the n elements from place a on
width : (a n : ℕ) → a + n - a ≡ n
width a n = omega arith

part-length : (a n : ℕ) (l : List ℤ) → a + n ≤ length l → length (take (a + n - a) (drop a l)) ≡ n
part-length a n l fits =
    rw (width a n) (length-take-le n (drop a l) (omega (arith, length-drop a l)))

row-fits : (m k n room : ℕ) → n ≡ 2 ^ m → k < 2 * (m + 1) → workspace_length m ≤ room → k * n + n ≤ room
row-fits m k n room e inside h = rw e (omega (arith, suc-mul k (2 ^ m), mul-le-mul_right (2 ^ m) inside))

-- a run, each of its places written
pub run-written : (a n : ℕ) {i : ℕ} {g : ℕ → ℤ} (old : List ℤ) {values : List ℤ} → a + n ≤ length old
    → Written i g (take (a + n - a) (drop a old)) values → length (take (a + n - a) (drop a old)) ≤ i
    → i ≤ length (take (a + n - a) (drop a old)) → put_mid a (a + n - a) old values ≡ overwrite_from a n g old
run-written a n {i} {g} old {values} fits h last most =
    let long : length (take (a + n - a) (drop a old)) ≡ n = part-length a n old fits in
    copied a (a + n - a) n values old (pos 0) (width a n) (written-length h ∙ long) fits
    ∙ overwrite_from-same a n _ g old (λ j l. written_at h j (pos 0) (omega (arith, last, long)) most)

-- row k, each of its places written
pub row-written : (m k : ℕ) {n i : ℕ} {g : ℕ → ℤ} (old : List ℤ) {values : List ℤ} → n ≡ 2 ^ m → k < 2 * (m + 1)
    → workspace_length m ≤ length old → Written i g (take (k * n + n - k * n) (drop (k * n) old)) values
    → length (take (k * n + n - k * n) (drop (k * n) old)) ≤ i
    → i ≤ length (take (k * n + n - k * n) (drop (k * n) old))
    → put_mid (k * n) (k * n + n - k * n) old values ≡ set_row m k g old
unfolding set_row
row-written m k {n} old en inside room h last most =
    run-written (k * n) n old (row-fits m k n (length old) en inside room) h last most ∙ rw en refl

-- what the check tries at a loop that fills a row, or a run
pub ruleset row_filling = (written_next, row-written)

pub ruleset run_filling = (written_next, run-written)
