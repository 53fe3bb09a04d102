-- Laws of a loop that writes a slice from its first element on: `Written i g old now` is its
-- invariant, `overwrite` what it ends in.
use Rattle.std.specs.Prelude.{ℕ, ◌+◌, ◌≤◌, ◌<◌, ◌≡◌, refl, List, length, get_or, set}
use Rattle.std.proofs.Common.{ap, ◌∙◌, add-one, arith}
use Rattle.calls.specs.LentMemory.{overwrite}
use Rattle.calls.specs.LentMemoryLaws.{length-overwrite, overwrite-at, overwrite-store}

-- the first i elements are written
pub record Written {A : Type 0} (i : ℕ) (g : ℕ → A) (old now : List A) : Type 0 where
  pub is : now ≡ overwrite i g old

pub written_none : {A : Type 0} {g : ℕ → A} {old : List A} → Written 0 g old old
written_none = record { is = refl }

module _ {A : Type 0} {i : ℕ} {g : ℕ → A} {old now : List A} (h : Written i g old now) where
  pub written-length : length now ≡ length old
  written-length = ap length h.is ∙ simp length-overwrite

  pub written_next : {v : A} → v ≡ g i → i < length old → Written (i + 1) g old (set now i v)
  written_next e l = record { is = rw (e, h.is, add-one i) (overwrite-store i g old l) }

  pub written_all : (n : ℕ) → i ≡ n → now ≡ overwrite n g old
  written_all n e = rw e at h.is

  pub written_at : (j : ℕ) (z : A) → j < i → i ≤ length old → get_or now j z ≡ g j
  written_at j z l long = rw h.is (overwrite-at i g old j z l (omega arith))
