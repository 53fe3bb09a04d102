-- Arrays, filled one after the other, and runs of the workspace by what they hold.
use Prim.Native.Nat.{ℕ, zero, suc, ◌+◌, ◌≤◌, ◌<◌}
use mathlib.Core.Path.{◌≡◌, refl, ap, ◌∙◌}
use mathlib.Core.List.{List, [], ◌∷◌}
use native.Mathlib.Numerals.{add-one}
use native.Mathlib.Omega.{arith}
use lib.IntN.{ℤ, pos}
use lib.ListN.{length, set, get_or}
use borrow.Rule.Slice.PartMut.{put_mid}
use Rattle.calls.specs.LentMemory.{overwrite, overwrite_from}
use Rattle.calls.specs.LentMemoryLaws.{length-overwrite, overwrite-at, overwrite-store, overwrite-same}
use Rattle.sweeps.specs.Private.{message_at}

-- the first i elements of an array of n are those of g
pub record ArrayPart (n i : ℕ) (g : ℕ → ℤ) (values : List ℤ) : Type 0 where
  pub old : List ℤ
  pub long : length old ≡ n
  pub is : values ≡ overwrite i g old

pub array-none : {n : ℕ} {g : ℕ → ℤ} {values : List ℤ} → length values ≡ n → ArrayPart n 0 g values
array-none {values = values} e = record { old = values; long = e; is = refl }

module _ {n i : ℕ} {g : ℕ → ℤ} {values : List ℤ} (h : ArrayPart n i g values) where
  pub array-length : length values ≡ n
  array-length = ap length h.is ∙ simp length-overwrite h.long

  pub array-next : i < n → {v : ℤ} → v ≡ g i → ArrayPart n (i + 1) g (set values i v)
  array-next l e =
      record {
        old = h.old;
        long = h.long;
        is = rw (e, h.is, add-one i) (overwrite-store i g h.old (omega (arith, h.long)));
      }

  pub array_at : i ≡ n → (j : ℕ) → j < n → message_at values j ≡ g j
  array_at e j l = rw (h.is, e) (overwrite-at n g h.old j (pos 0) l (omega (arith, h.long)))

-- a run by its values alone, and by a list of them that is copied into it
module _ {A : Type 0} where
  pub overwrite_from-same : (a n : ℕ) (g h : ℕ → A) (l : List A) → ((i : ℕ) → i < n → g i ≡ h i)
      → overwrite_from a n g l ≡ overwrite_from a n h l
  overwrite_from-same zero n g h l e = overwrite-same n g h l (λ i k q. e i k)
  overwrite_from-same (suc a) n g h [] e = refl
  overwrite_from-same (suc a) n g h (x ∷ l) e = ap (λ (r : List A). x ∷ r) (overwrite_from-same a n g h l e)

  pub copied : (a k n : ℕ) (values l : List A) (z : A) → k ≡ n → length values ≡ n → a + n ≤ length l
      → put_mid a k l values ≡ overwrite_from a n (λ i. get_or values i z) l
  copied zero k zero [] l z e long room = rw e
  copied zero k (suc n) (v ∷ values) (x ∷ l) z e long room =
      rw e (ap (λ (r : List A). v ∷ r) (copied zero n n values l z refl (omega arith) (omega arith)))
  copied zero k (suc n) (v ∷ values) [] z e long room = absurd (omega arith)
  copied zero k zero (v ∷ values) l z e long room = absurd (omega arith)
  copied zero k (suc n) [] l z e long room = absurd (omega arith)
  copied (suc a) k n values [] z e long room = absurd (omega arith)
  copied (suc a) k n values (x ∷ l) z e long room =
      ap (λ (r : List A). x ∷ r) (copied a k n values l z e long (omega arith))
