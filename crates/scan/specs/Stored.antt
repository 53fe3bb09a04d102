-- The values of a line up to its first fault.
use Rattle.std.specs.Prelude.{ℕ, zero, suc, ◌+◌, ◌-◌, ◌<◌, ◌≤◌, ◌≡◌, refl, List, [], ◌∷◌, ℤ, length, set, drop}
use Rattle.std.proofs.Common.{◌∙◌, add-one, arith, sub-one}
use Rattle.std.proofs.lemmas.List.Edits.{sets}
use Rattle.calls.specs.LentMemory.{written_over}
use Rattle.calls.specs.LentMemoryLaws.{written-sets, written_behind}
use Rattle.scan.specs.Reading.{Reading, found, malformed, bind, if_found}
use Rattle.scan.specs.Numbers.{number}
use Rattle.scan.specs.Lines.{separator, line}
use Rattle.scan.specs.ScanLaws.{bind-found, behind}

-- the values of a line of n that are stored: all of them, or those before the first fault. A value is stored once what
-- comes after it has been read too
unfoldable pub values_stored : ℕ → List ℕ → List ℤ
values_stored zero s = []
values_stored (suc n) s =
    if_found (number s) [] (λ z s.
    if_found (separator n s) [] (λ _ s. z ∷ values_stored n s))

pub stored-none : (n : ℕ) (s : List ℕ) → n ≤ 0 → values_stored n s ≡ []
unfolding values_stored
stored-none zero s h = refl
stored-none (suc n) s h = absurd (omega arith)

stored_some : (n : ℕ) (s : List ℕ) → 0 < n → values_stored n s
    ≡ if_found (number s) [] (λ z u. if_found (separator (n - 1) u) [] (λ _ w. z ∷ values_stored (n - 1) w))
unfolding values_stored
stored_some zero s h = absurd (omega arith)
stored_some (suc n) s h = rw (sub-one (suc n))

module _ (n : ℕ) (s : List ℕ) (h : 0 < n) where
  pub stored-no-number : number s ≡ malformed → values_stored n s ≡ []
  stored-no-number e = stored_some n s h ∙ rw e

  module _ (z : ℤ) (u : List ℕ) (e : number s ≡ found z u) where
    pub stored-no-separator : separator (n - 1) u ≡ malformed → values_stored n s ≡ []
    stored-no-separator g = stored_some n s h ∙ rw (e, g)

    pub stored_next : (w : List ℕ) → separator (n - 1) u ≡ found tt w
        → values_stored n s ≡ z ∷ values_stored (n - 1) w
    stored_next w g = stored_some n s h ∙ rw (e, g)

-- at most n of n
pub stored-length : (n : ℕ) (s : List ℕ) → length (values_stored n s) ≤ n
unfolding values_stored
stored-length zero s = omega arith
stored-length (suc n) s = first-value (number s) (λ w. stored-length n w)
  where
    first-separator : (z : ℤ) (r : Reading Unit) → ((w : List ℕ) → length (values_stored n w) ≤ n)
        → length (if_found r [] (λ _ w. z ∷ values_stored n w)) ≤ suc n
    first-separator z (found _ w) short = omega (arith, short w)
    first-separator z malformed short = omega arith

    first-value : (r : Reading ℤ) → ((w : List ℕ) → length (values_stored n w) ≤ n)
        → length (if_found r [] (λ z u. if_found (separator n u) [] (λ _ w. z ∷ values_stored n w))) ≤ suc n
    first-value (found z u) short = first-separator z (separator n u) short
    first-value malformed short = omega arith

-- stored one after another
pub stored-over : (n : ℕ) (s : List ℕ) (old : List ℤ) → n ≤ length old
    → sets old 0 (values_stored n s) ≡ written_over (values_stored n s) old
stored-over n s old h = written-sets (values_stored n s) old (omega (arith, stored-length n s))

-- where the values stored so far, with those to come after them, are those of the whole line: one value more is stored
pub stored-one-more : (n i : ℕ) (t s : List ℕ) (old values : List ℤ) (z : ℤ) (u w : List ℕ) → i < n
    → sets values i (values_stored (n - i) s) ≡ sets old 0 (values_stored n t)
    → number s ≡ found z u → separator (n - 1 - i) u ≡ found tt w
    → sets (set values i z) (i + 1) (values_stored (n - (i + 1)) w) ≡ sets old 0 (values_stored n t)
stored-one-more n i t s old values z u w inside so-far e g =
    let fewer : n - i - 1 ≡ n - 1 - i = omega arith in
    let left : n - i - 1 ≡ n - (i + 1) = omega arith in
    let next = stored_next (n - i) s (omega arith) z u e w (rw fewer g) in
    rw (add-one i) (rw (next, left, add-one i) at so-far)

-- after the first n elements nothing is written
pub stored-behind : (n : ℕ) (s : List ℕ) (old : List ℤ)
    → drop n (written_over (values_stored n s) old) ≡ drop n old
stored-behind n s old = written_behind (values_stored n s) old n (stored-length n s)

-- a line that was read is stored whole
pub stored-line : (n : ℕ) (s : List ℕ) (zs : List ℤ) (u : List ℕ) → line n s ≡ found zs u → values_stored n s ≡ zs
unfolding line values_stored
stored-line zero s zs u e = cc
stored-line (suc n) s zs u e =
    let (z, v, h, e₁) =
    bind-found (number s) (λ z s. bind (separator n s) (λ _ s. behind (z ∷ []) (line n s))) zs u e in
    let (_, w, k, e₂) = bind-found (separator n v) (λ _ s. behind (z ∷ []) (line n s)) zs u e₁ in
    let (ys, x, g, e₃) = bind-found (line n w) (λ ys s. found (z ∷ ys) s) zs u e₂ in
    let same : z ∷ ys ≡ zs = cc in
    rw (h, k, stored-line n w ys x g) same
