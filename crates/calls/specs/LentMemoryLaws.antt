-- Laws of lent memory: the length and the elements of an overwritten list, how it grows, a list written over the first
-- elements, a slice after a call, and slices of two calls that write the same.
use Rattle.std.specs.Prelude.{ℕ, zero, suc, ◌+◌, ◌-◌, ◌≤◌, ◌<◌, ◌≡◌, refl, List, [], ◌∷◌, ◌++◌, length, get_or, set}
use Rattle.std.specs.Prelude.{take, drop}
use Rattle.std.proofs.Common.{sym, ap, ap₂, ◌∙◌, le_of_suc-le-suc, not-suc-le-zero, add-zero, add-suc, zero-add}
use Rattle.std.proofs.Common.{suc-add, arith, drop-drop, get_or-take, take_all, take_at, drop_at}
use Rattle.std.proofs.lemmas.List.Edits.{sets, sets-eq}
use Rattle.std.proofs.Math.Seq.{drop-append-add}
use Rattle.calls.specs.LentMemory.{overwrite, overwrite_from, written_over, unless_refused, SameWritten}

module _ {A : Type 0} where
  -- what an accepted call leaves matters only where the call is accepted
  pub unless-refused-same : (number : ℕ) (new new' old : A) → (number ≡ 0 → new ≡ new')
      → unless_refused number new old ≡ unless_refused number new' old
  unless-refused-same zero new new' old h = h refl
  unless-refused-same (suc number) new new' old h = refl

  pub length-overwrite : (n : ℕ) (g : ℕ → A) (l : List A) → length (overwrite n g l) ≡ length l
  length-overwrite zero g l = refl
  length-overwrite (suc n) g [] = refl
  length-overwrite (suc n) g (x ∷ l) = ap suc (length-overwrite n (λ i. g (suc i)) l)

  -- an element that is written, and one after those
  pub overwrite-at : (n : ℕ) (g : ℕ → A) (l : List A) (i : ℕ) (z : A) → i < n → i < length l
      → get_or (overwrite n g l) i z ≡ g i
  overwrite-at zero g l i z h k = absurd (not-suc-le-zero h)
  overwrite-at (suc n) g [] i z h k = absurd (not-suc-le-zero k)
  overwrite-at (suc n) g (x ∷ l) zero z h k = refl
  overwrite-at (suc n) g (x ∷ l) (suc i) z h k =
      overwrite-at n (λ j. g (suc j)) l i z (le_of_suc-le-suc h) (le_of_suc-le-suc k)

  pub overwrite-behind : (n : ℕ) (g : ℕ → A) (l : List A) (i : ℕ) (z : A) → n ≤ i
      → get_or (overwrite n g l) i z ≡ get_or l i z
  overwrite-behind zero g l i z h = refl
  overwrite-behind (suc n) g [] i z h = refl
  overwrite-behind (suc n) g (x ∷ l) zero z h = absurd (not-suc-le-zero h)
  overwrite-behind (suc n) g (x ∷ l) (suc i) z h = overwrite-behind n (λ j. g (suc j)) l i z (le_of_suc-le-suc h)

  -- one element more: by a store, and where it is right as it stands
  pub overwrite-store : (n : ℕ) (g : ℕ → A) (l : List A) → n < length l
      → set (overwrite n g l) n (g n) ≡ overwrite (suc n) g l
  overwrite-store n g [] h = absurd (not-suc-le-zero h)
  overwrite-store zero g (x ∷ l) h = refl
  overwrite-store (suc n) g (x ∷ l) h =
      ap (λ (r : List A). g 0 ∷ r) (overwrite-store n (λ i. g (suc i)) l (le_of_suc-le-suc h))

  pub overwrite-keep : (n : ℕ) (g : ℕ → A) (l : List A) (z : A) → (n < length l → get_or l n z ≡ g n)
      → overwrite n g l ≡ overwrite (suc n) g l
  overwrite-keep zero g [] z h = refl
  overwrite-keep (suc n) g [] z h = refl
  overwrite-keep zero g (x ∷ l) z h = ap (λ (y : A). y ∷ l) (h (omega arith))
  overwrite-keep (suc n) g (x ∷ l) z h =
      ap (λ (r : List A). g 0 ∷ r) (overwrite-keep n (λ i. g (suc i)) l z (λ k. h (omega arith)))

  pub overwrite-keeps : (n k : ℕ) (g : ℕ → A) (l : List A) (z : A) → ((i : ℕ) → n ≤ i → i < n + k → get_or l i z ≡ g i)
      → overwrite n g l ≡ overwrite (n + k) g l
  overwrite-keeps n zero g l z h = rw add-zero
  overwrite-keeps n (suc k) g l z h =
      overwrite-keeps n k g l z (λ i p q. h i p (omega arith))
      ∙ rw add-suc (overwrite-keep (n + k) g l z (λ q. h (n + k) (omega arith) (omega arith)))

  -- only the values below n count; the later of two overwrites stands; overwritten by its own elements a list stays as
  -- it is
  pub overwrite-same : (n : ℕ) (g h : ℕ → A) (l : List A) → ((i : ℕ) → i < n → i < length l → g i ≡ h i)
      → overwrite n g l ≡ overwrite n h l
  overwrite-same zero g h l e = refl
  overwrite-same (suc n) g h [] e = refl
  overwrite-same (suc n) g h (x ∷ l) e =
      ap₂ (λ (y : A) (r : List A). y ∷ r) (e 0 (omega arith) (omega arith))
      (overwrite-same n (λ i. g (suc i)) (λ i. h (suc i)) l (λ i k q. e (suc i) (omega arith) (omega arith)))

  pub overwrite-twice : (n : ℕ) (g h : ℕ → A) (l : List A) → overwrite n g (overwrite n h l) ≡ overwrite n g l
  overwrite-twice zero g h l = refl
  overwrite-twice (suc n) g h [] = refl
  overwrite-twice (suc n) g h (x ∷ l) =
      ap (λ (r : List A). g 0 ∷ r) (overwrite-twice n (λ i. g (suc i)) (λ i. h (suc i)) l)

  pub overwrite-own : (n : ℕ) (l : List A) (z : A) → overwrite n (λ i. get_or l i z) l ≡ l
  overwrite-own zero l z = refl
  overwrite-own (suc n) [] z = refl
  overwrite-own (suc n) (x ∷ l) z = ap (λ (r : List A). x ∷ r) (overwrite-own n l z)

  -- what holds of an element, and of every value written, holds of what stands there afterwards
  pub overwrite-every : (P : A → Type 0) (n : ℕ) (g : ℕ → A) (l : List A) (j : ℕ) (z : A) → ((i : ℕ) → i < n → P (g i))
      → P (get_or l j z)
      → P (get_or (overwrite n g l) j z)
  overwrite-every P zero g l j z new old = old
  overwrite-every P (suc n) g [] j z new old = old
  overwrite-every P (suc n) g (x ∷ l) zero z new old = new 0 (omega arith)
  overwrite-every P (suc n) g (x ∷ l) (suc j) z new old =
      overwrite-every P n (λ i. g (suc i)) l j z (λ i h. new (suc i) (omega arith)) old

  -- ---- from element a on

  pub length-overwrite_from : (a n : ℕ) (g : ℕ → A) (l : List A) → length (overwrite_from a n g l) ≡ length l
  length-overwrite_from zero n g l = length-overwrite n g l
  length-overwrite_from (suc a) n g [] = refl
  length-overwrite_from (suc a) n g (x ∷ l) = ap suc (length-overwrite_from a n g l)

  pub overwrite_from-none : (a : ℕ) (g : ℕ → A) (l : List A) → overwrite_from a 0 g l ≡ l
  overwrite_from-none zero g l = refl
  overwrite_from-none (suc a) g [] = refl
  overwrite_from-none (suc a) g (x ∷ l) = ap (λ (r : List A). x ∷ r) (overwrite_from-none a g l)

  pub overwrite_from-at : (a n : ℕ) (g : ℕ → A) (l : List A) (i : ℕ) (z : A) → i < n → a + i < length l
      → get_or (overwrite_from a n g l) (a + i) z ≡ g i
  overwrite_from-at zero n g l i z h k = rw zero-add (overwrite-at n g l i z h (omega arith))
  overwrite_from-at (suc a) n g [] i z h k = absurd (not-suc-le-zero k)
  overwrite_from-at (suc a) n g (x ∷ l) i z h k = rw suc-add (overwrite_from-at a n g l i z h (omega arith))

  pub overwrite_from-before : (a n : ℕ) (g : ℕ → A) (l : List A) (i : ℕ) (z : A) → i < a
      → get_or (overwrite_from a n g l) i z ≡ get_or l i z
  overwrite_from-before zero n g l i z h = absurd (not-suc-le-zero h)
  overwrite_from-before (suc a) n g [] i z h = refl
  overwrite_from-before (suc a) n g (x ∷ l) zero z h = refl
  overwrite_from-before (suc a) n g (x ∷ l) (suc i) z h = overwrite_from-before a n g l i z (le_of_suc-le-suc h)

  pub overwrite_from-behind : (a n : ℕ) (g : ℕ → A) (l : List A) (i : ℕ) (z : A) → a + n ≤ i
      → get_or (overwrite_from a n g l) i z ≡ get_or l i z
  overwrite_from-behind zero n g l i z h = overwrite-behind n g l i z (omega arith)
  overwrite_from-behind (suc a) n g [] i z h = refl
  overwrite_from-behind (suc a) n g (x ∷ l) zero z h = absurd (omega arith)
  overwrite_from-behind (suc a) n g (x ∷ l) (suc i) z h = overwrite_from-behind a n g l i z (omega arith)

  pub overwrite_from-store : (a n : ℕ) (g : ℕ → A) (l : List A) → a + n < length l
      → set (overwrite_from a n g l) (a + n) (g n) ≡ overwrite_from a (suc n) g l
  overwrite_from-store zero n g l h = rw zero-add (overwrite-store n g l (omega arith))
  overwrite_from-store (suc a) n g [] h = absurd (not-suc-le-zero h)
  overwrite_from-store (suc a) n g (x ∷ l) h =
      rw suc-add (ap (λ (r : List A). x ∷ r) (overwrite_from-store a n g l (omega arith)))

  pub overwrite_from-every : (P : A → Type 0) (a n : ℕ) (g : ℕ → A) (l : List A) (j : ℕ) (z : A)
      → ((i : ℕ) → i < n → P (g i)) → P (get_or l j z)
      → P (get_or (overwrite_from a n g l) j z)
  overwrite_from-every P zero n g l j z new old = overwrite-every P n g l j z new old
  overwrite_from-every P (suc a) n g [] j z new old = old
  overwrite_from-every P (suc a) n g (x ∷ l) zero z new old = old
  overwrite_from-every P (suc a) n g (x ∷ l) (suc j) z new old = overwrite_from-every P a n g l j z new old

  -- k elements more, after the first n
  pub overwrite-more : (n k : ℕ) (f g : ℕ → A) (l : List A) → ((i : ℕ) → i < k → f i ≡ g (n + i))
      → overwrite_from n k f (overwrite n g l) ≡ overwrite (n + k) g l
  overwrite-more zero k f g l h = rw zero-add (overwrite-same k f g l (λ i q r. h i q ∙ ap g (zero-add i)))
  overwrite-more (suc n) k f g [] h = rw suc-add
  overwrite-more (suc n) k f g (x ∷ l) h =
      rw suc-add
      (ap (λ (r : List A). g 0 ∷ r) (overwrite-more n k f (λ i. g (suc i)) l (λ i q. h i q ∙ ap g (suc-add n i))))

  -- the same from element a on
  pub overwrite_from-more : (a n k : ℕ) (f g : ℕ → A) (l : List A) → ((i : ℕ) → i < k → f i ≡ g (n + i))
      → overwrite_from (a + n) k f (overwrite_from a n g l) ≡ overwrite_from a (n + k) g l
  overwrite_from-more zero n k f g l h = rw zero-add (overwrite-more n k f g l h)
  overwrite_from-more (suc a) n k f g [] h = rw suc-add
  overwrite_from-more (suc a) n k f g (x ∷ l) h =
      rw suc-add (ap (λ (r : List A). x ∷ r) (overwrite_from-more a n k f g l h))

  -- a store before what is written
  pub set_before : (a n : ℕ) (g : ℕ → A) (l : List A) (j : ℕ) (v : A) → j < a
      → set (overwrite_from a n g l) j v ≡ overwrite_from a n g (set l j v)
  set_before zero n g l j v h = absurd (not-suc-le-zero h)
  set_before (suc a) n g [] j v h = refl
  set_before (suc a) n g (x ∷ l) zero v h = refl
  set_before (suc a) n g (x ∷ l) (suc j) v h = ap (λ (r : List A). x ∷ r) (set_before a n g l j v (le_of_suc-le-suc h))

  -- ---- a list written over the first elements

  -- what is stored one after another from the first element on
  pub written-sets : (values old : List A) → length values ≤ length old → sets old 0 values ≡ written_over values old
  written-sets values old h =
      sets-eq values old 0 (omega arith) ∙ ap (λ (n : ℕ). values ++ drop n old) (zero-add (length values))

  pub written_behind : (values old : List A) (n : ℕ) → length values ≤ n → drop n (written_over values old) ≡ drop n old
  written_behind values old n h =
      let e : n ≡ length values + (n - length values) = omega arith in
      rw e (drop-append-add values (drop (length values) old) (n - length values)
      ∙ drop-drop (n - length values) (length values) old)

  -- ---- a lent slice after a call: its length, and an element that an accepted call writes

  pub length-after : (number n : ℕ) (g : ℕ → A) (old : List A)
      → length (unless_refused number (overwrite n g old) old) ≡ length old
  length-after zero n g old = length-overwrite n g old
  length-after (suc number) n g old = refl

  pub new-at : (number n : ℕ) (g : ℕ → A) (old : List A) (i : ℕ) (z : A) → number ≡ 0 → i < n → n ≤ length old
      → get_or (unless_refused number (overwrite n g old) old) i z ≡ g i
  new-at zero n g old i z e h long = overwrite-at n g old i z h (omega arith)
  new-at (suc number) n g old i z e h long = absurd (omega arith)

  -- ---- what follows the elements that are written: it stays, and nothing depends on it

  pub overwrite-append : (n : ℕ) (g : ℕ → A) (l r : List A) → n ≤ length l
      → overwrite n g (l ++ r) ≡ overwrite n g l ++ r
  overwrite-append zero g l r h = refl
  overwrite-append (suc n) g [] r h = absurd (not-suc-le-zero h)
  overwrite-append (suc n) g (x ∷ l) r h =
      ap (λ (y : List A). g 0 ∷ y) (overwrite-append n (λ i. g (suc i)) l r (le_of_suc-le-suc h))

  pub overwrite_from-append : (a n : ℕ) (g : ℕ → A) (l r : List A) → a + n ≤ length l
      → overwrite_from a n g (l ++ r) ≡ overwrite_from a n g l ++ r
  overwrite_from-append zero n g l r h = overwrite-append n g l r (omega arith)
  overwrite_from-append (suc a) n g [] r h = absurd (omega arith)
  overwrite_from-append (suc a) n g (x ∷ l) r h =
      ap (λ (y : List A). x ∷ y) (overwrite_from-append a n g l r (omega arith))

  pub overwrite_from-same : (a n : ℕ) (g h : ℕ → A) (l : List A) → ((i : ℕ) → i < n → g i ≡ h i)
      → overwrite_from a n g l ≡ overwrite_from a n h l
  overwrite_from-same zero n g h l e = overwrite-same n g h l (λ i k q. e i k)
  overwrite_from-same (suc a) n g h [] e = refl
  overwrite_from-same (suc a) n g h (x ∷ l) e = ap (λ (y : List A). x ∷ y) (overwrite_from-same a n g h l e)

  pub overwrite-first : (n : ℕ) (g h : ℕ → A) (l l' : List A) → n ≤ length l → n ≤ length l'
      → ((i : ℕ) → i < n → g i ≡ h i)
      → take n (overwrite n g l) ≡ take n (overwrite n h l')
  overwrite-first zero g h l l' k k' e = refl
  overwrite-first (suc n) g h [] l' k k' e = absurd (not-suc-le-zero k)
  overwrite-first (suc n) g h (x ∷ l) [] k k' e = absurd (not-suc-le-zero k')
  overwrite-first (suc n) g h (x ∷ l) (y ∷ l') k k' e =
      ap₂ (λ (z : A) (r : List A). z ∷ r) (e 0 (omega arith))
      (overwrite-first n (λ i. g (suc i)) (λ i. h (suc i)) l l' (le_of_suc-le-suc k) (le_of_suc-le-suc k')
      (λ i q. e (suc i) (omega arith)))

  pub overwrite-rest : (n : ℕ) (g : ℕ → A) (l : List A) → drop n (overwrite n g l) ≡ drop n l
  overwrite-rest zero g l = refl
  overwrite-rest (suc n) g [] = refl
  overwrite-rest (suc n) g (x ∷ l) = overwrite-rest n (λ i. g (suc i)) l

  -- overwritten as a whole, a list holds what any other of its length would hold
  pub overwrite-all : (n : ℕ) (g : ℕ → A) (l l' : List A) → length l ≡ n → length l' ≡ n
      → overwrite n g l ≡ overwrite n g l'
  overwrite-all n g l l' e e' =
      sym (take_all n (overwrite n g l) (omega (arith, length-overwrite n g l)))
      ∙ overwrite-first n g g l l' (omega arith) (omega arith) (λ i h. refl)
      ∙ take_all n (overwrite n g l') (omega (arith, length-overwrite n g l'))

  -- ---- slices of two calls

  pub same-overwritten : (n : ℕ) (g h : ℕ → A) (l l' : List A) → n ≤ length l → n ≤ length l'
      → ((i : ℕ) → i < n → g i ≡ h i)
      → SameWritten n l l' (overwrite n g l) (overwrite n h l')
  same-overwritten n g h l l' k k' e = record {
    first = overwrite-first n g h l l' k k' e;
    rest = overwrite-rest n g l;
    rest' = overwrite-rest n h l';
  }

  -- the same list before the rest of each
  pub same-before-rest : (n : ℕ) (values old old' : List A) → length values ≡ n
      → SameWritten n old old' (values ++ drop n old) (values ++ drop n old')
  same-before-rest n values old old' e = record {
    first = take_at values (drop n old) n e ∙ sym (take_at values (drop n old') n e);
    rest = drop_at values (drop n old) n e;
    rest' = drop_at values (drop n old') n e;
  }

  pub none_written : (old old' : List A) → SameWritten 0 old old' old old'
  none_written old old' = record { first = refl; rest = refl; rest' = refl }

  pub same-written-at : {n : ℕ} {old old' new new' : List A} → SameWritten n old old' new new' → (i : ℕ) (z : A) → i < n
      → get_or new i z ≡ get_or new' i z
  same-written-at {n} {old} {old'} {new} {new'} same i z h =
      sym (get_or-take n new i z h) ∙ ap (λ (l : List A). get_or l i z) same.first ∙ get_or-take n new' i z h
