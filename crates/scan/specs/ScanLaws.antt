-- One step of each definition, in the terms of a reader that keeps the rest of the text; and the sizes of what is read.
use Rattle.std.specs.Prelude.{ℕ, zero, suc, ◌+◌, ◌-◌, ◌*◌, ◌<◌, ◌≤◌, ◌≡◌, refl, Bool, true, false, cond, ◌&&◌, List, []}
use Rattle.std.specs.Prelude.{◌∷◌, ◌++◌, leb, eqb, ℤ, pos, neg_ℤ, nat_abs, length, get_or, drop, take, set}
use Rattle.std.proofs.Common.{sym, ap, ◌∙◌, true≢false, append_assoc, arith, add-one, sub-one, leb-true}
use Rattle.std.proofs.lemmas.Bool.Decides.{nat_tests}
use Rattle.std.specs.Cmp.Lexicographic.{pointwise}
use Rattle.std.proofs.Common.{take-suc-set}
use Rattle.calls.specs.SignLaws.{size-neg}
use Rattle.scan.specs.Reading.{Reading, found, malformed, bind, first, rest}
use Rattle.scan.specs.Numbers.{is_digit, digits, natural, number}
use Rattle.scan.specs.Lines.{spaces, separator, line, item, literal}

-- ---- one reading after another

module _ {A B : Type 0} where
  -- where two readings have found something, each has
  pub bind-found : (r : Reading A) (next : A → List ℕ → Reading B) (b : B) (u : List ℕ) → bind r next ≡ found b u →
      (a : A) × (s : List ℕ) × (r ≡ found a s) × (next a s ≡ found b u)
  bind-found (found a s) next b u e = (a, s, refl, e)
  bind-found malformed next b u e = let h : ◌≡◌ {A = ℕ} 0 1 = cc in absurd (omega arith)

-- ---- digits

pub digit-range : (b : ℕ) → is_digit b ≡ true → (48 ≤ b) × (b ≤ 57)
digit-range b e = split (leb 48 b) (leb b 57) refl refl e
  where
    split : (p q : Bool) → leb 48 b ≡ p → leb b 57 ≡ q → (p && q) ≡ true → (48 ≤ b) × (b ≤ 57)
    split true true low high e = (leb-true 48 b low, leb-true b 57 high)
    split true false low high e = absurd (true≢false (sym e))
    split false q low high e = absurd (true≢false (sym e))

pub digit-in-range : (b : ℕ) → (48 ≤ b) × (b ≤ 57) → is_digit b ≡ true
digit-in-range b d = grind (arith, nat_tests)

pub digits-more : (k v b : ℕ) (s : List ℕ) → 0 < k → is_digit b ≡ true →
    digits k v (b ∷ s) ≡ digits (k - 1) (10 * v + (b - 48)) s
unfolding digits
digits-more zero v b s h e = absurd (omega arith)
digits-more (suc k) v b s h e = rw (e, sub-one (suc k))

pub digits-end : (k v : ℕ) (s : List ℕ) → is_digit (first s) ≡ false → digits k v s ≡ found v s
unfolding digits
digits-end zero v s e = refl
digits-end (suc k) v s e = rw e

pub digits-full : (k v : ℕ) (s : List ℕ) → k ≤ 0 → digits k v s ≡ found v s
unfolding digits
digits-full zero v s h = refl
digits-full (suc k) v s h = absurd (omega arith)

-- the largest number that k digits more can make of v
abbrev largest_value : ℕ → ℕ → ℕ
largest_value zero v = v
largest_value (suc k) v = largest_value k (10 * v + 9)

largest-value-rises : (k v w : ℕ) → v ≤ w → largest_value k v ≤ largest_value k w
largest-value-rises zero v w h = h
largest-value-rises (suc k) v w h = largest-value-rises k (10 * v + 9) (10 * w + 9) (omega arith)

largest-value-longer : (k j v : ℕ) → k ≤ j → largest_value k v ≤ largest_value j v
largest-value-longer zero zero v h = omega arith
largest-value-longer zero (suc j) v h = omega (arith, largest-value-longer 0 j (10 * v + 9) (omega arith))
largest-value-longer (suc k) zero v h = absurd (omega arith)
largest-value-longer (suc k) (suc j) v h = largest-value-longer k j (10 * v + 9) (omega arith)

-- the number that digits have found, as they always do
abbrev value : Reading ℕ → ℕ
value (found n s) = n
value malformed = 0

value-bounds : (k v : ℕ) (s : List ℕ) → (v ≤ value (digits k v s)) × (value (digits k v s) ≤ largest_value k v)
unfolding digits
value-bounds zero v s = (omega arith, omega arith)
value-bounds (suc k) v s = split (is_digit (first s)) refl (λ w u. value-bounds k w u)
  where
    split : (b : Bool) → is_digit (first s) ≡ b
        → ((w : ℕ) (u : List ℕ) → (w ≤ value (digits k w u)) × (value (digits k w u) ≤ largest_value k w)) →
        let r = cond b (digits k (10 * v + (first s - 48)) (rest s)) (found v s) in
        (v ≤ value r) × (value r ≤ largest_value k (10 * v + 9))
    split true e bounds =
        let range = digit-range (first s) e in
        let w = 10 * v + (first s - 48) in
        let b = bounds w (rest s) in
        (omega arith, omega (arith, largest-value-rises k w (10 * v + 9) (omega arith)))
    split false e bounds = let b = bounds (10 * v + 9) [] in (omega arith, omega arith)

-- a value on the way to j digits has at most j, and where j is at most nine, it has at most nine
at_most : (j k v : ℕ) (s t : List ℕ) → digits j 0 s ≡ digits k v t → v ≤ largest_value j 0
at_most j k v s t e = let h = rw e at (value-bounds j 0 s).1 in omega (arith, (value-bounds k v t).0)

pub at-most-nine : (j k v : ℕ) (s t : List ℕ) → j ≤ 9 → digits j 0 s ≡ digits k v t → v ≤ 999999999
at-most-nine j k v s t h e = omega (arith, at_most j k v s t e, largest-value-longer j 9 0 h)

-- so a digit more leaves the number of at most nine below 10^9
pub one-more-digit : (j k v : ℕ) (s t : List ℕ) → j ≤ 9 → 0 < k → digits j 0 s ≡ digits k v t →
    (48 ≤ get_or t 0 0) × (get_or t 0 0 ≤ 57) → 10 * v + (get_or t 0 0 - 48) ≤ 999999999
one-more-digit j k v s [] h p e d = absurd (omega arith)
one-more-digit j k v s (b ∷ t) h p e d =
    at-most-nine j (k - 1) (10 * v + (b - 48)) s t h (e ∙ digits-more k v b t p (digit-in-range b d))

-- ---- values

module _ (k : ℕ) (s : List ℕ) where
  pub natural-missing : is_digit (first s) ≡ false → natural k s ≡ malformed
  unfolding natural
  natural-missing e = rw e

  pub natural-found : (v : ℕ) (u : List ℕ) → is_digit (first s) ≡ true → digits k 0 s ≡ found v u
      → natural k s ≡ found v u
  unfolding natural
  natural-found v u e h = rw e h

pub natural-fits : (k : ℕ) (s : List ℕ) (v : ℕ) (u : List ℕ) → natural k s ≡ found v u → k ≤ 9 → v ≤ 999999999
unfolding natural digits
natural-fits k s v u e h = split (is_digit (first s)) e
  where
    split : (b : Bool) → cond b (digits k 0 s) malformed ≡ found v u → v ≤ 999999999
    split true e = at-most-nine k 0 v s u h e
    split false e = let h : ◌≡◌ {A = ℕ} 0 1 = cc in absurd (omega arith)

pub natural-size : (s : List ℕ) (v : ℕ) (u : List ℕ) → natural 6 s ≡ found v u → v ≤ 999999
unfolding natural digits
natural-size s v u e = split (is_digit (first s)) e
  where
    split : (b : Bool) → cond b (digits 6 0 s) malformed ≡ found v u → v ≤ 999999
    split true e = at_most 6 0 v s u e
    split false e = let h : ◌≡◌ {A = ℕ} 0 1 = cc in absurd (omega arith)

pub number-plain : (s : List ℕ) → eqb (first s) 45 ≡ false → number s ≡ bind (natural 6 s) (λ n s. found (pos n) s)
unfolding number
number-plain s e = rw e

-- ---- what stands after a value

pub spaces-end : (s : List ℕ) → eqb (first s) 32 ≡ false → spaces s ≡ s
unfolding spaces
spaces-end [] e = refl
spaces-end (b ∷ s) e = rw e

pub separator-more : (n : ℕ) (s : List ℕ) → (n ≡ 0 → ⊥)
    → separator n s ≡ cond (eqb (first s) 32) (found tt (spaces s)) malformed
unfolding separator
separator-more zero s h = absurd (h refl)
separator-more (suc n) s h = refl

module _ (n : ℕ) (s : List ℕ) where
  pub item-no-digit : natural 9 s ≡ malformed → item n s ≡ malformed
  unfolding item
  item-no-digit e = rw e

  module _ (v : ℕ) (u : List ℕ) (e : natural 9 s ≡ found v u) where
    pub item-no-separator : separator n u ≡ malformed → item n s ≡ malformed
    unfolding item
    item-no-separator g = rw (e, g)

    pub item-found : (w : List ℕ) → separator n u ≡ found tt w → item n s ≡ found v w
    unfolding item
    item-found w g = rw (e, g)

-- ---- fixed texts

eqb-either : (a b : ℕ) → eqb a b ≡ eqb b a
eqb-either a b = grind (arith, nat_tests)

both-tests : (p q : Bool) (r s : Reading Unit) → cond p (cond q r s) s ≡ cond (p && q) r s
both-tests true q r s = refl
both-tests false q r s = refl

pub literal-prefix : (name t : List ℕ) → literal name t
    ≡ cond (pointwise eqb (take (length name) t) name) (found tt (drop (length name) t)) malformed
unfolding literal
literal-prefix [] t = refl
literal-prefix (a ∷ name) [] = refl
literal-prefix (a ∷ name) (b ∷ t) =
    let rest = literal-prefix name t in
    let either = eqb-either a b in
    let same = pointwise eqb (take (length name) t) name in
    rw (rest, either) (both-tests (eqb b a) same (found tt (drop (length name) t)) malformed)

-- ---- lines

-- values read before, put in front of those still to be read
abbrev pub behind : List ℤ → Reading (List ℤ) → Reading (List ℤ)
behind before r = bind r (λ zs s. found (before ++ zs) s)

pub behind-none : (r : Reading (List ℤ)) → behind [] r ≡ r
behind-none (found zs s) = refl
behind-none malformed = refl

behind-both : (xs ys : List ℤ) (r : Reading (List ℤ)) → behind xs (behind ys r) ≡ behind (xs ++ ys) r
behind-both xs ys (found zs s) = rw (append_assoc xs ys zs)
behind-both xs ys malformed = refl

pub line-none : (n : ℕ) (s : List ℕ) → n ≤ 0 → line n s ≡ found [] s
unfolding line
line-none zero s h = refl
line-none (suc n) s h = absurd (omega arith)

line-some : (n : ℕ) (s : List ℕ) → 0 < n
    → line n s ≡ bind (number s) (λ z u. bind (separator (n - 1) u) (λ _ w. behind (z ∷ []) (line (n - 1) w)))
unfolding line
line-some zero s h = absurd (omega arith)
line-some (suc n) s h = rw (sub-one (suc n))

module _ (n : ℕ) (s : List ℕ) (h : 0 < n) where
  pub line-no-number : number s ≡ malformed → line n s ≡ malformed
  line-no-number e = line-some n s h ∙ rw e

  module _ (z : ℤ) (u : List ℕ) (e : number s ≡ found z u) where
    pub line-no-separator : separator (n - 1) u ≡ malformed → line n s ≡ malformed
    line-no-separator g = line-some n s h ∙ rw (e, g)

    pub line-next : (w : List ℕ) → separator (n - 1) u ≡ found tt w → line n s ≡ behind (z ∷ []) (line (n - 1) w)
    line-next w g = line-some n s h ∙ rw (e, g)

-- one value more is stored
pub behind-stored : (values : List ℤ) (i : ℕ) (z : ℤ) (r : Reading (List ℤ)) → i < length values →
    behind (take i values) (behind (z ∷ []) r) ≡ behind (take (i + 1) (set values i z)) r
behind-stored values i z r h = behind-both (take i values) (z ∷ []) r ∙ rw (add-one i, take-suc-set values i z h)

-- the values before element i, put in front of the line that is still to be read, are the whole line; so they are when
-- one value more has been read
pub line-one-more : (n i : ℕ) (t s : List ℕ) (values : List ℤ) (z : ℤ) (u w : List ℕ) → i < n → length values ≡ n
    → line n t ≡ behind (take i values) (line (n - i) s) → number s ≡ found z u → separator (n - 1 - i) u ≡ found tt w
    → line n t ≡ behind (take (i + 1) (set values i z)) (line (n - (i + 1)) w)
line-one-more n i t s values z u w inside size so-far e g =
    let fewer : n - i - 1 ≡ n - 1 - i = omega arith in
    let left : n - i - 1 ≡ n - (i + 1) = omega arith in
    let next = line-next (n - i) s (omega arith) z u e w (rw fewer g) in
    so-far ∙ rw (next, left) (behind-stored values i z (line (n - (i + 1)) w) (omega arith))

-- ---- the sizes of values

pub number_size : (s : List ℕ) (z : ℤ) (u : List ℕ) → number s ≡ found z u → nat_abs z ≤ 999999
unfolding number
number_size s z u e = split (eqb (first s) 45) e
  where
    split : (minus : Bool) →
        cond minus
        (bind (natural 6 (rest s)) (λ n s. found (neg_ℤ (pos n)) s))
        (bind (natural 6 s) (λ n s. found (pos n) s))
        ≡ found z u → nat_abs z ≤ 999999
    split true e =
        let (n, w, h, g) = bind-found (natural 6 (rest s)) (λ n s. found (neg_ℤ (pos n)) s) z u e in
        let k : neg_ℤ (pos n) ≡ z = cc in rw (← k, size-neg (pos n)) (natural-size (rest s) n w h)
    split false e =
        let (n, w, h, g) = bind-found (natural 6 s) (λ n s. found (pos n) s) z u e in
        let k : pos n ≡ z = cc in rw (← k) (natural-size s n w h)

-- a line that was read begins with a value, and goes on with a line that is one value shorter
line-parts : (n : ℕ) (s : List ℕ) (zs : List ℤ) (u : List ℕ) → line (suc n) s ≡ found zs u →
    (z : ℤ) × (ys : List ℤ) × (w : List ℕ) × (nat_abs z ≤ 999999) × (line n w ≡ found ys u) × (z ∷ ys ≡ zs)
unfolding line
line-parts n s zs u e =
    let (z, v, h, e₁) =
    bind-found (number s) (λ z s. bind (separator n s) (λ _ s. behind (z ∷ []) (line n s))) zs u e in
    let (_, w, _, e₂) = bind-found (separator n v) (λ _ s. behind (z ∷ []) (line n s)) zs u e₁ in
    let (ys, x, g, e₃) = bind-found (line n w) (λ ys s. found (z ∷ ys) s) zs u e₂ in
    let same : x ≡ u = cc in
    (z, ys, w, number_size s z v h, rw same at g, cc)

pub line-length : (n : ℕ) (s : List ℕ) (zs : List ℤ) (u : List ℕ) → line n s ≡ found zs u → length zs ≡ n
unfolding line
line-length zero s zs u e = let h : [] ≡ zs = cc in rw (← h)
line-length (suc n) s zs u e =
    let (z, ys, w, _, g, h) = line-parts n s zs u e in rw (← h) (ap suc (line-length n w ys u g))

-- every value has at most six digits
pub line-sizes : (n : ℕ) (s : List ℕ) (zs : List ℤ) (u : List ℕ) → line n s ≡ found zs u → (i : ℕ)
    → nat_abs (get_or zs i (pos 0)) ≤ 999999
unfolding line
line-sizes zero s zs u e i = let h : [] ≡ zs = cc in rw (← h) (none i)
  where
    none : (i : ℕ) → nat_abs (get_or [] i (pos 0)) ≤ 999999
    none zero = omega arith
    none (suc i) = omega arith
line-sizes (suc n) s zs u e zero = let (z, ys, w, k, g, h) = line-parts n s zs u e in rw (← h) k
line-sizes (suc n) s zs u e (suc i) =
    let (z, ys, w, k, g, h) = line-parts n s zs u e in rw (← h) (line-sizes n w ys u g i)
