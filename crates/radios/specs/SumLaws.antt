-- Laws of the sum over the radios: up to 1,000,000 blocks in all it is what one tally would have counted over the same
-- calls, and of so many calls none is refused with 15.
use Rattle.std.specs.Prelude.{ℕ, zero, suc, ◌+◌, ◌≤◌, ◌<◌, ◌≡◌, refl, Bool, true, false, cond, List, [], ◌∷◌, map, ltb}
use Rattle.std.specs.Prelude.{length, set, replicate}
use Rattle.std.proofs.Common.{sym, ap, ap₂, ◌∙◌, true≢false, arith, ltb-true, ltb-false}
use Rattle.calls.specs.Numbers.{check, first_refusal}
use Rattle.calls.specs.LentMemory.{unless_refused}
use Rattle.decoder.specs.Decoder.{Result}
use Rattle.tally.specs.declared.Tally.{Tally}
use Rattle.tally.specs.Tally.{most_blocks, tally_number, counted, answer_by, tally_by}
use Rattle.tally.specs.Runs.{Call, decoded, none, plus, tally_after, counts, others}
use Rattle.tally.specs.Private.{single}
use Rattle.tally.specs.TallyLaws.{
  Consistent,
  usable,
  usable-number,
  refused-15,
  same-tally,
  none-consistent,
  single-consistent,
  plus-consistent,
  counted-plus,
  decoded-answer,
  blocks-counted,
  answer-counts,
}
use Rattle.radios.specs.Radios.{radio_count, radio_number, tally_of}
use Rattle.radios.specs.RadioLaws.{EveryTally, zeros-every, set-every, tallies-length, TestedInOrder}
use Rattle.radios.specs.Runs.{
  CallFor,
  no_blocks,
  tallies_by,
  answer_for,
  answer_without15,
  tallies_after,
  radio_answers,
  known_calls,
  sum_over,
}

-- ---- the sum of some tallies

-- no tally has more blocks than the sum
own-blocks : (tallies : List Tally) (radio : ℕ) → (tally_of radio tallies).blocks ≤ (sum_over tallies).blocks
own-blocks [] radio = omega arith
own-blocks (t ∷ tallies) zero = omega arith
own-blocks (t ∷ tallies) (suc radio) = omega (arith, own-blocks tallies radio)

-- what is added to one tally is added to the sum
sum-plus : (tallies : List Tally) (radio : ℕ) (u : Tally) → radio < length tallies
    → sum_over (set tallies radio (plus (tally_of radio tallies) u)) ≡ plus (sum_over tallies) u
sum-plus [] radio u h = absurd (omega arith)
sum-plus (t ∷ tallies) zero u h = same-tally (omega arith) (omega arith) (omega arith) (omega arith) (omega arith)
sum-plus (t ∷ tallies) (suc radio) u h =
    ap (plus t) (sum-plus tallies radio u (omega arith))
    ∙ same-tally (omega arith) (omega arith) (omega arith) (omega arith) (omega arith)

-- every tally is consistent
abbrev AllConsistent : List Tally → Type 0
AllConsistent = EveryTally Consistent

-- then so is the sum
sum-consistent : (tallies : List Tally) → AllConsistent tallies → Consistent (sum_over tallies)
sum-consistent [] each = each 0
sum-consistent (t ∷ tallies) each = plus-consistent (each 0) (sum-consistent tallies (λ radio. each (suc radio)))

zeros-consistent : AllConsistent no_blocks
zeros-consistent = zeros-every Consistent none-consistent radio_count

zeros-sum : (n : ℕ) → sum_over (replicate n none) ≡ none
zeros-sum zero = refl
zeros-sum (suc n) = ap (plus none) (zeros-sum n)

usable-below : (t : Tally) → Consistent t → t.blocks < most_blocks → tally_number t ≡ 0
usable-below t fits few = usable-number t (record { blocks-lt = few; fits = fits })

-- such a tally is refused only where it is full
full : (t : Tally) → Consistent t → {number : ℕ} → tally_number t ≡ suc number → most_blocks ≤ t.blocks
full t fits e = split (ltb t.blocks most_blocks) refl
  where
    split : (test : Bool) → ltb t.blocks most_blocks ≡ test → most_blocks ≤ t.blocks
    split true h =
        let u = usable-below t fits (ltb-true t.blocks most_blocks h) in absurd (omega arith)
    split false h = ltb-false t.blocks most_blocks h

-- ---- one call, of consistent tallies

module _ (tallies : List Tally) (c : CallFor) where
  abbrev own : Tally
  own = tally_of c.radio tallies

  abbrev answer : Result
  answer = decoded c.call

  sum-counted : length tallies ≡ radio_count → ltb c.radio radio_count ≡ true
      → sum_over (set tallies c.radio (counted own answer)) ≡ counted (sum_over tallies) answer
  sum-counted all h =
      let d = decoded-answer c.call in
      ap (λ (t : Tally). sum_over (set tallies c.radio t)) (counted-plus own answer d)
      ∙ sum-plus tallies c.radio (single answer) (rw all (ltb-true c.radio radio_count h))
      ∙ sym (counted-plus (sum_over tallies) answer d)

  next-length : length tallies ≡ radio_count → length (tallies_by tallies c) ≡ radio_count
  next-length all = tallies-length c.radio tallies answer ∙ all

  module _ (tests : TestedInOrder) where
    tested : tallies_by tallies c
        ≡ unless_refused (first_refusal (radio_number c.radio) (tally_number own))
        (set tallies c.radio (counted own answer)) tallies
    tested =
        ap (λ (number : ℕ). unless_refused number (set tallies c.radio (counted own answer)) tallies)
        (tests c.radio tallies)

    unknown-keeps-if : ltb c.radio radio_count ≡ false → tallies_by tallies c ≡ tallies
    unknown-keeps-if h = tested ∙ rw h

    -- the three ways of a call: refused with 16, refused with 15, counted
    by_call-if : {P : Type 0}
        → (ltb c.radio radio_count ≡ false → tallies_by tallies c ≡ tallies → P)
        → ((number : ℕ) → ltb c.radio radio_count ≡ true → tally_number own ≡ suc number
        → tallies_by tallies c ≡ tallies → P)
        → (ltb c.radio radio_count ≡ true → tally_number own ≡ 0
        → tallies_by tallies c ≡ set tallies c.radio (counted own answer) → P) → P
    by_call-if {P} unknown unusable taken = split (ltb c.radio radio_count) (tally_number own) refl refl
      where
        split : (test : Bool) (number : ℕ) → ltb c.radio radio_count ≡ test → tally_number own ≡ number → P
        split false number h e = unknown h (unknown-keeps-if h)
        split true zero h e = taken h e (tested ∙ rw (h, e))
        split true (suc number) h e = unusable number h e (tested ∙ rw (h, e))

    next-consistent-if : AllConsistent tallies → AllConsistent (tallies_by tallies c)
    next-consistent-if each =
        let d = decoded-answer c.call in
        let fits : Consistent (counted own answer) =
        rw (counted-plus own answer d) (plus-consistent (each c.radio) (single-consistent answer d)) in
        by_call-if (λ h e. rw e each) (λ number h g e. rw e each)
        (λ h g e. rw e (set-every Consistent tallies c.radio (counted own answer) each fits))

    -- the sum has one block more at most, and none where 16 refuses
    next-blocks-if : length tallies ≡ radio_count
        → ((sum_over tallies).blocks ≤ (sum_over (tallies_by tallies c)).blocks) ×
        ((sum_over (tallies_by tallies c)).blocks ≤ (sum_over tallies).blocks + cond (ltb c.radio radio_count) 1 0)
    next-blocks-if all =
        by_call-if
        (λ h e. let b = ap (λ (ts : List Tally). (sum_over ts).blocks) e in (omega arith, omega arith))
        (λ number h g e. let b = ap (λ (ts : List Tally). (sum_over ts).blocks) e in (omega arith, omega arith))
        (λ h g e.
        let b = ap (λ (ts : List Tally). (sum_over ts).blocks) e ∙ ap (λ (t : Tally). t.blocks) (sum-counted all h)
        ∙ blocks-counted (sum_over tallies) c.call in
        let one = ap (λ (test : Bool). cond {A = ℕ} test 1 0) h in
        (omega arith, omega arith))

    -- up to 1,000,000 blocks the sum is what a call of one tally leaves
    next-sum-if : length tallies ≡ radio_count → AllConsistent tallies → ltb c.radio radio_count ≡ true
        → (sum_over (tallies_by tallies c)).blocks ≤ most_blocks
        → sum_over (tallies_by tallies c) ≡ tally_by (tally_number (sum_over tallies)) (sum_over tallies) answer
    next-sum-if all each known few =
        by_call-if
        (λ h e. absurd (true≢false (sym known ∙ h)))
        (λ number h g e.
        let most = full own (each c.radio) g in
        let over = refused-15 (sum_over tallies)
        (λ z. let u = usable (sum_over tallies) z in omega (arith, u.blocks-lt, own-blocks tallies c.radio)) in
        ap sum_over e ∙ sym (ap (λ (n : ℕ). tally_by n (sum_over tallies) answer) over))
        (λ h g e.
        let more = ap sum_over e ∙ sum-counted all h in
        let below = usable-below (sum_over tallies) (sum-consistent tallies each)
        (omega (arith, ap (λ (t : Tally). t.blocks) more, blocks-counted (sum_over tallies) c.call)) in
        more ∙ sym (ap (λ (n : ℕ). tally_by n (sum_over tallies) answer) below))

  -- and they are tested so
  unknown-keeps : ltb c.radio radio_count ≡ false → tallies_by tallies c ≡ tallies
  unknown-keeps = unknown-keeps-if (λ radio tallies. refl)

  by_call : {P : Type 0}
      → (ltb c.radio radio_count ≡ false → tallies_by tallies c ≡ tallies → P)
      → ((number : ℕ) → ltb c.radio radio_count ≡ true → tally_number own ≡ suc number
      → tallies_by tallies c ≡ tallies → P)
      → (ltb c.radio radio_count ≡ true → tally_number own ≡ 0
      → tallies_by tallies c ≡ set tallies c.radio (counted own answer) → P) → P
  by_call {P} = by_call-if (λ radio tallies. refl) {P = P}

  next-consistent : AllConsistent tallies → AllConsistent (tallies_by tallies c)
  next-consistent = next-consistent-if (λ radio tallies. refl)

  next-blocks : length tallies ≡ radio_count
      → ((sum_over tallies).blocks ≤ (sum_over (tallies_by tallies c)).blocks) ×
      ((sum_over (tallies_by tallies c)).blocks ≤ (sum_over tallies).blocks + cond (ltb c.radio radio_count) 1 0)
  next-blocks = next-blocks-if (λ radio tallies. refl)

  next-sum : length tallies ≡ radio_count → AllConsistent tallies → ltb c.radio radio_count ≡ true
      → (sum_over (tallies_by tallies c)).blocks ≤ most_blocks
      → sum_over (tallies_by tallies c) ≡ tally_by (tally_number (sum_over tallies)) (sum_over tallies) answer
  next-sum = next-sum-if (λ radio tallies. refl)

-- ---- a run of calls

-- the calls of a run that 16 doesn't refuse, in their order
record Known (known : List CallFor → List Call) : Type 0 where
  pub none-known : known [] ≡ []
  pub kept : (c : CallFor) (calls : List CallFor) → ltb c.radio radio_count ≡ true
      → known (c ∷ calls) ≡ c.call ∷ known calls
  pub left-out : (c : CallFor) (calls : List CallFor) → ltb c.radio radio_count ≡ false
      → known (c ∷ calls) ≡ known calls

-- the laws of a run take the tests and those calls from here, so that each law below is refused where either is another
module _ (tests : TestedInOrder) {known : List CallFor → List Call} (k : Known known) where
  known-length : (c : CallFor) (calls : List CallFor)
      → length (known (c ∷ calls)) ≡ cond (ltb c.radio radio_count) 1 0 + length (known calls)
  known-length c calls = split (ltb c.radio radio_count) refl
    where
      split : (test : Bool) → ltb c.radio radio_count ≡ test
          → length (known (c ∷ calls)) ≡ cond test 1 0 + length (known calls)
      split true h = omega (arith, ap length (k.kept c calls h))
      split false h = omega (arith, ap length (k.left-out c calls h))

  -- blocks are never taken back, and each call brings one at most
  blocks-within : (calls : List CallFor) (tallies : List Tally) → length tallies ≡ radio_count
      → ((sum_over tallies).blocks ≤ (sum_over (tallies_after tallies calls)).blocks) ×
      ((sum_over (tallies_after tallies calls)).blocks ≤ (sum_over tallies).blocks + length (known calls))
  blocks-within [] tallies all = (omega arith, omega arith)
  blocks-within (c ∷ calls) tallies all =
      let later = blocks-within calls (tallies_by tallies c) (next-length tallies c all) in
      let now = next-blocks-if tallies c tests all in
      (omega (arith, later.0, now.0), omega (arith, later.1, now.1, known-length c calls))

  -- from consistent tallies
  sum-of-known : (calls : List CallFor) (tallies : List Tally) → length tallies ≡ radio_count → AllConsistent tallies
      → (sum_over (tallies_after tallies calls)).blocks ≤ most_blocks
      → sum_over (tallies_after tallies calls) ≡ tally_after (sum_over tallies) (known calls)
  sum-of-known [] tallies all each few = sym (ap (tally_after (sum_over tallies)) k.none-known)
  sum-of-known (c ∷ calls) tallies all each few =
      let next-all = next-length tallies c all in
      let later = sum-of-known calls (tallies_by tallies c) next-all (next-consistent-if tallies c tests each) few in
      split (ltb c.radio radio_count) refl later
      (omega (arith, (blocks-within calls (tallies_by tallies c) next-all).0))
    where
      split : (test : Bool) → ltb c.radio radio_count ≡ test
          → sum_over (tallies_after (tallies_by tallies c) calls)
          ≡ tally_after (sum_over (tallies_by tallies c)) (known calls)
          → (sum_over (tallies_by tallies c)).blocks ≤ most_blocks
          → sum_over (tallies_after (tallies_by tallies c) calls) ≡ tally_after (sum_over tallies) (known (c ∷ calls))
      split true h later few =
          later
          ∙ ap (λ (t : Tally). tally_after t (known calls)) (next-sum-if tallies c tests all each h few)
          ∙ sym (ap (tally_after (sum_over tallies)) (k.kept c calls h))
      split false h later few =
          later
          ∙ ap (λ (ts : List Tally). tally_after (sum_over ts) (known calls)) (unknown-keeps-if tallies c tests h)
          ∙ sym (ap (tally_after (sum_over tallies)) (k.left-out c calls h))

  -- none of the calls is refused with 15
  answered-of-known : (calls : List CallFor) (tallies : List Tally) → length tallies ≡ radio_count
      → AllConsistent tallies
      → (sum_over tallies).blocks + length (known calls) ≤ most_blocks
      → radio_answers tallies calls ≡ map answer_without15 calls
  answered-of-known [] tallies all each few = refl
  answered-of-known (c ∷ calls) tallies all each few =
      ap₂ (λ (r : Result) (rs : List Result). r ∷ rs) (by-own (ltb c.radio radio_count) refl)
      (answered-of-known calls (tallies_by tallies c) (next-length tallies c all)
      (next-consistent-if tallies c tests each)
      (omega (arith, (next-blocks-if tallies c tests all).1, known-length c calls)))
    where
      by-own : (test : Bool) → ltb c.radio radio_count ≡ test → answer_for tallies c ≡ answer_without15 c
      by-own true h =
          let own = tally_of c.radio tallies in
          let below = usable-below own (each c.radio)
          (omega (arith, own-blocks tallies c.radio, ap length (k.kept c calls h))) in
          ap (λ (number : ℕ). answer_by number (decoded c.call)) (tests c.radio tallies) ∙ rw (h, below)
      by-own false h =
          ap (λ (number : ℕ). answer_by number (decoded c.call)) (tests c.radio tallies) ∙ rw h

-- the same of the calls that 16 doesn't refuse
module _ (c : CallFor) (calls : List CallFor) where
  known-call-kept : ltb c.radio radio_count ≡ true → known_calls (c ∷ calls) ≡ c.call ∷ known_calls calls
  known-call-kept h = rw h

  unknown-call-left-out : ltb c.radio radio_count ≡ false → known_calls (c ∷ calls) ≡ known_calls calls
  unknown-call-left-out h = rw h

  known-calls-length : length (known_calls (c ∷ calls))
      ≡ cond (ltb c.radio radio_count) 1 0 + length (known_calls calls)
  known-calls-length = split (ltb c.radio radio_count)
    where
      split : (test : Bool)
          → length (cond test (c.call ∷ known_calls calls) (known_calls calls))
          ≡ cond test 1 0 + length (known_calls calls)
      split true = omega arith
      split false = omega arith

blocks-between : (calls : List CallFor) (tallies : List Tally) → length tallies ≡ radio_count
    → ((sum_over tallies).blocks ≤ (sum_over (tallies_after tallies calls)).blocks) ×
    ((sum_over (tallies_after tallies calls)).blocks ≤ (sum_over tallies).blocks + length (known_calls calls))
blocks-between calls tallies all =
    let known : Known known_calls =
    record { none-known = refl; kept = λ c calls h. rw h; left-out = λ c calls h. rw h } in
    let tests : TestedInOrder = λ radio tallies. refl in
    blocks-within tests known calls tallies all

sum-from : (calls : List CallFor) (tallies : List Tally) → length tallies ≡ radio_count → AllConsistent tallies
    → (sum_over (tallies_after tallies calls)).blocks ≤ most_blocks
    → sum_over (tallies_after tallies calls) ≡ tally_after (sum_over tallies) (known_calls calls)
sum-from calls tallies all each few =
    let known : Known known_calls =
    record { none-known = refl; kept = λ c calls h. rw h; left-out = λ c calls h. rw h } in
    let tests : TestedInOrder = λ radio tallies. refl in
    sum-of-known tests known calls tallies all each few

-- "From zeros and up to 1,000,000 blocks in all, the sum over radios is what the single tally would have counted, calls
-- refused with 16 left out"
pub radios-sum : (calls : List CallFor) → (sum_over (tallies_after no_blocks calls)).blocks ≤ most_blocks
    → sum_over (tallies_after no_blocks calls) ≡ tally_after none (known_calls calls)
radios-sum calls few =
    let known : Known known_calls =
    record { none-known = refl; kept = λ c calls h. rw h; left-out = λ c calls h. rw h } in
    let tests : TestedInOrder = λ radio tallies. refl in
    sum-of-known tests known calls no_blocks refl zeros-consistent few
    ∙ ap (λ (t : Tally). tally_after t (known_calls calls)) (zeros-sum radio_count)

-- so it is after up to 1,000,000 calls that 16 doesn't refuse
pub radios-sum-of-calls : (calls : List CallFor) → length (known_calls calls) ≤ most_blocks
    → sum_over (tallies_after no_blocks calls) ≡ tally_after none (known_calls calls)
radios-sum-of-calls calls few =
    let known : Known known_calls =
    record { none-known = refl; kept = λ c calls h. rw h; left-out = λ c calls h. rw h } in
    let tests : TestedInOrder = λ radio tallies. refl in
    let blocks = (blocks-within tests known calls no_blocks refl).1 in
    sum-of-known tests known calls no_blocks refl zeros-consistent
    (omega (arith, blocks, ap (λ (t : Tally). t.blocks) (zeros-sum radio_count)))
    ∙ ap (λ (t : Tally). tally_after t (known_calls calls)) (zeros-sum radio_count)

-- ---- 15

answered-from : (calls : List CallFor) (tallies : List Tally) → length tallies ≡ radio_count → AllConsistent tallies
    → (sum_over tallies).blocks + length (known_calls calls) ≤ most_blocks
    → radio_answers tallies calls ≡ map answer_without15 calls
answered-from calls tallies all each few =
    let known : Known known_calls =
    record { none-known = refl; kept = λ c calls h. rw h; left-out = λ c calls h. rw h } in
    let tests : TestedInOrder = λ radio tallies. refl in
    answered-of-known tests known calls tallies all each few

-- of the first 1,000,000 calls from zeros that 16 doesn't refuse none is refused with 15: each answer is 16 or the
-- decoder's
pub radios-answered : (calls : List CallFor) → length (known_calls calls) ≤ most_blocks
    → radio_answers no_blocks calls ≡ map answer_without15 calls
radios-answered calls few =
    let known : Known known_calls =
    record { none-known = refl; kept = λ c calls h. rw h; left-out = λ c calls h. rw h } in
    let tests : TestedInOrder = λ radio tallies. refl in
    answered-of-known tests known calls no_blocks refl zeros-consistent
    (omega (arith, ap (λ (t : Tally). t.blocks) (zeros-sum radio_count)))

-- so all of them count
pub none-refused-with-15 : (calls : List CallFor) → length (known_calls calls) ≤ most_blocks
    → others (radio_answers no_blocks calls) ≡ radio_answers no_blocks calls
none-refused-with-15 calls few =
    let known : Known known_calls =
    record { none-known = refl; kept = λ c calls h. rw h; left-out = λ c calls h. rw h } in
    let tests : TestedInOrder = λ radio tallies. refl in
    let answered : radio_answers no_blocks calls ≡ map answer_without15 calls =
    answered-of-known tests known calls no_blocks refl zeros-consistent
    (omega (arith, ap (λ (t : Tally). t.blocks) (zeros-sum radio_count))) in
    rw answered (all-count calls)
  where
    answer-counts-too : (c : CallFor) → counts (answer_without15 c) ≡ true
    answer-counts-too c = by-radio (ltb c.radio radio_count)
      where
        by-radio : (test : Bool) → counts (answer_by (check test 16 0) (decoded c.call)) ≡ true
        by-radio true = answer-counts (decoded c.call) (decoded-answer c.call)
        by-radio false = refl

    all-count : (calls : List CallFor) → others (map answer_without15 calls) ≡ map answer_without15 calls
    all-count [] = refl
    all-count (c ∷ calls) =
        rw (answer-counts-too c) (ap (λ (rs : List Result). answer_without15 c ∷ rs) (all-count calls))
