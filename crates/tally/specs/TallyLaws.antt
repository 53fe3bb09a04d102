-- Laws of the tally: what 15 lets pass, and that after any run of calls each number of
-- the tally is the count over them.
use Rattle.std.specs.Prelude.{ℕ, zero, suc, ◌+◌, ◌*◌, ◌≤◌, ◌<◌, ◌≡◌, refl, Bool, true, false, cond, List, [], ◌∷◌, map}
use Rattle.std.specs.Prelude.{ltb, eqb, length}
use Rattle.std.proofs.Common.{sym, ap, ◌∙◌, arith, lit<, ltb-true, eqb-true, lt-ltb, eq-eqb, ne_eqb, le-leb}
use Rattle.calls.specs.Numbers.{check}
use Rattle.calls.specs.NumberLaws.{check-passed, and-passed, between-passed}
use Rattle.decoder.specs.Decoder.{Result, refused, ended}
use Rattle.tally.specs.declared.Tally.{Tally}
use Rattle.tally.specs.Tally.{
  endings,
  most_blocks,
  most_iterations,
  consistent,
  tally_number,
  counted,
  answer_by,
  tally_by,
}
use Rattle.tally.specs.Runs.{Call, decoded, none, plus, tally_after, answers, counts, others, counts_over}
use Rattle.tally.specs.Private.{single}
use Rattle.decoder.specs.ResultLaws.{DecoderAnswer, decoder-answer}

-- ---- 15

-- what `consistent` and 15 ask of a tally, as facts about its numbers
pub record Consistent (t : Tally) : Type 0 where
  pub blocks-sum : t.blocks ≡ endings t + t.refusals
  pub iterations-low : endings t ≤ t.iterations
  pub iterations-high : t.iterations ≤ most_iterations * endings t

pub record Usable (t : Tally) : Type 0 where
  pub blocks-lt : t.blocks < most_blocks
  pub fits : Consistent t

-- what holds of every tally that calls from five zeros leave (`run-usable-or-full`)
pub record UsableOrFull (t : Tally) : Type 0 where
  pub blocks-le : t.blocks ≤ most_blocks
  pub fits : Consistent t

pub consistent-facts : (t : Tally) → consistent t ≡ true → Consistent t
consistent-facts t h =
    let both = and-passed (eqb t.blocks (endings t + t.refusals)) _ h in
    let iterations = between-passed (endings t) (most_iterations * endings t) t.iterations both.1 in
    record {
      blocks-sum = eqb-true t.blocks (endings t + t.refusals) both.0;
      iterations-low = iterations.0;
      iterations-high = iterations.1;
    }

pub facts-consistent : (t : Tally) → Consistent t → consistent t ≡ true
facts-consistent t f =
    simp (
      eq-eqb t.blocks (endings t + t.refusals) f.blocks-sum,
      le-leb (endings t) t.iterations f.iterations-low,
      le-leb t.iterations (most_iterations * endings t) f.iterations-high,
    )

pub inconsistent : (t : Tally) → (Consistent t → ⊥) → consistent t ≡ false
inconsistent t h = split (consistent t) refl
  where
    split : (test : Bool) → consistent t ≡ test → test ≡ false
    split true e = absurd (h (consistent-facts t e))
    split false e = refl

pub usable : (t : Tally) → tally_number t ≡ 0 → Usable t
usable t h =
    let blocks = check-passed _ 14 _ h in
    record {
      blocks-lt = ltb-true t.blocks most_blocks blocks.0;
      fits = consistent-facts t (check-passed _ 14 _ blocks.1).0;
    }

pub usable-number : (t : Tally) → Usable t → tally_number t ≡ 0
usable-number t u = simp (lt-ltb t.blocks most_blocks u.blocks-lt, facts-consistent t u.fits)

-- the number is 0 or 15
two-tests : (a b : Bool) → (check a 15 (check b 15 0) ≡ 0 → ⊥) → check a 15 (check b 15 0) ≡ 15
two-tests true true h = absurd (h refl)
two-tests true false h = refl
two-tests false b h = refl

pub refused-15 : (t : Tally) → (tally_number t ≡ 0 → ⊥) → tally_number t ≡ 15
refused-15 t h = two-tests (ltb t.blocks most_blocks) (consistent t) h

-- ---- one block more

-- two tallies are equal by their numbers
pub same-tally : {t u : Tally} → t.blocks ≡ u.blocks → t.by_criterion ≡ u.by_criterion
    → t.by_limit ≡ u.by_limit
    → t.refusals ≡ u.refusals
    → t.iterations ≡ u.iterations → t ≡ u
same-tally blocks criterion limit refusals iterations i =
    record {
      blocks = blocks i;
      by_criterion = criterion i;
      by_limit = limit i;
      refusals = refusals i;
      iterations = iterations i;
    }

pub none-consistent : Consistent none
none-consistent = record { blocks-sum = refl; iterations-low = omega arith; iterations-high = omega arith }

pub none-usable-or-full : UsableOrFull none
none-usable-or-full = record { blocks-le = omega arith; fits = none-consistent }

pub single-consistent : (r : Result) → DecoderAnswer r → Consistent (single r)
single-consistent (refused number) d =
    record { blocks-sum = refl; iterations-low = omega arith; iterations-high = omega arith }
single-consistent (ended iteration zero) d = absurd (omega arith)
single-consistent (ended iteration (suc zero)) d =
    record { blocks-sum = refl; iterations-low = omega arith; iterations-high = omega arith }
single-consistent (ended iteration (suc (suc zero))) d =
    record { blocks-sum = refl; iterations-low = omega arith; iterations-high = omega arith }
single-consistent (ended iteration (suc (suc (suc n)))) d = absurd (omega arith)

single-block : (r : Result) → (single r).blocks ≡ 1
single-block (refused number) = refl
single-block (ended iteration reason) = refl

pub single-usable : (r : Result) → DecoderAnswer r → Usable (single r)
single-usable r d = record { blocks-lt = rw (single-block r) (lit< tt); fits = single-consistent r d }

pub plus-consistent : {t u : Tally} → Consistent t → Consistent u → Consistent (plus t u)
plus-consistent p q =
    record { blocks-sum = omega arith; iterations-low = omega arith; iterations-high = omega arith }

plus-usable : {t u : Tally} → Usable t → Usable u → t.blocks + u.blocks < most_blocks → Usable (plus t u)
plus-usable p q few = record { blocks-lt = few; fits = plus-consistent p.fits q.fits }

-- counting an answer is adding the tally of one block
pub counted-plus : (t : Tally) (r : Result) → DecoderAnswer r → counted t r ≡ plus t (single r)
counted-plus t (refused number) d = same-tally refl (omega arith) (omega arith) refl (omega arith)
counted-plus t (ended iteration zero) d = absurd (omega arith)
counted-plus t (ended iteration (suc zero)) d = same-tally refl refl (omega arith) (omega arith) refl
counted-plus t (ended iteration (suc (suc zero))) d = same-tally refl (omega arith) refl (omega arith) refl
counted-plus t (ended iteration (suc (suc (suc n)))) d = absurd (omega arith)

pub decoded-answer : (c : Call) → DecoderAnswer (decoded c)
decoded-answer c = decoder-answer c.settings c.mask c.llr c.slices

-- 15, "iterations below the endings or above 200 times them", and the sum: they stay so when the answer of a call is
-- counted, up to the last block that 15 lets pass
pub counted-usable : (t : Tally) (c : Call) → tally_number t ≡ 0 → t.blocks + 1 < most_blocks
    → tally_number (counted t (decoded c)) ≡ 0
counted-usable t c h few =
    let d = decoded-answer c in
    ap tally_number (counted-plus t (decoded c) d)
    ∙ usable-number (plus t (single (decoded c)))
    (plus-usable (usable t h) (single-usable (decoded c) d) (rw (single-block (decoded c)) few))

pub blocks-counted : (t : Tally) (c : Call) → (counted t (decoded c)).blocks ≡ t.blocks + 1
blocks-counted t c =
    ap (λ (u : Tally). u.blocks) (counted-plus t (decoded c) (decoded-answer c)) ∙ rw (single-block (decoded c))

usable_after : (calls : List Call) (t : Tally) → tally_number t ≡ 0 → t.blocks + length calls < most_blocks
    → tally_number (tally_after t calls) ≡ 0
usable_after [] t h few = h
usable_after (c ∷ calls) t h few =
    let next = counted-usable t c h (omega arith) in
    ap (λ (number : ℕ). tally_number (tally_after (tally_by number t (decoded c)) calls)) h
    ∙ usable_after calls (counted t (decoded c)) next (omega (arith, blocks-counted t c))

-- 15, "blocks at or above 1,000,000": a run of fewer calls from five zeros leaves a tally that is usable
pub run-usable : (calls : List Call) → length calls < most_blocks → tally_number (tally_after none calls) ≡ 0
run-usable calls few = usable_after calls none refl (omega arith)

left-usable-or-full : (calls : List Call) (t : Tally) → UsableOrFull t → UsableOrFull (tally_after t calls)
left-usable-or-full [] t u = u
left-usable-or-full (c ∷ calls) t u =
    left-usable-or-full calls (tally_by (tally_number t) t (decoded c)) (by_number (tally_number t) refl)
  where
    by_number : (number : ℕ) → tally_number t ≡ number → UsableOrFull (tally_by number t (decoded c))
    by_number zero h =
        let d = decoded-answer c in
        record {
          blocks-le = omega (arith, blocks-counted t c, (usable t h).blocks-lt);
          fits = rw (counted-plus t (decoded c) d) (plus-consistent u.fits (single-consistent (decoded c) d));
        }
    by_number (suc number) h = u

pub run-usable-or-full : (calls : List Call) → UsableOrFull (tally_after none calls)
run-usable-or-full calls = left-usable-or-full calls none none-usable-or-full

pub answered-from : (calls : List Call) (t : Tally) → tally_number t ≡ 0 → t.blocks + length calls ≤ most_blocks
    → answers t calls ≡ map decoded calls
answered-from [] t h few = refl
answered-from (c ∷ []) t h few = rw h
answered-from (c ∷ d ∷ calls) t h few =
    let next = counted-usable t c h (omega arith) in
    ap (λ (number : ℕ). answer_by number (decoded c) ∷ answers (tally_by number t (decoded c)) (d ∷ calls)) h
    ∙ ap (λ (rs : List Result). decoded c ∷ rs)
    (answered-from (d ∷ calls) (counted t (decoded c)) next (omega (arith, blocks-counted t c)))

-- in a run of up to 1,000,000 calls from five zeros none is refused with 15: each answer is the decoder's
pub run-answered : (calls : List Call) → length calls ≤ most_blocks → answers none calls ≡ map decoded calls
run-answered calls few = answered-from calls none refl (omega arith)

-- ---- counts

counted-first : (t : Tally) (r : Result) (rs : List Result) → DecoderAnswer r
    → plus (counted t r) (counts_over rs) ≡ plus t (counts_over (r ∷ rs))
counted-first t (refused number) rs d = same-tally (omega arith) (omega arith) (omega arith) (omega arith) (omega arith)
counted-first t (ended iteration zero) rs d = absurd (omega arith)
counted-first t (ended iteration (suc zero)) rs d =
    same-tally (omega arith) (omega arith) (omega arith) (omega arith) (omega arith)
counted-first t (ended iteration (suc (suc zero))) rs d =
    same-tally (omega arith) (omega arith) (omega arith) (omega arith) (omega arith)
counted-first t (ended iteration (suc (suc (suc n)))) rs d = absurd (omega arith)

-- the decoder's own answer counts
pub answer-counts : (r : Result) → DecoderAnswer r → counts r ≡ true
answer-counts (refused number) d = rw (ne_eqb number 15 (λ e. omega arith))
answer-counts (ended iteration reason) d = refl

pub counted-after : (calls : List Call) (t : Tally)
    → tally_after t calls ≡ plus t (counts_over (others (answers t calls)))
counted-after [] t = same-tally (omega arith) (omega arith) (omega arith) (omega arith) (omega arith)
counted-after (c ∷ calls) t = by_number (tally_number t) refl (λ u. counted-after calls u)
  where
    by_number : (number : ℕ) → tally_number t ≡ number
        → ((u : Tally) → tally_after u calls ≡ plus u (counts_over (others (answers u calls))))
        → tally_after (tally_by number t (decoded c)) calls
        ≡ plus t (counts_over (others (answer_by number (decoded c) ∷ answers (tally_by number t (decoded c)) calls)))
    by_number zero h later =
        let rest = answers (counted t (decoded c)) calls in
        later (counted t (decoded c))
        ∙ counted-first t (decoded c) (others rest) (decoded-answer c)
        ∙ ap (λ (test : Bool). plus t (counts_over (cond test (decoded c ∷ others rest) (others rest))))
        (sym (answer-counts (decoded c) (decoded-answer c)))
    by_number (suc number) h later =
        later t
        ∙ ap (λ (n : ℕ). plus t (counts_over (others (refused n ∷ answers t calls))))
        (sym (refused-15 t (λ e. omega arith)) ∙ h)

-- "After any run of other calls from five zeros, each number is the count over those calls"
pub tally-counts : (calls : List Call) → tally_after none calls ≡ counts_over (others (answers none calls))
tally-counts calls =
    counted-after calls none ∙ same-tally (omega arith) (omega arith) (omega arith) (omega arith) (omega arith)
