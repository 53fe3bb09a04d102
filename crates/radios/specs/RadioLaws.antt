-- Laws of the tallies of the radios: a call leaves the others unchanged, and over any run of calls each tally is what
-- the calls made for its radio alone would have left.
use Rattle.std.specs.Prelude.{ℕ, zero, suc, ◌<◌, ◌≡◌, refl, Bool, true, false, cond, List, [], ◌∷◌, eqb, ℤ, length, set}
use Rattle.std.specs.Prelude.{replicate}
use Rattle.std.proofs.Common.{sym, ap, ap₂, ◌∙◌, subst, length-set, get_or-set_same, get_or-set_other, eqb-true, lt-ltb}
use Rattle.std.proofs.lemmas.List.{get_or-replicate, set-get_or}
use Rattle.std.proofs.lemmas.Bool.{eqb-false}
use Rattle.calls.specs.LentMemory.{unless_refused}
use Rattle.calls.specs.Numbers.{first_refusal}
use Rattle.settings.specs.declared.Settings.{Settings}
use Rattle.settings.specs.Slices.{Slices}
use Rattle.decoder.specs.Decoder.{Result, decode_result}
use Rattle.tally.specs.declared.Tally.{Tally}
use Rattle.tally.specs.Tally.{tally_number, counted, answer_by, tally_by}
use Rattle.tally.specs.Runs.{Call, decoded, none, tally_after, answers, others, counts_over}
use Rattle.tally.specs.TallyLaws.{UsableOrFull, tally-counts, run-usable-or-full}
use Rattle.radios.specs.declared.Radios.{Radios}
use Rattle.tally.specs.declared.Tallied.{Tallied}
use Rattle.radios.specs.Radios.{radio_count, radio_number, tally_of, radio_call_number, tallies_counted, RadioDecode}
use Rattle.radios.specs.Runs.{
  CallFor,
  no_blocks,
  tallies_by,
  answer_for,
  tallies_after,
  answers_to,
}

-- ---- what holds of the tally of every radio

abbrev pub EveryTally : (Tally → Type 0) → List Tally → Type 0
EveryTally P tallies = (radio : ℕ) → P (tally_of radio tallies)

module _ (P : Tally → Type 0) where
  pub zeros-every : P none → (n : ℕ) → EveryTally P (replicate n none)
  zeros-every holds zero radio = holds
  zeros-every holds (suc n) zero = holds
  zeros-every holds (suc n) (suc radio) = zeros-every holds n radio

  pub set-every : (tallies : List Tally) (at : ℕ) (t : Tally) → EveryTally P tallies → P t
      → EveryTally P (set tallies at t)
  set-every [] at t each new radio = each radio
  set-every (u ∷ tallies) zero t each new zero = new
  set-every (u ∷ tallies) zero t each new (suc radio) = each (suc radio)
  set-every (u ∷ tallies) (suc at) t each new zero = each zero
  set-every (u ∷ tallies) (suc at) t each new (suc radio) =
      set-every tallies at t (λ radio. each (suc radio)) new radio

-- ---- one call

-- the tally that a call of one tally leaves, stored in its place, leaves what a call for the radio does
pub own-stored : (number radio : ℕ) (tallies : List Tally) (r : Result)
    → set tallies radio (tally_by number (tally_of radio tallies) r)
    ≡ unless_refused number (set tallies radio (counted (tally_of radio tallies) r)) tallies
own-stored zero radio tallies r = refl
own-stored (suc number) radio tallies r = set-get_or tallies radio none

module _ (radio : ℕ) (tallies : List Tally) (r : Result) where
  abbrev own : Tally
  own = tally_of radio tallies

  -- the tallies by the number of the tests before the decoder
  abbrev after : ℕ → List Tally
  after number = unless_refused number (set tallies radio (counted own r)) tallies

  -- the others come back unchanged
  others-kept : (other : ℕ) → (other ≡ radio → ⊥)
      → tally_of other (tallies_counted radio tallies r) ≡ tally_of other tallies
  others-kept other ne = by_number (radio_call_number radio tallies)
    where
      by_number : (number : ℕ) → tally_of other (after number) ≡ tally_of other tallies
      by_number zero = get_or-set_other tallies radio other (counted own r) none ne
      by_number (suc number) = refl

  -- there are as many as before
  pub tallies-length : length (tallies_counted radio tallies r) ≡ length tallies
  tallies-length = by_number (radio_call_number radio tallies)
    where
      by_number : (number : ℕ) → length (after number) ≡ length tallies
      by_number zero = length-set tallies radio (counted own r)
      by_number (suc number) = refl

  -- 16 doesn't refuse a radio below 64, and 15 looks at its own tally only
  own-number : radio < radio_count → radio_call_number radio tallies ≡ tally_number own
  own-number h = rw (lt-ltb radio radio_count h)

  -- its own tally is what a call of the one tally leaves
  own-counted-by : radio_call_number radio tallies ≡ tally_number own → radio < radio_count
      → length tallies ≡ radio_count
      → tally_of radio (tallies_counted radio tallies r) ≡ tally_by (tally_number own) own r
  own-counted-by is h all = ap (λ (number : ℕ). tally_of radio (after number)) is ∙ by_number (tally_number own)
    where
      by_number : (number : ℕ) → tally_of radio (after number) ≡ tally_by number own r
      by_number zero = get_or-set_same tallies radio (counted own r) none (rw all h)
      by_number (suc number) = refl

  own-counted : radio < radio_count → length tallies ≡ radio_count
      → tally_of radio (tallies_counted radio tallies r) ≡ tally_by (tally_number own) own r
  own-counted h all = own-counted-by (rw (lt-ltb radio radio_count h)) h all

-- "The other 63 come back unchanged", of every call, refused ones too
pub others-unchanged : {radios : Radios} {radio : ℕ} {s : Settings} {mask : List ℕ} {llr : List ℤ}
    {before after : Slices} {r : Tallied Radios} → RadioDecode radios radio s mask llr before after r
    → (other : ℕ) → (other ≡ radio → ⊥) → tally_of other r.tally.tallies ≡ tally_of other radios.tallies
others-unchanged {radios} {radio} {s} {mask} {llr} {before} d other ne =
    rw d.tallies-are (others-kept radio radios.tallies (decode_result s mask llr before) other ne)

-- ---- the calls made for one radio

-- these calls alone
abbrev calls_for : ℕ → List CallFor → List Call
calls_for radio [] = []
calls_for radio (c ∷ calls) = cond (eqb c.radio radio) (c.call ∷ calls_for radio calls) (calls_for radio calls)

-- the tally of a radio after a run, and the answers to its calls, are those of a run of one tally over some calls
record OwnRun (radio : ℕ) (tallies : List Tally) (calls : List CallFor) (its : List Call) : Type 0 where
  pub tally-is : tally_of radio (tallies_after tallies calls) ≡ tally_after (tally_of radio tallies) its
  pub answers-are : answers_to radio tallies calls ≡ answers (tally_of radio tallies) its

-- 16 is tested first, then 15 of the radio's own tally. The laws of a run take it from here, so that each of them is
-- refused where the tests are others
abbrev pub TestedInOrder : Type 0
TestedInOrder =
    (radio : ℕ) (tallies : List Tally)
    → radio_call_number radio tallies ≡ first_refusal (radio_number radio) (tally_number (tally_of radio tallies))

-- namely over the calls made for it
module _ (radio : ℕ) (h : radio < radio_count) where
  module _ (tests : TestedInOrder) where
    own-tested : (tallies : List Tally) (at : ℕ) → at < radio_count
        → radio_call_number at tallies ≡ tally_number (tally_of at tallies)
    own-tested tallies at few = tests at tallies ∙ rw (lt-ltb at radio_count few)

    module _ (tallies : List Tally) (all : length tallies ≡ radio_count) (c : CallFor) where
      own-step-if : c.radio ≡ radio
          → tally_of radio (tallies_by tallies c)
          ≡ tally_by (tally_number (tally_of radio tallies)) (tally_of radio tallies) (decoded c.call)
      own-step-if same =
          rw (← same)
          (own-counted-by c.radio tallies (decoded c.call) (own-tested tallies c.radio (rw same h)) (rw same h) all)

      own-answer-if : c.radio ≡ radio
          → answer_for tallies c ≡ answer_by (tally_number (tally_of radio tallies)) (decoded c.call)
      own-answer-if same =
          rw (← same)
          (ap (λ (number : ℕ). answer_by number (decoded c.call)) (own-tested tallies c.radio (rw same h)))

      other_step-if : (c.radio ≡ radio → ⊥) → tally_of radio (tallies_by tallies c) ≡ tally_of radio tallies
      other_step-if ne = others-kept c.radio tallies (decoded c.call) radio (λ e. ne (sym e))

    own-run-if : (calls : List CallFor) (tallies : List Tally) → length tallies ≡ radio_count
        → OwnRun radio tallies calls (calls_for radio calls)
    own-run-if [] tallies all = record { tally-is = refl; answers-are = refl }
    own-run-if (c ∷ calls) tallies all =
        split (eqb c.radio radio) refl
        (own-run-if calls (tallies_by tallies c) (tallies-length c.radio tallies (decoded c.call) ∙ all))
      where
        split : (test : Bool) → eqb c.radio radio ≡ test
            → OwnRun radio (tallies_by tallies c) calls (calls_for radio calls)
            → OwnRun radio tallies (c ∷ calls) (calls_for radio (c ∷ calls))
        split true e later =
            let same = eqb-true c.radio radio e in
            let step = own-step-if tallies all c same in
            let its = calls_for radio calls in
            record {
              tally-is = rw e (later.tally-is ∙ ap (λ (t : Tally). tally_after t its) step);
              answers-are =
                  rw e
                  (ap₂ (λ (r : Result) (rs : List Result). r ∷ rs) (own-answer-if tallies all c same)
                  (later.answers-are ∙ ap (λ (t : Tally). answers t its) step));
            }
        split false e later =
            let kept = other_step-if tallies all c (eqb-false c.radio radio e) in
            let its = calls_for radio calls in
            record {
              tally-is = rw e (later.tally-is ∙ ap (λ (t : Tally). tally_after t its) kept);
              answers-are = rw e (later.answers-are ∙ ap (λ (t : Tally). answers t its) kept);
            }

  -- and they are tested so
  module _ (tallies : List Tally) (all : length tallies ≡ radio_count) (c : CallFor) where
    own-step : c.radio ≡ radio
        → tally_of radio (tallies_by tallies c)
        ≡ tally_by (tally_number (tally_of radio tallies)) (tally_of radio tallies) (decoded c.call)
    own-step = own-step-if (λ radio tallies. refl) tallies all c

    own-answer : c.radio ≡ radio
        → answer_for tallies c ≡ answer_by (tally_number (tally_of radio tallies)) (decoded c.call)
    own-answer = own-answer-if (λ radio tallies. refl) tallies all c

    other_step : (c.radio ≡ radio → ⊥) → tally_of radio (tallies_by tallies c) ≡ tally_of radio tallies
    other_step = other_step-if (λ radio tallies. refl) tallies all c

  own-run : (calls : List CallFor) (tallies : List Tally) → length tallies ≡ radio_count
      → OwnRun radio tallies calls (calls_for radio calls)
  own-run = own-run-if (λ radio tallies. refl)

-- "After any run of calls from zeros" each radio's five numbers are the counts over the calls made for it: those
-- refused with 15 are left out, and 16 refuses none of them
pub radio-counts : (radio : ℕ) → radio < radio_count → (calls : List CallFor)
    → tally_of radio (tallies_after no_blocks calls) ≡ counts_over (others (answers_to radio no_blocks calls))
radio-counts radio h calls =
    let own = own-run-if radio h (λ radio tallies. refl) calls no_blocks refl in
    let zeros = get_or-replicate radio_count radio none none h in
    let its = calls_for radio calls in
    own.tally-is
    ∙ ap (λ (t : Tally). tally_after t its) zeros
    ∙ tally-counts its
    ∙ sym
    (ap (λ (rs : List Result). counts_over (others rs)) (own.answers-are ∙ ap (λ (t : Tally). answers t its) zeros))

-- so a list of what calls from zeros left holds no tally that can't be counts
pub radio-usable-or-full : (radio : ℕ) → radio < radio_count → (calls : List CallFor)
    → UsableOrFull (tally_of radio (tallies_after no_blocks calls))
radio-usable-or-full radio h calls =
    subst UsableOrFull
    (sym
    ((own-run-if radio h (λ radio tallies. refl) calls no_blocks refl).tally-is
    ∙ ap (λ (t : Tally). tally_after t (calls_for radio calls)) (get_or-replicate radio_count radio none none h)))
    (run-usable-or-full (calls_for radio calls))
