-- Laws of the list: what a line that passes has, how the lines go on, and what every tally of an accepted list has.
use Prim.Native.Nat.{ℕ, zero, suc, ◌+◌, ◌-◌, ◌<◌, ◌≤◌}
use Rattle.std.proofs.Common.{length-drop}
use Rattle.std.specs.Prelude.{drop}
use Rattle.std.specs.Prelude.{◌≡◌, refl, Bool, true, false, cond, List, [], ◌∷◌, ltb, leb, length, set}
use Rattle.std.proofs.Common.{ap, ◌∙◌, add-one, ltb-true, leb-true, le-leb}
use native.Mathlib.Omega.{arith}
use Rattle.std.proofs.lemmas.Bool.{lt-leb}
use Rattle.calls.specs.NumberLaws.{check-passed, first-refusal-passed}
use Rattle.tally.specs.declared.Tally.{Tally}
use Rattle.tally.specs.Tally.{most_blocks, consistent}
use Rattle.tally.specs.TallyLaws.{UsableOrFull, consistent-facts, facts-consistent, none-usable-or-full}
use Rattle.radios.specs.Radios.{radio_count, radio_number}
use Rattle.radios.specs.RadioLaws.{EveryTally, zeros-every, set-every}
use Rattle.radios.specs.Runs.{no_blocks}
use Rattle.scan.specs.Reading.{Reading, found, malformed, if_found}
use Rattle.scan.specs.Lines.{literal}
use Rattle.radio_list.specs.RadioList.{
  longest_list,
  list_names,
  Entry,
  radio_line,
  listed_number,
  entry_number,
  Checked,
  passed,
  failed,
  checked_by,
  checked_line,
  Listed,
  refused,
  listed,
  at_end,
  go_on,
  read_lines,
  lines_from,
  meaning,
}

-- ---- a line that passes

-- what a line that passes has, where the radio must be `least` or above
pub record Passes (least : ℕ) (e : Entry) : Type 0 where
  pub least-le : least ≤ e.radio
  pub radio-lt : e.radio < radio_count
  pub usable : UsableOrFull e.tally

entry-passes : (least : ℕ) (e : Entry) → entry_number least e ≡ 0 → Passes least e
entry-passes least e h =
    let all = first-refusal-passed (radio_number e.radio) _ h in
    let rising = check-passed (leb least e.radio) 13 _ all.1 in
    let blocks = check-passed (leb e.tally.blocks most_blocks) 14 _ rising.1 in
    record {
      least-le = leb-true least e.radio rising.0;
      radio-lt = ltb-true e.radio radio_count (check-passed (ltb e.radio radio_count) 15 0 all.0).0;
      usable =
          record {
            blocks-le = leb-true e.tally.blocks most_blocks blocks.0;
            fits = consistent-facts e.tally (check-passed (consistent e.tally) 14 0 blocks.1).0;
          };
    }

pub line-passes : (least : ℕ) (s : List ℕ) (e : Entry) (u : List ℕ) → checked_line least s ≡ passed e u → Passes least e
unfolding checked_line
line-passes least s e u h = split (radio_line s) h
  where
    by_number : (number : ℕ) (d : Entry) (v : List ℕ) → entry_number least d ≡ number
        → checked_by number d v ≡ passed e u
        → Passes least e
    by_number zero d v g h = let same : d ≡ e = cc in rw same at (entry-passes least d g)
    by_number (suc number) d v g h = let h : ◌≡◌ {A = ℕ} 0 1 = cc in absurd (omega arith)

    split : (r : Reading Entry)
        → if_found r (failed 14) (λ e s. checked_by (entry_number least e) e s) ≡ passed e u
        → Passes least e
    split (found d v) h = by_number (entry_number least d) d v refl h
    split malformed h = let h : ◌≡◌ {A = ℕ} 0 1 = cc in absurd (omega arith)

-- ---- the lines go on

-- how many lines are allowed does not matter, where they are enough for the radios from `least` on
lines-enough : (n k least : ℕ) (tallies : List Tally) (s : List ℕ) → least ≤ radio_count → radio_count < n + least
    → radio_count < k + least
    → read_lines n least tallies s ≡ read_lines k least tallies s
unfolding read_lines
lines-enough zero k least tallies s low n-enough k-enough = absurd (omega arith)
lines-enough (suc n) zero least tallies s low n-enough k-enough = absurd (omega arith)
lines-enough (suc n) (suc k) least tallies s low n-enough k-enough =
    ap (at_end s (listed tallies))
    (split (checked_line least s) refl (λ next ts u. lines-enough n k next ts u))
  where
    split : (r : Checked) → checked_line least s ≡ r
        → ((next : ℕ) (ts : List Tally) (u : List ℕ) → next ≤ radio_count → radio_count < n + next
        → radio_count < k + next → read_lines n next ts u ≡ read_lines k next ts u)
        → go_on r (λ e u. read_lines n (suc e.radio) (set tallies e.radio e.tally) u)
        ≡ go_on r (λ e u. read_lines k (suc e.radio) (set tallies e.radio e.tally) u)
    split (passed e u) g later =
        let p = line-passes least s e u g in
        later (suc e.radio) (set tallies e.radio e.tally) u (omega arith) (omega arith) (omega arith)
    split (failed number) g later = refl

-- so the number of lines allowed is no rule of its own: with any larger one the text means the same
pub bound-free : (n : ℕ) (s : List ℕ) → radio_count < n → read_lines n 0 no_blocks s ≡ lines_from 0 no_blocks s
bound-free n s h = lines-enough n (suc radio_count) 0 no_blocks s (omega arith) (omega arith) (omega arith)

at-end-more : (s : List ℕ) (end more : Listed) → 0 < length s → at_end s end more ≡ more
at-end-more [] end more h = absurd (omega arith)
at-end-more (b ∷ s) end more h = refl

module _ (least : ℕ) (tallies : List Tally) (t : List ℕ) (low : least ≤ radio_count) where
  lines_step : lines_from least tallies t
      ≡ at_end t (listed tallies)
      (go_on (checked_line least t)
      (λ e u. read_lines (radio_count - least) (suc e.radio) (set tallies e.radio e.tally) u))
  unfolding read_lines
  lines_step = let e : suc radio_count - least ≡ suc (radio_count - least) = omega arith in rw e

  module _ (more : 0 < length t) where
    lines_more : lines_from least tallies t
        ≡ go_on (checked_line least t)
        (λ e u. read_lines (radio_count - least) (suc e.radio) (set tallies e.radio e.tally) u)
    lines_more = lines_step ∙ at-end-more t (listed tallies) _ more

    pub lines-refused : (number : ℕ) → checked_line least t ≡ failed number
        → lines_from least tallies t ≡ refused number
    lines-refused number h = lines_more ∙ rw h

    pub lines-go-on : (e : Entry) (u : List ℕ) → checked_line least t ≡ passed e u
        → lines_from least tallies t ≡ lines_from (e.radio + 1) (set tallies e.radio e.tally) u
    lines-go-on e u h =
        let f = line-passes least t e u h in
        lines_more
        ∙ rw (h, add-one e.radio)
        (lines-enough (radio_count - least) (suc radio_count - suc e.radio) (suc e.radio)
        (set tallies e.radio e.tally) u (omega arith) (omega arith) (omega arith))

pub lines-done : (least : ℕ) (tallies : List Tally) (t : List ℕ) → least ≤ radio_count → length t ≡ 0
    → lines_from least tallies t ≡ listed tallies
lines-done least tallies [] low h = lines_step least tallies [] low
lines-done least tallies (b ∷ t) low h = absurd (omega arith)

-- the same at the text from a position on
module _ (least : ℕ) (tallies : List Tally) (t : List ℕ) (p : ℕ) (low : least ≤ radio_count) where
  pub lines_end : length t ≤ p → lines_from least tallies (drop p t) ≡ listed tallies
  lines_end h = lines-done least tallies (drop p t) low (rw length-drop (omega arith))

  module _ (inside : p < length t) where
    more : 0 < length (drop p t)
    more = rw length-drop (omega arith)

    pub lines-failed : (number : ℕ) → checked_line least (drop p t) ≡ failed number
        → lines_from least tallies (drop p t) ≡ refused number
    lines-failed number h = lines-refused least tallies (drop p t) low more number h

    pub lines_next : (e : Entry) (u : List ℕ) → checked_line least (drop p t) ≡ passed e u
        → lines_from least tallies (drop p t) ≡ lines_from (e.radio + 1) (set tallies e.radio e.tally) u
    lines_next e u h = lines-go-on least tallies (drop p t) low more e u h

-- ---- the whole text

module _ (t : List ℕ) where
  pub list-long : longest_list < length t → meaning t ≡ refused 14
  unfolding meaning
  list-long h = rw (lt-leb (length t) longest_list h)

  module _ (short : length t ≤ longest_list) where
    pub list-unnamed : literal list_names t ≡ malformed → meaning t ≡ refused 14
    unfolding meaning
    list-unnamed e = rw (le-leb (length t) longest_list short, e)

    pub list-named : (s : List ℕ) → literal list_names t ≡ found tt s → meaning t ≡ lines_from 0 no_blocks s
    unfolding meaning
    list-named s e = rw (le-leb (length t) longest_list short, e)

-- ---- an accepted list

lines-usable-or-full : (n least : ℕ) (tallies : List Tally) (s : List ℕ) (end : List Tally)
    → EveryTally UsableOrFull tallies
    → read_lines n least tallies s ≡ listed end
    → EveryTally UsableOrFull end
unfolding read_lines
lines-usable-or-full zero least tallies s end all h = let g : ◌≡◌ {A = ℕ} 0 1 = cc in absurd (omega arith)
lines-usable-or-full (suc n) least tallies s end all h =
    ended s (checked_line least s) refl h (λ next ts u. lines-usable-or-full n next ts u end)
  where
    ended : (u : List ℕ) (r : Checked) → checked_line least s ≡ r
        → at_end u (listed tallies)
        (go_on r (λ e u. read_lines n (suc e.radio) (set tallies e.radio e.tally) u)) ≡ listed end
        → ((next : ℕ) (ts : List Tally) (u : List ℕ) → EveryTally UsableOrFull ts → read_lines n next ts u ≡ listed end
        → EveryTally UsableOrFull end)
        → EveryTally UsableOrFull end
    ended [] r g h later = let same : tallies ≡ end = cc in rw same at all
    ended (b ∷ u) (passed e v) g h later =
        later (suc e.radio) (set tallies e.radio e.tally) v
        (set-every UsableOrFull tallies e.radio e.tally all (line-passes least s e v g).usable) h
    ended (b ∷ u) (failed number) g h later = let g : ◌≡◌ {A = ℕ} 0 1 = cc in absurd (omega arith)

-- in an accepted list the tally of every radio can be counts of at most 1,000,000 blocks
pub list-usable-or-full : (t : List ℕ) (tallies : List Tally) → meaning t ≡ listed tallies
    → EveryTally UsableOrFull tallies
unfolding meaning
list-usable-or-full t tallies h = split (leb (length t) longest_list) (literal list_names t) h
  where
    split : (short : Bool) (r : Reading Unit)
        → cond short (if_found r (refused 14) (λ _ s. lines_from 0 no_blocks s)) (refused 14) ≡ listed tallies
        → EveryTally UsableOrFull tallies
    split true (found _ s) h =
        lines-usable-or-full (suc radio_count) 0 no_blocks s tallies
        (zeros-every UsableOrFull none-usable-or-full radio_count) h
    split true malformed h = let g : ◌≡◌ {A = ℕ} 0 1 = cc in absurd (omega arith)
    split false r h = let g : ◌≡◌ {A = ℕ} 0 1 = cc in absurd (omega arith)

-- and no such tally is refused with 15 in a list
pub usable-or-full-listed : (t : Tally) → UsableOrFull t → listed_number t ≡ 0
usable-or-full-listed t u = rw (le-leb t.blocks most_blocks u.blocks-le, facts-consistent t u.fits)
