-- Laws of the C interface: its lists, and the tests before the decoder.
use Rattle.std.specs.Prelude.{ℕ, zero, suc, ◌+◌, ◌*◌, ◌≤◌, ◌<◌, ◌≡◌, refl, List, [], ◌∷◌, ◌++◌, ℤ, length, get_or, set}
use Rattle.std.specs.Prelude.{take, drop}
use Rattle.std.proofs.Common.{sym, ap, ap₂, ◌∙◌, append_assoc, arith, add-zero, length-drop, take-append-drop}
use Rattle.std.proofs.Common.{drop-drop, take-add, get_or-drop, le-leb}
use Rattle.std.proofs.lemmas.List.Edits.{sets-eq}
use Rattle.std.proofs.lemmas.Bool.{lt-leb}
use Rattle.decoder.specs.Decoder.{Ending, ending, result_by, call_number}
use Rattle.tally.specs.declared.Tally.{Tally}
use Rattle.tally.specs.Tally.{answer_by}
use Rattle.tally.specs.TallyLaws.{same-tally}
use Rattle.radios.specs.Radios.{radio_count, tally_of}
use Rattle.vedrogne.specs.Interface.{
  settings_length,
  tally_length,
  tallies_length,
  settings_in,
  tally_in,
  tally_list,
  tallies_from,
  tallies_in,
  tallies_out,
  settings_list_number,
  lists_number,
  result_number,
  Lent,
  DecodeCall,
}

-- ---- the list of the tallies

-- five elements at least
five : (P : List ℕ → Type 0) (l : List ℕ) → tally_length ≤ length l
    → ((a b c d e : ℕ) (l : List ℕ) → P (a ∷ b ∷ c ∷ d ∷ e ∷ l)) → P l
five P [] h f = absurd (omega arith)
five P (a ∷ []) h f = absurd (omega arith)
five P (a ∷ b ∷ []) h f = absurd (omega arith)
five P (a ∷ b ∷ c ∷ []) h f = absurd (omega arith)
five P (a ∷ b ∷ c ∷ d ∷ []) h f = absurd (omega arith)
five P (a ∷ b ∷ c ∷ d ∷ e ∷ l) h f = f a b c d e l

-- the first five elements are those of their tally
tally-first : (l : List ℕ) → tally_length ≤ length l → tally_list (tally_in l) ≡ take tally_length l
tally-first l h = five (λ l. tally_list (tally_in l) ≡ take tally_length l) l h (λ a b c d e l. refl)

tally-kept : (l : List ℕ) → tally_length ≤ length l → tally_list (tally_in l) ++ drop tally_length l ≡ l
tally-kept l h =
    ap (λ (first : List ℕ). first ++ drop tally_length l) (tally-first l h) ∙ take-append-drop tally_length l

module _ (n : ℕ) (l : List ℕ) (h : tally_length * suc n ≤ length l) where
  first-whole : tally_length ≤ length l
  first-whole = omega arith

  later-whole : tally_length * n ≤ length (drop tally_length l)
  later-whole = omega (arith, length-drop tally_length l)

-- a list stays as it is where its own tallies are written
tallies-kept : (n : ℕ) (l : List ℕ) → tally_length * n ≤ length l → tallies_out (tallies_from n l) l ≡ l
tallies-kept zero l h = refl
tallies-kept (suc n) l h =
    ap (λ (later : List ℕ). tally_list (tally_in l) ++ later)
    (tallies-kept n (drop tally_length l) (later-whole n l h))
    ∙ tally-kept l (first-whole n l h)

-- where the elements of the next radio begin
next-at : (radio : ℕ) → tally_length + tally_length * radio ≡ tally_length * suc radio
next-at radio = omega arith

-- the tally of a radio stands in its five elements
tally-at : (n radio : ℕ) (l : List ℕ) → radio < n
    → tally_of radio (tallies_from n l) ≡ tally_in (drop (tally_length * radio) l)
tally-at zero radio l h = absurd (omega arith)
tally-at (suc n) zero l h = refl
tally-at (suc n) (suc radio) l h =
    tally-at n radio (drop tally_length l) (omega arith)
    ∙ ap tally_in (drop-drop (tally_length * radio) tally_length l ∙ ap (λ (at : ℕ). drop at l) (next-at radio))

-- another tally of one radio changes these five elements and no other
tally-written : (n radio : ℕ) (t : Tally) (l : List ℕ) → radio < n → tally_length * n ≤ length l
    → tallies_out (set (tallies_from n l) radio t) l
    ≡ take (tally_length * radio) l ++ tally_list t ++ drop (tally_length * radio + tally_length) l
tally-written zero radio t l h long = absurd (omega arith)
tally-written (suc n) zero t l h long =
    ap (λ (later : List ℕ). tally_list t ++ later) (tallies-kept n (drop tally_length l) (later-whole n l long))
tally-written (suc n) (suc radio) t l h long =
    let at = tally_length * radio in
    let own = tally_list (tally_in l) in
    let before = take at (drop tally_length l) in
    let behind = drop (at + tally_length) (drop tally_length l) in
    let end : tally_length + (at + tally_length) ≡ tally_length * suc radio + tally_length = omega arith in
    ap (λ (later : List ℕ). own ++ later)
    (tally-written n radio t (drop tally_length l) (omega arith) (later-whole n l long))
    ∙ sym (append_assoc own (before ++ tally_list t) behind)
    ∙ ap (λ (first : List ℕ). first ++ behind) (sym (append_assoc own before (tally_list t)))
    ∙ ap₂ (λ (first rest : List ℕ). first ++ tally_list t ++ rest)
    (ap (λ (first : List ℕ). first ++ before) (tally-first l (first-whole n l long))
    ∙ sym (take-add tally_length at l)
    ∙ ap (λ (k : ℕ). take k l) (next-at radio))
    (drop-drop (at + tally_length) tally_length l ∙ ap (λ (k : ℕ). drop k l) end)

-- of all radios
module _ (l : List ℕ) where
  pub list-kept : tallies_length ≤ length l → tallies_out (tallies_in l) l ≡ l
  list-kept long = tallies-kept radio_count l long

  pub own_read : (radio : ℕ) → radio < radio_count
      → tally_of radio (tallies_in l) ≡ tally_in (drop (tally_length * radio) l)
  own_read radio h = tally-at radio_count radio l h

  pub own-written : (radio : ℕ) (t : Tally) → radio < radio_count → tallies_length ≤ length l
      → tallies_out (set (tallies_in l) radio t) l
      ≡ take (tally_length * radio) l ++ tally_list t ++ drop (tally_length * radio + tally_length) l
  own-written radio t h long = tally-written radio_count radio t l h long

-- what was written is read
pub tallies-read : (tallies : List Tally) (l : List ℕ) → tallies_from (length tallies) (tallies_out tallies l) ≡ tallies
tallies-read [] l = refl
tallies-read (t ∷ tallies) l = ap (λ (later : List Tally). t ∷ later) (tallies-read tallies (drop tally_length l))

-- five reads, and five stores, from an element on
pub tally-read : (l : List ℕ) (at : ℕ)
    → record {
      blocks = get_or l at 0;
      by_criterion = get_or l (at + 1) 0;
      by_limit = get_or l (at + 2) 0;
      refusals = get_or l (at + 3) 0;
      iterations = get_or l (at + 4) 0;
    } ≡ tally_in (drop at l)
tally-read l at =
    same-tally
    (sym (get_or-drop at l 0 0 ∙ ap (λ (i : ℕ). get_or l i 0) (add-zero at)))
    (sym (get_or-drop at l 1 0))
    (sym (get_or-drop at l 2 0))
    (sym (get_or-drop at l 3 0))
    (sym (get_or-drop at l 4 0))

pub tally-stored : (t : Tally) (l : List ℕ) (at : ℕ) → at + tally_length ≤ length l
    → set (set (set (set (set l at t.blocks) (at + 1) t.by_criterion) (at + 2) t.by_limit) (at + 3)
    t.refusals) (at + 4) t.iterations
    ≡ take at l ++ tally_list t ++ drop (at + tally_length) l
tally-stored t l at h =
    let one : at + 1 ≡ suc at = omega arith in
    let two : at + 2 ≡ suc (suc at) = omega arith in
    let three : at + 3 ≡ suc (suc (suc at)) = omega arith in
    let four : at + 4 ≡ suc (suc (suc (suc at))) = omega arith in
    rw (one, two, three, four) (sets-eq (tally_list t) l at h)

-- ---- the tests before the decoder

pub settings-short : (settings : List ℕ) → length settings < settings_length → settings_list_number settings ≡ 7
settings-short settings h = rw (lt-leb settings_length (length settings) h)

pub settings-long : (settings : List ℕ) → settings_length ≤ length settings → settings_list_number settings ≡ 0
settings-long settings h = rw (le-leb settings_length (length settings) h)

module _ (tallies settings : List ℕ) where
  pub tallies-short : length tallies < tallies_length → lists_number tallies settings ≡ 7
  tallies-short h = rw (lt-leb tallies_length (length tallies) h)

  pub lists-settings-short : tallies_length ≤ length tallies → length settings < settings_length
      → lists_number tallies settings ≡ 7
  lists-settings-short h k = rw (le-leb tallies_length (length tallies) h, lt-leb settings_length (length settings) k)

  pub lists-long : tallies_length ≤ length tallies → settings_length ≤ length settings
      → lists_number tallies settings ≡ 0
  lists-long h k = rw (le-leb tallies_length (length tallies) h, le-leb settings_length (length settings) k)

-- ---- after a refusal, whoever refuses, the lent slices, iteration and reason are as they were

refused-by : (first number : ℕ) (e : Ending) {refusal : ℕ} {P : Type 0}
    → result_number (answer_by first (result_by number e)) ≡ suc refusal
    → ((k : ℕ) → first ≡ suc k → P) → ((k : ℕ) → first ≡ 0 → number ≡ suc k → P) → P
refused-by zero zero e h before within = absurd (omega arith)
refused-by zero (suc number) e h before within = within number refl refl
refused-by (suc first) number e h before within = before first refl

pub refusal-writes-nothing : {first : ℕ} {settings mask : List ℕ} {llr : List ℤ} {before after : Lent} {refusal : ℕ}
    → DecodeCall first settings mask llr before after (suc refusal) → after ≡ before
refusal-writes-nothing {first} {settings} {mask} {llr} {before} c =
    refused-by first (call_number (settings_in settings) mask llr before.slices)
    (ending (settings_in settings) mask llr before.slices.work)
    (sym c.number_is) (λ k h. c.lent_is ∙ rw h) (λ k h g. c.lent_is ∙ rw (h, g))
