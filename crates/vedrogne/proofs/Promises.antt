-- The promise of a decoding call from its ways: refused before the decoder is called, decoded, and decoded for the
-- tally of a radio.
use Rattle.std.proofs.Common.{ℕ, suc, ◌+◌, ◌*◌, ◌≤◌, ℤ, ◌≡◌, subst, sym, ap, ◌∙◌, true, false, ltb, le-leb}
use Rattle.std.proofs.Common.{List, ◌++◌, length, set, take, drop}
use Rattle.std.specs.List.{between}
use borrow.Author.Rules.{part_to_end}
use borrow.Author.Tests.{ltb-true}
use Rattle.settings.specs.declared.Settings.{Settings}
use Rattle.settings.specs.Slices.{Slices}
use Rattle.decoder.specs.Decoder.{Result, result_of}
use Rattle.tally.specs.declared.Tally.{Tally}
use Rattle.tally.specs.declared.Tallied.{Tallied}
use Rattle.tally.specs.Tally.{tally_number, tally_by, TalliedDecode}
use Rattle.radios.specs.Radios.{radio_count, tally_of}
use Rattle.radios.specs.RadioLaws.{own-stored}
use Rattle.vedrogne.specs.Interface.{
  tally_length,
  tallies_length,
  settings_in,
  tally_in,
  tally_list,
  tallies_in,
  tallies_out,
  settings_list_number,
  lists_number,
  radio_first_number,
  tallies_list_after,
  result_number,
  iterations_out,
  reason_out,
  Lent,
  lent,
  DecodeCall,
  RadioCall,
}
use Rattle.vedrogne.specs.InterfaceLaws.{list-kept, own_read, own-written}

-- what `result_out` promises of an answer
abbrev pub ResultOut : Result → ℕ → ℕ → ℕ → ℕ → ℕ → Type 0
ResultOut answer iterations reason iterations' reason' r =
    (r ≡ result_number answer)
    × ((iterations' ≡ iterations_out answer iterations) × (reason' ≡ reason_out answer reason))

lent_same : {a b : Slices} {i j k l : ℕ} → a ≡ b → i ≡ j → k ≡ l → lent a i k ≡ lent b j l
lent_same e f g i = lent (e i) (f i) (g i)

module _ (first : ℕ) (settings mask : List ℕ) (llr : List ℤ) (before : Lent) where
  pub call-refused : {number : ℕ} → first ≡ suc number → DecodeCall first settings mask llr before before (suc number)
  call-refused h = record { number_is = rw h; lent_is = rw h }

-- both lists are long enough
pub lists-accepted : (tallies settings : List ℕ) → tallies_length ≤ length tallies → settings_list_number settings ≡ 0
    → lists_number tallies settings ≡ 0
lists-accepted tallies settings long listed = rw (le-leb tallies_length (length tallies) long) listed

module _ (radio : ℕ) (tallies settings mask : List ℕ) (llr : List ℤ) (before : Lent) where
  module _ (lists : lists_number tallies settings ≡ 0) (long : tallies_length ≤ length tallies) where
    -- 16
    pub radio-refused : ltb radio radio_count ≡ false
        → RadioCall radio tallies tallies settings mask llr before before 16
    radio-refused h = record {
      call = call-refused (radio_first_number radio tallies settings) settings mask llr before (rw (lists, h));
      tallies-are = rw (lists, h) (sym (list-kept tallies long));
    }

    abbrev own : Tally
    own = tally_of radio (tallies_in tallies)

    module _ (known : ltb radio radio_count ≡ true) where
      first : radio_first_number radio tallies settings ≡ tally_number own
      first = rw (lists, known)

      -- the five numbers of the radio, written with what a call of its own tally leaves
      list-after : (t : Tally) (answer : Result) → t ≡ tally_by (tally_number own) own answer
          → take (tally_length * radio) tallies ++ tally_list t ++ drop (tally_length * radio + tally_length) tallies
          ≡ tallies_list_after radio tallies settings answer
      list-after t answer e =
          sym (own-written tallies radio t (ltb-true radio radio_count known) long)
          ∙ ap (λ (ts : List Tally). tallies_out ts tallies)
          (ap (set (tallies_in tallies) radio) e
          ∙ own-stored (tally_number own) radio (tallies_in tallies) answer)
          ∙ rw (lists, known)

      module _ {tallies' : List ℕ} {x : Slices} {iterations reason r : ℕ} {o : Tallied Tally}
          (stored : tallies'
          ≡ take (tally_length * radio) tallies
          ++ tally_list o.tally
          ++ drop (tally_length * radio + tally_length) tallies)
          (out : ResultOut (result_of o.outcome) before.iterations before.reason iterations reason r) where
        counted-call : TalliedDecode own (settings_in settings) mask llr before.slices x o
            → RadioCall radio tallies tallies' settings mask llr before (lent x iterations reason) r
        counted-call d = record {
          call = record {
            number_is = out.0 ∙ rw (first, d.answer);
            lent_is =
                lent_same (d.slices ∙ rw first) (out.1.0 ∙ rw (first, d.answer))
                (out.1.1 ∙ rw (first, d.answer));
          };
          tallies-are = stored ∙ list-after o.tally _ d.tally-is;
        }

        pub radio-counted : {t : Tally} {s : Settings}
            → t ≡ tally_in (between (tally_length * radio) (length tallies) tallies)
            → s ≡ settings_in settings → TalliedDecode t s mask llr before.slices x o
            → RadioCall radio tallies tallies' settings mask llr before (lent x iterations reason) r
        radio-counted {t} {s} f e d =
            counted-call
            (subst (λ (y : Tally). TalliedDecode y (settings_in settings) mask llr before.slices x o)
            (f ∙ rw part_to_end (sym (own_read tallies radio (ltb-true radio radio_count known))))
            (subst (λ (y : Settings). TalliedDecode t y mask llr before.slices x o) e d))
