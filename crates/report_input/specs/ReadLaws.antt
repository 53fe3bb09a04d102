-- What an answer of `read` tells its caller of the text.
use Rattle.std.specs.Prelude.{ℕ, ◌^◌, ◌≡◌, Bool, true, false, List, pos, length, drop, take, replicate}
use Rattle.std.proofs.Common.{sym, ap, ◌∙◌, subst, true≢false, take_at}
use Rattle.std.proofs.lemmas.List.{length-replicate}
use Rattle.calls.specs.Bounds.{most_positions}
use Rattle.calls.specs.declared.Refusal.{Refusal}
use Rattle.calls.specs.Numbers.{refusal_number}
use Rattle.settings.specs.declared.Settings.{Settings}
use Rattle.report_input.specs.Input.{
  Block,
  block_of,
  Meaning,
  refused,
  block,
  meaning_in,
  meaning,
  room_of,
  ReadAnswer,
  accepted,
  rejected,
  answer_of,
  block_over,
  block_after,
  InputRead,
  first_of,
}
use Rattle.report_input.specs.InputLaws.{Fit, Long, Means, meaning-fit}
use Rattle.std.specs.Prelude.{Result, Ok, Err}

-- ---- what an answer says of a meaning

abbrev is_accepted : ReadAnswer → Bool
is_accepted (accepted s) = true
is_accepted (rejected number) = false

abbrev settings_answered : Settings → ReadAnswer → Settings
settings_answered other (accepted s) = s
settings_answered other (rejected number) = other

abbrev number_answered : ReadAnswer → ℕ
number_answered (accepted s) = 0
number_answered (rejected number) = number

module _ {old new : Block} {r : Result Settings Refusal} where
  pub answered-accepted : (means : Meaning) {s : Settings} → InputRead means old new r → r ≡ Ok s
      → (b : Block) × (means ≡ block s b)
  answered-accepted (refused number) read e =
      absurd (true≢false (ap is_accepted (sym (ap answer_of e) ∙ read.answer)))
  answered-accepted (block s' b) {s} read e =
      (b, ap (λ (x : Settings). block x b) (ap (settings_answered s) (sym read.answer ∙ ap answer_of e)))

  pub answered-refused : (means : Meaning) {refusal : Refusal} → InputRead means old new r → r ≡ Err refusal
      → means ≡ refused (refusal_number refusal)
  answered-refused (refused number) read e =
      ap (λ (v : ReadAnswer). refused (number_answered v)) (sym read.answer ∙ ap answer_of e)
  answered-refused (block s b) read e =
      absurd (true≢false (ap is_accepted (sym read.answer ∙ ap answer_of e)))

-- ---- an accepted text, and a refused one

-- an accepted text means the settings that are answered, and the first n elements of the lent slices
pub record AcceptedText (means : Meaning) (s : Settings) (b : Block) : Type 0 where
  pub fit : Fit s b
  pub is : means ≡ block s b

module _ {old new : Block} {r : Result Settings Refusal} where
  of-accepted : (means : Meaning) (s : Settings) (n : ℕ) → Means means → InputRead means old new r → r ≡ Ok s
      → n ≡ 2 ^ s.m → AcceptedText means s (first_of n new)
  of-accepted means s n fits read e size =
      let (b, is) = answered-accepted means read e in
      let fit : Fit s b = rw is at fits in
      let after : new ≡ block_over b old = read.after_is ∙ ap (λ (m : Meaning). block_after m old) is in
      let mask : take n new.mask ≡ b.mask =
      ap (λ (x : Block). take n x.mask) after
      ∙ take_at b.mask (drop (length b.mask) old.mask) n (fit.long.mask-long ∙ sym size) in
      let llr : take n new.llr ≡ b.llr =
      ap (λ (x : Block). take n x.llr) after
      ∙ take_at b.llr (drop (length b.llr) old.llr) n (fit.long.llr-long ∙ sym size) in
      rw (mask, llr) (record { fit = fit; is = is })

-- with slices for a block of any length a text has its own meaning
meaning-lent : (lent : Block) (t : List ℕ) → Long most_positions lent → meaning_in (room_of lent) t ≡ meaning t
unfolding meaning
meaning-lent lent t long = rw (long.mask-long, long.llr-long)

-- as a caller's own arrays are
abbrev pub cleared : Block
cleared = block_of (replicate most_positions 0) (replicate most_positions (pos 0))

pub cleared-long : Long most_positions cleared
cleared-long = record {
  mask-long = length-replicate {A = ℕ} most_positions 0;
  llr-long = length-replicate most_positions (pos 0);
}

module _ (t : List ℕ) {old new : Block} {r : Result Settings Refusal} (long : Long most_positions old)
    (read : InputRead (meaning_in (room_of old) t) old new r) where
  pub accepted-text : {s : Settings} {n : ℕ} → r ≡ Ok s → n ≡ 2 ^ s.m
      → AcceptedText (meaning t) s (first_of n new)
  accepted-text {s} {n} e size =
      of-accepted (meaning t) s n (meaning-fit t)
      (subst (λ (means : Meaning). InputRead means old new r) (meaning-lent old t long) read) e size

  pub refused-text : {refusal : Refusal} → r ≡ Err refusal → meaning t ≡ refused (refusal_number refusal)
  refused-text e = sym (meaning-lent old t long) ∙ answered-refused (meaning_in (room_of old) t) read e
