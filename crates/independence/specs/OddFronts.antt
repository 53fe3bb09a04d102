-- Fronts that are odd in their samples. Of a front that writes an LLR for each position one law is asked for: negated
-- samples leave its number, and turn the sign of each LLR (`TurnsSigns`).
use Rattle.std.specs.Prelude.{ℕ, ◌^◌, ◌≤◌, ◌<◌, ◌≡◌, refl, Bool, ◌&&◌, List, leb, ℤ, pos, length, get_or, Float}
use Rattle.std.proofs.Common.{sym, ap, ◌∙◌, leb-true}
use Rattle.std.specs.Float.{nan}
use Rattle.calls.specs.LentMemory.{overwrite, unless_refused}
use Rattle.calls.specs.LentMemoryLaws.{length-after, new-at}
use Rattle.calls.specs.NumberLaws.{and-passed}
use Rattle.calls.specs.Signs.{flipped}
use Rattle.channel.specs.declared.Channel.{Channel}
use Rattle.channel.specs.Front.{llr_of, is_usable, all_finite, front_number}
use Rattle.channel.specs.FrontLaws.{tests-passed}
use Rattle.channel.specs.FrontLaws as channel_laws
use Rattle.antennas.specs.declared.Receiver.{Receiver}
use Rattle.antennas.specs.FrontTwo.{Branches, are_usable, are_finite, llr_at, front_two_number}
use Rattle.antennas.specs.FrontTwoLaws as antennas_laws
use Rattle.settings.specs.declared.Settings.{Settings}
use Rattle.independence.specs.Front.{Front, OddFront, channel_front, antennas_front}

-- the law, of a front that leaves `llr samples i` at each position i below N where it accepts: the first two fields say
-- that it does, the other two what negated samples do
pub record TurnsSigns {Samples : Type 0} (N : ℕ) (front : Front Samples) (llr : Samples → ℕ → ℤ) : Type 0 where
  pub written : (samples : Samples) (old : List ℤ)
      → front.llrs samples old
      ≡ unless_refused (front.number samples (length old)) (overwrite N (llr samples) old) old
  pub room-long : (samples : Samples) (room : ℕ) → front.number samples room ≡ 0 → N ≤ room
  pub llr-flips : (bit : ℕ → Bool) (samples : Samples) (i : ℕ) → i < N
      → llr (front.flip bit samples) i ≡ flipped (bit i) (llr samples i)
  pub number_same : (bit : ℕ → Bool) (samples : Samples) (room : ℕ)
      → front.number (front.flip bit samples) room ≡ front.number samples room

module _ {Samples : Type 0} {N : ℕ} {front : Front Samples} {llr : Samples → ℕ → ℤ} (law : TurnsSigns N front llr) where
  llr-written : (samples : Samples) (old : List ℤ) → front.number samples (length old) ≡ 0 → (i : ℕ) → i < N
      → get_or (front.llrs samples old) i (pos 0) ≡ llr samples i
  llr-written samples old ok i h =
      ap (λ (l : List ℤ). get_or l i (pos 0)) (law.written samples old)
      ∙ new-at (front.number samples (length old)) N (llr samples) old i (pos 0) ok h
      (law.room-long samples (length old) ok)

  pub odd-front : OddFront N front
  odd-front = record {
    number_same = law.number_same;
    length-same = λ samples old.
        ap length (law.written samples old)
        ∙ length-after (front.number samples (length old)) N (llr samples) old;
    llrs-flip = λ bit samples old old' long ok i h.
        llr-written (front.flip bit samples) old'
        (law.number_same bit samples (length old') ∙ ap (front.number samples) (sym long) ∙ ok) i h
        ∙ law.llr-flips bit samples i h
        ∙ ap (flipped (bit i)) (sym (llr-written samples old ok i h));
  }

-- ---- document 01's front, and the one for two antennas

channel-room : (m C : ℕ) (channel : Channel) (samples : List Float) (room : ℕ)
    → front_number m C channel samples room ≡ 0 → 2 ^ m ≤ room
channel-room m C channel samples room ok =
    let n = 2 ^ m in
    let long = leb n (length samples) in
    let passed = tests-passed m C (long && leb n room) (is_usable channel) (all_finite n samples) ok in
    leb-true n room (and-passed long (leb n room) passed.long-enough).1

pub channel-odd : (s : Settings) (channel : Channel) → OddFront (2 ^ s.m) (channel_front s channel)
channel-odd s channel =
    odd-front {llr = λ samples i. llr_of s.ceiling channel (get_or samples i nan)} (record {
      written = λ samples old. refl;
      room-long = channel-room s.m s.ceiling channel;
      llr-flips = channel_laws.llr-at-flipped (2 ^ s.m) s.ceiling channel;
      number_same = channel_laws.front-number-flipped s.m s.ceiling channel;
    })

antennas-room : (m C : ℕ) (receiver : Receiver) (samples : Branches) (room : ℕ)
    → front_two_number m C receiver samples room ≡ 0 → 2 ^ m ≤ room
antennas-room m C receiver samples room ok =
    let n = 2 ^ m in
    let long = leb n (length samples.first) && leb n (length samples.second) in
    let passed = tests-passed m C (long && leb n room) (are_usable receiver) (are_finite n samples) ok in
    leb-true n room (and-passed long (leb n room) passed.long-enough).1

pub antennas-odd : (s : Settings) (receiver : Receiver) → OddFront (2 ^ s.m) (antennas_front s receiver)
antennas-odd s receiver =
    odd-front {llr = llr_at s.ceiling receiver} (record {
      written = λ samples old. refl;
      room-long = antennas-room s.m s.ceiling receiver;
      llr-flips = antennas_laws.llr-at-flipped (2 ^ s.m) s.ceiling receiver;
      number_same = antennas_laws.front-two-number-flipped s.m s.ceiling receiver;
    })
