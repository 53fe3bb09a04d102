-- A front, as far as the message's part in the outcome goes: samples of some kind become LLRs in a lent slice, or are
-- refused. Document 01's takes one list of floats (`channel_front`), that of 2026-06 two (`antennas_front`).
-- Definitions only.
use Rattle.std.specs.Prelude.{ℕ, ◌^◌, ◌<◌, ◌≡◌, Bool, List, ℤ, pos, length, get_or, Float}
use Rattle.calls.specs.Signs.{flipped}
use Rattle.channel.specs.declared.Channel.{Channel}
use Rattle.channel.specs.FlippedSamples.{flipped_samples}
use Rattle.channel.specs.Front.{front_number, front_llrs}
use Rattle.antennas.specs.declared.Receiver.{Receiver}
use Rattle.antennas.specs.FrontTwo.{Branches, front_two_number, front_two_llrs}
use Rattle.antennas.specs.RelatedCalls.{flipped_branches}
use Rattle.settings.specs.declared.Settings.{Settings}

pub record Front (Samples : Type 0) : Type 0 where
  -- the number for these samples and an LLR slice of so many elements
  pub number : Samples → ℕ → ℕ
  -- what the LLR slice holds afterwards
  pub llrs : Samples → List ℤ → List ℤ
  -- the samples with exactly those negated whose bit is 1
  pub flip : (ℕ → Bool) → Samples → Samples

-- a front that is odd in its samples, over N positions: negated samples change no refusal,
-- and turn the signs of their LLRs
pub record OddFront {Samples : Type 0} (N : ℕ) (front : Front Samples) : Type 0 where
  pub number_same : (bit : ℕ → Bool) (samples : Samples) (room : ℕ)
      → front.number (front.flip bit samples) room ≡ front.number samples room
  pub length-same : (samples : Samples) (old : List ℤ) → length (front.llrs samples old) ≡ length old
  pub llrs-flip : (bit : ℕ → Bool) (samples : Samples) (old old' : List ℤ) → length old ≡ length old'
      → front.number samples (length old) ≡ 0 → (i : ℕ) → i < N
      → get_or (front.llrs (front.flip bit samples) old') i (pos 0)
      ≡ flipped (bit i) (get_or (front.llrs samples old) i (pos 0))

-- the front of document 01: a channel of one of the three kinds, with the decoder's m and C
abbrev pub channel_front : Settings → Channel → Front (List Float)
channel_front s channel = record {
  number = front_number s.m s.ceiling channel;
  llrs = front_llrs s.m s.ceiling channel;
  flip = flipped_samples (2 ^ s.m);
}

-- the front for two antennas: both samples of a place are negated, or neither
abbrev pub antennas_front : Settings → Receiver → Front Branches
antennas_front s receiver = record {
  number = front_two_number s.m s.ceiling receiver;
  llrs = front_two_llrs s.m s.ceiling receiver;
  flip = flipped_branches (2 ^ s.m);
}
