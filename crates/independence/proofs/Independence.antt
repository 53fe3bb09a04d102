-- Document 01, "Message and outcome", whole: from samples to marks, how well a block is decoded does not depend on the
-- message sent. First for any front that is odd in its samples, then for document 01's and, 2026-06, for two antennas.
use Rattle.std.specs.Prelude.{ℕ, ◌^◌, ◌≡◌, List, length, Float}
use Rattle.std.proofs.Common.{sym, ap, ◌∙◌}
use Rattle.polar.specs.Code.{u_bit, encode_number}
use Rattle.channel.specs.declared.Channel.{Channel}
use Rattle.antennas.specs.declared.Receiver.{Receiver}
use Rattle.antennas.specs.FrontTwo.{Branches}
use Rattle.settings.specs.declared.Settings.{Settings}
use Rattle.independence.specs.Front.{Front, OddFront, channel_front, antennas_front}
use Rattle.independence.specs.OddFronts.{channel-odd, antennas-odd}
use Rattle.independence.specs.Verdict.{verdict}
use Rattle.independence.specs.Alike.{RunSlices, SameLengths, front_in, llrs_in, coded_bit_of, sent_bit, Alike}
use Rattle.independence.specs.Outcome.{verdict-flipped}
use Rattle.independence.specs.Runs.{Calls, frozen-zero, sent-coded, answer-same}
use Rattle.independence.specs.Runs.{soft-same, coded_soft-same, mark-same, coded_mark-same}

-- for every m, mask and message that the coder accepts; every setting, accepted or not; any samples; and any lent
-- slices, of the same lengths in both runs
pub front-independence : {Samples : Type 0} (front : Front Samples) (s : Settings) (mask message block : List ℕ)
    (samples : Samples) (first second : RunSlices) → OddFront (2 ^ s.m) front
    → encode_number (record { m = s.m }) mask message (length block) ≡ 0
    → SameLengths first second → Alike front s mask message block samples first second
front-independence front s mask message block samples first second odd accepted same =
    let sent = sent_bit s mask message block in
    let other = front.flip sent samples in
    let calls : front_in front s mask samples first ≡ 0
    → Calls s mask (u_bit mask message) sent (llrs_in front s mask samples first) (llrs_in front s mask other second)
    first.slices second.slices
    = λ ok. record {
      frozen = frozen-zero mask message;
      block = sent-coded (record { m = s.m }) mask message block accepted;
      flips = odd.llrs-flip sent samples first.llr second.llr same.llr ok;
      long = odd.length-same other second.llr ∙ sym same.llr ∙ sym (odd.length-same samples first.llr);
      lengths = sym same.slices;
    } in
    record {
      fronts = odd.number_same sent samples (length second.llr) ∙ ap (front.number samples) (sym same.llr);
      answers = λ ok. answer-same (calls ok);
      soft = λ ok i h. soft-same (calls ok.0) ok.1 i h;
      coded_soft = λ ok i h. coded_soft-same (calls ok.0) ok.1 i h;
      marks = λ ok i h. mark-same (calls ok.0) ok.1 i h;
      coded_marks = λ ok i h. coded_mark-same (calls ok.0) ok.1 i h;
      verdicts = λ ok i h.
          ap (verdict (u_bit mask message i)) (mark-same (calls ok.0) ok.1 i h)
          ∙ verdict-flipped (u_bit mask message i) _;
      coded_verdicts = λ ok i h.
          ap (verdict (coded_bit_of s mask message i)) (coded_mark-same (calls ok.0) ok.1 i h)
          ∙ verdict-flipped (coded_bit_of s mask message i) _;
    }

-- document 01's front: a Gaussian, flipping or erasing channel, accepted or not
pub message-independence : (s : Settings) (channel : Channel) (mask message block : List ℕ) (samples : List Float)
    (first second : RunSlices)
    → encode_number (record { m = s.m }) mask message (length block) ≡ 0 → SameLengths first second
    → Alike (channel_front s channel) s mask message block samples first second
message-independence s channel mask message block samples first second =
    front-independence (channel_front s channel) s mask message block samples first second (channel-odd s channel)

-- two antennas, accepted or not, with both samples negated where the block sent has a 1
pub antennas-independence : (s : Settings) (receiver : Receiver) (mask message block : List ℕ) (samples : Branches)
    (first second : RunSlices)
    → encode_number (record { m = s.m }) mask message (length block) ≡ 0 → SameLengths first second
    → Alike (antennas_front s receiver) s mask message block samples first second
antennas-independence s receiver mask message block samples first second =
    front-independence (antennas_front s receiver) s mask message block samples first second (antennas-odd s receiver)
