-- 2026-02, of document 01's "Message and outcome": a frozen position is right in every run. (The theorem whole is
-- `message-independence`, `proofs/Independence.antt`.)
use Rattle.std.specs.Prelude.{ℕ, ◌^◌, ◌<◌, ◌≡◌, false, List, get_or}
use Rattle.std.proofs.Common.{ap₂}
use Rattle.polar.specs.Code.{u_bit}
use Rattle.polar.specs.Mask.{is_information}
use Rattle.settings.specs.declared.Settings.{Settings}
use Rattle.decoder.specs.ResultLaws.{frozen-mark-written}
use Rattle.independence.specs.Front.{Front}
use Rattle.independence.specs.Verdict.{right, verdict}
use Rattle.independence.specs.Alike.{RunSlices, llrs_in, decoder_in, marks_in}
use Rattle.independence.specs.Runs.{frozen-zero}

-- in either run, and in any other: a frozen position is never tied and never wrong, whatever the message
pub frozen-right : {Samples : Type 0} (front : Front Samples) (s : Settings) (mask message : List ℕ) (samples : Samples)
    (lent : RunSlices) → decoder_in front s mask samples lent ≡ 0
    → (i : ℕ) → i < 2 ^ s.m → is_information (get_or mask i 0) ≡ false
    → verdict (u_bit mask message i) (marks_in front s mask samples lent i) ≡ right
frozen-right front s mask message samples lent accepted i h frozen =
    ap₂ verdict (frozen-zero mask message i frozen)
    (frozen-mark-written s mask (llrs_in front s mask samples lent) lent.slices accepted i h frozen)
