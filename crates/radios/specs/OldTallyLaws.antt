-- Request 2026-07, "so that old tallies can go on", of the tally of each radio.
use Rattle.std.specs.Prelude.{ℕ, ◌<◌, ◌≡◌, List, set}
use Rattle.std.proofs.Common.{ap, ◌∙◌, lt-ltb}
use Rattle.calls.specs.LentMemory.{unless_refused}
use Rattle.settings.specs.Slices.{Slices}
use Rattle.decoder.specs.Decoder.{result_of, decode_slices}
use Rattle.tally.specs.declared.Tally.{Tally}
use Rattle.tally.specs.Tally.{counted, answer_by}
use Rattle.tally.specs.Runs.{Call, decoded}
use Rattle.tally.specs.OldTallies.{old_tally_number}
use Rattle.tally.specs.OldTallyLaws.{same_number}
use Rattle.radios.specs.declared.Radios.{Radios}
use Rattle.tally.specs.declared.Tallied.{Tallied}
use Rattle.radios.specs.Radios.{radio_count, tally_of, radio_call_number, RadioDecode}

-- neither 16 nor 15 refuses a call for a radio whose tally is an old one
pub old-tally-accepted : (radio : ℕ) (tallies : List Tally) → radio < radio_count
    → old_tally_number (tally_of radio tallies) ≡ 0 → radio_call_number radio tallies ≡ 0
old-tally-accepted radio tallies known old =
    rw (lt-ltb radio radio_count known) (same_number (tally_of radio tallies) ∙ old)

-- so the call is answered as the decoder answers it, counted in the old tally and in no other, and written
pub old-radio-goes-on : (radios : Radios) (radio : ℕ) (c : Call) (after : Slices) (r : Tallied Radios)
    → radio < radio_count
    → old_tally_number (tally_of radio radios.tallies) ≡ 0
    → RadioDecode radios radio c.settings c.mask c.llr c.slices after r
    → (result_of r.outcome ≡ decoded c)
    × (r.tally.tallies ≡ set radios.tallies radio (counted (tally_of radio radios.tallies) (decoded c)))
    × (after ≡ decode_slices c.settings c.mask c.llr c.slices)
old-radio-goes-on radios radio c after r known old d =
    let tallies = radios.tallies in
    let new = set tallies radio (counted (tally_of radio tallies) (decoded c)) in
    let written = decode_slices c.settings c.mask c.llr c.slices in
    let accepted : radio_call_number radio tallies ≡ 0 =
    rw (lt-ltb radio radio_count known) (same_number (tally_of radio tallies) ∙ old) in (
      d.answer ∙ ap (λ (n : ℕ). answer_by n (decoded c)) accepted,
      d.tallies-are ∙ ap (λ (n : ℕ). unless_refused n new tallies) accepted,
      d.slices ∙ ap (λ (n : ℕ). unless_refused n written c.slices) accepted,
    )
