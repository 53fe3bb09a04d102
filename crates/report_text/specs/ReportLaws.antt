-- Laws of the output: that its room suffices, and what the decoder leaves for an accepted block.
use Rattle.std.specs.Prelude.{ℕ, ◌*◌, ◌^◌, ◌≤◌, ◌<◌, ◌≡◌, Bool, true, false, ℤ, pos, length, get_or}
use Rattle.std.proofs.Common.{sym, ◌∙◌, subst, true≢false, arith, lit≤, length-append, pow_mono}
use Rattle.std.proofs.Math.Path.{ap}
use mathlib.Core.List.{List, [], ◌∷◌, ◌++◌}
use Rattle.calls.specs.declared.Refusal.{Refusal}
use Rattle.calls.specs.Bounds.{largest_m, largest_ceiling, most_positions}
use Rattle.message.specs.MessageLaws.{add-size}
use Rattle.criteria.specs.CriteriaLaws.{mark-le}
use Rattle.sweeps.specs.Workspace.{L, R}
use Rattle.settings.specs.declared.Settings.{Settings}
use Rattle.settings.specs.Settings.{largest_limit, decode_number}
use Rattle.settings.specs.SettingsLaws.{accepted}
use Rattle.decoder.specs.declared.Reason.{Reason}
use Rattle.decoder.specs.declared.Reason.TheVariants.{Criterion, Limit}
use Rattle.std.specs.Prelude.{Ok, Err}
use Rattle.decoder.specs.declared.Ending.{Ending as CodeEnding}
use Rattle.decoder.specs.Decoder.{
  Outcome,
  Result,
  ended,
  refused,
  reason_number,
  rule_of,
  soft_at,
  coded_soft_at,
  Ending,
  ending,
  final,
  result_of,
  result_by,
  call_number,
  Decoded,
}
use Rattle.decoder.specs.OutputLaws.{soft-size}
use Rattle.decoder.specs.ResultLaws.{
  DecoderAnswer,
  decoder-answer,
  soft-written,
  mark-written,
  coded_soft-written,
  coded_mark-written,
}
use Rattle.settings.specs.Slices.{Slices, lengths_of}
use Rattle.calls.specs.Texts.{bytes}
use Rattle.format.specs.Decimal.{line}
use Rattle.format.specs.DecimalLaws.{line-length}
use Rattle.format.specs.Texts.{position_lines}
use Rattle.format.specs.TextLaws.{position-lines-same, position-lines-length}
use Rattle.report_input.specs.Input.{Block, largest_lengths}
use Rattle.report_input.specs.InputLaws.{Fit}
use Rattle.report_text.specs.Report.{report_room, outputs_at, outcome_text, block_text}
use Rattle.report_text.specs.Private.{slice_values, ending_of, heading_text}

-- ---- room

pub reason-le : (r : Reason) → reason_number r ≤ 2
reason-le Criterion = lit≤ tt
reason-le Limit = lit≤ tt

pub outputs-short : (s : Settings) (mask : List ℕ) (w : List ℤ) (i : ℕ) → s.ceiling ≤ largest_ceiling
    → i < most_positions
    → length (line (outputs_at s mask w i)) ≤ 30
outputs-short s mask w i C h =
    line-length (outputs_at s mask w i) (omega (
      arith,
      soft-size (rule_of s) (get_or mask i 0) (L s.m w 0 i) (R s.m w 0 i),
      mark-le (soft_at s mask w i),
      add-size (rule_of s) (L s.m w s.m i) (R s.m w s.m i),
      mark-le (coded_soft_at s w i),
    ))

pub heading-room : (e : Ending) → e.iteration ≤ 9999 → e.reason ≤ 9999 → length (heading_text e) ≤ 65
heading-room e h k =
    let values = pos e.iteration ∷ pos e.reason ∷ [] in
    omega (
      arith,
      line-length values (omega arith),
      length-append (line values) (bytes "position soft mark coded codedmark\n"),
    )

-- the whole of an outcome, where its lines have at most 30 bytes each
pub outcome-room : (e : Ending) (n : ℕ) (values : ℕ → List ℤ) → e.iteration ≤ 9999 → e.reason ≤ 9999
    → n ≤ most_positions → length (position_lines values n 0) ≤ 30 * n → length (outcome_text e n values) ≤ report_room
unfolding outcome_text
outcome-room e n values i r m short =
    omega (arith, heading-room e i r, m, short, length-append (heading_text e) (position_lines values n 0))

-- ---- what the decoder leaves for an accepted block

pub fit_length : {s : Settings} {block : Block} → Fit s block → s.m ≤ largest_m
fit_length {s} {block} fit = (accepted s block.mask block.llr largest_lengths fit.number).settings.m-le

-- how the decoder ends, and its workspace then
abbrev ending_on : Settings → Block → List ℤ → Ending
ending_on s block work = ending s block.mask block.llr work

abbrev final_on : Settings → Block → List ℤ → List ℤ
final_on s block work = final s block.mask block.llr work

pub record DecodedBlock (s : Settings) (block : Block) (work : List ℤ) (after : Slices) (r : Outcome) : Type 0 where
  pub answer : result_of r ≡ ended (ending_on s block work).iteration (ending_on s block work).reason
  pub iteration-le : (ending_on s block work).iteration ≤ largest_limit
  pub values : (i : ℕ) → i < 2 ^ s.m
      → slice_values after.soft after.mark after.coded_soft after.coded_mark i
      ≡ outputs_at s block.mask (final_on s block work) i
  pub size : 2 ^ s.m ≤ most_positions
  pub ceiling-le : s.ceiling ≤ largest_ceiling

pub decoded-block : {s : Settings} {block : Block} (before : Slices) {after : Slices} {r : Outcome} → Fit s block
    → Decoded s block.mask block.llr before after r → lengths_of before ≡ largest_lengths
    → DecodedBlock s block before.work after r
decoded-block {s} {block} before {after} fit d lengths =
    let mask = block.mask in
    let llr = block.llr in
    let number : call_number s mask llr before ≡ 0 = ap (decode_number s mask llr) lengths ∙ fit.number in
    let ok = accepted s mask llr largest_lengths fit.number in
    let size : 2 ^ s.m ≤ 2 ^ largest_m = pow_mono ok.settings.m-le in
    let e = ending_on s block before.work in
    let ends = subst DecoderAnswer (ap (λ (n : ℕ). result_by n e) number) (decoder-answer s mask llr before) in
    record {
      answer = d.answer ∙ ap (λ (n : ℕ). result_by n e) number;
      iteration-le = ends.1;
      values = λ i h. rw (
        ap (λ (x : Slices). get_or x.soft i (pos 0)) d.slices ∙ soft-written s mask llr before number i h,
        ap (λ (x : Slices). get_or x.mark i 0) d.slices ∙ mark-written s mask llr before number i h,
        ap (λ (x : Slices). get_or x.coded_soft i (pos 0)) d.slices ∙ coded_soft-written s mask llr before number i h,
        ap (λ (x : Slices). get_or x.coded_mark i 0) d.slices ∙ coded_mark-written s mask llr before number i h,
      );
      size = size;
      ceiling-le = ok.settings.ceiling-le;
    }

module _ {s : Settings} {block : Block} {work : List ℤ} {after : Slices} {r : Outcome}
    (b : DecodedBlock s block work after r) where
  -- it isn't refused
  pub not-refused : (refusal : Refusal) → r ≡ Err refusal → ⊥
  not-refused refusal e = true≢false (ap is_refusal (sym (ap result_of e) ∙ b.answer))
    where
      is_refusal : Result → Bool
      is_refusal (refused number) = true
      is_refusal (ended t reason) = false

  -- its ending is the decoder's
  pub ending-is : (e : CodeEnding) → r ≡ Ok e → ending_of e ≡ ending_on s block work
  ending-is e is = ap ending_in (sym (ap result_of is) ∙ b.answer)
    where
      ending_in : Result → Ending
      ending_in (refused number) = record { iteration = 0; reason = number }
      ending_in (ended t reason) = record { iteration = t; reason = reason }

  pub iterations-short : (e : CodeEnding) → r ≡ Ok e → e.iterations ≤ 9999
  iterations-short e is = omega (arith, b.iteration-le, ap (λ (x : Ending). x.iteration) (ending-is e is))

  -- its lines have room, and are those of the definition
  abbrev shown_values : ℕ → List ℤ
  shown_values = slice_values after.soft after.mark after.coded_soft after.coded_mark

  pub block_room : (n : ℕ) → n ≡ 2 ^ s.m → length (position_lines shown_values n 0) ≤ 30 * n
  block_room n e =
      position-lines-length 30 shown_values n 0 (λ i l h.
      rw (b.values i (omega arith))
      (outputs-short s block.mask (final_on s block work) i b.ceiling-le (omega (arith, b.size))))

  pub outcome-short : (n : ℕ) (e : CodeEnding) → n ≡ 2 ^ s.m → r ≡ Ok e
      → length (outcome_text (ending_of e) n shown_values) ≤ report_room
  outcome-short n e size is =
      outcome-room (ending_of e) n shown_values (iterations-short e is) (omega (arith, reason-le e.reason))
      (omega (arith, b.size)) (block_room n size)

  pub block-text : (n : ℕ) (e : CodeEnding) → n ≡ 2 ^ s.m → r ≡ Ok e
      → outcome_text (ending_of e) n shown_values ≡ block_text s block work
  unfolding outcome_text
  block-text n e size is =
      ap (λ (x : Ending). outcome_text x n shown_values) (ending-is e is)
      ∙ ap (λ (k : ℕ). outcome_text (ending_on s block work) k shown_values) size
      ∙ ap (λ (l : List ℕ). heading_text (ending_on s block work) ++ l)
      (position-lines-same shown_values (outputs_at s block.mask (final_on s block work)) (2 ^ s.m) 0
      (λ i l h. b.values i (omega arith)))
