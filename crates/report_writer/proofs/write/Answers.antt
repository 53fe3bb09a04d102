-- `write` meets its contract: the text has room in memory of its own, and is copied from there.
use Rattle.std.specs.Prelude.{ℕ, ◌≤◌, ◌≡◌, length, List, replicate, Result, Ok}
use Rattle.std.proofs.Common.{sym, ap, ◌∙◌, rules, arith}
use Rattle.std.proofs.lemmas.List.{length-replicate}
use Rattle.calls.specs.declared.Refusal.{Refusal}
use Rattle.calls.specs.LentMemoryLaws.{written-sets}
use Rattle.calls.specs.Numbers.{number_of}
use Rattle.settings.specs.declared.Settings.{Settings}
use Rattle.format.specs.declared.Cursor.{Cursor}
use Rattle.format.specs.Writing.{HasRoom}
use Rattle.format.specs.WritingLaws.{appended-first, appended-within, start-room}
use Rattle.report_input.specs.Input.{Block, block_of, block_number}
use Rattle.report_writer.specs.Writer.{tidy_text, longest_tidy_text}
use Rattle.report_writer.specs.RoomLaws.{tidy-length, written-text}
use Rattle.report_writer.proofs.write.Goals as goal

zeros : length (replicate {A = ℕ} longest_tidy_text 0) ≡ longest_tidy_text
zeros = length-replicate {A = ℕ} longest_tidy_text 0

-- of a block that the decoder's tests pass
module _ (s : Settings) (b : Block) {r : Result Unit Refusal} (e : number_of r ≡ block_number s b)
    (is : r ≡ Ok tt) where
  passed : block_number s b ≡ 0
  passed = sym e ∙ ap number_of is

  own-room : (own : Cursor) {out : List ℕ} → (own.out.now ≡ out) × (own.at ≡ 0) → longest_tidy_text ≤ length out
      → HasRoom own (tidy_text s b)
  own-room own starts h = start-room own (tidy_text s b) starts (omega (arith, h, tidy-length s b passed))

pub compose-requires-clause-room : goal.compose-requires-clause-room
compose-requires-clause-room c =
    let own = c.new-composed in
    own-room _ _ c.decoder_refusal.ensures c.in_ok-decoder_refusal.was own.result own.ensures.starts
    (omega (arith, zeros))

pub slice_bounds-own-end : goal.slice_bounds-own-end
slice_bounds-own-end c =
    let own = c.new-composed in
    let room = own-room _ _ c.decoder_refusal.ensures c.in_ok-decoder_refusal.was own.result own.ensures.starts
    (omega (arith, zeros)) in
    let within = appended-within room c.compose.ensures in
    search rules

pub slice_bounds-copy-end : goal.slice_bounds-copy-end
slice_bounds-copy-end c =
    let own = c.new-composed in
    let room = own-room _ _ c.decoder_refusal.ensures c.in_ok-decoder_refusal.was own.result own.ensures.starts
    (omega (arith, zeros)) in
    let first = appended-first own.ensures.starts.1 room c.compose.ensures in
    search rules

pub returns-clause-text_after : goal.returns-clause-text_after
returns-clause-text_after c =
    let own = c.new-composed in
    let room = own-room _ _ c.decoder_refusal.ensures c.in_ok-decoder_refusal.was own.result own.ensures.starts
    (omega (arith, zeros)) in
    let first = appended-first own.ensures.starts.1 room c.compose.ensures in
    let b = block_of c.args.mask.now c.args.llr.now in
    let s = c.args.settings in
    let old = c.args.text.now in
    let none = passed s b c.decoder_refusal.ensures c.in_ok-decoder_refusal.was in
    let fits : length (tidy_text s b) ≤ length old = omega (arith, c.compose.ensures.at-is) in
    let is = written-sets (tidy_text s b) old fits ∙ written-text s b old none fits in
    search rules
