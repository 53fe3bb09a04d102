-- `heading` meets its contract: its three lines, one after another.
use Rattle.std.proofs.Common.{ℕ, ◌≤◌, ◌≡◌, [], ◌∷◌, arith, pos, w32, to_z}
use Rattle.calls.specs.Texts.{bytes}
use Rattle.decoder.specs.declared.Reason.{Reason}
use Rattle.decoder.specs.Decoder.{reason_number}
use Rattle.format.proofs.Values.{natural-held}
use Rattle.format.specs.Decimal.{line}
use Rattle.format.specs.declared.Cursor.{Cursor}
use Rattle.format.specs.Writing.{Appended}
use Rattle.format.specs.WritingLaws.{appended_then, room-after}
use Rattle.report_text.specs.ReportLaws.{reason-le}
use Rattle.report_text.proofs.heading.Goals as goal

-- the second line, of values as the machine holds them
second-line : {old new : Cursor} (iterations n : ℕ) (reason : Reason) → iterations ≤ 9999 → n ≡ reason_number reason
    → Appended old (line (to_z w32 iterations ∷ to_z w32 n ∷ [])) new
    → Appended old (line (pos iterations ∷ pos (reason_number reason) ∷ [])) new
second-line iterations n reason h e a =
    rw (natural-held iterations h, e, natural-held (reason_number reason) (omega (arith, reason-le reason))) at a

pub copy-requires-2 : goal.copy-requires-2
copy-requires-2 c =
    room-after (bytes "position soft mark coded codedmark\n")
    (appended_then c.copy.ensures
    (second-line _ _ c.args.ending.reason c.requires.iterations_bound c.reason_number.ensures c.line.ensures))
    c.requires.room

pub returns : goal.returns
returns c =
    appended_then
    (appended_then c.copy.ensures
    (second-line _ _ c.args.ending.reason c.requires.iterations_bound c.reason_number.ensures c.line.ensures))
    c.copy-2.ensures
