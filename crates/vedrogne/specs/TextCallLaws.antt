-- Laws of the C functions on texts: the list of settings, that after a refusal nothing has changed, that the reader
-- reads what the writer wrote, and which texts are written alike.
use Rattle.std.specs.Prelude.{ℕ, zero, suc, ◌^◌, ◌≤◌, ◌≡◌, refl, Bool, true, false, List, length, set, take, drop}
use Rattle.std.proofs.Common.{sym, ap, ◌∙◌, true≢false, arith}
use Rattle.std.proofs.Math.Seq.{take-append_seam}
use Rattle.calls.specs.LentMemory.{written_over}
use Rattle.calls.specs.LentMemoryLaws.{written-sets}
use Rattle.calls.specs.NumberLaws.{first-refusal-passed}
use Rattle.settings.specs.declared.Settings.{Settings}
use Rattle.settings.specs.Settings.{settings_list}
use Rattle.report_input.specs.Input.{Block, Meaning, refused, block, block_number, room_of, first_of}
use Rattle.report_input.specs.RoomLaws.{accepted-means}
use Rattle.report_writer.specs.Writer.{tidy_text, write_number}
use Rattle.report_writer.specs.WriterLaws.{read-written-in, written-alike}
use Rattle.vedrogne.specs.Interface.{settings_length, settings_in, settings_list_number}
use Rattle.vedrogne.specs.InterfaceLaws.{settings-long}
use Rattle.vedrogne.specs.TextCalls.{unless_short, read_meaning, ReadCall, write_call_number, TextCall}

-- ---- the list of settings

-- six stores write it
pub settings-stored : (s : Settings) (l : List ℕ) → settings_length ≤ length l
    → set (set (set (set (set (set l 0 s.m) 1 s.ceiling) 2 s.scale) 3 s.limit) 4 s.criterion) 5
    s.operand ≡ written_over (settings_list s) l
settings-stored s l h = written-sets (settings_list s) l h

-- what is written there is read as the same settings
pub settings-kept : (s : Settings) (old : List ℕ) → settings_in (written_over (settings_list s) old) ≡ s
settings-kept s old = refl

-- ---- after a refusal nothing has changed

pub refused-read-writes-nothing : (means : Meaning) {settings settings' : List ℕ} {before after : Block} {number : ℕ}
    → ReadCall means settings settings' before after (suc number) → (settings' ≡ settings) × (after ≡ before)
refused-read-writes-nothing (refused n) c = (c.settings-is, c.block-is)
refused-read-writes-nothing (block s b) c = let e = c.number_is in absurd (omega arith)

pub refused-text-writes-nothing : {number : ℕ} {text old new : List ℕ} {written written' refusal : ℕ}
    → TextCall number text old new written written' (suc refusal) → (new ≡ old) × (written' ≡ written)
refused-text-writes-nothing {text = text} {old} {written = written} c =
    (c.text-is ∙ rw (← c.number_is), c.written_is ∙ rw (← c.number_is))

-- ---- what was written

-- as many bytes of the slice as the number says are the text
pub written-text : {number : ℕ} {text old new : List ℕ} {held written : ℕ}
    → TextCall number text old new held written 0 → take written new ≡ text
written-text {text = text} {old} c =
    rw (c.text-is, c.written_is, ← c.number_is) (take-append_seam text (drop (length text) old))

-- what `vedrogne_write` wrote, `vedrogne_read` reads as the same settings, and the first N of mask and LLRs, where the
-- list of settings is long enough and the slices have room for N
pub written_read : (settings : List ℕ) (b : Block) (old new : List ℕ) (held written : ℕ)
    → TextCall (write_call_number settings b (length old)) (tidy_text (settings_in settings) b) old new held written 0
    → (list : List ℕ) (lent : Block) → settings_length ≤ length list
    → 2 ^ (settings_in settings).m ≤ length lent.mask → 2 ^ (settings_in settings).m ≤ length lent.llr
    → read_meaning list lent (take written new)
    ≡ block (settings_in settings) (first_of (2 ^ (settings_in settings).m) b)
written_read settings b old new held written c list lent long mask-room llr-room =
    let s = settings_in settings in
    let list-number = settings_list_number settings in
    let number = (first-refusal-passed list-number (write_number s b (length old)) (sym c.number_is)).1 in
    rw (settings-long list long, written-text c)
    (read-written-in (room_of lent) s b (first-refusal-passed (block_number s b) _ number).0
    (record { mask-room = mask-room; llr-room = llr-room }))

-- two texts that `vedrogne_read` accepts are written alike exactly where it reads the same from both
pub read_alike : (list list' : List ℕ) (lent lent' : Block) (t t' : List ℕ) {s s' : Settings} {b b' : Block}
    → read_meaning list lent t ≡ block s b → read_meaning list' lent' t' ≡ block s' b'
    → (tidy_text s b ≡ tidy_text s' b' → block s b ≡ block s' b') ×
    (block s b ≡ block s' b' → tidy_text s b ≡ tidy_text s' b')
read_alike list list' lent lent' t t' {s} {s'} {b} {b'} e e' =
    let m = accepted-means (room_of lent) t (unless-short (settings_list_number list) e) in
    let m' = accepted-means (room_of lent') t' (unless-short (settings_list_number list') e') in
    let both = written-alike t t' m m' in
    (λ same. sym m ∙ both.0 same ∙ m', λ same. both.1 (m ∙ same ∙ sym m'))
  where
    -- a list that is too short reads no block
    unless-short : (number : ℕ) {means : Meaning} {s : Settings} {b : Block}
        → unless_short number means ≡ block s b → means ≡ block s b
    unless-short zero e = e
    unless-short (suc number) e = absurd (true≢false (ap is_refusal e))
      where
        is_refusal : Meaning → Bool
        is_refusal (refused n) = true
        is_refusal (block s b) = false
