-- Laws of the tidy text: it writes the first N elements of a block and no other, reading it gives the settings and the
-- block back, and it is the one text of its settings and block.
use Prim.Native.Nat.{ℕ, zero, suc, ◌+◌, ◌^◌, ◌<◌, ◌≤◌, min}
use Rattle.std.specs.Prelude.{◌≡◌, true, List, [], ◌∷◌, ◌++◌, leb, ℤ, pos, negsuc, neg_ℤ, nat_abs, length, get_or, drop}
use Rattle.std.specs.Prelude.{take}
use Rattle.std.proofs.Math.Path.{refl}
use Rattle.std.proofs.Common.{sym, ap, ap₂, ◌∙◌, append_assoc, arith, get_or-take, take_all, length-take-le, le-leb}
use Rattle.std.proofs.Common.{eq-eqb}
use Rattle.std.proofs.Math.Dec.{leb-zero, leb-suc-suc}
use Rattle.std.proofs.Math.Seq.{drop-cons}
use Rattle.calls.specs.Bounds.{largest_m}
use Rattle.calls.specs.EveryLaws.{every-same}
use Rattle.calls.specs.Numbers.{between}
use Rattle.format.specs.Decimal.{line}
use Rattle.format.specs.Texts.{position_lines}
use Rattle.format.specs.TextLaws.{position-lines-same}
use Rattle.polar.specs.Code.{information_count}
use Rattle.polar.specs.Mask.{mask_accepted, is_mask_byte}
use Rattle.report_input.specs.Input.{
  longest_text,
  outside_mask,
  outside_llr,
  setting_names,
  position_names,
  llr_value,
  Block,
  block_of,
  first_of,
  head,
  read_position,
  read_positions,
  block,
  block_number,
  held_in,
  meaning_in,
  largest_room,
  meaning,
}
use Rattle.report_input.specs.InputLaws.{
  read-position-found,
  head-found,
  Long,
  Fit,
  meaning-fit,
  Roomy,
  held_whole,
}
use Rattle.report_input.specs.declared.Room.{Room}
use Rattle.report_writer.specs.ReadBackLaws.{line-back, literal-back}
use Rattle.report_writer.specs.RoomLaws.{
  block-accepted,
  few-positions,
  mask-small,
  llr-small,
  settings-digits,
  position-digits,
  tidy-length,
}
use Rattle.report_writer.specs.Writer.{values_of, values_at, tidy_text}
use Rattle.scan.specs.Reading.{found}
use Rattle.settings.specs.declared.Settings.{Settings}
use Rattle.settings.specs.Settings.{within_ceiling}

-- ---- the first N elements of a block: nothing else is tested or written

take_long : {A : Type 0} (n : ℕ) (l : List A) → leb n (length (take n l)) ≡ leb n (length l)
take_long zero l = leb-zero (length (take zero l)) ∙ sym (leb-zero (length l))
take_long (suc n) [] = refl
take_long (suc n) (a ∷ l) = leb-suc-suc n (length (take n l)) ∙ take_long n l ∙ sym (leb-suc-suc n (length l))

first-mask : (n : ℕ) (mask : List ℕ) → mask_accepted n (take n mask) ≡ mask_accepted n mask
first-mask n mask = every-same n _ _ (λ i h. ap is_mask_byte (get_or-take n mask i 0 h))

first_count : (k n : ℕ) (mask : List ℕ) → n ≤ k → information_count (take k mask) n ≡ information_count mask n
first_count k zero mask h = refl
first_count k (suc n) mask h = rw (first_count k n mask (omega arith), get_or-take k mask n 0 h)

first-within : (n C : ℕ) (llr : List ℤ) → within_ceiling n C (take n llr) ≡ within_ceiling n C llr
first-within n C llr = every-same n _ _ (λ i h. ap (λ (z : ℤ). leb (nat_abs z) C) (get_or-take n llr i (pos 0) h))

-- the decoder's number is that of the first N elements
pub first-number : (s : Settings) (b : Block) → block_number s (first_of (2 ^ s.m) b) ≡ block_number s b
first-number s b =
    let n = 2 ^ s.m in
    rw (
      take_long n b.mask,
      take_long n b.llr,
      first-mask n b.mask,
      first_count n n b.mask (omega arith),
      first-within n s.ceiling b.llr,
    )

-- the text is that of the first N elements
pub tidy-first : (s : Settings) (b : Block) → tidy_text s (first_of (2 ^ s.m) b) ≡ tidy_text s b
unfolding tidy_text
tidy-first s b =
    let n = 2 ^ s.m in
    ap (λ (lines : List ℕ). setting_names ++ line (values_of s) ++ position_names ++ lines)
    (position-lines-same (values_at (first_of n b)) (values_at b) n 0
    (λ i _ h. let l : i < n = omega arith in rw (get_or-take n b.mask i 0 l, get_or-take n b.llr i (pos 0) l)))

-- ---- reading it

-- the names, the line of the settings, the names, and the lines of the positions
parts : (s : Settings) (b : Block) → tidy_text s b
    ≡ setting_names ++ (line (values_of s) ++ (position_names ++ position_lines (values_at b) (2 ^ s.m) 0))
unfolding tidy_text
parts s b = simp append_assoc

llr-same : (z : ℤ) → nat_abs z ≤ outside_llr → llr_value z ≡ z
llr-same (pos n) h = let e : min n outside_llr ≡ n = omega arith in ap pos e
llr-same (negsuc n) h =
    let e : min (suc n) outside_llr ≡ suc n = omega arith in ap (λ (k : ℕ). neg_ℤ (pos k)) e

-- what a text means whose lines are read to its end, and whose block has room and no number
read_whole : (room : Room) (t u : List ℕ) (s : Settings) (b : Block) → length t ≤ longest_text → head t ≡ found s u
    → between 1 largest_m s.m ≡ true → read_positions (2 ^ s.m) 0 u ≡ found b [] → block_number s b ≡ 0
    → held_in room b ≡ b → meaning_in room t ≡ block s b
unfolding meaning_in
read_whole room t u s b short h m lines none held =
    let number : block_number s (held_in room b) ≡ 0 = ap (block_number s) held ∙ none in
    rw (le-leb (length t) longest_text short, h, m, lines, number)

-- the first three lines give the settings
pub head-back : (s : Settings) (b : Block) → block_number s b ≡ 0
    → head (tidy_text s b) ≡ found s (position_lines (values_at b) (2 ^ s.m) 0)
head-back s b none =
    let lines = position_lines (values_at b) (2 ^ s.m) 0 in
    let third = position_names ++ lines in
    let second = line (values_of s) ++ third in
    ap head (parts s b)
    ∙ head-found (setting_names ++ second) second third lines (values_of s) (literal-back setting_names second)
    (line-back (values_of s) third (settings-digits s b none)) (literal-back position_names lines)

module _ (s : Settings) (b : Block) (none : block_number s b ≡ 0) where
  position-back : (p : ℕ) (u : List ℕ) → p < 2 ^ s.m → read_position p (line (values_at b p) ++ u)
      ≡ found (record { frozen = get_or b.mask p 0; llr = get_or b.llr p (pos 0) }) u
  position-back p u h =
      let kept = mask-small s b none p h in
      let mask-same : min (get_or b.mask p 0) outside_mask ≡ get_or b.mask p 0 = omega arith in
      read-position-found p (values_at b p) (line (values_at b p) ++ u) u
      (line-back (values_at b p) u (position-digits s b none p h))
      ∙ rw (
        eq-eqb p p refl,
        mask-same,
        llr-same (get_or b.llr p (pos 0)) (omega (arith, llr-small s b none p h)),
      )

  -- the lines of n positions from p on give their part of the block
  positions-from : (n p : ℕ) → p + n ≤ 2 ^ s.m
      → read_positions n p (position_lines (values_at b) n p)
      ≡ found (block_of (take n (drop p b.mask)) (take n (drop p b.llr))) []
  unfolding read_positions position_lines
  positions-from zero p h = refl
  positions-from (suc n) p h =
      let slices = (block-accepted s b none).slices in
      rw (
        position-back p (position_lines (values_at b) n (suc p)) (omega arith),
        positions-from n (suc p) (omega arith),
        drop-cons b.mask p 0 (omega arith),
        drop-cons b.llr p (pos 0) (omega arith),
      )

-- the lines of the positions give the first N elements of the block
pub positions-back : (s : Settings) (b : Block) → block_number s b ≡ 0
    → read_positions (2 ^ s.m) 0 (position_lines (values_at b) (2 ^ s.m) 0) ≡ found (first_of (2 ^ s.m) b) []
positions-back s b none = positions-from s b none (2 ^ s.m) 0 (omega arith)

first-long : (s : Settings) (b : Block) → block_number s b ≡ 0 → Long (2 ^ s.m) (first_of (2 ^ s.m) b)
first-long s b none =
    let slices = (block-accepted s b none).slices in
    record {
      mask-long = length-take-le (2 ^ s.m) b.mask slices.mask-long;
      llr-long = length-take-le (2 ^ s.m) b.llr slices.llr-long;
    }

-- what is written of settings and a block that the decoder accepts is read as these settings and this block (of a block
-- that is longer than N, its first N elements), by every reader whose slices have room for N
pub read-written-in : (room : Room) (s : Settings) (b : Block) → block_number s b ≡ 0 → Roomy room (2 ^ s.m)
    → meaning_in room (tidy_text s b) ≡ block s (first_of (2 ^ s.m) b)
read-written-in room s b none roomy =
    let a = (block-accepted s b none).settings in
    read_whole room (tidy_text s b) (position_lines (values_at b) (2 ^ s.m) 0) s (first_of (2 ^ s.m) b)
    (omega (arith, tidy-length s b none)) (head-back s b none)
    (rw (le-leb 1 s.m a.m-some) (le-leb s.m largest_m a.m-le))
    (positions-back s b none) (first-number s b ∙ none)
    (held_whole room (2 ^ s.m) (first_of (2 ^ s.m) b) (first-long s b none) roomy)

-- so it means these settings and this block
pub read-written : (s : Settings) (b : Block) → block_number s b ≡ 0
    → meaning (tidy_text s b) ≡ block s (first_of (2 ^ s.m) b)
unfolding meaning
read-written s b none =
    let small = few-positions s b none in
    read-written-in largest_room s b none (record { mask-room = small; llr-room = small })

-- ---- the meaning of a text, written

-- a text's block has N elements and no more
first-whole : (s : Settings) (b : Block) → Fit s b → first_of (2 ^ s.m) b ≡ b
first-whole s b fit =
    let long = fit.long in
    ap₂ block_of (take_all (2 ^ s.m) b.mask (omega arith)) (take_all (2 ^ s.m) b.llr (omega arith))

pub fit-means : (s : Settings) (b : Block) → Fit s b → meaning (tidy_text s b) ≡ block s b
unfolding meaning
fit-means s b fit =
    let small = few-positions s b fit.number in
    read-written-in largest_room s b fit.number (record { mask-room = small; llr-room = small })
    ∙ ap (block s) (first-whole s b fit)

-- what is written of an accepted text's meaning has that meaning
pub tidy-means : (t : List ℕ) {s : Settings} {b : Block} → meaning t ≡ block s b → meaning (tidy_text s b) ≡ block s b
tidy-means t {s} {b} e = fit-means s b (rw e at (meaning-fit t))

-- two accepted texts are written as the same bytes exactly where they mean the same
pub written-alike : (t t' : List ℕ) {s s' : Settings} {b b' : Block} → meaning t ≡ block s b → meaning t' ≡ block s' b'
    → (tidy_text s b ≡ tidy_text s' b' → meaning t ≡ meaning t') ×
    (meaning t ≡ meaning t' → tidy_text s b ≡ tidy_text s' b')
written-alike t t' e e' =
    (λ same. e ∙ sym (tidy-means t e) ∙ ap meaning same ∙ tidy-means t' e' ∙ sym e', λ same. cc)

-- what is written, read and written again, is the same bytes
pub written-again : (t : List ℕ) {s s' : Settings} {b b' : Block} → meaning t ≡ block s b
    → meaning (tidy_text s b) ≡ block s' b' → tidy_text s' b' ≡ tidy_text s b
written-again t e again = cc (tidy-means t e)
