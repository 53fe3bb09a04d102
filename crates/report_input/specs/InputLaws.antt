-- Laws of the input: how its lines are read one by one, and what an accepted block is.
use Rattle.std.specs.Prelude.{ℕ, zero, suc, ◌+◌, ◌-◌, ◌^◌, ◌<◌, ◌≤◌, min, ◌≡◌, refl, Bool, cond, List, [], ◌∷◌, ◌++◌}
use Rattle.std.specs.Prelude.{leb, ltb, eqb, ℤ, pos, length, drop, take, set}
use Rattle.std.proofs.Common.{sym, ap, ap₂, ◌∙◌, append_assoc, append-nil, add-one, arith, lit<, le-leb, ltb-true}
use Rattle.std.proofs.Common.{ltb-false, drop_of_length-le, length-take, take-suc-set, get_or-take, drop-cons}
use Rattle.std.proofs.Common.{take-take, take_all}
use Rattle.std.proofs.Math.Bool.{true, false}
use Rattle.std.proofs.lemmas.Bool.{lt-leb}
use Rattle.calls.specs.Bounds.{largest_m}
use Rattle.calls.specs.declared.Refusal.{Refusal}
use Rattle.calls.specs.Numbers.{between, refusal_number}
use Rattle.calls.specs.NumberLaws.{refusal-positive}
use Rattle.settings.specs.declared.Settings.{Settings}
use Rattle.settings.specs.SettingsLaws.{accepted}
use Rattle.scan.specs.Reading.{Reading, found, malformed, bind}
use Rattle.scan.specs.Answers.{read_to}
use Rattle.std.specs.Borrow.{Bor}
use Rattle.std.specs.Prelude.{Option, Some, None, Ok, Err}
use Rattle.report_input.specs.Input.{
  longest_text,
  value_at,
  unsigned,
  mask_value,
  llr_value,
  setting_names,
  position_names,
  settings_of,
  PositionInput,
  Block,
  block_of,
  above,
  read_position,
  read_positions,
  head,
  Meaning,
  refused,
  block,
  number_in,
  block_number,
  largest_lengths,
  meaning_by,
  held_in,
  tested,
  sized,
  meaning_in,
  largest_room,
  meaning,
  block_over,
  InputRead,
}
use Rattle.scan.specs.Lines.{line, literal}
use Rattle.report_input.specs.declared.Room.{Room}

-- ---- one line

pub read-position-found : (p : ℕ) (zs : List ℤ) (s t : List ℕ) → line 3 s ≡ found (take 3 zs) t
    → read_position p s
    ≡ cond (eqb (unsigned (value_at zs 0)) p)
    (found (record { frozen = mask_value (value_at zs 1); llr = llr_value (value_at zs 2) }) t) malformed
unfolding read_position
read-position-found p zs s t e =
    rw (
      e,
      get_or-take 3 zs 0 (pos 0) (lit< tt),
      get_or-take 3 zs 1 (pos 0) (lit< tt),
      get_or-take 3 zs 2 (pos 0) (lit< tt),
    )

pub read-position-malformed : (p : ℕ) (s : List ℕ) → line 3 s ≡ malformed → read_position p s ≡ malformed
unfolding read_position
read-position-malformed p s e = rw e

pub head-found : (t second third behind : List ℕ) (zs : List ℤ) → literal setting_names t ≡ found tt second
    → line 6 second ≡ found (take 6 zs) third
    → literal position_names third ≡ found tt behind → head t ≡ found (settings_of zs) behind
unfolding head
head-found t second third behind zs one two three =
    rw (
      one,
      two,
      three,
      get_or-take 6 zs 0 (pos 0) (lit< tt),
      get_or-take 6 zs 1 (pos 0) (lit< tt),
      get_or-take 6 zs 2 (pos 0) (lit< tt),
      get_or-take 6 zs 3 (pos 0) (lit< tt),
      get_or-take 6 zs 4 (pos 0) (lit< tt),
      get_or-take 6 zs 5 (pos 0) (lit< tt),
    )

pub head_first : (t : List ℕ) → literal setting_names t ≡ malformed → head t ≡ malformed
unfolding head
head_first t one = rw one

pub head-second : (t second : List ℕ) → literal setting_names t ≡ found tt second → line 6 second ≡ malformed
    → head t ≡ malformed
unfolding head
head-second t second one two = rw (one, two)

pub head-third : (t second third : List ℕ) (zs : List ℤ) → literal setting_names t ≡ found tt second
    → line 6 second ≡ found zs third
    → literal position_names third ≡ malformed → head t ≡ malformed
unfolding head
head-third t second third zs one two three = rw (one, two, three)

-- ---- the lines of the positions

-- values read before, in front of a block still to be read
abbrev pub behind : List ℕ → List ℤ → Block → Block
behind mask llr b = block_of (mask ++ b.mask) (llr ++ b.llr)

abbrev pub prefixed : List ℕ → List ℤ → Reading Block → Reading Block
prefixed mask llr R = bind R (λ b s. found (behind mask llr b) s)

pub prefixed-empty : (R : Reading Block) → prefixed [] [] R ≡ R
prefixed-empty malformed = refl
prefixed-empty (found b s) = refl

prefixed-position : (mask : List ℕ) (llr : List ℤ) (r : PositionInput) (R : Reading Block)
    → prefixed mask llr (bind R (λ b s. found (above r b) s))
    ≡ prefixed (mask ++ (r.frozen ∷ [])) (llr ++ (r.llr ∷ [])) R
prefixed-position mask llr r malformed = refl
prefixed-position mask llr r (found b s) =
    rw (append_assoc mask (r.frozen ∷ []) b.mask, append_assoc llr (r.llr ∷ []) b.llr)

-- where i of n lines are read: one more
pub read-positions-next : (n i : ℕ) (mask : List ℕ) (llr : List ℤ) (s t : List ℕ) (r : PositionInput) → i < n
    → n ≤ length mask → n ≤ length llr → read_position i s ≡ found r t
    → prefixed (take i mask) (take i llr) (read_positions (n - i) i s)
    ≡ prefixed (take (i + 1) (set mask i r.frozen)) (take (i + 1) (set llr i r.llr))
    (read_positions (n - (i + 1)) (i + 1) t)
unfolding read_positions
read-positions-next n i mask llr s t r h mask-long llr-long e =
    let left : n - i ≡ suc (n - suc i) = omega arith in
    rw (left, e, add-one i, take-suc-set mask i r.frozen (omega arith), take-suc-set llr i r.llr (omega arith))
    (prefixed-position (take i mask) (take i llr) r (read_positions (n - suc i) (suc i) t))

-- no line of the next position
pub read-positions-stop : (n i : ℕ) (mask : List ℕ) (llr : List ℤ) (s : List ℕ) → i < n → read_position i s ≡ malformed
    → prefixed mask llr (read_positions (n - i) i s) ≡ malformed
unfolding read_positions
read-positions-stop n i mask llr s h e = let left : n - i ≡ suc (n - suc i) = omega arith in rw (left, e)

-- no line left
pub read-positions-end : (n : ℕ) (mask : List ℕ) (llr : List ℤ) (s : List ℕ)
    → prefixed mask llr (read_positions (n - n) n s) ≡ found (block_of mask llr) s
unfolding read_positions
read-positions-end n mask llr s = let left : n - n ≡ 0 = omega arith in rw (left, append-nil mask, append-nil llr)

pub read-positions-whole : (n i : ℕ) (mask : List ℕ) (llr : List ℤ) (s : List ℕ) → n ≤ i → length mask ≤ i
    → length llr ≤ i
    → prefixed (take i mask) (take i llr) (read_positions (n - i) i s) ≡ found (block_of mask llr) s
unfolding read_positions
read-positions-whole n i mask llr s h mask-long llr-long =
    let left : n - i ≡ 0 = omega arith in
    rw (left, take_all i mask mask-long, take_all i llr llr-long, append-nil mask, append-nil llr)

-- ---- n lines give n mask values and n LLRs

module _ {A : Type 0} where
  abbrev pub Each : (A → Type 0) → Reading A → Type 0
  Each P (found a s) = P a
  Each P malformed = Unit

pub record Long (n : ℕ) (b : Block) : Type 0 where
  pub mask-long : length b.mask ≡ n
  pub llr-long : length b.llr ≡ n

pub read-positions-long : (n p : ℕ) (s : List ℕ) → Each (Long n) (read_positions n p s)
unfolding read_positions
read-positions-long zero p s = record { mask-long = refl; llr-long = refl }
read-positions-long (suc n) p s = first (read_position p s) (λ s. read-positions-long n (suc p) s)
  where
    more : (r : PositionInput) (R : Reading Block) → Each (Long n) R
        → Each (Long (suc n)) (bind R (λ b s. found (above r b) s))
    more r malformed h = tt
    more r (found b s) h = record { mask-long = ap suc h.mask-long; llr-long = ap suc h.llr-long }

    first : (R : Reading PositionInput) → ((s : List ℕ) → Each (Long n) (read_positions n (suc p) s))
        → Each (Long (suc n)) (bind R (λ r s. bind (read_positions n (suc p) s) (λ b s. found (above r b) s)))
    first malformed h = tt
    first (found r s) h = more r (read_positions n (suc p) s) (h s)

-- ---- a block that is accepted

pub record Fit (s : Settings) (b : Block) : Type 0 where
  pub number : block_number s b ≡ 0
  pub long : Long (2 ^ s.m) b

abbrev pub Means : Meaning → Type 0
Means (refused number) = Unit
Means (block s b) = Fit s b

-- ---- a block in the room that it has

-- the first n elements, as far as there is room for k
pub take-smaller : {A : Type 0} (n k : ℕ) (l : List A) → take (min n k) l ≡ take k (take n l)
take-smaller n k l = split (ltb n k) refl
  where
    split : (t : Bool) → ltb n k ≡ t → take (min n k) l ≡ take k (take n l)
    split true e =
        let h : n < k = ltb-true n k e in
        let least : min n k ≡ n = omega arith in
        rw least (sym (take_all k (take n l) (omega (arith, length-take n l))))
    split false e =
        let h : k ≤ n = ltb-false n k e in
        let least : min n k ≡ k = omega arith in
        rw least (sym (take-take k n l h))

-- room for all of a block
pub record Roomy (room : Room) (n : ℕ) : Type 0 where
  pub mask-room : n ≤ room.mask
  pub llr-room : n ≤ room.llr

pub held_whole : (room : Room) (n : ℕ) (b : Block) → Long n b → Roomy room n → held_in room b ≡ b
held_whole room n b long roomy =
    ap₂ block_of
    (take_all room.mask b.mask (omega (arith, long.mask-long, roomy.mask-room)))
    (take_all room.llr b.llr (omega (arith, long.llr-long, roomy.llr-room)))

-- an accepted block has room
pub accepted-room : (room : Room) (s : Settings) (b : Block) → block_number s (held_in room b) ≡ 0
    → Roomy room (2 ^ s.m)
accepted-room room s b e =
    let held = held_in room b in
    let long = (accepted s held.mask held.llr largest_lengths e).slices in
    record {
      mask-room = omega (arith, long.mask-long, length-take room.mask b.mask);
      llr-room = omega (arith, long.llr-long, length-take room.llr b.llr);
    }

module _ (room : Room) where
  meaning-by : (n : ℕ) (s : Settings) (b : Block) → block_number s (held_in room b) ≡ n → Long (2 ^ s.m) b
      → Means (meaning_by n s b)
  meaning-by zero s b e long =
      let whole = held_whole room (2 ^ s.m) b long (accepted-room room s b e) in
      record { number = sym (ap (block_number s) whole) ∙ e; long = long }
  meaning-by (suc n) s b e long = tt

  tested-fit : (s : Settings) (R : Reading Block) → Each (Long (2 ^ s.m)) R → Means (tested room s R)
  tested-fit s malformed long = tt
  tested-fit s (found b []) long = meaning-by (block_number s (held_in room b)) s b refl long
  tested-fit s (found b (x ∷ more)) long = tt

  sized-fit : (R : Reading Settings) → Means (sized room R)
  sized-fit malformed = tt
  sized-fit (found s t) = either (between 1 largest_m s.m)
    where
      either : (ok : Bool) → Means (cond ok (tested room s (read_positions (2 ^ s.m) 0 t)) (refused 1))
      either true = tested-fit s (read_positions (2 ^ s.m) 0 t) (read-positions-long (2 ^ s.m) 0 t)
      either false = tt

  -- the meaning of a text is a refusal, or a block that the decoder accepts
  pub meaning-in-fit : (t : List ℕ) → Means (meaning_in room t)
  unfolding meaning_in
  meaning-in-fit t = either (leb (length t) longest_text)
    where
      either : (ok : Bool) → Means (cond ok (sized room (head t)) (refused 14))
      either true = sized-fit (head t)
      either false = tt

pub meaning-fit : (t : List ℕ) → Means (meaning t)
unfolding meaning
meaning-fit t = meaning-in-fit largest_room t

-- ---- the number of the lines of the positions

pub number-in : (n : ℕ) (s : Settings) (b : Block) → number_in (meaning_by n s b) ≡ n
number-in zero s b = refl
number-in (suc n) s b = refl

pub refused-block : (r : Refusal) (means : Meaning) → refusal_number r ≡ number_in means
    → means ≡ refused (refusal_number r)
refused-block r (refused number) e = ap refused (sym e)
refused-block r (block s b) e = absurd (refusal-positive r (sym e))

-- where no number applies, the lines were read to the end of the text, and the block has room
pub record Whole (room : Room) (s : Settings) (R : Reading Block) : Type 0 where
  pub b : Block
  pub read : R ≡ found b []
  pub means : tested room s R ≡ block s b
  pub roomy : Roomy room (2 ^ s.m)

module _ (room : Room) where
  pub lines-malformed : (s : Settings) (R : Reading Block) → R ≡ malformed → 14 ≡ number_in (tested room s R)
  lines-malformed s R e = rw e

  -- something follows the last line
  pub lines-followed : (s : Settings) (R : Reading Block) (b : Block) (end : ℕ) (t : List ℕ)
      → R ≡ found b (drop end t) → end < length t
      → 14 ≡ number_in (tested room s R)
  lines-followed s R b end t e h = rw (e, drop-cons t end 0 h)

  pub lines-number : (s : Settings) (R : Reading Block) (b : Block) (end : ℕ) (t : List ℕ)
      → R ≡ found b (drop end t) → length t ≤ end
      → block_number s (held_in room b) ≡ number_in (tested room s R)
  lines-number s R b end t e h =
      rw (e, drop_of_length-le t h) (sym (number-in (block_number s (held_in room b)) s b))

  -- nothing follows the last line: as much of the block as there is room for decides
  pub lines_ended : (s : Settings) (R : Reading Block) (n : ℕ) (mask : List ℕ) (llr : List ℤ)
      → R ≡ found (block_of mask llr) [] → length mask ≤ n → length llr ≤ n
      → block_number s (block_of (take (min n room.mask) mask) (take (min n room.llr) llr))
      ≡ number_in (tested room s R)
  lines_ended s R n mask llr e mask-long llr-long =
      rw (e, take-smaller n room.mask mask, take-smaller n room.llr llr)
      (rw (take_all n mask mask-long, take_all n llr llr-long)
      (sym (number-in (block_number s (held_in room (block_of mask llr))) s (block_of mask llr))))

  pub accepted-block : (s : Settings) (R : Reading Block) → 0 ≡ number_in (tested room s R) → Whole room s R
  accepted-block s malformed e = absurd (omega arith)
  accepted-block s (found b (x ∷ more)) e = absurd (omega arith)
  accepted-block s (found b []) e =
      let number = block_number s (held_in room b) in
      let zero_number : number ≡ 0 = sym (number-in number s b) ∙ sym e in
      record { b = b; read = refl; means = rw zero_number; roomy = accepted-room room s b zero_number }

-- ---- what `read` answers and leaves

pub read-refused : {old : Block} {means : Meaning} (r : Refusal) → means ≡ refused (refusal_number r)
    → InputRead means old old (Err r)
read-refused r e = rw e (record { answer = refl; after_is = refl })

module _ (room : Room) where
  pub sized-refused : (s : Settings) (t : List ℕ) → between 1 largest_m s.m ≡ false
      → sized room (found s t) ≡ refused 1
  sized-refused s t e = rw e

  pub sized-tested : (s : Settings) (t : List ℕ) → between 1 largest_m s.m ≡ true
      → sized room (found s t) ≡ tested room s (read_positions (2 ^ s.m) 0 t)
  sized-tested s t e = rw e

  -- where no number applies, the lines are read a second time as they were the first
  pub read-again : (s : Settings) (u : List ℕ) (b : Block) (rest : Option (Bor (List ℕ))) {old new : Block} →
      let R = read_positions (2 ^ s.m) 0 u in
      0 ≡ number_in (tested room s R) → R ≡ read_to b rest → new ≡ block_over b old
      → InputRead (tested room s R) old new (Ok s)
  read-again s u b (Some rest) {old} none again stored =
      let whole = accepted-block room s (read_positions (2 ^ s.m) 0 u) none in
      let same : whole.b ≡ b = cc (whole.read, again) in
      rw whole.means (record { answer = refl; after_is = rw same stored })
  read-again s u b None none again stored =
      let whole = accepted-block room s (read_positions (2 ^ s.m) 0 u) none in
      cc (whole.read, again)

  pub meaning-long : (t : List ℕ) → longest_text < length t → meaning_in room t ≡ refused 14
  unfolding meaning_in
  meaning-long t h = rw (lt-leb (length t) longest_text h)

  pub meaning-sized : (t : List ℕ) → length t ≤ longest_text → meaning_in room t ≡ sized room (head t)
  unfolding meaning_in
  meaning-sized t h = rw (le-leb (length t) longest_text h)
