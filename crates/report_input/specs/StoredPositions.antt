-- The lines of positions up to their first fault.
use Rattle.std.specs.Prelude.{ℕ, zero, suc, ◌+◌, ◌-◌, ◌^◌, ◌<◌, ◌≤◌, ◌≡◌, refl, List, [], ℤ, length, set, Ok}
use Rattle.std.proofs.Common.{ap, ap₂, ◌∙◌, add-one, arith}
use Rattle.std.proofs.lemmas.List.Edits.{sets}
use Rattle.calls.specs.LentMemoryLaws.{written-sets}
use Rattle.settings.specs.declared.Settings.{Settings}
use Rattle.scan.specs.Reading.{Reading, found, malformed, bind, if_found}
use Rattle.scan.specs.ScanLaws.{bind-found}
use Rattle.report_input.specs.declared.Room.{Room}
use Rattle.report_input.specs.Input.{
  PositionInput,
  Block,
  block_of,
  above,
  read_position,
  read_positions,
  number_in,
  tested,
  block_over,
  InputRead,
}
use Rattle.report_input.specs.InputLaws.{accepted-block}

-- the mask values and LLRs of n lines from position p on that are stored: all of them, or those before the first fault
unfoldable pub positions_stored : ℕ → ℕ → List ℕ → Block
positions_stored zero p s = block_of [] []
positions_stored (suc n) p s =
    if_found (read_position p s) (block_of [] []) (λ r s. above r (positions_stored n (suc p) s))

-- a block stored one after another from element i on
abbrev pub stored_from : ℕ → Block → Block → Block
stored_from i b old = block_of (sets old.mask i b.mask) (sets old.llr i b.llr)

-- where i of n lines are stored: one more
pub stored-positions-next : (n i : ℕ) (s t mask : List ℕ) (llr : List ℤ) (r : PositionInput) → i < n
    → read_position i s ≡ found r t
    → stored_from (i + 1) (positions_stored (n - (i + 1)) (i + 1) t)
    (block_of (set mask i r.frozen) (set llr i r.llr))
    ≡ stored_from i (positions_stored (n - i) i s) (block_of mask llr)
unfolding positions_stored
stored-positions-next n i s t mask llr r h e =
    let left : n - i ≡ suc (n - suc i) = omega arith in rw (left, e, add-one i)

-- no line of the next position
pub stored-positions-stop : (n i : ℕ) (s : List ℕ) → i < n → read_position i s ≡ malformed
    → positions_stored (n - i) i s ≡ block_of [] []
unfolding positions_stored
stored-positions-stop n i s h e = let left : n - i ≡ suc (n - suc i) = omega arith in rw (left, e)

-- no line left
pub stored-positions-end : (n : ℕ) (s : List ℕ) → positions_stored (n - n) n s ≡ block_of [] []
unfolding positions_stored
stored-positions-end n s = let left : n - n ≡ 0 = omega arith in rw left

-- so nothing more is stored
module _ (n i : ℕ) (s mask : List ℕ) (llr : List ℤ) where
  pub stored-none-stop : i < n → read_position i s ≡ malformed
      → stored_from i (positions_stored (n - i) i s) (block_of mask llr) ≡ block_of mask llr
  stored-none-stop h e = rw (stored-positions-stop n i s h e)

  pub stored-none-end : n ≤ i → stored_from i (positions_stored (n - i) i s) (block_of mask llr) ≡ block_of mask llr
  unfolding positions_stored
  stored-none-end h = let left : n - i ≡ 0 = omega arith in rw left

-- at most n of n
stored-positions-short : (n p : ℕ) (s : List ℕ) →
    (length (positions_stored n p s).mask ≤ n) × (length (positions_stored n p s).llr ≤ n)
unfolding positions_stored
stored-positions-short zero p s = (omega arith, omega arith)
stored-positions-short (suc n) p s = first (read_position p s) (λ u. stored-positions-short n (suc p) u)
  where
    first : (R : Reading PositionInput)
        → ((u : List ℕ)
        → (length (positions_stored n (suc p) u).mask ≤ n) × (length (positions_stored n (suc p) u).llr ≤ n)) →
        let b = if_found R (block_of [] []) (λ r u. above r (positions_stored n (suc p) u)) in
        (length b.mask ≤ suc n) × (length b.llr ≤ suc n)
    first malformed short = (omega arith, omega arith)
    first (found r u) short = (omega (arith, (short u).0), omega (arith, (short u).1))

pub stored-positions-over : (n : ℕ) (s : List ℕ) (old : Block) → n ≤ length old.mask → n ≤ length old.llr
    → stored_from 0 (positions_stored n 0 s) old ≡ block_over (positions_stored n 0 s) old
stored-positions-over n s old mask-long llr-long =
    let b = positions_stored n 0 s in
    let short = stored-positions-short n 0 s in
    ap₂ block_of (written-sets b.mask old.mask (omega arith)) (written-sets b.llr old.llr (omega arith))

pub stored-over-lent : (n : ℕ) (s mask : List ℕ) (llr : List ℤ) → n ≤ length mask → n ≤ length llr
    → stored_from 0 (positions_stored n 0 s) (block_of mask llr)
    ≡ block_over (positions_stored n 0 s) (block_of mask llr)
stored-over-lent n s mask llr mask-long llr-long = stored-positions-over n s (block_of mask llr) mask-long llr-long

-- lines that were read are stored whole
pub stored-positions : (n p : ℕ) (s : List ℕ) (b : Block) (u : List ℕ) → read_positions n p s ≡ found b u
    → positions_stored n p s ≡ b
unfolding read_positions positions_stored
stored-positions zero p s b u e = cc
stored-positions (suc n) p s b u e =
    let (r, v, h, e₁) =
    bind-found (read_position p s) (λ r s. bind (read_positions n (suc p) s) (λ b s. found (above r b) s)) b u e in
    let (rest, w, g, e₂) = bind-found (read_positions n (suc p) v) (λ b s. found (above r b) s) b u e₁ in
    let same : above r rest ≡ b = cc in
    rw (h, stored-positions n (suc p) v rest w g) same

-- ---- what `read` answers and leaves

module _ (room : Room) where
  pub read-accepted : (s : Settings) (u : List ℕ) (n : ℕ) {old new : Block}
      → 0 ≡ number_in (tested room s (read_positions (2 ^ s.m) 0 u)) → n ≡ 2 ^ s.m
      → new ≡ block_over (positions_stored n 0 u) old
      → InputRead (tested room s (read_positions (2 ^ s.m) 0 u)) old new (Ok s)
  read-accepted s u n {old} none size stored =
      let whole = accepted-block room s (read_positions (2 ^ s.m) 0 u) none in
      let same = ap (λ (k : ℕ). positions_stored k 0 u) size
      ∙ stored-positions (2 ^ s.m) 0 u whole.b [] whole.read in
      rw whole.means (record { answer = refl; after_is = stored ∙ ap (λ (b : Block). block_over b old) same })
