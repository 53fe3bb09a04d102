-- A step in progress, whatever its shape: some messages of row k are new, and the other rows are as they were. This is
-- the law that all shapes share.
use Prim.Native.Nat.{ℕ, ◌+◌, ◌-◌, ◌*◌, ◌^◌, ◌≤◌, ◌<◌}
use mathlib.Core.Path.{◌≡◌, refl, sym, ap, ap₂, ◌∙◌}
use mathlib.Core.List.{List}
use native.Mathlib.Decide.{dec_lt, dec_le}
use native.Mathlib.Omega.{arith}
use lib.Arith.{digits_lt}
use lib.IntN.{ℤ, pos}
use lib.ListN.{length, get_or}
use lib.Seq.{ext_get_or}
use Rattle.calls.specs.LentMemory.{overwrite_from}
use Rattle.calls.specs.LentMemoryLaws.{
  length-overwrite_from,
  overwrite_from-at,
  overwrite_from-before,
  overwrite_from-behind,
}
use Rattle.polar.specs.DigitLaws.{digit-cases, partner-lt}
use Rattle.message.specs.declared.MinSum.{MinSum}
use Rattle.message.specs.Message.{add, f}
use Rattle.sweeps.specs.Workspace.{row, set_row}
use Rattle.sweeps.specs.WorkspaceLaws.{row_lt}
use Rattle.sweeps.specs.IterationLaws.{WorkspaceValid, valid-written, joined-size}
use Rattle.sweeps.specs.Private.{joined_at, row_step, Rows}

-- element e lies in no place of row k
abbrev Outside : ℕ → ℕ → ℕ → Type 0
Outside m k e = (i : ℕ) → i < 2 ^ m → e ≡ k * 2 ^ m + i → ⊥

-- what the step is to write at position p
abbrev pub wanted : MinSum → ℕ → ℕ → ℕ → ℕ → List ℤ → ℕ → ℤ
wanted rule m t x y old p = joined_at rule t (row m old x) (row m old y) p

-- the messages at the positions of row k that are done are new
pub record Filled (rule : MinSum) (m t k x y : ℕ) (done : ℕ → Type 0) (old w : List ℤ) : Type 0 where
  pub valid : WorkspaceValid rule m w
  pub long : length w ≡ length old
  pub kept : (e : ℕ) → Outside m k e → get_or w e (pos 0) ≡ get_or old e (pos 0)
  pub new : (j : ℕ) → j < 2 ^ m → done j → row m w k j ≡ wanted rule m t x y old j

pub filled_none : {rule : MinSum} {m t k x y : ℕ} {done : ℕ → Type 0} {old : List ℤ} → WorkspaceValid rule m old
    → ((j : ℕ) → done j → ⊥) → Filled rule m t k x y done old old
filled_none valid none =
    record { valid = valid; long = refl; kept = λ e o. refl; new = λ j l d. absurd (none j d) }

module _ {rule : MinSum} {m t k x y : ℕ} {done : ℕ → Type 0} {old w : List ℤ}
    (h : Filled rule m t k x y done old w) (rows : Rows m t k x y) where
  -- the rows that are read
  not_there : (j i q : ℕ) → (k ≡ j → ⊥) → i < 2 ^ m → q < 2 ^ m → Dec (j < k) → j * 2 ^ m + i ≡ k * 2 ^ m + q → ⊥
  not_there j i q ne l lq (yes b) e = omega (arith, digits_lt b l)
  not_there j i q ne l lq (no b) e = let behind : k < j = omega (arith, ne) in omega (arith, digits_lt behind lq)

  other_row : (j i : ℕ) → (k ≡ j → ⊥) → i < 2 ^ m → row m w j i ≡ row m old j i
  other_row j i ne l = h.kept (j * 2 ^ m + i) (λ q lq. not_there j i q ne l lq (dec_lt j k))

  -- the formula still gives what it gave at the start
  pub still-wanted : (p : ℕ) → p < 2 ^ m
      → joined_at rule t (row m w x) (row m w y) p ≡ wanted rule m t x y old p
  still-wanted p hp =
      let ex : (i : ℕ) → i < 2 ^ m → row m w x i ≡ row m old x i = λ i l. other_row x i rows.apart.0 l in
      let ey : (i : ℕ) → i < 2 ^ m → row m w y i ≡ row m old y i = λ i l. other_row y i rows.apart.1 l in
      digit-cases t p
      (λ z. let l = partner-lt m t p rows.distance hp z in
      rw z (ap₂ (f rule) (ex p hp) (ap₂ (add rule) (ex (p + 2 ^ t) l) (ey (p + 2 ^ t) l))))
      (λ o. let l : p - 2 ^ t < 2 ^ m = omega arith in
      rw o (ap₂ (add rule) (ap₂ (f rule) (ex (p - 2 ^ t) l) (ey (p - 2 ^ t) l)) (ex p hp)))

  -- the n messages from position q on are written
  module _ (q n : ℕ) (g : ℕ → ℤ) (fits : q + n ≤ 2 ^ m) where
    abbrev first : ℕ
    first = k * 2 ^ m + q

    abbrev written : List ℤ
    written = overwrite_from first n g w

    outside : (e : ℕ) → Outside m k e → Dec (e < first) → Dec (e < first + n)
        → get_or written e (pos 0) ≡ get_or w e (pos 0)
    outside e o (yes l) b = overwrite_from-before first n g w e (pos 0) l
    outside e o (no l) (yes b) = absurd (o (e - k * 2 ^ m) (omega arith) (omega arith))
    outside e o (no l) (no b) = overwrite_from-behind first n g w e (pos 0) (omega arith)

    module _ (next : ℕ → Type 0) (new : (i : ℕ) → i < n → g i ≡ wanted rule m t x y old (q + i))
        (below : (j : ℕ) → next j → j < q → done j) (behind : (j : ℕ) → next j → q + n ≤ j → done j) where
      position : (j : ℕ) → j < 2 ^ m → next j → Dec (q ≤ j) → Dec (j < q + n)
          → row m written k j ≡ wanted rule m t x y old j
      position j l d (yes low) (yes high) =
          let i : ℕ = j - q in
          let there : k * 2 ^ m + j ≡ first + i = omega arith in
          let same : q + i ≡ j = omega arith in
          ap (λ (e : ℕ). get_or written e (pos 0)) there
          ∙ overwrite_from-at first n g w i (pos 0) (omega arith)
          (omega (arith, row_lt m k j rows.written l, h.valid.room))
          ∙ new i (omega arith) ∙ ap (wanted rule m t x y old) same
      position j l d (no low) inside =
          overwrite_from-before first n g w (k * 2 ^ m + j) (pos 0) (omega arith)
          ∙ h.new j l (below j d (omega arith))
      position j l d (yes low) (no high) =
          overwrite_from-behind first n g w (k * 2 ^ m + j) (pos 0) (omega arith)
          ∙ h.new j l (behind j d (omega arith))

      -- these are done as well
      pub filled-run : {v : List ℤ} → v ≡ written → Filled rule m t k x y next old v
      filled-run e =
          rw e record {
            valid =
                valid-written h.valid first n g
                (λ i l. rw (new i l)
                (joined-size rule t (row m old x) (row m old y) (q + i) h.valid.in-range.scale-le));
            long = length-overwrite_from first n g w ∙ h.long;
            kept = λ e o. outside e o (dec_lt e first) (dec_lt e (first + n)) ∙ h.kept e o;
            new = λ j l d. position j l d (dec_le q j) (dec_lt j (q + n));
          }

  -- where every position is done the step is
  module _ (all : (j : ℕ) → j < 2 ^ m → done j) where
    abbrev g : ℕ → ℤ
    g = wanted rule m t x y old

    same-element : (e : ℕ) → e < length w → Dec (e < k * 2 ^ m) → Dec (e < k * 2 ^ m + 2 ^ m)
        → get_or w e (pos 0) ≡ get_or (overwrite_from (k * 2 ^ m) (2 ^ m) g old) e (pos 0)
    same-element e l (yes b) c =
        h.kept e (λ i q o. omega arith) ∙ sym (overwrite_from-before (k * 2 ^ m) (2 ^ m) g old e (pos 0) b)
    same-element e l (no b) (no c) =
        h.kept e (λ i q o. omega arith)
        ∙ sym (overwrite_from-behind (k * 2 ^ m) (2 ^ m) g old e (pos 0) (omega arith))
    same-element e l (no b) (yes c) =
        let i : ℕ = e - k * 2 ^ m in
        let there : e ≡ k * 2 ^ m + i = omega arith in
        ap (λ (j : ℕ). get_or w j (pos 0)) there ∙ h.new i (omega arith) (all i (omega arith))
        ∙ sym (overwrite_from-at (k * 2 ^ m) (2 ^ m) g old i (pos 0) (omega arith) (omega (arith, h.long)))
        ∙ ap (λ (j : ℕ). get_or (overwrite_from (k * 2 ^ m) (2 ^ m) g old) j (pos 0)) (sym there)

    pub filled-all : w ≡ row_step rule m t k x y old
    unfolding row_step set_row
    filled-all =
        ext_get_or (pos 0) w (overwrite_from (k * 2 ^ m) (2 ^ m) g old)
        (h.long ∙ sym (length-overwrite_from (k * 2 ^ m) (2 ^ m) g old))
        (λ e l. same-element e l (dec_lt e (k * 2 ^ m)) (dec_lt e (k * 2 ^ m + 2 ^ m)))
