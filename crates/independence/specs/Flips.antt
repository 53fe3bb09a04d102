-- Two runs of the decoder, the second with its LLRs flipped by the block sent: every message of the second run is that
-- of the first, flipped by the bit that it stands for, after any number of iterations; and so are the soft outputs.
use Prim.Native.Nat.{ℕ, zero, suc, ◌+◌, ◌-◌, ◌*◌, ◌/◌, ◌^◌, ◌≤◌, ◌<◌, zero-le}
use Rattle.std.specs.Prelude.{◌≡◌, Bool, false, List, ℤ, pos, get_or}
use Rattle.std.proofs.Common.{sym, ◌∙◌, subst, le_refl, le-div_iff_mul-le, arith, pow_pos}
use Rattle.std.proofs.Math.Nat.{add-div_right, div-eq-sub-div}
use Rattle.std.proofs.Math.Decide.{ℕ_discrete, dec_lt}
use Rattle.calls.specs.LentMemory.{overwrite}
use Rattle.calls.specs.LentMemoryLaws.{length-overwrite, overwrite-at}
use Rattle.calls.specs.Signs.{flipped}
use Rattle.calls.specs.SignLaws.{flipped-zero}
use Rattle.calls.specs.Bits.{xor}
use Rattle.polar.specs.Mask.{is_information}
use Rattle.polar.specs.MaskLaws.{kind-flipped}
use Rattle.polar.specs.Code.{coded}
use Rattle.polar.specs.Columns.{digit, column_step, column}
use Rattle.calls.specs.BitLaws.{xor_comm, xor-cancel}
use Rattle.polar.specs.DigitLaws.{digit-cases, partner-lt}
use Rattle.polar.specs.TransformLaws.{column-coded}
use Rattle.message.specs.declared.MinSum.{MinSum}
use Rattle.message.specs.Message.{add, f}
use Rattle.message.specs.MessageLaws.{f-flipped, add-flipped}
use Rattle.calls.specs.Bounds.{workspace_length}
use Rattle.sweeps.specs.Workspace.{row, L, R, set_row, set_l, set_r}
use Rattle.sweeps.specs.WorkspaceLaws.{WorkspaceFits, row_lt, length-set_row, row-own, row-above, row_below}
use Rattle.sweeps.specs.Iteration.{
  left_at,
  right_at,
  left_step,
  right_step,
  left_steps,
  right_steps,
  iteration,
  iterations,
  prior,
  start,
}
use Rattle.settings.specs.declared.Settings.{Settings}
use Rattle.decoder.specs.Decoder.{rule_of, soft_at, coded_soft_at, after}
use Rattle.decoder.specs.OutputLaws.{soft-flipped}

-- ---- the relation of the two workspaces

-- a message of column s, in either direction, stands for the bit of column s at its position: w' holds the
-- messages of w, each flipped by its bit
pub record Flipped (m : ℕ) (u : ℕ → Bool) (w w' : List ℤ) : Type 0 where
  pub room : WorkspaceFits m w
  pub room' : WorkspaceFits m w'
  pub left : (s i : ℕ) → s ≤ m → i < 2 ^ m → L m w' s i ≡ flipped (column m u s i) (L m w s i)
  pub right : (s i : ℕ) → s ≤ m → i < 2 ^ m → R m w' s i ≡ flipped (column m u s i) (R m w s i)

-- any row but the one that is set
row_other : (m k : ℕ) (g : ℕ → ℤ) (w : List ℤ) (j i : ℕ) → (j ≡ k → ⊥) → i < 2 ^ m
    → row m (set_row m k g w) j i ≡ row m w j i
row_other m k g w j i other hi = by_order (dec_lt j k)
  where
    by_order : Dec (j < k) → row m (set_row m k g w) j i ≡ row m w j i
    by_order (yes above) = row-above m k g w j i above hi
    by_order (no l) = row_below m k g w j i (omega arith)

-- row k is set in both: an element of row j that was flipped by b still is, if the new one is where j is k
module _ (m k : ℕ) (g g' : ℕ → ℤ) (w w' : List ℤ) (room : WorkspaceFits m w) (room' : WorkspaceFits m w')
    (hk : k < 2 * (m + 1)) where
  row-flips : (j i : ℕ) (b : Bool) → i < 2 ^ m → (j ≡ k → g' i ≡ flipped b (g i))
      → row m w' j i ≡ flipped b (row m w j i)
      → row m (set_row m k g' w') j i ≡ flipped b (row m (set_row m k g w) j i)
  row-flips j i b hi new old = by_row (ℕ_discrete j k)
    where
      by_row : Dec (j ≡ k) → row m (set_row m k g' w') j i ≡ flipped b (row m (set_row m k g w) j i)
      by_row (yes e) = rw (e, row-own m k g' w' i room' hk hi, row-own m k g w i room hk hi) (new e)
      by_row (no other) = rw (row_other m k g' w' j i other hi, row_other m k g w j i other hi) old

-- column s, of L or of R, is set in both, flipped by the bits of column s
module _ (m : ℕ) (u : ℕ → Bool) (s : ℕ) (g g' : ℕ → ℤ) (hs : s ≤ m)
    (new : (i : ℕ) → i < 2 ^ m → g' i ≡ flipped (column m u s i) (g i))
    {w w' : List ℤ} (F : Flipped m u w w') where
  set_l-flips : Flipped m u (set_l m s g w) (set_l m s g' w')
  set_l-flips =
      let each = row-flips m s g g' w w' F.room F.room' (omega arith) in
      record {
        room = rw length-set_row F.room;
        room' = rw length-set_row F.room';
        left = λ j i hj hi. each j i (column m u j i) hi (λ e. rw e (new i hi)) (F.left j i hj hi);
        right = λ j i hj hi. each (m + 1 + j) i (column m u j i) hi (λ e. absurd (omega arith)) (F.right j i hj hi);
      }

  set_r-flips : Flipped m u (set_r m s g w) (set_r m s g' w')
  set_r-flips =
      let each = row-flips m (m + 1 + s) g g' w w' F.room F.room' (omega arith) in
      record {
        room = rw length-set_row F.room;
        room' = rw length-set_row F.room';
        left = λ j i hj hi. each j i (column m u j i) hi (λ e. absurd (omega arith)) (F.left j i hj hi);
        right = λ j i hj hi. each (m + 1 + j) i (column m u j i) hi
            (λ e. let same : j ≡ s = omega arith in rw same (new i hi)) (F.right j i hj hi);
      }

-- ---- the start

-- what the two runs are handed: u is 0 at the frozen positions, and the second LLRs are the first, flipped by the block
-- sent. The workspaces have room; what they held before may differ
pub record Runs (m : ℕ) (mask : List ℕ) (u : ℕ → Bool) (llr llr' old old' : List ℤ) : Type 0 where
  pub frozen : (i : ℕ) → i < 2 ^ m → is_information (get_or mask i 0) ≡ false → u i ≡ false
  pub sent : (i : ℕ) → i < 2 ^ m → get_or llr' i (pos 0) ≡ flipped (coded m u i) (get_or llr i (pos 0))
  pub room : WorkspaceFits m old
  pub room' : WorkspaceFits m old'

prior-flips : (C : ℕ) (mask : List ℕ) (i : ℕ) (b : Bool) → (is_information (get_or mask i 0) ≡ false → b ≡ false)
    → prior C mask i ≡ flipped b (prior C mask i)
prior-flips C mask i b frozen = kind-flipped _ _ _ (get_or mask i 0) b frozen (sym (flipped-zero b))

abbrev cleared : ℕ → List ℤ → List ℤ
cleared m old = overwrite (workspace_length m) (λ j. pos 0) old

row-cleared : (m k i : ℕ) (old : List ℤ) → WorkspaceFits m old → k < 2 * (m + 1) → i < 2 ^ m
    → row m (cleared m old) k i ≡ pos 0
row-cleared m k i old room hk hi =
    let within : k * 2 ^ m + i < workspace_length m = row_lt m k i hk hi in
    overwrite-at (workspace_length m) (λ j. pos 0) old (k * 2 ^ m + i) (pos 0) within (omega arith)

cleared-flips : (m : ℕ) (u : ℕ → Bool) (old old' : List ℤ) → WorkspaceFits m old → WorkspaceFits m old'
    → Flipped m u (cleared m old) (cleared m old')
cleared-flips m u old old' room room' =
    let each : (k i : ℕ) (b : Bool) → k < 2 * (m + 1) → i < 2 ^ m
    → row m (cleared m old') k i ≡ flipped b (row m (cleared m old) k i)
    = λ k i b hk hi. rw (row-cleared m k i old' room' hk hi, row-cleared m k i old room hk hi) (sym (flipped-zero b)) in
    record {
      room = rw length-overwrite room;
      room' = rw length-overwrite room';
      left = λ s i hs hi. each s i (column m u s i) (omega arith) hi;
      right = λ s i hs hi. each (m + 1 + s) i (column m u s i) (omega arith) hi;
    }

pub start-flips : (m C : ℕ) (mask : List ℕ) (u : ℕ → Bool) {llr llr' old old' : List ℤ}
    → Runs m mask u llr llr' old old'
    → Flipped m u (start m C mask llr old) (start m C mask llr' old')
unfolding start
start-flips m C mask u {llr} {llr'} {old} {old'} runs =
    set_l-flips m u m _ _ (le_refl m) (λ i hi. rw (column-coded m i u hi) (runs.sent i hi))
    (set_r-flips m u 0 _ _ (omega arith) (λ i hi. prior-flips C mask i (u i) (runs.frozen i hi))
    (cleared-flips m u old old' runs.room runs.room'))

-- ---- the steps

-- a step takes the positions in pairs, an upper one and its partner
pairs : (m t : ℕ) (P : ℕ → Type 0) → t < m
    → ((i : ℕ) → i < 2 ^ m → i + 2 ^ t < 2 ^ m → digit t i ≡ 0 → digit t (i + 2 ^ t) ≡ 1 → P i × P (i + 2 ^ t))
    → (p : ℕ) → p < 2 ^ m → P p
pairs m t P ht pair p hp =
    let partner : (i : ℕ) → digit t i ≡ 0 → digit t (i + 2 ^ t) ≡ 1 =
    λ i z. rw (add-div_right i (pow_pos t)) (omega arith) in
    digit-cases t p
    (λ z. (pair p hp (partner-lt m t p ht hp z) z (partner p z)).0)
    (λ o. let some : 1 ≤ p / 2 ^ t = omega arith in
    let far : 2 ^ t ≤ p = omega (arith, (le-div_iff_mul-le (pow_pos t)).0 some) in
    let back : p - 2 ^ t + 2 ^ t ≡ p = omega arith in
    let z : digit t (p - 2 ^ t) ≡ 0 = omega (arith, div-eq-sub-div (pow_pos t) far) in
    subst P back (pair (p - 2 ^ t) (omega arith) (rw back hp) z (partner (p - 2 ^ t) z)).1)

xor-ends : (a b : Bool) → xor (xor a b) a ≡ b
xor-ends a b = rw (xor_comm a b) (xor-cancel b a)

xor-again : (a b : Bool) → xor a (xor a b) ≡ b
xor-again a b = rw (xor_comm a (xor a b)) (xor-ends a b)

-- v are the bits of column s, so step t v are those of column s + 1; l and r are the messages that the step reads. Of a
-- pair i, j the four formulas come in the order L(s, i), R(s + 1, i), L(s, j), R(s + 1, j)
module _ (rule : MinSum) (m t : ℕ) (ht : t < m) (v : ℕ → Bool) (l l' r r' : ℕ → ℤ)
    (hl : (i : ℕ) → i < 2 ^ m → l' i ≡ flipped (column_step t v i) (l i))
    (hr : (i : ℕ) → i < 2 ^ m → r' i ≡ flipped (v i) (r i)) where
  formulas-flip : (p : ℕ) → p < 2 ^ m
      → (left_at rule t l' r' p ≡ flipped (v p) (left_at rule t l r p))
      × (right_at rule t l' r' p ≡ flipped (column_step t v p) (right_at rule t l r p))
  formulas-flip = pairs m t _ ht (λ i hi hj z o.
      let j : ℕ = i + 2 ^ t in
      let back : i + 2 ^ t - 2 ^ t ≡ i = omega arith in
      let a : Bool = v i in
      let b : Bool = v j in
      let li : l' i ≡ flipped (xor a b) (l i) = hl i hi ∙ rw z in
      let lj : l' j ≡ flipped b (l j) = hl j hj ∙ rw o in
      let sum : add rule (l' j) (r' j) ≡ flipped b (add rule (l j) (r j)) =
      rw (lj, hr j hj) (add-flipped rule b (l j) (r j)) in (
        (
          rw (z, li, sum, f-flipped rule (xor a b) b (l i) (add rule (l j) (r j)), xor-cancel a b),
          rw (z, hr i hi, sum) (f-flipped rule a b (r i) (add rule (l j) (r j))),
        ),
        (
          rw (o, back, li, hr i hi, lj, f-flipped rule (xor a b) a (l i) (r i), xor-ends a b)
              (add-flipped rule b (f rule (l i) (r i)) (l j)),
          rw (o, back, li, hr i hi, hr j hj, f-flipped rule a (xor a b) (r i) (l i), xor-again a b)
              (add-flipped rule b (f rule (r i) (l i)) (r j)),
        ),
      ))

module _ (rule : MinSum) (m : ℕ) (u : ℕ → Bool) where
  step-flips : (s : ℕ) {w w' : List ℤ} → s < m → Flipped m u w w'
      → Flipped m u (left_step rule m s w) (left_step rule m s w')
      × Flipped m u (right_step rule m s w) (right_step rule m s w')
  unfolding left_step right_step
  step-flips s {w} {w'} hs F =
      let each = formulas-flip rule m (m - suc s) (omega arith) (column m u s) (L m w (suc s)) (L m w' (suc s))
      (R m w s) (R m w' s)
      (λ i hi. F.left (suc s) i hs hi) (λ i hi. F.right s i (omega arith) hi) in (
        set_l-flips m u s _ _ (omega arith) (λ i hi. (each i hi).0) F,
        set_r-flips m u (suc s) _ _ hs (λ i hi. (each i hi).1) F,
      )

  pub left_step-flips : (s : ℕ) {w w' : List ℤ} → s < m → Flipped m u w w'
      → Flipped m u (left_step rule m s w) (left_step rule m s w')
  left_step-flips s hs F = (step-flips s hs F).0

  pub right_step-flips : (s : ℕ) {w w' : List ℤ} → s < m → Flipped m u w w'
      → Flipped m u (right_step rule m s w) (right_step rule m s w')
  right_step-flips s hs F = (step-flips s hs F).1

  pub left_steps-flips : (n : ℕ) {w w' : List ℤ} → n ≤ m → Flipped m u w w'
      → Flipped m u (left_steps rule m n w) (left_steps rule m n w')
  left_steps-flips zero hn F = F
  left_steps-flips (suc n) hn F = left_step-flips (m - suc n) (omega arith) (left_steps-flips n (omega arith) F)

  pub right_steps-flips : (n : ℕ) {w w' : List ℤ} → n ≤ m → Flipped m u w w'
      → Flipped m u (right_steps rule m n w) (right_steps rule m n w')
  right_steps-flips zero hn F = F
  right_steps-flips (suc n) hn F = right_step-flips n hn (right_steps-flips n (omega arith) F)

  pub iteration-flips : {w w' : List ℤ} → Flipped m u w w' → Flipped m u (iteration rule m w) (iteration rule m w')
  iteration-flips F = right_steps-flips m (le_refl m) (left_steps-flips m (le_refl m) F)

  pub iterations-flips : (t : ℕ) {w w' : List ℤ} → Flipped m u w w'
      → Flipped m u (iterations rule m t w) (iterations rule m t w')
  iterations-flips zero F = F
  iterations-flips (suc t) F = iteration-flips (iterations-flips t F)

-- ---- the decoder's workspace and its soft outputs, after any number of iterations

module _ (s : Settings) (mask : List ℕ) (u : ℕ → Bool) {llr llr' old old' : List ℤ}
    (runs : Runs s.m mask u llr llr' old old') (t : ℕ) where
  pub after-flips : Flipped s.m u (after s mask llr old t) (after s mask llr' old' t)
  unfolding after
  after-flips = iterations-flips (rule_of s) s.m u t (start-flips s.m s.ceiling mask u runs)

  pub soft-flips : (i : ℕ) → i < 2 ^ s.m
      → soft_at s mask (after s mask llr' old' t) i ≡ flipped (u i) (soft_at s mask (after s mask llr old t) i)
  soft-flips i hi =
      rw (after-flips.left 0 i zero-le hi, after-flips.right 0 i zero-le hi)
      (soft-flipped (rule_of s) (get_or mask i 0) (u i) _ _ (runs.frozen i hi))

  pub coded_soft-flips : (i : ℕ) → i < 2 ^ s.m
      → coded_soft_at s (after s mask llr' old' t) i
      ≡ flipped (coded s.m u i) (coded_soft_at s (after s mask llr old t) i)
  coded_soft-flips i hi =
      rw (
        ← column-coded s.m i u hi,
        after-flips.left s.m i (le_refl s.m) hi,
        after-flips.right s.m i (le_refl s.m) hi,
      )
      (add-flipped (rule_of s) (column s.m u s.m i) _ _)
