-- Laws of the iteration: the workspace keeps its length, all messages stay within the ceiling, and each step of both
-- sweeps is the one formula of Private over two rows.
use Rattle.std.specs.Prelude.{ℕ, zero, suc, ◌+◌, ◌-◌, ◌*◌, ◌^◌, ◌≤◌, ◌<◌, ◌≡◌, refl, List, ℤ, pos, nat_abs, length}
use Rattle.std.specs.Prelude.{get_or}
use Rattle.std.proofs.Common.{zero-le, ap, ◌∙◌, le_trans, le_refl, arith}
use Rattle.std.proofs.Math.Path.{fun_ext}
use Rattle.calls.specs.Bounds.{largest_m, largest_scale, workspace_length}
use Rattle.calls.specs.LentMemory.{overwrite, overwrite_from}
use Rattle.calls.specs.LentMemoryLaws.{length-overwrite, length-overwrite_from, overwrite_from-every, overwrite-at}
use Rattle.calls.specs.Signs.{flipped}
use Rattle.calls.specs.SignLaws.{size-flipped}
use Rattle.polar.specs.Mask.{Kind, information, frozen, kind_of, on_kind}
use Rattle.polar.specs.DigitLaws.{digit-cases}
use Rattle.message.specs.declared.MinSum.{MinSum}
use Rattle.message.specs.Message.{add, f}
use Rattle.message.specs.Rule.{RuleInRange}
use Rattle.message.specs.MessageLaws.{add-size, add_comm, f-size-second}
use Rattle.sweeps.specs.Workspace.{L, R, row, set_row}
use Rattle.sweeps.specs.WorkspaceLaws.{WorkspaceFits, length-set_row}
use Rattle.sweeps.specs.Private.{joined_at, row_step}
use Rattle.sweeps.specs.Iteration.{
  left_at,
  right_at,
  left_step,
  right_step,
  left_steps,
  right_steps,
  iteration,
  iterations,
  prior,
  start,
}

-- the settings are in range, the list has room for the workspace, and its messages lie within the ceiling
pub record WorkspaceValid (rule : MinSum) (m : ℕ) (w : List ℤ) : Type 0 where
  pub in-range : RuleInRange rule
  pub some : 1 ≤ m
  pub size : m ≤ largest_m
  pub room : WorkspaceFits m w
  pub within : (j : ℕ) → j < workspace_length m → nat_abs (get_or w j (pos 0)) ≤ rule.ceiling

-- ---- a new message lies within the ceiling, whatever it is made of

pub joined-size : (rule : MinSum) (t : ℕ) (x y : ℕ → ℤ) (p : ℕ) → rule.scale ≤ largest_scale
    → nat_abs (joined_at rule t x y p) ≤ rule.ceiling
joined-size rule t x y p h =
    let d = 2 ^ t in
    digit-cases t p
    (λ z. rw z
    (le_trans (f-size-second rule (x p) (add rule (x (p + d)) (y (p + d))) h) (add-size rule (x (p + d)) (y (p + d)))))
    (λ o. rw o (add-size rule (f rule (x (p - d)) (y (p - d))) (x p)))

-- (a step to the left by its own formula: its laws do not rest on `left-joined`)
left-size : (rule : MinSum) (t : ℕ) (l r : ℕ → ℤ) (p : ℕ) → rule.scale ≤ largest_scale
    → nat_abs (left_at rule t l r p) ≤ rule.ceiling
left-size rule t l r p h =
    digit-cases t p
    (λ z. rw z (le_trans (f-size-second rule _ _ h) (add-size rule _ _)))
    (λ o. rw o (add-size rule _ _))

-- ---- both sweeps take that step

pub left-joined : (rule : MinSum) (m s : ℕ) (w : List ℤ)
    → left_step rule m s w ≡ row_step rule m (m - suc s) s (suc s) (m + 1 + s) w
unfolding left_step row_step
left-joined rule m s w = refl

right-at : (rule : MinSum) (t : ℕ) (l r : ℕ → ℤ) (p : ℕ) → right_at rule t l r p ≡ joined_at rule t r l p
right-at rule t l r p =
    let d = 2 ^ t in
    digit-cases t p (λ z. rw z (ap (f rule (r p)) (add_comm rule (l (p + d)) (r (p + d))))) (λ o. rw o)

pub right-joined : (rule : MinSum) (m s : ℕ) (w : List ℤ)
    → right_step rule m s w ≡ row_step rule m (m - suc s) (m + 1 + suc s) (m + 1 + s) (suc s) w
unfolding right_step row_step
right-joined rule m s w =
    ap (λ (g : ℕ → ℤ). set_row m (m + 1 + suc s) g w) (fun_ext (right-at rule (m - suc s) (L m w (suc s)) (R m w s)))

-- ---- every step keeps the workspace valid

pub valid-written : {rule : MinSum} {m : ℕ} {w : List ℤ} → WorkspaceValid rule m w → (a n : ℕ) (g : ℕ → ℤ)
    → ((i : ℕ) → i < n → nat_abs (g i) ≤ rule.ceiling) → WorkspaceValid rule m (overwrite_from a n g w)
valid-written {rule} {m} {w} h a n g small = record {
  in-range = h.in-range;
  some = h.some;
  size = h.size;
  room = rw length-overwrite_from h.room;
  within = λ j l. overwrite_from-every (λ z. nat_abs z ≤ rule.ceiling) a n g w j (pos 0) small (h.within j l);
}

pub valid-step : {rule : MinSum} {m : ℕ} {w : List ℤ} (t k x y : ℕ) → WorkspaceValid rule m w
    → WorkspaceValid rule m (row_step rule m t k x y w)
unfolding row_step set_row
valid-step {rule} {m} {w} t k x y h =
    valid-written h (k * 2 ^ m) (2 ^ m) (joined_at rule t (row m w x) (row m w y))
    (λ i l. joined-size rule t (row m w x) (row m w y) i h.in-range.scale-le)

module _ {rule : MinSum} {m : ℕ} {w : List ℤ} (h : WorkspaceValid rule m w) where
  pub valid-left : (n : ℕ) → WorkspaceValid rule m (left_steps rule m n w)
  unfolding left_step set_row
  valid-left zero = h
  valid-left (suc n) =
      let before = left_steps rule m n w in
      let s = m - suc n in
      valid-written (valid-left n) (s * 2 ^ m) (2 ^ m) (left_at rule (m - suc s) (L m before (suc s)) (R m before s))
      (λ i l. left-size rule (m - suc s) (L m before (suc s)) (R m before s) i h.in-range.scale-le)

  pub valid-right : (n : ℕ) → WorkspaceValid rule m (right_steps rule m n w)
  valid-right zero = h
  valid-right (suc n) = rw right-joined (valid-step (m - suc n) (m + 1 + suc n) (m + 1 + n) (suc n) (valid-right n))

pub valid-iteration : {rule : MinSum} {m : ℕ} {w : List ℤ} → WorkspaceValid rule m w
    → WorkspaceValid rule m (iteration rule m w)
valid-iteration {rule} {m} h = valid-right (valid-left h m) m

pub valid-iterations : {rule : MinSum} {m : ℕ} {w : List ℤ} → WorkspaceValid rule m w → (t : ℕ)
    → WorkspaceValid rule m (iterations rule m t w)
valid-iterations h zero = h
valid-iterations h (suc t) = valid-iteration (valid-iterations h t)

-- ---- the length of the list

pub length-left : (rule : MinSum) (m n : ℕ) (w : List ℤ) → length (left_steps rule m n w) ≡ length w
unfolding left_step
length-left rule m zero w = refl
length-left rule m (suc n) w = length-set_row m (m - suc n) _ (left_steps rule m n w) ∙ length-left rule m n w

pub length-right : (rule : MinSum) (m n : ℕ) (w : List ℤ) → length (right_steps rule m n w) ≡ length w
unfolding right_step
length-right rule m zero w = refl
length-right rule m (suc n) w = length-set_row m (m + 1 + suc n) _ (right_steps rule m n w) ∙ length-right rule m n w

pub length-iterations : (rule : MinSum) (m t : ℕ) (w : List ℤ) → length (iterations rule m t w) ≡ length w
length-iterations rule m zero w = refl
length-iterations rule m (suc t) w =
    length-right rule m m (left_steps rule m m (iterations rule m t w)) ∙ length-left rule m m (iterations rule m t w)
    ∙ length-iterations rule m t w

pub length-start : (m C : ℕ) (mask : List ℕ) (llr old : List ℤ) → length (start m C mask llr old) ≡ length old
unfolding start
length-start m C mask llr old = simp (length-set_row, length-overwrite)

-- ---- the start is valid

prior-size : (C : ℕ) (mask : List ℕ) (i : ℕ) → nat_abs (prior C mask i) ≤ C
prior-size C mask i = go (kind_of (get_or mask i 0))
  where
    go : (k : Kind) → nat_abs (on_kind k (pos 0) (λ bit. flipped bit (pos C))) ≤ C
    go information = zero-le
    go (frozen bit) = rw (size-flipped bit (pos C)) (le_refl C)

pub valid-start : {rule : MinSum} {m : ℕ} (mask : List ℕ) (llr old : List ℤ) → RuleInRange rule → 1 ≤ m → m ≤ largest_m
    → WorkspaceFits m old
    → ((i : ℕ) → i < 2 ^ m → nat_abs (get_or llr i (pos 0)) ≤ rule.ceiling)
    → WorkspaceValid rule m (start m rule.ceiling mask llr old)
unfolding start set_row
valid-start {rule} {m} mask llr old in-range some size room small =
    let N = workspace_length m in
    let zeros : WorkspaceValid rule m (overwrite N (λ j. pos 0) old) = record {
      in-range = in-range;
      some = some;
      size = size;
      room = rw length-overwrite room;
      within = λ j l. rw (overwrite-at N (λ j. pos 0) old j (pos 0) l (omega arith)) zero-le;
    } in
    valid-written
    (valid-written zeros ((m + 1 + 0) * 2 ^ m) (2 ^ m) (prior rule.ceiling mask)
    (λ i l. prior-size rule.ceiling mask i))
    (m * 2 ^ m) (2 ^ m) (λ i. get_or llr i (pos 0)) small
