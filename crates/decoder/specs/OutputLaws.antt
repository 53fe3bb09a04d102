-- Laws of the outputs: the size of a soft output, what it is at either kind of position, how a turned sign comes out of
-- it, and slices that take the outputs of a workspace.
use Rattle.std.specs.Prelude.{ℕ, zero, suc, ◌^◌, ◌≤◌, ◌<◌, ◌≡◌, refl, Bool, true, false, List, ℤ, pos, nat_abs, length}
use Rattle.std.specs.Prelude.{get_or}
use Rattle.std.proofs.Common.{sym, ap, subst, ◌∙◌, le_refl, arith}
use Rattle.calls.specs.LentMemoryLaws.{length-overwrite, overwrite-at, overwrite-twice}
use Rattle.calls.specs.Signs.{flipped}
use Rattle.calls.specs.SignLaws.{size-flipped}
use Rattle.polar.specs.Mask.{is_information, frozen_bit}
use Rattle.polar.specs.MaskLaws.{kind-information, kind-frozen, kind-either, kind-flipped, frozen-bit-zero}
use Rattle.message.specs.declared.MinSum.{MinSum}
use Rattle.message.specs.Message.{add}
use Rattle.message.specs.MessageLaws.{add-size, add-flipped}
use Rattle.criteria.specs.Marks.{mark_of}
use Rattle.settings.specs.declared.Settings.{Settings}
use Rattle.settings.specs.declared.Lengths.{Lengths}
use Rattle.settings.specs.Slices.{Slices, lengths_of}
use Rattle.settings.specs.SlicesLaws.{OutputsFit, slices-same}
use Rattle.decoder.specs.Decoder.{soft_of, soft_at, mark_at, coded_soft_at, coded_mark_at, outputs_of}

-- ---- a soft output

module _ (rule : MinSum) (byte : ℕ) (left right : ℤ) where
  -- at an information position it is the sum, at a frozen one C with the sign of the frozen bit
  pub soft-information : is_information byte ≡ true → soft_of rule byte left right ≡ add rule left right
  soft-information = kind-information _ _ byte

  pub soft-frozen : is_information byte ≡ false
      → soft_of rule byte left right ≡ flipped (frozen_bit byte) (pos rule.ceiling)
  soft-frozen = kind-frozen _ _ byte

  pub soft-size : nat_abs (soft_of rule byte left right) ≤ rule.ceiling
  soft-size =
      kind-either _ _ (λ (z : ℤ). nat_abs z ≤ rule.ceiling) (add-size rule left right)
      (λ bit. rw (size-flipped bit (pos rule.ceiling)) (le_refl rule.ceiling)) byte

-- the sign of both directions comes out of it; at a frozen position no sign is turned
pub soft-flipped : (rule : MinSum) (byte : ℕ) (b : Bool) (left right : ℤ) → (is_information byte ≡ false → b ≡ false)
    → soft_of rule byte (flipped b left) (flipped b right) ≡ flipped b (soft_of rule byte left right)
soft-flipped rule byte b left right frozen = kind-flipped _ _ _ byte b frozen (add-flipped rule b left right)

-- ---- a frozen position, whatever the workspace holds: its soft output is C, so it is never tied and never marked 1

pub mark-positive : (n : ℕ) → 1 ≤ n → mark_of (pos n) ≡ 0
mark-positive zero some = absurd (omega arith)
mark-positive (suc n) some = refl

module _ (s : Settings) (mask : List ℕ) (w : List ℤ) (i : ℕ) (frozen : is_information (get_or mask i 0) ≡ false) where
  certain : soft_at s mask w i ≡ flipped (frozen_bit (get_or mask i 0)) (pos s.ceiling)
  certain = kind-frozen _ _ (get_or mask i 0) frozen

  pub frozen-size-at : nat_abs (soft_at s mask w i) ≡ s.ceiling
  frozen-size-at =
      ap nat_abs (kind-frozen _ _ (get_or mask i 0) frozen)
      ∙ size-flipped (frozen_bit (get_or mask i 0)) (pos s.ceiling)

  pub frozen-soft-at : soft_at s mask w i ≡ pos s.ceiling
  frozen-soft-at = kind-frozen _ _ (get_or mask i 0) frozen ∙ rw (frozen-bit-zero (get_or mask i 0))

  pub frozen-mark-at : 1 ≤ s.ceiling → mark_at s mask w i ≡ 0
  frozen-mark-at some =
      let soft : soft_at s mask w i ≡ pos s.ceiling =
      kind-frozen _ _ (get_or mask i 0) frozen ∙ rw (frozen-bit-zero (get_or mask i 0)) in
      ap mark_of soft ∙ mark-positive s.ceiling some

-- ---- the outputs of a workspace

module _ (s : Settings) (mask : List ℕ) where
  -- they take the place of those of another
  pub outputs-again : (w v : List ℤ) (old : Slices)
      → outputs_of s mask w (outputs_of s mask v old) ≡ outputs_of s mask w old
  outputs-again w v old =
      slices-same (overwrite-twice (2 ^ s.m) _ _ old.soft) (overwrite-twice (2 ^ s.m) _ _ old.mark)
      (overwrite-twice (2 ^ s.m) _ _ old.coded_soft) (overwrite-twice (2 ^ s.m) _ _ old.coded_mark) refl

  -- the mark slice then holds the marks of the workspace, as `step` asks for those of the iteration before
  pub outputs-marks : (w : List ℤ) (old : Slices) → OutputsFit (2 ^ s.m) old → (i : ℕ) → i < 2 ^ s.m
      → get_or (outputs_of s mask w old).mark i 0 ≡ mark_at s mask w i
  outputs-marks w old fits i l = overwrite-at (2 ^ s.m) (mark_at s mask w) old.mark i 0 l (omega (arith, fits.mark))

  -- every length stays
  pub outputs-lengths : (w : List ℤ) (old : Slices) → length w ≡ length old.work
      → lengths_of (outputs_of s mask w old) ≡ lengths_of old
  outputs-lengths w old same i =
      record {
        soft = length-overwrite (2 ^ s.m) (soft_at s mask w) old.soft i;
        mark = length-overwrite (2 ^ s.m) (mark_at s mask w) old.mark i;
        coded_soft = length-overwrite (2 ^ s.m) (coded_soft_at s w) old.coded_soft i;
        coded_mark = length-overwrite (2 ^ s.m) (coded_mark_at s w) old.coded_mark i;
        work = same i;
      }

pub fit_same : {N : ℕ} {a b : Slices} → lengths_of b ≡ lengths_of a → OutputsFit N a → OutputsFit N b
fit_same {N} {a} {b} same h = record {
  soft = subst (λ (l : Lengths). N ≤ l.soft) (sym same) h.soft;
  mark = subst (λ (l : Lengths). N ≤ l.mark) (sym same) h.mark;
  coded_soft = subst (λ (l : Lengths). N ≤ l.coded_soft) (sym same) h.coded_soft;
  coded_mark = subst (λ (l : Lengths). N ≤ l.coded_mark) (sym same) h.coded_mark;
}
