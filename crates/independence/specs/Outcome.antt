-- What the two runs of Flips come to: they end alike, each soft output of the second is that of the first with its sign
-- turned by its bit, and so are the marks.
use Prim.Native.Nat.{ℕ, zero, suc, ◌^◌, ◌<◌}
use Rattle.std.specs.Prelude.{◌≡◌, refl, Bool, true, false, List, ℤ, pos, negsuc}
use Rattle.std.proofs.Math.Path.{ap, fun_ext}
use Rattle.calls.specs.Signs.{flipped}
use Rattle.polar.specs.Code.{coded}
use Rattle.criteria.specs.Marks.{mark_of}
use Rattle.criteria.specs.CriteriaLaws.{holds-flipped}
use Rattle.settings.specs.declared.Settings.{Settings}
use Rattle.decoder.specs.Decoder.{soft_at, coded_soft_at, criterion_of, ending_of, after, ending, final}
use Rattle.independence.specs.Verdict.{verdict, flipped_mark}
use Rattle.independence.specs.Flips.{Runs, soft-flips, coded_soft-flips}

-- the mark of a value with its sign turned is the opposite mark
pub mark-flipped : (b : Bool) (z : ℤ) → mark_of (flipped b z) ≡ flipped_mark b (mark_of z)
mark-flipped false z = refl
mark-flipped true (pos zero) = refl
mark-flipped true (pos (suc n)) = refl
mark-flipped true (negsuc n) = refl

-- judged by its bit, the opposite mark fares as the mark does judged by 0
pub verdict-flipped : (b : Bool) (mark : ℕ) → verdict b (flipped_mark b mark) ≡ verdict false mark
verdict-flipped false mark = refl
verdict-flipped true zero = refl
verdict-flipped true (suc zero) = refl
verdict-flipped true (suc (suc zero)) = refl
verdict-flipped true (suc (suc (suc n))) = refl

module _ (s : Settings) (mask : List ℕ) (u : ℕ → Bool) {llr llr' old old' : List ℤ}
    (runs : Runs s.m mask u llr llr' old old') where
  pub ending-same : ending s mask llr' old' ≡ ending s mask llr old
  unfolding ending after
  ending-same =
      ap (λ (held : ℕ → Bool). ending_of held s.limit)
      (fun_ext
      (holds-flipped s.m u mask _ _ _ _ (soft-flips s mask u runs) (coded_soft-flips s mask u runs) (criterion_of s)))

  -- the soft outputs as they stand at the end
  pub final-soft : (i : ℕ) → i < 2 ^ s.m
      → soft_at s mask (final s mask llr' old') i ≡ flipped (u i) (soft_at s mask (final s mask llr old) i)
  final-soft i l = rw ending-same (soft-flips s mask u runs (ending s mask llr old).iteration i l)

  pub final-coded_soft : (i : ℕ) → i < 2 ^ s.m
      → coded_soft_at s (final s mask llr' old') i ≡ flipped (coded s.m u i) (coded_soft_at s (final s mask llr old) i)
  final-coded_soft i l = rw ending-same (coded_soft-flips s mask u runs (ending s mask llr old).iteration i l)
