-- Under criteria 2 and 4 a run has the same ending, where the operand is at most C: they hold of the same workspaces.
use Rattle.std.specs.Prelude.{ℕ, ◌^◌, ◌≤◌, ◌≡◌, Bool, List, ℤ}
use Rattle.std.proofs.Math.Path.{ap, fun_ext}
use Rattle.settings.specs.declared.Settings.{Settings}
use Rattle.decoder.specs.Decoder.{work_after, holds_after, ending_of, start_of, ending}
use Rattle.agreement.specs.SameDecoding.{under}
use Rattle.agreement.specs.LeastSizes.{least-sizes-same}

-- in a run from any workspace they hold after the same iterations, so that it has the same ending. The premise is of
-- `under 2 s`, and not of s, so that it rests on `under` alone
module _ (s : Settings) (within : (under 2 s).operand ≤ (under 2 s).ceiling) (mask : List ℕ) where
  holds-agrees : (w : List ℤ) → holds_after (under 4 s) mask w ≡ holds_after (under 2 s) mask w
  holds-agrees w = fun_ext (λ t. least-sizes-same (under 2 s) within mask (2 ^ s.m) (work_after (under 2 s) mask w t))

  pub ending-agrees : (llr work : List ℤ) → ending (under 4 s) mask llr work ≡ ending (under 2 s) mask llr work
  unfolding ending
  ending-agrees llr work =
      ap (λ (holds_at : ℕ → Bool). ending_of holds_at s.limit) (holds-agrees (start_of (under 2 s) mask llr work))
