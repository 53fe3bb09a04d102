-- The law of criteria 2 and 4: where the operand is at most C they hold of the same workspaces, since the size at a
-- frozen position is C. (So a run under the one ends as a run under the other: `proofs/Endings.antt`.)
use Rattle.std.specs.Prelude.{ℕ, ◌≤◌, ◌≡◌, List, leb, ℤ}
use Rattle.std.proofs.Math.Path.{ap}
use Rattle.std.proofs.Common.{◌∙◌, le-leb}
use Rattle.polar.specs.MaskLaws.{frozen-passed}
use Rattle.criteria.specs.Criteria.{least_size, least_information_size}
use Rattle.settings.specs.declared.Settings.{Settings}
use Rattle.decoder.specs.Decoder.{soft_at}
use Rattle.decoder.specs.OutputLaws.{frozen-size-at}

-- in a workspace: criterion 4 doesn't look at a frozen position, and it passes criterion 2
pub least-sizes-same : (s : Settings) → s.operand ≤ s.ceiling → (mask : List ℕ) (n : ℕ) (w : List ℤ)
    → least_information_size n s.operand mask (soft_at s mask w) ≡ least_size n s.operand (soft_at s mask w)
least-sizes-same s within mask n w =
    frozen-passed n mask _ (λ i l frozen.
    ap (leb s.operand) (frozen-size-at s mask w i frozen) ∙ le-leb s.operand s.ceiling within)
