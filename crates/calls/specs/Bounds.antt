-- Document 01's ranges: the largest values that are accepted, and the lengths that follow from them. Definitions only.
use Rattle.std.specs.Prelude.{ℕ, ◌+◌, ◌*◌, ◌^◌}

-- the largest m
abbrev pub largest_m : ℕ
largest_m = 10

-- the positions of the largest block, 1,024
abbrev pub most_positions : ℕ
most_positions = 2 ^ largest_m

-- how many elements the workspace of a block needs, 2 (m + 1) N; and that of the largest block, 22,528
abbrev pub workspace_length : ℕ → ℕ
workspace_length m = 2 * (m + 1) * 2 ^ m

abbrev pub most_workspace : ℕ
most_workspace = workspace_length largest_m

-- the largest ceiling of a message
abbrev pub largest_ceiling : ℕ
largest_ceiling = 2047

-- the largest scale, in sixteenths: no scaling
abbrev pub largest_scale : ℕ
largest_scale = 16
