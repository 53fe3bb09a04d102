-- The laws that the check tries at the goals of `read_positions` and `read`.
use Rattle.std.proofs.lemmas.Grind.{common_steps}
use Rattle.std.proofs.lemmas.List.{set-get_or}
use Rattle.std.proofs.lemmas.Int.{ints, to_z-of_z}
use Rattle.report_input.specs.InputLaws.{prefixed-empty, read-positions-next, read-positions-stop, read-positions-whole}
use Rattle.report_input.specs.InputLaws.{read-refused, meaning-long, meaning-sized}
use Rattle.report_input.specs.StoredPositions.{
  stored-positions-next,
  stored-none-stop,
  stored-none-end,
  stored-over-lent,
}

pub ruleset positions = (
  set-get_or,
  prefixed-empty,
  read-positions-next,
  read-positions-stop,
  read-positions-whole,
  stored-positions-next,
  stored-none-stop,
  stored-none-end,
  stored-over-lent,
  ints,
  to_z-of_z,
)

pub ruleset meanings = (common_steps, meaning-long, meaning-sized, read-refused)
