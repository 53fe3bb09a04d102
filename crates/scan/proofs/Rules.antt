-- The laws that the check tries at the goals of the readers: of digits, of a value, of a line and of a fixed text.
use Rattle.std.proofs.Common.{append-nil, take_all}
use Rattle.std.proofs.lemmas.Grind.{common_steps}
use Rattle.std.proofs.lemmas.List.{set-get_or}
use Rattle.std.proofs.lemmas.Int.{ints, to_z-of_z}
use Rattle.scan.specs.ScanLaws.{line-none, line-no-number, line-no-separator, line-one-more, number_size}
use Rattle.scan.specs.ScanLaws.{digits-more, digits-end, digits-full, one-more-digit, natural-fits, literal-prefix}
use Rattle.scan.specs.Stored.{stored-over, stored-none, stored-no-number, stored-no-separator, stored-one-more}

pub ruleset lines = (
  line-none,
  line-no-number,
  line-no-separator,
  line-one-more,
  stored-over,
  stored-none,
  stored-no-number,
  stored-no-separator,
  stored-one-more,
  number_size,
  append-nil,
  take_all,
  set-get_or,
  ints,
  to_z-of_z,
)

-- going on from the value and the text reached gives what all digits give; so no value has more than nine
pub ruleset number = (common_steps, digits-more, digits-end, digits-full, one-more-digit)

pub ruleset signed = (natural-fits, ints, to_z-of_z)

pub ruleset fixed = (common_steps, literal-prefix)
