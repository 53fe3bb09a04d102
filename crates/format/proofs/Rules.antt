-- The laws that the check tries at the goals of `natural`, of `number`, of `copy`, and of `refused`.
use Rattle.std.proofs.Common.{drop-cons, length-append}
use Rattle.calls.specs.NumberLaws.{refusal-digits}
use Rattle.format.specs.DecimalLaws.{decimal-small, decimal-longer, shown-negative, shown-positive}
use Rattle.format.specs.WroteLaws.{wrote-length, writing-byte, writing-ends, writing-length}
use Rattle.format.specs.WritingLaws.{appended_then, appended-length, appended-wrote, room-after}
use Rattle.format.proofs.Values.{natural-held, sets-decimal}

pub ruleset written = (decimal-small, decimal-longer, sets-decimal, wrote-length)

pub ruleset numbers = (shown-negative, shown-positive, appended_then, appended-length)

pub ruleset copied = (writing-byte, writing-ends, writing-length, drop-cons)

pub ruleset refusals = (appended_then, room-after, appended-wrote, refusal-digits, natural-held, length-append)
