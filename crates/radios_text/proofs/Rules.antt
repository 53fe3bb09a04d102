-- The laws that the check tries at the goals of `summary`.
use Rattle.format.specs.TextLaws.{refusal-length}
use Rattle.format.specs.WroteLaws.{wrote-within}
use Rattle.radio_list.specs.RadioListLaws.{list-usable-or-full}

pub ruleset texts = (refusal-length, wrote-within, list-usable-or-full)
