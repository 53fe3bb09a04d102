-- The laws that the check tries at the goals of `read_lines`. The lines that are left, after the tallies stored so far,
-- mean what all lines mean; and each line that passes leaves fewer radios that may come.
use Rattle.radio_list.specs.RadioListLaws.{lines-done, lines-refused, lines-go-on}

pub ruleset lines = (lines-done, lines-refused, lines-go-on)
