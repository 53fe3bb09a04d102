-- For the contracts of functions that no user calls: what their answers say of the text that they read.
use Rattle.std.specs.Prelude.{ℕ, List, Result, Ok, Err}
use Rattle.std.specs.Borrow.{Bor}
use Rattle.calls.specs.declared.Refusal.{Refusal}
use Rattle.calls.specs.Numbers.{refusal_number}
use Rattle.radios.specs.declared.Radios.{Radios}
use Rattle.radio_list.specs.RadioList.{Entry, Checked, passed, failed, Listed, refused, listed}

-- a line that passes and the text after it, or what refuses it
abbrev pub checked_of : Result (Entry × Bor (List ℕ)) Refusal → Checked
checked_of (Ok p) = passed p.0 p.1.now
checked_of (Err r) = failed (refusal_number r)

-- all tallies, or what refuses the list
abbrev pub listed_of : Result Radios Refusal → Listed
listed_of (Ok radios) = listed radios.tallies
listed_of (Err r) = refused (refusal_number r)
