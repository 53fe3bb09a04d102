-- Document 01, "Numbers by who causes them": the number of each refusal, and which of several is returned.
-- Definitions only.
use Rattle.std.specs.Prelude.{ℕ, zero, suc, Bool, true, false, ◌&&◌, leb, Result, Ok, Err}
use Rattle.calls.specs.declared.Refusal.{Refusal}
use Rattle.calls.specs.declared.Refusal.TheVariants.{
  BlockLength,
  Ceiling,
  Scale,
  Limit,
  Criterion,
  Operand,
  ShortSlice,
  MaskValue,
  NoInformation,
  LlrAboveCeiling,
  ChannelFactor,
  SampleNotFinite,
  MessageBit,
  MalformedText,
  UnusableTally,
  RadioNumber,
}

abbrev pub refusal_number : Refusal → ℕ
refusal_number BlockLength = 1
refusal_number Ceiling = 2
refusal_number Scale = 3
refusal_number Limit = 4
refusal_number Criterion = 5
refusal_number Operand = 6
refusal_number ShortSlice = 7
refusal_number MaskValue = 8
refusal_number NoInformation = 9
refusal_number LlrAboveCeiling = 10
refusal_number ChannelFactor = 11
refusal_number SampleNotFinite = 12
refusal_number MessageBit = 13
refusal_number MalformedText = 14
refusal_number UnusableTally = 15
refusal_number RadioNumber = 16

-- the number of an answer; 0, which is no refusal's number, stands for an accepted call
abbrev pub number_of : Result Unit Refusal → ℕ
number_of (Ok accepted) = 0
number_of (Err refusal) = refusal_number refusal

-- a test that refuses with a number where it fails; a chain of them gives the number of the first that fails, and 0
-- where all pass
abbrev pub check : Bool → ℕ → ℕ → ℕ
check true number next = next
check false number next = number

-- two groups of tests: the number of the first, or, where it passes, that of the second
abbrev pub first_refusal : ℕ → ℕ → ℕ
first_refusal zero next = next
first_refusal (suc number) next = suc number

-- from low to high, both included
abbrev pub between : ℕ → ℕ → ℕ → Bool
between low high n = leb low n && leb n high
