-- Document 01, "Message and outcome": when a mark is right, wrong or tied, and the opposite mark. Definitions only.
use Rattle.std.specs.Prelude.{ℕ, zero, suc, Bool, true, false}

pub data Verdict : Type 0 where
  right wrong tied : Verdict

-- a mark beside the bit that it stands for: right where it is that bit, tied where it is 2, and wrong otherwise
abbrev pub verdict : Bool → ℕ → Verdict
verdict false zero = right
verdict true zero = wrong
verdict false (suc zero) = wrong
verdict true (suc zero) = right
verdict b (suc (suc zero)) = tied
verdict b (suc (suc (suc n))) = wrong

-- the opposite mark where a bit is 1; a tie stays
abbrev pub flipped_mark : Bool → ℕ → ℕ
flipped_mark false mark = mark
flipped_mark true zero = 1
flipped_mark true (suc zero) = 0
flipped_mark true (suc (suc n)) = suc (suc n)
