-- The five slices that a call of the decoder is lent to write, as one record, and their lengths. Definitions only.
use Rattle.std.specs.Prelude.{ℕ, List, ℤ, length}
use Rattle.settings.specs.declared.Lengths.{Lengths}

pub record Slices : Type 0 where
  pub soft : List ℤ
  pub mark : List ℕ
  pub coded_soft : List ℤ
  pub coded_mark : List ℕ
  pub work : List ℤ

-- in the order in which the calls take them
abbrev pub slices : List ℤ → List ℕ → List ℤ → List ℕ → List ℤ → Slices
slices soft mark coded_soft coded_mark work =
    record { soft = soft; mark = mark; coded_soft = coded_soft; coded_mark = coded_mark; work = work }

abbrev pub lengths_of : Slices → Lengths
lengths_of l =
    record {
      soft = length l.soft;
      mark = length l.mark;
      coded_soft = length l.coded_soft;
      coded_mark = length l.coded_mark;
      work = length l.work;
    }
