-- How the code counts: the tally of one answer, which is added to the tally so far. A reader of the contract of
-- `decode` needs none of it.
use Rattle.std.specs.Prelude.{cond, eqb}
use Rattle.decoder.specs.Decoder.{Result, refused, ended}
use Rattle.tally.specs.declared.Tally.{Tally}

-- the tally of one block
abbrev pub single : Result → Tally
single (refused number) = record { blocks = 1; by_criterion = 0; by_limit = 0; refusals = 1; iterations = 0 }
single (ended iteration reason) =
    record {
      blocks = 1;
      by_criterion = cond (eqb reason 1) 1 0;
      by_limit = cond (eqb reason 2) 1 0;
      refusals = 0;
      iterations = iteration;
    }
