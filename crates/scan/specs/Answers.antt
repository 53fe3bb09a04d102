-- For the contracts: what an answer says of the text that was read.
use Rattle.std.specs.Prelude.{ℕ, List, Option, Some, None}
use Rattle.std.specs.Borrow.{Bor}
use Rattle.scan.specs.Reading.{Reading, found, malformed}

module _ {A : Type 0} where
  -- what was found, and the text after it
  abbrev pub reading_of : Option (A × Bor (List ℕ)) → Reading A
  reading_of (Some p) = found p.0 p.1.now
  reading_of None = malformed

  -- the same, where only the text after it is handed back
  abbrev pub read_to : A → Option (Bor (List ℕ)) → Reading A
  read_to a (Some rest) = found a rest.now
  read_to a None = malformed
