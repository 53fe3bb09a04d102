-- Coding twice: the number and the two blocks. Definitions only.
use Rattle.std.specs.Prelude.{ℕ, List, length}
use Rattle.calls.specs.Numbers.{first_refusal}
use Rattle.calls.specs.LentMemory.{unless_refused}
use Rattle.polar.specs.declared.Code.{Code}
use Rattle.polar.specs.Code.{encode_number, encode_block}

module _ (code : Code) (mask message block again : List ℕ) where
  -- the first call's number, or else that of the second, whose message is the first call's block
  abbrev pub twice_number : ℕ
  twice_number =
      first_refusal (encode_number code mask message (length block))
      (encode_number code mask (encode_block code mask message block) (length again))

  -- both blocks; after a refusal of either call both slices as they were
  abbrev pub twice_first : List ℕ
  twice_first = unless_refused twice_number (encode_block code mask message block) block

  abbrev pub twice_second : List ℕ
  twice_second = unless_refused twice_number (encode_block code mask (encode_block code mask message block) again) again
