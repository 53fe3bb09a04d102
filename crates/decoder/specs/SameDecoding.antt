-- Two calls of the decoder with the same mask and LLRs, made perhaps on two machines: what it means that they decode
-- alike, whatever the memory held that each was lent to write. Definitions only.
use Rattle.std.specs.Prelude.{ℕ, ◌^◌, ◌≡◌, List, ℤ}
use Rattle.calls.specs.Bounds.{workspace_length}
use Rattle.calls.specs.LentMemory.{unless_refused, SameWritten}
use Rattle.settings.specs.declared.Settings.{Settings}
use Rattle.settings.specs.Slices.{Slices}
use Rattle.decoder.specs.Decoder.{call_number, decode_result, decode_slices}

-- the slices of both calls before and after, by the number of the calls: the four outputs are the same in their first N
-- elements, the workspace in its first 2 (m + 1) N, and the rest of each is its own. After a refusal no element is
-- written, and each slice is as it was
pub record SameSlices (number m : ℕ) (old old' new new' : Slices) : Type 0 where
  pub soft : SameWritten (unless_refused number (2 ^ m) 0) old.soft old'.soft new.soft new'.soft
  pub mark : SameWritten (unless_refused number (2 ^ m) 0) old.mark old'.mark new.mark new'.mark
  pub coded_soft : SameWritten (unless_refused number (2 ^ m) 0) old.coded_soft old'.coded_soft new.coded_soft
      new'.coded_soft
  pub coded_mark : SameWritten (unless_refused number (2 ^ m) 0) old.coded_mark old'.coded_mark new.coded_mark
      new'.coded_mark
  pub work : SameWritten (unless_refused number (workspace_length m) 0) old.work old'.work new.work new'.work

-- the same refusal number, or the same iteration and reason; and slices as above
pub record SameDecoding (s s' : Settings) (mask : List ℕ) (llr : List ℤ) (lent lent' : Slices) : Type 0 where
  pub answer : decode_result s mask llr lent ≡ decode_result s' mask llr lent'
  pub slices : SameSlices (call_number s mask llr lent) s.m lent lent' (decode_slices s mask llr lent)
      (decode_slices s' mask llr lent')
