-- What an accepted call of the coder or of the read-out tells of what it was handed.
use Rattle.std.specs.Prelude.{ℕ, ◌^◌, ◌≤◌, ◌<◌, ◌≡◌, true, List, leb, length, get_or}
use Rattle.std.proofs.Common.{leb-true}
use Rattle.calls.specs.Bounds.{largest_m}
use Rattle.calls.specs.EveryLaws.{every-at}
use Rattle.calls.specs.NumberLaws.{check-passed, first-refusal-passed, and-passed, between-passed}
use Rattle.polar.specs.declared.Code.{Code}
use Rattle.polar.specs.Mask.{mask_accepted}
use Rattle.polar.specs.Code.{information_count, are_bits, code_number, encode_number, read_out_number}

pub bits_at : (n : ℕ) (l : List ℕ) → are_bits n l ≡ true → (i : ℕ) → i < n → get_or l i 0 ≤ 1
bits_at n l h i q = leb-true (get_or l i 0) 1 (every-at n i (λ j. leb (get_or l j 0) 1) h q)

pub record CodeAccepted (code : Code) (mask : List ℕ) (room : ℕ) : Type 0 where
  pub some : 1 ≤ code.m
  pub size : code.m ≤ largest_m
  pub mask-long : 2 ^ code.m ≤ length mask
  pub room-long : 2 ^ code.m ≤ room
  pub values : mask_accepted (2 ^ code.m) mask ≡ true
  pub information : 1 ≤ information_count mask (2 ^ code.m)

pub code-accepted : (code : Code) (mask : List ℕ) (room : ℕ) → code_number code mask room ≡ 0
    → CodeAccepted code mask room
code-accepted code mask room h =
    let one = check-passed _ 0 _ h in
    let seven = check-passed _ 6 _ one.1 in
    let eight = check-passed _ 7 _ seven.1 in
    let nine = check-passed _ 8 _ eight.1 in
    let m = between-passed 1 largest_m code.m one.0 in
    let long = and-passed _ _ seven.0 in
    record {
      some = m.0;
      size = m.1;
      mask-long = leb-true _ _ long.0;
      room-long = leb-true _ _ long.1;
      values = eight.0;
      information = leb-true 1 _ nine.0;
    }

pub record MessageAccepted (message : List ℕ) (K : ℕ) : Type 0 where
  pub long : K ≤ length message
  pub bits : are_bits K message ≡ true

pub encode-accepted : (code : Code) (mask message : List ℕ) (room : ℕ) → encode_number code mask message room ≡ 0
    → CodeAccepted code mask room × MessageAccepted message (information_count mask (2 ^ code.m))
encode-accepted code mask message room h =
    let both = first-refusal-passed (code_number code mask room) _ h in
    let seven = check-passed _ 6 _ both.1 in
    let thirteen = check-passed _ 12 _ seven.1 in
    (code-accepted code mask room both.0, record { long = leb-true _ _ seven.0; bits = thirteen.0 })

pub read-out-accepted : (code : Code) (mask bytes : List ℕ) (room : ℕ) → read_out_number code mask bytes room ≡ 0
    → CodeAccepted code mask (length bytes) × (information_count mask (2 ^ code.m) ≤ room)
read-out-accepted code mask bytes room h =
    let both = first-refusal-passed (code_number code mask (length bytes)) _ h in
    (code-accepted code mask (length bytes) both.0, leb-true _ _ (check-passed _ 6 _ both.1).0)
