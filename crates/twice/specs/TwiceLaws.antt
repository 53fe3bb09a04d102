-- Laws of coding twice: the second call is refused only for a short slice, and where every position is an information
-- position the message comes back.
use Rattle.std.specs.Prelude.{ℕ, zero, suc, ◌^◌, ◌<◌, ◌≡◌, refl, true, List, leb, length, get_or}
use Rattle.std.proofs.Common.{sym, ◌∙◌, leb-true}
use Rattle.calls.specs.declared.Refusal.{Refusal}
use Rattle.calls.specs.Numbers.{refusal_number, check, first_refusal}
use Rattle.calls.specs.NumberLaws.{check-passed, first-refusal-passed, refused-keeps}
use Rattle.calls.specs.LentMemory.{overwrite}
use Rattle.polar.specs.declared.Code.{Code}
use Rattle.polar.specs.Mask.{is_information}
use Rattle.polar.specs.Code.{encode_number, encode_block}
use Rattle.polar.proofs.CoderLaws.{encode-again, encode-twice}
use Rattle.twice.specs.Twice.{twice_number, twice_first, twice_second}

module _ (code : Code) (mask message block again : List ℕ) where
  -- the number, as the lengths decide it before anything is written
  pub number-by-lengths : twice_number code mask message block again
      ≡ first_refusal (encode_number code mask message (length block)) (check (leb (2 ^ code.m) (length again)) 7 0)
  number-by-lengths = by_first (encode_number code mask message (length block)) refl
    where
      by_first : (number : ℕ) → encode_number code mask message (length block) ≡ number
          → first_refusal number (encode_number code mask (encode_block code mask message block) (length again))
          ≡ first_refusal number (check (leb (2 ^ code.m) (length again)) 7 0)
      by_first zero accepted = encode-again code mask message block accepted (length again)
      by_first (suc number) accepted = refl

  -- where the tests refuse, both slices stay as they were
  pub neither-written : (r : Refusal)
      → refusal_number r
      ≡ first_refusal (encode_number code mask message (length block)) (check (leb (2 ^ code.m) (length again)) 7 0)
      → (block ≡ twice_first code mask message block again) × (again ≡ twice_second code mask message block again)
  neither-written r e =
      let refused : twice_number code mask message block again ≡ refusal_number r = number-by-lengths ∙ sym e in
      (rw refused (sym (refused-keeps r _ block)), rw refused (sym (refused-keeps r _ again)))

  -- where neither call is refused, both are accepted
  pub both-accepted : twice_number code mask message block again ≡ 0
      → (encode_number code mask message (length block) ≡ 0)
      × (encode_number code mask (encode_block code mask message block) (length again) ≡ 0)
  both-accepted = first-refusal-passed (encode_number code mask message (length block)) _

  -- document 01, "The code": with all positions information positions, coding twice returns the message
  pub message-returns : ((i : ℕ) → i < 2 ^ code.m → is_information (get_or mask i 0) ≡ true)
      → twice_number code mask message block again ≡ 0
      → twice_second code mask message block again ≡ overwrite (2 ^ code.m) (λ i. get_or message i 0) again
  message-returns all done =
      let first = (both-accepted done).0 in
      let long = check-passed _ 6 _ (sym (encode-again code mask message block first (length again))
      ∙ (both-accepted done).1) in
      rw done (encode-twice code mask message block first all again (leb-true _ _ long.0))
