-- What an accepted call tells of its tests, and the range of a refusal's number.
use Rattle.std.specs.Prelude.{ℕ, zero, suc, ◌<◌, ◌≤◌, ◌≡◌, refl, Bool, true, false, ◌&&◌, leb}
use Rattle.std.proofs.Math.Bool.{and-eq-true_iff}
use Rattle.std.proofs.Common.{arith, lit<, leb-true}
use Rattle.calls.specs.declared.Refusal.{Refusal}
use Rattle.calls.specs.declared.Refusal.TheVariants.{
  BlockLength,
  Ceiling,
  Scale,
  Limit,
  Criterion,
  Operand,
  ShortSlice,
  MaskValue,
  NoInformation,
  LlrAboveCeiling,
  ChannelFactor,
  SampleNotFinite,
  MessageBit,
  MalformedText,
  UnusableTally,
  RadioNumber,
}
use Rattle.calls.specs.LentMemory.{unless_refused}
use Rattle.calls.specs.Numbers.{refusal_number, check, first_refusal, between}

-- no refusal's number is 0, and none has more than two digits
refusal-number : (r : Refusal) {A : Type 0} → ((n : ℕ) → refusal_number r ≡ suc n → n < 99 → A) → A
refusal-number BlockLength f = f 0 refl (lit< tt)
refusal-number Ceiling f = f 1 refl (lit< tt)
refusal-number Scale f = f 2 refl (lit< tt)
refusal-number Limit f = f 3 refl (lit< tt)
refusal-number Criterion f = f 4 refl (lit< tt)
refusal-number Operand f = f 5 refl (lit< tt)
refusal-number ShortSlice f = f 6 refl (lit< tt)
refusal-number MaskValue f = f 7 refl (lit< tt)
refusal-number NoInformation f = f 8 refl (lit< tt)
refusal-number LlrAboveCeiling f = f 9 refl (lit< tt)
refusal-number ChannelFactor f = f 10 refl (lit< tt)
refusal-number SampleNotFinite f = f 11 refl (lit< tt)
refusal-number MessageBit f = f 12 refl (lit< tt)
refusal-number MalformedText f = f 13 refl (lit< tt)
refusal-number UnusableTally f = f 14 refl (lit< tt)
refusal-number RadioNumber f = f 15 refl (lit< tt)

pub refusal-digits : (r : Refusal) → refusal_number r ≤ 99
refusal-digits r = refusal-number r (λ n e h. omega arith)

pub refusal-positive : (r : Refusal) → 0 ≡ refusal_number r → ⊥
refusal-positive r e = refusal-number r (λ n g h. omega arith)

pub refused-first : (r : Refusal) (next : ℕ) → first_refusal (refusal_number r) next ≡ refusal_number r
refused-first r next = refusal-number r (λ n e h. rw e)

pub refused-keeps : {A : Type 0} (r : Refusal) (new old : A) → unless_refused (refusal_number r) new old ≡ old
refused-keeps r new old = refusal-number r (λ n e h. rw e)

pub check-passed : (test : Bool) (number next : ℕ) → check test (suc number) next ≡ 0 → (test ≡ true) × (next ≡ 0)
check-passed true number next h = (refl, h)
check-passed false number next h = absurd (omega arith)

pub first-refusal-passed : (first next : ℕ) → first_refusal first next ≡ 0 → (first ≡ 0) × (next ≡ 0)
first-refusal-passed zero next h = (refl, h)
first-refusal-passed (suc number) next h = absurd (omega arith)

pub and-passed : (a b : Bool) → a && b ≡ true → (a ≡ true) × (b ≡ true)
and-passed a b = (and-eq-true_iff a b).0

pub between-passed : (low high n : ℕ) → between low high n ≡ true → (low ≤ n) × (n ≤ high)
between-passed low high n h =
    let both = and-passed (leb low n) (leb n high) h in
    (leb-true low n both.0, leb-true n high both.1)
