-- Laws of the mask's bytes: what `by_kind` gives at an information position and at a frozen one, how a turned sign
-- comes
-- out of it, and tests of every information position.
use Rattle.std.specs.Prelude.{ℕ, zero, suc, ◌<◌, ◌≡◌, refl, Bool, true, false, List, eqb, ℤ, get_or}
use Rattle.std.proofs.Common.{sym, ap, true≢false}
use Rattle.std.proofs.lemmas.Bool.{false≢true}
use Rattle.std.proofs.Math.Dec.{eqb-suc-zero}
use Rattle.calls.specs.Every.{every}
use Rattle.calls.specs.EveryLaws.{every-same}
use Rattle.calls.specs.Signs.{flipped}
use Rattle.polar.specs.Mask.{
  Kind,
  information,
  frozen,
  kind_of,
  on_kind,
  by_kind,
  is_information,
  frozen_bit,
  every_information,
}

module _ {A : Type 0} (at_information : A) (at_frozen : Bool → A) where
  pub kind-information : (byte : ℕ) → is_information byte ≡ true
      → by_kind byte at_information at_frozen ≡ at_information
  kind-information byte = go (kind_of byte)
    where
      go : (k : Kind) → on_kind k true (λ bit. false) ≡ true → on_kind k at_information at_frozen ≡ at_information
      go information e = refl
      go (frozen bit) e = absurd (false≢true e)

  pub kind-frozen : (byte : ℕ) → is_information byte ≡ false
      → by_kind byte at_information at_frozen ≡ at_frozen (frozen_bit byte)
  kind-frozen byte = go (kind_of byte)
    where
      go : (k : Kind) → on_kind k true (λ bit. false) ≡ false
          → on_kind k at_information at_frozen ≡ at_frozen (on_kind k false (λ bit. bit))
      go information e = absurd (true≢false e)
      go (frozen bit) e = refl

  -- what holds of the first, and of the second for either bit, holds of the one that the byte chooses
  pub kind-either : (P : A → Type 0) → P at_information → ((bit : Bool) → P (at_frozen bit))
      → (byte : ℕ) → P (by_kind byte at_information at_frozen)
  kind-either P one other byte = go (kind_of byte)
    where
      go : (k : Kind) → P (on_kind k at_information at_frozen)
      go information = one
      go (frozen bit) = other bit

-- a function of what the byte chooses is the choice between its values
pub kind-ap : {A B : Type 0} (f : A → B) (at_information : A) (at_frozen : Bool → A) (byte : ℕ)
    → f (by_kind byte at_information at_frozen) ≡ by_kind byte (f at_information) (λ bit. f (at_frozen bit))
kind-ap f at_information at_frozen byte = go (kind_of byte)
  where
    go : (k : Kind) → f (on_kind k at_information at_frozen) ≡ on_kind k (f at_information) (λ bit. f (at_frozen bit))
    go information = refl
    go (frozen bit) = refl

-- ---- tests of every information position

-- they read the first n places alone
pub every-information-same : (n : ℕ) (mask : List ℕ) (test test' : ℕ → Bool)
    → ((i : ℕ) → i < n → test i ≡ test' i) → every_information n mask test ≡ every_information n mask test'
every-information-same n mask test test' h =
    every-same n _ _ (λ i l. ap (λ (b : Bool). by_kind (get_or mask i 0) b (λ bit. true)) (h i l))

-- where frozen positions pass the test as well, it is the test of every position
pub frozen-passed : (n : ℕ) (mask : List ℕ) (test : ℕ → Bool)
    → ((i : ℕ) → i < n → is_information (get_or mask i 0) ≡ false → test i ≡ true)
    → every_information n mask test ≡ every n test
frozen-passed n mask test h = every-same n _ _ (λ i l. go (kind_of (get_or mask i 0)) (test i) (h i l))
  where
    go : (k : Kind) (b : Bool) → (on_kind k true (λ bit. false) ≡ false → b ≡ true) → on_kind k b (λ bit. true) ≡ b
    go information b passed = refl
    go (frozen bit) b passed = sym (passed refl)

-- ---- signs

-- a sign that is turned at information positions alone comes out of the choice
pub kind-flipped : (z z' : ℤ) (at_frozen : Bool → ℤ) (byte : ℕ) (b : Bool) → (is_information byte ≡ false → b ≡ false)
    → z' ≡ flipped b z → by_kind byte z' at_frozen ≡ flipped b (by_kind byte z at_frozen)
kind-flipped z z' at_frozen byte b unturned turned = go (kind_of byte) unturned
  where
    go : (k : Kind) → (on_kind k true (λ bit. false) ≡ false → b ≡ false)
        → on_kind k z' at_frozen ≡ flipped b (on_kind k z at_frozen)
    go information h = turned
    go (frozen bit) h = rw (h refl)

-- 0 is the one byte of an information position
pub information-is-zero : (byte : ℕ) → eqb byte 0 ≡ is_information byte
information-is-zero zero = refl
information-is-zero (suc n) = eqb-suc-zero n

-- every frozen position is frozen to 0
pub frozen-bit-zero : (byte : ℕ) → frozen_bit byte ≡ false
frozen-bit-zero zero = refl
frozen-bit-zero (suc n) = refl
