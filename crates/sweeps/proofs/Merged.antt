-- Eight pairs out of sixteen positions, and back: where their messages are gathered from, and merged in the order of
-- the positions.
use Prim.Native.Nat.{ℕ, zero, suc, ◌+◌, ◌-◌, ◌^◌, ◌≤◌, ◌<◌}
use mathlib.Core.Path.{◌≡◌, refl, sym, ap, ◌∙◌}
use mathlib.Core.Bool.{Bool, true, false, ◌&&◌, true≢false}
use mathlib.Core.List.{List}
use native.Mathlib.Omega.{arith}
use lib.Bits.{bit_and, and_le_l}
use lib.Dec.{eqb, ltb}
use lib.IntN.{ℤ, nat_abs}
use lib.Pow.{pow_pos, pow_mono}
use borrow.Author.Tests.{eq-eqb, ne_eqb, ltb-true, eqb-true}
use Rattle.calls.specs.Every.{every}
use Rattle.calls.specs.EveryLaws.{every-at}
use Rattle.polar.specs.DigitLaws.{digit-cases}
use Rattle.message.specs.declared.MinSum.{MinSum}
use Rattle.message.specs.Message.{add, f}
use Rattle.sweeps.specs.Private.{
  message_at,
  new_at,
  upper_at,
  lower_at,
  Readable,
  ReadableRun,
  Gathered,
  pair_of,
  merged_at,
}
use Rattle.sweeps.proofs.Places.{upper-test, lower-test, new-upper, new-lower}

-- the upper position of pair i
abbrev pub upper_of : ℕ → ℕ → ℕ
upper_of d i = i + bit_and i (8 - d)

-- each of the sixteen positions is the upper one of its pair, or the distance after it
abbrev is_of_pair : ℕ → ℕ → Bool
is_of_pair d i = ltb (pair_of d i) 8 && eqb (upper_of d (pair_of d i) + bit_and i d) i

abbrev pub OfPairs : ℕ → Type 0
OfPairs d = every 16 (is_of_pair d) ≡ true

pub distance_le : (t : ℕ) → t ≤ 2 → 2 ^ t ≤ 4
distance_le t l = pow_mono {i = t} {j = 2} l

pub of-pairs : (t : ℕ) → 1 ≤ t → t ≤ 2 → OfPairs (2 ^ t)
of-pairs zero l h = absurd (omega arith)
of-pairs (suc zero) l h = refl
of-pairs (suc (suc zero)) l h = refl
of-pairs (suc (suc (suc t))) l h = absurd (omega arith)

both : (a b : Bool) → a && b ≡ true → (a ≡ true) × (b ≡ true)
both true b e = (refl, e)
both false b e = absurd (true≢false (sym e))

module _ (d i : ℕ) (h : OfPairs d) (l : i < 16) where
  tested : (ltb (pair_of d i) 8 ≡ true) × (eqb (upper_of d (pair_of d i) + bit_and i d) i ≡ true)
  tested =
      both (ltb (pair_of d i) 8) (eqb (upper_of d (pair_of d i) + bit_and i d) i)
      (every-at 16 i (is_of_pair d) h l)

  pub pair_lt : pair_of d i < 8
  pair_lt = ltb-true (pair_of d i) 8 tested.0

  of_pair : upper_of d (pair_of d i) + bit_and i d ≡ i
  of_pair = eqb-true _ i tested.1

pub pair-fits : (t i : ℕ) → 1 ≤ t → t ≤ 2 → i < 16 → pair_of (2 ^ t) i < 8
pair-fits t i some most l = pair_lt (2 ^ t) i (of-pairs t some most) l

-- the upper position of a pair, and its partner, are among the sixteen
pub upper_lt : (d i : ℕ) → i < 8 → upper_of d i < 16
upper_lt d i l = omega (arith, and_le_l i (8 - d))

-- merged, the new messages of the pairs are those of the positions
pub merged-new : (rule : MinSum) (t x y : ℕ) (w upper lower : List ℤ) → OfPairs (2 ^ t) → 2 ^ t ≤ x → 2 ^ t ≤ y
    → ((i : ℕ) → i < 8 → message_at upper i ≡ upper_at rule (2 ^ t) x y w (upper_of (2 ^ t) i))
    → ((i : ℕ) → i < 8 → message_at lower i ≡ lower_at rule (2 ^ t) x y w (upper_of (2 ^ t) i))
    → (i : ℕ) → i < 16 → merged_at (2 ^ t) upper lower i ≡ new_at rule (2 ^ t) x y w i
merged-new rule t x y w upper lower of hx hy us ls i l =
    let d : ℕ = 2 ^ t in
    let h : ℕ = pair_of (2 ^ t) i in
    digit-cases t i
    (λ z. let e : upper_of (2 ^ t) h ≡ i = omega (arith, of_pair (2 ^ t) i of l, upper-test t i z) in
    rw (eq-eqb (bit_and i (2 ^ t)) 0 (upper-test t i z))
    (us h (pair_lt (2 ^ t) i of l) ∙ ap (upper_at rule (2 ^ t) x y w) e ∙ sym (new-upper rule t x y w i hx hy z)))
    (λ o. let e : upper_of (2 ^ t) h + 2 ^ t ≡ i = omega (arith, of_pair (2 ^ t) i of l, lower-test t i o) in
    rw (ne_eqb (bit_and i (2 ^ t)) 0 (λ n. omega (arith, lower-test t i o, pow_pos t)))
    (ls h (pair_lt (2 ^ t) i of l) ∙ sym (new-lower rule t x y w i hx hy (upper_of (2 ^ t) h) e o)))

-- the messages of eight pairs, gathered from the places x and y and the distance after them
pub record GatheredPairs (rule : MinSum) (d x y : ℕ) (w xu xl yu yl : List ℤ) : Type 0 where
  pub ready : ReadableRun rule 16 d x y w
  pub x-upper : Gathered x (8 - d) w xu
  pub x-lower : Gathered (x + d) (8 - d) w xl
  pub y-upper : Gathered y (8 - d) w yu
  pub y-lower : Gathered (y + d) (8 - d) w yl

module _ {rule : MinSum} {d x y : ℕ} {w xu xl yu yl : List ℤ} (h : GatheredPairs rule d x y w xu xl yu yl) (i : ℕ)
    (l : i < 8) where
  abbrev p : ℕ
  p = upper_of d i

  readable : Readable rule.ceiling p d x y w
  readable = h.ready p (upper_lt d i l)

  behind : (a : ℕ) → a + d + p ≡ a + (p + d)
  behind a = omega arith

  xl-is : message_at xl i ≡ message_at w (x + (p + d))
  xl-is = h.x-lower i l ∙ ap (message_at w) (behind x)

  yl-is : message_at yl i ≡ message_at w (y + (p + d))
  yl-is = h.y-lower i l ∙ ap (message_at w) (behind y)

  -- they lie within the ceiling
  pub xu-small : nat_abs (message_at xu i) ≤ rule.ceiling
  xu-small = rw (h.x-upper i l) readable.own

  pub xl-small : nat_abs (message_at xl i) ≤ rule.ceiling
  xl-small = rw xl-is readable.x-after

  pub yu-small : nat_abs (message_at yu i) ≤ rule.ceiling
  yu-small = rw (h.y-upper i l) readable.y-own

  pub yl-small : nat_abs (message_at yl i) ≤ rule.ceiling
  yl-small = rw yl-is readable.y-after

  pub pair-upper : f rule (message_at xu i) (add rule (message_at xl i) (message_at yl i)) ≡ upper_at rule d x y w p
  pair-upper = rw (h.x-upper i l, xl-is, yl-is)

  pub pair-lower : add rule (f rule (message_at xu i) (message_at yu i)) (message_at xl i) ≡ lower_at rule d x y w p
  pair-lower = rw (h.x-upper i l, h.y-upper i l, xl-is)

-- what the check tries where they are merged
pub ruleset merging = (distance_le, pair-fits)
