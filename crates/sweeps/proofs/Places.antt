-- The places of the code and the positions of a row: the formulas at the places of a part of the rows are those of the
-- rows, and what they read lies in the workspace.
use Prim.Native.Nat.{ℕ, suc, ◌+◌, ◌-◌, ◌*◌, ◌^◌, ◌≤◌, ◌<◌}
use mathlib.Core.Path.{◌≡◌, refl, ◌∙◌}
use mathlib.Core.List.{List}
use native.Mathlib.Nat.{zero-mul, one-mul, suc-mul, mul-le-mul_right}
use native.Mathlib.Omega.{arith}
use lib.Bits.{bit_and, bit_xor, xor_add_and}
use lib.Dec.{eqb}
use lib.IntN.{ℤ, nat_abs}
use lib.Pow.{pow_pos, pow-lt}
use borrow.Author.Tests.{eq-eqb, ne_eqb}
use mir.Syntax.{w16}
use mir.Val.{of_z}
use Rattle.calls.specs.Bounds.{workspace_length}
use Rattle.polar.specs.Columns.{digit}
use Rattle.polar.specs.DigitLaws.{digit-cases, masked, weight-le}
use Rattle.message.specs.declared.MinSum.{MinSum}
use Rattle.sweeps.specs.Workspace.{row}
use Rattle.sweeps.specs.IterationLaws.{WorkspaceValid}
use Rattle.sweeps.specs.Private.{
  message_at,
  MessageIn,
  MaskTable,
  new_at,
  partnered_at,
  upper_at,
  lower_at,
  Readable,
  joined_at,
  Rows,
}

-- ---- the mask test of position i over the distance 2 ^ t
module _ (t i : ℕ) where
  pub upper-test : digit t i ≡ 0 → bit_and i (2 ^ t) ≡ 0
  upper-test z = masked i t (2 ^ t) refl ∙ rw z (zero-mul (2 ^ t))

  pub lower-test : digit t i ≡ 1 → bit_and i (2 ^ t) ≡ 2 ^ t
  lower-test o = masked i t (2 ^ t) refl ∙ rw o (one-mul (2 ^ t))

  -- the partner, by an exclusive-or
  upper-partner : digit t i ≡ 0 → bit_xor i (2 ^ t) ≡ i + 2 ^ t
  upper-partner z = omega (arith, upper-test z, xor_add_and i (2 ^ t))

  lower-partner : digit t i ≡ 1 → bit_xor i (2 ^ t) + 2 ^ t ≡ i
  lower-partner o = omega (arith, lower-test o, xor_add_and i (2 ^ t))

-- the table's test is the mask test
pub table-test : (d : ℕ) (masks : List ℤ) (i : ℕ) → MaskTable d masks → i < 8
    → eqb (of_z w16 (message_at masks i)) 0 ≡ eqb (bit_and i d) 0
table-test d masks i h l = rw (h i l)

-- ---- the new message of position i
module _ (rule : MinSum) (t x y : ℕ) (w : List ℤ) (i : ℕ) (hx : 2 ^ t ≤ x) (hy : 2 ^ t ≤ y) where
  -- by the side that it is on
  pub new-upper : digit t i ≡ 0 → new_at rule (2 ^ t) x y w i ≡ upper_at rule (2 ^ t) x y w i
  unfolding new_at
  new-upper z = rw (eq-eqb (bit_and i (2 ^ t)) 0 (upper-test t i z))

  pub new-lower : (q : ℕ) → q + 2 ^ t ≡ i → digit t i ≡ 1 → new_at rule (2 ^ t) x y w i ≡ lower_at rule (2 ^ t) x y w q
  unfolding new_at
  new-lower q e o =
      let ex : x - 2 ^ t + i ≡ x + q = omega arith in
      let ey : y - 2 ^ t + i ≡ y + q = omega arith in
      rw (ne_eqb (bit_and i (2 ^ t)) 0 (λ n. omega (arith, lower-test t i o, pow_pos t)), ex, ey, e)

  -- of the message that the exclusive-or finds
  pub partnered-new : partnered_at rule (eqb (bit_and i (2 ^ t)) 0) x y w i (bit_xor i (2 ^ t))
      ≡ new_at rule (2 ^ t) x y w i
  partnered-new =
      digit-cases t i
      (λ z. rw (new-upper z, eq-eqb (bit_and i (2 ^ t)) 0 (upper-test t i z), upper-partner t i z))
      (λ o. let q : ℕ = bit_xor i (2 ^ t) in
      let e : q + 2 ^ t ≡ i = lower-partner t i o in
      rw (new-lower q e o, ne_eqb (bit_and i (2 ^ t)) 0 (λ n. omega (arith, lower-test t i o, pow_pos t)), e))

-- what an exclusive-or finds is readable
pub partner-readable : (t : ℕ) {C x y i : ℕ} {w : List ℤ} → Readable C i (2 ^ t) x y w
    → MessageIn C (x + i) w × MessageIn C (x + bit_xor i (2 ^ t)) w × MessageIn C (y + bit_xor i (2 ^ t)) w
partner-readable t {C} {x} {y} {i} {w} r =
    digit-cases t i
    (λ z. rw (upper-partner t i z)
    ((omega (arith, r.after), r.own), (r.after.0, r.x-after), (r.after.1, r.y-after)))
    (λ o. let q : ℕ = bit_xor i (2 ^ t) in
    let e : q + 2 ^ t ≡ i = lower-partner t i o in
    let ex : x - 2 ^ t + i ≡ x + q = omega (arith, r.before) in
    let ey : y - 2 ^ t + i ≡ y + q = omega (arith, r.before) in (
      (omega (arith, r.after), r.own),
      (omega (arith, r.after), rw ex at r.x-before),
      (omega (arith, r.after), rw ey at r.y-before),
    ))

-- ---- in the rows: position p + i, at the places p further
module _ (rule : MinSum) (m t x y p i : ℕ) (w : List ℤ) where
  abbrev from_x : ℕ
  from_x = x * 2 ^ m + p

  abbrev from_y : ℕ
  from_y = y * 2 ^ m + p

  abbrev joined : ℕ → ℤ
  joined = joined_at rule t (row m w x) (row m w y)

  own-place : (a : ℕ) → a + p + i ≡ a + (p + i)
  own-place a = omega arith

  partner-place : (a : ℕ) → a + p + (i + 2 ^ t) ≡ a + (p + i + 2 ^ t)
  partner-place a = omega arith

  pub upper-joined : digit t (p + i) ≡ 0 → upper_at rule (2 ^ t) from_x from_y w i ≡ joined (p + i)
  upper-joined z =
      rw (z, own-place (x * 2 ^ m), partner-place (x * 2 ^ m), partner-place (y * 2 ^ m))

  pub lower-joined : digit t (p + 2 ^ t + i) ≡ 1 → lower_at rule (2 ^ t) from_x from_y w i ≡ joined (p + 2 ^ t + i)
  lower-joined o =
      let back : p + 2 ^ t + i - 2 ^ t ≡ p + i = omega arith in
      let there : x * 2 ^ m + p + (i + 2 ^ t) ≡ x * 2 ^ m + (p + 2 ^ t + i) = omega arith in
      rw (o, back, own-place (x * 2 ^ m), own-place (y * 2 ^ m), there)

  pub new-joined : 2 ^ t ≤ from_x → 2 ^ t ≤ from_y → digit t (p + i) ≡ digit t i
      → new_at rule (2 ^ t) from_x from_y w i ≡ joined (p + i)
  new-joined hx hy same =
      digit-cases t i
      (λ z. new-upper rule t from_x from_y w i hx hy z ∙ upper-joined (same ∙ z))
      (λ o. let q : ℕ = i - 2 ^ t in
      let e : q + 2 ^ t ≡ i = omega (arith, weight-le t i o) in
      let place : p + i - 2 ^ t ≡ p + q = omega (arith, weight-le t i o) in
      let ex : x * 2 ^ m + p + q ≡ x * 2 ^ m + (p + q) = omega arith in
      let ey : y * 2 ^ m + p + q ≡ y * 2 ^ m + (p + q) = omega arith in
      new-lower rule t from_x from_y w i hx hy q e o
      ∙ rw (e, ex, ey, own-place (x * 2 ^ m), same ∙ o, place))

-- ---- what a step reads lies in the workspace: the rows that it reads have rows on both sides
module _ {rule : MinSum} {m t k x y : ℕ} {w : List ℤ} (valid : WorkspaceValid rule m w) (rows : Rows m t k x y) where
  module _ (p i : ℕ) (hp : p + i < 2 ^ m) where
    distance : 2 ^ t < 2 ^ m
    distance = pow-lt {i = t} {j = m} rows.distance

    -- around row j, at a distance below N
    module _ (j : ℕ) (low : 1 ≤ j) (high : j + 1 < 2 * (m + 1)) where
      ahead : 2 ^ t ≤ j * 2 ^ m + p
      ahead = omega (arith, distance, rw one-mul at (mul-le-mul_right (2 ^ m) low))

      in-work : j * 2 ^ m + p + (i + 2 ^ t) < workspace_length m
      in-work =
          omega (
            arith,
            distance,
            suc-mul (suc j) (2 ^ m),
            suc-mul j (2 ^ m),
            mul-le-mul_right {m = suc (suc j)} {n = 2 * (m + 1)} (2 ^ m) (omega arith),
          )

      small : (e : ℕ) → e ≤ j * 2 ^ m + p + (i + 2 ^ t) → nat_abs (message_at w e) ≤ rule.ceiling
      small e l = valid.within e (omega (arith, in-work))

    pub readable : Readable rule.ceiling i (2 ^ t) (x * 2 ^ m + p) (y * 2 ^ m + p) w
    readable =
        let lx = rows.first.0 in
        let hx = rows.first.1 in
        let ly = rows.second.0 in
        let hy = rows.second.1 in
        record {
          before = (ahead x lx hx, ahead y ly hy);
          after = (omega (arith, in-work x lx hx, valid.room), omega (arith, in-work y ly hy, valid.room));
          own = small x lx hx _ (omega arith);
          y-own = small y ly hy _ (omega arith);
          x-after = small x lx hx _ (omega arith);
          y-after = small y ly hy _ (omega arith);
          x-before = small x lx hx _ (omega arith);
          y-before = small y ly hy _ (omega arith);
        }
