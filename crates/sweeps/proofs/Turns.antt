-- The turns of the loops over a row: a part of it filled from the front, or runs of upper positions and their partners.
-- n and d are N and the distance, as the code has them.
use Prim.Native.Nat.{ℕ, suc, ◌+◌, ◌-◌, ◌*◌, ◌/◌, ◌^◌, ◌≤◌, ◌<◌}
use mathlib.Core.Path.{◌≡◌, refl, sym, ap, ◌∙◌}
use mathlib.Core.List.{List}
use native.Mathlib.Decide.{dec_lt, ℕ_discrete}
use native.Mathlib.Nat.{mul_comm, mul-suc}
use native.Mathlib.Numerals.{add-one}
use native.Mathlib.Omega.{arith}
use lib.Bits.{bit_and}
use lib.IntN.{ℤ}
use lib.ListN.{length}
use lib.Pow.{pow_pos}
use Rattle.calls.specs.LentMemory.{overwrite_from}
use Rattle.polar.specs.Columns.{digit}
use Rattle.polar.specs.DigitLaws.{Multiple, mask-clear, mask-set, partner-lt}
use Rattle.message.specs.declared.MinSum.{MinSum}
use Rattle.sweeps.specs.WorkspaceLaws.{row_lt}
use Rattle.sweeps.specs.IterationLaws.{WorkspaceValid}
use Rattle.sweeps.specs.Private.{
  message_at,
  new_at,
  upper_at,
  lower_at,
  ReadableRun,
  NewEight,
  pair_runs,
  row_step,
  Rows,
}
use Rattle.sweeps.proofs.Digits.{
  multiple-trans,
  power-multiple,
  multiple-less,
  turn-fits,
  turns-all,
  same-digit,
  after-upper,
  after_lower,
  digit-behind,
}
use Rattle.sweeps.proofs.Filled.{Filled, filled_none, still-wanted, filled-run, filled-all}
use Rattle.sweeps.proofs.Places.{upper-joined, lower-joined, new-joined, readable}

-- ---- c positions from p on, in any state of the step
module _ {rule : MinSum} {m t k x y n d : ℕ} {done : ℕ → Type 0} {old w : List ℤ} (en : n ≡ 2 ^ m) (ed : d ≡ 2 ^ t)
    (p c : ℕ) (fits : p + c ≤ 2 ^ m) (rows : Rows m t k x y) (h : Filled rule m t k x y done old w) where
  part-readable : ReadableRun rule c d (x * n + p) (y * n + p) w
  part-readable i l = rw (en, ed) (readable h.valid rows p i (omega arith))

  part_room : (j : ℕ) → j < 2 * (m + 1) → 0 < c → j * n + p + c ≤ length w
  part_room j l some =
      rw en (omega (arith, row_lt m j (p + c - 1) l (omega arith), h.valid.room))

-- ---- from the front: the positions below p are done
abbrev pub FilledFront : MinSum → ℕ → ℕ → ℕ → ℕ → ℕ → ℕ → List ℤ → List ℤ → Type 0
FilledFront rule m t k x y p old w = Filled rule m t k x y (λ j. j < p) old w

pub front-none : {rule : MinSum} {m t k x y : ℕ} {old : List ℤ} → WorkspaceValid rule m old
    → FilledFront rule m t k x y 0 old old
front-none valid = filled_none valid (λ j l. omega arith)

pub front-all : {rule : MinSum} {m t k x y n p : ℕ} {old w : List ℤ} → n ≡ 2 ^ m → Rows m t k x y
    → FilledFront rule m t k x y p old w → p ≡ n → w ≡ row_step rule m t k x y old
front-all en rows h e = filled-all h rows (λ j l. omega arith)

-- 2 ^ s at a time, in whole pairs of runs: turn c
module _ {rule : MinSum} {m t k x y n d : ℕ} {old w : List ℤ} (en : n ≡ 2 ^ m) (ed : d ≡ 2 ^ t) (s c : ℕ)
    (wide : suc t ≤ s) (rows : Rows m t k x y) (inside : c < 2 ^ m / 2 ^ s)
    (h : FilledFront rule m t k x y (2 ^ s * c) old w) where
  abbrev front : ℕ
  front = 2 ^ s * c

  front_whole : Multiple (2 ^ s) front
  front_whole = record { times = c; is = mul_comm (2 ^ s) c }

  front_after : 2 ^ s * (c + 1) ≡ front + 2 ^ s
  front_after = rw (add-one c) (mul-suc (2 ^ s) c)

  front_end : front + 2 ^ s ≤ 2 ^ m
  front_end = turn-fits (2 ^ s) (2 ^ m) c inside

  pub front-readable : ReadableRun rule (2 ^ s) d (x * n + front) (y * n + front) w
  front-readable = part-readable en ed front (2 ^ s) front_end rows h

  pub front-room : k * n + front + 2 ^ s ≤ length w
  front-room = part_room en ed front (2 ^ s) front_end rows h k rows.written (pow_pos s)

  pub front-next : (g : ℕ → ℤ)
      → ((i : ℕ) → i < 2 ^ s → g i ≡ new_at rule d (x * n + front) (y * n + front) w i) → {v : List ℤ}
      → v ≡ overwrite_from (k * n + front) (2 ^ s) g w
      → FilledFront rule m t k x y (2 ^ s * (c + 1)) old v
  front-next g new e =
      rw front_after
      (filled-run h rows front (2 ^ s) g front_end (λ j. j < front + 2 ^ s)
      (λ i l. let r = part-readable refl refl front (2 ^ s) front_end rows h i l in
      (rw (en, ed) at (new i l))
      ∙ new-joined rule m t x y front i w r.before.0 r.before.1
      (digit-behind t front i (multiple-trans (power-multiple (suc t) s wide) front_whole))
      ∙ still-wanted h rows (front + i) (omega (arith, front_end)))
      (λ j l b. b)
      (λ j l b. omega arith)
      (rw en at e))

-- a row of eight positions, at once
module _ {rule : MinSum} {m t k x y : ℕ} {w : List ℤ} (em : m ≡ 3) (valid : WorkspaceValid rule m w)
    (rows : Rows m t k x y) (d : ℕ) (ed : d ≡ 2 ^ t) where
  eight : 8 ≡ 2 ^ m
  eight = ap (λ (u : ℕ). 2 ^ u) (sym em)

  first-place : (j : ℕ) → j * 8 ≡ j * 8 + 0
  first-place j = omega arith

  pub octet-readable : ReadableRun rule 8 d (x * 8) (y * 8) w
  octet-readable =
      rw (first-place x, first-place y)
      (front-readable eight ed 3 0 (omega (arith, rows.distance)) rows (omega (arith, eight))
      (front-none valid))

  pub octet-all : (values : List ℤ) {v : List ℤ} → NewEight rule d (x * 8) (y * 8) w values
      → v ≡ overwrite_from (k * 8) 8 (message_at values) w → v ≡ row_step rule m t k x y w
  octet-all values new e =
      let done =
      front-next eight ed 3 0 (omega (arith, rows.distance)) rows (omega (arith, eight))
      (front-none valid) (message_at values) (rw (first-place x, first-place y) at new) (rw (first-place k) at e)
      in
      front-all eight rows done refl

-- ---- in pairs: the upper positions below a are done, and the lower ones below b
abbrev pub PairsDone : ℕ → ℕ → ℕ → ℕ → Type 0
PairsDone t a b j = (digit t j ≡ 0 → j < a) × (digit t j ≡ 1 → j < b)

-- the partners of the upper positions below p
abbrev pub FilledPairs : MinSum → ℕ → ℕ → ℕ → ℕ → ℕ → ℕ → List ℤ → List ℤ → Type 0
FilledPairs rule m t k x y p old w = Filled rule m t k x y (PairsDone t p (p + 2 ^ t)) old w

-- runs of W = 2 ^ s positions, which lie on one side: turn r, before the last run, which is of lower positions
module _ {rule : MinSum} {m t k x y n d W : ℕ} {old w : List ℤ} (en : n ≡ 2 ^ m) (ed : d ≡ 2 ^ t) (s r : ℕ)
    (eW : W ≡ 2 ^ s) (le : s ≤ t) (turn : r < (n - d) / 2 ^ s) (rows : Rows m t k x y)
    (h : FilledPairs rule m t k x y (W * r) old w) where
  abbrev p : ℕ
  p = W * r

  some : 0 < W
  some = rw eW (pow_pos s)

  step : Multiple W (2 ^ t)
  step = rw eW (power-multiple s t le)

  whole : Multiple W p
  whole = record { times = r; is = mul_comm W r }

  next : W * (r + 1) ≡ p + W
  next = rw (add-one r) (mul-suc W r)

  run_end : p + W ≤ 2 ^ m
  run_end = omega (arith, en, ed, turn-fits W (n - d) r (rw eW turn))

  same : (i : ℕ) → i < W → digit t (p + i) ≡ digit t p
  same i l = same-digit t p step whole i l

  further : (i : ℕ) → p + 2 ^ t + i ≡ p + i + 2 ^ t
  further i = omega arith

  module _ (z : digit t p ≡ 0) where
    upper : (i : ℕ) → i < W → digit t (p + i) ≡ 0
    upper i l = same i l ∙ z

    lower : (i : ℕ) → i < W → digit t (p + 2 ^ t + i) ≡ 1
    lower i l = ap (digit t) (further i) ∙ after-upper t (p + i) (upper i l)

    pub pairs_end : p + 2 ^ t + W ≤ 2 ^ m
    pairs_end =
        let i : ℕ = W - 1 in
        let l : i < W = omega (arith, some) in
        omega (arith, run_end, partner-lt m t (p + i) rows.distance (omega (arith, run_end)) (upper i l))

    -- what joining them requires
    pub pairs-ready : ReadableRun rule W d (x * n + p) (y * n + p) w × (k * n + p + d + W ≤ length w)
    pairs-ready = (
      part-readable en ed p W run_end rows h,
      rw ed (omega (arith, part_room en ed (p + 2 ^ t) W pairs_end rows h k rows.written some)),
    )

    -- the upper ones, then their partners
    pub pairs_next : {v : List ℤ} → v ≡ pair_runs rule d (k * n + p) (x * n + p) (y * n + p) W w
        → FilledPairs rule m t k x y (p + W) old v
    unfolding pair_runs
    pairs_next e =
        let first =
        filled-run h rows p W (upper_at rule (2 ^ t) (x * 2 ^ m + p) (y * 2 ^ m + p) w) run_end
        (PairsDone t (p + W) (p + 2 ^ t))
        (λ i l. upper-joined rule m t x y p i w (upper i l) ∙ still-wanted h rows (p + i) (omega (arith, run_end)))
        (λ j d b. (λ z. b, d.1))
        (λ j d b. (λ z. omega (arith, d.0 z), d.1))
        refl
        in
        let place : k * 2 ^ m + p + 2 ^ t ≡ k * 2 ^ m + (p + 2 ^ t) = omega arith in
        filled-run first rows (p + 2 ^ t) W (lower_at rule (2 ^ t) (x * 2 ^ m + p) (y * 2 ^ m + p) w) pairs_end
        (PairsDone t (p + W) (p + W + 2 ^ t))
        (λ i l. lower-joined rule m t x y p i w (lower i l)
        ∙ still-wanted h rows (p + 2 ^ t + i) (omega (arith, pairs_end)))
        (λ j d b. (d.0, λ o. b))
        (λ j d b. (d.0, λ o. omega (arith, d.1 o)))
        (rw (en, ed, place) at e)

  -- lower positions are done already
  module _ (o : digit t p ≡ 1) where
    not-upper : (j : ℕ) → digit t j ≡ 0 → j < p + W → Dec (j < p) → j < p
    not-upper j z l (yes b) = b
    not-upper j z l (no b) =
        let i : ℕ = j - p in
        let e : p + i ≡ j = omega arith in
        let one : digit t j ≡ 1 = ap (digit t) (sym e) ∙ same i (omega arith) ∙ o in
        absurd (omega arith)

    not_lower : (j : ℕ) → digit t j ≡ 1 → j < p + W + 2 ^ t → Dec (j < p + 2 ^ t) → j < p + 2 ^ t
    not_lower j z l (yes b) = b
    not_lower j z l (no b) =
        let i : ℕ = j - (p + 2 ^ t) in
        let e : p + i + 2 ^ t ≡ j = omega arith in
        let none : digit t j ≡ 0 = ap (digit t) (sym e) ∙ after_lower t (p + i) (same i (omega arith) ∙ o) in
        absurd (omega arith)

    pub pairs-skip : FilledPairs rule m t k x y (p + W) old w
    pairs-skip = record {
      valid = h.valid;
      long = h.long;
      kept = h.kept;
      new =
          λ j l d. h.new j l
          (λ z. not-upper j z (d.0 z) (dec_lt j p), λ u. not_lower j u (d.1 u) (dec_lt j (p + 2 ^ t)));
    }

  -- the mask test chooses
  pub run-readable : bit_and p d ≡ 0 → ReadableRun rule W d (x * n + p) (y * n + p) w
  run-readable z = (pairs-ready (mask-clear p t d ed z)).0

  pub run-room : bit_and p d ≡ 0 → k * n + p + d + W ≤ length w
  run-room z = (pairs-ready (mask-clear p t d ed z)).1

  pub upper-turn : {v : List ℤ} → bit_and p d ≡ 0
      → v ≡ pair_runs rule d (k * n + p) (x * n + p) (y * n + p) W w → FilledPairs rule m t k x y (W * (r + 1)) old v
  upper-turn z e = rw next (pairs_next (mask-clear p t d ed z) e)

  pub lower-turn : {v : List ℤ} → (bit_and p d ≡ 0 → ⊥) → v ≡ w → FilledPairs rule m t k x y (W * (r + 1)) old v
  lower-turn o e = rw (next, e) (pairs-skip (mask-set p t d ed o))

  -- so either way
  pub run-turn : {v : List ℤ} → (bit_and p d ≡ 0 → v ≡ pair_runs rule d (k * n + p) (x * n + p) (y * n + p) W w)
      → ((bit_and p d ≡ 0 → ⊥) → v ≡ w) → FilledPairs rule m t k x y (W * (r + 1)) old v
  run-turn {v} joined kept = by-test (ℕ_discrete (bit_and p d) 0)
    where
      by-test : Dec (bit_and p d ≡ 0) → FilledPairs rule m t k x y (W * (r + 1)) old v
      by-test (yes z) = upper-turn z (joined z)
      by-test (no o) = lower-turn o (kept o)

-- the last run is of lower positions
pub pairs-all : {rule : MinSum} {m t k x y n d W : ℕ} {old w : List ℤ} → n ≡ 2 ^ m → d ≡ 2 ^ t → (s r : ℕ) → W ≡ 2 ^ s
    → s ≤ t → r ≡ (n - d) / 2 ^ s → Rows m t k x y → FilledPairs rule m t k x y (W * r) old w
    → w ≡ row_step rule m t k x y old
pairs-all {m = m} {t = t} {n = n} {d = d} {W = W} en ed s r eW le er rows h =
    let ends : Multiple (2 ^ s) (n - d) =
    rw (en, ed) (multiple-less (power-multiple s m (omega (arith, rows.distance))) (power-multiple s t le))
    in
    let all : W * r ≡ n - d = rw (eW, er) (turns-all (pow_pos s) ends) in
    filled-all h rows
    (λ j l. (λ z. omega (arith, all, en, ed, partner-lt m t j rows.distance l z), λ o. omega (arith, all, en, ed)))
