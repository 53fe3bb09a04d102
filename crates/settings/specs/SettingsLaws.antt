-- Laws of the decoder's tests: what an accepted call tells of what it was handed, and that
-- the tests read no sign of an LLR.
use Rattle.std.specs.Prelude.{ℕ, zero, suc, ◌^◌, ◌≤◌, ◌<◌, ◌≡◌, Bool, true, List, leb, ℤ, pos, nat_abs, length, get_or}
use Rattle.std.proofs.Common.{ap, ◌∙◌, arith, leb-true, eqb-true}
use Rattle.calls.specs.Bounds.{largest_m, largest_ceiling, largest_scale, workspace_length}
use Rattle.calls.specs.EveryLaws.{every-at, every-same}
use Rattle.calls.specs.NumberLaws.{check-passed, first-refusal-passed, and-passed, between-passed}
use Rattle.calls.specs.Signs.{flipped}
use Rattle.calls.specs.SignLaws.{size-flipped}
use Rattle.polar.specs.Mask.{mask_accepted}
use Rattle.polar.specs.Code.{information_count}
use Rattle.settings.specs.declared.Settings.{Settings}
use Rattle.settings.specs.declared.Lengths.{Lengths}
use Rattle.settings.specs.Settings.{
  operand_fits,
  largest_limit,
  largest_criterion,
  settings_number,
  slices_fit,
  within_ceiling,
  decode_number,
}

-- ---- an accepted call

pub within-at : (n C : ℕ) (llr : List ℤ) → within_ceiling n C llr ≡ true → (i : ℕ) → i < n
    → nat_abs (get_or llr i (pos 0)) ≤ C
within-at n C llr h i l =
    leb-true (nat_abs (get_or llr i (pos 0))) C (every-at n i (λ i. leb (nat_abs (get_or llr i (pos 0))) C) h l)

pub record SettingsAccepted (s : Settings) : Type 0 where
  pub m-some : 1 ≤ s.m
  pub m-le : s.m ≤ largest_m
  pub ceiling-some : 1 ≤ s.ceiling
  pub ceiling-le : s.ceiling ≤ largest_ceiling
  pub scale-some : 1 ≤ s.scale
  pub scale-le : s.scale ≤ largest_scale
  pub limit-some : 1 ≤ s.limit
  pub limit-le : s.limit ≤ largest_limit
  pub criterion-le : s.criterion ≤ largest_criterion
  pub operand : operand_fits s.ceiling s.criterion s.operand ≡ true

pub settings-accepted : (s : Settings) → settings_number s ≡ 0 → SettingsAccepted s
settings-accepted s h =
    let one = check-passed _ 0 _ h in
    let two = check-passed _ 1 _ one.1 in
    let three = check-passed _ 2 _ two.1 in
    let four = check-passed _ 3 _ three.1 in
    let five = check-passed _ 4 _ four.1 in
    let six = check-passed _ 5 _ five.1 in
    let m = between-passed 1 largest_m s.m one.0 in
    let ceiling = between-passed 1 largest_ceiling s.ceiling two.0 in
    let scale = between-passed 1 largest_scale s.scale three.0 in
    let limit = between-passed 1 largest_limit s.limit four.0 in
    record {
      m-some = m.0;
      m-le = m.1;
      ceiling-some = ceiling.0;
      ceiling-le = ceiling.1;
      scale-some = scale.0;
      scale-le = scale.1;
      limit-some = limit.0;
      limit-le = limit.1;
      criterion-le = leb-true s.criterion largest_criterion five.0;
      operand = six.0;
    }

pub record SlicesAccepted (m mask llr : ℕ) (lengths : Lengths) : Type 0 where
  pub mask-long : 2 ^ m ≤ mask
  pub llr-long : 2 ^ m ≤ llr
  pub soft-long : 2 ^ m ≤ lengths.soft
  pub mark-long : 2 ^ m ≤ lengths.mark
  pub coded-soft-long : 2 ^ m ≤ lengths.coded_soft
  pub coded-mark-long : 2 ^ m ≤ lengths.coded_mark
  pub work-long : workspace_length m ≤ lengths.work

pub slices-accepted : (m mask llr : ℕ) (lengths : Lengths) → slices_fit m mask llr lengths ≡ true
    → SlicesAccepted m mask llr lengths
slices-accepted m mask llr lengths h =
    let six = and-passed _ _ h in
    let five = and-passed _ _ six.0 in
    let four = and-passed _ _ five.0 in
    let three = and-passed _ _ four.0 in
    let two = and-passed _ _ three.0 in
    let one = and-passed _ _ two.0 in
    record {
      mask-long = leb-true _ _ one.0;
      llr-long = leb-true _ _ one.1;
      soft-long = leb-true _ _ two.1;
      mark-long = leb-true _ _ three.1;
      coded-soft-long = leb-true _ _ four.1;
      coded-mark-long = leb-true _ _ five.1;
      work-long = leb-true _ _ six.1;
    }

pub record Accepted (s : Settings) (mask : List ℕ) (llr : List ℤ) (lengths : Lengths) : Type 0 where
  pub settings : SettingsAccepted s
  pub slices : SlicesAccepted s.m (length mask) (length llr) lengths
  pub values : mask_accepted (2 ^ s.m) mask ≡ true
  pub information : 1 ≤ information_count mask (2 ^ s.m)
  pub within : (i : ℕ) → i < 2 ^ s.m → nat_abs (get_or llr i (pos 0)) ≤ s.ceiling

pub accepted : (s : Settings) (mask : List ℕ) (llr : List ℤ) (lengths : Lengths) → decode_number s mask llr lengths ≡ 0
    → Accepted s mask llr lengths
accepted s mask llr lengths h =
    let both = first-refusal-passed (settings_number s) _ h in
    let seven = check-passed _ 6 _ both.1 in
    let eight = check-passed _ 7 _ seven.1 in
    let nine = check-passed _ 8 _ eight.1 in
    let ten = check-passed _ 9 _ nine.1 in
    record {
      settings = settings-accepted s both.0;
      slices = slices-accepted s.m (length mask) (length llr) lengths seven.0;
      values = eight.0;
      information = leb-true 1 _ nine.0;
      within = within-at (2 ^ s.m) s.ceiling llr ten.0;
    }

-- an operand is at most the ceiling, or 8, and so at most the largest ceiling
fits_le : (C criterion operand : ℕ) → C ≤ largest_ceiling → operand_fits C criterion operand ≡ true
    → operand ≤ largest_ceiling
fits_le C zero operand h e = omega (arith, eqb-true operand 0 e)
fits_le C (suc zero) operand h e = omega (arith, eqb-true operand 0 e)
fits_le C (suc (suc zero)) operand h e = omega (arith, (between-passed 1 C operand e).1)
fits_le C (suc (suc (suc zero))) operand h e = omega (arith, (between-passed 1 8 operand e).1)
fits_le C (suc (suc (suc (suc n)))) operand h e = omega (arith, (between-passed 1 C operand e).1)

module _ {s : Settings} (a : SettingsAccepted s) where
  pub operand-le : s.operand ≤ largest_ceiling
  operand-le = fits_le s.ceiling s.criterion s.operand a.ceiling-le a.operand

  -- the operand of criterion 2, a least size
  pub operand-least : s.criterion ≡ 2 → (1 ≤ s.operand) × (s.operand ≤ s.ceiling)
  operand-least e = between-passed 1 s.ceiling s.operand (rw e at a.operand)

-- ---- signs: a call with the signs of some LLRs turned has the same number

pub within-flipped : (llr llr' : List ℤ) (n C : ℕ) (b : ℕ → Bool)
    → ((i : ℕ) → i < n → get_or llr' i (pos 0) ≡ flipped (b i) (get_or llr i (pos 0)))
    → within_ceiling n C llr' ≡ within_ceiling n C llr
within-flipped llr llr' n C b h =
    every-same n _ _ (λ i l. ap (λ (k : ℕ). leb k C) (ap nat_abs (h i l) ∙ size-flipped (b i) (get_or llr i (pos 0))))

pub number-flipped : (s : Settings) (mask : List ℕ) (llr llr' : List ℤ) (lengths : Lengths) (b : ℕ → Bool)
    → length llr' ≡ length llr
    → ((i : ℕ) → i < 2 ^ s.m → get_or llr' i (pos 0) ≡ flipped (b i) (get_or llr i (pos 0)))
    → decode_number s mask llr' lengths ≡ decode_number s mask llr lengths
number-flipped s mask llr llr' lengths b long h = rw (long, within-flipped llr llr' (2 ^ s.m) s.ceiling b h)
