-- Request 2026-07: the limits T that a call may have. The request's numbers stand here written out.
use Rattle.std.specs.Prelude.{ℕ, zero, suc, ◌≤◌, ◌≡◌, refl, Bool, true, false, List, ℤ}
use Rattle.std.proofs.Common.{arith, le-leb}
use Rattle.calls.specs.Bounds.{largest_m, largest_ceiling, largest_scale}
use Rattle.calls.specs.Numbers.{check, first_refusal, between}
use Rattle.settings.specs.declared.Settings.{Settings}
use Rattle.settings.specs.declared.Lengths.{Lengths}
use Rattle.settings.specs.Settings.{decode_number}
use Rattle.settings.specs.Limits.{with_limit, old_decode_number}

positive-within : (high n : ℕ) → suc n ≤ high → between 1 high (suc n) ≡ true
positive-within high n h = simp (le-leb 1 (suc n) (omega arith), le-leb (suc n) high h)

module _ (s : Settings) (mask : List ℕ) (llr : List ℤ) (lengths : Lengths) where
  -- "The limit T now runs 1 to 64": to every test of a call these limits are alike
  pub limit-within : (T T' : ℕ) → between 1 64 T ≡ true → between 1 64 T' ≡ true
      → decode_number (with_limit T s) mask llr lengths ≡ decode_number (with_limit T' s) mask llr lengths
  limit-within T T' h h' = rw (h, h')

  -- "and 65 is refused with 4": 0 and every limit above 64 is, unless a setting before it is refused
  pub limit-outside : (T : ℕ) → between 1 64 T ≡ false
      → decode_number (with_limit T s) mask llr lengths
      ≡ check (between 1 largest_m s.m) 1
      (check (between 1 largest_ceiling s.ceiling) 2 (check (between 1 largest_scale s.scale) 3 4))
  limit-outside T h =
      rw h (by_tests (between 1 largest_m s.m) (between 1 largest_ceiling s.ceiling)
      (between 1 largest_scale s.scale) _)
    where
      by_tests : (a b c : Bool) (next : ℕ)
          → first_refusal (check a 1 (check b 2 (check c 3 4))) next ≡ check a 1 (check b 2 (check c 3 4))
      by_tests true true true next = refl
      by_tests true true false next = refl
      by_tests true false c next = refl
      by_tests false b c next = refl

  -- a call with a limit up to 64 has the number that it had
  pub limit-as-before : s.limit ≤ 64 → decode_number s mask llr lengths ≡ old_decode_number s mask llr lengths
  limit-as-before h = by-limit s.limit h
    where
      by-limit : (T : ℕ) → T ≤ 64
          → decode_number (with_limit T s) mask llr lengths ≡ old_decode_number (with_limit T s) mask llr lengths
      by-limit zero h = refl
      by-limit (suc T) h = rw (positive-within 64 T h, positive-within 200 T (omega arith))
