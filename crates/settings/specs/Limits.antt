-- Request 2026-07: the same call with another limit T, and the number it had before the request. Definitions only.
use Rattle.std.specs.Prelude.{ℕ, cond, List, ℤ}
use Rattle.calls.specs.Numbers.{between}
use Rattle.settings.specs.declared.Settings.{Settings}
use Rattle.settings.specs.declared.Lengths.{Lengths}
use Rattle.settings.specs.Settings.{decode_number}

-- the settings with this limit, all else as it was
abbrev pub with_limit : ℕ → Settings → Settings
with_limit T s =
    record {
      m = s.m;
      ceiling = s.ceiling;
      scale = s.scale;
      limit = T;
      criterion = s.criterion;
      operand = s.operand;
    }

-- the number of a call while T ran to 200: such a limit passed, as 1 does now; another was refused, as 0 is now
abbrev pub old_decode_number : Settings → List ℕ → List ℤ → Lengths → ℕ
old_decode_number s mask llr lengths = decode_number (with_limit (cond (between 1 200 s.limit) 1 0) s) mask llr lengths
