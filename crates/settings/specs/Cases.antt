-- The boundary values of document 01 in a block of two positions. Computed facts.
use Rattle.std.specs.Prelude.{ℕ, ◌≡◌, refl, List, [], ◌∷◌, map, ℤ, pos, negsuc}
use Rattle.settings.specs.declared.Settings.{Settings}
use Rattle.settings.specs.declared.Lengths.{Lengths}
use Rattle.settings.specs.Settings.{settings_number, decode_number}

-- m, C, k, T, criterion, operand
abbrev set : ℕ → ℕ → ℕ → ℕ → ℕ → ℕ → Settings
set m C k T criterion operand =
    record { m = m; ceiling = C; scale = k; limit = T; criterion = criterion; operand = operand }

-- soft, mark, coded soft, coded mark, workspace
abbrev lengths : ℕ → ℕ → ℕ → ℕ → ℕ → Lengths
lengths soft mark coded coded-mark work =
    record { soft = soft; mark = mark; coded_soft = coded; coded_mark = coded-mark; work = work }

abbrev mask : List ℕ
mask = 1 ∷ 0 ∷ []

abbrev llr : List ℤ
llr = pos 1 ∷ negsuc 0 ∷ []

abbrev exact : Lengths
exact = lengths 2 2 2 2 8

abbrev of-settings : Settings → ℕ
of-settings s = decode_number s mask llr exact

abbrev of-operand : ℕ → ℕ → ℕ
of-operand criterion operand = of-settings (set 1 31 16 10 criterion operand)

abbrev of-lengths : Lengths → ℕ
of-lengths given = decode_number (set 1 31 16 10 1 0) mask llr given

abbrev of_mask : List ℕ → ℕ
of_mask l = decode_number (set 1 31 16 10 1 0) l llr exact

abbrev of-llr : List ℤ → ℕ
of-llr l = decode_number (set 1 31 16 10 1 0) mask l exact

-- 1; a block of 1,024 positions passes the settings' tests
pub block-length : map (λ m. of-settings (set m 31 16 10 1 0)) (0 ∷ 1 ∷ 11 ∷ []) ≡ 1 ∷ 0 ∷ 1 ∷ []
block-length = refl

pub largest-block : settings_number (set 10 31 16 10 1 0) ≡ 0
largest-block = refl

-- 2
pub ceiling : map (λ C. of-settings (set 1 C 16 10 1 0)) (0 ∷ 1 ∷ 2047 ∷ 2048 ∷ []) ≡ 2 ∷ 0 ∷ 0 ∷ 2 ∷ []
ceiling = refl

-- 3
pub scale : map (λ k. of-settings (set 1 31 k 10 1 0)) (0 ∷ 1 ∷ 16 ∷ 17 ∷ []) ≡ 3 ∷ 0 ∷ 0 ∷ 3 ∷ []
scale = refl

-- 4
pub limit : map (λ T. of-settings (set 1 31 16 T 1 0)) (0 ∷ 1 ∷ 64 ∷ 65 ∷ 200 ∷ []) ≡ 4 ∷ 0 ∷ 0 ∷ 4 ∷ 4 ∷ []
limit = refl

-- 5, with an operand that fits criterion 4
pub criterion : map (λ c. of-operand c 1) (4 ∷ 5 ∷ []) ≡ 0 ∷ 5 ∷ []
criterion = refl

-- 6
pub operand-never : map (of-operand 0) (0 ∷ 1 ∷ []) ≡ 0 ∷ 6 ∷ []
operand-never = refl

pub operand-g-matrix : map (of-operand 1) (0 ∷ 1 ∷ []) ≡ 0 ∷ 6 ∷ []
operand-g-matrix = refl

pub operand-least-size : map (of-operand 2) (0 ∷ 1 ∷ 31 ∷ 32 ∷ []) ≡ 6 ∷ 0 ∷ 0 ∷ 6 ∷ []
operand-least-size = refl

pub operand-steady-marks : map (of-operand 3) (0 ∷ 1 ∷ 8 ∷ 9 ∷ []) ≡ 6 ∷ 0 ∷ 0 ∷ 6 ∷ []
operand-steady-marks = refl

pub operand-least-information-size : map (of-operand 4) (0 ∷ 1 ∷ 31 ∷ 32 ∷ []) ≡ 6 ∷ 0 ∷ 0 ∷ 6 ∷ []
operand-least-information-size = refl

-- 7: each slice one short
pub short-slices : map of-lengths
    (exact ∷ lengths 1 2 2 2 8 ∷ lengths 2 1 2 2 8 ∷ lengths 2 2 1 2 8 ∷ lengths 2 2 2 1 8 ∷ lengths 2 2 2 2 7 ∷ [])
    ≡ 0 ∷ 7 ∷ 7 ∷ 7 ∷ 7 ∷ 7 ∷ []
short-slices = refl

pub short-mask : of_mask (0 ∷ []) ≡ 7
short-mask = refl

pub short-llr : of-llr (pos 1 ∷ []) ≡ 7
short-llr = refl

-- 8 and 9
pub mask-values : map of_mask (
    (1 ∷ 0 ∷ []) ∷ (0 ∷ 1 ∷ []) ∷ (0 ∷ 0 ∷ []) ∷ (2 ∷ 0 ∷ []) ∷ (0 ∷ 2 ∷ []) ∷ (0 ∷ 255 ∷ []) ∷ (1 ∷ 1 ∷ []) ∷ []
    ) ≡ 0 ∷ 0 ∷ 0 ∷ 8 ∷ 8 ∷ 8 ∷ 9 ∷ []
mask-values = refl

-- 10, at either position: 31, -31, 32, -32, 32767 and -32768
abbrev sizes : List ℤ
sizes = pos 31 ∷ negsuc 30 ∷ pos 32 ∷ negsuc 31 ∷ pos 32767 ∷ negsuc 32767 ∷ []

pub first-llr : map (λ z. of-llr (z ∷ pos 0 ∷ [])) sizes ≡ 0 ∷ 0 ∷ 10 ∷ 10 ∷ 10 ∷ 10 ∷ []
first-llr = refl

pub last-llr : map (λ z. of-llr (pos 0 ∷ z ∷ [])) sizes ≡ 0 ∷ 0 ∷ 10 ∷ 10 ∷ 10 ∷ 10 ∷ []
last-llr = refl

-- what stands after the two positions is not read
pub behind : decode_number (set 1 31 16 10 1 0) (1 ∷ 0 ∷ 2 ∷ []) (pos 1 ∷ negsuc 0 ∷ negsuc 32767 ∷ [])
    (lengths 3 3 3 3 9) ≡ 0
behind = refl

-- several at once: the lowest. Each line mends what the line before was refused for
pub lowest : map of-settings (
    set 11 0 0 0 5 32 ∷ set 1 0 0 0 5 32 ∷ set 1 31 0 0 5 32 ∷ set 1 31 16 0 5 32 ∷ set 1 31 16 10 5 32
    ∷ set 1 31 16 10 4 32 ∷ []
    ) ≡ 1 ∷ 2 ∷ 3 ∷ 4 ∷ 5 ∷ 6 ∷ []
lowest = refl

abbrev of-block : List ℤ → List ℕ → Lengths → ℕ
of-block l m given = decode_number (set 1 31 16 10 3 8) m l given

pub lowest-behind : of-block (pos 32 ∷ pos 0 ∷ []) (2 ∷ 1 ∷ []) (lengths 2 2 2 2 7)
    ∷ of-block (pos 32 ∷ pos 0 ∷ []) (2 ∷ 1 ∷ []) exact
    ∷ of-block (pos 32 ∷ pos 0 ∷ []) (1 ∷ 1 ∷ []) exact
    ∷ of-block (pos 32 ∷ pos 0 ∷ []) (1 ∷ 0 ∷ []) exact
    ∷ of-block (pos 31 ∷ pos 0 ∷ []) (1 ∷ 0 ∷ []) exact
    ∷ []
    ≡ 7 ∷ 8 ∷ 9 ∷ 10 ∷ 0 ∷ []
lowest-behind = refl
