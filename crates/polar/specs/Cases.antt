-- Computed facts about the definitions: P9 of document 01, the boundaries of each refusal, and the read_out.
use Rattle.std.specs.Prelude.{ℕ, ◌^◌, ◌≡◌, refl, List, [], ◌∷◌, replicate}
use Rattle.polar.specs.declared.Code.{Code}
use Rattle.polar.specs.Code.{encode_number, encode_block, read_out_number, read_out_message}

abbrev size : ℕ → Code
size m = record { m = m }

-- every position an information position
abbrev free : ℕ → List ℕ
free m = replicate (2 ^ m) 0

-- P9: u = 0,0,0,1 codes to 1,1,1,1; u = 0,1,0,0 to 1,1,0,0. The elements after N keep what they held
p9 : encode_block (size 2) (free 2) (0 ∷ 0 ∷ 0 ∷ 1 ∷ []) (9 ∷ 9 ∷ 9 ∷ 9 ∷ 9 ∷ [])
    ∷ encode_block (size 2) (free 2) (0 ∷ 1 ∷ 0 ∷ 0 ∷ []) (9 ∷ 9 ∷ 9 ∷ 9 ∷ 9 ∷ []) ∷ []
    ≡ (1 ∷ 1 ∷ 1 ∷ 1 ∷ 9 ∷ []) ∷ (1 ∷ 1 ∷ 0 ∷ 0 ∷ 9 ∷ []) ∷ []
p9 = refl

-- the message fills the information positions 1, 4, 6 in rising order; its rest is not read
rising : encode_block (size 3) (1 ∷ 0 ∷ 1 ∷ 1 ∷ 0 ∷ 1 ∷ 0 ∷ 1 ∷ 7 ∷ []) (1 ∷ 0 ∷ 1 ∷ 5 ∷ []) (replicate 8 9)
    ≡ 0 ∷ 1 ∷ 1 ∷ 0 ∷ 1 ∷ 0 ∷ 1 ∷ 0 ∷ []
rising = refl

-- the read_out copies any bytes, and keeps what stands after K
read_out : read_out_message (size 2) (1 ∷ 0 ∷ 1 ∷ 0 ∷ []) (5 ∷ 2 ∷ 6 ∷ 1 ∷ 8 ∷ []) (9 ∷ 9 ∷ 9 ∷ []) ≡ 2 ∷ 1 ∷ 9 ∷ []
read_out = refl

-- the coder's refusals, each at its boundary: m of 0, 1, 10 and 11; slices one short; a mask byte of 2; no information
-- position; a message one short; a message byte of 2 within K and after it
encode-numbers : encode_number (size 0) (free 1) (0 ∷ 0 ∷ []) 2
    ∷ encode_number (size 1) (free 1) (0 ∷ 0 ∷ []) 2
    ∷ encode_number (size 10) (free 1) (0 ∷ 0 ∷ []) 2
    ∷ encode_number (size 11) (free 1) (0 ∷ 0 ∷ []) 2
    ∷ encode_number (size 1) (0 ∷ []) (0 ∷ 0 ∷ []) 2
    ∷ encode_number (size 1) (free 1) (0 ∷ 0 ∷ []) 1
    ∷ encode_number (size 1) (0 ∷ 2 ∷ []) (0 ∷ 0 ∷ []) 2
    ∷ encode_number (size 1) (0 ∷ 0 ∷ 2 ∷ []) (0 ∷ 0 ∷ []) 2
    ∷ encode_number (size 1) (1 ∷ 1 ∷ []) (0 ∷ 0 ∷ []) 2
    ∷ encode_number (size 1) (free 1) (0 ∷ []) 2
    ∷ encode_number (size 1) (1 ∷ 0 ∷ []) (0 ∷ []) 2
    ∷ encode_number (size 1) (free 1) (1 ∷ 2 ∷ []) 2
    ∷ encode_number (size 1) (1 ∷ 0 ∷ []) (1 ∷ 2 ∷ []) 2
    ∷ []
    ≡ 1 ∷ 0 ∷ 7 ∷ 1 ∷ 7 ∷ 7 ∷ 8 ∷ 0 ∷ 9 ∷ 7 ∷ 0 ∷ 13 ∷ 0 ∷ []
encode-numbers = refl

-- several at once: 1 before 7, 7 before 8, 8 before 9 and 13, 9 before a short message and 13, a short message before
-- 13
encode-orders : encode_number (size 11) [] (2 ∷ []) 0
    ∷ encode_number (size 1) (2 ∷ []) (2 ∷ []) 0
    ∷ encode_number (size 1) (1 ∷ 3 ∷ []) (2 ∷ []) 2
    ∷ encode_number (size 1) (1 ∷ 1 ∷ []) [] 2
    ∷ encode_number (size 1) (free 1) (2 ∷ []) 2
    ∷ []
    ≡ 1 ∷ 7 ∷ 8 ∷ 9 ∷ 7 ∷ []
encode-orders = refl

-- the read_out's refusals, and a mark of 2 that it copies
read-out-numbers : read_out_number (size 0) (free 1) (0 ∷ 0 ∷ []) 2
    ∷ read_out_number (size 11) (free 1) (0 ∷ 0 ∷ []) 2
    ∷ read_out_number (size 1) (0 ∷ []) (0 ∷ 0 ∷ []) 2
    ∷ read_out_number (size 1) (free 1) (0 ∷ []) 2
    ∷ read_out_number (size 1) (0 ∷ 2 ∷ []) (0 ∷ 0 ∷ []) 2
    ∷ read_out_number (size 1) (1 ∷ 1 ∷ []) (0 ∷ 0 ∷ []) 2
    ∷ read_out_number (size 1) (free 1) (0 ∷ 0 ∷ []) 1
    ∷ read_out_number (size 1) (free 1) (2 ∷ 2 ∷ []) 2
    ∷ []
    ≡ 1 ∷ 1 ∷ 7 ∷ 7 ∷ 8 ∷ 9 ∷ 7 ∷ 0 ∷ []
read-out-numbers = refl

-- a refused call leaves its slice as it was
refused : encode_block (size 1) (1 ∷ 1 ∷ []) (0 ∷ 0 ∷ []) (9 ∷ 8 ∷ 7 ∷ [])
    ∷ read_out_message (size 1) (free 1) (1 ∷ 0 ∷ []) (9 ∷ [])
    ∷ []
    ≡ (9 ∷ 8 ∷ 7 ∷ []) ∷ (9 ∷ []) ∷ []
refused = refl
