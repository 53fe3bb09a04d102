-- Document 01, "Blocks worked by hand": P1 to P10 and the boundary values as 2026-02, 2026-04 and 2026-07 amend them
-- (by the last a limit of 64 is accepted, and 0 and 65 are refused with 4), and "Readings that look plausible". A table
-- of cases with the values worked by hand, and what the definitions of the contracts of decoder, coder and front give
-- for them. Computed facts.
use Rattle.std.specs.Prelude.{ℕ, zero, suc, ◌+◌, ◌*◌, ◌^◌, ◌≡◌, refl, List, [], ◌∷◌, ◌++◌, map, ℤ, pos, neg_ℤ, Float}
use Rattle.std.specs.Float.{binary32}
use Rattle.std.specs.Float.Ieee.{of_bits, mul, neg}
use Rattle.polar.specs.Code.{encode_block}
use Rattle.channel.specs.declared.Channel.{Channel}
use Rattle.channel.specs.declared.Channel.TheVariants.{Gaussian, Flipping}
use Rattle.channel.specs.Front.{with_sample_sign, quantised, is_finite, is_above_zero, front_llrs}
use Rattle.message.specs.Message.{add, f}
use Rattle.sweeps.specs.Workspace.{set_row}
use Rattle.sweeps.specs.Iteration.{left_step, right_step, start}
use Rattle.settings.specs.declared.Settings.{Settings}
use Rattle.settings.specs.Slices.{Slices, slices}
use Rattle.decoder.specs.Decoder.{Result, refused, ended, after, ending, decode_result, decode_slices}

abbrev minus : ℕ → ℤ
minus n = neg_ℤ (pos n)

-- ---- a case: what the decoder is handed

record Case : Type 0 where
  settings : Settings
  mask : List ℕ
  llr : List ℤ

-- C = 31 throughout; the arguments are m, k, T, criterion, operand, mask, LLRs
abbrev block : ℕ → ℕ → ℕ → ℕ → ℕ → List ℕ → List ℤ → Case
block m k T criterion operand mask llr = record {
  settings = record { m = m; ceiling = 31; scale = k; limit = T; criterion = criterion; operand = operand };
  mask = mask;
  llr = llr;
}

-- ---- what the memory holds before: each slice one element longer than needed, with 99 or 9 in all of it

module _ {A : Type 0} where
  abbrev filled : ℕ → A → List A
  filled zero a = []
  filled (suc n) a = a ∷ filled n a

abbrev lent : Case → Slices
lent c =
    let n = 2 ^ c.settings.m + 1 in
    slices (filled n (pos 99)) (filled n 9) (filled n (pos 99)) (filled n 9)
    (filled (2 * (c.settings.m + 1) * 2 ^ c.settings.m + 1) (pos 99))

-- ---- what the contract says of a case

pub record Answer : Type 0 where
  result : Result
  soft : List ℤ
  mark : List ℕ
  coded_soft : List ℤ
  coded_mark : List ℕ

abbrev answer_of : Case → Answer
answer_of c =
    let left = decode_slices c.settings c.mask c.llr (lent c) in
    record {
      result = decode_result c.settings c.mask c.llr (lent c);
      soft = left.soft;
      mark = left.mark;
      coded_soft = left.coded_soft;
      coded_mark = left.coded_mark;
    }

-- ---- what was worked by hand: iteration, reason, soft outputs, marks, coded soft outputs, coded marks.
-- The element after them keeps its 99 or 9

abbrev ends : ℕ → ℕ → List ℤ → List ℕ → List ℤ → List ℕ → Answer
ends iteration reason soft mark coded_soft coded_mark = record {
  result = ended iteration reason;
  soft = soft ++ pos 99 ∷ [];
  mark = mark ++ 9 ∷ [];
  coded_soft = coded_soft ++ pos 99 ∷ [];
  coded_mark = coded_mark ++ 9 ∷ [];
}

-- a refusal of a block of two positions writes nothing
abbrev refuses : ℕ → Answer
refuses number = record {
  result = refused number;
  soft = pos 99 ∷ pos 99 ∷ pos 99 ∷ [];
  mark = 9 ∷ 9 ∷ 9 ∷ [];
  coded_soft = pos 99 ∷ pos 99 ∷ pos 99 ∷ [];
  coded_mark = 9 ∷ 9 ∷ 9 ∷ [];
}

-- ---- coder and front: the block of a message at four information positions, and the LLRs of two samples with C = 31

abbrev float : ℕ → Float
float bits = of_bits binary32 bits

abbrev block_of : List ℕ → List ℕ
block_of u = encode_block (record { m = 2 }) (filled 4 0) u (filled 5 9)

abbrev llrs_of : Channel → List Float → List ℤ
llrs_of channel samples = front_llrs 1 31 channel samples (filled 3 (pos 99))

-- ---- the table: what is found for a case by the definitions, and what was worked by hand for it

pub data Found : Type 0 where
  outputs : Answer → Found
  sent : List ℕ → Found
  llrs : List ℤ → Found

record Line : Type 0 where
  found : Found
  expected : Found

abbrev line : Case → Answer → Line
line given expected = record { found = outputs (answer_of given); expected = outputs expected }

abbrev coded : List ℕ → List ℕ → Line
coded u expected = record { found = sent (block_of u); expected = sent (expected ++ 9 ∷ []) }

abbrev received : Channel → List ℤ → Line
received channel expected = record {
  found = llrs (llrs_of channel (float 0x3f80_0000 ∷ float 0xbf80_0000 ∷ []));
  expected = llrs (expected ++ pos 99 ∷ []);
}

abbrev blocks : List Line
blocks =
    -- P1. With the lower R in the second formula of L, soft output 1 would be -3
    line (block 1 16 10 1 0 (1 ∷ 0 ∷ []) (pos 5 ∷ minus 3 ∷ []))
    (ends 1 1 (pos 31 ∷ pos 2 ∷ []) (0 ∷ 0 ∷ []) (pos 2 ∷ pos 2 ∷ []) (0 ∷ 0 ∷ []))
    -- P2
    ∷ line (block 1 16 10 1 0 (1 ∷ 0 ∷ []) (minus 5 ∷ pos 3 ∷ []))
    (ends 1 1 (pos 31 ∷ minus 2 ∷ []) (0 ∷ 1 ∷ []) (minus 2 ∷ minus 2 ∷ []) (1 ∷ 1 ∷ []))
    -- P3. With the negative product -45 shifted by 4 places, coded soft output 0 would be 2
    ∷ line (block 1 15 10 1 0 (1 ∷ 0 ∷ []) (pos 5 ∷ minus 3 ∷ []))
    (ends 1 1 (pos 31 ∷ pos 1 ∷ []) (0 ∷ 0 ∷ []) (pos 3 ∷ pos 1 ∷ []) (0 ∷ 0 ∷ []))
    -- P4. With zero taken as positive, criterion 1 would hold at iteration 1
    ∷ line (block 1 16 10 1 0 (1 ∷ 0 ∷ []) (pos 3 ∷ minus 3 ∷ []))
    (ends 10 2 (pos 31 ∷ pos 0 ∷ []) (0 ∷ 2 ∷ []) (pos 0 ∷ pos 0 ∷ []) (2 ∷ 2 ∷ []))
    -- P5. The sum at position 1, which is frozen, is a tie
    ∷ line (block 1 16 10 1 0 (0 ∷ 1 ∷ []) (pos 7 ∷ minus 31 ∷ []))
    (ends 10 2 (pos 0 ∷ pos 31 ∷ []) (2 ∷ 0 ∷ []) (pos 7 ∷ pos 0 ∷ []) (0 ∷ 2 ∷ []))
    -- P6, operands 2 and 3. With "larger" for "at least", operand 2 would end at 10 with reason 2
    ∷ line (block 1 16 10 2 2 (1 ∷ 0 ∷ []) (pos 5 ∷ minus 3 ∷ []))
    (ends 1 1 (pos 31 ∷ pos 2 ∷ []) (0 ∷ 0 ∷ []) (pos 2 ∷ pos 2 ∷ []) (0 ∷ 0 ∷ []))
    ∷ line (block 1 16 10 2 3 (1 ∷ 0 ∷ []) (pos 5 ∷ minus 3 ∷ []))
    (ends 10 2 (pos 31 ∷ pos 2 ∷ []) (0 ∷ 0 ∷ []) (pos 2 ∷ pos 2 ∷ []) (0 ∷ 0 ∷ []))
    -- the same under criterion 4 (2026-04). Looking at frozen positions instead, operand 3 would end at 1 with reason 1
    ∷ line (block 1 16 10 4 2 (1 ∷ 0 ∷ []) (pos 5 ∷ minus 3 ∷ []))
    (ends 1 1 (pos 31 ∷ pos 2 ∷ []) (0 ∷ 0 ∷ []) (pos 2 ∷ pos 2 ∷ []) (0 ∷ 0 ∷ []))
    ∷ line (block 1 16 10 4 3 (1 ∷ 0 ∷ []) (pos 5 ∷ minus 3 ∷ []))
    (ends 10 2 (pos 31 ∷ pos 2 ∷ []) (0 ∷ 0 ∷ []) (pos 2 ∷ pos 2 ∷ []) (0 ∷ 0 ∷ []))
    -- P7, T = 10 and T = 1
    ∷ line (block 1 16 10 3 1 (1 ∷ 0 ∷ []) (pos 5 ∷ minus 3 ∷ []))
    (ends 2 1 (pos 31 ∷ pos 2 ∷ []) (0 ∷ 0 ∷ []) (pos 2 ∷ pos 2 ∷ []) (0 ∷ 0 ∷ []))
    ∷ line (block 1 16 1 3 1 (1 ∷ 0 ∷ []) (pos 5 ∷ minus 3 ∷ []))
    (ends 1 2 (pos 31 ∷ pos 2 ∷ []) (0 ∷ 0 ∷ []) (pos 2 ∷ pos 2 ∷ []) (0 ∷ 0 ∷ []))
    -- P8
    ∷ line (block 2 16 10 1 0 (1 ∷ 1 ∷ 1 ∷ 0 ∷ []) (pos 1 ∷ pos 2 ∷ pos 3 ∷ pos 4 ∷ []))
    (ends 1 1 (pos 31 ∷ pos 31 ∷ pos 31 ∷ pos 6 ∷ []) (0 ∷ 0 ∷ 0 ∷ 0 ∷ []) (pos 7 ∷ pos 7 ∷ pos 9 ∷ pos 9 ∷ [])
    (0 ∷ 0 ∷ 0 ∷ 0 ∷ []))
    -- P9
    ∷ coded (0 ∷ 0 ∷ 0 ∷ 1 ∷ []) (1 ∷ 1 ∷ 1 ∷ 1 ∷ [])
    ∷ coded (0 ∷ 1 ∷ 0 ∷ 0 ∷ []) (1 ∷ 1 ∷ 0 ∷ 0 ∷ [])
    -- P10, the samples 1 and -1 with the factor 1.5 and with the weight 0.25
    ∷ received (Gaussian (float 0x3fc0_0000)) (pos 2 ∷ minus 2 ∷ [])
    ∷ received (Flipping (float 0x3e80_0000)) (pos 0 ∷ pos 0 ∷ [])
    -- two sums, each cut: R(2, 3) is 20 + 20, cut to 31, and coded soft output 3 is 31 - 20. Cut only once,
    -- it would be 20
    ∷ line (block 2 16 1 0 0 (1 ∷ 1 ∷ 1 ∷ 0 ∷ []) (pos 20 ∷ pos 20 ∷ pos 20 ∷ minus 20 ∷ []))
    (ends 1 2 (pos 31 ∷ pos 31 ∷ pos 31 ∷ pos 0 ∷ []) (0 ∷ 0 ∷ 0 ∷ 2 ∷ []) (pos 20 ∷ pos 11 ∷ pos 20 ∷ pos 11 ∷ [])
    (0 ∷ 0 ∷ 0 ∷ 0 ∷ []))
    -- a block that the criteria end sooner than they would by the sums (2026-02). At iteration 2 the sum at position 3
    -- is a tie, and criterion 1 would hold at 3
    ∷ line (block 2 16 10 1 0 (1 ∷ 1 ∷ 0 ∷ 1 ∷ []) (minus 10 ∷ minus 10 ∷ minus 10 ∷ minus 10 ∷ []))
    (ends 2 1 (pos 31 ∷ pos 31 ∷ minus 20 ∷ pos 31 ∷ []) (0 ∷ 0 ∷ 1 ∷ 0 ∷ [])
    (minus 11 ∷ pos 11 ∷ minus 11 ∷ pos 11 ∷ []) (1 ∷ 0 ∷ 1 ∷ 0 ∷ []))
    -- at iteration 1 it is 11, and criterion 2 with operand 20 would hold at 5
    ∷ line (block 2 16 10 2 20 (1 ∷ 1 ∷ 0 ∷ 1 ∷ []) (minus 10 ∷ minus 10 ∷ minus 10 ∷ minus 10 ∷ []))
    (ends 1 1 (pos 31 ∷ pos 31 ∷ pos 20 ∷ pos 31 ∷ []) (0 ∷ 0 ∷ 0 ∷ 0 ∷ []) (pos 0 ∷ pos 1 ∷ pos 0 ∷ pos 1 ∷ [])
    (2 ∷ 0 ∷ 2 ∷ 0 ∷ []))
    -- criterion 4 with operand 5 where both positions carry information. Without the first it would hold at 1
    ∷ line (block 1 16 10 4 5 (0 ∷ 0 ∷ []) (pos 2 ∷ pos 7 ∷ []))
    (ends 10 2 (pos 2 ∷ pos 7 ∷ []) (0 ∷ 0 ∷ []) (pos 2 ∷ pos 7 ∷ []) (0 ∷ 0 ∷ []))
    -- its operands 0, 31 and 32, and criterion 5
    ∷ line (block 1 16 10 4 0 (1 ∷ 0 ∷ []) (pos 5 ∷ minus 3 ∷ [])) (refuses 6)
    ∷ line (block 1 16 10 4 31 (1 ∷ 0 ∷ []) (pos 31 ∷ pos 3 ∷ []))
    (ends 1 1 (pos 31 ∷ pos 31 ∷ []) (0 ∷ 0 ∷ []) (pos 31 ∷ pos 31 ∷ []) (0 ∷ 0 ∷ []))
    ∷ line (block 1 16 10 4 32 (1 ∷ 0 ∷ []) (pos 5 ∷ minus 3 ∷ [])) (refuses 6)
    ∷ line (block 1 16 10 5 1 (1 ∷ 0 ∷ []) (pos 5 ∷ minus 3 ∷ [])) (refuses 5)
    -- LLRs of 31, -31, 32 and -32768
    ∷ line (block 1 16 10 1 0 (1 ∷ 0 ∷ []) (pos 31 ∷ minus 3 ∷ []))
    (ends 1 1 (pos 31 ∷ pos 28 ∷ []) (0 ∷ 0 ∷ []) (pos 28 ∷ pos 28 ∷ []) (0 ∷ 0 ∷ []))
    ∷ line (block 1 16 10 1 0 (1 ∷ 0 ∷ []) (minus 31 ∷ pos 3 ∷ []))
    (ends 1 1 (pos 31 ∷ minus 28 ∷ []) (0 ∷ 1 ∷ []) (minus 28 ∷ minus 28 ∷ []) (1 ∷ 1 ∷ []))
    ∷ line (block 1 16 10 1 0 (1 ∷ 0 ∷ []) (pos 32 ∷ minus 3 ∷ [])) (refuses 10)
    ∷ line (block 1 16 10 1 0 (1 ∷ 0 ∷ []) (pos 5 ∷ minus 32768 ∷ [])) (refuses 10)
    -- T = 64, by criterion 1 and to the limit, T = 0 and T = 65 (2026-07)
    ∷ line (block 1 16 64 1 0 (1 ∷ 0 ∷ []) (pos 5 ∷ minus 3 ∷ []))
    (ends 1 1 (pos 31 ∷ pos 2 ∷ []) (0 ∷ 0 ∷ []) (pos 2 ∷ pos 2 ∷ []) (0 ∷ 0 ∷ []))
    ∷ line (block 1 16 64 0 0 (1 ∷ 0 ∷ []) (pos 5 ∷ minus 3 ∷ []))
    (ends 64 2 (pos 31 ∷ pos 2 ∷ []) (0 ∷ 0 ∷ []) (pos 2 ∷ pos 2 ∷ []) (0 ∷ 0 ∷ []))
    ∷ line (block 1 16 0 1 0 (1 ∷ 0 ∷ []) (pos 5 ∷ minus 3 ∷ [])) (refuses 4)
    ∷ line (block 1 16 65 1 0 (1 ∷ 0 ∷ []) (pos 5 ∷ minus 3 ∷ [])) (refuses 4)
    ∷ []

pub worked : map (λ l. l.found) blocks ≡ map (λ l. l.expected) blocks
unfolding add f set_row left_step right_step start after ending of_bits mul neg with_sample_sign quantised is_finite
    is_above_zero
worked = refl

-- ---- the workspace of P1 at its end: L(0, .), L(1, .), R(0, .), R(1, .), and the element after them

abbrev first : Case
first = block 1 16 10 1 0 (1 ∷ 0 ∷ []) (pos 5 ∷ minus 3 ∷ [])

pub first-workspace : (decode_slices first.settings first.mask first.llr (lent first)).work
    ≡ minus 3 ∷ pos 2 ∷ pos 5 ∷ minus 3 ∷ pos 31 ∷ pos 0 ∷ minus 3 ∷ pos 5 ∷ pos 99 ∷ []
unfolding add f set_row left_step right_step start after ending
first-workspace = refl
