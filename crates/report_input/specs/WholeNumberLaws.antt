-- Values of a text are compared as whole numbers: reading them into bytes, 16 bits and unsigned numbers changes the
-- number of no text.
use Rattle.std.specs.Prelude.{ℕ, zero, suc, ◌+◌, ◌^◌, ◌*◌, ◌≤◌, ◌<◌, min, ◌≡◌, refl, Bool, true, false, cond, ◌&&◌}
use Rattle.std.specs.Prelude.{◌||◌, List, [], ◌∷◌, map, leb, eqb, ℤ, pos, negsuc, nat_abs, length, get_or}
use Rattle.std.proofs.Common.{sym, ap, ap₂, ◌∙◌, true≢false, add-zero, mul-le-mul, arith, lit<, pow_mono, leb-true}
use Rattle.std.proofs.Common.{leb-false, le-leb, ne_eqb}
use Rattle.std.proofs.Math.Bool.{and-false}
use Rattle.std.proofs.Math.Dec.{leb-zero, leb-suc-zero, eqb-suc-zero}
use Rattle.std.proofs.lemmas.List.{length-map}
use Rattle.std.proofs.Math.ListN.{get_or-map}
use Rattle.std.proofs.lemmas.Bool.{lt-leb}
use Rattle.calls.specs.Bounds.{largest_m, largest_ceiling, largest_scale, most_positions, most_workspace}
use Rattle.calls.specs.Numbers.{check, first_refusal, between}
use Rattle.calls.specs.NumberLaws.{between-passed}
use Rattle.calls.specs.Signs.{is_negative}
use Rattle.calls.specs.SignLaws.{size-flipped}
use Rattle.polar.specs.Mask.{mask_accepted, by_kind}
use Rattle.polar.specs.Code.{information_count}
use Rattle.settings.specs.Settings.{
  largest_limit,
  largest_criterion,
  operand_fits,
  slices_fit,
  within_ceiling,
  decode_number,
}
use Rattle.scan.specs.Reading.{Reading, found, malformed, bind}
use Rattle.scan.specs.Lines.{line}
use Rattle.scan.specs.ScanLaws.{bind-found}
use Rattle.report_input.specs.Input.{
  longest_text,
  outside_ranges,
  outside_mask,
  outside_llr,
  value_at,
  unsigned,
  mask_value,
  llr_value,
  setting_values,
  settings_of,
  head,
  PositionInput,
  read_position,
  Block,
  block_of,
  above,
  read_positions,
  largest_lengths,
  block_number,
  refused,
  number_in,
  held_in,
  tested,
  sized,
  meaning_in,
  largest_room,
  meaning,
}
use Rattle.report_input.specs.InputLaws.{number-in, held_whole}
use Rattle.report_input.specs.WholeNumbers.{
  line_values,
  column,
  is_number,
  numbered_from,
  in_range,
  all_of,
  any_of,
  operand_in_range,
  whole_number,
  whole_tested,
  whole_sized,
  whole_text_number,
}

-- ---- one value

range-whole : (low high : ℕ) (z : ℤ) → high < outside_ranges → between low high (unsigned z) ≡ in_range low high z
range-whole low high (pos n) h = refl
range-whole low high (negsuc n) h = rw (lt-leb outside_ranges high h) (and-false (leb low outside_ranges))

up-to-whole : (high : ℕ) (z : ℤ) → high < outside_ranges → leb (unsigned z) high ≡ in_range 0 high z
up-to-whole high (pos n) h = rw (leb-zero n)
up-to-whole high (negsuc n) h = lt-leb outside_ranges high h

position-whole : (p : ℕ) (z : ℤ) → p < outside_ranges → eqb (unsigned z) p ≡ is_number p z
position-whole p (pos n) h = refl
position-whole p (negsuc n) h = ne_eqb outside_ranges p (λ e. omega arith)

zero-whole : (z : ℤ) → eqb (unsigned z) 0 ≡ in_range 0 0 z
zero-whole (pos zero) = refl
zero-whole (pos (suc n)) = rw (eqb-suc-zero n, leb-suc-zero n) (sym (and-false (leb 0 (suc n))))
zero-whole (negsuc n) = refl

-- a number in a range is not below zero
in-range : (low high : ℕ) (z : ℤ) → in_range low high z ≡ true → unsigned z ≡ nat_abs z
in-range low high (pos n) e = refl
in-range low high (negsuc n) e = absurd (true≢false (sym e))

operand-whole : (C : ℕ) (criterion operand : ℤ) → C < outside_ranges → in_range 0 largest_criterion criterion ≡ true
    → operand_fits C (unsigned criterion) (unsigned operand) ≡ operand_in_range C criterion operand
operand-whole C (pos zero) operand h e = zero-whole operand
operand-whole C (pos (suc zero)) operand h e = zero-whole operand
operand-whole C (pos (suc (suc zero))) operand h e = range-whole 1 C operand h
operand-whole C (pos (suc (suc (suc zero)))) operand h e = range-whole 1 8 operand (lit< tt)
operand-whole C (pos (suc (suc (suc (suc n))))) operand h e = range-whole 1 C operand h
operand-whole C (negsuc n) operand h e = absurd (true≢false (sym e))

-- 256 is no 0 and no 1, and neither is -1
mask-bit : (z : ℤ) → leb (mask_value z) 1 ≡ in_range 0 1 z
mask-bit (pos zero) = refl
mask-bit (pos (suc zero)) = refl
mask-bit (pos (suc (suc n))) =
    lt-leb (min (suc (suc n)) outside_mask) 1 (omega arith)
    ∙ sym (rw (lt-leb (suc (suc n)) 1 (omega arith)) (and-false (leb 0 (suc (suc n)))))
mask-bit (negsuc n) = refl

mask-zero : (z : ℤ) → by_kind (mask_value z) true (λ bit. false) ≡ in_range 0 0 z
mask-zero (pos zero) = refl
mask-zero (pos (suc n)) =
    ap (λ (k : ℕ). by_kind k true (λ bit. false)) least
    ∙ sym (rw (lt-leb (suc n) 0 (omega arith)) (and-false (leb 0 (suc n))))
  where
    least : min (suc n) outside_mask ≡ suc (min n 254)
    least = omega arith
mask-zero (negsuc n) = refl

-- What a value is cut to lies outside every range. The laws that rest on these numbers take them as given (`..-by`);
-- the laws at the end show them, each by itself, so that each says by itself where a number breaks it.
record Outside : Type 0 where
  ceilings : largest_ceiling < outside_ranges
  positions : most_positions ≤ outside_ranges
  sizes : largest_ceiling < outside_llr

-- 65,539 is no 3
llr-size-by : Outside → (C : ℕ) (z : ℤ) → C ≤ largest_ceiling → leb (nat_abs (llr_value z)) C ≡ leb (nat_abs z) C
llr-size-by out C z h =
    ap (λ (n : ℕ). leb n C) (size-flipped (is_negative z) (pos (min (nat_abs z) outside_llr))) ∙ cut (nat_abs z)
  where
    cut : (n : ℕ) → leb (min n outside_llr) C ≡ leb n C
    cut n = either (leb n outside_llr) refl
      where
        either : (small : Bool) → leb n outside_llr ≡ small → leb (min n outside_llr) C ≡ leb n C
        either true e =
            let le : n ≤ outside_llr = leb-true n outside_llr e in
            let same : min n outside_llr ≡ n = omega arith in rw same
        either false e =
            let gt : outside_llr < n = leb-false n outside_llr e in
            lt-leb (min n outside_llr) C (omega arith) ∙ sym (lt-leb n C (omega arith))

-- ---- the first n values

mask-bits : (n : ℕ) (mask : List ℤ) → mask_accepted n (map mask_value mask) ≡ all_of n (in_range 0 1) mask
mask-bits zero mask = refl
mask-bits (suc n) mask =
    ap₂ ◌&&◌ (mask-bits n mask)
    (ap (λ (k : ℕ). leb k 1) (get_or-map mask_value mask n (pos 0)) ∙ mask-bit (get_or mask n (pos 0)))

mask-some : (n : ℕ) (mask : List ℤ) → leb 1 (information_count (map mask_value mask) n) ≡ any_of n (in_range 0 0) mask
mask-some zero mask = refl
mask-some (suc n) mask =
    rw (get_or-map mask_value mask n (pos 0), ← mask-some n mask, ← mask-zero (get_or mask n (pos 0)))
    (one_more (information_count (map mask_value mask) n) (mask_value (get_or mask n (pos 0))))
  where
    one_more : (count kind : ℕ)
        → leb 1 (count + by_kind kind 1 (λ bit. 0)) ≡ (leb 1 count || by_kind kind true (λ bit. false))
    one_more zero zero = refl
    one_more zero (suc k) = refl
    one_more (suc c) zero = le-leb 1 (suc c + 1) (omega arith) ∙ sym (rw (le-leb 1 (suc c) (omega arith)))
    one_more (suc c) (suc k) = rw (add-zero (suc c), le-leb 1 (suc c) (omega arith))

llr-sizes-by : Outside → (n C : ℕ) (llr : List ℤ) → C ≤ largest_ceiling
    → within_ceiling n C (map llr_value llr) ≡ all_of n (λ l. leb (nat_abs l) C) llr
llr-sizes-by out zero C llr h = refl
llr-sizes-by out (suc n) C llr h =
    ap₂ ◌&&◌ (llr-sizes-by out n C llr h)
    (ap (λ (z : ℤ). leb (nat_abs z) C) (get_or-map llr_value llr n (pos 0))
    ∙ llr-size-by out C (get_or llr n (pos 0)) h)

-- ---- the whole chain of tests

room_fits : (m n k : ℕ) → m ≤ largest_m → n ≡ 2 ^ m → k ≡ 2 ^ m → slices_fit m n k largest_lengths ≡ true
room_fits m n k h e f =
    let small : 2 ^ m ≤ 2 ^ 10 = pow_mono h in
    let columns : 2 * (m + 1) ≤ 22 = omega arith in
    let work : 2 * (m + 1) * 2 ^ m ≤ 22 * 2 ^ 10 = mul-le-mul columns small in
    rw (
      le-leb (2 ^ m) n (omega arith),
      le-leb (2 ^ m) k (omega arith),
      le-leb (2 ^ m) most_positions small,
      le-leb (2 * (m + 1) * 2 ^ m) most_workspace work,
    )

next-test : (t t' : Bool) (number x y z : ℕ) → t ≡ t' → (t' ≡ true → first_refusal x y ≡ z)
    → first_refusal (check t (suc number) x) y ≡ check t' (suc number) z
next-test true true number x y z e same = same refl
next-test true false number x y z e same = absurd (true≢false e)
next-test false true number x y z e same = absurd (true≢false (sym e))
next-test false false number x y z e same = refl

-- the number of a block is that of the whole numbers that it was read from
block-whole-by : Outside → (zs mask llr : List ℤ) → length mask ≡ 2 ^ nat_abs (value_at zs 0)
    → length llr ≡ 2 ^ nat_abs (value_at zs 0)
    → decode_number (settings_of zs) (map mask_value mask) (map llr_value llr) largest_lengths
    ≡ whole_number zs mask llr
block-whole-by out zs mask llr mask-long llr-long =
    next-test _ _ 0 _ _ _ (range-whole 1 largest_m (value_at zs 0) (lit< tt)) (λ one.
    next-test _ _ 1 _ _ _ (range-whole 1 largest_ceiling (value_at zs 1) out.ceilings) (λ two.
    next-test _ _ 2 _ _ _ (range-whole 1 largest_scale (value_at zs 2) (lit< tt)) (λ three.
    next-test _ _ 3 _ _ _ (range-whole 1 largest_limit (value_at zs 3) (lit< tt)) (λ four.
    next-test _ _ 4 _ _ _ (up-to-whole largest_criterion (value_at zs 4) (lit< tt)) (λ five.
    let m : unsigned (value_at zs 0) ≡ nat_abs (value_at zs 0) = in-range 1 largest_m (value_at zs 0) one in
    let m-range : (1 ≤ nat_abs (value_at zs 0)) × (nat_abs (value_at zs 0) ≤ largest_m) =
    between-passed 1 largest_m (nat_abs (value_at zs 0))
    (rw (← m) (range-whole 1 largest_m (value_at zs 0) (lit< tt) ∙ one)) in
    let C : unsigned (value_at zs 1) ≡ nat_abs (value_at zs 1) = in-range 1 largest_ceiling (value_at zs 1) two in
    let C-range : (1 ≤ nat_abs (value_at zs 1)) × (nat_abs (value_at zs 1) ≤ largest_ceiling) =
    between-passed 1 largest_ceiling (nat_abs (value_at zs 1))
    (rw (← C) (range-whole 1 largest_ceiling (value_at zs 1) out.ceilings ∙ two)) in
    let operand : operand_fits (unsigned (value_at zs 1)) (unsigned (value_at zs 4)) (unsigned (value_at zs 5))
    ≡ operand_in_range (nat_abs (value_at zs 1)) (value_at zs 4) (value_at zs 5) =
    rw C (operand-whole (nat_abs (value_at zs 1)) (value_at zs 4) (value_at zs 5) (omega arith) five) in
    next-test _ _ 5 _ _ _ operand (λ six.
    rw (
      m,
      C,
      length-map mask mask_value,
      length-map llr llr_value,
      room_fits (nat_abs (value_at zs 0)) (length mask) (length llr) m-range.1 mask-long llr-long,
      mask-bits (2 ^ nat_abs (value_at zs 0)) mask,
      mask-some (2 ^ nat_abs (value_at zs 0)) mask,
      llr-sizes-by out (2 ^ nat_abs (value_at zs 0)) (nat_abs (value_at zs 1)) llr C-range.1,
    )))))))

-- ---- the lines of a text

abbrev block_in : List (List ℤ) → Block
block_in lines = block_of (map mask_value (column 1 lines)) (map llr_value (column 2 lines))

-- that block, where the lines are numbered from p on
abbrev block_from : ℕ → List (List ℤ) → List ℕ → Reading Block
block_from p lines s = cond (numbered_from p lines) (found (block_in lines) s) malformed

lines-block : (n p : ℕ) (s : List ℕ) → p + n ≤ outside_ranges
    → read_positions n p s ≡ bind (line_values n s) (block_from p)
unfolding read_positions read_position line_values
lines-block zero p s h = refl
lines-block (suc n) p s h = first (line 3 s) (λ u. lines-block n (suc p) u (omega arith))
  where
    position : List ℤ → PositionInput
    position zs = record { frozen = mask_value (value_at zs 1); llr = llr_value (value_at zs 2) }

    numbered : (ok : Bool) (r : PositionInput) (b : Block) (w : List ℕ)
        → bind (cond ok (found b w) malformed) (λ b s. found (above r b) s) ≡ cond ok (found (above r b) w) malformed
    numbered true r b w = refl
    numbered false r b w = refl

    more : (ok : Bool) (zs : List ℤ) (u : List ℕ) (R : Reading (List (List ℤ))) → is_number p (value_at zs 0) ≡ ok
        → read_positions n (suc p) u ≡ bind R (block_from (suc p))
        → bind (cond ok (found (position zs) u) malformed)
        (λ r s. bind (read_positions n (suc p) s) (λ b s. found (above r b) s))
        ≡ bind (bind R (λ lines s. found (zs ∷ lines) s)) (block_from p)
    more true zs u (found lines w) e same =
        rw (e, same) (numbered (numbered_from (suc p) lines) (position zs) _ w)
    more true zs u malformed e same = rw same
    more false zs u (found lines w) e same = rw e
    more false zs u malformed e same = refl

    first : (R : Reading (List ℤ))
        → ((u : List ℕ) → read_positions n (suc p) u ≡ bind (line_values n u) (block_from (suc p)))
        → bind
        (bind R (λ zs s. cond (eqb (unsigned (value_at zs 0)) p) (found (position zs) s) malformed))
        (λ r s. bind (read_positions n (suc p) s) (λ b s. found (above r b) s))
        ≡ bind (bind R (λ zs s. bind (line_values n s) (λ lines s. found (zs ∷ lines) s))) (block_from p)
    first malformed same = refl
    first (found zs u) same =
        rw (position-whole p (value_at zs 0) (omega arith))
        (more (is_number p (value_at zs 0)) zs u (line_values n u) refl (same u))

lines-length : (n : ℕ) (s : List ℕ) (lines : List (List ℤ)) (u : List ℕ) → line_values n s ≡ found lines u
    → length lines ≡ n
unfolding line_values
lines-length zero s lines u e = let h : [] ≡ lines = cc in rw (← h)
lines-length (suc n) s lines u e =
    let (zs, v, _, e₁) = bind-found (line 3 s) (λ zs s. bind (line_values n s) (λ l s. found (zs ∷ l) s)) lines u e in
    let (rest, w, g, e₂) = bind-found (line_values n v) (λ l s. found (zs ∷ l) s) lines u e₁ in
    let h : zs ∷ rest ≡ lines = cc in rw (← h) (ap suc (lines-length n v rest w g))

-- ---- the number of a text

tested-whole-by : Outside → (zs : List ℤ) (R : Reading (List (List ℤ))) → 2 ^ nat_abs (value_at zs 0) ≤ most_positions
    → ((lines : List (List ℤ)) (u : List ℕ) → R ≡ found lines u → length lines ≡ 2 ^ nat_abs (value_at zs 0))
    → number_in (tested largest_room (settings_of zs) (bind R (block_from 0))) ≡ whole_tested zs R
tested-whole-by out zs malformed small long = refl
tested-whole-by out zs (found lines (x ∷ u)) small long = either (numbered_from 0 lines)
  where
    either : (ok : Bool)
        → number_in (tested largest_room (settings_of zs) (cond ok (found (block_in lines) (x ∷ u)) malformed)) ≡ 14
    either true = refl
    either false = refl
tested-whole-by out zs (found lines []) small long = either (numbered_from 0 lines)
  where
    either : (ok : Bool)
        → number_in (tested largest_room (settings_of zs) (cond ok (found (block_in lines) []) malformed))
        ≡ check ok 14 (whole_number zs (column 1 lines) (column 2 lines))
    either true =
        let n = 2 ^ nat_abs (value_at zs 0) in
        let mask : length (block_in lines).mask ≡ n = simp length-map (long lines [] refl) in
        let llr : length (block_in lines).llr ≡ n = simp length-map (long lines [] refl) in
        let whole = held_whole largest_room n (block_in lines) (record { mask-long = mask; llr-long = llr })
        (record { mask-room = small; llr-room = small }) in
        number-in (block_number (settings_of zs) (held_in largest_room (block_in lines))) (settings_of zs)
        (block_in lines)
        ∙ ap (block_number (settings_of zs)) whole
        ∙ block-whole-by out zs (column 1 lines) (column 2 lines) (simp length-map (long lines [] refl))
        (simp length-map (long lines [] refl))
    either false = refl

sized-whole-by : Outside → (R : Reading (List ℤ))
    → number_in (sized largest_room (bind R (λ zs s. found (settings_of zs) s))) ≡ whole_sized R
sized-whole-by out malformed = refl
sized-whole-by out (found zs s) =
    rw (range-whole 1 largest_m (value_at zs 0) (lit< tt)) (either (in_range 1 largest_m (value_at zs 0)) refl)
  where
    either : (ok : Bool) → in_range 1 largest_m (value_at zs 0) ≡ ok
        → number_in
        (cond ok (tested largest_room (settings_of zs) (read_positions (2 ^ unsigned (value_at zs 0)) 0 s)) (refused 1))
        ≡ check ok 1 (whole_tested zs (line_values (2 ^ nat_abs (value_at zs 0)) s))
    either true e =
        let m : unsigned (value_at zs 0) ≡ nat_abs (value_at zs 0) = in-range 1 largest_m (value_at zs 0) e in
        let range = between-passed 1 largest_m (nat_abs (value_at zs 0))
        (rw (← m) (range-whole 1 largest_m (value_at zs 0) (lit< tt) ∙ e)) in
        let small : 2 ^ nat_abs (value_at zs 0) ≤ 2 ^ 10 = pow_mono range.1 in
        ap (λ (k : ℕ). number_in (tested largest_room (settings_of zs) (read_positions (2 ^ k) 0 s))) m
        ∙ rw (lines-block (2 ^ nat_abs (value_at zs 0)) 0 s (omega arith))
        (tested-whole-by out zs (line_values (2 ^ nat_abs (value_at zs 0)) s) small
        (lines-length (2 ^ nat_abs (value_at zs 0)) s))
    either false e = refl

-- ---- the same laws at the numbers as they are

llr-size : (C : ℕ) (z : ℤ) → C ≤ largest_ceiling → leb (nat_abs (llr_value z)) C ≡ leb (nat_abs z) C
llr-size = llr-size-by (record { ceilings = lit< tt; positions = omega arith; sizes = lit< tt })

llr-sizes : (n C : ℕ) (llr : List ℤ) → C ≤ largest_ceiling
    → within_ceiling n C (map llr_value llr) ≡ all_of n (λ l. leb (nat_abs l) C) llr
llr-sizes = llr-sizes-by (record { ceilings = lit< tt; positions = omega arith; sizes = lit< tt })

block-whole : (zs mask llr : List ℤ) → length mask ≡ 2 ^ nat_abs (value_at zs 0)
    → length llr ≡ 2 ^ nat_abs (value_at zs 0)
    → decode_number (settings_of zs) (map mask_value mask) (map llr_value llr) largest_lengths
    ≡ whole_number zs mask llr
block-whole = block-whole-by (record { ceilings = lit< tt; positions = omega arith; sizes = lit< tt })

tested-whole : (zs : List ℤ) (R : Reading (List (List ℤ))) → 2 ^ nat_abs (value_at zs 0) ≤ most_positions
    → ((lines : List (List ℤ)) (u : List ℕ) → R ≡ found lines u → length lines ≡ 2 ^ nat_abs (value_at zs 0))
    → number_in (tested largest_room (settings_of zs) (bind R (block_from 0))) ≡ whole_tested zs R
tested-whole = tested-whole-by (record { ceilings = lit< tt; positions = omega arith; sizes = lit< tt })

sized-whole : (R : Reading (List ℤ))
    → number_in (sized largest_room (bind R (λ zs s. found (settings_of zs) s))) ≡ whole_sized R
sized-whole = sized-whole-by (record { ceilings = lit< tt; positions = omega arith; sizes = lit< tt })

-- for every text, its number is that of its values as they are written
pub compared_whole : (t : List ℕ) → number_in (meaning t) ≡ whole_text_number t
unfolding head meaning meaning_in whole_text_number
compared_whole t = either (leb (length t) longest_text)
  where
    either : (ok : Bool)
        → number_in (cond ok (sized largest_room (head t)) (refused 14)) ≡ check ok 14 (whole_sized (setting_values t))
    either true =
        sized-whole-by
        (record { ceilings = lit< tt; positions = omega arith; sizes = lit< tt })
        (setting_values t)
    either false = refl
