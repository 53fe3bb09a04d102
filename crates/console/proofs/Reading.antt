-- A read after earlier ones: its bytes stand after theirs, which stay.
use Rattle.std.proofs.Common.{ℕ, ◌+◌, ◌≤◌, ◌≡◌, ◌++◌, List, Option, None, Some, length, take, ap, sym, ◌∙◌, arith}
use Rattle.std.proofs.Common.{append_assoc, length-take-le}
use Rattle.std.proofs.lemmas.List.{take-append-le}
use Rattle.std.proofs.Math.Seq.{take-append-add}
use Rattle.std.specs.Io.KnownBytes.{Consumes}
use borrow.Rule.Slice.PartMut.{put_mid, post_of}

pub consumes-after : (before between after : Option (List ℕ)) (x y : List ℕ) → Consumes before between x
    → Consumes between after y → Consumes before after (x ++ y)
consumes-after None between after x y h l = tt
consumes-after (Some b) None after x y h l = absurd h
consumes-after (Some b) (Some c) None x y h l = absurd l
consumes-after (Some b) (Some c) (Some d) x y h l = grind (arith, append_assoc)

pub take-after : (text now : List ℕ) (n k more : ℕ) → n ≤ length text → more ≤ length now
    → take (n + more) (put_mid n k text now) ≡ take n text ++ take more now
take-after text now n k more h l =
    ap (λ (m : ℕ). take (m + more) (put_mid n k text now)) (sym (length-take-le n text h))
    ∙ take-append-add (take n text) (now ++ post_of n k text) more
    ∙ ap (λ (z : List ℕ). take n text ++ z) (take-append-le more now (post_of n k text) l)

pub ruleset reading = (consumes-after, take-after)
