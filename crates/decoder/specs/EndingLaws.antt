-- Laws of the ending: the first iteration where the criterion holds, or the last one.
use Rattle.std.specs.Prelude.{ℕ, zero, suc, ◌+◌, ◌-◌, ◌≤◌, ◌<◌, ◌≡◌, Bool, true, false}
use Rattle.std.proofs.Common.{◌∙◌, add-zero, add-suc, suc-add, arith}
use Rattle.std.proofs.Math.Decide.{dec_lt}
use Rattle.decoder.specs.Decoder.{ending_from, ending_of}

module _ (holds_at : ℕ → Bool) where
  -- it holds at t, and at none from a to before t
  found_from : (n a t : ℕ) → a ≤ t → t ≤ a + n → ((j : ℕ) → a ≤ j → j < t → holds_at j ≡ false) → holds_at t ≡ true
      → ending_from holds_at a n ≡ record { iteration = t; reason = 1 }
  found_from zero a t low high none ok = let e : a ≡ t = omega arith in rw (e, ok)
  found_from (suc n) a t low high none ok =
      go (dec_lt a t) (λ l. found_from n (suc a) t l (omega arith) (λ j p q. none j (omega arith) q) ok)
    where
      go : Dec (a < t) → (a < t → ending_from holds_at (suc a) n ≡ record { iteration = t; reason = 1 })
          → ending_from holds_at a (suc n) ≡ record { iteration = t; reason = 1 }
      go (yes l) later = rw (none a (omega arith) l) (later l)
      go (no g) later = let e : a ≡ t = omega arith in rw (e, ok)

  -- it holds at none from a to a + n
  last-from : (n a : ℕ) → ((j : ℕ) → a ≤ j → j ≤ a + n → holds_at j ≡ false)
      → ending_from holds_at a n ≡ record { iteration = a + n; reason = 2 }
  last-from zero a none = rw (none a (omega arith) (omega arith), add-zero a)
  last-from (suc n) a none =
      rw (none a (omega arith) (omega arith), add-suc a n)
      (last-from n (suc a) (λ j p q. none j (omega arith) (omega arith)) ∙ rw suc-add)

  pub ending-found : (t T : ℕ) → 1 ≤ t → t ≤ T → ((j : ℕ) → 1 ≤ j → j < t → holds_at j ≡ false) → holds_at t ≡ true
      → ending_of holds_at T ≡ record { iteration = t; reason = 1 }
  ending-found t T low high none ok = found_from (T - 1) 1 t low (omega arith) none ok

  pub ending-last : (T : ℕ) → 1 ≤ T → ((j : ℕ) → 1 ≤ j → j ≤ T → holds_at j ≡ false)
      → ending_of holds_at T ≡ record { iteration = T; reason = 2 }
  ending-last T low none =
      let e : 1 + (T - 1) ≡ T = omega arith in
      last-from (T - 1) 1 (λ j p q. none j p (omega arith)) ∙ rw e
