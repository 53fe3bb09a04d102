-- Laws of the five slices: equal slice by slice, and long enough for a block.
use Rattle.std.specs.Prelude.{ℕ, ◌^◌, ◌≤◌, ◌≡◌, List, ℤ, length}
use Rattle.settings.specs.Slices.{Slices, slices, lengths_of}
use Rattle.settings.specs.SettingsLaws.{SlicesAccepted}

pub slices-same : {soft soft' : List ℤ} {mark mark' : List ℕ} {coded_soft coded_soft' : List ℤ}
    {coded_mark coded_mark' : List ℕ}
    {work work' : List ℤ} → soft ≡ soft' → mark ≡ mark' → coded_soft ≡ coded_soft' → coded_mark ≡ coded_mark'
    → work ≡ work'
    → slices soft mark coded_soft coded_mark work ≡ slices soft' mark' coded_soft' coded_mark' work'
slices-same a b c d e i = slices (a i) (b i) (c i) (d i) (e i)

-- the four outputs have room for the N positions of a block
pub record OutputsFit (N : ℕ) (l : Slices) : Type 0 where
  pub soft : N ≤ length l.soft
  pub mark : N ≤ length l.mark
  pub coded_soft : N ≤ length l.coded_soft
  pub coded_mark : N ≤ length l.coded_mark

pub outputs-fit : {m mask llr : ℕ} (l : Slices) → SlicesAccepted m mask llr (lengths_of l) → OutputsFit (2 ^ m) l
outputs-fit l a = record {
  soft = a.soft-long;
  mark = a.mark-long;
  coded_soft = a.coded-soft-long;
  coded_mark = a.coded-mark-long;
}

-- whatever the workspace
pub fit-with : {N : ℕ} {l : Slices} (w : List ℤ) → OutputsFit N l
    → OutputsFit N (slices l.soft l.mark l.coded_soft l.coded_mark w)
fit-with w h = record { soft = h.soft; mark = h.mark; coded_soft = h.coded_soft; coded_mark = h.coded_mark }
