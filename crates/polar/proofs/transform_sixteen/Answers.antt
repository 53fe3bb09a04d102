-- `transform_sixteen` meets its contract: after s steps the sixteen hold column s.
use Rattle.std.proofs.Common.{ℕ, ◌≡◌, refl, List, arith}
use Rattle.calls.specs.LentMemory.{overwrite}
use Rattle.polar.specs.BlockLaws.{Bits}
use Rattle.polar.proofs.Steps.{stepped, Columned, columned-none, columned-bits, columned-next, columned-all}
use Rattle.polar.proofs.transform_sixteen.Goals as goal

module _ {old x : List ℕ} (bits : Bits 16 old) (e : x ≡ overwrite 16 (stepped 3 old) old) where
  first : Columned 4 1 old x
  first = columned-next (columned-none bits) bits (omega arith) _ e

  module _ {y : List ℕ} (f : y ≡ overwrite 16 (stepped 2 x) x) where
    second : Columned 4 2 old y
    second = columned-next first bits (omega arith) _ f

    third : {z : List ℕ} → z ≡ overwrite 16 (stepped 1 y) y → Columned 4 3 old z
    third g = columned-next second bits (omega arith) _ g

pub butterflies-requires-2-clause-bits : goal.butterflies-requires-2-clause-bits
butterflies-requires-2-clause-bits c = columned-bits (first c.requires c.butterflies.ensures) c.requires

pub butterflies-requires-3-clause-bits : goal.butterflies-requires-3-clause-bits
butterflies-requires-3-clause-bits c =
    columned-bits (second c.requires c.butterflies.ensures c.butterflies-2.ensures) c.requires

pub butterflies-requires-4-clause-bits : goal.butterflies-requires-4-clause-bits
butterflies-requires-4-clause-bits c =
    columned-bits (third c.requires c.butterflies.ensures c.butterflies-2.ensures c.butterflies-3.ensures) c.requires

pub returns : goal.returns
returns c =
    columned-all
    (columned-next (third c.requires c.butterflies.ensures c.butterflies-2.ensures c.butterflies-3.ensures) c.requires
    (omega arith) _ c.butterflies-4.ensures)
    refl
