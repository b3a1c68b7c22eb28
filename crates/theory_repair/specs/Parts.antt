-- Which coordinate of a vertex a triangle's weight goes to. The map of unit weights, 1 on one inner triangle, gives each vertex one coordinate 1 and
-- two coordinates 0. Assumes nothing.
use Rattle.std.specs.Prelude.{ℕ, zero, suc, ◌+◌, ◌-◌, ◌/◌, ◌≤◌, ◌<◌, ◌≡◌, refl, ◌≢◌, Bool, true, false, not, ◌&&◌, List, length}
use Rattle.std.proofs.Common.{arith}
use Rattle.definitions.specs.Forward.{crosses}
use Rattle.theory_realizer.specs.Units.{Units, bit, unit0, unit1, vertex_at, same?}

-- the weight of triangle u is part of coordinate c of vertex i
abbrev pub is_part : ℕ → List ℕ → List ℕ → ℕ → ℕ → ℕ → Bool
is_part n ts ls zero i u = crosses n ts ls 1 i u
is_part n ts ls (suc zero) i u = crosses n ts ls 0 i u
is_part n ts ls (suc (suc c)) i u = not (crosses n ts ls 1 i u) && not (crosses n ts ls 0 i u)

-- coordinate c of vertex i under the weights 1 on u
abbrev pub unit : ℕ → List ℕ → List ℕ → ℕ → ℕ → ℕ → ℕ
unit n ts ls zero u i = unit0 n ts ls u i
unit n ts ls (suc zero) u i = unit1 n ts ls u i
unit n ts ls (suc (suc c)) u i = 1 - unit0 n ts ls u i - unit1 n ts ls u i

rest : (a b : Bool) → 1 - bit a - bit b ≡ bit (not a && not b)
rest true true = refl
rest true false = refl
rest false true = refl
rest false false = refl

pub unit-is_part : (n : ℕ) (ts ls : List ℕ) (c u i : ℕ) → unit n ts ls c u i ≡ bit (is_part n ts ls c i u)
unit-is_part n ts ls zero u i = refl
unit-is_part n ts ls (suc zero) u i = refl
unit-is_part n ts ls (suc (suc c)) u i = rest (crosses n ts ls 1 i u) (crosses n ts ls 0 i u)

neither : (a b : Bool) → bit a + bit b ≤ 1 → bit a + bit b + bit (not a && not b) ≡ 1
neither true true h = omega arith
neither true false h = refl
neither false true h = refl
neither false false h = refl

module _ (n : ℕ) (ts ls : List ℕ) (U : Units n ts ls) where
  -- of exactly one of the three
  pub one-is_part : (u i : ℕ) → 0 < u → u < length ts / 3 → i < n →
      bit (is_part n ts ls 0 i u) + bit (is_part n ts ls 1 i u) + bit (is_part n ts ls 2 i u) ≡ 1
  one-is_part u i h k l = neither (crosses n ts ls 1 i u) (crosses n ts ls 0 i u) (U.inside u i h k l)

  -- In triangle t, where coordinate c of another corner has the weight of u, that of the corner labelled c has it too; and of t's own weight, only that.
  pub is_part_most : (u t : ℕ) → 0 < u → u < length ts / 3 → 0 < t → t < length ts / 3 → (c a : ℕ) → c < 3 → a < 3 → a ≢ c →
      bit (is_part n ts ls c (vertex_at ts ls t a) u) + same? t u ≤ bit (is_part n ts ls c (vertex_at ts ls t c) u)
  is_part_most u t hu ku ht kt zero a hc ha d = U.most0 u t a hu ku ht kt (omega arith) ha
  is_part_most u t hu ku ht kt (suc zero) a hc ha d = U.most1 u t a hu ku ht kt ha d
  is_part_most u t hu ku ht kt (suc (suc zero)) a hc ha d =
      omega (
        arith,
        U.most2 u t a hu ku ht kt (omega arith),
        one-is_part u (vertex_at ts ls t a) hu ku (U.below t a ht kt ha),
        one-is_part u (vertex_at ts ls t 2) hu ku (U.below t 2 ht kt (omega arith)),
      )
  is_part_most u t hu ku ht kt (suc (suc (suc c))) a hc ha d = absurd (omega arith)
