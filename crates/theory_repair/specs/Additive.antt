-- Weights that add up give coordinates that add up. This needs only the definition of the forward map. Assumes nothing.
use Prim.Native.Nat.{ℕ, zero, suc, ◌-◌, ◌/◌}
use Rattle.std.specs.Prelude.{◌≡◌, get_or, pos, ◌+ℤ◌, ◌-ℤ◌}
use Rattle.std.proofs.Math.Path.{refl, ap}
use Rattle.std.proofs.Common.{ap₂, sym, ◌∙◌, arith}
use Rattle.std.proofs.Math.Bool.{cond}
use mathlib.Core.List.{List, [], ◌∷◌, ◌++◌, flat_map}
use Rattle.std.proofs.Math.ListN.{length}
use Rattle.std.proofs.Math.IntN.{ℤ}
use Rattle.definitions.specs.Lists.{upto, total}
use Rattle.definitions.specs.Mesh.{inner}
use Rattle.definitions.specs.Forward.{weight, crosses, crossed_weight, coordinates_of, forward}
use Rattle.laws.specs.Integers.{int, +-swap, z+, z-}
use Rattle.laws.specs.Sums.{sum_same, sum-plus}
use Rattle.theory_repair.specs.Raises.{share-sum}

-- the sums of two lists, place by place
unfoldable pub plus : List ℤ → List ℤ → List ℤ
plus [] ys = []
plus (x ∷ xs) [] = []
plus (x ∷ xs) (y ∷ ys) = (x +ℤ y) ∷ plus xs ys

get_or-plus : (xs ys : List ℤ) (i : ℕ) → length xs ≡ length ys → get_or (plus xs ys) i (pos 0) ≡ get_or xs i (pos 0) +ℤ get_or ys i (pos 0)
unfolding plus
get_or-plus [] [] i e = refl
get_or-plus [] (y ∷ ys) i e = absurd (omega arith)
get_or-plus (x ∷ xs) [] i e = absurd (omega arith)
get_or-plus (x ∷ xs) (y ∷ ys) zero e = refl
get_or-plus (x ∷ xs) (y ∷ ys) (suc i) e = get_or-plus xs ys i (omega arith)

total-plus : (xs ys : List ℤ) → length xs ≡ length ys → total (plus xs ys) ≡ total xs +ℤ total ys
unfolding plus total
total-plus [] [] e = refl
total-plus [] (y ∷ ys) e = absurd (omega arith)
total-plus (x ∷ xs) [] e = absurd (omega arith)
total-plus (x ∷ xs) (y ∷ ys) e = ap (λ (z : ℤ). x +ℤ y +ℤ z) (total-plus xs ys (omega arith)) ∙ +-swap x y (total xs) (total ys)

plus_append : (ws xs ys zs : List ℤ) → length ws ≡ length ys → plus (ws ++ xs) (ys ++ zs) ≡ plus ws ys ++ plus xs zs
unfolding plus
plus_append [] xs [] zs e = refl
plus_append [] xs (y ∷ ys) zs e = absurd (omega arith)
plus_append (w ∷ ws) xs [] zs e = absurd (omega arith)
plus_append (w ∷ ws) xs (y ∷ ys) zs e = ap (λ (vs : List ℤ). (w +ℤ y) ∷ vs) (plus_append ws xs ys zs (omega arith))

flat_map-plus : (f g h : ℕ → List ℤ) → ((i : ℕ) → h i ≡ plus (f i) (g i)) → ((i : ℕ) → length (f i) ≡ length (g i)) → (us : List ℕ) →
    flat_map h us ≡ plus (flat_map f us) (flat_map g us)
unfolding flat_map plus
flat_map-plus f g h e l [] = refl
flat_map-plus f g h e l (u ∷ us) =
    ap₂ ◌++◌ (e u) (flat_map-plus f g h e l us) ∙ sym (plus_append (f u) (flat_map f us) (g u) (flat_map g us) (l u))

module _ (n : ℕ) (ts ls : List ℕ) (ws ws' : List ℤ) (same : length ws ≡ length ws') where
  weight-plus : (u : ℕ) → weight (plus ws ws') u ≡ weight ws u +ℤ weight ws' u
  unfolding weight
  weight-plus zero = refl
  weight-plus (suc u) = get_or-plus ws ws' u same

  crossed_weight-plus : (c i : ℕ) → crossed_weight n ts ls (plus ws ws') c i ≡ crossed_weight n ts ls ws c i +ℤ crossed_weight n ts ls ws' c i
  unfolding crossed_weight inner
  crossed_weight-plus c i =
      let f : List ℤ → ℕ → ℤ = λ vs u. cond (crosses n ts ls c i u) (weight vs u) (pos 0) in
      let k = length ts / 3 - 1 in
      sum_same (f (plus ws ws')) (λ u. f ws u +ℤ f ws' u) 1 k
      (λ u l m.
      ap (λ (x : ℤ). cond (crosses n ts ls c i u) x (pos 0)) (weight-plus u) ∙ share-sum (crosses n ts ls c i u) (weight ws u) (weight ws' u))
      ∙ sum-plus (f ws) (f ws') 1 k

  rest-plus : (N N' a a' b b' : ℤ) → (N +ℤ N') -ℤ (a +ℤ a') -ℤ (b +ℤ b') ≡ (N -ℤ a -ℤ b) +ℤ (N' -ℤ a' -ℤ b')
  rest-plus N N' a a' b b' =
      omega (
        int,
        z+ N N',
        z+ a a',
        z+ b b',
        z- (N +ℤ N') (a +ℤ a'),
        z- (N +ℤ N' -ℤ (a +ℤ a')) (b +ℤ b'),
        z- N a,
        z- (N -ℤ a) b,
        z- N' a',
        z- (N' -ℤ a') b',
        z+ (N -ℤ a -ℤ b) (N' -ℤ a' -ℤ b'),
      )

  coordinates_of-plus : (i : ℕ) → coordinates_of n ts ls (plus ws ws') i ≡ plus (coordinates_of n ts ls ws i) (coordinates_of n ts ls ws' i)
  unfolding coordinates_of plus
  coordinates_of-plus i =
      let a = crossed_weight n ts ls ws 1 i in
      let a' = crossed_weight n ts ls ws' 1 i in
      let b = crossed_weight n ts ls ws 0 i in
      let b' = crossed_weight n ts ls ws' 0 i in
      rw (crossed_weight-plus 1 i, crossed_weight-plus 0 i, total-plus ws ws' same, rest-plus (total ws) (total ws') a a' b b')

  -- the coordinates of the sum are the sums of the coordinates
  pub forward-plus : forward n ts ls (plus ws ws') ≡ plus (forward n ts ls ws) (forward n ts ls ws')
  unfolding forward
  forward-plus = flat_map-plus (coordinates_of n ts ls ws) (coordinates_of n ts ls ws') (coordinates_of n ts ls (plus ws ws')) coordinates_of-plus (λ i. refl)
      (upto n)
