-- Laws of `map`: of two lists one after the other, and of those that pass a test. Assumes nothing.
use Rattle.std.specs.Prelude.{◌≡◌, Bool}
use Rattle.std.proofs.Math.Path.{refl}
use Rattle.std.proofs.Common.{ap}
use Rattle.std.proofs.Math.Logic.{inl, inr}
use mathlib.Core.List.{List, [], ◌∷◌, ◌++◌, map}
use Rattle.definitions.specs.Lists.{filter}
use Rattle.laws.specs.Lists.{tested}

module _ {A B : Type 0} (f : A → B) where
  pub map_append : (xs ys : List A) → map f (xs ++ ys) ≡ map f xs ++ map f ys
  map_append [] ys = refl
  map_append (x ∷ xs) ys = ap (λ (r : List B). f x ∷ r) (map_append xs ys)

  pub filter_map : (p : B → Bool) (xs : List A) → filter p (map f xs) ≡ map f (filter (λ x. p (f x)) xs)
  unfolding filter
  filter_map p [] = refl
  filter_map p (x ∷ xs) =
      elim (tested (p (f x))) [
        | inl t ↦ rw t (ap (λ (r : List B). f x ∷ r) (filter_map p xs))
        | inr t ↦ rw t (filter_map p xs)
      ]
