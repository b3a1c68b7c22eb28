-- The search for the smallest vertex that can leave takes candidates, the lowest first, until it comes to it. Assumes nothing.
use Prim.Native.Nat.{ℕ, zero, suc, ◌+◌, ◌≤◌}
use Rattle.std.specs.Prelude.{◌≡◌}
use Rattle.std.proofs.Math.Path.{refl}
use Rattle.std.proofs.Common.{arith}
use Rattle.std.proofs.Math.Logic.{inl, inr}
use Rattle.laws.specs.Lists.{tested}
use Rattle.labels_tables.specs.Peeling.{Peeling}
use Rattle.labels_search.specs.Sets.{lowest}
use Rattle.labels_search.specs.Stores.{with_sets}
use Rattle.labels_model.specs.Model.{Found, is_removable, take_lowest, find_removable}
use Rattle.labels_model.specs.MinSearch.{Lowest, lowest-before, found, taken_candidates, taken, taken_higher, Sought}

module _ {n w : ℕ} where
  sought_here : (t : Peeling) → Lowest n t w → lowest n t.sets ≡ w →
      Sought n t w (record { vertex = lowest n t.sets; tables = take_lowest n t })
  unfolding take_lowest with_sets
  sought_here t L e = record { here = e; tables = refl; candidates = rw e at (taken_candidates L) }

  sought_later : (t : Peeling) (f : Found) → Sought n (take_lowest n t) w f → Sought n t w f
  unfolding take_lowest with_sets
  sought_later t f S = record { here = S.here; tables = S.tables; candidates = S.candidates }

  sought_from : (k : ℕ) (t : Peeling) → Lowest n t w → w ≤ lowest n t.sets + k → Sought n t w (find_removable n k t)
  unfolding find_removable
  sought_from zero t L h = sought_here t L (omega (arith, lowest-before L))
  sought_from (suc k) t L h = elim (tested (is_removable t (lowest n t.sets))) [
    | inl e ↦ rw e (sought_here t L (found L e))
    | inr e ↦ rw e (sought_later t (find_removable n k (take_lowest n t)) (sought_from k (take_lowest n t) (taken L e) (omega (arith, taken_higher L e))))
  ]

  pub sought : (t : Peeling) → Lowest n t w → Sought n t w (find_removable n n t)
  sought t L = sought_from n t L (omega (arith, L.below))
