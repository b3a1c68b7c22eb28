-- The tests and stores of the code, put together to the definitions of the work: each law has its premises as the code hands them over.
-- Assumes nothing.
use Prim.Native.Nat.{ℕ, zero, suc, ◌+◌, ◌-◌, ◌≤◌, ◌<◌}
use Rattle.std.specs.Prelude.{◌≡◌, true, false}
use Rattle.std.proofs.Math.Path.{refl, sym}
use Rattle.std.proofs.Common.{ap, ◌∙◌}
use native.Mathlib.Omega.{arith}
use Rattle.laws.specs.Lists.{clash}
use Rattle.scratch_tables.specs.Tables.{vertex_in}
use Rattle.labels_tables.specs.Peeling.{Peeling, set_vertex, set_degree, set_left, set_right}
use Rattle.labels_search.specs.Sets.{add_to, take_from, emptied, Summed, is_empty}
use Rattle.labels_search.specs.Sets as Sets
use Rattle.labels_search.specs.Stores.{with_sets}
use Rattle.labels_model.specs.Model.{add_frontier_dart, is_removable, take_lowest, find_removable, remove_next, remove_all}
use Rattle.labels_model.specs.Model.{clear_vertices, init_degrees, init_frontier, init}
use Rattle.labels_model.specs.Counters.{with_sets_beside, with_sets-degree}
use Rattle.labels_model.specs.Candidates.{can_same}
use Rattle.labels_model.specs.MinSearch.{Lowest, some_left, lowest_vertex, lowest-before, taken, taken_higher}
use Rattle.labels_model.proofs.Init.{clear-turn, clear-origin}
use Rattle.labels_model.specs.Simulation.{remove_all-suc}
use Rattle.labels_model.specs.Preconditions.{Room, HasMesh, CanSearch, Stands, mesh-kept}
use Rattle.labels_model.proofs.Preconditions.{stands_next, stands_start}

-- ---- the search

-- candidates that cannot leave are taken; t₀ were the tables at the start
pub record Search (n : ℕ) (t₀ t : Peeling) : Type 0 where
  pub vertex : ℕ
  pub lowest : Lowest n t vertex
  pub fuel : ℕ
  pub enough : vertex ≤ Sets.lowest n t.sets + fuel
  pub rest : find_removable n fuel t ≡ find_removable n n t₀

pub search_start : (n : ℕ) (t : Peeling) → CanSearch n t → Search n t t
search_start n t c = record {
  vertex = c.vertex;
  lowest = c.lowest;
  fuel = n;
  enough = omega (arith, c.lowest.below);
  rest = refl;
}

module _ {n : ℕ} {t₀ t : Peeling} (S : Search n t₀ t) where
  pub search_asks : Summed n t.sets × (is_empty t.sets ≡ false)
  search_asks = (S.lowest.candidates.summed, some_left S.lowest)

  pub search_vertex : (v words : ℕ) → Room n words → v ≡ Sets.lowest n t.sets → vertex_in words v
  search_vertex v words r e = omega (arith, e, lowest_vertex S.lowest, r.room)

  module _ (t' : Peeling) (v : ℕ) (e : v ≡ Sets.lowest n t.sets) (q : t' ≡ with_sets (take_from n t.sets) t) where
    taking : t' ≡ take_lowest n t
    unfolding take_lowest
    taking = q

    same_test : is_removable t' v ≡ is_removable t (Sets.lowest n t.sets)
    same_test = can_same t t' v (ap (λ (p : Peeling). p.degree v) q ∙ ap (λ (f : ℕ → ℕ). f v) (with_sets-degree (take_from n t.sets) t))
        (ap (λ (p : Peeling). p.origin) q ∙ (with_sets_beside (take_from n t.sets) t).origins) ∙ ap (is_removable t) e

    last_try : (k : ℕ) → is_removable t (Sets.lowest n t.sets) ≡ true → find_removable n k t ≡ record { vertex = v; tables = t' }
    unfolding find_removable
    last_try zero y = rw (e, taking)
    last_try (suc k) y = rw (y, e, taking)

    pub search_over : true ≡ is_removable t' v → find_removable n n t₀ ≡ record { vertex = v; tables = t' }
    search_over y = sym S.rest ∙ last_try S.fuel (sym same_test ∙ sym y)

    not_able : false ≡ is_removable t' v → is_removable t (Sets.lowest n t.sets) ≡ false
    not_able y = sym same_test ∙ sym y

    further : (k : ℕ) → false ≡ is_removable t' v → S.vertex ≤ Sets.lowest n t.sets + k →
        (j : ℕ) × (k ≡ suc j) × (find_removable n k t ≡ find_removable n j (take_lowest n t))
    unfolding find_removable
    further zero y h =
        absurd (clash S.lowest.able (ap (is_removable t) (omega (arith, h, lowest-before S.lowest)) ∙ not_able y))
    further (suc k) y h = (k, refl, rw (not_able y))

    pub search_less : false ≡ is_removable t' v → n - Sets.lowest n t'.sets < n - Sets.lowest n t.sets
    search_less y = rw taking (omega (arith, taken_higher S.lowest (not_able y), lowest_vertex S.lowest))

    pub search_on : false ≡ is_removable t' v → Search n t₀ t'
    search_on y =
        let f = further S.fuel y S.enough in
        rw taking (record {
          vertex = S.vertex;
          lowest = taken S.lowest (not_able y);
          fuel = f.0;
          enough = omega (arith, taken_higher S.lowest (not_able y), S.enough, f.1);
          rest = sym f.2 ∙ S.rest;
        })

-- ---- the vertices in turn

-- what is left of the removals comes to all of them; t₀ were the tables at the start
pub record Removal (n : ℕ) (t₀ t : Peeling) (i : ℕ) : Type 0 where
  pub stands : i + 2 < n → Stands n i t
  pub rest : remove_all n (n - 2 - i) i t ≡ remove_all n (n - 2) 0 t₀

module _ {n : ℕ} {t₀ t : Peeling} {i : ℕ} (R : Removal n t₀ t i) where
  pub removal_on : (t' : Peeling) → i + 2 < n → t' ≡ remove_next n i t → Removal n t₀ t' (i + 1)
  removal_on t' h e =
      let j : n - 2 - i ≡ suc (n - 2 - (i + 1)) = omega arith in
      let k : suc i ≡ i + 1 = omega arith in
      record {
        stands = λ l. stands_next (R.stands h) t' (omega arith) e;
        rest = rw (j, remove_all-suc n (n - 2 - (i + 1)) i t, sym e, k) at R.rest;
      }

  pub removal_over : n ≤ i + 2 → t ≡ remove_all n (n - 2) 0 t₀
  unfolding remove_all
  removal_over h = let j : n - 2 - i ≡ 0 = omega arith in rw j at R.rest

-- ---- the start

clear_vertices-suc : (k v : ℕ) (t : Peeling) → clear_vertices (suc k) v t ≡ clear_vertices k (suc v) (set_vertex v 0 0 0 t)
unfolding clear_vertices
clear_vertices-suc k v t = refl

module _ (n v : ℕ) (t t' end : Peeling) where
  pub clear_vertices-more : v < n → t' ≡ set_vertex v 0 0 0 t → clear_vertices (n - v) v t ≡ end → clear_vertices (n - (v + 1)) (v + 1) t' ≡ end
  clear_vertices-more h e q =
      let j : n - v ≡ suc (n - (v + 1)) = omega arith in
      let k : suc v ≡ v + 1 = omega arith in
      rw (j, clear_vertices-suc (n - (v + 1)) v t, sym e, k) at q

pub clear_vertices-over : (n v : ℕ) (t end : Peeling) → n ≤ v → clear_vertices (n - v) v t ≡ end → t ≡ end
unfolding clear_vertices
clear_vertices-over n v t end h q = let j : n - v ≡ 0 = omega arith in rw j at q

-- the mesh is there throughout
module _ {n : ℕ} {t t' : Peeling} (m : HasMesh n t) where
  pub mesh_cleared : t' ≡ clear_vertices n 0 t → HasMesh n t'
  mesh_cleared e = rw e (mesh-kept (clear-turn n 0 t) (clear-origin n 0 t) m)

  pub mesh_degrees : t' ≡ init_degrees t → HasMesh n t'
  unfolding init_degrees set_degree
  mesh_degrees e = rw e (mesh-kept refl refl m)

  pub mesh_frontier : t' ≡ init_frontier t → HasMesh n t'
  unfolding init_frontier add_frontier_dart set_left set_right
  mesh_frontier e = rw e (mesh-kept refl refl m)

  pub begins : n ≤ 4096 → t' ≡ init n t → Stands n 0 t'
  begins most e = rw e (stands_start m most)
