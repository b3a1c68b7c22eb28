-- The work of the peeling on the tables, as pure functions in the shape of the code. Definitions only.
-- `degree w` is 0 for a vertex w that is not on the frontier, and one more than the number of its frontier neighbours for one that is. `left` and `right`
-- are, for a frontier vertex, the frontier's dart that leaves it and the one that leads to it. `sets` has every vertex that can leave, and perhaps others:
-- a vertex is added where its degree comes to 3. `order i` is the i-th vertex that leaves. `turn` and `origin` are the mesh, and stay.
use Rattle.std.specs.Prelude.{ℕ, zero, suc, ◌+◌, ◌-◌, ◌*◌, ◌%◌, Bool, not, ◌&&◌, cond, ltb, eqb}
use Rattle.definitions.specs.Mesh.{tri, next, prev}
use Rattle.labels_tables.specs.Peeling.{Peeling, set_apex, set_vertex, set_degree, set_left, set_right, set_order}
use Rattle.labels_search.specs.Sets.{add_to, lowest, take_from, emptied}
use Rattle.labels_search.specs.Stores.{with_sets}

-- so many neighbours, and the tables after they were counted
pub record Counted : Type 0 where
  pub count : ℕ
  pub tables : Peeling

-- a vertex, and the tables after the search for it
pub record Found : Type 0 where
  pub vertex : ℕ
  pub tables : Peeling

-- ---- degrees

module _ (n : ℕ) where
  -- w may be able to leave
  unfoldable pub add_candidate : ℕ → Peeling → Peeling
  add_candidate w p = with_sets (add_to n w p.sets) p

  -- the degree of w, with which it may be able to leave
  unfoldable pub update_degree : ℕ → ℕ → Peeling → Peeling
  update_degree w c p = cond (eqb c 3) (add_candidate w (set_degree w c p)) (set_degree w c p)

  -- w has one frontier neighbour more, or one less
  unfoldable pub increment_degree : ℕ → Peeling → Peeling
  increment_degree w p = update_degree w (p.degree w + 1) p

  unfoldable pub decrement_degree : ℕ → Peeling → Peeling
  decrement_degree w p = update_degree w (p.degree w - 1) p

  -- ---- a vertex comes onto the frontier

  -- w is a neighbour of a vertex that comes onto the frontier and has counted c: where w is on the frontier they count each other
  unfoldable pub count_neighbour : ℕ → ℕ → Peeling → Counted
  count_neighbour w c p = cond (ltb 0 (p.degree w)) (record { count = c + 1; tables = increment_degree w p }) (record { count = c; tables = p })

  -- the neighbours that k turns from dart d on lead to, or as many as there are before `first` comes again
  unfoldable pub count_neighbours : ℕ → ℕ → ℕ → ℕ → Peeling → Counted
  count_neighbours first zero d c p = record { count = c; tables = p }
  count_neighbours first (suc k) d c p =
      let r = count_neighbour (p.origin (prev d)) c p in
      cond (eqb (p.turn d) first) r (count_neighbours first k (p.turn d) r.count r.tables)

  -- u comes onto the frontier; d is one of its darts
  unfoldable pub enter_frontier : ℕ → ℕ → Peeling → Peeling
  enter_frontier u d p =
      let r = count_neighbours d (6 * n) d 1 p in
      update_degree u r.count r.tables

-- ---- a vertex leaves the frontier

-- a new dart of the frontier, from v to w
unfoldable pub add_frontier_dart : ℕ → ℕ → ℕ → Peeling → Peeling
add_frontier_dart v w x p = set_left v x (set_right w x p)

-- the triangle of the leaving vertex's dart g is passed: label 2 is at the vertex, and the dart across from it is the frontier's now
unfoldable pub pass_triangle : ℕ → Peeling → Peeling
pass_triangle g p = add_frontier_dart (p.origin (prev g)) (p.origin (next g)) (p.turn (prev g)) (set_apex (tri g) (g % 3) p)

module _ (n : ℕ) where
  -- k triangles of the leaving vertex from that of g on, or as many as there are before the one that ends at `right`; the vertices between come
  -- onto the frontier
  unfoldable pub pass_fan : ℕ → ℕ → ℕ → Peeling → Peeling
  pass_fan right zero g p = p
  pass_fan right (suc k) g p =
      let u = p.origin (prev g) in
      cond (eqb u right) (pass_triangle g p) (pass_fan right k (p.turn g) (enter_frontier n u (prev g) (pass_triangle g p)))

  -- v leaves as the i-th, from between `left` and `right`
  unfoldable pub leave_frontier : ℕ → ℕ → ℕ → ℕ → Peeling → Peeling
  leave_frontier i v left right p = set_order i v (set_degree v 0 (decrement_degree n right (decrement_degree n left p)))

  unfoldable pub remove_vertex : ℕ → ℕ → Peeling → Peeling
  remove_vertex i v p =
      let g = p.left v in
      let left = p.origin (next g) in
      let right = p.origin (p.right v) in
      pass_fan right (6 * n) g (leave_frontier i v left right p)

-- ---- the search for the smallest vertex that can leave

-- v is on the frontier, is not v0 or v1, and has two frontier neighbours
unfoldable pub is_removable : Peeling → ℕ → Bool
is_removable p v = eqb (p.degree v) 3 && not (eqb v (p.origin 0)) && not (eqb v (p.origin 2))

module _ (n : ℕ) where
  -- the lowest candidate is taken
  unfoldable pub take_lowest : Peeling → Peeling
  take_lowest p = with_sets (take_from n p.sets) p

  -- candidates are taken, k + 1 at most, until one can leave
  unfoldable pub find_removable : ℕ → Peeling → Found
  find_removable zero p = record { vertex = lowest n p.sets; tables = take_lowest p }
  find_removable (suc k) p =
      let v = lowest n p.sets in
      cond (is_removable p v) (record { vertex = v; tables = take_lowest p }) (find_removable k (take_lowest p))

  -- ---- the vertices in turn

  -- the smallest vertex that can leave does, as the i-th
  unfoldable pub remove_next : ℕ → Peeling → Peeling
  remove_next i p = let f = find_removable n p in remove_vertex n i f.vertex f.tables

  -- k vertices leave, as the i-th and so on
  unfoldable pub remove_all : ℕ → ℕ → Peeling → Peeling
  remove_all zero i p = p
  remove_all (suc k) i p = remove_all k (suc i) (remove_next i p)

-- ---- the start

-- the words of k vertices from v on
unfoldable pub clear_vertices : ℕ → ℕ → Peeling → Peeling
clear_vertices zero v p = p
clear_vertices (suc k) v p = clear_vertices k (suc v) (set_vertex v 0 0 0 p)

-- each of the outer vertices has the two others as frontier neighbours
unfoldable pub init_degrees : Peeling → Peeling
init_degrees p = set_degree (p.origin 2) 3 (set_degree (p.origin 1) 3 (set_degree (p.origin 0) 3 p))

unfoldable pub init_frontier : Peeling → Peeling
init_frontier p = add_frontier_dart (p.origin 2) (p.origin 1) (p.turn 2) (add_frontier_dart (p.origin 1) (p.origin 0) (p.turn 1) p)

module _ (n : ℕ) where
  -- v2 can leave, v0 and v1 never do
  unfoldable pub init_sets : Peeling → Peeling
  init_sets p = add_candidate n (p.origin 1) (with_sets (emptied n p.sets) p)

  unfoldable pub init : Peeling → Peeling
  init p = init_sets (init_frontier (init_degrees (clear_vertices n 0 p)))

  -- the whole stage
  unfoldable pub peel_tables : Peeling → Peeling
  peel_tables p = remove_all n (n - 2) 0 (init p)
