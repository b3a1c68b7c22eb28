-- What the code asks of the tables before each of its steps, it finds so: after one triangle of a fan the next, where a vertex leaves, and from the start on.
-- Assumes nothing.
use Prim.Native.Nat.{ℕ, suc, ◌+◌, ◌*◌, ◌/◌, ◌≤◌, ◌<◌}
use Rattle.std.specs.Prelude.{◌≡◌, refl, ◌≢◌, Bool, ◌||◌, List, [], ◌∷◌, ◌++◌, eqb, length}
use Rattle.std.proofs.Common.{sym, ap, subst, ◌∙◌, arith}
use mathlib.Core.List.Memᴰ
use Rattle.definitions.specs.Mesh.{triangles_length, next, prev, org, tip, opp}
use Rattle.theory_realizer.specs.Trace.{Fan, end, more}
use Rattle.labels_tables.specs.Peeling.{Peeling}
use Rattle.labels_model.specs.Model.{enter_frontier, pass_triangle, leave_frontier}
use Rattle.labels_model.specs.Model.{find_removable, remove_next, init}
use Rattle.labels_model.specs.Counters.{Meshed}
use Rattle.labels_model.specs.FrontierInsert.{Marked}
use Rattle.labels_model.specs.LabelTriangle.{Coded}
use Rattle.labels_model.specs.LabelFan.{Fresh, tip-next, prior_is, fan_shape}
use Rattle.labels_model.proofs.LabelFan.{mesh2, coded2, marked2, fresh2}
use Rattle.labels_model.proofs.Step.{left_is, right_is, left-tip, right_tip, meshed₀, coded₀, marked₀, fresh₀, left_many, right_many, F₀}
use Rattle.labels_model.specs.Simulation.{Turn}
use Rattle.labels_model.proofs.Simulation.{turn, found, stood₁, turned, next_stood}
use Rattle.labels_model.proofs.Init.{begun}
use Rattle.labels_model.specs.Preconditions.{HasMesh, Accepted, CanPass, CanLeave, CanSearch, Stands, darts_are, pass_dart}

-- ---- a fan

-- the next triangle, with the vertex between on the frontier
module _ {n : ℕ} (a : Accepted n) (v last right : ℕ) (ends : tip a.triangles last ≡ right) (P : List ℕ) (F : ℕ → Bool) (t : Peeling)
    (o : Meshed a.triangles t) (c : Coded P t) (M : Marked n a.triangles F t) where
  abbrev u : ℕ → ℕ
  u g = org a.triangles (prev g)

  pass_next : {g : ℕ} {gs : List ℕ} → Fan (length a.triangles / 3) (org a.triangles) (opp a.triangles) last g gs →
      Fresh n a.triangles a.sphere a.whole v right P F gs → u g ≢ right
      → CanPass n right (opp a.triangles (prev g)) (enter_frontier n (u g) (prev g) (pass_triangle g t))
  pass_next {g} (end b e) f h =
      absurd (h (sym (tip-next n a.triangles a.sphere a.whole right 0 g t o b) ∙ ap (tip a.triangles) e ∙ ends))
  pass_next {g} (more {gs = gs} b fan') f h =
      let ts = a.triangles in
      let shape = fan_shape fan' in
      record {
        mesh = a;
        vertex = v;
        last = last;
        passed = P ++ (g ∷ []);
        frontier = λ w. eqb w (u g) || F w;
        darts = gs;
        meshed = mesh2 n ts a.sphere a.whole v right P F t o c M g gs shape f;
        coded = coded2 n ts a.sphere a.whole v right P F t o c M g gs shape f;
        marked = marked2 n ts a.sphere a.whole v right P F t o c M g gs shape f;
        fan = fan';
        ends = ends;
        fresh = fresh2 n ts a.sphere a.whole v right P F t o c M g gs shape f;
      }

pub pass_on : {n right g : ℕ} {t : Peeling} → CanPass n right g t → t.origin (prev g) ≢ right →
    CanPass n right (t.turn g) (enter_frontier n (t.origin (prev g)) (prev g) (pass_triangle g t))
pass_on {n} {right} {g} {t} c h =
    let a = c.mesh in
    let b : g < 3 * (length a.triangles / 3) = omega (arith, pass_dart c, darts_are a, a.whole) in
    let e : t.origin (prev g) ≡ org a.triangles (prev g) = prior_is n a.triangles a.sphere a.whole right 0 g t c.meshed b in
    let q : t.turn g ≡ opp a.triangles (prev g) = c.meshed.turns g (omega (arith, b, a.whole)) in
    rw (e, q) (pass_next a c.vertex c.last right c.ends c.passed c.frontier t c.meshed c.coded c.marked c.fan c.fresh
    (λ z. h (e ∙ z)))

-- ---- a vertex leaves

module _ {n v : ℕ} {t : Peeling} (c : CanLeave n v t) where
  abbrev ts₁ : List ℕ
  ts₁ = c.mesh.triangles

  pub leave-mesh : HasMesh n t
  leave-mesh = record { mesh = c.mesh; meshed = c.stood.meshed }

  left-dart : c.left < 3 * (length ts₁ / 3)
  left-dart = (c.inv.this c.left (Memᴰ.tail c.leaves.this)).below

  right_dart : c.right < 3 * (length ts₁ / 3)
  right_dart = (c.inv.this c.right (Memᴰ.tail c.leaves.that)).below

  left-same : t.left v ≡ c.left
  left-same = rw (sym c.vertex) (left_is n ts₁ c.mesh.sphere c.mesh.whole c.inv c.leaves c.stood 0)

  right_same : t.right v ≡ c.right
  right_same = rw (sym c.vertex) (right_is n ts₁ c.mesh.sphere c.mesh.whole c.inv c.leaves c.stood 0)

  pub leave_vertex : v < n
  leave_vertex = rw (sym c.vertex) (c.mesh.sphere.vertex c.left left-dart)

  pub leave-left : t.left v < triangles_length n
  leave-left = rw left-same (omega (arith, left-dart, darts_are c.mesh, c.mesh.whole))

  pub leave_right : t.right v < triangles_length n
  leave_right = rw right_same (omega (arith, right_dart, darts_are c.mesh, c.mesh.whole))

  -- its neighbours
  left_neighbour : t.origin (next (t.left v)) ≡ tip ts₁ c.left
  left_neighbour = ap (λ (x : ℕ). t.origin (next x)) left-same ∙ (left-tip n ts₁ c.mesh.sphere c.mesh.whole c.inv c.leaves c.stood 0)

  right_neighbour : t.origin (t.right v) ≡ tip ts₁ (opp ts₁ c.right)
  right_neighbour = ap t.origin right_same ∙ (right_tip n ts₁ c.mesh.sphere c.mesh.whole c.inv c.leaves c.stood 0)

  pub left-two : 1 < t.degree (t.origin (next (t.left v)))
  left-two = rw left_neighbour (left_many n ts₁ c.mesh.sphere c.mesh.whole c.inv c.leaves c.stood 0)

  pub right_two : 1 < t.degree (t.origin (t.right v))
  right_two = rw right_neighbour (right_many n ts₁ c.mesh.sphere c.mesh.whole c.inv c.leaves c.stood 0)

  -- with the vertex off the frontier, its triangles can be passed
  left_pass : (i : ℕ) → CanPass n (tip ts₁ (opp ts₁ c.right)) c.left
      (leave_frontier n i (org ts₁ c.left) (tip ts₁ c.left) (tip ts₁ (opp ts₁ c.right)) t)
  left_pass i = record {
    mesh = c.mesh;
    vertex = org ts₁ c.left;
    last = opp ts₁ c.right;
    passed = c.passed;
    frontier = F₀ n ts₁ c.mesh.sphere c.mesh.whole c.inv c.leaves;
    darts = c.fan;
    meshed = meshed₀ n ts₁ c.mesh.sphere c.mesh.whole c.inv c.leaves c.stood i;
    coded = coded₀ n ts₁ c.mesh.sphere c.mesh.whole c.inv c.leaves c.stood i;
    marked = marked₀ n ts₁ c.mesh.sphere c.mesh.whole c.inv c.leaves c.stood i;
    fan = c.leaves.fan;
    ends = refl;
    fresh = fresh₀ n ts₁ c.mesh.sphere c.mesh.whole c.inv c.leaves c.stood i;
  }

  pub leave_pass : (i : ℕ) → CanPass n (t.origin (t.right v)) (t.left v) (leave_frontier n i v (t.origin (next (t.left v))) (t.origin (t.right v)) t)
  leave_pass i = rw (left_neighbour, right_neighbour, left-same) (rw c.vertex at (left_pass i))

-- ---- the vertices in turn

module _ {n i : ℕ} {t : Peeling} (c : Stands n i t) where
  abbrev ts₂ : List ℕ
  ts₂ = c.mesh.triangles

  abbrev Next : Type 0
  Next = Turn n ts₂ c.mesh.sphere c.mesh.whole c.removed c.frontier c.passed t

  next-turn : i + 2 < n → Next
  next-turn h = turn n ts₂ c.mesh.sphere c.mesh.whole c.standing h

  pub stands_search : i + 2 < n → CanSearch n t
  stands_search h = let m = next-turn h in record { vertex = org ts₂ m.e; lowest = m.lowest }

  -- what the search finds can leave
  leaves_found : (m : Next) → CanLeave n (find_removable n n t).vertex (find_removable n n t).tables
  leaves_found m = record {
    mesh = c.mesh;
    removed = c.removed;
    before = c.frontier;
    after = m.after;
    passed = c.passed;
    fan = m.fan;
    left = m.e;
    right = m.e';
    inv = c.standing.inv;
    leaves = m.leaves;
    stood = stood₁ n ts₂ c.mesh.sphere c.mesh.whole c.standing m;
    vertex = sym (found n ts₂ c.mesh.sphere c.mesh.whole c.standing m);
  }

  pub stands_leave : (v : ℕ) (t' : Peeling) → i + 2 < n → find_removable n n t ≡ record { vertex = v; tables = t' } → CanLeave n v t'
  stands_leave v t' h e = rw e at (leaves_found (next-turn h))

  stands_after : (m : Next) → i + 3 < n → Stands n (suc i) (remove_next n i t)
  stands_after m h = rw (turned n ts₂ c.mesh.sphere c.mesh.whole c.standing m) (record {
    mesh = c.mesh;
    removed = org ts₂ m.e ∷ c.removed;
    frontier = m.after;
    passed = c.passed ++ m.fan;
    standing = next_stood n ts₂ c.mesh.sphere c.mesh.whole c.standing m h;
  })

  -- unless it was the last, there is one after it
  pub stands_next : (t' : Peeling) → i + 3 < n → t' ≡ remove_next n i t → Stands n (i + 1) t'
  stands_next t' h e =
      let q : suc i ≡ i + 1 = omega arith in
      rw e (subst (λ (k : ℕ). Stands n k (remove_next n i t)) q (stands_after (next-turn (omega arith)) h))

-- at the start none has
pub stands_start : {n : ℕ} {t : Peeling} → HasMesh n t → n ≤ 4096 → Stands n 0 (init n t)
stands_start {n} {t} m most = record {
  mesh = m.mesh;
  removed = [];
  frontier = opp m.mesh.triangles 0 ∷ opp m.mesh.triangles 1 ∷ [];
  passed = [];
  standing = begun n m.mesh.triangles m.mesh.sphere m.mesh.whole t m.meshed most;
}
