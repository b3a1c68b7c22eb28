-- Degrees: what a store of one does to the degrees, and that it changes nothing beside them but the sets. Assumes nothing.
use Rattle.std.specs.Prelude.{ℕ, ◌*◌, ◌/◌, ◌<◌, ◌≡◌, ◌≢◌, List, eqb, length}
use Rattle.std.proofs.Math.Path.{refl}
use Rattle.std.proofs.Common.{ap, ◌∙◌, arith}
use Rattle.std.proofs.Math.Logic.{inl, inr}
use Rattle.definitions.specs.Mesh.{triangles_length, prev, org, opp}
use Rattle.laws.specs.Lists.{tested}
use Rattle.theory_sphere.specs.Sphere.{Sphere}
use Rattle.theory_sphere.specs.Darts.{prev-below}
use Rattle.scratch_tables.specs.Tables.{upd_same, upd_other}
use Rattle.labels_tables.specs.Peeling.{Peeling, set_degree}
use Rattle.labels_search.specs.Stores.{with_sets}
use Rattle.labels_model.specs.Model.{add_candidate, update_degree}

-- degrees and sets may differ, and nothing else does
pub record Beside (p p' : Peeling) : Type 0 where
  pub turns : p'.turn ≡ p.turn
  pub origins : p'.origin ≡ p.origin
  pub apexes : p'.apex ≡ p.apex
  pub lefts : p'.left ≡ p.left
  pub rights : p'.right ≡ p.right
  pub orders : p'.order ≡ p.order

pub beside_same : (p : Peeling) → Beside p p
beside_same p = record { turns = refl; origins = refl; apexes = refl; lefts = refl; rights = refl; orders = refl }

pub beside_then : {a b c : Peeling} → Beside a b → Beside b c → Beside a c
beside_then p q =
    record {
      turns = q.turns ∙ p.turns;
      origins = q.origins ∙ p.origins;
      apexes = q.apexes ∙ p.apexes;
      lefts = q.lefts ∙ p.lefts;
      rights = q.rights ∙ p.rights;
      orders = q.orders ∙ p.orders;
    }

-- the mesh is there
pub record Meshed (ts : List ℕ) (p : Peeling) : Type 0 where
  pub turns : (d : ℕ) → d < length ts → p.turn d ≡ opp ts (prev d)
  pub origins : (d : ℕ) → d < length ts → p.origin d ≡ org ts d

pub meshed_kept : {ts : List ℕ} {p p' : Peeling} → p'.turn ≡ p.turn → p'.origin ≡ p.origin → Meshed ts p → Meshed ts p'
meshed_kept a b m = record { turns = λ d h. rw a (m.turns d h); origins = λ d h. rw b (m.origins d h) }

pub meshed_beside : {ts : List ℕ} {p p' : Peeling} → Beside p p' → Meshed ts p → Meshed ts p'
meshed_beside b = meshed_kept b.turns b.origins

-- darts lead to darts and to vertices
pub record InRange (n : ℕ) (p : Peeling) : Type 0 where
  pub turn_in : (d : ℕ) → d < triangles_length n → p.turn d < triangles_length n
  pub origin_in : (d : ℕ) → d < triangles_length n → p.origin d < n

pub range-kept : {n : ℕ} {p p' : Peeling} → p'.turn ≡ p.turn → p'.origin ≡ p.origin → InRange n p → InRange n p'
range-kept a b r = record { turn_in = λ d h. rw a (r.turn_in d h); origin_in = λ d h. rw b (r.origin_in d h) }

pub range_beside : {n : ℕ} {p p' : Peeling} → Beside p p' → InRange n p → InRange n p'
range_beside b = range-kept b.turns b.origins

-- as those of an accepted mesh do
pub mesh-range : {n : ℕ} {ts : List ℕ} {p : Peeling} → Sphere n (length ts / 3) (org ts) (opp ts) → 3 * (length ts / 3) ≡ length ts → Meshed ts p →
    InRange n p
mesh-range {n} {ts} s len m = record {
  turn_in = λ d h. rw (m.turns d (omega (arith, s.size))) (omega (arith, s.dart (prev d) (prev-below (length ts / 3) d (omega (arith, s.size))), s.size));
  origin_in = λ d h. rw (m.origins d (omega (arith, s.size))) (s.vertex d (omega (arith, s.size)));
}

-- ---- a degree

module _ (w c : ℕ) (p : Peeling) where
  pub set_degree_beside : Beside p (set_degree w c p)
  unfolding set_degree
  set_degree_beside = record { turns = refl; origins = refl; apexes = refl; lefts = refl; rights = refl; orders = refl }

  pub set_degree-same : (set_degree w c p).degree w ≡ c
  unfolding set_degree
  set_degree-same = upd_same w c p.degree

  pub set_degree-other : (x : ℕ) → x ≢ w → (set_degree w c p).degree x ≡ p.degree x
  unfolding set_degree
  set_degree-other x h = upd_other w x c p.degree h

-- ---- other sets

module _ (f : ℕ → ℕ) (p : Peeling) where
  pub with_sets_beside : Beside p (with_sets f p)
  unfolding with_sets
  with_sets_beside = record { turns = refl; origins = refl; apexes = refl; lefts = refl; rights = refl; orders = refl }

  pub with_sets-degree : (with_sets f p).degree ≡ p.degree
  unfolding with_sets
  with_sets-degree = refl

  pub with_sets_sets : (with_sets f p).sets ≡ f
  unfolding with_sets
  with_sets_sets = refl

pub add_candidate_beside : (n w : ℕ) (p : Peeling) → Beside p (add_candidate n w p)
unfolding add_candidate
add_candidate_beside n w p = with_sets_beside _ p

pub add_candidate-degree : (n w : ℕ) (p : Peeling) → (add_candidate n w p).degree ≡ p.degree
unfolding add_candidate
add_candidate-degree n w p = with_sets-degree _ p

-- ---- a degree, with which its vertex may be able to leave

module _ (n w c : ℕ) (p : Peeling) where
  pub update_degree_beside : Beside p (update_degree n w c p)
  unfolding update_degree
  update_degree_beside =
      elim (tested (eqb c 3)) [
        | inl e ↦ rw e (beside_then (set_degree_beside w c p) (add_candidate_beside n w (set_degree w c p)))
        | inr e ↦ rw e (set_degree_beside w c p)
      ]

  -- of the degrees it is a plain store
  update_degree-degree : (update_degree n w c p).degree ≡ (set_degree w c p).degree
  unfolding update_degree
  update_degree-degree = elim (tested (eqb c 3)) [ inl e ↦ rw e (add_candidate-degree n w (set_degree w c p)) | inr e ↦ rw e ]

  pub update_degree-same : (update_degree n w c p).degree w ≡ c
  update_degree-same = ap (λ (f : ℕ → ℕ). f w) update_degree-degree ∙ set_degree-same w c p

  pub update_degree-other : (x : ℕ) → x ≢ w → (update_degree n w c p).degree x ≡ p.degree x
  update_degree-other x h = ap (λ (f : ℕ → ℕ). f x) update_degree-degree ∙ set_degree-other w c p x h
