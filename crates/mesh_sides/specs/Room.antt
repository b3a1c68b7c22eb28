-- What the functions of rows 3 to 6 ask of the lent slices: entries that are read and stored are in range. Assumes nothing.
use Rattle.std.specs.Prelude.{ℕ, ◌+◌, ◌*◌, ◌%◌, ◌≤◌, ◌<◌, ◌^◌, ◌≡◌, List, length, ℤ}
use Rattle.std.proofs.Common.{sym, ap, ◌∙◌, arith}
use Rattle.std.proofs.Math.Decide.{dec_lt}
use Rattle.definitions.specs.Mesh.{next, prev, org, fronted}
use Rattle.theory_sphere.specs.Fronted.{listed, listed-outer, listed-moved, listed_kept, org-fronted}
use Rattle.scratch_tables.specs.Tables.{column, past_darts, dart_in, vertex_in}
use Rattle.mesh_tables.specs.Incidence.{incidence, set_dart, set_list}
use Rattle.mesh_model.specs.IncidenceLists.{Empty, Counted, put_first, fill}
use Rattle.mesh_model.specs.Bounds.{Bounded, bounded_next, bounded_prev, fill_bounded}

-- ---- the lists are filled

-- dart d has room in front of the list of v
pub record Pushing (s : List ℤ) (d v : ℕ) : Type 0 where
  pub place : dart_in (length s) d
  pub small : d < 65536
  pub vertex : vertex_in (length s) v
  pub origin : v < 65536
  pub number : (incidence s).number v + 1 < 65536

-- the two stores that put a dart in front
pub pushed : (d : ℕ) (s s₁ s₂ : List ℤ) (v f k : ℕ) → f ≡ (incidence s).first v → k ≡ (incidence s).number v
    → incidence s₁ ≡ set_dart d f v (incidence s) → incidence s₂ ≡ set_list v d (k + 1) (incidence s₁)
    → incidence s₂ ≡ put_first d v (incidence s)
pushed d s s₁ s₂ v f k b c x y = rw (y, x, b, c)

-- The three darts from d on have, in the mesh whose outer triangle is in front.
pub record PushingThree (outer_place : ℕ) (ts : List ℕ) (s : List ℤ) (d : ℕ) : Type 0 where
  pub there : 3 * outer_place + 3 ≤ length ts
  pub first : d % 3 ≡ 0
  pub three : d + 3 ≤ length ts
  pub few : length ts < 65536
  pub darts : length ts ≤ past_darts (length s)
  pub vertex : (e : ℕ) → vertex_in (length s) (org (fronted outer_place ts) e)
  pub count : Counted (fronted outer_place ts) (d + 3) (incidence s)

-- their corners, as the code reads them from the list as lent
module _ {outer_place : ℕ} {ts : List ℕ} {s : List ℤ} {d : ℕ} (P : PushingThree outer_place ts s d) (place : ℕ) (is : place ≡ listed outer_place d) where
  pub corners-there : place + 2 < length ts
  corners-there = rw is (go (dec_lt d 3))
    where
      go : Dec (d < 3) → listed outer_place d + 2 < length ts
      go (yes h) = omega (arith, P.there, P.first, listed-outer outer_place d h)
      go (no h) = elim (dec_lt d (3 * outer_place + 3)) [
        | yes l ↦ omega (arith, h, P.three, listed-moved outer_place d (omega (arith, h)) l)
        | no l ↦ omega (arith, P.three, listed_kept outer_place d (omega (arith, l)))
      ]

  -- the three darts of a triangle stand together
  together : (e : ℕ) → e < 3 → listed outer_place (d + e) ≡ place + e
  together e h = rw is (go (dec_lt d 3))
    where
      go : Dec (d < 3) → listed outer_place (d + e) ≡ listed outer_place d + e
      go (yes l) = omega (arith, P.first, listed-outer outer_place d l, listed-outer outer_place (d + e) (omega (arith, P.first)))
      go (no l) = elim (dec_lt d (3 * outer_place + 3)) [
        | yes m ↦
            omega (
              arith,
              l,
              listed-moved outer_place d (omega (arith, l)) m,
              listed-moved outer_place (d + e) (omega (arith, l)) (omega (arith, P.first)),
            )
        | no m ↦ omega (arith, listed_kept outer_place d (omega (arith, m)), listed_kept outer_place (d + e) (omega (arith, m)))
      ]

  pub corner_is : (e v : ℕ) → e < 3 → v ≡ org ts (place + e) → v ≡ org (fronted outer_place ts) (d + e)
  corner_is e v h q = q ∙ sym (org-fronted outer_place ts P.there (d + e) ∙ ap (org ts) (together e h))

-- The code has them at `place`.
pub record PushingAt (ts : List ℕ) (s : List ℤ) (place d : ℕ) : Type 0 where
  pub outer_place : ℕ
  pub room : PushingThree outer_place ts s d
  pub is : place ≡ listed outer_place d

-- The triangles from `low` on and before `high` have: some behind the outer one, or some before it. The lists hold the darts of those from `high` on at
-- most.
pub record Fillable (outer_place : ℕ) (ts : List ℕ) (s : List ℤ) (low high : ℕ) : Type 0 where
  pub there : 3 * outer_place + 3 ≤ length ts
  pub some : 0 < low
  pub order : low ≤ high
  pub side : low ≤ outer_place → high ≤ outer_place + 1
  pub top : 3 * high ≤ length ts
  pub few : length ts < 65536
  pub darts : length ts ≤ past_darts (length s)
  pub vertex : (d : ℕ) → vertex_in (length s) (org (fronted outer_place ts) d)
  pub count : Counted (fronted outer_place ts) (3 * high) (incidence s)

-- every dart has, and the lists are empty
pub record Filling (ts : List ℕ) (s : List ℤ) : Type 0 where
  pub whole : length ts % 3 ≡ 0
  pub few : length ts < 65536
  pub darts : length ts ≤ past_darts (length s)
  pub vertex : (d : ℕ) → vertex_in (length s) (org ts d)
  pub empty : Empty (incidence s)

-- ---- the sides are matched

-- Dart e of vertex v has its word, and so have d, a dart beside it, and the origin of d.
pub record Beside (s : List ℤ) (v e d : ℕ) : Type 0 where
  pub dart : dart_in (length s) e
  pub few : e < 65536
  pub other : dart_in (length s) d
  pub vertex : vertex_in (length s) ((incidence s).origin d)
  pub small : v < 2 ^ 32

-- vertex v has its word, and all is in range
pub record AtVertex (s : List ℤ) (v : ℕ) : Type 0 where
  pub triangles : ℕ
  pub bounds : Bounded triangles (length s) (incidence s)
  pub vertex : vertex_in (length s) v
  pub small : v < 2 ^ 32

-- n vertices have
pub record Ready (n : ℕ) (s : List ℤ) : Type 0 where
  pub triangles : ℕ
  pub bounds : Bounded triangles (length s) (incidence s)
  pub vertices : n ≤ column (length s)
  pub small : n < 2 ^ 32

module _ {T v e : ℕ} (s : List ℤ) (B : Bounded T (length s) (incidence s)) (h : e < 3 * T) (small : v < 2 ^ 32) where
  pub beside_next : Beside s v e (next e)
  beside_next = let p = bounded_next B e h in
      record { dart = omega (arith, B.room); few = omega (arith, B.few); other = p.0; vertex = p.1; small = small }

  pub beside_prev : Beside s v e (prev e)
  beside_prev = let p = bounded_prev B e h in
      record { dart = omega (arith, B.room); few = omega (arith, B.few); other = p.0; vertex = p.1; small = small }

-- where the lists are filled, all is in range
pub filled_ready : (n T : ℕ) (ts : List ℕ) (s s' : List ℤ) → Filling ts s → length ts ≡ 3 * T → 0 < T → n ≤ column (length s) → n < 2 ^ 32 →
    length s' ≡ length s → incidence s' ≡ fill ts (length ts) (incidence s) → Ready n s'
filled_ready n T ts s s' F whole some vertices small l e = record {
  triangles = T;
  bounds =
      rw (l, e) (fill_bounded ts (incidence s) F.empty (omega arith) T (length s) whole (omega (arith, F.darts)) (omega (arith, F.few)) F.vertex);
  vertices = omega arith;
  small = small;
}
