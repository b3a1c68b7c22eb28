-- What the code asks of the tables before each of its steps: scratch has room, the mesh is there, walks end, and degrees stay low. Assumes nothing.
use Prim.Native.Nat.{ℕ, zero, suc, ◌-◌, ◌*◌, ◌/◌, ◌≤◌, ◌<◌}
use Rattle.std.specs.Prelude.{◌≡◌, refl, ◌≢◌, Bool, List, ◌∷◌, eqb, length}
use Rattle.std.proofs.Common.{sym, ap, ◌∙◌, inl, inr, arith}
use mathlib.Core.List.Memᴰ
use borrow.Author.Tests.{eq-eqb, ne_eqb}
use Rattle.definitions.specs.Lists.{iterate, upto}
use Rattle.definitions.specs.Mesh.{triangles_length, prev, org, tip, opp, rot, outgoing}
use Rattle.laws.specs.Lists.{◌∈◌, tested, in_upto, length-upto}
use Rattle.laws.specs.Counting.{distinct_within}
use Rattle.theory_sphere.specs.Sphere.{Sphere}
use Rattle.theory_sphere.specs.Darts.{prev-below}
use Rattle.theory_sphere.specs.Accept.{sphere_period}
use Rattle.theory_realizer.specs.Trace.{Fan, end, more}
use Rattle.theory_peeling.specs.Inside.{Inv}
use Rattle.theory_peeling.specs.Fan.{Leaves}
use Rattle.theory_peeling.specs.Peel.{rest}
use Rattle.labels_tables.specs.Peeling.{Peeling}
use Rattle.labels_model.specs.Model.{pass_triangle}
use Rattle.labels_model.specs.Counters.{Meshed, meshed_kept, InRange, mesh-range}
use Rattle.labels_model.specs.NeighbourCounts.{met_most}
use Rattle.labels_model.specs.Turns.{Stops, Ends}
use Rattle.labels_model.specs.FrontierInsert.{Marked, turn_is, rot_in, outgoing_few}
use Rattle.labels_model.specs.LabelTriangle.{Coded, pass_turn, pass_origin, pass_degree}
use Rattle.labels_model.specs.LabelFan.{Fresh, tip-next, prior_is, fan_shape}
use Rattle.labels_model.specs.MinSearch.{Lowest}
use Rattle.labels_model.specs.FrontierInvariant.{Stood}
use Rattle.labels_model.specs.Simulation.{Standing}

-- ---- room, and the mesh

-- scratch of so many words has room for n vertices
pub record Room (n words : ℕ) : Type 0 where
  pub least : 3 ≤ n
  pub most : n ≤ 4096
  pub room : 10 * n ≤ words

pub room_kept : {n a b : ℕ} → b ≡ a → Room n a → Room n b
room_kept e r = record { least = r.least; most = r.most; room = omega (arith, e, r.room) }

-- the tables have an accepted mesh of n vertices
pub record Accepted (n : ℕ) : Type 0 where
  pub triangles : List ℕ
  pub sphere : Sphere n (length triangles / 3) (org triangles) (opp triangles)
  pub whole : 3 * (length triangles / 3) ≡ length triangles

pub record HasMesh (n : ℕ) (t : Peeling) : Type 0 where
  pub mesh : Accepted n
  pub meshed : Meshed mesh.triangles t

pub has_mesh : (n : ℕ) (ts : List ℕ) (t : Peeling) → Sphere n (length ts / 3) (org ts) (opp ts) → length ts ≡ triangles_length n → Meshed ts t → HasMesh n t
has_mesh n ts t s e m = record { mesh = record { triangles = ts; sphere = s; whole = omega arith }; meshed = m }

pub mesh-kept : {n : ℕ} {t t' : Peeling} → t'.turn ≡ t.turn → t'.origin ≡ t.origin → HasMesh n t → HasMesh n t'
mesh-kept a b m = record { mesh = m.mesh; meshed = meshed_kept a b m.meshed }

pub has_range : {n : ℕ} {t : Peeling} → HasMesh n t → InRange n t
has_range {n} m = mesh-range m.mesh.sphere m.mesh.whole m.meshed

-- it has as many darts as it should
pub darts_are : {n : ℕ} (a : Accepted n) → length a.triangles ≡ triangles_length n
darts_are a = omega (arith, a.sphere.size, a.whole)

-- ---- going once round a vertex

module _ (n : ℕ) (ts : List ℕ) (s : Sphere n (length ts / 3) (org ts) (opp ts)) (len : 3 * (length ts / 3) ≡ length ts) (t : Peeling) (o : Meshed ts t) where
  abbrev T : ℕ
  T = length ts / 3

  round_stops : (first k d : ℕ) → d < 3 * T → iterate (rot ts) (suc k) d ≡ first → ((i : ℕ) → 0 < i → i < suc k → iterate (rot ts) i d ≢ first) →
      Stops t.turn (λ x. eqb (t.turn x) first) k d
  unfolding iterate
  round_stops first zero d h e f = eq-eqb (t.turn d) first (turn_is n ts s len t o d h ∙ e)
  round_stops first (suc k) d h e f =
      let m = turn_is n ts s len t o d h in (
        ne_eqb (t.turn d) first (λ z. f 1 (omega arith) (omega arith) (sym m ∙ z)),
        rw m (round_stops first k (rot ts d) (rot_in n ts s len d h) e (λ i a b. f (suc i) (omega arith) (omega arith))),
      )

  round_ends : (d : ℕ) → d < 3 * T → Ends t.turn (λ x. eqb (t.turn x) d) (6 * n) d
  round_ends d h =
      let p = sphere_period n ts s (sym len) d h in
      go (length (outgoing ts (org ts d))) p.some (outgoing_few n ts s len (org ts d)) p.back p.soonest
    where
      go : (r : ℕ) → 0 < r → r ≤ length ts → iterate (rot ts) r d ≡ d → ((k : ℕ) → 0 < k → k < r → iterate (rot ts) k d ≢ d) →
          Ends t.turn (λ x. eqb (t.turn x) d) (6 * n) d
      go zero a b e f = absurd (omega arith)
      go (suc r) a b e f = record { left = r; few = omega (arith, s.size); stops = round_stops d r d h e f }

  -- ---- along a fan

  abbrev stop : ℕ → ℕ → Bool
  stop right g = eqb (t.origin (prev g)) right

  fan-stops : (last right : ℕ) → tip ts last ≡ right → {g : ℕ} {gs : List ℕ} → Fan T (org ts) (opp ts) last g gs →
      ((x : ℕ) → x ∈ gs → tip ts x ≢ right) → (k : ℕ) × (suc k ≡ length gs) × Stops t.turn (stop right) k g
  fan-stops last right q {g} (end b e) f =
      (0, refl, eq-eqb (t.origin (prev g)) right (prior_is n ts s len right 0 g t o b ∙ sym (tip-next n ts s len right 0 g t o b) ∙ ap (tip ts) e ∙ q))
  fan-stops last right q {g} (more {gs = gs} b fan') f =
      let r = fan-stops last right q fan' (λ x m. f x (Memᴰ.tail m)) in
      let second : opp ts (prev g) ∈ gs = rw (fan_shape fan') (Memᴰ.head refl) in (
        suc r.0,
        ap suc r.1,
        (
          ne_eqb (t.origin (prev g)) right (λ z. f (opp ts (prev g)) (Memᴰ.tail second)
              (tip-next n ts s len right 0 g t o b ∙ sym (prior_is n ts s len right 0 g t o b) ∙ z)),
          rw (o.turns g (omega arith)) r.2,
        ),
      )

-- ---- a vertex comes onto the frontier

-- degrees fit their words, with room for one more from each dart
pub record LowDegrees (n : ℕ) (t : Peeling) : Type 0 where
  pub low : (w : ℕ) → w < n → t.degree w ≤ 6 * n

pub record CanEnter (n d : ℕ) (t : Peeling) : Type 0 where
  pub mesh : HasMesh n t
  pub dart : d < triangles_length n
  pub degrees : LowDegrees n t

pub enter_ends : {n d : ℕ} {t : Peeling} → CanEnter n d t → Ends t.turn (λ x. eqb (t.turn x) d) (6 * n) d
enter_ends {n} {d} {t} c =
    let a = c.mesh.mesh in
    round_ends n a.triangles a.sphere a.whole t c.mesh.meshed d (omega (arith, c.dart, darts_are a, a.whole))

marked_low : {n : ℕ} (a : Accepted n) (F : ℕ → Bool) (t : Peeling) → Marked n a.triangles F t → LowDegrees n t
marked_low a F t M = record {
  low = λ w wn. elim (tested (F w)) [
    | inl f ↦ omega (arith, rw f at (M w wn), met_most a.triangles F w, darts_are a, a.sphere.least)
    | inr f ↦ omega (arith, rw f at (M w wn))
  ];
}

-- ---- a fan

-- the triangles of a vertex from that of g on are to be passed, up to the one that ends at `right`
pub record CanPass (n right g : ℕ) (t : Peeling) : Type 0 where
  pub mesh : Accepted n
  pub vertex : ℕ
  pub last : ℕ
  pub passed : List ℕ
  pub frontier : ℕ → Bool
  pub darts : List ℕ
  pub meshed : Meshed mesh.triangles t
  pub coded : Coded passed t
  pub marked : Marked n mesh.triangles frontier t
  pub fan : Fan (length mesh.triangles / 3) (org mesh.triangles) (opp mesh.triangles) last g darts
  pub ends : tip mesh.triangles last ≡ right
  pub fresh : Fresh n mesh.triangles mesh.sphere mesh.whole vertex right passed frontier darts

module _ {n right g : ℕ} {t : Peeling} (c : CanPass n right g t) where
  abbrev ts : List ℕ
  ts = c.mesh.triangles

  pub pass_mesh : HasMesh n t
  pass_mesh = record { mesh = c.mesh; meshed = c.meshed }

  shape : c.darts ≡ g ∷ rest c.darts
  shape = fan_shape c.fan

  first_in : g ∈ c.darts
  first_in = rw shape (Memᴰ.head refl)

  pub pass_dart : g < triangles_length n
  pass_dart = omega (arith, c.fresh.below g first_in, darts_are c.mesh, c.mesh.whole)

  few_darts : length c.darts ≤ length ts
  few_darts = omega (
    arith,
    distinct_within c.fresh.distinct (upto (length ts)) (λ x m. in_upto (length ts) x (omega (arith, c.fresh.below x m, c.mesh.whole))),
    length-upto (length ts),
  )

  pub pass_ends : Ends t.turn (λ x. eqb (t.origin (prev x)) right) (6 * n) g
  pass_ends =
      let r = fan-stops n ts c.mesh.sphere c.mesh.whole t c.meshed c.last right c.ends c.fan c.fresh.short in
      record { left = r.0; few = omega (arith, r.1, few_darts, darts_are c.mesh); stops = r.2 }

  -- with its triangle passed, the vertex beyond can come onto the frontier
  pub pass_enter : CanEnter n (prev g) (pass_triangle g t)
  pass_enter = record {
    mesh = mesh-kept (pass_turn g t) (pass_origin g t) pass_mesh;
    dart = prev-below (2 * n - 4) g pass_dart;
    degrees = record { low = rw (pass_degree g t) (marked_low c.mesh c.frontier t c.marked).low };
  }

-- ---- a vertex leaves

pub record CanLeave (n v : ℕ) (t : Peeling) : Type 0 where
  pub mesh : Accepted n
  pub removed : List ℕ
  pub before : List ℕ
  pub after : List ℕ
  pub passed : List ℕ
  pub fan : List ℕ
  pub left : ℕ
  pub right : ℕ
  pub inv : Inv n (length mesh.triangles / 3) (org mesh.triangles) (opp mesh.triangles) removed before
  pub leaves : Leaves (length mesh.triangles / 3) (org mesh.triangles) (opp mesh.triangles) removed before left right fan after
  pub stood : Stood n mesh.triangles removed before passed t
  pub vertex : org mesh.triangles left ≡ v

-- ---- the vertices in turn

-- the smallest vertex that can leave is among the candidates
pub record CanSearch (n : ℕ) (t : Peeling) : Type 0 where
  pub vertex : ℕ
  pub lowest : Lowest n t vertex

-- i vertices have left
pub record Stands (n i : ℕ) (t : Peeling) : Type 0 where
  pub mesh : Accepted n
  pub removed : List ℕ
  pub frontier : List ℕ
  pub passed : List ℕ
  pub standing : Standing n mesh.triangles mesh.sphere mesh.whole i removed frontier passed t
