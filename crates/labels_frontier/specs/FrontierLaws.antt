-- The tests and stores of the code that brings vertices onto the frontier and takes them off it, put together to the definitions of the work: each law has
-- its premises as the code hands them over. Assumes nothing.
use Rattle.std.specs.Prelude.{length, ℕ, suc, ◌+◌, ◌-◌, ◌*◌, ◌/◌, ◌≤◌, ◌<◌, ◌^◌, ◌≡◌, refl, false, cond, eqb}
use Rattle.std.proofs.Math.Path.{sym, ap}
use Rattle.std.proofs.Common.{◌∙◌, arith, eq-eqb, ne_eqb}
use Rattle.std.proofs.Math.Decide.{ℕ_discrete}
use Rattle.definitions.specs.Mesh.{triangles_length, next, prev}
use Rattle.theory_sphere.specs.Darts.{next-below, prev-below}
use Rattle.scratch_tables.specs.Tables.{Tables, dart_in, vertex_in, set_mark}
use Rattle.labels_tables.specs.Peeling.{Peeling, peeling_of, peeling-order, set_order}
use Rattle.labels_search.specs.declared.Stage.{Stage}
use Rattle.labels_search.specs.Staged.{Same}
use Rattle.labels_model.specs.Model.{Counted, decrement_degree, count_neighbour, count_neighbours}
use Rattle.labels_model.specs.Model.{enter_frontier, pass_triangle, pass_fan, leave_frontier}
use Rattle.labels_model.specs.Counters.{Beside, InRange, range_beside}
use Rattle.labels_model.specs.Turns.{steps_to, Ends, goes_on, steps_less}
use Rattle.labels_model.specs.FrontierInsert.{count_neighbour_beside, count_neighbour-degree, count_neighbour_most, enter_beside}
use Rattle.labels_model.specs.FrontierRemove.{decrement_degree-same, decrement_degree-other}
use Rattle.labels_model.specs.LabelTriangle.{pass_turn, pass_origin}
use Rattle.labels_model.specs.Preconditions.{Room, CanEnter, CanPass, CanLeave, has_range, enter_ends, pass_mesh, pass_dart, pass_ends, pass_enter}
use Rattle.labels_model.proofs.Preconditions.{pass_on, leave-mesh, leave_vertex, leave-left, leave_right, left-two, right_two, leave_pass}

-- ---- room

pub room_of : (s : Stage) → Room s.n (length s.words.now)
room_of s = record { least = s.room.0; most = s.room.1; room = s.room.2 }

pub room_in : {s₀ s : Stage} → Same s₀ s → Room s₀.n (length s.words.now)
room_in {s₀} {s} e = rw (sym e.n) (room_of s)

pub dart_in_lem : {n words : ℕ} (d : ℕ) → Room n words → d < triangles_length n → dart_in words d
dart_in_lem d r h = omega (arith, r.room)

pub prev_in : {n words : ℕ} (d p : ℕ) → Room n words → d < triangles_length n → p ≡ prev d → dart_in words p
unfolding prev
prev_in d p r h e = omega (arith, r.room, e)

-- room for a triangle's words and for those of its vertices
pub record TriangleIn (words g : ℕ) (t : Peeling) : Type 0 where
  pub small : g < 65536
  pub first : dart_in words (3 * (g / 3))
  pub following : dart_in words (next g)
  pub previous : dart_in words (prev g)
  pub from : vertex_in words (t.origin (prev g))
  pub to : vertex_in words (t.origin (next g))

pub triangle_in : {n words : ℕ} (g : ℕ) (t : Peeling) → Room n words → InRange n t → g < triangles_length n → TriangleIn words g t
unfolding next prev
triangle_in g t r i h = record {
  small = omega (arith, r.most);
  first = omega (arith, r.room);
  following = omega (arith, r.room);
  previous = omega (arith, r.room);
  from = omega (arith, r.room, i.origin_in (prev g) (omega arith));
  to = omega (arith, r.room, i.origin_in (next g) (omega arith));
}

-- ---- a vertex comes onto the frontier

-- the walk round a vertex is at dart d and has counted c; t₀ were the tables at its start
pub record Walk (n first : ℕ) (t₀ t : Peeling) (d c : ℕ) : Type 0 where
  pub range : InRange n t
  pub turns : t.turn ≡ t₀.turn
  pub dart : d < triangles_length n
  pub ends : Ends t₀.turn (λ x. eqb (t₀.turn x) first) (6 * n) d
  pub low : (w : ℕ) → w < n → t.degree w + ends.left < 65535
  pub few : c + ends.left < 65535
  pub fuel : ℕ
  pub enough : ends.left < fuel
  pub rest : count_neighbours n first fuel d c t ≡ count_neighbours n first (6 * n) first 1 t₀

pub walk_start : (n first words : ℕ) (t : Peeling) → Room n words → CanEnter n first t → Walk n first t t first 1
walk_start n first words t r c =
    let e = enter_ends c in
    record {
      range = has_range c.mesh;
      turns = refl;
      dart = c.dart;
      ends = e;
      low = λ w h. omega (arith, c.degrees.low w h, e.few, r.most);
      few = omega (arith, e.few, r.most);
      fuel = 6 * n;
      enough = e.few;
      rest = refl;
    }

-- what the walk asks at a dart
module _ {n first : ℕ} {t₀ t : Peeling} {d c : ℕ} (W : Walk n first t₀ t d c) where
  pub walk-prev : (p words : ℕ) → Room n words → p ≡ prev d → dart_in words p
  walk-prev p words r e = prev_in d p r W.dart e

  pub walk_asks : (p w : ℕ) → p ≡ prev d → w ≡ t.origin p → (w < n) × (t.degree w < 65535) × (c < 65535)
  walk_asks p w e q =
      let h : w < n = rw (q, e) (W.range.origin_in (prev d) (prev-below (2 * n - 4) d W.dart)) in
      (h, omega (arith, W.low w h), omega (arith, W.few))

-- it is over, or goes on from where the turn leads
count_neighbours-suc : (n first k d c p w h c' : ℕ) (t t' : Peeling) → p ≡ prev d → w ≡ t.origin p → h ≡ t.turn d →
    count_neighbour n w c t ≡ record { count = c'; tables = t' }
    → count_neighbours n first (suc k) d c t ≡ cond (eqb h first) (record { count = c'; tables = t' }) (count_neighbours n first k h c' t')
unfolding count_neighbours
count_neighbours-suc n first k d c p w h c' t t' a b e q = rw (sym a, sym b, sym e, q)

module _ {n first : ℕ} {t₀ t t' : Peeling} {d c : ℕ} (W : Walk n first t₀ t d c) (p w h c' : ℕ) (a : p ≡ prev d) (b : w ≡ t.origin p) (e : h ≡ t.turn d)
    (q : count_neighbour n w c t ≡ record { count = c'; tables = t' }) where
  walked : count_neighbours n first (6 * n) first 1 t₀
      ≡ cond (eqb h first) (record { count = c'; tables = t' }) (count_neighbours n first (W.fuel - 1) h c' t')
  walked =
      let j : W.fuel ≡ suc (W.fuel - 1) = omega (arith, W.enough) in
      sym W.rest ∙ ap (λ (k : ℕ). count_neighbours n first k d c t) j ∙ count_neighbours-suc n first (W.fuel - 1) d c p w h c' t t' a b e q

  one_more : c' ≤ c + 1
  one_more = omega (arith, count_neighbour_most n w c t, ap (λ (x : Counted). x.count) q)

  beside' : Beside t t'
  beside' = rw (ap (λ (x : Counted). x.tables) q) at (count_neighbour_beside n w c t)

  degree' : (x : ℕ) → t'.degree x ≤ t.degree x + 1
  degree' x = omega (arith, count_neighbour-degree n w c t x, ap (λ (y : Counted). y.tables.degree x) q)

  pub walk-over : h ≡ first → (count_neighbours n first (6 * n) first 1 t₀ ≡ record { count = c'; tables = t' }) × (c' < 65536)
  walk-over z = (rw (eq-eqb h first z) at walked, omega (arith, one_more, W.few))

  more-turns : (h ≡ first → ⊥) → eqb (t₀.turn d) first ≡ false
  more-turns z = ne_eqb (t₀.turn d) first (λ y. z (e ∙ ap (λ (f : ℕ → ℕ). f d) W.turns ∙ y))

  turned : t₀.turn d ≡ h
  turned = sym (e ∙ ap (λ (f : ℕ → ℕ). f d) W.turns)

  pub walk-less : (h ≡ first → ⊥) → steps_to t₀.turn (λ x. eqb (t₀.turn x) first) (6 * n) h < steps_to t₀.turn (λ x. eqb (t₀.turn x) first) (6 * n) d
  walk-less z = rw turned at (steps_less t₀.turn (λ x. eqb (t₀.turn x) first) W.ends (more-turns z))

  walk_turned : (h ≡ first → ⊥) → Walk n first t₀ t' (t₀.turn d) c'
  walk_turned z =
      let g = goes_on t₀.turn (λ x. eqb (t₀.turn x) first) W.ends (more-turns z) in
      let l = g.1 in
      record {
        range = range_beside beside' W.range;
        turns = beside'.turns ∙ W.turns;
        dart = rw (turned, e) (W.range.turn_in d W.dart);
        ends = g.0;
        low = λ x xn. omega (arith, degree' x, W.low x xn, l);
        few = omega (arith, one_more, W.few, l);
        fuel = W.fuel - 1;
        enough = omega (arith, W.enough, l);
        rest = rw turned (sym (rw (ne_eqb h first z) at walked));
      }

  pub walk-on : (h ≡ first → ⊥) → Walk n first t₀ t' h c'
  walk-on z = rw turned at (walk_turned z)

-- ---- a triangle is passed

-- the fan is at dart g; t₀ were the tables at its start
pub record Fan (n right first : ℕ) (t₀ t : Peeling) (g : ℕ) : Type 0 where
  pub turns : t.turn ≡ t₀.turn
  pub origins : t.origin ≡ t₀.origin
  pub can : CanPass n right g t
  pub ends : Ends t₀.turn (λ x. eqb (t₀.origin (prev x)) right) (6 * n) g
  pub fuel : ℕ
  pub enough : ends.left < fuel
  pub rest : pass_fan n right fuel g t ≡ pass_fan n right (6 * n) first t₀

pub fan-start : (n right first : ℕ) (t : Peeling) → CanPass n right first t → Fan n right first t t first
fan-start n right first t c =
    let e = pass_ends c in
    record { turns = refl; origins = refl; can = c; ends = e; fuel = 6 * n; enough = e.few; rest = refl }

-- what it asks there
module _ {n right first : ℕ} {t₀ t : Peeling} {g : ℕ} (f : Fan n right first t₀ t g) where
  pub fan_small : (words : ℕ) → Room n words → g < 2 ^ 63
  fan_small words r = omega (arith, pass_dart f.can, r.most)

  pub fan-here : (words : ℕ) → Room n words → dart_in words g
  fan-here words r = dart_in_lem g r (pass_dart f.can)

  pub fan-prev : (p words : ℕ) → Room n words → p ≡ prev g → dart_in words p
  fan-prev p words r e = prev_in g p r (pass_dart f.can) e

  pub fan_triangle : (words : ℕ) → Room n words → TriangleIn words g t
  fan_triangle words r = triangle_in g t r (has_range (pass_mesh f.can)) (pass_dart f.can)

  pub fan_enter : (p u : ℕ) (t' : Peeling) → p ≡ prev g → u ≡ t.origin p → t' ≡ pass_triangle g t → (u < n) × CanEnter n p t'
  fan_enter p u t' a b q = (
    rw (b, a) ((has_range (pass_mesh f.can)).origin_in (prev g) (prev-below (2 * n - 4) g (pass_dart f.can))),
    rw (a, q) (pass_enter f.can),
  )

pass_fan-suc : (n right k g p u h : ℕ) (t t' : Peeling) → p ≡ prev g → u ≡ t.origin p → h ≡ t.turn g → t' ≡ pass_triangle g t →
    pass_fan n right (suc k) g t ≡ cond (eqb u right) t' (pass_fan n right k h (enter_frontier n u p t'))
unfolding pass_fan
pass_fan-suc n right k g p u h t t' a b e q = rw (sym a, sym b, sym e, sym q)

module _ {n right first : ℕ} {t₀ t t' : Peeling} {g : ℕ} (f : Fan n right first t₀ t g) (p u h : ℕ) (a : p ≡ prev g) (b : u ≡ t.origin p)
    (e : h ≡ t.turn g) (q : t' ≡ pass_triangle g t) where
  fanned : pass_fan n right (6 * n) first t₀ ≡ cond (eqb u right) t' (pass_fan n right (f.fuel - 1) h (enter_frontier n u p t'))
  fanned =
      let j : f.fuel ≡ suc (f.fuel - 1) = omega (arith, f.enough) in
      sym f.rest ∙ ap (λ (k : ℕ). pass_fan n right k g t) j ∙ pass_fan-suc n right (f.fuel - 1) g p u h t t' a b e q

  pub fan-over : u ≡ right → t' ≡ pass_fan n right (6 * n) first t₀
  fan-over z = sym (rw (eq-eqb u right z) at fanned)

  beyond : u ≡ t₀.origin (prev g)
  beyond = b ∙ rw (a, f.origins)

  more-triangles : (u ≡ right → ⊥) → eqb (t₀.origin (prev g)) right ≡ false
  more-triangles z = ne_eqb (t₀.origin (prev g)) right (λ y. z (beyond ∙ y))

  onto : t₀.turn g ≡ h
  onto = sym (e ∙ ap (λ (f : ℕ → ℕ). f g) f.turns)

  pub fan-less : (u ≡ right → ⊥) →
      steps_to t₀.turn (λ x. eqb (t₀.origin (prev x)) right) (6 * n) h < steps_to t₀.turn (λ x. eqb (t₀.origin (prev x)) right) (6 * n) g
  fan-less z = rw onto at (steps_less t₀.turn (λ x. eqb (t₀.origin (prev x)) right) f.ends (more-triangles z))

  module _ (t'' : Peeling) (r : t'' ≡ enter_frontier n u p t') where
    entered : t'' ≡ enter_frontier n (t.origin (prev g)) (prev g) (pass_triangle g t)
    entered = r ∙ rw (b, a, q)

    kept : Beside (pass_triangle g t) t''
    kept = rw entered (enter_beside n (t.origin (prev g)) (prev g) (pass_triangle g t))

    fan_turned : (u ≡ right → ⊥) → Fan n right first t₀ t'' (t₀.turn g)
    fan_turned z =
        let l = goes_on t₀.turn (λ x. eqb (t₀.origin (prev x)) right) f.ends (more-triangles z) in
        record {
          turns = kept.turns ∙ pass_turn g t ∙ f.turns;
          origins = kept.origins ∙ pass_origin g t ∙ f.origins;
          can = rw (onto, e, entered) (pass_on f.can (λ y. z (b ∙ ap t.origin a ∙ y)));
          ends = l.0;
          fuel = f.fuel - 1;
          enough = omega (arith, f.enough, l.1);
          rest = rw (onto, r) (sym (rw (ne_eqb u right z) at fanned));
        }

    pub fan-on : (u ≡ right → ⊥) → Fan n right first t₀ t'' h
    fan-on z = rw onto at (fan_turned z)

-- ---- a vertex leaves

pub removed_is : (t t' : Tables) (i v : ℕ) → t' ≡ set_mark (2 * i + 1) v t → peeling_of t' ≡ set_order i v (peeling_of t)
removed_is t t' i v e = ap peeling_of e ∙ peeling-order t i v

-- after the left neighbour's degree the right one's is not 0
pub still_some : (n left right : ℕ) (t t' : Peeling) → 1 < t.degree right → 1 < t.degree left → t' ≡ decrement_degree n left t → 0 < t'.degree right
still_some n left right t t' h k e = rw e (elim (ℕ_discrete right left) [
  | yes q ↦ rw q (omega (arith, k, decrement_degree-same n left t))
  | no q ↦ omega (arith, h, decrement_degree-other n left right t q)
])

-- what a vertex that can leave asks
module _ {n v : ℕ} {t : Peeling} (c : CanLeave n v t) where
  pub leave_in : (words : ℕ) → Room n words → vertex_in words v
  leave_in words r = omega (arith, leave_vertex c, r.room)

  pub leave-left_small : (g words : ℕ) → Room n words → g ≡ t.left v → (dart_in words (next g)) × (g < 2 ^ 63)
  unfolding next
  leave-left_small g words r e = omega (arith, e, leave-left c, r.room, r.most)

  pub leave_right_in : (x words : ℕ) → Room n words → x ≡ t.right v → dart_in words x
  leave_right_in x words r e = omega (arith, e, leave_right c, r.room)

  module _ (i g left x right : ℕ) (a : g ≡ t.left v) (b : left ≡ t.origin (next g)) (d : x ≡ t.right v) (e : right ≡ t.origin x) where
    left_at : left ≡ t.origin (next (t.left v))
    left_at = b ∙ ap (λ (y : ℕ). t.origin (next y)) a

    right_at : right ≡ t.origin (t.right v)
    right_at = e ∙ ap t.origin d

    pub leave_asks : i < n → (i < n) × (v < n) × (left < n) × (right < n) × (1 < t.degree left) × (1 < t.degree right)
    leave_asks h =
        let l = has_range (leave-mesh c) in (
          h,
          leave_vertex c,
          rw left_at (l.origin_in (next (t.left v)) (next-below (2 * n - 4) (t.left v) (leave-left c))),
          rw right_at (l.origin_in (t.right v) (leave_right c)),
          rw left_at (left-two c),
          rw right_at (right_two c),
        )

    pub leave-passes : (t' : Peeling) → t' ≡ leave_frontier n i v left right t → CanPass n right g t'
    leave-passes t' q = rw (q, left_at, right_at, a) (leave_pass c i)
