-- What the code does to the lent coordinates when one vertex leaves: the sums S of the frontier before it become those of the frontier after it.
-- Assumes nothing.
use Rattle.std.specs.Prelude.{ℕ, ◌+◌, ◌*◌, ◌/◌, ◌≤◌, ◌<◌, ◌^◌, ◌≡◌, refl, ◌≢◌, Bool, true, false, cond, List, [], ◌∷◌, map, eqb, length, ℤ, pos, nat_abs}
use Rattle.std.proofs.Math.Path.{sym, ap, ap₂}
use Rattle.std.proofs.Common.{◌∙◌, inl, inr, arith, eq-eqb, ne_eqb}
use mathlib.Core.List.Memᴰ
use Rattle.std.proofs.Math.Decide.{ℕ_discrete}
use Rattle.std.proofs.Math.IntN.{◌+ℤ◌, +ℤ_idr}
use Rattle.definitions.specs.Mesh.{triangles_length, tri, next, prev, org, opp}
use Rattle.definitions.specs.Labels.{outer, label}
use Rattle.definitions.specs.Forward.{weight}
use Rattle.definitions.specs.Backward.{coordinate}
use Rattle.definitions.specs.Repair.{limit}
use Rattle.laws.specs.Lists.{◌∈◌}
use Rattle.laws.specs.Sums.{abs-+}
use Rattle.laws.specs.Edges.{Dist, dist_left, dist_same}
use Rattle.theory_sphere.specs.Sphere.{Sphere}
use Rattle.theory_sphere.specs.Darts.{next-below, prev-below}
use Rattle.theory_realizer.specs.Trace.{Fan, end, more, edge, Step, here, there}
use Rattle.theory_realizer.specs.Realizer.{Realizer}
use Rattle.theory_sphere.specs.Rotations.{org-rot}
use Rattle.theory_realizer.specs.Edges.{edge-org}
use Rattle.theory_crossings.specs.Colours.{fan-apex}
use Rattle.theory_crossings.specs.Tests.{named}
use Rattle.theory_inverse.specs.Drawings.{Drawing}
use Rattle.labels_tables.specs.Peeling.{Peeling}
use Rattle.maps_forward_model.specs.Removals.{Removal, fan-first, fan-below, fan_short, fan-last, step-new}
use Rattle.maps_forward_model.specs.Model.{word_index, copy, add, stores, kept_and_stored, with_left_sum, accumulate, add_off, copy_off, length-copy}
use Rattle.maps_forward_model.specs.Model.{copy_at, add_where, length-kept_and_stored, length-with_left_sum, stores-0, stores_off, stores_at, stores_same}
use Rattle.maps_forward_model.specs.Model.{Turns, fan_from_is, fan-turns}

-- ---- members told apart by their images

dist_of_map : (f h k : ℕ → ℕ) (xs : List ℕ) → ((x : ℕ) → x ∈ xs → f (h x) ≡ k x) → Dist f (map h xs) → Dist k xs
dist_of_map f h k [] e δ = tt
dist_of_map f h k (x ∷ xs) e δ = (
  λ y m q. δ.0 (h y) (Memᴰ.map h m) (e x (Memᴰ.head refl) ∙ q ∙ sym (e y (Memᴰ.tail m))),
  dist_of_map f h k xs (λ y m. e y (Memᴰ.tail m)) δ.1,
)

step_dist : {T : ℕ} {o f : ℕ → ℕ} {e e' : ℕ} {gs C C' : List ℕ} → Step T o f e e' gs C C' → Dist o C' →
    Dist o (map (edge T o f) gs)
step_dist {T} {o} {f} {gs = gs} (here {B}) δ = dist_left o (map (edge T o f) gs) B δ
step_dist (there d s) δ = step_dist s δ.1

cond_small : (b : Bool) (z : ℤ) (m : ℕ) → nat_abs z ≤ m → nat_abs (cond b z (pos 0)) ≤ m
cond_small true z m h = h
cond_small false z m h = omega arith

-- the two additions of a leaving vertex have room
pub record Room (fuel : ℕ) (t : Peeling) (ws : List ℤ) (v : ℕ) (bs : List ℤ) : Type 0 where
  pub left : nat_abs (coordinate (kept_and_stored fuel t ws v bs) 1 (t.origin (prev (t.left v)))) + nat_abs (coordinate (kept_and_stored fuel t ws v bs) 1 v)
      < 2 ^ 63
  pub right : nat_abs (coordinate (with_left_sum fuel t ws v bs) 1 (t.origin (t.right v))) + nat_abs (coordinate (with_left_sum fuel t ws v bs) 0 v) < 2 ^ 63

-- the tables are those of a mesh of n vertices, and no fan has more darts than the fuel
pub record Tabled (n fuel : ℕ) (ts : List ℕ) (t : Peeling) : Type 0 where
  pub size : length ts ≡ triangles_length n
  pub turns : (d : ℕ) → d < 3 * (length ts / 3) → t.turn d ≡ opp ts (prev d)
  pub origins : (d : ℕ) → d < 3 * (length ts / 3) → t.origin d ≡ org ts d
  pub enough : 3 * (length ts / 3) ≤ fuel

module _ {n : ℕ} (ts ls : List ℕ) (sph : Sphere n (length ts / 3) (org ts) (opp ts))
    (R : Realizer n (length ts / 3) (org ts) (opp ts) (label ls) (outer ts)) (fuel : ℕ) (t : Peeling) (tabled : Tabled n fuel ts t) (ws : List ℤ)
    {e e' : ℕ} {gs C C' L : List ℕ} (turn : Removal (length ts / 3) (org ts) (opp ts) (label ls) (outer ts) e e' gs C C' L)
    (head : t.left (org ts e) ≡ e) (count : t.right (org ts e) ≡ e') (bs : List ℤ) (long : length bs ≡ 3 * n) where
  abbrev T : ℕ
  T = length ts / 3

  abbrev v : ℕ
  v = org ts e

  -- where the new frontier darts start
  origin : (g : ℕ) → g ∈ gs → org ts (edge T (org ts) (opp ts) g) ≡ org ts (prev g)
  origin g m = edge-org sph g (fan-below turn.fan m)

  starts_distinct : Dist (λ g. org ts (prev g)) gs
  starts_distinct = dist_of_map (org ts) (edge T (org ts) (opp ts)) (λ g. org ts (prev g)) gs origin (step_dist turn.steps turn.apart)

  not_v : (g : ℕ) → g ∈ gs → org ts (prev g) ≢ v
  not_v g m q = turn.fresh (edge T (org ts) (opp ts) g) (step-new turn.steps (Memᴰ.map (edge T (org ts) (opp ts)) m)) (origin g m ∙ q)

  -- the words stand in the list
  room : (c i : ℕ) → c < 3 → i < n → word_index c i < length bs
  room c i l h = omega (arith, long)

  v_in : v < n
  v_in = sph.vertex e turn.below

  r_in : org ts e' < n
  r_in = sph.vertex e' turn.below'

  g_in : (g : ℕ) → g ∈ gs → org ts (prev g) < n
  g_in g m = sph.vertex (prev g) (prev-below T g (fan-below turn.fan m))

  u_in : org ts (prev e) < n
  u_in = g_in e (fan-first turn.fan)

  -- the fan's last dart
  last : (x : ℕ) × (x ∈ gs) × (prev x ≡ e')
  last = fan-last sph R (named ts) e' turn.below' turn.fan

  abbrev kept : List ℤ
  kept = copy (word_index 0 v) (word_index 1 (org ts e')) bs

  -- the fan that the code goes along
  pub fan_tabled : Turns n t e' e gs
  fan_tabled =
      fan-turns t (omega (arith, tabled.size)) e' sph.twice turn.below' tabled.turns turn.fan turn.onward
      (λ x m. (fan-apex sph R (named ts) (turn.fanning x m)).inner)

  pub fan_fits : length gs ≤ fuel
  fan_fits = omega (arith, fan_short turn.fan turn.onward, tabled.enough)

  first-origin : t.origin (prev e) ≡ org ts (prev e)
  first-origin = tabled.origins (prev e) (prev-below T e turn.below)

  right_origin : t.origin e' ≡ org ts e'
  right_origin = tabled.origins e' turn.below'

  kept_and_stored_is : kept_and_stored fuel t ws v bs ≡ stores (org ts) ws gs kept
  unfolding kept_and_stored
  kept_and_stored_is =
      rw (head, count, fan_from_is fuel fan_tabled fan_fits, right_origin)
      (stores_same t.origin (org ts) ws gs kept (λ g m. tabled.origins (prev g) (prev-below T g (fan-below turn.fan m))))

  with_left_sum_is : with_left_sum fuel t ws v bs ≡ add (word_index 1 (org ts (prev e))) (word_index 1 v) (kept_and_stored fuel t ws v bs)
  unfolding with_left_sum
  with_left_sum_is = rw (head, first-origin)

  accumulate_is : accumulate fuel t ws v bs ≡ add (word_index 1 (org ts e')) (word_index 0 v) (with_left_sum fuel t ws v bs)
  unfolding accumulate
  accumulate_is = rw (count, right_origin)

  -- ---- after the fan is stored

  kept_and_stored-0 : (i : ℕ) → i ≢ v → coordinate (kept_and_stored fuel t ws v bs) 0 i ≡ coordinate bs 0 i
  kept_and_stored-0 i h = ap (λ (l : List ℤ). coordinate l 0 i) kept_and_stored_is ∙ stores-0 (org ts) ws gs kept i
      ∙ copy_off bs (word_index 0 v) (word_index 1 (org ts e')) 0 i (omega (arith, h))

  kept_and_stored_0v : coordinate (kept_and_stored fuel t ws v bs) 0 v ≡ coordinate bs 1 (org ts e')
  kept_and_stored_0v =
      ap (λ (l : List ℤ). coordinate l 0 v) kept_and_stored_is ∙ stores-0 (org ts) ws gs kept v
      ∙ copy_at bs 0 v 1 (org ts e') (room 0 v (omega arith) v_in)

  kept_and_stored_off : (i : ℕ) → ((g : ℕ) → g ∈ gs → org ts (prev g) ≢ i) → coordinate (kept_and_stored fuel t ws v bs) 1 i ≡ coordinate bs 1 i
  kept_and_stored_off i h = ap (λ (l : List ℤ). coordinate l 1 i) kept_and_stored_is ∙ stores_off (org ts) ws gs kept i h
      ∙ copy_off bs (word_index 0 v) (word_index 1 (org ts e')) 1 i (omega arith)

  kept_and_stored-at : (g : ℕ) → g ∈ gs → coordinate (kept_and_stored fuel t ws v bs) 1 (org ts (prev g)) ≡ weight ws (tri g)
  kept_and_stored-at g m =
      ap (λ (l : List ℤ). coordinate l 1 (org ts (prev g))) kept_and_stored_is
      ∙ stores_at (org ts) ws gs kept starts_distinct (λ x k. rw (length-copy bs (word_index 0 v) (word_index 1 (org ts e')))
      (room 1 (org ts (prev x)) (omega arith) (g_in x k))) g m

  -- ---- after the sum on the left is handed on

  with_left_sum-0 : (i : ℕ) → coordinate (with_left_sum fuel t ws v bs) 0 i ≡ coordinate (kept_and_stored fuel t ws v bs) 0 i
  with_left_sum-0 i =
      ap (λ (l : List ℤ). coordinate l 0 i) with_left_sum_is
      ∙ add_off (kept_and_stored fuel t ws v bs) (word_index 1 (org ts (prev e))) (word_index 1 v) 0 i (omega arith)

  with_left_sum-1 : (i : ℕ) → coordinate (with_left_sum fuel t ws v bs) 1 i
      ≡ coordinate (kept_and_stored fuel t ws v bs) 1 i +ℤ cond (eqb i (org ts (prev e))) (coordinate bs 1 v) (pos 0)
  with_left_sum-1 i =
      ap (λ (l : List ℤ). coordinate l 1 i) with_left_sum_is
      ∙ add_where (kept_and_stored fuel t ws v bs) (org ts (prev e)) 1 v i
      (rw (length-kept_and_stored fuel t ws v bs) (room 1 (org ts (prev e)) (omega arith) u_in))
      ∙ ap (λ (z : ℤ). coordinate (kept_and_stored fuel t ws v bs) 1 i +ℤ cond (eqb i (org ts (prev e))) z (pos 0)) (kept_and_stored_off v not_v)

  -- ---- and that on the right

  pub accumulate-0 : (i : ℕ) → i ≢ v → coordinate (accumulate fuel t ws v bs) 0 i ≡ coordinate bs 0 i
  accumulate-0 i h =
      ap (λ (l : List ℤ). coordinate l 0 i) accumulate_is
      ∙ add_off (with_left_sum fuel t ws v bs) (word_index 1 (org ts e')) (word_index 0 v) 0 i (omega arith) ∙ with_left_sum-0 i ∙ kept_and_stored-0 i h

  pub accumulate_0v : coordinate (accumulate fuel t ws v bs) 0 v ≡ coordinate bs 1 (org ts e')
  accumulate_0v =
      ap (λ (l : List ℤ). coordinate l 0 v) accumulate_is
      ∙ add_off (with_left_sum fuel t ws v bs) (word_index 1 (org ts e')) (word_index 0 v) 0 v (omega arith) ∙ with_left_sum-0 v ∙ kept_and_stored_0v

  accumulate-1 : (i : ℕ) → coordinate (accumulate fuel t ws v bs) 1 i ≡
      coordinate (kept_and_stored fuel t ws v bs) 1 i +ℤ cond (eqb i (org ts (prev e))) (coordinate bs 1 v) (pos 0) +ℤ cond (eqb i (org ts e'))
      (coordinate bs 1 (org ts e')) (pos 0)
  accumulate-1 i =
      ap (λ (l : List ℤ). coordinate l 1 i) accumulate_is
      ∙ add_where (with_left_sum fuel t ws v bs) (org ts e') 0 v i (rw (length-with_left_sum fuel t ws v bs) (room 1 (org ts e') (omega arith) r_in))
      ∙ ap₂ (λ (y z : ℤ). y +ℤ cond (eqb i (org ts e')) z (pos 0)) (with_left_sum-1 i) (with_left_sum-0 v ∙ kept_and_stored_0v)

  -- a vertex where no new dart starts keeps its sum
  pub accumulate_off : (i : ℕ) → ((g : ℕ) → g ∈ gs → org ts (prev g) ≢ i) → coordinate (accumulate fuel t ws v bs) 1 i ≡ coordinate bs 1 i
  accumulate_off i h =
      let u : (i ≡ org ts (prev e)) → ⊥ = λ q. h e (fan-first turn.fan) (sym q) in
      let r : (i ≡ org ts e') → ⊥ = λ q. h last.0 last.1 (ap (org ts) last.2 ∙ sym q) in
      accumulate-1 i ∙ rw (
        ne_eqb i (org ts (prev e)) u,
        ne_eqb i (org ts e') r,
        +ℤ_idr (coordinate (kept_and_stored fuel t ws v bs) 1 i),
        +ℤ_idr (coordinate (kept_and_stored fuel t ws v bs) 1 i),
      ) (kept_and_stored_off i h)

  pub accumulate_v : coordinate (accumulate fuel t ws v bs) 1 v ≡ coordinate bs 1 v
  accumulate_v = accumulate_off v not_v

  -- ---- what is carried is what the drawing has

  -- all darts of the fan start at v
  fan-org : {l g x : ℕ} {hs : List ℕ} → Fan T (org ts) (opp ts) l g hs → x ∈ hs → org ts x ≡ org ts g
  fan-org (end h q) m = ap (org ts) (Memᴰ.eq_of_singleton m)
  fan-org (more {g} h f) m = elim (Memᴰ.cases_cons m) [ inl p ↦ ap (org ts) p | inr k ↦ fan-org f k ∙ org-rot sph g h ]

  module _ {F B0 B1 : ℕ → ℤ} (D : Drawing T (org ts) (opp ts) (label ls) (outer ts) (weight ws) F B0 B1)
      (atv : coordinate bs 1 v ≡ F e) (atr : coordinate bs 1 (org ts e') ≡ F e') where
    first_carry : (g : ℕ) → g ∈ gs → F g ≡ cond (eqb (org ts (prev g)) (org ts (prev e))) (coordinate bs 1 v) (pos 0)
    first_carry g m =
        elim (ℕ_discrete g e) [
          | yes p ↦ rw (p, eq-eqb (org ts (prev e)) (org ts (prev e)) refl) (sym atv)
          | no p ↦
              let q : org ts (prev g) ≢ org ts (prev e) = λ q. p (dist_same (λ x. org ts (prev x)) gs starts_distinct g e m (fan-first turn.fan) q) in
              rw (ne_eqb (org ts (prev g)) (org ts (prev e)) q)
              (elim (turn.fanning g m).left [
                | inl a ↦ absurd (p (R.only 0 (omega arith) g e a turn.left (fan-org turn.fan m)))
                | inr a ↦ sym (D.side g (fan-below turn.fan m)) ∙ D.two (opp ts g) a
              ])
        ]

    last_carry : (g : ℕ) → g ∈ gs → F (prev g) ≡ cond (eqb (org ts (prev g)) (org ts e')) (coordinate bs 1 (org ts e')) (pos 0)
    last_carry g m =
        let b = fan-below turn.fan m in
        let c = prev-below T g b in
        elim (ℕ_discrete (prev g) e') [
          | yes p ↦ rw (p, eq-eqb (org ts e') (org ts e') refl) (sym atr)
          | no p ↦
              let q : org ts (prev g) ≢ org ts e' =
              λ q.
              let same = dist_same (λ x. org ts (prev x)) gs starts_distinct g last.0 m last.1 (q ∙ sym (ap (org ts) last.2)) in
              p (ap prev same ∙ last.2) in
              rw (ne_eqb (org ts (prev g)) (org ts e') q)
              (elim (turn.fanning g m).right [
                | inl a ↦
                    absurd (p
                    (sym (sph.twice (prev g) c)
                    ∙ ap (opp ts) (R.only 1 (omega arith) (opp ts (prev g)) (opp ts e') a turn.right
                    (org-rot sph g b ∙ fan-org turn.fan m ∙ turn.meet ∙ sym (sph.reverses e' turn.below')))
                    ∙ sph.twice e' turn.below'))
                | inr a ↦ D.two (prev g) a
              ])
        ]

    -- the new frontier darts carry what they should
    pub accumulate-new : (g : ℕ) → g ∈ gs → coordinate (accumulate fuel t ws v bs) 1 (org ts (edge T (org ts) (opp ts) g)) ≡ F (edge T (org ts) (opp ts) g)
    unfolding edge
    accumulate-new g m =
        let b = fan-below turn.fan m in
        ap (coordinate (accumulate fuel t ws v bs) 1) (origin g m)
        ∙ accumulate-1 (org ts (prev g))
        ∙ ap₂ ◌+ℤ◌ (ap₂ ◌+ℤ◌ (kept_and_stored-at g m) (sym (first_carry g m))) (sym (last_carry g m))
        ∙ sym (D.flow g (fan-apex sph R (named ts) (turn.fanning g m)))
        ∙ sym (D.side (next g) (next-below T g b))

    -- and what is added on the way is small
    pub accumulate_room : nat_abs (F e) ≤ 2 * limit → nat_abs (F e') ≤ 2 * limit → ((x : ℕ) → nat_abs (weight ws x) ≤ limit) → Room fuel t ws v bs
    accumulate_room he hr hw =
        let le = last.1 in
        let lu : coordinate (kept_and_stored fuel t ws v bs) 1 (org ts (prev e)) ≡ weight ws (tri e) = kept_and_stored-at e (fan-first turn.fan) in
        let lv : coordinate (kept_and_stored fuel t ws v bs) 1 v ≡ F e = kept_and_stored_off v not_v ∙ atv in
        let lr : coordinate (kept_and_stored fuel t ws v bs) 1 (org ts e') ≡ weight ws (tri last.0) =
        sym (ap (λ (x : ℕ). coordinate (kept_and_stored fuel t ws v bs) 1 (org ts x)) last.2) ∙ kept_and_stored-at last.0 le in
        let hv : coordinate (with_left_sum fuel t ws v bs) 0 v ≡ F e' = with_left_sum-0 v ∙ kept_and_stored_0v ∙ atr in
        let c : nat_abs (cond (eqb (org ts e') (org ts (prev e))) (coordinate bs 1 v) (pos 0)) ≤ 2 * limit =
        cond_small (eqb (org ts e') (org ts (prev e))) (coordinate bs 1 v) (2 * limit) (rw atv he) in
        let sum = abs-+ (coordinate (kept_and_stored fuel t ws v bs) 1 (org ts e')) (cond (eqb (org ts e') (org ts (prev e))) (coordinate bs 1 v) (pos 0)) in
        record {
          left = rw (head, first-origin, lu, lv) (omega (arith, he, hw (tri e)));
          right = rw (count, right_origin, with_left_sum-1 (org ts e'), hv) (omega (arith, sum, c, hr, ap nat_abs lr, hw (tri last.0)));
        }
