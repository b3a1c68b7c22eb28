-- A vertex comes onto the frontier: going once round it, the work counts its frontier neighbours and counts it as a neighbour of theirs. Assumes nothing.
use Prim.Native.Nat.{ℕ, zero, suc, ◌+◌, ◌*◌, ◌/◌, ◌≤◌, ◌<◌}
use Rattle.std.specs.Prelude.{◌≡◌, refl, ◌≢◌, Bool, true, false, ◌&&◌, ◌||◌, cond, ltb, length}
use Rattle.std.proofs.Math.Path.{sym, ap}
use Rattle.std.proofs.Common.{◌∙◌}
use Rattle.std.proofs.Math.Logic.{inl, inr}
use mathlib.Core.List.Memᴰ
use mathlib.Core.List.{List, [], ◌∷◌}
use native.Mathlib.Omega.{arith}
use Rattle.std.proofs.Math.Decide.{ℕ_discrete}
use Rattle.std.proofs.Math.Dec.{eqb}
use borrow.Author.Tests.{lt-ltb, le-ltb, eq-eqb, ne_eqb}
use Rattle.definitions.specs.Lists.{filter, iterate}
use Rattle.definitions.specs.Mesh.{next, prev, org, tip, darts, opp, rot, rotations, outgoing}
use Rattle.laws.specs.Lists.{◌∈◌, tested, clash, filter_in, in_filter, length-filter, length-upto}
use Rattle.laws.specs.Counting.{distinct_within, distinct_filter}
use Rattle.theory_sphere.specs.Sphere.{Sphere}
use Rattle.theory_sphere.specs.Darts.{next-below, prev-below}
use Rattle.theory_sphere.specs.Rows.{outgoing_in, in_outgoing, distinct_outgoing}
use Rattle.theory_sphere.specs.Rotations.{org-rot, tip-rot}
use Rattle.theory_sphere.specs.Accept.{sphere_period, sphere_rotations-all, sphere_rotations_distinct, sphere_rotations_in}
use Rattle.labels_tables.specs.Peeling.{Peeling}
use Rattle.labels_model.specs.Model.{Counted, update_degree, increment_degree, count_neighbour, count_neighbours, enter_frontier}
use Rattle.labels_model.specs.Counters.{Beside, beside_same, beside_then, Meshed, meshed_beside, update_degree_beside, update_degree-same}
use Rattle.labels_model.specs.Counters.{update_degree-other}
use Rattle.labels_model.specs.NeighbourCounts.{tip_is, met, joins, met-add, joins-none, joins-both}

-- ---- what a table of marks says

-- The marks of the n vertices: 0 for one that is not in F, one more than the number of darts that lead from it to F for one that is.
abbrev pub Marked : (n : ℕ) (ts : List ℕ) → (ℕ → Bool) → Peeling → Type 0
Marked n ts F t = (w : ℕ) → w < n → t.degree w ≡ cond (F w) (suc (met ts F w)) 0

-- ---- one more

increment_degree-here : (n w : ℕ) (t : Peeling) → (increment_degree n w t).degree w ≡ t.degree w + 1
unfolding increment_degree
increment_degree-here n w t = update_degree-same n w (t.degree w + 1) t

increment_degree_else : (n w x : ℕ) (t : Peeling) → x ≢ w → (increment_degree n w t).degree x ≡ t.degree x
unfolding increment_degree
increment_degree_else n w x t h = update_degree-other n w (t.degree w + 1) t x h

increment_degree_beside : (n w : ℕ) (t : Peeling) → Beside t (increment_degree n w t)
unfolding increment_degree
increment_degree_beside n w t = update_degree_beside n w (t.degree w + 1) t

pub keep_count : (p : ℕ → Bool) (x : ℕ) (xs : List ℕ) → length (filter p (x ∷ xs)) ≡ cond (p x) 1 0 + length (filter p xs)
unfolding filter
keep_count p x xs = elim (tested (p x)) [ inl e ↦ rw e (omega arith) | inr e ↦ rw e (omega arith) ]

pub count_neighbour_beside : (n w c : ℕ) (t : Peeling) → Beside t (count_neighbour n w c t).tables
unfolding count_neighbour
count_neighbour_beside n w c t = elim (tested (ltb 0 (t.degree w))) [ inl e ↦ rw e (increment_degree_beside n w t) | inr e ↦ rw e (beside_same t) ]

-- no degree grows by more than one, and neither does the count
module _ (n w c : ℕ) (t : Peeling) where
  pub count_neighbour-degree : (x : ℕ) → (count_neighbour n w c t).tables.degree x ≤ t.degree x + 1
  unfolding count_neighbour
  count_neighbour-degree x = elim (tested (ltb 0 (t.degree w))) [
    | inl e ↦ rw e (elim (ℕ_discrete x w) [
      | yes q ↦ rw q (omega (arith, increment_degree-here n w t))
      | no q ↦ omega (arith, increment_degree_else n w x t q)
    ])
    | inr e ↦ rw e (omega arith)
  ]

  pub count_neighbour_most : (count_neighbour n w c t).count ≤ c + 1
  unfolding count_neighbour
  count_neighbour_most = elim (tested (ltb 0 (t.degree w))) [ inl e ↦ rw e (omega arith) | inr e ↦ rw e (omega arith) ]

module _ (n : ℕ) where
  count_neighbours_beside : (first k d c : ℕ) (t : Peeling) → Beside t (count_neighbours n first k d c t).tables
  unfolding count_neighbours
  count_neighbours_beside first zero d c t = beside_same t
  count_neighbours_beside first (suc k) d c t =
      let m = count_neighbour n (t.origin (prev d)) c t in
      let b = count_neighbour_beside n (t.origin (prev d)) c t in
      let r = count_neighbours_beside first k (t.turn d) m.count m.tables in
      elim (tested (eqb (t.turn d) first)) [ inl e ↦ rw e b | inr e ↦ rw e (beside_then b r) ]

  pub enter_beside : (u d : ℕ) (t : Peeling) → Beside t (enter_frontier n u d t)
  unfolding enter_frontier
  enter_beside u d t =
      let r = count_neighbours n d (6 * n) d 1 t in
      beside_then (count_neighbours_beside d (6 * n) d 1 t) (update_degree_beside n u r.count r.tables)

-- ---- the walk as a list

module _ (n : ℕ) (ts : List ℕ) where
  count_list : List ℕ → ℕ → Peeling → Counted
  count_list [] c t = record { count = c; tables = t }
  count_list (d ∷ ds) c t =
      let r = count_neighbour n (tip ts d) c t in
      count_list ds r.count r.tables

  -- just the vertices of F have a mark
  record Lit (F : ℕ → Bool) (t : Peeling) : Type 0 where
    light : (w : ℕ) → w < n → F w ≡ true → 0 < t.degree w
    dark : (w : ℕ) → w < n → F w ≡ false → t.degree w ≡ 0

  module _ (F : ℕ → Bool) where
    -- one dart
    module _ (t : Peeling) (L : Lit F t) (d c : ℕ) (xn : tip ts d < n) where
      abbrev r : Counted
      r = count_neighbour n (tip ts d) c t

      on : F (tip ts d) ≡ true → r ≡ record { count = c + 1; tables = increment_degree n (tip ts d) t }
      unfolding count_neighbour
      on e = rw (lt-ltb 0 (t.degree (tip ts d)) (L.light (tip ts d) xn e))

      off : F (tip ts d) ≡ false → r ≡ record { count = c; tables = t }
      unfolding count_neighbour
      off e = rw (le-ltb 0 (t.degree (tip ts d)) (omega (arith, L.dark (tip ts d) xn e)))

      count_neighbour-marks : (w : ℕ) → w < n → r.tables.degree w ≡ t.degree w + cond (F w && eqb (tip ts d) w) 1 0
      count_neighbour-marks w wn =
          elim (tested (F (tip ts d))) [
            | inl e ↦
                elim (ℕ_discrete (tip ts d) w) [
                  | yes q ↦
                      let f : F w ≡ true = ap F (sym q) ∙ e in
                      rw (on e, f, eq-eqb (tip ts d) w q, q) (rw q at (increment_degree-here n (tip ts d) t))
                  | no q ↦
                      let stay = increment_degree_else n (tip ts d) w t (λ z. q (sym z)) in
                      rw (on e, ne_eqb (tip ts d) w q) (elim (tested (F w)) [ inl f ↦ rw f (omega (arith, stay)) | inr f ↦ rw f (omega (arith, stay)) ])
                ]
            | inr e ↦
                rw (off e) (elim (tested (F w)) [
                  | inl f ↦ rw (f, ne_eqb (tip ts d) w (λ z. (let g : true ≡ false = sym f ∙ ap F (sym z) ∙ e in clash refl g))) (omega arith)
                  | inr f ↦ rw f (omega arith)
                ])
          ]

      count_neighbour-count : r.count ≡ c + cond (F (tip ts d)) 1 0
      count_neighbour-count = elim (tested (F (tip ts d))) [ inl e ↦ rw (on e, e) | inr e ↦ rw (off e, e) (omega arith) ]

      count_neighbour_lit : Lit F r.tables
      count_neighbour_lit =
          record {
            light = λ w wn f. omega (arith, count_neighbour-marks w wn, L.light w wn f);
            dark = λ w wn f. count_neighbour-marks w wn ∙ rw f (omega (arith, L.dark w wn f));
          }

    -- the whole list
    count_list_marks : (ds : List ℕ) (c : ℕ) (t : Peeling) → Lit F t → ((d : ℕ) → d ∈ ds → tip ts d < n) →
        ((count_list ds c t).count ≡ c + length (filter (λ d. F (tip ts d)) ds))
        × ((w : ℕ) → w < n → (count_list ds c t).tables.degree w ≡ t.degree w + cond (F w) (length (filter (λ d. eqb (tip ts d) w) ds)) 0)
    unfolding count_list filter
    count_list_marks [] c t L h = (omega arith, λ w wn. elim (tested (F w)) [ inl f ↦ rw f (omega arith) | inr f ↦ rw f (omega arith) ])
    count_list_marks (d ∷ ds) c t L h =
        let x = h d (Memᴰ.head refl) in
        let r = count_neighbour n (tip ts d) c t in
        let ih = count_list_marks ds r.count r.tables (count_neighbour_lit t L d c x) (λ e m. h e (Memᴰ.tail m)) in (
          omega (arith, ih.0, count_neighbour-count t L d c x, keep_count (λ d. F (tip ts d)) d ds),
          λ w wn.
              let step = count_neighbour-marks t L d c x w wn in
              let rest = ih.1 w wn in
              let count = keep_count (λ d. eqb (tip ts d) w) d ds in
              elim (tested (F w)) [
                | inl f ↦ rw f (omega (arith, rw f at rest, rw f at step, count))
                | inr f ↦ rw f (omega (arith, rw f at rest, rw f at step))
              ],
        )

module _ (n : ℕ) (ts : List ℕ) (s : Sphere n (length ts / 3) (org ts) (opp ts)) (len : 3 * (length ts / 3) ≡ length ts) where
  abbrev T : ℕ
  T = length ts / 3

  pub turn_is : (t : Peeling) → Meshed ts t → (d : ℕ) → d < 3 * T → t.turn d ≡ rot ts d
  unfolding rot
  turn_is t o d h = o.turns d (omega arith)

  pub rot_in : (d : ℕ) → d < 3 * T → rot ts d < 3 * T
  unfolding rot
  rot_in d h = s.dart (prev d) (prev-below T d h)

  -- one rotation leads to the neighbour from which the dart before comes
  tip_turned : (d : ℕ) → d < 3 * T → org ts (prev d) ≡ tip ts (rot ts d)
  unfolding rot tip
  tip_turned d h = sym (tip-rot s d h)

  -- the walk meets the darts that rotations lead to, up to the first
  count_neighbours-list : (first j k d c : ℕ) (t : Peeling) → Meshed ts t → d < 3 * T → 0 < j → j ≤ k → iterate (rot ts) j d ≡ first →
      ((i : ℕ) → 0 < i → i < j → iterate (rot ts) i d ≢ first)
      → count_neighbours n first k d c t ≡ count_list n ts (rotations ts j (rot ts d)) c t
  unfolding count_neighbours count_list rotations iterate
  count_neighbours-list first zero k d c t o h p q e f = absurd (omega arith)
  count_neighbours-list first (suc j) zero d c t o h p q e f = absurd (omega arith)
  count_neighbours-list first (suc zero) (suc k) d c t o h p q e f =
      rw (eq-eqb (t.turn d) first (turn_is t o d h ∙ e), o.origins (prev d) (omega (arith, prev-below T d h)), tip_turned d h)
  count_neighbours-list first (suc (suc j)) (suc k) d c t o h p q e f =
      let m = turn_is t o d h in
      let r = count_neighbour n (tip ts (rot ts d)) c t in
      rw (
        ne_eqb (t.turn d) first (λ z. f 1 (omega arith) (omega arith) (sym m ∙ z)),
        m,
        o.origins (prev d) (omega (arith, prev-below T d h)),
        tip_turned d h,
      ) (count_neighbours-list first (suc j) k (rot ts d) r.count r.tables
      (meshed_beside (count_neighbour_beside n (tip ts (rot ts d)) c t) o) (rot_in d h) (omega arith)
      (omega arith) e (λ i a b. f (suc i) (omega arith) (omega arith)))

  -- so many rotations meet as many darts with a property as there are
  rotations-count : (p : ℕ → Bool) (d : ℕ) → d < 3 * T → length (filter p (rotations ts (length (outgoing ts (org ts d))) d))
      ≡ length (filter p (outgoing ts (org ts d)))
  rotations-count p d h =
      let whole = sym len in
      let k = length (outgoing ts (org ts d)) in
      let up = distinct_within (distinct_filter p (sphere_rotations_distinct n ts s whole d h)) (filter p (outgoing ts (org ts d))) (λ x m.
      let r = filter_in p (rotations ts k d) m in
      let i = sphere_rotations_in n ts s whole d h k r.0 in
      in_filter p (in_outgoing ts (org ts d) x (omega (arith, i.0)) i.1) r.1) in
      let down = distinct_within (distinct_filter p (distinct_outgoing ts (org ts d))) (filter p (rotations ts k d)) (λ x m.
      let r = filter_in p (outgoing ts (org ts d)) m in
      let l = outgoing_in ts (org ts d) r.0 in
      in_filter p (sphere_rotations-all n ts s whole d h x (omega (arith, l.0)) l.1) r.1) in
      omega (arith, up, down)

  pub outgoing_few : (w : ℕ) → length (outgoing ts w) ≤ length ts
  unfolding outgoing darts
  outgoing_few w = omega (arith, length-filter (λ d. eqb (org ts d) w) (darts ts), length-upto (length ts))

  module _ (F : ℕ → Bool) (d : ℕ) (t : Peeling) (o : Meshed ts t) (M : Marked n ts F t) (h : d < 3 * T) (new : F (org ts d) ≡ false) where
    abbrev u : ℕ
    u = org ts d

    abbrev F' : ℕ → Bool
    F' w = eqb w u || F w

    -- the darts of u, from the one on that one rotation from d leads to
    abbrev d₁ : ℕ
    d₁ = rot ts d

    d₁_in : d₁ < 3 * T
    d₁_in = rot_in d h

    d₁_from : org ts d₁ ≡ u
    unfolding rot
    d₁_from = org-rot s d h

    abbrev ds : List ℕ
    ds = rotations ts (length (outgoing ts u)) d₁

    lit : Lit n ts F t
    lit =
        record {
          light = λ w wn f. omega (arith, rw f at (M w wn));
          dark = λ w wn f. rw f at (M w wn);
        }

    tips : (x : ℕ) → x ∈ ds → tip ts x < n
    unfolding tip
    tips x m = let i = sphere_rotations_in n ts s (sym len) d₁ d₁_in (length (outgoing ts u)) m in s.vertex (next x) (next-below T x i.0)

    abbrev walk : Counted
    walk = count_list n ts ds 1 t

    entered : enter_frontier n u d t ≡ update_degree n u walk.count walk.tables
    unfolding enter_frontier
    entered =
        let p = sphere_period n ts s (sym len) d h in
        let e = count_neighbours-list d (length (outgoing ts u)) (6 * n) d 1 t o h p.some (omega (arith, outgoing_few u, s.size)) p.back
        p.soonest in
        ap (λ (x : Counted). update_degree n u x.count x.tables) e

    -- the walk meets all darts of u
    all-met : (p : ℕ → Bool) → length (filter p ds) ≡ length (filter p (outgoing ts u))
    all-met p = rw d₁_from at (rotations-count p d₁ d₁_in)

    self : joins ts u u ≡ 0
    self = joins-none ts u u (λ x l e z. s.proper x (omega arith) (e ∙ sym z ∙ tip_is ts x))

    own : walk.count ≡ suc (met ts F' u)
    unfolding met
    own = omega (arith, (count_list_marks n ts F ds 1 t lit tips).0, all-met (λ x. F (tip ts x)), met-add ts F u u new, self)

    counted : (w : ℕ) → length (filter (λ x. eqb (tip ts x) w) ds) ≡ joins ts u w
    unfolding joins met
    counted w = all-met (λ x. eqb (tip ts x) w)

    other : (w : ℕ) → w < n → walk.tables.degree w ≡ cond (F w) (suc (met ts F' w)) 0
    other w wn =
        let e = (count_list_marks n ts F ds 1 t lit tips).1 w wn in
        elim (tested (F w)) [
          | inl f ↦ rw f (omega (arith, rw f at e, rw f at (M w wn), counted w, joins-both n ts s len w u, met-add ts F u w new))
          | inr f ↦ rw f (omega (arith, rw f at e, rw f at (M w wn)))
        ]

    -- the marks with u in the set
    pub enter_marks : Marked n ts F' (enter_frontier n u d t)
    enter_marks w wn =
        elim (ℕ_discrete w u) [
          | yes q ↦ rw (q, entered, eq-eqb u u refl) (update_degree-same n u walk.count walk.tables ∙ own)
          | no q ↦ rw (entered, ne_eqb w u q) (update_degree-other n u walk.count walk.tables w q ∙ other w wn)
        ]
