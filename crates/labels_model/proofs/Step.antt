-- A vertex leaves: what the tables hold after it, of the new frontier, of the labels and of the vertices that have left. Assumes nothing.
use Rattle.std.specs.Prelude.{ℕ, ◌*◌, ◌/◌, ◌≤◌, ◌<◌, ◌≡◌, refl, ◌≢◌, ◌⊎◌, Bool, true, false, not, ◌&&◌, ◌||◌, List, ◌∷◌, ◌++◌, map, eqb, length}
use Rattle.std.proofs.Common.{sym, ap, ◌∙◌, inl, inr, arith, eq-eqb, ne_eqb}
use mathlib.Core.List.Memᴰ
use Rattle.definitions.specs.Lists.{elem, upto}
use Rattle.definitions.specs.Mesh.{next, prev, org, tip, opp}
use Rattle.laws.specs.Lists.{◌∈◌, tested, clash, untrue, and_both, or_either, or_left, or_right, elem-true, true-elem, dec_in, in_upto, length-upto}
use Rattle.laws.specs.Counting.{distinct_within, distinct_head}
use Rattle.laws.specs.Edges.{dist_same}
use Rattle.theory_sphere.specs.Sphere.{Sphere}
use Rattle.theory_sphere.specs.Darts.{next-prev, prev-next, next-below, prev-below}
use Rattle.theory_sphere.specs.Rotations.{tip-opp, tip-rot, opp-rot}
use Rattle.theory_realizer.specs.Trace.{edge}
use Rattle.theory_peeling.specs.Inside.{Inside, inside-next, inside-prev, inside?, Inv}
use Rattle.theory_realizer.specs.Edges.{edge_is}
use Rattle.theory_peeling.specs.Fan.{Leaves}
use Rattle.theory_peeling.specs.Peel.{rest}
use Rattle.labels_tables.specs.Peeling.{Peeling}
use Rattle.labels_model.specs.Model.{pass_fan, leave_frontier, remove_vertex}
use Rattle.labels_model.specs.NeighbourCounts.{tip_is}
use Rattle.labels_model.specs.FrontierInsert.{Marked}
use Rattle.labels_model.specs.Counters.{Meshed, meshed_kept}
use Rattle.labels_model.specs.FrontierRemove.{leave_frontier-order, leave_frontier_earlier, leave_frontier-turn, leave_frontier-origin}
use Rattle.labels_model.specs.FrontierRemove.{leave_frontier-apex, leave_frontier_lefts, leave_frontier_rights, leave_frontier-marks}
use Rattle.labels_model.specs.FrontierRemove.{left-degree, right_degree}
use Rattle.labels_model.specs.LabelTriangle.{Coded}
use Rattle.labels_model.specs.LabelFan.{marked_same, fan_shape, across, across-org, across-tip, Fanned, Fresh}
use Rattle.labels_model.proofs.LabelFan.{fanned}
use Rattle.labels_model.specs.FrontierInvariant.{tips_once, on, true-on, on-true, false-on, Stood, on-there, on_below, tip-on}

module _ (n : ℕ) (ts : List ℕ) (s : Sphere n (length ts / 3) (org ts) (opp ts)) (len : 3 * (length ts / 3) ≡ length ts)
    {R D D' gs : List ℕ} {e e' : ℕ} (v : Inv n (length ts / 3) (org ts) (opp ts) R D)
    (l : Leaves (length ts / 3) (org ts) (opp ts) R D e e' gs D') where
  abbrev T : ℕ
  T = length ts / 3

  abbrev o : ℕ → ℕ
  o = org ts

  abbrev z : ℕ
  z = opp ts 2

  abbrev In : ℕ → Type 0
  In = Inside T o R

  -- the dart from the vertex to its right neighbour
  abbrev q : ℕ
  q = opp ts e'

  em : e ∈ z ∷ D
  em = Memᴰ.tail l.this

  em' : e' ∈ z ∷ D
  em' = Memᴰ.tail l.that

  eb : e < 3 * T
  eb = (v.this e em).below

  eb' : e' < 3 * T
  eb' = (v.this e' em').below

  qb : q < 3 * T
  qb = s.dart e' eb'

  q_from : o q ≡ o e
  q_from = s.reverses e' eb' ∙ sym l.meet

  q_tip : tip ts q ≡ o e'
  q_tip = tip_is ts q ∙ tip-opp s e' eb'

  -- darts of the vertex with one tip are one dart
  one : (a b : ℕ) → a < 3 * T → b < 3 * T → o a ≡ o b → tip ts a ≡ tip ts b → a ≡ b
  one a b x y p r = s.once a b x y p (sym (tip_is ts a) ∙ r ∙ tip_is ts b)

  q_out : In q → ⊥
  q_out = v.that e' em'

  -- the fan's darts
  gb : (g : ℕ) → g ∈ gs → g < 3 * T
  gb g m = (l.inside g m).below

  shape : gs ≡ e ∷ rest gs
  shape = fan_shape l.fan

  rest_in : (g : ℕ) → g ∈ rest gs → g ∈ gs
  rest_in g m = rw shape (Memᴰ.tail m)

  rest-not : (g : ℕ) → g ∈ rest gs → g ≢ e
  rest-not g m p = distinct_head (rw shape at l.distinct) (Memᴰ.cast (sym p) m)

  in_rest : (g : ℕ) → g ∈ gs → g ≢ e → g ∈ rest gs
  in_rest g m p = elim (Memᴰ.cases_cons (rw shape at m)) [ inl r ↦ absurd (p r) | inr k ↦ k ]

  -- all but the first have the inside on both sides, and lead to vertices that are not on the frontier
  rest-inside : (g : ℕ) → g ∈ rest gs → In (opp ts g)
  rest-inside g m = elim (l.prior g (rest_in g m)) [ inl p ↦ absurd (rest-not g m p) | inr i ↦ i ]

  rest-new : (g : ℕ) → g ∈ rest gs → on ts D (tip ts g) ≡ false
  rest-new g m = false-on ts D (tip ts g) (λ x k p. l.apart g (rest_in g m) (rest-inside g m) x k (sym (tip_is ts g) ∙ p))

  -- the fan's darts lead to vertices that are there, and so do the darts before them in their triangles
  tip-there : (g : ℕ) → g ∈ gs → tip ts g ∈ o e ∷ R → ⊥
  tip-there g m k =
      elim (Memᴰ.cases_cons k) [
        | inl p ↦ s.proper g (gb g m) (l.from g m ∙ sym p ∙ tip_is ts g)
        | inr j ↦ (l.inside g m).to (Memᴰ.cast (sym (tip_is ts g)) j)
      ]

  prev-there : (g : ℕ) → g ∈ gs → o (prev g) ∈ o e ∷ R → ⊥
  prev-there g m k =
      elim (Memᴰ.cases_cons k) [
        | inl p ↦ s.proper (prev g) (prev-below T g (gb g m)) (p ∙ sym (l.from g m) ∙ ap o (sym (next-prev g)))
        | inr j ↦ (l.inside g m).off j
      ]

  -- the vertex's darts to frontier vertices are the two to its neighbours
  pub only_two : (d : ℕ) → d < 3 * T → o d ≡ o e → on ts D (tip ts d) ≡ true → (tip ts d ≡ tip ts e) ⊎ (tip ts d ≡ tip ts q)
  only_two d b p k =
      elim (inside? T o R d) [
        | yes i ↦ elim (l.prior d (l.full d i p)) [
          | inl r ↦ inl (ap (tip ts) r)
          | inr j ↦ let x = on-true ts D (tip ts d) k in absurd (l.apart d (l.full d i p) j x.0 x.1 (sym (tip_is ts d) ∙ sym x.2))
        ]
        | no i ↦ elim (v.side d b (λ m. (v.this e em).from (Memᴰ.cast (sym p) m))
            (λ m. on-there n ts s len v (tip ts d) k (Memᴰ.cast (tip_is ts d) m))) [
              | inl j ↦ absurd (i j)
              | inr j ↦
                  let x = l.entry (opp ts d) (v.only (opp ts d) j (λ a. i (rw (s.twice d b) at a))) (tip-opp s d b ∙ p) in
                  inr (ap (tip ts) (sym (s.twice d b) ∙ ap (opp ts) x))
            ]
      ]

  -- ---- the new frontier's vertices

  -- the frontier without the vertex, and with those that come onto it
  abbrev pub F₀ : ℕ → Bool
  F₀ w = on ts D w && not (eqb w (o e))

  abbrev pub F₁ : ℕ → Bool
  F₁ w = elem w (map (tip ts) (rest gs)) || F₀ w

  edge-org : (g : ℕ) → g ∈ gs → o (edge T o (opp ts) g) ≡ o (prev g)
  edge-org g m = ap o (edge_is T o (opp ts) g) ∙ across-org n ts s len g (gb g m)

  -- no dart of the new frontier leaves the vertex
  pub left_out : (x : ℕ) → x ∈ z ∷ D' → o x ≢ o e
  left_out x m p =
      elim (Memᴰ.cases_cons m) [
        | inl r ↦ l.not0 (sym p ∙ ap o r)
        | inr k ↦ elim (l.fresh x k) [
          | inl t ↦ prev-there t.0 t.1 (Memᴰ.head (sym (edge-org t.0 t.1) ∙ ap o t.2 ∙ p))
          | inr t ↦ t.1 (dist_same o (z ∷ D) v.apart x e (Memᴰ.tail t.0) em p)
        ]
      ]

  pub keep_F₀ : (w : ℕ) → on ts D w ≡ true → w ≢ o e → F₀ w ≡ true
  keep_F₀ w a b = rw (a, ne_eqb w (o e) b)

  pub F₀-in : (w : ℕ) → F₀ w ≡ true → (on ts D w ≡ true) × (w ≢ o e)
  F₀-in w h =
      let r = and_both (on ts D w) (not (eqb w (o e))) h in
      (r.0, λ p. let c : not true ≡ true = rw (eq-eqb w (o e) p) at r.1 in clash refl (sym c))

  to-new : (w : ℕ) → F₁ w ≡ true → on ts D' w ≡ true
  to-new w h =
      elim (or_either (elem w (map (tip ts) (rest gs))) (F₀ w) h) [
        | inl a ↦
            let r = Memᴰ.of_map (tip ts) (rest gs) (elem-true w (map (tip ts) (rest gs)) a) in
            let y = r.0 in
            let i = rest-inside y r.1 in
            let g = next (opp ts y) in
            let yb = gb y (rest_in y r.1) in
            let m : g ∈ gs = l.full g (inside-next T o R (opp ts y) i) (tip-opp s y yb ∙ l.from y (rest_in y r.1)) in
            let p : o (edge T o (opp ts) g) ≡ w = edge-org g m ∙ ap o (prev-next (opp ts y)) ∙ s.reverses y yb ∙ sym (tip_is ts y) ∙ r.2 in
            rw (sym p) (true-on ts D' (edge T o (opp ts) g) (Memᴰ.tail (l.edges g m)))
        | inr a ↦
            let f = F₀-in w a in
            let x = on-true ts D w f.0 in
            elim (Memᴰ.cases_cons x.1) [
              | inl p ↦ rw (sym x.2 ∙ ap o p) (true-on ts D' z (Memᴰ.head refl))
              | inr k ↦ elim (l.kept x.0 k) [
                | inl p ↦ absurd (f.1 (sym x.2 ∙ ap o p))
                | inr r ↦ elim r [
                  | inl p ↦
                      let t = l.final in
                      rw (sym x.2 ∙ ap o (p ∙ sym t.2) ∙ sym (edge-org t.0 t.1))
                      (true-on ts D' (edge T o (opp ts) t.0) (Memᴰ.tail (l.edges t.0 t.1)))
                  | inr j ↦ rw (sym x.2) (true-on ts D' x.0 (Memᴰ.tail j))
                ]
              ]
            ]
      ]

  to_old : (w : ℕ) → on ts D' w ≡ true → F₁ w ≡ true
  to_old w h =
      let x = on-true ts D' w h in
      let away : w ≢ o e = λ p. left_out x.0 x.1 (x.2 ∙ p) in
      let stays : on ts D w ≡ true → F₁ w ≡ true = λ a. or_right (elem w (map (tip ts) (rest gs))) (F₀ w) (keep_F₀ w a away) in
      elim (Memᴰ.cases_cons x.1) [
        | inl p ↦ stays (rw (sym x.2 ∙ ap o p) (true-on ts D z (Memᴰ.head refl)))
        | inr k ↦ elim (l.fresh x.0 k) [
          | inl t ↦
              let g = t.0 in
              let b = gb g t.1 in
              let p : w ≡ o (prev g) = sym x.2 ∙ ap o (sym t.2) ∙ edge-org g t.1 in
              elim (l.onward g t.1) [
                | inl m ↦
                    let y = opp ts (prev g) in
                    let ny : y ≢ e = λ r. v.that e em (rw r at (rw (sym (opp-rot s g b)) at (inside-prev T o R g (l.inside g t.1)))) in
                    let r : tip ts y ≡ w = tip_is ts y ∙ tip-rot s g b ∙ sym p in
                    or_left (elem w (map (tip ts) (rest gs))) (F₀ w) (true-elem (Memᴰ.cast (sym r) (Memᴰ.map (tip ts) (in_rest y m ny))))
                | inr r ↦
                    let u : prev g ≡ e' = sym (opp-rot s g b) ∙ ap (opp ts) r ∙ s.twice e' eb' in
                    stays (rw (p ∙ ap o u) (true-on ts D e' em'))
              ]
          | inr t ↦ stays (rw (sym x.2) (true-on ts D x.0 (Memᴰ.tail t.0)))
        ]
      ]

  pub new-on : (w : ℕ) → F₁ w ≡ on ts D' w
  new-on w =
      elim (tested (F₁ w)) [
        | inl a ↦ a ∙ sym (to-new w a)
        | inr a ↦ a ∙ sym (untrue (on ts D' w) (λ b. clash (to_old w b) a))
      ]

  -- ---- the tables

  module _ {P : List ℕ} {t : Peeling} (st : Stood n ts R D P t) (i : ℕ) where
    abbrev v' : ℕ
    v' = o e

    abbrev t₀ : Peeling
    t₀ = leave_frontier n i v' (tip ts e) (tip ts q) t

    -- the tables after the vertex has left
    abbrev t' : Peeling
    t' = remove_vertex n i v' t

    pub left_is : t.left v' ≡ e
    left_is = st.lefts e l.this

    pub right_is : t.right v' ≡ e'
    right_is = ap t.right (l.meet ∙ sym (tip_is ts e')) ∙ st.rights e' l.that

    -- its left and its right neighbour
    pub left-tip : t.origin (next e) ≡ tip ts e
    left-tip = st.meshed.origins (next e) (omega (arith, next-below T e eb)) ∙ sym (tip_is ts e)

    pub right_tip : t.origin e' ≡ tip ts q
    right_tip = st.meshed.origins e' (omega (arith, eb')) ∙ sym q_tip

    leave_is : t' ≡ pass_fan n (tip ts q) (6 * n) e t₀
    unfolding remove_vertex
    leave_is = rw (left_is, right_is, left-tip, right_tip)

    pub meshed₀ : Meshed ts t₀
    meshed₀ =
        meshed_kept (leave_frontier-turn n i v' (tip ts e) (tip ts q) t) (leave_frontier-origin n i v' (tip ts e) (tip ts q) t) st.meshed

    pub coded₀ : Coded P t₀
    coded₀ = rw (leave_frontier-apex n i v' (tip ts e) (tip ts q) t) st.coded

    a_f : on ts D (tip ts e) ≡ true
    a_f = tip-on n ts s len v e em

    b_f : on ts D (tip ts q) ≡ true
    b_f = rw q_tip (true-on ts D e' em')

    not_left : tip ts e ≢ v'
    not_left p = s.proper e eb (sym p ∙ tip_is ts e)

    not_right : tip ts q ≢ v'
    not_right p = s.proper q qb (q_from ∙ sym p ∙ tip_is ts q)

    two_sides : tip ts e ≢ tip ts q
    two_sides p = q_out (rw (one e q eb qb (sym q_from) p) at (v.this e em))

    a_below : tip ts e < n
    a_below = on_below n ts s len v (tip ts e) a_f

    b_below : tip ts q < n
    b_below = on_below n ts s len v (tip ts q) b_f

    pub marked₀ : Marked n ts F₀ t₀
    marked₀ =
        leave_frontier-marks n ts s len (on ts D) i v' e q t st.marked (true-on ts D e em) eb refl qb q_from a_f b_f a_below b_below not_left not_right
        two_sides only_two

    -- each of its neighbours has it as a neighbour
    pub left_many : 1 < t.degree (tip ts e)
    left_many =
        left-degree n ts s len (on ts D) i v' e q t st.marked (true-on ts D e em) eb refl qb q_from a_f b_f a_below b_below not_left not_right two_sides
        only_two

    pub right_many : 1 < t.degree (tip ts q)
    right_many =
        right_degree n ts s len (on ts D) i v' e q t st.marked (true-on ts D e em) eb refl qb q_from a_f b_f a_below b_below not_left not_right two_sides
        only_two

    pub fresh₀ : Fresh n ts s len v' (tip ts q) P F₀ gs
    fresh₀ =
        record {
          below = gb;
          from = l.from;
          distinct = l.distinct;
          short = λ g m p. q_out (rw (one g q (gb g m) qb (l.from g m ∙ sym q_from) p) at (l.inside g m));
          new = λ g m. rw (rest-new g m);
          blank = λ g m. (λ k. (l.inside g m).off (st.old (prev g) k), λ k. (l.inside g m).to (st.old (next g) k));
        }

    short : length gs ≤ 6 * n
    short = omega (
      arith,
      distinct_within l.distinct (upto (length ts)) (λ g m. in_upto (length ts) g (omega (arith, gb g m))),
      length-upto (length ts),
      s.size,
    )

    pub done : Fanned n ts s len P F₀ gs t₀ t'
    done = rw leave_is (fanned n ts s len v' q (tip ts q) refl l.fan (6 * n) P F₀ t₀ short meshed₀ coded₀ marked₀ fresh₀)

    left₀ : (r : ℕ) → t₀.left r ≡ t.left r
    left₀ r = ap (λ (f : ℕ → ℕ). f r) (leave_frontier_lefts n i v' (tip ts e) (tip ts q) t)

    right₀ : (r : ℕ) → t₀.right r ≡ t.right r
    right₀ r = ap (λ (f : ℕ → ℕ). f r) (leave_frontier_rights n i v' (tip ts e) (tip ts q) t)

    order₁ : (j : ℕ) → t'.order j ≡ t₀.order j
    order₁ j = ap (λ (f : ℕ → ℕ). f j) done.orders

    -- what a vertex that has left had is kept
    pub left-kept : (r : ℕ) → r ∈ v' ∷ R → t'.left r ≡ t.left r
    left-kept r m = done.left_old r (λ g k p. prev-there g k (Memᴰ.cast (sym (p ∙ across-org n ts s len g (gb g k))) m)) ∙ left₀ r

    pub right_kept : (r : ℕ) → r ∈ v' ∷ R → t'.right r ≡ t.right r
    right_kept r m = done.right_old r (λ g k p. tip-there g k (Memᴰ.cast (sym (p ∙ across-tip n ts s len g (gb g k))) m)) ∙ right₀ r

    pub order-here : t'.order i ≡ v'
    order-here = order₁ i ∙ leave_frontier-order n i v' (tip ts e) (tip ts q) t

    pub order-kept : (j : ℕ) → j ≢ i → t'.order j ≡ t.order j
    order-kept j h = order₁ j ∙ leave_frontier_earlier n i v' (tip ts e) (tip ts q) t j h

    -- the new frontier's darts
    edge_of : (g : ℕ) → g ∈ gs → across n ts s len g ∈ D'
    edge_of g m = Memᴰ.cast (sym (edge_is T o (opp ts) g)) (l.edges g m)

    new_lefts : (x : ℕ) → x ∈ D' → t'.left (o x) ≡ x
    new_lefts x m =
        elim (dec_in (o x) (map (λ g. o (across n ts s len g)) gs)) [
          | yes k ↦
              let r = Memᴰ.of_map (λ g. o (across n ts s len g)) gs k in
              let p : x ≡ across n ts s len r.0 = dist_same o (z ∷ D') l.differ x (across n ts s len r.0) (Memᴰ.tail m)
              (Memᴰ.tail (edge_of r.0 r.1)) (sym r.2) in
              rw p (done.left_new r.0 r.1)
          | no k ↦
              elim (l.fresh x m) [
                | inl r ↦ absurd (k (Memᴰ.cast (ap o (sym r.2 ∙ edge_is T o (opp ts) r.0))
                    (Memᴰ.map (λ g. o (across n ts s len g)) r.1)))
                | inr r ↦ done.left_old (o x) (λ g j p. k (Memᴰ.cast p (Memᴰ.map (λ g. o (across n ts s len g)) j)))
                    ∙ left₀ (o x) ∙ st.lefts x r.0
              ]
        ]

    same_tips : (x y : ℕ) → x ∈ D' → y ∈ D' → tip ts x ≡ tip ts y → x ≡ y
    same_tips x y m k p = tips_once o z D' (o (next z)) l.path l.differ x y m k (sym (tip_is ts x) ∙ p ∙ tip_is ts y)

    new_rights : (x : ℕ) → x ∈ D' → t'.right (tip ts x) ≡ x
    new_rights x m =
        elim (dec_in (tip ts x) (map (λ g. tip ts (across n ts s len g)) gs)) [
          | yes k ↦
              let r = Memᴰ.of_map (λ g. tip ts (across n ts s len g)) gs k in
              let p : x ≡ across n ts s len r.0 = same_tips x (across n ts s len r.0) m (edge_of r.0 r.1) (sym r.2) in
              rw p (done.right_new r.0 r.1)
          | no k ↦
              elim (l.fresh x m) [
                | inl r ↦ absurd (k (Memᴰ.cast (ap (tip ts) (sym r.2 ∙ edge_is T o (opp ts) r.0))
                    (Memᴰ.map (λ g. tip ts (across n ts s len g)) r.1)))
                | inr r ↦ done.right_old (tip ts x) (λ g j p. k (Memᴰ.cast p (Memᴰ.map (λ g. tip ts (across n ts s len g)) j)))
                    ∙ right₀ (tip ts x) ∙ st.rights x r.0
              ]
        ]

    -- the tables after the vertex has left
    pub stands : Stood n ts (v' ∷ R) D' (P ++ gs) t'
    stands =
        record {
          meshed = done.meshed;
          coded = done.coded;
          marked = marked_same n ts F₁ (on ts D') t' new-on done.marked;
          lefts = new_lefts;
          rights = new_rights;
          old = λ x m. elim (Memᴰ.append_cases P m) [ inl k ↦ Memᴰ.tail (st.old x k) | inr k ↦ Memᴰ.head (l.from x k) ];
        }
