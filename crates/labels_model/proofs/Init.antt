-- The start of the stage: with the mesh in the tables, its stores make them those of a peeling that has removed nothing. Assumes nothing.
use Rattle.std.specs.Prelude.{ℕ, zero, suc, ◌+◌, ◌*◌, ◌/◌, ◌≤◌, ◌<◌, ◌≡◌, ◌≢◌, Bool, true, false, ◌||◌, List, [], ◌∷◌, eqb}
use Rattle.std.proofs.Math.Path.{refl, ap}
use Rattle.std.proofs.Common.{sym, ◌∙◌, arith, eq-eqb, ne_eqb}
use Rattle.std.proofs.Math.Logic.{inl, inr}
use mathlib.Core.List.Memᴰ
use Rattle.std.proofs.Math.Decide.{ℕ_discrete}
use Rattle.std.proofs.Math.ListN.{length}
use Rattle.definitions.specs.Lists.{any, elem}
use Rattle.definitions.specs.Mesh.{next, prev, org, tip, opp, outgoing}
use Rattle.laws.specs.Lists.{◌∈◌, filter_none}
use Rattle.laws.specs.Counting.{nil}
use Rattle.theory_sphere.specs.Sphere.{Sphere}
use Rattle.theory_sphere.specs.Rotations.{tip-opp}
use Rattle.theory_peeling.specs.Inside.{three, org_opp0, org_opp1, org_opp2, proper01, proper12, proper20}
use Rattle.theory_peeling.specs.Inside as Invariant
use Rattle.scratch_tables.specs.Tables.{upd, upd_same, upd_other}
use Rattle.labels_tables.specs.Peeling.{Peeling, set_vertex, set_degree, set_left, set_right}
use Rattle.labels_search.specs.Sets.{emptied, add_to, add_summed, add-member, empty_summed}
use Rattle.labels_search.specs.Stores.{with_sets}
use Rattle.labels_model.specs.Model.{add_candidate, add_frontier_dart, is_removable, clear_vertices, init_degrees, init_frontier, init_sets, init}
use Rattle.labels_model.specs.NeighbourCounts.{tip_is, met, joins, met-add, joins-none, joins-both, joins-one}
use Rattle.labels_model.specs.Counters.{Beside, beside_then, Meshed, meshed_kept, set_degree-same, set_degree-other, with_sets_beside}
use Rattle.labels_model.specs.Counters.{add_candidate_beside}
use Rattle.labels_model.proofs.Candidates.{can_true}
use Rattle.labels_model.specs.FrontierInsert.{Marked}
use Rattle.labels_model.specs.LabelFan.{marked_same}
use Rattle.labels_model.specs.FrontierInvariant.{on, Stood, stood_same}
use Rattle.labels_model.specs.Simulation.{Standing}

-- ---- the vertices' words are wiped, and nothing else is

pub clear-turn : (k v : ℕ) (t : Peeling) → (clear_vertices k v t).turn ≡ t.turn
unfolding clear_vertices set_vertex
clear-turn zero v t = refl
clear-turn (suc k) v t = clear-turn k (suc v) (set_vertex v 0 0 0 t)

pub clear-origin : (k v : ℕ) (t : Peeling) → (clear_vertices k v t).origin ≡ t.origin
unfolding clear_vertices set_vertex
clear-origin zero v t = refl
clear-origin (suc k) v t = clear-origin k (suc v) (set_vertex v 0 0 0 t)

clear-before : (k v : ℕ) (t : Peeling) (w : ℕ) → w < v → (clear_vertices k v t).degree w ≡ t.degree w
unfolding clear_vertices set_vertex
clear-before zero v t w h = refl
clear-before (suc k) v t w h = clear-before k (suc v) (set_vertex v 0 0 0 t) w (omega arith) ∙ upd_other v w 0 t.degree (omega arith)

clear-degree : (k v : ℕ) (t : Peeling) (w : ℕ) → v ≤ w → w < v + k → (clear_vertices k v t).degree w ≡ 0
unfolding clear_vertices set_vertex
clear-degree zero v t w h l = absurd (omega arith)
clear-degree (suc k) v t w h l =
    elim (ℕ_discrete w v) [
      | yes q ↦ rw q (clear-before k (suc v) (set_vertex v 0 0 0 t) v (omega arith) ∙ upd_same v 0 t.degree)
      | no q ↦ clear-degree k (suc v) (set_vertex v 0 0 0 t) w (omega arith) (omega arith)
    ]

module _ (n : ℕ) (ts : List ℕ) (s : Sphere n (length ts / 3) (org ts) (opp ts)) (len : 3 * (length ts / 3) ≡ length ts) where
  abbrev T : ℕ
  T = length ts / 3

  abbrev o : ℕ → ℕ
  o = org ts

  -- the frontier's darts at the start
  abbrev D : List ℕ
  D = opp ts 0 ∷ opp ts 1 ∷ []

  -- its vertices, in the order of the outer triangle's corners
  abbrev F : ℕ → Bool
  F u = eqb u (o 0) || (eqb u (o 1) || (eqb u (o 2) || false))

  three_in : (d : ℕ) → d < 3 → d < 3 * T
  three_in d h = omega (arith, three s)

  tip0 : tip ts 0 ≡ o 1
  unfolding tip next
  tip0 = refl

  tip1 : tip ts 1 ≡ o 2
  unfolding tip next
  tip1 = refl

  tip2 : tip ts 2 ≡ o 0
  unfolding tip next
  tip2 = refl

  F_on : (u : ℕ) → F u ≡ on ts D u
  unfolding elem any
  F_on u = rw (org_opp2 s, org_opp0 s, org_opp1 s)

  -- ---- each of them has the two others as neighbours

  join01 : joins ts (o 0) (o 1) ≡ 1
  join01 = joins-one n ts s len (o 0) (o 1) 0 (three_in 0 (omega arith)) refl tip0

  join12 : joins ts (o 1) (o 2) ≡ 1
  join12 = joins-one n ts s len (o 1) (o 2) 1 (three_in 1 (omega arith)) refl tip1

  join20 : joins ts (o 2) (o 0) ≡ 1
  join20 = joins-one n ts s len (o 2) (o 0) 2 (three_in 2 (omega arith)) refl tip2

  join_self : (w : ℕ) → joins ts w w ≡ 0
  join_self w = joins-none ts w w (λ d h e q. s.proper d (omega arith) (e ∙ sym q ∙ tip_is ts d))

  met-none : (w : ℕ) → met ts (λ u. false) w ≡ 0
  unfolding met
  met-none w = ap length (filter_none (λ d. false) (outgoing ts w) (λ d m. refl))

  met_is : (w : ℕ) → met ts F w ≡ joins ts w (o 0) + (joins ts w (o 1) + (joins ts w (o 2) + 0))
  met_is w =
      let a = met-add ts (λ u. eqb u (o 1) || (eqb u (o 2) || false)) (o 0) w
      (rw (ne_eqb (o 0) (o 1) (proper01 s), ne_eqb (o 0) (o 2) (λ e. proper20 s (sym e)))) in
      let b = met-add ts (λ u. eqb u (o 2) || false) (o 1) w (rw (ne_eqb (o 1) (o 2) (proper12 s))) in
      let c = met-add ts (λ u. false) (o 2) w refl in
      omega (arith, a, b, c, met-none w)

  met0 : met ts F (o 0) ≡ 2
  met0 = omega (arith, met_is (o 0), join_self (o 0), join01, joins-both n ts s len (o 0) (o 2), join20)

  met1 : met ts F (o 1) ≡ 2
  met1 = omega (arith, met_is (o 1), join_self (o 1), join12, joins-both n ts s len (o 1) (o 0), join01)

  met2 : met ts F (o 2) ≡ 2
  met2 = omega (arith, met_is (o 2), join_self (o 2), join20, joins-both n ts s len (o 2) (o 1), join12)

  -- ---- the tables

  module _ (t : Peeling) (mesh : Meshed ts t) where
    abbrev a : Peeling
    a = clear_vertices n 0 t

    mesh₀ : Meshed ts a
    mesh₀ = meshed_kept (clear-turn n 0 t) (clear-origin n 0 t) mesh

    origin₀ : (d : ℕ) → d < 3 → a.origin d ≡ o d
    origin₀ d h = mesh₀.origins d (omega (arith, three_in d h))

    abbrev t₁ : Peeling
    t₁ = init_degrees a

    degrees_are : t₁ ≡ set_degree (o 2) 3 (set_degree (o 1) 3 (set_degree (o 0) 3 a))
    unfolding init_degrees
    degrees_are = rw (origin₀ 0 (omega arith), origin₀ 1 (omega arith), origin₀ 2 (omega arith))

    mesh₁ : Meshed ts t₁
    unfolding init_degrees set_degree
    mesh₁ = meshed_kept refl refl mesh₀

    marks₁ : Marked n ts F t₁
    marks₁ w h =
        let b = set_degree (o 0) 3 a in
        let c = set_degree (o 1) 3 b in
        rw degrees_are (elim (ℕ_discrete w (o 2)) [
          | yes q ↦ rw (q, ne_eqb (o 2) (o 0) (proper20 s), ne_eqb (o 2) (o 1) (λ e. proper12 s (sym e)), eq-eqb (o 2) (o 2) refl) (set_degree-same (o 2) 3 c
              ∙ omega (arith, met2))
          | no q ↦
              set_degree-other (o 2) 3 c w q ∙ elim (ℕ_discrete w (o 1)) [
                | yes r ↦ rw (r, ne_eqb (o 1) (o 0) (λ e. proper01 s (sym e)), eq-eqb (o 1) (o 1) refl) (set_degree-same (o 1) 3 b ∙ omega (arith, met1))
                | no r ↦
                    set_degree-other (o 1) 3 b w r ∙ elim (ℕ_discrete w (o 0)) [
                      | yes p ↦ rw (p, eq-eqb (o 0) (o 0) refl) (set_degree-same (o 0) 3 a ∙ omega (arith, met0))
                      | no p ↦ rw (ne_eqb w (o 0) p, ne_eqb w (o 1) r, ne_eqb w (o 2) q) (set_degree-other (o 0) 3 a w p
                          ∙ clear-degree n 0 t w (omega arith) (omega arith))
                    ]
              ]
        ])

    abbrev x : ℕ
    x = opp ts 0

    abbrev y : ℕ
    y = opp ts 1

    abbrev t₂ : Peeling
    t₂ = init_frontier t₁

    tipx : tip ts x ≡ o 0
    tipx = tip_is ts x ∙ tip-opp s 0 (three_in 0 (omega arith))

    tipy : tip ts y ≡ o 1
    tipy = tip_is ts y ∙ tip-opp s 1 (three_in 1 (omega arith))

    origin₁ : (d : ℕ) → d < 3 → t₁.origin d ≡ o d
    origin₁ d h = mesh₁.origins d (omega (arith, three_in d h))

    turn1 : t₁.turn 1 ≡ x
    unfolding prev
    turn1 = mesh₁.turns 1 (omega (arith, three_in 1 (omega arith)))

    turn2 : t₁.turn 2 ≡ y
    unfolding prev
    turn2 = mesh₁.turns 2 (omega (arith, three_in 2 (omega arith)))

    edges_are : t₂ ≡ add_frontier_dart (o y) (tip ts y) y (add_frontier_dart (o x) (tip ts x) x t₁)
    unfolding init_frontier
    edges_are = rw (
      turn1,
      turn2,
      origin₁ 0 (omega arith),
      origin₁ 1 (omega arith),
      origin₁ 2 (omega arith),
      org_opp0 s,
      org_opp1 s,
      tipx,
      tipy,
    )

    lefts₂ : (d : ℕ) → d ∈ D → t₂.left (o d) ≡ d
    unfolding add_frontier_dart set_left set_right
    lefts₂ d m =
        rw edges_are (elim (Memᴰ.cases_cons m) [
          | inl q ↦ rw q (upd_other (o y) (o x) y (upd (o x) x t₁.left) (λ e. proper12 s (sym (org_opp0 s) ∙ e ∙ org_opp1 s))
              ∙ upd_same (o x) x t₁.left)
          | inr k ↦ let q : d ≡ y = Memᴰ.eq_of_singleton k in rw q (upd_same (o y) y (upd (o x) x t₁.left))
        ])

    rights₂ : (d : ℕ) → d ∈ D → t₂.right (tip ts d) ≡ d
    unfolding add_frontier_dart set_left set_right
    rights₂ d m =
        rw edges_are (elim (Memᴰ.cases_cons m) [
          | inl q ↦ rw q (upd_other (tip ts y) (tip ts x) y (upd (tip ts x) x t₁.right) (λ e. proper01 s (sym tipx ∙ e ∙ tipy))
              ∙ upd_same (tip ts x) x t₁.right)
          | inr k ↦ let q : d ≡ y = Memᴰ.eq_of_singleton k in rw q (upd_same (tip ts y) y (upd (tip ts x) x t₁.right))
        ])

    degree₂ : t₂.degree ≡ t₁.degree
    unfolding init_frontier add_frontier_dart set_left set_right
    degree₂ = refl

    mesh₂ : Meshed ts t₂
    unfolding init_frontier add_frontier_dart set_left set_right
    mesh₂ = meshed_kept refl refl mesh₁

    -- the tables of a peeling that has removed nothing
    stood₂ : Stood n ts [] D [] t₂
    stood₂ = record {
      meshed = mesh₂;
      coded = λ z m. absurd (Memᴰ.not-nil m);
      marked = marked_same n ts F (on ts D) t₂ F_on (rw degree₂ marks₁);
      lefts = lefts₂;
      rights = rights₂;
      old = λ z m. absurd (Memᴰ.not-nil m);
    }

    -- with v2 as its candidate
    abbrev e : Peeling
    e = with_sets (emptied n t₂.sets) t₂

    abbrev t₃ : Peeling
    t₃ = init n t

    sets_are : t₃ ≡ add_candidate n (o 1) e
    unfolding init init_sets
    sets_are = ap (λ (v : ℕ). add_candidate n v e) (mesh₂.origins 1 (omega (arith, three_in 1 (omega arith))))

    abbrev f : ℕ → ℕ
    f = emptied n t₂.sets

    beside₃ : Beside t₂ t₃
    beside₃ = rw sets_are (beside_then (with_sets_beside f t₂) (add_candidate_beside n (o 1) e))

    sets₃ : t₃.sets ≡ add_to n (o 1) f
    unfolding add_candidate with_sets
    sets₃ = ap (λ (p : Peeling). p.sets) sets_are

    degree₃ : t₃.degree ≡ t₂.degree
    unfolding add_candidate with_sets
    degree₃ = ap (λ (p : Peeling). p.degree) sets_are

    stood₃ : Stood n ts [] D [] t₃
    stood₃ = stood_same beside₃ degree₃ stood₂

    v2_in : o 1 < n
    v2_in = s.vertex 1 (three_in 1 (omega arith))

    -- of the vertices with a degree only v2 is neither v0 nor v1
    only_v2 : (w : ℕ) → w < n → is_removable t₃ w ≡ true → w ≡ o 1
    only_v2 w h r =
        let c = can_true t₃ w r in
        let d : t₁.degree w ≡ 3 = sym (ap (λ (g : ℕ → ℕ). g w) (degree₃ ∙ degree₂)) ∙ c.0 in
        let a0 : w ≢ o 0 = λ q. c.1 (q ∙ sym (stood₃.meshed.origins 0 (omega (arith, three_in 0 (omega arith))))) in
        let a2 : w ≢ o 2 = λ q. c.2 (q ∙ sym (stood₃.meshed.origins 2 (omega (arith, three_in 2 (omega arith))))) in
        elim (ℕ_discrete w (o 1)) [
          | yes q ↦ q
          | no q ↦ absurd (omega (arith, d, rw (ne_eqb w (o 0) a0, ne_eqb w (o 1) q, ne_eqb w (o 2) a2) at (marks₁ w h)))
        ]

    pub begun : n ≤ 4096 → Standing n ts s len 0 [] D [] t₃
    begun most = record {
      inv = Invariant.start s;
      distinct = nil;
      below = λ z m. absurd (Memᴰ.not-nil m);
      many = refl;
      stood = stood₃;
      candidates = record {
        summed = rw sets₃ (add_summed n f (o 1) v2_in (empty_summed n t₂.sets most));
        all = λ w h k r. rw (sets₃, add-member n f (o 1) v2_in w h, eq-eqb w (o 1) (only_v2 w h r)) refl;
      };
    }
