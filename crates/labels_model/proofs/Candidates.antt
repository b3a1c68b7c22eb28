-- The candidates: what the test for one says, and that every store of the work keeps them. Assumes nothing.
use Prim.Native.Nat.{ℕ, zero, suc, ◌+◌, ◌-◌, ◌*◌, ◌<◌}
use Rattle.std.specs.Prelude.{◌≡◌, ◌≢◌, true, ◌&&◌, ltb, eqb}
use Rattle.std.proofs.Math.Path.{refl}
use Rattle.std.proofs.Common.{sym, ap, ◌∙◌, arith}
use Rattle.std.proofs.Math.Logic.{inl, inr}
use Rattle.std.proofs.Math.Bool.{not}
use Rattle.std.proofs.Math.Decide.{ℕ_discrete}
use borrow.Author.Tests.{eq-eqb, ne_eqb, eqb-true, eqb-false, not-true}
use Rattle.definitions.specs.Mesh.{triangles_length, next, prev}
use Rattle.laws.specs.Lists.{tested, and_both}
use Rattle.theory_sphere.specs.Darts.{next-below, prev-below}
use Rattle.labels_tables.specs.Peeling.{Peeling, set_degree, set_order}
use Rattle.labels_search.specs.Sets.{member, add_to, add_summed, add-member}
use Rattle.labels_search.specs.Stores.{with_sets}
use Rattle.labels_model.specs.Model.{add_candidate, update_degree, increment_degree, decrement_degree, count_neighbour, count_neighbours}
use Rattle.labels_model.specs.Model.{enter_frontier, pass_triangle, pass_fan, leave_frontier, remove_vertex, is_removable}
use Rattle.labels_model.specs.Counters.{InRange, range-kept, range_beside, set_degree_beside, set_degree-same, set_degree-other}
use Rattle.labels_model.specs.Counters.{with_sets_beside, with_sets-degree, with_sets_sets}
use Rattle.labels_model.specs.FrontierInsert.{count_neighbour_beside, enter_beside}
use Rattle.labels_model.specs.FrontierRemove.{leave_frontier-turn, leave_frontier-origin}
use Rattle.labels_model.specs.LabelTriangle.{pass_turn, pass_origin, pass_degree, pass_sets}
use Rattle.labels_model.specs.Candidates.{can_same, Candidates}

-- ---- the test

module _ (t : Peeling) (x : ℕ) where
  pub can_true : is_removable t x ≡ true → (t.degree x ≡ 3) × (x ≢ t.origin 0) × (x ≢ t.origin 2)
  unfolding is_removable
  can_true e =
      let a = and_both (eqb (t.degree x) 3 && not (eqb x (t.origin 0))) (not (eqb x (t.origin 2))) e in
      let b = and_both (eqb (t.degree x) 3) (not (eqb x (t.origin 0))) a.0 in (
        eqb-true (t.degree x) 3 b.0,
        eqb-false x (t.origin 0) (not-true (eqb x (t.origin 0)) b.1),
        eqb-false x (t.origin 2) (not-true (eqb x (t.origin 2)) a.1),
      )

  pub true_can : t.degree x ≡ 3 → x ≢ t.origin 0 → x ≢ t.origin 2 → is_removable t x ≡ true
  unfolding is_removable
  true_can a b c = rw (eq-eqb (t.degree x) 3 a, ne_eqb x (t.origin 0) b, ne_eqb x (t.origin 2) c)

-- ---- the candidates

module _ {n but : ℕ} where
  candidates_same : {t t' : Peeling} → t'.degree ≡ t.degree → t'.origin ≡ t.origin → t'.sets ≡ t.sets → Candidates n but t →
      Candidates n but t'
  candidates_same {t} {t'} d o e C = record {
    summed = rw e C.summed;
    all = λ x h k c. rw e (C.all x h k (sym (can_same t t' x (ap (λ (f : ℕ → ℕ). f x) d) o) ∙ c));
  }

  -- ---- a degree

  module _ (w c : ℕ) (t : Peeling) (C : Candidates n but t) where
    abbrev t₁ : Peeling
    t₁ = set_degree w c t

    sets₁ : t₁.sets ≡ t.sets
    unfolding set_degree
    sets₁ = refl

    others : (x : ℕ) → x < n → x ≢ but → x ≢ w → is_removable t₁ x ≡ true → member n t.sets x ≡ true
    others x h k q e = C.all x h k (sym (can_same t t₁ x (set_degree-other w c t x q) (set_degree_beside w c t).origins) ∙ e)

    abbrev f : ℕ → ℕ
    f = add_to n w t₁.sets

    candidates_on : w < n → Candidates n but (with_sets f t₁)
    candidates_on l = record {
      summed = rw (with_sets_sets f t₁, sets₁) (add_summed n t.sets w l C.summed);
      all = λ x h k e. rw (with_sets_sets f t₁, sets₁, add-member n t.sets w l x h) (elim (ℕ_discrete x w) [
        | yes q ↦ rw (eq-eqb x w q)
        | no q ↦
            let able : is_removable t₁ x ≡ true = sym (can_same t₁ (with_sets f t₁) x (ap (λ (f : ℕ → ℕ). f x) (with_sets-degree f t₁))
            (with_sets_beside f t₁).origins) ∙ e in
            rw (ne_eqb x w q) (others x h k q able)
      ]);
    }

    candidates_off : c ≢ 3 → Candidates n but t₁
    candidates_off j = record {
      summed = rw sets₁ C.summed;
      all = λ x h k e. elim (ℕ_discrete x w) [
        | yes q ↦ absurd (j (sym (set_degree-same w c t) ∙ ap t₁.degree (sym q) ∙ (can_true t₁ x e).0))
        | no q ↦ rw sets₁ (others x h k q e)
      ];
    }

    pub candidates_update_degree : w < n → Candidates n but (update_degree n w c t)
    unfolding update_degree add_candidate
    candidates_update_degree l = elim (tested (eqb c 3)) [ inl e ↦ rw e (candidates_on l) | inr e ↦ rw e (candidates_off (eqb-false c 3 e)) ]

  -- ---- a vertex comes onto the frontier

  candidates_count_neighbour : (w c : ℕ) (t : Peeling) → w < n → Candidates n but t → Candidates n but (count_neighbour n w c t).tables
  unfolding count_neighbour increment_degree
  candidates_count_neighbour w c t h C = elim (tested (ltb 0 (t.degree w))) [
    | inl e ↦ rw e (candidates_update_degree w (t.degree w + 1) t C h)
    | inr e ↦ rw e C
  ]

  candidates_count_neighbours : (first k d c : ℕ) (t : Peeling) → InRange n t → d < triangles_length n → Candidates n but t →
      Candidates n but (count_neighbours n first k d c t).tables
  unfolding count_neighbours
  candidates_count_neighbours first zero d c t r h C = C
  candidates_count_neighbours first (suc k) d c t r h C =
      let w = t.origin (prev d) in
      let m = count_neighbour n w c t in
      let C' = candidates_count_neighbour w c t (r.origin_in (prev d) (prev-below (2 * n - 4) d h)) C in
      let more = candidates_count_neighbours first k (t.turn d) m.count m.tables (range_beside (count_neighbour_beside n w c t) r) (r.turn_in d h) C' in
      elim (tested (eqb (t.turn d) first)) [ inl e ↦ rw e C' | inr e ↦ rw e more ]

  candidates_enter : (u d : ℕ) (t : Peeling) → InRange n t → u < n → d < triangles_length n → Candidates n but t →
      Candidates n but (enter_frontier n u d t)
  unfolding enter_frontier
  candidates_enter u d t r hu hd C =
      let m = count_neighbours n d (6 * n) d 1 t in
      candidates_update_degree u m.count m.tables (candidates_count_neighbours d (6 * n) d 1 t r hd C) hu

  -- ---- a vertex leaves

  candidates_pass : (g : ℕ) (t : Peeling) → Candidates n but t → Candidates n but (pass_triangle g t)
  candidates_pass g t = candidates_same (pass_degree g t) (pass_origin g t) (pass_sets g t)

  candidates_fan : (right k g : ℕ) (t : Peeling) → InRange n t → g < triangles_length n → Candidates n but t → Candidates n but (pass_fan n right k g t)
  unfolding pass_fan
  candidates_fan right zero g t r h C = C
  candidates_fan right (suc k) g t r h C =
      let u = t.origin (prev g) in
      let b = prev-below (2 * n - 4) g h in
      let t₁ = pass_triangle g t in
      let r₁ : InRange n t₁ = range-kept (pass_turn g t) (pass_origin g t) r in
      let more = candidates_fan right k (t.turn g) (enter_frontier n u (prev g) t₁) (range_beside (enter_beside n u (prev g) t₁) r₁) (r.turn_in g h)
      (candidates_enter u (prev g) t₁ r₁ (r.origin_in (prev g) b) b (candidates_pass g t C)) in
      elim (tested (eqb u right)) [ inl e ↦ rw e (candidates_pass g t C) | inr e ↦ rw e more ]

-- a vertex that leaves is missed no more
candidates_gone : {n v : ℕ} (t : Peeling) → Candidates n v t → Candidates n n (set_degree v 0 t)
candidates_gone {n} {v} t C = record {
  summed = rw (sets₁ v 0 t C) C.summed;
  all = λ x h k e. elim (ℕ_discrete x v) [
    | yes q ↦
        absurd (omega (arith, set_degree-same v 0 t, ap (set_degree v 0 t).degree q, (can_true (set_degree v 0 t) x e).0))
    | no q ↦ rw (sets₁ v 0 t C) (others v 0 t C x h q q e)
  ];
}

module _ (n i v left right : ℕ) (t : Peeling) (r : InRange n t) (C : Candidates n v t) (hl : left < n) (hr : right < n) where
  candidates_leave_frontier : Candidates n n (leave_frontier n i v left right t)
  unfolding leave_frontier decrement_degree set_order
  candidates_leave_frontier =
      let t₁ = decrement_degree n left t in
      let t₂ = decrement_degree n right t₁ in
      let C₁ : Candidates n v t₁ = candidates_update_degree left (t.degree left - 1) t C hl in
      let C₂ : Candidates n v t₂ = candidates_update_degree right (t₁.degree right - 1) t₁ C₁ hr in
      candidates_same refl refl refl (candidates_gone t₂ C₂)

pub candidates_remove_vertex : (n i v : ℕ) (t : Peeling) → InRange n t → t.left v < triangles_length n → t.right v < triangles_length n →
    Candidates n v t → Candidates n n (remove_vertex n i v t)
unfolding remove_vertex
candidates_remove_vertex n i v t r hl hr C =
    let g = t.left v in
    let left = t.origin (next g) in
    let right = t.origin (t.right v) in
    let t₁ = leave_frontier n i v left right t in
    candidates_fan right (6 * n) g t₁ (range-kept (leave_frontier-turn n i v left right t) (leave_frontier-origin n i v left right t) r) hl
    (candidates_leave_frontier n i v left right t r C (r.origin_in (next g) (next-below (2 * n - 4) g hl)) (r.origin_in (t.right v) hr))
