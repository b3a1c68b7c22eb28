-- A vertex leaves the frontier: its two frontier neighbours count it no more. Assumes nothing.
use Prim.Native.Nat.{ℕ, ◌+◌, ◌-◌, ◌*◌, ◌/◌, ◌<◌}
use Rattle.std.specs.Prelude.{◌≡◌, ◌≢◌, ◌⊎◌, Bool, true, false, not, ◌&&◌, ◌||◌, List, eqb, length}
use Rattle.std.proofs.Math.Path.{refl, ap}
use Rattle.std.proofs.Common.{sym, ◌∙◌, inl, inr, arith, eq-eqb, ne_eqb}
use Rattle.std.proofs.Math.Decide.{ℕ_discrete}
use Rattle.definitions.specs.Mesh.{org, tip, opp}
use Rattle.laws.specs.Lists.{tested}
use Rattle.theory_sphere.specs.Sphere.{Sphere}
use Rattle.scratch_tables.specs.Tables.{upd_same, upd_other}
use Rattle.labels_tables.specs.Peeling.{Peeling, set_degree, set_order}
use Rattle.labels_model.specs.Model.{decrement_degree, leave_frontier}
use Rattle.labels_model.specs.Counters.{Beside, beside_then, set_degree_beside, set_degree-same, set_degree-other, update_degree_beside}
use Rattle.labels_model.specs.Counters.{update_degree-same, update_degree-other}
use Rattle.labels_model.specs.NeighbourCounts.{met, joins, met-same, met-add, joins-none, joins-both, joins-one}
use Rattle.labels_model.specs.FrontierInsert.{Marked}

pub decrement_degree-same : (n w : ℕ) (t : Peeling) → (decrement_degree n w t).degree w ≡ t.degree w - 1
unfolding decrement_degree
decrement_degree-same n w t = update_degree-same n w (t.degree w - 1) t

pub decrement_degree-other : (n w x : ℕ) (t : Peeling) → x ≢ w → (decrement_degree n w t).degree x ≡ t.degree x
unfolding decrement_degree
decrement_degree-other n w x t h = update_degree-other n w (t.degree w - 1) t x h

decrement_degree_beside : (n w : ℕ) (t : Peeling) → Beside t (decrement_degree n w t)
unfolding decrement_degree
decrement_degree_beside n w t = update_degree_beside n w (t.degree w - 1) t

-- what `leave_frontier` leaves in each place
module _ (n i v left right : ℕ) (t : Peeling) where
  abbrev t₂ : Peeling
  t₂ = decrement_degree n right (decrement_degree n left t)

  leave_frontier-degree : (leave_frontier n i v left right t).degree ≡ (set_degree v 0 t₂).degree
  unfolding leave_frontier set_order
  leave_frontier-degree = refl

  leave_frontier-own : (leave_frontier n i v left right t).degree v ≡ 0
  leave_frontier-own = ap (λ (f : ℕ → ℕ). f v) leave_frontier-degree ∙ set_degree-same v 0 t₂

  past : (w : ℕ) → w ≢ v → (leave_frontier n i v left right t).degree w ≡ t₂.degree w
  past w a = ap (λ (f : ℕ → ℕ). f w) leave_frontier-degree ∙ set_degree-other v 0 t₂ w a

  leave_frontier-other : (w : ℕ) → w ≢ v → w ≢ left → w ≢ right → (leave_frontier n i v left right t).degree w ≡ t.degree w
  leave_frontier-other w a b c = past w a ∙ decrement_degree-other n right w (decrement_degree n left t) c ∙ decrement_degree-other n left w t b

  leave_frontier-left : left ≢ v → left ≢ right → (leave_frontier n i v left right t).degree left ≡ t.degree left - 1
  leave_frontier-left a b = past left a ∙ decrement_degree-other n right left (decrement_degree n left t) b ∙ decrement_degree-same n left t

  leave_frontier_right : right ≢ v → left ≢ right → (leave_frontier n i v left right t).degree right ≡ t.degree right - 1
  leave_frontier_right a b =
      past right a ∙ decrement_degree-same n right (decrement_degree n left t)
      ∙ ap (λ (x : ℕ). x - 1) (decrement_degree-other n left right t (λ e. b (sym e)))

  -- and in the other tables
  kept : Beside t (set_degree v 0 t₂)
  kept = beside_then (decrement_degree_beside n left t) (beside_then (decrement_degree_beside n right (decrement_degree n left t)) (set_degree_beside v 0 t₂))

  pub leave_frontier-order : (leave_frontier n i v left right t).order i ≡ v
  unfolding leave_frontier set_order
  leave_frontier-order = upd_same i v (set_degree v 0 t₂).order

  pub leave_frontier_earlier : (j : ℕ) → j ≢ i → (leave_frontier n i v left right t).order j ≡ t.order j
  unfolding leave_frontier set_order
  leave_frontier_earlier j h = upd_other i j v (set_degree v 0 t₂).order h ∙ ap (λ (f : ℕ → ℕ). f j) kept.orders

  pub leave_frontier-turn : (leave_frontier n i v left right t).turn ≡ t.turn
  unfolding leave_frontier set_order
  leave_frontier-turn = kept.turns

  pub leave_frontier-origin : (leave_frontier n i v left right t).origin ≡ t.origin
  unfolding leave_frontier set_order
  leave_frontier-origin = kept.origins

  pub leave_frontier-apex : (leave_frontier n i v left right t).apex ≡ t.apex
  unfolding leave_frontier set_order
  leave_frontier-apex = kept.apexes

  pub leave_frontier_lefts : (leave_frontier n i v left right t).left ≡ t.left
  unfolding leave_frontier set_order
  leave_frontier_lefts = kept.lefts

  pub leave_frontier_rights : (leave_frontier n i v left right t).right ≡ t.right
  unfolding leave_frontier set_order
  leave_frontier_rights = kept.rights

module _ (n : ℕ) (ts : List ℕ) (s : Sphere n (length ts / 3) (org ts) (opp ts)) (len : 3 * (length ts / 3) ≡ length ts)
    (F : ℕ → Bool) (i v a b : ℕ) (t : Peeling) (M : Marked n ts F t) (v_f : F v ≡ true)
    (ab : a < 3 * (length ts / 3)) (av : org ts a ≡ v) (bb : b < 3 * (length ts / 3)) (bv : org ts b ≡ v)
    (a_f : F (tip ts a) ≡ true) (b_f : F (tip ts b) ≡ true) (an : tip ts a < n) (bn : tip ts b < n)
    (la : tip ts a ≢ v) (ra : tip ts b ≢ v) (lr : tip ts a ≢ tip ts b)
    (only : (d : ℕ) → d < 3 * (length ts / 3) → org ts d ≡ v → F (tip ts d) ≡ true → (tip ts d ≡ tip ts a) ⊎ (tip ts d ≡ tip ts b)) where
  -- all of F but v
  abbrev pub F₀ : ℕ → Bool
  F₀ w = F w && not (eqb w v)

  F₀-v : F₀ v ≡ false
  F₀-v = rw (v_f, eq-eqb v v refl)

  F₀-other : (w : ℕ) → w ≢ v → F₀ w ≡ F w
  F₀-other w q = elim (tested (F w)) [ inl f ↦ rw (f, ne_eqb w v q) | inr f ↦ rw f ]

  -- a vertex has one neighbour less where v is one
  met_less : (w : ℕ) → met ts F w ≡ joins ts w v + met ts F₀ w
  met_less w =
      met-same ts F (λ u. eqb u v || F₀ u) w (λ d m. split (tip ts d)) ∙ met-add ts F₀ v w F₀-v
    where
      split : (u : ℕ) → F u ≡ (eqb u v || F₀ u)
      split u =
          elim (ℕ_discrete u v) [
            | yes q ↦ rw (eq-eqb u v q) (ap F q ∙ v_f)
            | no q ↦ rw (ne_eqb u v q) (elim (tested (F u)) [ inl f ↦ rw f | inr f ↦ rw f ])
          ]

  close : (w d : ℕ) → d < 3 * (length ts / 3) → org ts d ≡ v → tip ts d ≡ w → joins ts w v ≡ 1
  close w d h e q = joins-both n ts s len w v ∙ joins-one n ts s len v w d h e q

  far : (w : ℕ) → F w ≡ true → w ≢ tip ts a → w ≢ tip ts b → joins ts w v ≡ 0
  far w f p q =
      joins-both n ts s len w v ∙ joins-none ts v w (λ d h e z.
      elim (only d (omega arith) e (ap F z ∙ f)) [ inl y ↦ p (sym z ∙ y) | inr y ↦ q (sym z ∙ y) ])

  -- so each of the two is counted by v, and perhaps by others
  pub left-degree : 1 < t.degree (tip ts a)
  left-degree = omega (arith, rw a_f at (M (tip ts a) an), met_less (tip ts a), close (tip ts a) a ab av refl)

  pub right_degree : 1 < t.degree (tip ts b)
  right_degree = omega (arith, rw b_f at (M (tip ts b) bn), met_less (tip ts b), close (tip ts b) b bb bv refl)

  pub leave_frontier-marks : Marked n ts F₀ (leave_frontier n i v (tip ts a) (tip ts b) t)
  leave_frontier-marks w wn =
      elim (ℕ_discrete w v) [
        | yes q ↦ rw (q, F₀-v) (leave_frontier-own n i v (tip ts a) (tip ts b) t)
        | no q ↦
            rw (F₀-other w q) (elim (ℕ_discrete w (tip ts a)) [
              | yes p ↦ rw (p, a_f) (omega (
                arith,
                leave_frontier-left n i v (tip ts a) (tip ts b) t la lr,
                rw a_f at (M (tip ts a) an),
                met_less (tip ts a),
                close (tip ts a) a ab av refl,
              ))
              | no p ↦ elim (ℕ_discrete w (tip ts b)) [
                | yes r ↦ rw (r, b_f) (omega (
                  arith,
                  leave_frontier_right n i v (tip ts a) (tip ts b) t ra lr,
                  rw b_f at (M (tip ts b) bn),
                  met_less (tip ts b),
                  close (tip ts b) b bb bv refl,
                ))
                | no r ↦
                    let same = leave_frontier-other n i v (tip ts a) (tip ts b) t w q p r in
                    elim (tested (F w)) [
                      | inl f ↦ rw f (omega (arith, same, rw f at (M w wn), met_less w, far w f p r))
                      | inr f ↦ rw f (omega (arith, same, rw f at (M w wn)))
                    ]
              ]
            ])
      ]
