-- What the code of the forward map leaves in the lent coordinates is what the definition gives, and on the way every sum has room. Assumes nothing.
use Rattle.std.specs.Prelude.{ℕ, zero, suc, ◌+◌, ◌-◌, ◌*◌, ◌/◌, ◌%◌, ◌≤◌, ◌<◌, ◌≡◌, refl, false, List, map, length, ℤ, pos, negsuc, neg_ℤ, ◌+ℤ◌, ◌-ℤ◌}
use Rattle.std.proofs.Math.Path.{sym, ap}
use Rattle.std.proofs.Common.{ap₂, ◌∙◌}
use native.Mathlib.Omega.{arith}
use Rattle.std.proofs.Math.Decide.{ℕ_discrete, dec_lt}
use Rattle.std.proofs.Math.ListN.{get_or, get_or-map, get_or-eq_default}
use Rattle.std.proofs.lemmas.List.{length-map}
use Rattle.std.proofs.Math.Seq.{ext_get_or}
use Rattle.std.proofs.Math.IntN.{nat_abs}
use borrow.Author.Tests.{ltb-false}
use Rattle.definitions.specs.Lists.{total, total_abs}
use Rattle.definitions.specs.Mesh.{triangles_length, weights_length, next, org, opp}
use Rattle.definitions.specs.Labels.{outer, label}
use Rattle.definitions.specs.Forward.{weight, forward}
use Rattle.definitions.specs.Backward.{coordinate}
use Rattle.definitions.specs.Repair.{limit}
use Rattle.definitions.specs.Refusals.{row9}
use Rattle.laws.specs.Lists.{get_or_in, total_abs_in}
use Rattle.laws.specs.Sums.{sum, abs-+}
use Rattle.theory_sphere.specs.Sphere.{Sphere}
use Rattle.theory_realizer.specs.Trace.{Trace, done, step, removed_vertices}
use Rattle.theory_realizer.specs.Realizer.{Realizer}
use Rattle.theory_realizer.specs.Units.{Units}
use Rattle.theory_crossings.specs.Colours.{org-below, tip-below, outer_below}
use Rattle.theory_crossings.specs.Tests.{named}
use Rattle.theory_crossings.specs.UnitMaps.{units}
use Rattle.theory_repair.specs.Coordinates.{length-forward, coordinate-coordinates_of, place0, place1, place2, total-sum}
use Rattle.theory_repair.specs.Bounds.{coordinate_bound}
use Rattle.theory_inverse.specs.Drawings.{Drawing}
use Rattle.theory_inverse.specs.Maps.{less-plus, through, reached, forward_drawing, through-last, crossed_weight-reached}
use Rattle.labels_tables.specs.Peeling.{Peeling, peeling}
use Rattle.labels_tables.specs.LabelledTables.{Peeled, Stored}
use Rattle.maps_forward_model.specs.Removals.{Removal, Removals, all_removals}
use Rattle.maps_forward_model.specs.Model.{Turns, accumulate_all, with_corners, propagate_all, length-accumulate_all, length-with_corners, length-propagate_all}
use Rattle.maps_forward_model.specs.RemovalStep.{Room, Tabled, fan_tabled, fan_fits}
use Rattle.maps_forward_model.specs.Accumulate as Accumulate
use Rattle.maps_forward_model.specs.Propagate as Propagate
use Rattle.maps_forward_model.specs.Propagate.{Ceiling}
use Rattle.maps_forward_model.specs.Thirds.{ThirdsPre, ThirdsWritten}

-- ---- small numbers

neg_abs : (z : ℤ) → nat_abs (neg_ℤ z) ≡ nat_abs z
neg_abs (pos zero) = refl
neg_abs (pos (suc k)) = refl
neg_abs (negsuc k) = refl

less_small : (a b s : ℤ) → a ≡ s +ℤ b → nat_abs a ≤ limit → nat_abs b ≤ limit → nat_abs s ≤ 2 * limit
less_small a b s e h k = omega (arith, ap nat_abs (less-plus a b s e), abs-+ a (neg_ℤ b), neg_abs b)

weight_small : (ws : List ℤ) → row9 ws ≡ false → (x : ℕ) → nat_abs (weight ws x) ≤ limit
unfolding weight row9
weight_small ws h zero = omega arith
weight_small ws h (suc x) =
    elim (dec_lt x (length ws)) [
      | yes l ↦ omega (arith, total_abs_in (get_or_in ws x (pos 0) l), ltb-false limit (total_abs ws) h)
      | no l ↦ rw (get_or-eq_default ws (pos 0) {n = x} (omega (arith, l))) (omega arith)
    ]

-- as many vertices leave as there are steps
stored-length : (n : ℕ) (t : Peeling) {T : ℕ} {o f : ℕ → ℕ} {C : List ℕ} (tr : Trace T o f C) (j : ℕ) → Stored n T o f t j tr →
    j + length (removed_vertices T o f tr) ≡ n - 2
unfolding removed_vertices
stored-length n t done j s = omega (arith, s)
stored-length n t (step e e' gs h o f s tr) j q = omega (arith, stored-length n t tr (suc j) q.3)

-- what has come down to v1
settled-last : (T : ℕ) (o f : ℕ → ℕ) (F : ℕ → ℤ) (bs : List ℤ) {C : List ℕ} (tr : Trace T o f C) → Accumulate.Settled T o f F bs tr →
    coordinate bs 1 (o 2) ≡ F 2
settled-last T o f F bs done k = k
settled-last T o f F bs (step e e' gs h q a s tr) k = settled-last T o f F bs tr k.2

-- What the code reads is in range: the words of a mesh of n vertices in scratch of so many words, and coordinates at its vertices.
pub record Readable (n words : ℕ) (t : Peeling) : Type 0 where
  pub most : n ≤ 4096
  pub least : 3 ≤ n
  pub room : 10 * n ≤ words
  pub origins : (d : ℕ) → d < triangles_length n → t.origin d < n

-- the darts beside a vertex that leaves, and its fan
pub record Around (n fuel : ℕ) (t : Peeling) (v : ℕ) : Type 0 where
  pub vertex : v < n
  pub left : t.left v < triangles_length n
  pub right : t.right v < triangles_length n
  pub gs : List ℕ
  pub fan : Turns n t (t.right v) (t.left v) gs
  pub short : length gs ≤ fuel

-- all words of a list that holds zeros
zeros-at : (bs : List ℤ) (c i : ℕ) → coordinate (map (λ _. pos 0) bs) c i ≡ pos 0
unfolding coordinate
zeros-at bs c i = get_or-map (λ (_ : ℤ). pos 0) bs (3 * i + c) (pos 0)

module _ {n : ℕ} {ts ls : List ℕ} {s : List ℤ} (P : Peeled n ts ls s) (ws : List ℤ) (len : length ws ≡ weights_length n) (low : row9 ws ≡ false)
    (bs : List ℤ) (long : length bs ≡ 3 * n) where
  abbrev T : ℕ
  T = length ts / 3

  abbrev t : Peeling
  t = peeling s

  -- no fan has more darts than scratch has words
  abbrev fuel : ℕ
  fuel = length s

  abbrev sph : Sphere n (length ts / 3) (org ts) (opp ts)
  sph = P.labelled.sphere

  abbrev R : Realizer n (length ts / 3) (org ts) (opp ts) (label ls) (outer ts)
  R = P.realizer

  size : length ts ≡ 3 * (length ts / 3)
  size = omega (arith, P.labelled.size)

  abbrev F : ℕ → ℤ
  F = through ts ls sph size R ws

  abbrev B0 : ℕ → ℤ
  B0 = reached ts ls sph size R ws 1

  abbrev B1 : ℕ → ℤ
  B1 = reached ts ls sph size R ws 0

  D : Drawing T (org ts) (opp ts) (label ls) (outer ts) (weight ws) F B0 B1
  D = forward_drawing ts ls sph size R ws

  tabled : Tabled n fuel ts t
  tabled = record {
    size = P.labelled.size;
    turns = λ d h. P.labelled.turns d (omega (arith, size));
    origins = λ d h. P.labelled.origins d (omega (arith, size));
    enough = omega (arith, P.labelled.size, P.labelled.room);
  }

  tu : Removals T (org ts) (opp ts) (label ls) (outer ts) R.trace
  tu = all_removals sph R (named ts) (omega (arith, stored-length n t R.trace 0 P.stored))

  U : Units n ts ls
  U = units ts ls sph P.labelled.size R

  -- b0 and b1 of the definition
  placed : (i : ℕ) → i < n → (coordinate (forward n ts ls ws) 0 i ≡ B0 i) × (coordinate (forward n ts ls ws) 1 i ≡ B1 i)
  placed i h =
      let r = crossed_weight-reached ts ls sph size R ws i h in (
        coordinate-coordinates_of n ts ls ws 0 i (omega arith) h ∙ place0 n ts ls ws i ∙ r.0,
        coordinate-coordinates_of n ts ls ws 1 i (omega arith) h
            ∙ place1 n ts ls ws i ∙ r.1,
      )

  near : (i : ℕ) → i < n → (nat_abs (B0 i) ≤ limit) × (nat_abs (B1 i) ≤ limit)
  unfolding row9
  near i h =
      let p = placed i h in
      let l = ltb-false limit (total_abs ws) low in (
        omega (arith, ap nat_abs p.0, coordinate_bound n ts ls P.labelled.size U ws len 0 i (omega arith) h),
        omega (arith, ap nat_abs p.1, coordinate_bound n ts ls P.labelled.size U ws len 1 i (omega arith) h),
      )

  small : (e e' : ℕ) (gs C C' L : List ℕ) → Removal T (org ts) (opp ts) (label ls) (outer ts) e e' gs C C' L → (nat_abs (F e) ≤ 2 * limit)
      × (nat_abs (F e') ≤ 2 * limit)
  small e e' gs C C' L turn =
      let a = turn.left in
      let b = turn.right in (
        less_small (B1 (org ts e)) (B1 (org ts (next e))) (F e) (D.down0 e a) (near (org ts e) (org-below sph R (named ts) a)).1
            (near (org ts (next e)) (tip-below sph R (named ts) a)).1,
        less_small (B0 (org ts (opp ts e'))) (B0 (org ts (next (opp ts e')))) (F e') (D.down1 (opp ts e') b
            ∙ ap (λ (z : ℤ). z +ℤ B0 (org ts (next (opp ts e')))) (D.side e' turn.below'))
            (near (org ts (opp ts e')) (org-below sph R (named ts) b)).0 (near (org ts (next (opp ts e'))) (tip-below sph R (named ts) b)).0,
      )

  -- ---- down

  abbrev zeros : List ℤ
  zeros = map (λ _. pos 0) bs

  long_zeros : length zeros ≡ 3 * n
  long_zeros = length-map bs (λ (_ : ℤ). pos 0) ∙ long

  pub rooms : (k : ℕ) → k < n - 2 → Room fuel t ws (t.order k) (accumulate_all fuel t ws k zeros)
  rooms = Accumulate.rooms ts ls sph R fuel t tabled ws zeros long_zeros D small (weight_small ws low) P.stored tu (zeros-at bs 1)

  abbrev low_end : List ℤ
  low_end = accumulate_all fuel t ws (n - 2) zeros

  settled : Accumulate.Settled T (org ts) (opp ts) F low_end R.trace
  settled = Accumulate.settled ts ls sph R fuel t tabled ws zeros long_zeros D small (weight_small ws low) P.stored tu (zeros-at bs 1)

  long_low : length low_end ≡ 3 * n
  long_low = length-accumulate_all fuel t ws (n - 2) zeros ∙ long_zeros

  -- ---- up

  abbrev base : List ℤ
  base = with_corners (org ts 0) (org ts 2) low_end

  long_base : length base ≡ 3 * n
  long_base = length-with_corners (org ts 0) (org ts 2) low_end ∙ long_low

  rims : Propagate.Stands ts ls sph R t tabled.origins D base (org ts 0) × Propagate.Stands ts ls sph R t tabled.origins D base (org ts 2)
  rims = Propagate.corners_stand ts ls sph R t tabled.origins D low_end long_low (settled-last T (org ts) (opp ts) F low_end R.trace settled)

  settled-base : Accumulate.Settled T (org ts) (opp ts) F base R.trace
  settled-base = Propagate.settled-with_corners ts ls sph R t tabled.origins D low_end long_low R.trace tu settled

  pub ceilings : (k : ℕ) → k < n - 2 → Ceiling t (t.order (n - 2 - suc k)) (propagate_all t (n - 2) k base)
  ceilings = Propagate.ceilings ts ls sph R t tabled.origins D base long_base rims.0 rims.1 small near P.stored tu settled-base

  abbrev high : List ℤ
  high = propagate_all t (n - 2) (n - 2) base

  stand : (i : ℕ) → i < n → (coordinate high 0 i ≡ B0 i) × (coordinate high 1 i ≡ B1 i)
  stand = Propagate.all_stand ts ls sph R t tabled.origins D base long_base rims.0 rims.1 small near P.stored tu settled-base

  -- ---- b2

  v0_in : org ts 0 < n
  v0_in = sph.vertex 0 (omega (arith, outer_below sph R (named ts)))

  high_small : (c i : ℕ) → c < 2 → i < n → nat_abs (coordinate high c i) ≤ limit
  high_small zero i l h = omega (arith, ap nat_abs (stand i h).0, (near i h).0)
  high_small (suc zero) i l h = omega (arith, ap nat_abs (stand i h).1, (near i h).1)
  high_small (suc (suc c)) i l h = absurd (omega arith)

  long_high : length high ≡ 3 * n
  long_high = length-propagate_all t (n - 2) (n - 2) base ∙ long_base

  pub thirds_pre : ThirdsPre n (org ts 0) high
  thirds_pre = record { few = P.labelled.most; first = v0_in; long = long_high; small = high_small }

  N_is : coordinate high 0 (org ts 0) ≡ total ws
  N_is =
      let e : length ts / 3 - 1 ≡ weights_length n = omega (arith, P.labelled.size) in
      (stand (org ts 0) v0_in).0 ∙ (Propagate.N_is ts ls sph R t tabled.origins D).1 ∙ through-last ts ls sph size R ws ∙ ap (λ (k : ℕ). sum (weight ws) 1 k) e
      ∙ sym (total-sum n ts ls P.labelled.size U ws len)

  -- ---- all of it

  module _ (end : List ℤ) (C : ThirdsWritten n (coordinate high 0 (org ts 0)) high end) where
    ends : (c i : ℕ) → c < 3 → i < n → coordinate end c i ≡ coordinate (forward n ts ls ws) c i
    ends zero i l h = C.same 0 i (omega arith) ∙ (stand i h).0 ∙ sym (placed i h).0
    ends (suc zero) i l h = C.same 1 i (omega arith) ∙ (stand i h).1 ∙ sym (placed i h).1
    ends (suc (suc zero)) i l h =
        let r = crossed_weight-reached ts ls sph size R ws i h in
        C.third i h ∙ ap₂ ◌-ℤ◌ (ap₂ ◌-ℤ◌ N_is ((stand i h).0 ∙ sym r.0)) ((stand i h).1 ∙ sym r.1)
        ∙ sym (coordinate-coordinates_of n ts ls ws 2 i (omega arith) h ∙ place2 n ts ls ws i)
    ends (suc (suc (suc c))) i l h = absurd (omega arith)

    pub whole_is : end ≡ forward n ts ls ws
    unfolding coordinate
    whole_is =
        ext_get_or (pos 0) end (forward n ts ls ws) (C.long ∙ long_high ∙ sym (length-forward n ts ls ws))
        (λ d h.
        let e : d ≡ 3 * (d / 3) + d % 3 = omega arith in
        ap (λ (j : ℕ). get_or end j (pos 0)) e ∙ ends (d % 3) (d / 3) (omega arith) (omega (arith, C.long, long_high))
        ∙ ap (λ (j : ℕ). get_or (forward n ts ls ws) j (pos 0)) (sym e))

  -- ---- what the loops ask, as they ask it

  pub readable : Readable n (length s) t
  readable = record {
    most = P.labelled.most;
    least = sph.least;
    room = P.labelled.room;
    origins = λ d h. rw (P.labelled.origins d (omega (arith, P.labelled.size))) (sph.vertex d (omega (arith, P.labelled.size)));
  }

  -- v0 and v1 as scratch has them
  pub v0_is : t.origin 0 ≡ org ts 0
  v0_is = tabled.origins 0 (omega (arith, outer_below sph R (named ts)))

  pub v1_is : t.origin 2 ≡ org ts 2
  v1_is = tabled.origins 2 (outer_below sph R (named ts))

  around_at : {C : List ℕ} (tr : Trace T (org ts) (opp ts) C) (j : ℕ) → Stored n T (org ts) (opp ts) t j tr →
      Removals T (org ts) (opp ts) (label ls) (outer ts) tr →
      (k : ℕ) → j ≤ k → k < n - 2 → Around n fuel t (t.order k)
  around_at done j st u k l h = absurd (omega (arith, st))
  around_at (step e e' gs b o f s tr) j st u k l h =
      elim (ℕ_discrete k j) [
        | yes p ↦
            rw (p, st.0) (record {
              vertex = sph.vertex e u.0.below;
              left = rw st.1 (omega (arith, u.0.below, P.labelled.size));
              right = rw st.2 (omega (arith, u.0.below', P.labelled.size));
              gs = gs;
              fan = rw (st.1, st.2) (fan_tabled ts ls sph R fuel t tabled ws u.0 st.1 st.2 zeros long_zeros);
              short = fan_fits ts ls sph R fuel t tabled ws u.0 st.1 st.2 zeros long_zeros;
            })
        | no p ↦ around_at tr (suc j) st.3 u.1 k (omega (arith, p)) h
      ]

  pub around : (k : ℕ) → k < n - 2 → Around n fuel t (t.order k)
  around k h = around_at R.trace 0 P.stored tu k (omega arith) h
