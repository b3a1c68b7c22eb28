-- A vertex that leaves the frontier: its fan, all its darts in their order, and the frontier after it. Assumes nothing.
-- e leads from the vertex to its left neighbour and e' from its right neighbour to it.
use Prim.Native.Nat.{ℕ, zero, suc, ◌+◌, ◌-◌, ◌*◌, ◌≤◌, ◌<◌}
use Rattle.std.specs.Prelude.{◌≡◌, ◌≢◌, ◌⊎◌, Bool, true, false, get_or}
use Rattle.std.proofs.Math.Path.{refl, sym, ap}
use Rattle.std.proofs.Common.{◌∙◌, get_or-append-add}
use Rattle.std.proofs.Math.Logic.{inl, inr}
use mathlib.Core.List.Memᴰ
use mathlib.Core.List.{List, [], ◌∷◌, ◌++◌, map}
use native.Mathlib.Omega.{arith}
use Rattle.std.proofs.Math.Decide.{dec_le}
use Rattle.std.proofs.Math.ListN.{length, length-append}
use Rattle.std.proofs.Math.Seq.{get_or-append_seam}
use Rattle.definitions.specs.Lists.{filter}
use Rattle.definitions.specs.Mesh.{next, prev}
use Rattle.laws.specs.Lists.{◌∈◌, dec_in, filter_append, filter-all, filter_none}
use Rattle.laws.specs.Counting.{Distinct, nil, cons, distinct_head, distinct_tail, distinct_within, distinct_append}
use Rattle.laws.specs.Edges.{Dist, dist_left, dist_right, dist_cross, dist_append}
use Rattle.theory_sphere.specs.Sphere.{Sphere, rotate}
use Rattle.theory_sphere.specs.Darts.{next-prev, prev-next, next-next, next-other, next-prev-other, next-below, prev-below}
use Rattle.theory_sphere.specs.Rotations.{tip-opp, org-rot, tip-rot, opp-rot, rotate-none, rotate-suc, rotate-below, org-rotate}
use Rattle.theory_chords.specs.Crossing.{inner, beyond}
use Rattle.theory_realizer.specs.Trace.{Fan, end, more, Step, here, there, edge}
use Rattle.theory_peeling.specs.Inside.{Inside, inside-next, inside-prev, Path, path_split, path_join, path-end, path-nil, path-tip, Inv, Chordless}
use Rattle.theory_peeling.specs.Inside.{three, frontier}
use Rattle.theory_realizer.specs.Edges.{edge_is, edge-org, edge-tip}
use Rattle.theory_peeling.specs.RotationLists.{rotations_by, length-rotations_by, rotations_by_in, in_rotations_by, rotations_by-add, rotations_by_distinct}
use Rattle.theory_peeling.specs.RotationLists.{rotations_by-fan}

-- A vertex leaves: gs are the darts of its fan, D is the frontier before and D' the frontier after.
pub record Leaves (T : ℕ) (org opp : ℕ → ℕ) (R D : List ℕ) (e e' : ℕ) (gs D' : List ℕ) : Type 0 where
  pub fan : Fan T org opp (opp e') e gs
  pub steps : Step T org opp e e' gs D D'
  pub meet : org e ≡ org (next e')
  pub this : e ∈ D
  pub that : e' ∈ D
  pub not0 : org e ≢ org (opp 2)
  pub not1 : org e ≢ org (next (opp 2))
  pub entry : (x : ℕ) → x ∈ opp 2 ∷ D → org (next x) ≡ org e → x ≡ e'
  -- the darts inside with its origin, each once
  pub distinct : Distinct gs
  pub inside : (g : ℕ) → g ∈ gs → Inside T org R g
  pub from : (g : ℕ) → g ∈ gs → org g ≡ org e
  pub full : (d : ℕ) → Inside T org R d → org d ≡ org e → d ∈ gs
  pub prior : (g : ℕ) → g ∈ gs → (g ≡ e) ⊎ Inside T org R (opp g)
  pub onward : (g : ℕ) → g ∈ gs → (opp (prev g) ∈ gs) ⊎ (opp (prev g) ≡ opp e')
  pub final : (g : ℕ) × (g ∈ gs) × (prev g ≡ e')
  -- all but the first lead to vertices that are not on the frontier
  pub apart : (g : ℕ) → g ∈ gs → Inside T org R (opp g) → (x : ℕ) → x ∈ opp 2 ∷ D → org (next g) ≢ org x
  -- the darts of the two frontiers
  pub kept : (x : ℕ) → x ∈ D → (x ≡ e) ⊎ (x ≡ e') ⊎ (x ∈ D')
  pub fresh : (x : ℕ) → x ∈ D' → ((g : ℕ) × (g ∈ gs) × (edge T org opp g ≡ x)) ⊎ ((x ∈ D) × (x ≢ e) × (x ≢ e'))
  pub edges : (g : ℕ) → g ∈ gs → edge T org opp g ∈ D'
  -- the vertices of the new frontier differ, and its darts lead from one to the one before it
  pub differ : Dist org (opp 2 ∷ D')
  pub path : Path org (org (opp 2)) D' (org (next (opp 2)))
  -- A side across from the vertex is on the frontier only when it is the closing one, and then v0 and v1 are all that is left.
  pub opposite : (g : ℕ) → g ∈ gs → next g ∈ opp 2 ∷ D → next e ≡ opp 2
  pub ends : next e ≡ opp 2 → D' ≡ 2 ∷ []

module _ {n T : ℕ} {org opp : ℕ → ℕ} (s : Sphere n T org opp) (R A : List ℕ) (e e' : ℕ) (B : List ℕ)
    (v : Inv n T org opp R (A ++ e ∷ e' ∷ B)) where
  abbrev D : List ℕ
  D = A ++ e ∷ e' ∷ B

  abbrev z : ℕ
  z = opp 2

  abbrev In : ℕ → Type 0
  In = Inside T org R

  pub e_in : e ∈ z ∷ D
  e_in = Memᴰ.tail (Memᴰ.append_right A (Memᴰ.head refl))

  pub e'_in : e' ∈ z ∷ D
  e'_in = Memᴰ.tail (Memᴰ.append_right A (Memᴰ.tail (Memᴰ.head refl)))

  a_in : (x : ℕ) → x ∈ z ∷ A → x ∈ z ∷ D
  a_in x m = Memᴰ.append_left {s = z ∷ A} (e ∷ e' ∷ B) m

  b_in : (x : ℕ) → x ∈ B → x ∈ z ∷ D
  b_in x m = Memᴰ.tail (Memᴰ.append_right A (Memᴰ.tail (Memᴰ.tail m)))

  -- a frontier dart is the closing one, one of A, e, e' or one of B
  places : (x : ℕ) → x ∈ z ∷ D → (x ∈ z ∷ A) ⊎ (x ≡ e) ⊎ (x ≡ e') ⊎ (x ∈ B)
  places x m =
      elim (Memᴰ.append_cases (z ∷ A) m) [
        | inl a ↦ inl a
        | inr b ↦ elim (Memᴰ.cases_cons b) [
          | inl t ↦ inr (inl t)
          | inr c ↦ elim (Memᴰ.cases_cons c) [ inl t ↦ inr (inr (inl t)) | inr d ↦ inr (inr (inr d)) ]
        ]
      ]

  pub a_not_e : (x : ℕ) → x ∈ z ∷ A → org x ≢ org e
  a_not_e x m = dist_cross org (z ∷ A) (e ∷ e' ∷ B) v.apart x e m (Memᴰ.head refl)

  a_not_e' : (x : ℕ) → x ∈ z ∷ A → org x ≢ org e'
  a_not_e' x m = dist_cross org (z ∷ A) (e ∷ e' ∷ B) v.apart x e' m (Memᴰ.tail (Memᴰ.head refl))

  a_not_b : (x y : ℕ) → x ∈ z ∷ A → y ∈ B → org x ≢ org y
  a_not_b x y m k = dist_cross org (z ∷ A) (e ∷ e' ∷ B) v.apart x y m (Memᴰ.tail (Memᴰ.tail k))

  rest_dist : Dist org (e ∷ e' ∷ B)
  rest_dist = dist_right org (z ∷ A) (e ∷ e' ∷ B) v.apart

  e_not_e' : org e ≢ org e'
  e_not_e' = rest_dist.0 e' (Memᴰ.head refl)

  b_not_e : (x : ℕ) → x ∈ B → org x ≢ org e
  b_not_e x m t = rest_dist.0 x (Memᴰ.tail m) (sym t)

  b_not_e' : (x : ℕ) → x ∈ B → org x ≢ org e'
  b_not_e' x m t = rest_dist.1.0 x m (sym t)

  -- the frontier to the left of the vertex, and to the right
  pieces : (a : ℕ) × Path org (org z) A a × Path org a (e ∷ e' ∷ B) (org (next z))
  pieces = path_split org (org z) A (e ∷ e' ∷ B) (org (next z)) v.path

  pub left-path : Path org (org z) A (org (next e))
  left-path = rw (sym pieces.2.0) at pieces.1

  pub meet : org (next e') ≡ org e
  meet = pieces.2.1.0

  right_path : Path org (org e') B (org (next z))
  right_path = pieces.2.1.1

  pub eb : e < 3 * T
  eb = (v.this e e_in).below

  pub eb' : e' < 3 * T
  eb' = (v.this e' e'_in).below

  -- ---- the fan

  j_at : get_or (z ∷ D) (suc (length A)) z ≡ e
  j_at = get_or-append_seam A e (e' ∷ B) z

  j_next : get_or (z ∷ D) (suc (suc (length A))) z ≡ e'
  j_next = let t : suc (length A) ≡ length A + 1 = omega arith in ap (λ (x : ℕ). get_or D x z) t ∙ get_or-append-add A (e ∷ e' ∷ B) 1 z

  fan-run : (k : ℕ) × (rotate opp (suc k) e ≡ opp e') × ((i : ℕ) → i ≤ k → In (rotate opp i e))
  fan-run = rw j_next at (inner s (frontier s v) (suc (length A)) e (omega (arith, length-append A (e ∷ e' ∷ B))) (v.this e e_in) (ap org (sym j_at)))

  q_out : In (opp e') → ⊥
  q_out = v.that e' e'_in

  q_org : org (opp e') ≡ org e
  q_org = s.reverses e' eb' ∙ meet

  rim-run : (k : ℕ) × (rotate opp (suc k) (opp e') ≡ e) × ((i : ℕ) → i ≤ k → In (rotate opp i (opp e')) → ⊥)
  rim-run = rw j_at at (beyond s (frontier s v) (suc (length A)) (opp e') (omega (arith, length-append A (e ∷ e' ∷ B))) (s.dart e' eb') q_out
      (q_org ∙ ap org (sym j_at)))

  -- the darts of the fan, and the other darts of the vertex
  pub gs : List ℕ
  gs = rotations_by opp (suc fan-run.0) e

  pub os : List ℕ
  os = rotations_by opp (suc rim-run.0) (opp e')

  gs_at : (g : ℕ) → g ∈ gs → (i : ℕ) × (i ≤ fan-run.0) × (g ≡ rotate opp i e)
  unfolding gs
  gs_at g m = let r = rotations_by_in opp (suc fan-run.0) e m in (r.0, omega (arith, r.1), r.2)

  at_gs : (i : ℕ) → i ≤ fan-run.0 → rotate opp i e ∈ gs
  unfolding gs
  at_gs i h = in_rotations_by opp (suc fan-run.0) e i (omega arith)

  os_at : (x : ℕ) → x ∈ os → (i : ℕ) × (i ≤ rim-run.0) × (x ≡ rotate opp i (opp e'))
  unfolding os
  os_at x m = let r = rotations_by_in opp (suc rim-run.0) (opp e') m in (r.0, omega (arith, r.1), r.2)

  at_os : (i : ℕ) → i ≤ rim-run.0 → rotate opp i (opp e') ∈ os
  unfolding os
  at_os i h = in_rotations_by opp (suc rim-run.0) (opp e') i (omega arith)

  pub gs_distinct : Distinct gs
  unfolding gs
  gs_distinct = rotations_by_distinct opp In fan-run.0 e fan-run.2 (λ i. q_out (rw fan-run.1 at i))

  pub os_distinct : Distinct os
  unfolding os
  os_distinct = rotations_by_distinct opp (λ (x : ℕ). In x → ⊥) rim-run.0 (opp e') rim-run.2 (λ i. i (rw rim-run.1 (v.this e e_in)))

  pub gs_fan : Fan T org opp (opp e') e gs
  unfolding gs
  gs_fan = rotations_by-fan s (opp e') fan-run.0 e eb fan-run.1

  gs_inside : (g : ℕ) → g ∈ gs → In g
  gs_inside g m = let r = gs_at g m in rw r.2 (fan-run.2 r.0 r.1)

  gs_org : (g : ℕ) → g ∈ gs → org g ≡ org e
  gs_org g m = let r = gs_at g m in ap org r.2 ∙ org-rotate s r.0 e eb

  gs_head : e ∈ gs
  gs_head = Memᴰ.cast (sym (rotate-none opp e)) (at_gs 0 (omega arith))

  gs_next : (g : ℕ) → g ∈ gs → (opp (prev g) ∈ gs) ⊎ (opp (prev g) ≡ opp e')
  gs_next g m =
      let r = gs_at g m in
      let t : opp (prev g) ≡ rotate opp (suc r.0) e = ap (λ (x : ℕ). opp (prev x)) r.2 ∙ sym (rotate-suc opp r.0 e) in
      elim (dec_le (suc r.0) fan-run.0) [
        | yes l ↦ inl (Memᴰ.cast t (at_gs (suc r.0) l))
        | no l ↦ let u : r.0 ≡ fan-run.0 = omega (arith, r.1) in inr (t ∙ ap (λ (x : ℕ). rotate opp (suc x) e) u ∙ fan-run.1)
      ]

  -- all darts of the fan but the first have the inside on both sides
  gs_prev : (g : ℕ) → g ∈ gs → (g ≡ e) ⊎ In (opp g)
  gs_prev g m = go (gs_at g m)
    where
      go : (i : ℕ) × (i ≤ fan-run.0) × (g ≡ rotate opp i e) → (g ≡ e) ⊎ In (opp g)
      go (zero, l, t) = inl (t ∙ rotate-none opp e)
      go (suc i, l, t) =
          let b = rotate-below s i e eb in
          let u : opp g ≡ prev (rotate opp i e) = ap opp (t ∙ rotate-suc opp i e) ∙ opp-rot s (rotate opp i e) b in
          inr (rw u (inside-prev T org R (rotate opp i e) (fan-run.2 i (omega arith))))

  pub os_out : (x : ℕ) → x ∈ os → In x → ⊥
  os_out x m i = let r = os_at x m in rim-run.2 r.0 r.1 (rw r.2 at i)

  -- every dart of the vertex is one of these
  cover : (i : ℕ) → (rotate opp i e ∈ gs) ⊎ (rotate opp i e ∈ os)
  cover zero = inl (at_gs 0 (omega arith))
  cover (suc i) = elim (cover i) [ inl m ↦ from_gs m | inr m ↦ from_os m ]
    where
      from_gs : rotate opp i e ∈ gs → (rotate opp (suc i) e ∈ gs) ⊎ (rotate opp (suc i) e ∈ os)
      from_gs m =
          elim (gs_next (rotate opp i e) m) [
            | inl k ↦ inl (Memᴰ.cast (rotate-suc opp i e) k)
            | inr t ↦ inr (Memᴰ.cast (rotate-suc opp i e ∙ t ∙ sym (rotate-none opp (opp e'))) (at_os 0 (omega arith)))
          ]

      from_os : rotate opp i e ∈ os → (rotate opp (suc i) e ∈ gs) ⊎ (rotate opp (suc i) e ∈ os)
      from_os m =
          let r = os_at (rotate opp i e) m in
          let t : rotate opp (suc i) e ≡ rotate opp (suc r.0) (opp e') = rotate-suc opp i e ∙ ap (λ (x : ℕ). opp (prev x)) r.2
          ∙ sym (rotate-suc opp r.0 (opp e')) in
          elim (dec_le (suc r.0) rim-run.0) [
            | yes l ↦ inr (Memᴰ.cast t (at_os (suc r.0) l))
            | no l ↦
                let u : r.0 ≡ rim-run.0 = omega (arith, r.1) in
                inl (Memᴰ.cast (t ∙ ap (λ (x : ℕ). rotate opp (suc x) (opp e')) u ∙ rim-run.1) gs_head)
          ]

  pub all-darts : (x : ℕ) → x < 3 * T → org x ≡ org e → (x ∈ gs) ⊎ (x ∈ os)
  all-darts x b o = let r = s.ring e x eb b (sym o) in rw r.1 at (cover r.0)

  gs_full : (x : ℕ) → In x → org x ≡ org e → x ∈ gs
  gs_full x i o = elim (all-darts x i.below o) [ inl m ↦ m | inr m ↦ absurd (os_out x m i) ]

  -- ---- the new frontier's darts

  -- the tip of a frontier dart is on the frontier
  tip-on : (x : ℕ) → x ∈ z ∷ D → (y : ℕ) × (y ∈ z ∷ D) × (org y ≡ org (next x))
  tip-on x m =
      elim (Memᴰ.cases_cons m) [
        | inl t ↦ elim (path-end org (org z) D (org (next z)) v.path) [
          | inl u ↦ (z, Memᴰ.head refl, sym u ∙ ap (λ (y : ℕ). org (next y)) (sym t))
          | inr u ↦ (u.0, Memᴰ.tail u.1, u.2 ∙ ap (λ (y : ℕ). org (next y)) (sym t))
        ]
        | inr k ↦ elim (path-tip org (org z) D (org (next z)) v.path x k) [
          | inl u ↦ (z, Memᴰ.head refl, sym u)
          | inr u ↦ (u.0, Memᴰ.tail u.1, u.2)
        ]
      ]

  prev_e' : (g : ℕ) → g < 3 * T → opp (prev g) ≡ opp e' → prev g ≡ e'
  prev_e' g b t = sym (opp-rot s g b) ∙ ap opp t ∙ s.twice e' eb'

  -- the only frontier dart that leads to the vertex
  pub to_e : (x : ℕ) → x ∈ z ∷ D → org (next x) ≡ org e → x ≡ e'
  to_e x m t =
      let i = v.this x m in
      let w : opp (prev (next x)) ≡ opp x = ap opp (prev-next x) in
      elim (gs_next (next x) (gs_full (next x) (inside-next T org R x i) t)) [
        | inl k ↦ absurd (v.that x m (rw w at (gs_inside (opp (prev (next x))) k)))
        | inr u ↦ sym (prev-next x) ∙ prev_e' (next x) (next-below T x i.below) u
      ]

  -- the origins of the new darts differ from each other, and from those of the old ones that stay
  edge-one : (g h : ℕ) → g ∈ gs → h ∈ gs → org (edge T org opp g) ≡ org (edge T org opp h) → g ≡ h
  edge-one g h m k t =
      let a = (gs_inside g m).below in
      let b = (gs_inside h k).below in
      let u : prev g ≡ prev h = s.once (prev g) (prev h) (prev-below T g a) (prev-below T h b) (sym (edge-org s g a) ∙ t ∙ edge-org s h b)
      (ap org (next-prev g) ∙ gs_org g m ∙ sym (gs_org h k) ∙ ap org (sym (next-prev h))) in
      sym (next-prev g) ∙ ap next u ∙ next-prev h

  pub D' : List ℕ
  D' = A ++ (map (edge T org opp) gs ++ B)

  pub D'_is : D' ≡ A ++ (map (edge T org opp) gs ++ B)
  unfolding D'
  D'_is = refl

  stepped : Step T org opp e e' gs D D'
  unfolding D'
  stepped = at A
    where
      at : (xs : List ℕ) → Step T org opp e e' gs (xs ++ e ∷ e' ∷ B) (xs ++ (map (edge T org opp) gs ++ B))
      at [] = here
      at (x ∷ xs) = there x (at xs)

  -- the vertex is neither v1 nor v0
  not_v1 : org e ≢ org (next z)
  not_v1 t =
      elim (path-end org (org e') B (org (next z)) right_path) [
        | inl u ↦ e_not_e' (t ∙ u)
        | inr u ↦ b_not_e u.0 u.1 (u.2 ∙ sym t)
      ]

  not_v0 : org e ≢ org z
  not_v0 t = a_not_e z (Memᴰ.head refl) (sym t)

  kept-places : (x : ℕ) → x ∈ D → (x ≡ e) ⊎ (x ≡ e') ⊎ (x ∈ D')
  unfolding D'
  kept-places x m =
      elim (Memᴰ.append_cases A m) [
        | inl a ↦ inr (inr (Memᴰ.append_left (map (edge T org opp) gs ++ B) a))
        | inr b ↦ elim (Memᴰ.cases_cons b) [
          | inl t ↦ inl t
          | inr c ↦ elim (Memᴰ.cases_cons c) [
            | inl t ↦ inr (inl t)
            | inr d ↦
                inr (inr (Memᴰ.append_right A (Memᴰ.append_right (map (edge T org opp) gs) d)))
          ]
        ]
      ]

  fresh_places : (x : ℕ) → x ∈ D' → ((g : ℕ) × (g ∈ gs) × (edge T org opp g ≡ x)) ⊎ ((x ∈ D) × (x ≢ e) × (x ≢ e'))
  unfolding D'
  fresh_places x m =
      elim (Memᴰ.append_cases A m) [
        | inl a ↦ let k = Memᴰ.tail a in inr (
          Memᴰ.append_left (e ∷ e' ∷ B) a,
          λ t. a_not_e x k (ap org t),
          λ t. a_not_e' x k (ap org t),
        )
        | inr b ↦ elim (Memᴰ.append_cases (map (edge T org opp) gs) b) [
          | inl c ↦ inl (Memᴰ.of_map (edge T org opp) gs c)
          | inr d ↦ inr (Memᴰ.append_right A (Memᴰ.tail (Memᴰ.tail d)), λ t. b_not_e x d (ap org t), λ t. b_not_e' x d (ap org t))
        ]
      ]

  new-edges : (g : ℕ) → g ∈ gs → edge T org opp g ∈ D'
  unfolding D'
  new-edges g m = Memᴰ.append_right A (Memᴰ.append_left B (Memᴰ.map (edge T org opp) m))

  -- ---- once round the vertex

  os_cons : os ≡ opp e' ∷ rotations_by opp rim-run.0 (opp (prev (opp e')))
  unfolding os rotations_by
  os_cons = refl

  rotate-front : (i d : ℕ) → rotate opp (suc i) d ≡ rotate opp i (opp (prev d))
  unfolding rotate
  rotate-front i d = refl

  -- the darts after the one to the right neighbour lead to removed vertices
  rim-removed : (i : ℕ) → i < rim-run.0 → (org (next (rotate opp (suc i) (opp e'))) ∈ R → ⊥) → ⊥
  rim-removed i h a =
      let q = opp e' in
      let x = rotate opp (suc i) q in
      let qb = s.dart e' eb' in
      let b = rotate-below s (suc i) q qb in
      let o : org x ≡ org e = org-rotate s (suc i) q qb ∙ q_org in
      let out : In x → ⊥ = rim-run.2 (suc i) h in
      elim (v.side x b (λ m. (v.this e e_in).from (Memᴰ.cast (sym o) m)) a) [
        | inl j ↦ out j
        | inr j ↦
            let m = v.only (opp x) j (λ k. out (rw (s.twice x b) at k)) in
            let t : x ≡ q = sym (s.twice x b) ∙ ap opp (to_e (opp x) m (tip-opp s x b ∙ o)) in
            distinct_head (rw os_cons at os_distinct) (Memᴰ.cast (sym t ∙ rotate-front i q) (in_rotations_by opp rim-run.0 (opp (prev q)) i h))
      ]

  gs_length : length gs ≡ suc fan-run.0
  unfolding gs
  gs_length = length-rotations_by opp (suc fan-run.0) e

  gs_os_length : length gs + length os ≡ suc fan-run.0 + suc rim-run.0
  unfolding os
  gs_os_length = omega (arith, gs_length, length-rotations_by opp (suc rim-run.0) (opp e'))

  rotations_split : (j : ℕ) → rotations_by opp (suc fan-run.0 + suc j) e ≡ gs ++ opp e' ∷ rotations_by opp j (opp (prev (opp e')))
  unfolding gs rotations_by
  rotations_split j = rotations_by-add opp (suc fan-run.0) (suc j) e
      ∙ ap (λ (x : ℕ). rotations_by opp (suc fan-run.0) e ++ rotations_by opp (suc j) x) fan-run.1

  -- Of all darts of the vertex, from e on, those that lead to vertices which are there are the fan's and the dart to the right neighbour.
  pub round : (ls : List ℕ) → Distinct ls → ((x : ℕ) → x ∈ ls → (x < 3 * T) × (org x ≡ org e)) →
      ((x : ℕ) → x < 3 * T → org x ≡ org e → x ∈ ls)
      → (q : ℕ → Bool) → ((d : ℕ) → (org (next d) ∈ R → ⊥) → q d ≡ true) → ((d : ℕ) → org (next d) ∈ R → q d ≡ false)
      → filter q (rotations_by opp (length ls) e) ≡ gs ++ (opp e' ∷ [])
  unfolding filter
  round ls dl sub sup q pass stop' =
      let k = fan-run.0 in
      let k' = rim-run.0 in
      let both : length gs + length os ≡ suc k + suc k' = gs_os_length in
      let most : length ls ≤ suc k + suc k' = omega (
        arith,
        both,
        length-append gs os,
        distinct_within dl (gs ++ os) (λ x m. let r = sub x m in
            elim (all-darts x r.0 r.1) [ inl a ↦ Memᴰ.append_left os a | inr b ↦ Memᴰ.append_right gs b ]),
      ) in
      let least : suc k + 1 ≤ length ls = omega (
        arith,
        gs_length,
        length-append gs (opp e' ∷ []),
        distinct_within
            (distinct_append gs_distinct (cons {x = opp e'} Memᴰ.not-nil nil)
            (λ x m t. q_out (rw (Memᴰ.eq_of_singleton t) at (gs_inside x m)))) ls (λ x m.
            elim (Memᴰ.append_cases gs m) [
              | inl a ↦ sup x (gs_inside x a).below (gs_org x a)
              | inr a ↦ rw (Memᴰ.eq_of_singleton a) (sup (opp e') (s.dart e' eb') q_org)
            ]),
      ) in
      let j = length ls - suc (suc k) in
      let split : length ls ≡ suc k + suc j = omega arith in
      rw (
        split,
        rotations_split j,
        filter_append q gs (opp e' ∷ rotations_by opp j (opp (prev (opp e')))),
        filter-all q gs (λ x m. pass x (gs_inside x m).to),
      )
      (ap {B = List ℕ} (λ (r : List ℕ). gs ++ r) (rw (pass (opp e') (λ m. (v.this e' e'_in).from (Memᴰ.cast (sym (tip-opp s e' eb')) m)))
      (ap {B = List ℕ} (λ (r : List ℕ). opp e' ∷ r)
      (filter_none q (rotations_by opp j (opp (prev (opp e')))) (λ x m.
      let r = rotations_by_in opp j (opp (prev (opp e'))) m in
      let t : x ≡ rotate opp (suc r.0) (opp e') = r.2 ∙ sym (rotate-front r.0 (opp e')) in
      elim (dec_in (org (next x)) R) [
        | yes h ↦ stop' x h
        | no h ↦ absurd (rim-removed r.0 (omega (arith, r.1)) (rw t at h))
      ])))))

  -- ---- a vertex that no side inside joins to another frontier vertex

  module _ (lo : Chordless T org opp R (A ++ e ∷ e' ∷ B) (org e)) where
    -- where the third corner of the first triangle is on the frontier, the fan is that triangle
    short : (x : ℕ) → x ∈ z ∷ D → org (prev e) ≡ org x → opp (prev e) ≡ opp e'
    short x m t =
        elim (gs_next e gs_head) [
          | inl k ↦ absurd (lo (opp (prev e)) (gs_inside (opp (prev e)) k) (rw (opp-rot s e eb) (inside-prev T org R e (v.this e e_in)))
              (org-rot s e eb) x m (tip-rot s e eb ∙ t))
          | inr u ↦ u
        ]

    -- a side across from the vertex is on the frontier only in the end, when it is the closing one
    only_e : (g x : ℕ) → g ∈ gs → x ∈ z ∷ D → next g ≡ x → next e ≡ z
    only_e g x m k t = elim (gs_prev g m) [ inl u ↦ go (ap next (sym u) ∙ t) | inr u ↦ absurd (lo g (gs_inside g m) u (gs_org g m) x k (ap org t)) ]
      where
        go : next e ≡ x → next e ≡ z
        go c =
            let y = tip-on x k in
            let w : org (prev e) ≡ org (next x) = ap org (sym (next-next e)) ∙ ap (λ (a : ℕ). org (next a)) c in
            let p : prev e ≡ e' = prev_e' e eb (short y.0 y.1 (w ∙ sym y.2)) in
            let w' : org (next x) ≡ org e' = sym w ∙ ap org p in
            elim (places x k) [
              | inl a ↦ elim (Memᴰ.cases_cons a) [
                | inl u ↦ c ∙ u
                | inr b ↦ elim (path-tip org (org z) A (org (next e)) left-path x b) [
                  | inl u ↦ absurd (a_not_e' z (Memᴰ.head refl) (sym u ∙ w'))
                  | inr u ↦ absurd (a_not_e' u.0 (Memᴰ.tail u.1) (u.2 ∙ w'))
                ]
              ]
              | inr a ↦ elim a [
                | inl u ↦ absurd (next-other e (c ∙ u))
                | inr b ↦ elim b [
                  | inl u ↦ absurd (next-prev-other e (c ∙ u ∙ sym p))
                  | inr d ↦ elim (path-end org (org z) A (org (next e)) left-path) [
                    | inl u ↦ absurd (a_not_b z x (Memᴰ.head refl) d (sym u ∙ ap org c))
                    | inr u ↦ absurd (a_not_b u.0 x (Memᴰ.tail u.1) d (u.2 ∙ ap org c))
                  ]
                ]
              ]
            ]

    edge_fresh : (g x : ℕ) → g ∈ gs → x ∈ z ∷ D → org x ≢ org e' → org (edge T org opp g) ≢ org x
    edge_fresh g x m k ne t =
        let b = (gs_inside g m).below in
        elim (gs_next g m) [
          | inl r ↦ lo (opp (prev g)) (gs_inside (opp (prev g)) r) (rw (opp-rot s g b) (inside-prev T org R g (gs_inside g m)))
              (org-rot s g b ∙ gs_org g m) x k (tip-rot s g b ∙ sym (edge-org s g b) ∙ t)
          | inr u ↦ ne (sym t ∙ edge-org s g b ∙ ap org (prev_e' g b u))
        ]

    new_apart : Dist org (z ∷ D')
    unfolding D'
    new_apart =
        dist_append org (z ∷ A) (map (edge T org opp) gs ++ B) (dist_left org (z ∷ A) (e ∷ e' ∷ B) v.apart)
        (dist_append org (map (edge T org opp) gs) B (edges_apart gs (λ g m. m) gs_distinct) rest_dist.1.1
        (λ x y m k. let r = Memᴰ.of_map (edge T org opp) gs m in rw (sym r.2) (edge_fresh r.0 y r.1 (b_in y k) (b_not_e' y k))))
        (λ x y m k. elim (Memᴰ.append_cases (map (edge T org opp) gs) k) [
          | inl c ↦ let r = Memᴰ.of_map (edge T org opp) gs c in λ t. edge_fresh r.0 x r.1 (a_in x m) (a_not_e' x m) (ap org r.2 ∙ sym t)
          | inr c ↦ a_not_b x y m c
        ])
      where
        edges_apart : (hs : List ℕ) → ((g : ℕ) → g ∈ hs → g ∈ gs) → Distinct hs → Dist org (map (edge T org opp) hs)
        edges_apart [] sub d = tt
        edges_apart (g ∷ hs) sub d = (
          λ y m t.
              let r = Memᴰ.of_map (edge T org opp) hs m in
              distinct_head d (Memᴰ.cast (edge-one g r.0 (sub g (Memᴰ.head refl)) (sub r.0 (Memᴰ.tail r.1))
              (t ∙ ap org (sym r.2))) r.1),
          edges_apart hs (λ h m. sub h (Memᴰ.tail m)) (distinct_tail d),
        )

    fan-path : {d : ℕ} {hs : List ℕ} → Fan T org opp (opp e') d hs → Path org (org (next d)) (map (edge T org opp) hs) (org e')
    fan-path {d} (end b t) = (edge-tip s d b, edge-org s d b ∙ ap org (prev_e' d b t))
    fan-path {d} (more b f) = (edge-tip s d b, rw (tip-rot s d b ∙ sym (edge-org s d b)) at (fan-path f))

    new-path : Path org (org z) D' (org (next z))
    unfolding D'
    new-path = path_join org (org z) A (map (edge T org opp) gs ++ B) (org (next e)) (org (next z)) left-path
        (path_join org (org (next e)) (map (edge T org opp) gs) B (org e') (org (next z)) (fan-path gs_fan) right_path)

    -- the end: v0 and v1 are all that is left
    module _ (la : next e ≡ z) where
      tip_z : org (next z) ≡ org (prev e)
      tip_z = ap (λ (x : ℕ). org (next x)) (sym la) ∙ ap org (next-next e)

      turned_once : opp (prev e) ≡ opp e'
      turned_once = let y = tip-on z (Memᴰ.head refl) in short y.0 y.1 (sym tip_z ∙ sym y.2)

      no_a : A ≡ []
      no_a = path-nil org (org z) A (org (next e)) left-path (λ y m t. v.apart.0 y (Memᴰ.append_left (e ∷ e' ∷ B) m) (ap org (sym la) ∙ sym t))

      no_b : B ≡ []
      no_b = path-nil org (org e') B (org (next z)) right_path (λ y m t. b_not_e' y m (t ∙ tip_z ∙ ap org (prev_e' e eb turned_once)))

      one_g : gs ≡ e ∷ []
      unfolding gs rotations_by
      one_g = go fan-run.0 fan-run.2
        where
          go : (k : ℕ) → ((i : ℕ) → i ≤ k → In (rotate opp i e)) → rotations_by opp (suc k) e ≡ e ∷ []
          go zero h = refl
          go (suc k) h = absurd (q_out (rw (rotate-suc opp 0 e, rotate-none opp e, turned_once) at (h 1 (omega arith))))

      pub last_frontier : D' ≡ 2 ∷ []
      unfolding D'
      last_frontier = go A gs B no_a one_g no_b ∙ ap {B = List ℕ} (λ (x : ℕ). x ∷ []) (edge_is T org opp e ∙ ap opp la ∙ s.twice 2 (three s))
        where
          go : (xs hs ys : List ℕ) → xs ≡ [] → hs ≡ e ∷ [] → ys ≡ [] → xs ++ (map (edge T org opp) hs ++ ys) ≡ edge T org opp e ∷ []
          go xs hs ys a b c = rw (a, b, c)

    -- all that later arguments need of the step
    pub leaves : Leaves T org opp R D e e' gs D'
    leaves =
        record {
          fan = gs_fan;
          steps = stepped;
          meet = sym meet;
          this = Memᴰ.append_right A (Memᴰ.head refl);
          that = Memᴰ.append_right A (Memᴰ.tail (Memᴰ.head refl));
          not0 = not_v0;
          not1 = not_v1;
          entry = to_e;
          distinct = gs_distinct;
          inside = gs_inside;
          from = gs_org;
          full = gs_full;
          prior = gs_prev;
          onward = gs_next;
          final = (
            rotate opp fan-run.0 e,
            at_gs fan-run.0 (omega arith),
            prev_e' (rotate opp fan-run.0 e) (rotate-below s fan-run.0 e eb) (sym (rotate-suc opp fan-run.0 e) ∙ fan-run.1),
          );
          apart = λ g m i x k t. lo g (gs_inside g m) i (gs_org g m) x k t;
          kept = kept-places;
          fresh = fresh_places;
          edges = new-edges;
          differ = new_apart;
          path = new-path;
          opposite = λ g m k. only_e g (next g) m k refl;
          ends = last_frontier;
        }
