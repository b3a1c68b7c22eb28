-- The same triangles in another order. Rows 3 to 6 find the same in both lists; and where they find nothing, 7, 25 and 8 find the same too: a ring may be
-- begun at any of its darts, and where sides come in opposite pairs it does not matter which triangle's piece is grown. Assumes nothing.
use Prim.Native.Nat.{ℕ, zero, suc, ◌*◌, ◌/◌, ◌<◌}
use Rattle.std.specs.Prelude.{◌≡◌, ◌⊎◌, ◌↔◌, Bool, true, false, ◌||◌, cond, List, length}
use Rattle.std.proofs.Math.Path.{refl, sym, ap, ap₂, fun_ext}
use Rattle.std.proofs.Common.{◌∙◌, subst, subst₂, inl, inr, arith}
use Rattle.std.proofs.Math.Option.{none, some}
use Rattle.definitions.specs.Lists.{upto, first, iterate}
use Rattle.definitions.specs.Answers.{vertex_pinched, vertex_stray, first_refusal}
use Rattle.definitions.specs.Mesh.{tri, next, prev, org, tip, opp, rot, outgoing, stray, pinched, row3, row4, row5, row6, row7or25, row8}
use Rattle.definitions.specs.Refusals.{mesh_rows}
use Rattle.laws.specs.Chain.{Chain, stop, step}
use Rattle.laws.specs.Forest.{chain_append, chain_reverse}
use Rattle.laws.specs.Lists.{◌∈◌, tested}
use Rattle.theory_sphere.specs.Darts.{next-next, tri-first, tri-next, tri-prev, tri-below, next-below, prev-below, same-tri}
use Rattle.theory_sphere.specs.Rows.{outgoing_in, in_outgoing, row3_means, row4_means, row5_means, row6_means}
use Rattle.theory_sphere.specs.Sides.{Sides, sides, rot-below, rotate-below, opp_only, back}
use Rattle.theory_sphere.specs.Rings.{rotate-rot}
use Rattle.theory_sphere.specs.Vertices.{SeveralRings, stray_means, several_rings}
use Rattle.theory_sphere.specs.Components.{row8-joined}

-- Two lists of T triangles: dart d of `fs` is dart `to d` of `ts`, and dart d of `ts` is dart `from d` of `fs`.
pub record Renumbered (T : ℕ) (ts fs : List ℕ) : Type 0 where
  pub whole : length ts ≡ 3 * T
  pub whole' : length fs ≡ 3 * T
  pub to : ℕ → ℕ
  pub from : ℕ → ℕ
  pub to_below : (d : ℕ) → d < 3 * T → to d < 3 * T
  pub from_below : (d : ℕ) → d < 3 * T → from d < 3 * T
  pub to_from : (d : ℕ) → d < 3 * T → to (from d) ≡ d
  pub from_to : (d : ℕ) → d < 3 * T → from (to d) ≡ d
  pub to_next : (d : ℕ) → d < 3 * T → to (next d) ≡ next (to d)
  pub origin : (d : ℕ) → d < 3 * T → org fs d ≡ org ts (to d)

pub renumbered-sym : {T : ℕ} {ts fs : List ℕ} → Renumbered T ts fs → Renumbered T fs ts
renumbered-sym {T} {ts} r =
    record {
      whole = r.whole';
      whole' = r.whole;
      to = r.from;
      from = r.to;
      to_below = r.from_below;
      from_below = r.to_below;
      to_from = r.from_to;
      from_to = r.to_from;
      to_next = λ d h.
          let f = r.from_below d h in
          ap (λ (x : ℕ). r.from (next x)) (sym (r.to_from d h)) ∙ ap r.from (sym (r.to_next (r.from d) f))
          ∙ r.from_to (next (r.from d)) (next-below T (r.from d) f);
      origin = λ d h. ap (org ts) (sym (r.to_from d h)) ∙ sym (r.origin (r.from d) (r.from_below d h));
    }

-- tests that give c in the same cases are equal
same_test : (c a b : Bool) → (a ≡ c → b ≡ c) → (b ≡ c → a ≡ c) → a ≡ b
same_test c true true f g = refl
same_test c false false f g = refl
same_test true true false f g = sym (f refl)
same_test false true false f g = g refl
same_test true false true f g = g refl
same_test false false true f g = sym (f refl)

-- ---- rows 3 to 6: what finds nothing in one list finds nothing in the other

module _ {T : ℕ} {ts fs : List ℕ} (r : Renumbered T ts fs) where
  below : (d : ℕ) → d < length fs → d < 3 * T
  below d h = omega (arith, r.whole')

  to-dart : (d : ℕ) → d < length fs → r.to d < length ts
  to-dart d h = omega (arith, r.to_below d (below d h), r.whole)

  to-tip : (d : ℕ) → d < 3 * T → tip fs d ≡ tip ts (r.to d)
  unfolding tip
  to-tip d h = r.origin (next d) (next-below T d h) ∙ ap (org ts) (r.to_next d h)

  to-prev : (d : ℕ) → d < 3 * T → r.to (prev d) ≡ prev (r.to d)
  to-prev d h =
      ap r.to (sym (next-next d)) ∙ r.to_next (next d) (next-below T d h) ∙ ap next (r.to_next d h) ∙ next-next (r.to d)

  to-once : (d e : ℕ) → d < 3 * T → e < 3 * T → r.to d ≡ r.to e → d ≡ e
  to-once d e h l q = sym (r.from_to d h) ∙ ap r.from q ∙ r.from_to e l

  keeps_3 : (n : ℕ) → row3 ts n ≡ false → row3 fs n ≡ false
  keeps_3 n e = (row3_means fs n).1 (λ d h. rw (r.origin d (below d h)) ((row3_means ts n).0 e (r.to d) (to-dart d h)))

  keeps_4 : row4 ts ≡ false → row4 fs ≡ false
  keeps_4 e =
      (row4_means fs).1 (λ d h q.
      (row4_means ts).0 e (r.to d) (to-dart d h) (sym (r.origin d (below d h)) ∙ q ∙ to-tip d (below d h)))

  keeps_5 : row5 ts ≡ false → row5 fs ≡ false
  keeps_5 t =
      (row5_means fs).1 (λ d e h l p q.
      let i = below d h in
      let j = below e l in
      to-once d e i j ((row5_means ts).0 t (r.to d) (r.to e) (to-dart d h) (to-dart e l)
      (sym (r.origin d i) ∙ p ∙ r.origin e j) (sym (to-tip d i) ∙ q ∙ to-tip e j)))

  keeps_6 : row6 ts ≡ false → row6 fs ≡ false
  keeps_6 t =
      (row6_means fs).1 (λ d h.
      let o = (row6_means ts).0 t (r.to d) (to-dart d h) in
      let e = r.from o.0 in
      let l : o.0 < 3 * T = omega (arith, o.1, r.whole) in
      let m = r.from_below o.0 l in
      let there : r.to e ≡ o.0 = r.to_from o.0 l in (
        e,
        omega (arith, m, r.whole'),
        r.origin e m ∙ ap (org ts) there ∙ o.2 ∙ sym (to-tip d (below d h)),
        to-tip e m ∙ ap (tip ts) there ∙ o.3 ∙ sym (r.origin d (below d h)),
      ))

  -- 25 asks the same of every vertex
  keeps_stray : (v : ℕ) → stray ts v ≡ true → stray fs v ≡ true
  keeps_stray v e =
      (stray_means fs v).1 (λ d h q. (stray_means ts v).0 e (r.to d) (to-dart d h) (sym (r.origin d (below d h)) ∙ q))

module _ {T : ℕ} {ts fs : List ℕ} (r : Renumbered T ts fs) where
  pub same-3 : (n : ℕ) → row3 fs n ≡ row3 ts n
  same-3 n = same_test false (row3 fs n) (row3 ts n) (keeps_3 (renumbered-sym r) n) (keeps_3 r n)

  pub same-4 : row4 fs ≡ row4 ts
  same-4 = same_test false (row4 fs) (row4 ts) (keeps_4 (renumbered-sym r)) (keeps_4 r)

  pub same-5 : row5 fs ≡ row5 ts
  same-5 = same_test false (row5 fs) (row5 ts) (keeps_5 (renumbered-sym r)) (keeps_5 r)

  pub same-6 : row6 fs ≡ row6 ts
  same-6 = same_test false (row6 fs) (row6 ts) (keeps_6 (renumbered-sym r)) (keeps_6 r)

  same-stray : (v : ℕ) → stray fs v ≡ stray ts v
  same-stray v = same_test true (stray fs v) (stray ts v) (keeps_stray (renumbered-sym r) v) (keeps_stray r v)

-- ---- 7 and 25, where sides come in opposite pairs

module _ {T n : ℕ} {ts fs : List ℕ} (r : Renumbered T ts fs) (S : Sides n T (org ts) (opp ts)) (S' : Sides n T (org fs) (opp fs)) where
  to-opp : (d : ℕ) → d < 3 * T → r.to (opp fs d) ≡ opp ts (r.to d)
  unfolding tip
  to-opp d h =
      let o = S'.dart d h in
      sym (opp_only S (r.to d) (r.to (opp fs d)) (r.to_below d h) (r.to_below (opp fs d) o)
      (sym (r.origin (opp fs d) o) ∙ S'.reverses d h ∙ to-tip r d h)
      (sym (to-tip r (opp fs d) o) ∙ back S' d h ∙ r.origin d h))

  to-rot : (d : ℕ) → d < 3 * T → r.to (rot fs d) ≡ rot ts (r.to d)
  unfolding rot
  to-rot d h = to-opp (prev d) (prev-below T d h) ∙ ap (opp ts) (to-prev r d h)

  to-rotations : (k d : ℕ) → d < 3 * T → r.to (iterate (rot fs) k d) ≡ iterate (rot ts) k (r.to d)
  unfolding iterate rot
  to-rotations zero d h = refl
  to-rotations (suc k) d h = to-rotations k (rot fs d) (rot-below S' d h) ∙ ap (iterate (rot ts) k) (to-rot d h)

  to-outgoing : (v d : ℕ) → d ∈ outgoing fs v → r.to d ∈ outgoing ts v
  to-outgoing v d m =
      let o = outgoing_in fs v m in
      in_outgoing ts v (r.to d) (to-dart r d o.0) (sym (r.origin d (below r d o.0)) ∙ o.1)

  to_several : (v : ℕ) → SeveralRings fs v → SeveralRings ts v
  to_several v (d, e, m, l, apart) =
      let h = below r d (outgoing_in fs v m).0 in
      let i = below r e (outgoing_in fs v l).0 in (
        r.to d,
        r.to e,
        to-outgoing v d m,
        to-outgoing v e l,
        λ k q.
            let j : iterate (rot fs) k d < 3 * T = rw (← rotate-rot fs k d) (rotate-below S' k d h) in
            apart k (to-once r (iterate (rot fs) k d) e j i (to-rotations k d h ∙ q)),
      )

  to-pinched : (v : ℕ) → pinched fs v ≡ true → pinched ts v ≡ true
  to-pinched v e =
      (several_rings ts T r.whole n S v).1 (to_several v ((several_rings fs T r.whole' n S' v).0 e))

module _ {T n : ℕ} {ts fs : List ℕ} (r : Renumbered T ts fs) (S : Sides n T (org ts) (opp ts)) (S' : Sides n T (org fs) (opp fs)) where
  same-pinched : (v : ℕ) → pinched fs v ≡ pinched ts v
  same-pinched v = same_test true (pinched fs v) (pinched ts v) (to-pinched r S S' v) (to-pinched (renumbered-sym r) S' S v)

  -- the lowest vertex that is stray or pinched is the same, and it is told as the same
  pub same_7or25 : row7or25 fs n ≡ row7or25 ts n
  unfolding row7or25
  same_7or25 =
      ap₂ (λ (alone several : ℕ → Bool).
      elim (first (λ v. alone v || several v) (upto n)) [ none ↦ none | some v ↦ some (cond (alone v) (vertex_stray v) (vertex_pinched v)) ])
      (fun_ext (same-stray r)) (fun_ext same-pinched)

-- ---- 8, where sides come in opposite pairs

-- steps across sides lead from triangle t to triangle u
abbrev Way : List ℕ → ℕ → ℕ → ℕ → Type 0
Way ts T u t = Chain (λ d. d < 3 * T) tri (λ d. tri (opp ts d)) u t

row8_ways : (T : ℕ) (ts : List ℕ) → length ts ≡ 3 * T → (row8 ts ≡ false) ↔ ((t : ℕ) → t < T → Way ts T 0 t)
row8_ways T ts whole =
    let e : length ts / 3 ≡ T = omega arith in
    subst (λ (m : ℕ). (row8 ts ≡ false) ↔ ((t : ℕ) → t < m → Way ts m 0 t)) e (row8-joined ts)

-- from each triangle to each, where there is a way from each to the first
all_ways : {n T : ℕ} (ts : List ℕ) → Sides n T (org ts) (opp ts) → ((t : ℕ) → t < T → Way ts T 0 t) → (t u : ℕ) → t < T → u < T → Way ts T u t
all_ways ts S way t u h l =
    chain_append (way t h) (chain_reverse (opp ts) S.dart (λ d g. refl) (λ d g. ap tri (S.twice d g)) (way u l))

module _ {T : ℕ} {ts fs : List ℕ} (r : Renumbered T ts fs) where
  -- where a triangle of `fs` stands in `ts`
  place : ℕ → ℕ
  place t = tri (r.to (3 * t))

  -- its darts stand there together
  together : (d e : ℕ) → d < 3 * T → (e ≡ d) ⊎ (e ≡ next d) ⊎ (e ≡ prev d) → tri (r.to e) ≡ tri (r.to d)
  together d e h (inl q) = ap (λ (x : ℕ). tri (r.to x)) q
  together d e h (inr (inl q)) = ap (λ (x : ℕ). tri (r.to x)) q ∙ ap tri (r.to_next d h) ∙ tri-next (r.to d)
  together d e h (inr (inr q)) = ap (λ (x : ℕ). tri (r.to x)) q ∙ ap tri (to-prev r d h) ∙ tri-prev (r.to d)

  place-tri : (d : ℕ) → d < 3 * T → place (tri d) ≡ tri (r.to d)
  unfolding place
  place-tri d h = together d (3 * tri d) h (same-tri d (3 * tri d) (sym (tri-first (tri d))))

  place-below : (t : ℕ) → t < T → place t < T
  unfolding place
  place-below t h = tri-below T (r.to (3 * t)) (r.to_below (3 * t) (omega arith))

place-back : {T : ℕ} {ts fs : List ℕ} (r : Renumbered T ts fs) (t : ℕ) → t < T → place r (place (renumbered-sym r) t) ≡ t
unfolding place renumbered-sym
place-back {T} r t h =
    let l : 3 * t < 3 * T = omega arith in
    place-tri r (r.from (3 * t)) (r.from_below (3 * t) l) ∙ ap tri (r.to_from (3 * t) l) ∙ tri-first t

module _ {T n : ℕ} {ts fs : List ℕ} (r : Renumbered T ts fs) (S : Sides n T (org ts) (opp ts)) (S' : Sides n T (org fs) (opp fs)) where
  -- a way in `fs` is a way in `ts`
  place_way : {u t : ℕ} → Way fs T u t → Way ts T (place r u) (place r t)
  place_way (stop e) = stop (ap (place r) e)
  place_way {u = u} (step d g e way) =
      step (r.to d) (r.to_below d g) (sym (place-tri r d g) ∙ ap (place r) e)
      (subst (Way ts T (place r u)) (place-tri r (opp fs d) (S'.dart d g) ∙ ap tri (to-opp r S S' d g)) (place_way way))

  keeps_8 : row8 fs ≡ false → row8 ts ≡ false
  keeps_8 e =
      (row8_ways T ts r.whole).1 (λ t h.
      let o : 0 < T = omega arith in
      let q = renumbered-sym r in
      let way = all_ways fs S' ((row8_ways T fs r.whole').0 e) (place q t) (place q 0) (place-below q t h) (place-below q 0 o) in
      subst₂ (Way ts T) (place-back r 0 o) (place-back r t h) (place_way way))

module _ {T n : ℕ} {ts fs : List ℕ} (r : Renumbered T ts fs) (S : Sides n T (org ts) (opp ts)) (S' : Sides n T (org fs) (opp fs)) where
  pub same-8 : row8 fs ≡ row8 ts
  same-8 = same_test false (row8 fs) (row8 ts) (keeps_8 r S S') (keeps_8 (renumbered-sym r) S' S)

-- ---- all rows together

-- Lists with the same triangles are refused alike, the vertex that 7 and 25 carry as well. (That 7, 25 and 8 come after 5 and 6 is needed: `FrontedRows`,
-- at its end.)
pub refusal-renumbered : {T : ℕ} {ts fs : List ℕ} → Renumbered T ts fs → (n : ℕ) → first_refusal (mesh_rows n fs) ≡ first_refusal (mesh_rows n ts)
unfolding mesh_rows first_refusal
refusal-renumbered {T} {ts} {fs} r n =
    rw (same-3 r n, same-4 r, same-5 r, same-6 r) (elim (tested (row3 ts n)) [
      | inl t ↦ rw t
      | inr n3 ↦ elim (tested (row4 ts)) [
        | inl t ↦ rw (n3, t)
        | inr n4 ↦ elim (tested (row5 ts)) [
          | inl t ↦ rw (n3, n4, t)
          | inr n5 ↦ elim (tested (row6 ts)) [
            | inl t ↦ rw (n3, n4, n5, t)
            | inr n6 ↦
                let S = sides ts T r.whole n n3 n4 n5 n6 in
                let S' = sides fs T r.whole' n (same-3 r n ∙ n3) (same-4 r ∙ n4) (same-5 r ∙ n5) (same-6 r ∙ n6) in
                rw (same_7or25 r S S', same-8 r S S')
          ]
        ]
      ]
    ])
