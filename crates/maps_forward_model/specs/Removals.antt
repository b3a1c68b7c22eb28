-- One step of a trace after another: what a vertex that leaves has around it, and what it never meets again. Assumes nothing.
use Rattle.std.specs.Prelude.{ℕ, suc, ◌-◌, ◌*◌, ◌≤◌, ◌<◌, ◌≡◌, refl, ◌≢◌, ◌⊎◌, length}
use Rattle.std.proofs.Math.Path.{sym, ap}
use Rattle.std.proofs.Common.{◌∙◌, subst, arith}
use Rattle.std.proofs.Math.Logic.{inl, inr}
use mathlib.Core.List.Memᴰ
use mathlib.Core.List.{List, [], ◌∷◌, map}
use Rattle.std.proofs.Math.Decide.{ℕ_discrete}
use Rattle.definitions.specs.Lists.{upto}
use Rattle.definitions.specs.Mesh.{tri, next, prev}
use Rattle.laws.specs.Every.{Every, every_split, every_in}
use Rattle.laws.specs.Covers.{every_map, covers_distinct}
use Rattle.laws.specs.Lists.{◌∈◌, in_upto, length-upto, upto_in}
use Rattle.laws.specs.Counting.{Distinct, nil, cons, distinct_within, distinct_head, distinct_tail, distinct_upto}
use Rattle.laws.specs.Edges.{Dist, dist_right, dist_cross}
use Rattle.theory_sphere.specs.Sphere.{Sphere}
use Rattle.theory_sphere.specs.Darts.{prev-below}
use Rattle.theory_realizer.specs.Trace.{Fan, end, more, edge, Step, here, there, Trace, done, step, fans, removed_vertices}
use Rattle.theory_realizer.specs.Realizer.{Points, Between, Middle, Coloured, Realizer}
use Rattle.theory_realizer.specs.Edges.{edge-org, edge-tip}
use Rattle.theory_crossings.specs.Gaps.{new-darts, old_darts}
use Rattle.theory_crossings.specs.Colours.{Named, Fanning, outer_below, all_fanning, fan-apex, both_ways}

-- ---- fans and steps, of any darts

-- all but the first are not the dart that the fan stops at
abbrev pub Onward : ℕ → List ℕ → Type 0
Onward last [] = Unit {0}
Onward last (g ∷ gs) = Every (λ x. x ≢ last) gs

-- a fan from x on, of at most k darts
record From (T : ℕ) (org opp : ℕ → ℕ) (last x k : ℕ) : Type 0 where
  hs : List ℕ
  fan : Fan T org opp last x hs
  on : Onward last hs
  short : length hs ≤ k

module _ {T : ℕ} {org opp : ℕ → ℕ} where
  pub fan-first : {last g : ℕ} {gs : List ℕ} → Fan T org opp last g gs → g ∈ gs
  fan-first (end h q) = Memᴰ.head refl
  fan-first (more h f) = Memᴰ.head refl

  pub fan-below : {last g x : ℕ} {gs : List ℕ} → Fan T org opp last g gs → x ∈ gs → x < 3 * T
  fan-below (end h q) m = rw (Memᴰ.eq_of_singleton m) h
  fan-below (more h f) m = elim (Memᴰ.cases_cons m) [ inl e ↦ rw e h | inr k ↦ fan-below f k ]

  -- a fan that goes on
  pub onward-more : {last g : ℕ} {gs : List ℕ} → Fan T org opp last g gs → Every (λ x. x ≢ last) gs → (g ≢ last) × Onward last gs
  onward-more (end h q) k = (k.0, tt)
  onward-more (more h f) k = (k.0, k.1)

  -- two fans from one dart are equally long
  fan-length : {last g : ℕ} {gs hs : List ℕ} → Fan T org opp last g gs → Fan T org opp last g hs → Onward last gs → Onward last hs →
      length gs ≡ length hs
  fan-length (end h q) (end h' q') a b = refl
  fan-length (end h q) (more h' f') a b = absurd ((onward-more f' b).0 q)
  fan-length (more h f) (end h' q') a b = absurd ((onward-more f a).0 q')
  fan-length (more h f) (more h' f') a b = ap suc (fan-length f f' (onward-more f a).1 (onward-more f' b).1)

  -- the fan from a member on
  fan_from_lem : {last g x : ℕ} {gs : List ℕ} → Fan T org opp last g gs → Onward last gs → x ∈ gs → From T org opp last x (length gs)
  fan_from_lem {last} (end h q) a m =
      subst (λ (y : ℕ). From T org opp last y 1) (sym (Memᴰ.eq_of_singleton m)) (record { hs = _; fan = end h q; on = tt; short = omega arith })
  fan_from_lem {last} (more {g} {gs} h f) a m =
      elim (Memᴰ.cases_cons m) [
        | inl e ↦ subst (λ (y : ℕ). From T org opp last y (suc (length gs))) (sym e)
            (record { hs = g ∷ gs; fan = more h f; on = a; short = omega arith })
        | inr k ↦ let r = fan_from_lem f (onward-more f a).1 k in record { hs = r.hs; fan = r.fan; on = r.on; short = omega (arith, r.short) }
      ]

  fan_distinct : {last g : ℕ} {gs : List ℕ} → Fan T org opp last g gs → Onward last gs → Distinct gs
  fan_distinct (end h q) a = cons (λ m. Memᴰ.not-nil m) nil
  fan_distinct (more {g} {gs} h f) a =
      let b = (onward-more f a).1 in
      let out : g ∈ gs → ⊥ = λ m. let r = fan_from_lem f b m in omega (arith, r.short, fan-length (more h f) r.fan a r.on) in
      cons out (fan_distinct f b)

  -- so there are no more than there are darts
  pub fan_short : {last g : ℕ} {gs : List ℕ} → Fan T org opp last g gs → Onward last gs → length gs ≤ 3 * T
  fan_short f a = omega (arith, distinct_within (fan_distinct f a) (upto (3 * T)) (λ x m. in_upto (3 * T) x (fan-below f m)), length-upto (3 * T))

-- the darts of a frontier before a step and after it
module _ {T : ℕ} {org opp : ℕ → ℕ} {e e' : ℕ} {gs : List ℕ} where
  step_old : {C C' : List ℕ} {y : ℕ} → Step T org opp e e' gs C C' → y ∈ C → (y ≡ e) ⊎ (y ≡ e') ⊎ (y ∈ C')
  step_old here m =
      elim (Memᴰ.cases_cons m) [
        | inl p ↦ inl p
        | inr k ↦ elim (Memᴰ.cases_cons k) [ inl p ↦ inr (inl p) | inr l ↦ inr (inr (Memᴰ.append_right (map (edge T org opp) gs) l)) ]
      ]
  step_old (there d s) m =
      elim (Memᴰ.cases_cons m) [
        | inl p ↦ inr (inr (Memᴰ.head p))
        | inr k ↦ elim (step_old s k) [ inl p ↦ inl p | inr (inl p) ↦ inr (inl p) | inr (inr l) ↦ inr (inr (Memᴰ.tail l)) ]
      ]

  pub step-new : {C C' : List ℕ} {y : ℕ} → Step T org opp e e' gs C C' → y ∈ map (edge T org opp) gs → y ∈ C'
  step-new (here {B}) m = Memᴰ.append_left B m
  step-new (there d s) m = Memᴰ.tail (step-new s m)

  -- a dart after a step is new, or was there and starts where no new one does
  pub step_after : {C C' : List ℕ} {x : ℕ} → Step T org opp e e' gs C C' → Dist org C' → x ∈ C' →
      (x ∈ map (edge T org opp) gs) ⊎ ((x ∈ C) × ((y : ℕ) → y ∈ map (edge T org opp) gs → org y ≢ org x))
  step_after (here {B}) δ m =
      elim (Memᴰ.append_cases (map (edge T org opp) gs) m) [
        | inl k ↦ inl k
        | inr k ↦ inr (Memᴰ.tail (Memᴰ.tail k), λ y l. dist_cross org (map (edge T org opp) gs) B δ y _ l k)
      ]
  step_after {x = x} (there d s) δ m =
      elim (Memᴰ.cases_cons m) [
        | inl p ↦ inr (Memᴰ.head p, λ y l q. δ.0 y (step-new s l) (ap org (sym p) ∙ sym q))
        | inr k ↦ elim (step_after s δ.1 k) [ inl l ↦ inl l | inr r ↦ inr (Memᴰ.tail r.0, r.1) ]
      ]

  -- origins are told apart before a step if they are after it, and the vertex that leaves is none of them
  step_apart : {C C' : List ℕ} (y : ℕ) → Step T org opp e e' gs C C' → Dist org C' → ((x : ℕ) → x ∈ C' → org x ≢ org e) →
      y ∈ map (edge T org opp) gs → org y ≡ org e' → Dist org C
  step_apart y (here {B}) δ fresh m q = (
    λ x k p.
        elim (Memᴰ.cases_cons k) [
          | inl r ↦ fresh y (Memᴰ.append_left B m) (q ∙ sym (ap org r) ∙ sym p)
          | inr l ↦ fresh x (Memᴰ.append_right (map (edge T org opp) gs) l) (sym p)
        ],
    (λ x k p. dist_cross org (map (edge T org opp) gs) B δ y x m k (q ∙ p), dist_right org (map (edge T org opp) gs) B δ),
  )
  step_apart y (there d s) δ fresh m q = (
    λ x k p.
        elim (step_old s k) [
          | inl r ↦ fresh d (Memᴰ.head refl) (p ∙ ap org r)
          | inr (inl r) ↦ δ.0 y (step-new s m) (p ∙ ap org r ∙ sym q)
          | inr (inr l) ↦ δ.0 x l p
        ],
    step_apart y s δ.1 (λ x k. fresh x (Memᴰ.tail k)) m q,
  )

-- ---- one step of a realizer's trace

-- a vertex that leaves later, or never
abbrev pub Later : (ℕ → ℕ) → List ℕ → ℕ → Type 0
Later org L i = (i ∈ L) ⊎ (i ≡ org 0) ⊎ (i ≡ org 2)

-- The vertex org e leaves the frontier C, which becomes C'; L are the vertices that leave after it.
pub record Removal (T : ℕ) (org opp label v : ℕ → ℕ) (e e' : ℕ) (gs C C' L : List ℕ) : Type 0 where
  pub below : e < 3 * T
  pub below' : e' < 3 * T
  pub meet : org e ≡ org (next e')
  pub fan : Fan T org opp (opp e') e gs
  pub onward : Onward (opp e') gs
  pub steps : Step T org opp e e' gs C C'
  pub left : Points T org opp label v 0 e
  pub right : Points T org opp label v 1 (opp e')
  pub fanning : (g : ℕ) → g ∈ gs → Fanning T org opp label v g
  -- no two darts of the new frontier start at one vertex, and none at the one that left
  pub apart : Dist org C'
  pub fresh : (x : ℕ) → x ∈ C' → org x ≢ org e
  pub starts : (x : ℕ) → x ∈ C' → Later org L (org x)
  -- it leaves once, and its two neighbours on the frontier leave later
  pub gone : org e ∈ L → ⊥
  pub not0 : org e ≢ org 0
  pub not1 : org e ≢ org 2
  pub later_left : Later org L (org (next e))
  pub later_right : Later org L (org e')

module _ (T : ℕ) (org opp label v : ℕ → ℕ) where
  abbrev pub Removals : {C : List ℕ} → Trace T org opp C → Type 0
  Removals done = Unit {0}
  Removals (step {C} {C'} e e' gs h o f s tr) = Removal T org opp label v e e' gs C C' (removed_vertices T org opp tr) × Removals tr

module _ {n T : ℕ} {org opp label v : ℕ → ℕ} (sph : Sphere n T org opp) (R : Realizer n T org opp label v) (named : Named org v) where
  -- the last dart of a fan
  pub fan-last : (e' : ℕ) {g : ℕ} {gs : List ℕ} → e' < 3 * T → Fan T org opp (opp e') g gs → (x : ℕ) × (x ∈ gs) × (prev x ≡ e')
  fan-last e' l (end {g} h q) = (g, Memᴰ.head refl, sym (sph.twice (prev g) (prev-below T g h)) ∙ ap opp q ∙ sph.twice e' l)
  fan-last e' l (more h f) = let r = fan-last e' l f in (r.0, Memᴰ.tail r.1, r.2)

  -- the darts between do not lead to the right neighbour
  between_onward : (last : ℕ) (gs : List ℕ) → Points T org opp label v 1 last → Between T org opp label v gs → Every (Fanning T org opp label v) gs →
      Every (λ x. x ≢ last) gs
  unfolding tri next
  between_onward last [] p b f = tt
  between_onward last (g ∷ gs) p b f = (
    λ e.
        let q = both_ways sph R named 1 2 g (subst (Points T org opp label v 1) (sym e) p) b.0 in
        let one : g ≡ 1 = sph.once g 1 f.0.below (omega (arith, outer_below sph R named)) (q.1 ∙ named.v2) (q.0 ∙ named.v1) in
        omega (arith, one, (fan-apex sph R named f.0).inner),
    between_onward last gs p b.1 f.1,
  )

  fan-onward : (last : ℕ) (gs : List ℕ) → Points T org opp label v 1 last → Middle T org opp label v gs → Every (Fanning T org opp label v) gs →
      Onward last gs
  fan-onward last [] p m f = tt
  fan-onward last (g ∷ gs) p m f = between_onward last gs p m f.1

  -- where the darts of a frontier start and end
  abbrev Ends : List ℕ → ℕ → Type 0
  Ends L x = Later org L (org x) × Later org L (org (next x))

  later_more : (a : ℕ) (L : List ℕ) (i : ℕ) → Later org L i → Later org (a ∷ L) i
  later_more a L i (inl m) = inl (Memᴰ.tail m)
  later_more a L i (inr k) = inr k

  ends_more : (a : ℕ) (L : List ℕ) (x : ℕ) → Ends L x → Ends (a ∷ L) x
  ends_more a L x k = (later_more a L (org x) k.0, later_more a L (org (next x)) k.1)

  -- of the two neighbours of a vertex that leaves, from the frontier after it
  sides_later : (e e' : ℕ) (gs C C' L : List ℕ) → e' < 3 * T → Fan T org opp (opp e') e gs → Step T org opp e e' gs C C' →
      Every (Ends L) C' →
      Later org L (org (next e)) × Later org L (org e')
  sides_later e e' gs C C' L h f s k =
      let new = new-darts (Ends L) s k in
      let b = fan-below f (fan-first f) in
      let l = fan-last e' h f in (
        subst (Later org L) (edge-tip sph e b) (every_in (Ends L) new (Memᴰ.map (edge T org opp) (fan-first f))).1,
        subst (Later org L) (edge-org sph l.0 (fan-below f l.1) ∙ ap org l.2) (every_in (Ends L) new (Memᴰ.map (edge T org opp) l.1)).0,
      )

  ends : {C : List ℕ} (tr : Trace T org opp C) → Every (Ends (removed_vertices T org opp tr)) C
  unfolding removed_vertices next
  ends done = ((inr (inr refl), inr (inl refl)), tt)
  ends (step {C} {C'} e e' gs h o f s tr) =
      let L = removed_vertices T org opp tr in
      let k = ends tr in
      let z = sides_later e e' gs C C' L h f s k in
      old_darts (Ends (org e ∷ L)) s
      (inl (Memᴰ.head refl), later_more (org e) L (org (next e)) z.0)
      (later_more (org e) L (org e') z.1, inl (Memᴰ.head (sym o)))
      (every_map (Ends L) (Ends (org e ∷ L)) (ends_more (org e) L) C' k)

  -- no dart of the frontier after it starts at the vertex that left
  fresh_later : (a : ℕ) (L C' : List ℕ) → (a ∈ L → ⊥) → a ≢ org 0 → a ≢ org 2 → Every (Ends L) C' → (x : ℕ) → x ∈ C' →
      org x ≢ a
  fresh_later a L C' g z0 z1 k x m e =
      elim (every_in (Ends L) k m).0 [
        | inl q ↦ g (Memᴰ.cast (sym e) q)
        | inr (inl q) ↦ z0 (sym e ∙ q)
        | inr (inr q) ↦ z1 (sym e ∙ q)
      ]

  -- Every step of the trace is such a removal, if no vertex leaves twice.
  removals : {C : List ℕ} (tr : Trace T org opp C) → Coloured T org opp label v tr → Every (Fanning T org opp label v) (fans T org opp tr) →
      Distinct (removed_vertices T org opp tr) → Removals T org opp label v tr × Dist org C
  unfolding removed_vertices fans
  removals done k f d = (tt, (λ y m. absurd (Memᴰ.not-nil m), tt))
  removals (step {C} {C'} e e' gs h o f s tr) k fs d =
      let split = every_split (Fanning T org opp label v) gs (fans T org opp tr) fs in
      let rest = removals tr k.3 split.1 (distinct_tail d) in
      let L = removed_vertices T org opp tr in
      let z = sides_later e e' gs C C' L h f s (ends tr) in
      let first = every_in (Fanning T org opp label v) split.0 (fan-first f) in
      let z0 : org e ≢ org 0 = λ q. first.not0 (q ∙ sym named.v0) in
      let z1 : org e ≢ org 2 = λ q. first.not1 (q ∙ sym named.v1) in
      let fresh = fresh_later (org e) L C' (distinct_head d) z0 z1 (ends tr) in
      let l = fan-last e' h f in
      let turn : Removal T org opp label v e e' gs C C' L =
      record {
        below = fan-below f (fan-first f);
        below' = h;
        meet = o;
        fan = f;
        onward = fan-onward (opp e') gs k.1 k.2 split.0;
        steps = s;
        left = k.0;
        right = k.1;
        fanning = λ g m. every_in (Fanning T org opp label v) split.0 m;
        apart = rest.1;
        fresh = fresh;
        starts = λ x m. (every_in (Ends L) (ends tr) m).0;
        gone = distinct_head d;
        not0 = z0;
        not1 = z1;
        later_left = z.0;
        later_right = z.1;
      } in (
        (turn, rest.0),
        step_apart (edge T org opp l.0) s rest.1 fresh (Memᴰ.map (edge T org opp) l.1) (edge-org sph l.0 (fan-below f l.1)
            ∙ ap org l.2),
      )

  -- n - 2 vertices leave, and all but v0 and v1 are among them: so none leaves twice
  pub removed_vertices_distinct : length (removed_vertices T org opp R.trace) ≡ n - 2 → Distinct (removed_vertices T org opp R.trace)
  removed_vertices_distinct e =
      let L = removed_vertices T org opp R.trace in
      distinct_tail (distinct_tail (covers_distinct (distinct_upto n) (v 0 ∷ v 1 ∷ L)
      (λ i m. let h = upto_in n m in
      elim (ℕ_discrete i (v 0)) [
        | yes p ↦ Memᴰ.head p
        | no p ↦ elim (ℕ_discrete i (v 1)) [
          | yes q ↦ Memᴰ.tail (Memᴰ.head q)
          | no q ↦
              Memᴰ.tail (Memᴰ.tail (R.leaves i h p q))
        ]
      ])
      (omega (arith, e, length-upto n, sph.least))))

  pub all_removals : length (removed_vertices T org opp R.trace) ≡ n - 2 → Removals T org opp label v R.trace
  all_removals e = (removals R.trace R.colours (all_fanning sph R named R.trace R.colours) (removed_vertices_distinct e)).0
