-- A whole peeling in any order of removals, step by step with its invariant, and what it says of triangles, of vertices and of their order. Assumes nothing.
use Rattle.std.specs.Prelude.{ℕ, suc, ◌*◌, ◌<◌, ◌≡◌, ◌≢◌, ◌⊎◌, length}
use Rattle.std.proofs.Math.Path.{refl, sym, ap}
use Rattle.std.proofs.Common.{◌∙◌}
use Rattle.std.proofs.Math.Logic.{inl, inr}
use mathlib.Core.List.Memᴰ
use mathlib.Core.List.{List, [], ◌∷◌, ◌++◌, map}
use native.Mathlib.Omega.{arith}
use Rattle.std.proofs.Math.Decide.{ℕ_discrete}
use Rattle.std.proofs.Math.ListN.{length-append, length-map}
use Rattle.definitions.specs.Mesh.{tri, next, prev}
use Rattle.laws.specs.Lists.{◌∈◌}
use Rattle.laws.specs.Counting.{Distinct, nil, cons}
use Rattle.laws.specs.Edges.{Dist, dist_append, distinct_dist}
use Rattle.laws.specs.Positions.{position, position_here, position_later, position_in, position_out}
use Rattle.theory_sphere.specs.Sphere.{Sphere}
use Rattle.theory_sphere.specs.Darts.{tri-next, tri-prev, next-prev, prev-below, tri-outer, corner-cases}
use Rattle.theory_sphere.specs.Rotations.{tip-opp}
use Rattle.theory_realizer.specs.Trace.{Fan, end, more, edge, Trace, done, fans, removed_vertices}
use Rattle.theory_peeling.specs.Inside.{Inside, inside-next, inside-prev, inside-tri, inside-less, inside-more, Inv}
use Rattle.theory_peeling.specs.Fan.{Leaves}

-- R are the vertices removed so far and D the frontier's darts. In the end nothing is inside and only v0 and v1 are left.
pub data Peel (n T : ℕ) (org opp : ℕ → ℕ) : List ℕ → List ℕ → Type 0 where
  over : {R : List ℕ} → ((d : ℕ) → Inside T org R d → ⊥) →
      ((w : ℕ) → w < n → (w ∈ R → ⊥) → (w ≡ org (opp 2)) ⊎ (w ≡ org (next (opp 2)))) → Peel n T org opp R (2 ∷ [])
  step : {R D D' : List ℕ} (e e' : ℕ) (gs : List ℕ) → Inv n T org opp R D → Leaves T org opp R D e e' gs D' →
      Peel n T org opp (org e ∷ R) D' → Peel n T org opp R D

-- all but the first
abbrev pub rest : List ℕ → List ℕ
rest [] = []
rest (x ∷ xs) = xs

module _ {n T : ℕ} {org opp : ℕ → ℕ} where
  unfoldable pub trace : {R D : List ℕ} → Peel n T org opp R D → Trace T org opp D
  trace (over a b) = done
  trace (step e e' gs v l p) = Trace.step e e' gs (v.this e' (Memᴰ.tail l.that)).below l.meet l.fan l.steps (trace p)

  -- the darts of all fans, the vertices that leave, and their darts to the left and to the right
  unfoldable pub passes : {R D : List ℕ} → Peel n T org opp R D → List ℕ
  passes (over a b) = []
  passes (step e e' gs v l p) = gs ++ passes p

  unfoldable pub gone : {R D : List ℕ} → Peel n T org opp R D → List ℕ
  gone (over a b) = []
  gone (step e e' gs v l p) = org e ∷ gone p

  unfoldable pub heads : {R D : List ℕ} → Peel n T org opp R D → List ℕ
  heads (over a b) = []
  heads (step e e' gs v l p) = e ∷ heads p

  unfoldable pub lasts : {R D : List ℕ} → Peel n T org opp R D → List ℕ
  lasts (over a b) = []
  lasts (step e e' gs v l p) = opp e' ∷ lasts p

  -- the darts from the vertices between, which come onto the frontier, to the vertex that leaves
  unfoldable pub mids : {R D : List ℕ} → Peel n T org opp R D → List ℕ
  mids (over a b) = []
  mids (step e e' gs v l p) = map opp (rest gs) ++ mids p

  -- the triangles in the order in which they are passed, and then the outer one
  unfoldable pub tris : {R D : List ℕ} → Peel n T org opp R D → List ℕ
  tris (over a b) = 0 ∷ []
  tris (step e e' gs v l p) = map tri gs ++ tris p

  -- all that is removed in the end
  unfoldable pub final : {R D : List ℕ} → Peel n T org opp R D → List ℕ
  final {R} (over a b) = R
  final (step e e' gs v l p) = final p

  pub final_in : {R D : List ℕ} (p : Peel n T org opp R D) (w : ℕ) → w ∈ final p → (w ∈ R) ⊎ (w ∈ gone p)
  unfolding final gone
  final_in (over a b) w m = inl m
  final_in (step e e' gs v l p) w m =
      elim (final_in p w m) [
        | inl k ↦ elim (Memᴰ.cases_cons k) [ inl t ↦ inr (Memᴰ.head t) | inr k' ↦ inl k' ]
        | inr k ↦ inr (Memᴰ.tail k)
      ]

  pub removed_stays : {R D : List ℕ} (p : Peel n T org opp R D) (w : ℕ) → w ∈ R → w ∈ final p
  unfolding final
  removed_stays (over a b) w m = m
  removed_stays (step e e' gs v l p) w m = removed_stays p w (Memᴰ.tail m)

  pub in_final : {R D : List ℕ} (p : Peel n T org opp R D) (w : ℕ) → w ∈ gone p → w ∈ final p
  unfolding final gone
  in_final (over a b) w m = absurd (Memᴰ.not-nil m)
  in_final (step e e' gs v l p) w m = elim (Memᴰ.cases_cons m) [ inl t ↦ removed_stays p w (Memᴰ.head t) | inr k ↦ in_final p w k ]

  pub final_distinct : {R D : List ℕ} (p : Peel n T org opp R D) → Distinct R → Distinct (final p)
  unfolding final
  final_distinct (over a b) d = d
  final_distinct (step e e' gs v l p) d = final_distinct p (cons {x = org e} (v.this e (Memᴰ.tail l.this)).from d)

  pub fans-trace : {R D : List ℕ} (p : Peel n T org opp R D) → fans T org opp (trace p) ≡ passes p
  unfolding fans trace passes
  fans-trace (over a b) = refl
  fans-trace (step e e' gs v l p) = ap {B = List ℕ} (λ (r : List ℕ). gs ++ r) (fans-trace p)

  pub removed_vertices-trace : {R D : List ℕ} (p : Peel n T org opp R D) → removed_vertices T org opp (trace p) ≡ gone p
  unfolding removed_vertices trace gone
  removed_vertices-trace (over a b) = refl
  removed_vertices-trace (step e e' gs v l p) = ap {B = List ℕ} (λ (r : List ℕ). org e ∷ r) (removed_vertices-trace p)

pub fan_shape : {T : ℕ} {org opp : ℕ → ℕ} {q d : ℕ} {ds : List ℕ} → Fan T org opp q d ds → ds ≡ d ∷ rest ds
fan_shape (end b t) = refl
fan_shape (more b f) = refl

module _ {n T : ℕ} {org opp : ℕ → ℕ} (s : Sphere n T org opp) where
  -- a dart inside stays so, unless the vertex that leaves is a corner of its triangle
  pub touched : {R D D' gs : List ℕ} {e e' : ℕ} → Leaves T org opp R D e e' gs D' → (d : ℕ) → Inside T org R d
      → Inside T org (org e ∷ R) d ⊎ (d ∈ gs) ⊎ (next d ∈ gs) ⊎ (prev d ∈ gs)
  touched {R} {gs} {e} l d i = go (ℕ_discrete (org d) (org e)) (ℕ_discrete (org (next d)) (org e)) (ℕ_discrete (org (prev d)) (org e))
    where
      go : Dec (org d ≡ org e) → Dec (org (next d) ≡ org e) → Dec (org (prev d) ≡ org e) → Inside T org (org e ∷ R) d ⊎ (d ∈ gs)
          ⊎ (next d ∈ gs) ⊎ (prev d ∈ gs)
      go (yes t) b c = inr (inl (l.full d i t))
      go (no a) (yes t) c = inr (inr (inl (l.full (next d) (inside-next T org R d i) t)))
      go (no a) (no b) (yes t) = inr (inr (inr (l.full (prev d) (inside-prev T org R d i) t)))
      go (no a) (no b) (no c) = inl (inside-more T org (org e) R d i a b c)

  -- ---- triangles

  -- a fan's darts are inside when their vertex leaves
  pub passes-inside : {R D : List ℕ} (p : Peel n T org opp R D) (g : ℕ) → g ∈ passes p → Inside T org R g
  unfolding passes
  passes-inside (over a b) g m = absurd (Memᴰ.not-nil m)
  passes-inside {R} (step e e' gs v l p) g m =
      elim (Memᴰ.append_cases gs m) [ inl k ↦ l.inside g k | inr k ↦ inside-less T org (org e) R g (passes-inside p g k) ]

  -- every triangle inside is passed
  pub passes-all : {R D : List ℕ} (p : Peel n T org opp R D) (d : ℕ) → Inside T org R d → (g : ℕ) × (g ∈ passes p) × (tri g ≡ tri d)
  unfolding passes
  passes-all (over a b) d i = absurd (a d i)
  passes-all {R} (step e e' gs v l p) d i = go (touched l d i) (passes-all p d)
    where
      go : Inside T org (org e ∷ R) d ⊎ (d ∈ gs) ⊎ (next d ∈ gs) ⊎ (prev d ∈ gs) →
          (Inside T org (org e ∷ R) d → (g : ℕ) × (g ∈ passes p) × (tri g ≡ tri d))
          → (g : ℕ) × (g ∈ gs ++ passes p) × (tri g ≡ tri d)
      go (inl j) ih = let r = ih j in (r.0, Memᴰ.append_right gs r.1, r.2)
      go (inr (inl m)) ih = (d, Memᴰ.append_left (passes p) m, refl)
      go (inr (inr (inl m))) ih = (next d, Memᴰ.append_left (passes p) m, tri-next d)
      go (inr (inr (inr m))) ih = (prev d, Memᴰ.append_left (passes p) m, tri-prev d)

  -- two darts of one triangle with one origin are the same
  pub one-corner : (g h : ℕ) → g < 3 * T → tri h ≡ tri g → org g ≡ org h → g ≡ h
  one-corner g h b t o = go (corner-cases g h t)
    where
      go : (h ≡ g) ⊎ (h ≡ next g) ⊎ (h ≡ prev g) → g ≡ h
      go (inl u) = sym u
      go (inr (inl u)) = absurd (s.proper g b (o ∙ ap org u))
      go (inr (inr u)) = absurd (s.proper (prev g) (prev-below T g b) (ap org (sym u) ∙ sym o ∙ ap org (sym (next-prev g))))

  -- and only once
  pub passes-once : {R D : List ℕ} (p : Peel n T org opp R D) → Dist tri (passes p)
  unfolding passes
  passes-once (over a b) = tt
  passes-once {R} (step e e' gs v l p) =
      dist_append tri gs (passes p)
      (distinct_dist tri (λ g h m k t. one-corner g h (l.inside g m).below (sym t) (l.from g m ∙ sym (l.from h k))) l.distinct)
      (passes-once p)
      (λ g h m k t. (inside-tri T org (org e ∷ R) h g t (passes-inside p h k)).from (Memᴰ.head (l.from g m)))

  -- ---- vertices

  pub gone_fresh : {R D : List ℕ} (p : Peel n T org opp R D) (w : ℕ) → w ∈ gone p → w ∈ R → ⊥
  unfolding gone
  gone_fresh (over a b) w m k = Memᴰ.not-nil m
  gone_fresh (step e e' gs v l p) w m k =
      elim (Memᴰ.cases_cons m) [
        | inl t ↦ (v.this e (Memᴰ.tail l.this)).from (Memᴰ.cast (sym t) k)
        | inr m' ↦ gone_fresh p w m' (Memᴰ.tail k)
      ]

  pub gone_distinct : {R D : List ℕ} (p : Peel n T org opp R D) → Distinct (gone p)
  unfolding gone
  gone_distinct (over a b) = nil
  gone_distinct (step e e' gs v l p) = cons {x = org e} (λ m. gone_fresh p (org e) m (Memᴰ.head refl)) (gone_distinct p)

  pub gone-all : {R D : List ℕ} (p : Peel n T org opp R D) (w : ℕ) → w < n → (w ∈ R → ⊥) → (w ∈ gone p) ⊎ (w ≡ org (opp 2))
      ⊎ (w ≡ org (next (opp 2)))
  unfolding gone
  gone-all (over a b) w h n = inr (b w h n)
  gone-all (step e e' gs v l p) w h n =
      elim (ℕ_discrete w (org e)) [
        | yes t ↦ inl (Memᴰ.head t)
        | no t ↦ elim (gone-all p w h (λ m. elim (Memᴰ.cases_cons m) [ inl u ↦ t u | inr k ↦ n k ])) [
          | inl m ↦ inl (Memᴰ.tail m)
          | inr r ↦ inr r
        ]
      ]

  pub gone-below : {R D : List ℕ} (p : Peel n T org opp R D) (w : ℕ) → w ∈ gone p → w < n
  unfolding gone
  gone-below (over a b) w m = absurd (Memᴰ.not-nil m)
  gone-below (step e e' gs v l p) w m =
      elim (Memᴰ.cases_cons m) [ inl t ↦ rw t (s.vertex e (v.this e (Memᴰ.tail l.this)).below) | inr k ↦ gone-below p w k ]

  -- v0 and v1 stay
  pub gone-inner : {R D : List ℕ} (p : Peel n T org opp R D) (w : ℕ) → w ∈ gone p → (w ≢ org (opp 2)) × (w ≢ org (next (opp 2)))
  unfolding gone
  gone-inner (over a b) w m = absurd (Memᴰ.not-nil m)
  gone-inner (step e e' gs v l p) w m =
      elim (Memᴰ.cases_cons m) [ inl t ↦ (λ u. l.not0 (sym t ∙ u), λ u. l.not1 (sym t ∙ u)) | inr k ↦ gone-inner p w k ]

  -- ---- the frontier

  pub on_frontier : {R D : List ℕ} (p : Peel n T org opp R D) (x : ℕ) → x ∈ D → Inside T org R x ⊎ (x ≡ 2)
  on_frontier (over a b) x m = inr (Memᴰ.eq_of_singleton m)
  on_frontier (step e e' gs v l p) x m = inl (v.this x (Memᴰ.tail m))

  -- each dart of the frontier is the left or the right one of a vertex that leaves, or the last of all
  pub frontier_goes : {R D : List ℕ} (p : Peel n T org opp R D) (x : ℕ) → x ∈ D → (x ∈ heads p) ⊎ (opp x ∈ lasts p) ⊎ (x ≡ 2)
  unfolding heads lasts
  frontier_goes (over a b) x m = inr (inr (Memᴰ.eq_of_singleton m))
  frontier_goes (step {D' = E} e e' gs v l p) x m = go (l.kept x m) (frontier_goes p x)
    where
      go : (x ≡ e) ⊎ (x ≡ e') ⊎ (x ∈ E) → (x ∈ E → (x ∈ heads p) ⊎ (opp x ∈ lasts p) ⊎ (x ≡ 2)) → (x ∈ e ∷ heads p)
          ⊎ (opp x ∈ opp e' ∷ lasts p) ⊎ (x ≡ 2)
      go (inl t) ih = inl (Memᴰ.head t)
      go (inr (inl t)) ih = inr (inl (Memᴰ.head (ap opp t)))
      go (inr (inr k)) ih = elim (ih k) [
        | inl a ↦ inl (Memᴰ.tail a)
        | inr r ↦
            elim r [ inl b ↦ inr (inl (Memᴰ.tail b)) | inr c ↦ inr (inr c) ]
      ]

  -- the triangle across a fan's triangle is still inside after it, or it is the outer one
  pub edge_stays : {R D : List ℕ} (p : Peel n T org opp R D) (g : ℕ) → g ∈ passes p → Inside T org R (edge T org opp g) ⊎ (edge T org opp g ≡ 2)
  unfolding passes
  edge_stays (over a b) g m = absurd (Memᴰ.not-nil m)
  edge_stays {R} (step e e' gs v l p) g m =
      elim (Memᴰ.append_cases gs m) [
        | inl k ↦ less (on_frontier p (edge T org opp g) (l.edges g k))
        | inr k ↦ less (edge_stays p g k)
      ]
    where
      less : Inside T org (org e ∷ R) (edge T org opp g) ⊎ (edge T org opp g ≡ 2) → Inside T org R (edge T org opp g) ⊎ (edge T org opp g ≡ 2)
      less (inl i) = inl (inside-less T org (org e) R (edge T org opp g) i)
      less (inr t) = inr t

  -- the darts to the left, and to the right, are one for each vertex that leaves
  pub heads-gone : {R D : List ℕ} (p : Peel n T org opp R D) (d : ℕ) → d ∈ heads p → org d ∈ gone p
  unfolding heads gone
  heads-gone (over a b) d m = absurd (Memᴰ.not-nil m)
  heads-gone (step e e' gs v l p) d m = elim (Memᴰ.cases_cons m) [
    | inl t ↦ Memᴰ.head (ap org t)
    | inr k ↦
        Memᴰ.tail (heads-gone p d k)
  ]

  pub gone-heads : {R D : List ℕ} (p : Peel n T org opp R D) (w : ℕ) → w ∈ gone p → (d : ℕ) × (d ∈ heads p) × (org d ≡ w)
  unfolding heads gone
  gone-heads (over a b) w m = absurd (Memᴰ.not-nil m)
  gone-heads (step e e' gs v l p) w m =
      elim (Memᴰ.cases_cons m) [
        | inl t ↦ (e, Memᴰ.head refl, sym t)
        | inr k ↦ let r = gone-heads p w k in
            (r.0, Memᴰ.tail r.1, r.2)
      ]

  pub heads_dist : {R D : List ℕ} (p : Peel n T org opp R D) → Dist org (heads p)
  unfolding heads gone
  heads_dist (over a b) = tt
  heads_dist (step e e' gs v l p) = (λ y m t. gone_fresh p (org y) (heads-gone p y m) (Memᴰ.head (sym t)), heads_dist p)

  last-org : {R D D' gs : List ℕ} {e e' : ℕ} → Inv n T org opp R D → Leaves T org opp R D e e' gs D' → org (opp e') ≡ org e
  last-org {e'} v l = s.reverses e' (v.this e' (Memᴰ.tail l.that)).below ∙ sym l.meet

  pub lasts-gone : {R D : List ℕ} (p : Peel n T org opp R D) (d : ℕ) → d ∈ lasts p → org d ∈ gone p
  unfolding lasts gone
  lasts-gone (over a b) d m = absurd (Memᴰ.not-nil m)
  lasts-gone (step e e' gs v l p) d m =
      elim (Memᴰ.cases_cons m) [ inl t ↦ Memᴰ.head (ap org t ∙ last-org v l) | inr k ↦ Memᴰ.tail (lasts-gone p d k) ]

  pub gone-lasts : {R D : List ℕ} (p : Peel n T org opp R D) (w : ℕ) → w ∈ gone p → (d : ℕ) × (d ∈ lasts p) × (org d ≡ w)
  unfolding lasts gone
  gone-lasts (over a b) w m = absurd (Memᴰ.not-nil m)
  gone-lasts (step e e' gs v l p) w m =
      elim (Memᴰ.cases_cons m) [
        | inl t ↦ (opp e', Memᴰ.head refl, last-org v l ∙ sym t)
        | inr k ↦ let r = gone-lasts p w k in (r.0, Memᴰ.tail r.1, r.2)
      ]

  pub lasts_dist : {R D : List ℕ} (p : Peel n T org opp R D) → Dist org (lasts p)
  unfolding lasts gone
  lasts_dist (over a b) = tt
  lasts_dist (step e e' gs v l p) = (λ y m t. gone_fresh p (org y) (lasts-gone p y m) (Memᴰ.head (sym t ∙ last-org v l)), lasts_dist p)

  -- ---- the order

  -- the left neighbour and the right neighbour of a vertex are there after it
  pub heads_rise : {R D : List ℕ} (p : Peel n T org opp R D) (ends : List ℕ) (d : ℕ) → d ∈ heads p
      → (org d ∈ R → ⊥) × (org (next d) ∈ R → ⊥) × (position (gone p ++ ends) (org d) < position (gone p ++ ends) (org (next d)))
  unfolding heads gone
  heads_rise (over a b) ends d m = absurd (Memᴰ.not-nil m)
  heads_rise (step e e' gs v l p) ends d m =
      elim (Memᴰ.cases_cons m) [
        | inl t ↦
            let i = v.this e (Memᴰ.tail l.this) in
            rw t (
              i.from,
              i.to,
              omega (
                arith,
                position_here (org e) (gone p ++ ends),
                position_later (org e) (org (next e)) (gone p ++ ends) (s.proper e i.below),
              ),
            )
        | inr k ↦
            let r = heads_rise p ends d k in
            let a = position_later (org e) (org d) (gone p ++ ends) (λ t. r.0 (Memᴰ.head (sym t))) in
            let b = position_later (org e) (org (next d)) (gone p ++ ends) (λ t. r.1 (Memᴰ.head (sym t))) in
            (λ x. r.0 (Memᴰ.tail x), λ x. r.1 (Memᴰ.tail x), omega (arith, a, b, r.2))
      ]

  pub lasts_rise : {R D : List ℕ} (p : Peel n T org opp R D) (ends : List ℕ) (d : ℕ) → d ∈ lasts p
      → (org d ∈ R → ⊥) × (org (next d) ∈ R → ⊥) × (position (gone p ++ ends) (org d) < position (gone p ++ ends) (org (next d)))
  unfolding lasts gone
  lasts_rise (over a b) ends d m = absurd (Memᴰ.not-nil m)
  lasts_rise (step e e' gs v l p) ends d m =
      elim (Memᴰ.cases_cons m) [
        | inl t ↦
            let i = v.this e (Memᴰ.tail l.this) in
            let i' = v.this e' (Memᴰ.tail l.that) in
            let o : org (opp e') ≡ org e = s.reverses e' i'.below ∙ sym l.meet in
            let o' : org (next (opp e')) ≡ org e' = tip-opp s e' i'.below in
            let ne : org e ≢ org e' = λ u. s.proper e' i'.below (sym u ∙ l.meet) in
            rw (t, o, o') (
              i.from,
              i'.from,
              omega (
                arith,
                position_here (org e) (gone p ++ ends),
                position_later (org e) (org e') (gone p ++ ends) ne,
              ),
            )
        | inr k ↦
            let r = lasts_rise p ends d k in
            let a = position_later (org e) (org d) (gone p ++ ends) (λ t. r.0 (Memᴰ.head (sym t))) in
            let b = position_later (org e) (org (next d)) (gone p ++ ends) (λ t. r.1 (Memᴰ.head (sym t))) in
            (λ x. r.0 (Memᴰ.tail x), λ x. r.1 (Memᴰ.tail x), omega (arith, a, b, r.2))
      ]

  -- the triangle across a fan's triangle comes after it
  pub tris_rise : {R D : List ℕ} (p : Peel n T org opp R D) (g : ℕ) → g ∈ passes p →
      position (tris p) (tri g) < position (tris p) (tri (edge T org opp g))
  unfolding passes tris
  tris_rise (over a b) g m = absurd (Memᴰ.not-nil m)
  tris_rise {R} (step e e' gs v l p) g m =
      elim (Memᴰ.append_cases gs m) [
        | inl k ↦ omega (
          arith,
          position_in (map tri gs) (tris p) (tri g) (Memᴰ.map tri k),
          position_out (map tri gs) (tris p) (tri (edge T org opp g)) (after (edge T org opp g) (on_frontier p (edge T org opp g) (l.edges g k))),
        )
        | inr k ↦
            omega (
              arith,
              tris_rise p g k,
              position_out (map tri gs) (tris p) (tri g) (after g (inl (passes-inside p g k))),
              position_out (map tri gs) (tris p) (tri (edge T org opp g)) (after (edge T org opp g) (edge_stays p g k)),
            )
      ]
    where
      after : (x : ℕ) → Inside T org (org e ∷ R) x ⊎ (x ≡ 2) → tri x ∈ map tri gs → ⊥
      after x (inl i) m = let r = Memᴰ.of_map tri gs m in
          (inside-tri T org (org e ∷ R) x r.0 r.2 i).from (Memᴰ.head (l.from r.0 r.1))
      after x (inr t) m = let r = Memᴰ.of_map tri gs m in
          absurd (omega (arith, (l.inside r.0 r.1).inner, r.2 ∙ ap tri t ∙ tri-outer 2 (omega arith)))

  pub tris-length : {R D : List ℕ} (p : Peel n T org opp R D) → length (tris p) ≡ suc (length (passes p))
  unfolding passes tris
  tris-length (over a b) = refl
  tris-length (step e e' gs v l p) = omega (arith, length-append (map tri gs) (tris p), length-map gs tri, length-append gs (passes p), tris-length p)

  pub tris-outer : {R D : List ℕ} (p : Peel n T org opp R D) → 0 ∈ tris p
  unfolding tris
  tris-outer (over a b) = Memᴰ.head refl
  tris-outer (step e e' gs v l p) = Memᴰ.append_right (map tri gs) (tris-outer p)

  pub tris-inner : {R D : List ℕ} (p : Peel n T org opp R D) (g : ℕ) → g ∈ passes p → tri g ∈ tris p
  unfolding passes tris
  tris-inner (over a b) g m = absurd (Memᴰ.not-nil m)
  tris-inner (step e e' gs v l p) g m =
      elim (Memᴰ.append_cases gs m) [
        | inl k ↦ Memᴰ.append_left (tris p) (Memᴰ.map tri k)
        | inr k ↦
            Memᴰ.append_right (map tri gs) (tris-inner p g k)
      ]
