-- A peeling in any order of removals, from the whole mesh on, gives labels and colours that keep the rules of a realizer. Assumes nothing.
use Prim.Native.Nat.{ℕ, zero, suc, ◌*◌, ◌<◌}
use Rattle.std.specs.Prelude.{◌≡◌, refl, ◌≢◌, ◌⊎◌, List, [], ◌∷◌, ◌++◌, map, length}
use Rattle.std.proofs.Common.{sym, ap, ◌∙◌, append-nil, arith}
use Rattle.std.proofs.Math.Logic.{inl, inr}
use mathlib.Core.List.Memᴰ
use Rattle.std.proofs.Math.Decide.{ℕ_discrete, dec_lt}
use Rattle.std.proofs.lemmas.List.{length-map}
use Rattle.definitions.specs.Lists.{upto}
use Rattle.definitions.specs.Mesh.{tri, next, prev}
use Rattle.laws.specs.Lists.{◌∈◌, in_upto, length-upto}
use Rattle.laws.specs.Counting.{Distinct, nil, cons, distinct_within, distinct_append}
use Rattle.laws.specs.Edges.{dist_same, dist_distinct}
use Rattle.laws.specs.Positions.{position, position_here, position_later, position_in, position_out}
use Rattle.theory_sphere.specs.Sphere.{Sphere}
use Rattle.theory_sphere.specs.Darts.{tri-below, tri-first, tri-outer, outer-tri}
use Rattle.theory_sphere.specs.Rotations.{tip-opp, across}
use Rattle.theory_realizer.specs.Trace.{edge}
use Rattle.theory_realizer.specs.Realizer.{Inner, Rim, Points, inside, along, Realizer}
use Rattle.theory_peeling.specs.Inside.{inside-start, three, org_opp0, org_opp1, org_opp2, tip_opp2, proper01, proper12, proper20}
use Rattle.theory_peeling.specs.Peel.{Peel, trace, passes, gone, heads, lasts, mids, tris, fans-trace, removed_vertices-trace, passes-inside}
use Rattle.theory_peeling.specs.Peel.{passes-all}
use Rattle.theory_peeling.specs.Peel.{passes-once, gone_distinct, gone-all, gone-below, gone-inner, frontier_goes, heads-gone, gone-heads, heads_dist}
use Rattle.theory_peeling.specs.Peel.{lasts-gone, gone-lasts, lasts_dist, heads_rise, lasts_rise, tris_rise, tris-length, tris-outer, tris-inner}
use Rattle.theory_peeling.specs.MiddleVertices.{mids_apart, mids_dist, mids-all}
use Rattle.theory_peeling.specs.Colours.{out_all, Behind, coloured_trace, out_coloured, label-two, found0, found1, found2}

next0 : next 0 ≡ 1
unfolding next
next0 = refl

next1 : next 1 ≡ 2
unfolding next
next1 = refl

next2 : next 2 ≡ 0
unfolding next
next2 = refl

module _ {n T : ℕ} {org opp : ℕ → ℕ} (s : Sphere n T org opp) (p : Peel n T org opp [] (opp 0 ∷ opp 1 ∷ [])) (label v : ℕ → ℕ)
    (lab : (g : ℕ) → g ∈ passes p → (label g ≡ 2) × (label (next g) ≡ 0) × (label (prev g) ≡ 1)) (v0 : v 0 ≡ org 0) (v1 : v 1 ≡ org 2)
    (v2 : v 2 ≡ org 1) where
  abbrev Colour : ℕ → ℕ → Type 0
  Colour = Points T org opp label v

  inner : (g : ℕ) → g ∈ passes p → (g < 3 * T) × (0 < tri g)
  inner g m = let i = passes-inside s p g m in (i.below, i.inner)

  cov : (d : ℕ) → d < 3 * T → 0 < tri d → (g : ℕ) × (g ∈ passes p) × (tri g ≡ tri d)
  cov d b h = passes-all s p d (inside-start s d b h)

  behind : Behind s (passes p) label v lab inner v0 v1 (opp 0 ∷ opp 1 ∷ [])
  behind x m =
      elim (Memᴰ.cases_cons m) [
        | inl t ↦ inl (ap opp t ∙ s.twice 0 (omega (arith, three s)))
        | inr k ↦ inr (inl (ap opp (Memᴰ.eq_of_singleton k) ∙ s.twice 1 (omega (arith, three s))))
      ]

  outs : ((d : ℕ) → d ∈ heads p → Colour 0 d) × ((d : ℕ) → d ∈ lasts p → Colour 1 d) × ((d : ℕ) → d ∈ mids p → Colour 2 d)
  outs = out_coloured s (passes p) label v lab inner v0 v1 p (λ g m. m) behind

  -- ---- the rim

  -- a dart of the outer triangle, or the opposite of one
  data Side (d : ℕ) : Type 0 where
    dart : (k : ℕ) → k < 3 → d ≡ k → Side d
    back : (k : ℕ) → k < 3 → d ≡ opp k → Side d

  side_of : (d : ℕ) → Rim T opp d → Side d
  side_of d r =
      elim r.outer [
        | inl t ↦ dart d (outer-tri d t) refl
        | inr t ↦ back (opp d) (outer-tri (opp d) t) (sym (s.twice d r.below))
      ]

  tip0 : org (next 0) ≡ org 1
  tip0 = ap org next0

  tip1 : org (next 1) ≡ org 2
  tip1 = ap org next1

  tip2 : org (next 2) ≡ org 0
  tip2 = ap org next2

  back0 : org (next (opp 0)) ≡ org 0
  back0 = tip-opp s 0 (omega (arith, three s))

  back1 : org (next (opp 1)) ≡ org 1
  back1 = tip-opp s 1 (omega (arith, three s))

  back2 : org (next (opp 2)) ≡ org 2
  back2 = tip_opp2 s

  rim-dart : (k : ℕ) → k < 3 → Rim T opp k
  rim-dart k h = record { below = omega (arith, three s); outer = inl (tri-outer k h) }

  rim-back : (k : ℕ) → k < 3 → Rim T opp (opp k)
  rim-back k h = let b : k < 3 * T = omega (arith, three s) in record { below = s.dart k b; outer = inr (ap tri (s.twice k b) ∙ tri-outer k h) }

  -- the tip of a side of the rim tells which it is
  side-tip : (d w : ℕ) → Side d → org (next d) ≡ w
      → ((d ≡ 0) × (w ≡ org 1)) ⊎ ((d ≡ 1) × (w ≡ org 2)) ⊎ ((d ≡ 2) × (w ≡ org 0)) ⊎ ((d ≡ opp 0) × (w ≡ org 0))
      ⊎ ((d ≡ opp 1) × (w ≡ org 1)) ⊎ ((d ≡ opp 2) × (w ≡ org 2))
  side-tip d w (dart zero h t) e = inl (t, sym e ∙ ap (λ (x : ℕ). org (next x)) t ∙ tip0)
  side-tip d w (dart (suc zero) h t) e = inr (inl (t, sym e ∙ ap (λ (x : ℕ). org (next x)) t ∙ tip1))
  side-tip d w (dart (suc (suc zero)) h t) e = inr (inr (inl (t, sym e ∙ ap (λ (x : ℕ). org (next x)) t ∙ tip2)))
  side-tip d w (dart (suc (suc (suc k))) h t) e = absurd (omega arith)
  side-tip d w (back zero h t) e = inr (inr (inr (inl (t, sym e ∙ ap (λ (x : ℕ). org (next x)) t ∙ back0))))
  side-tip d w (back (suc zero) h t) e = inr (inr (inr (inr (inl (t, sym e ∙ ap (λ (x : ℕ). org (next x)) t ∙ back1)))))
  side-tip d w (back (suc (suc zero)) h t) e = inr (inr (inr (inr (inr (t, sym e ∙ ap (λ (x : ℕ). org (next x)) t ∙ back2)))))
  side-tip d w (back (suc (suc (suc k))) h t) e = absurd (omega arith)

  -- v0 and v1 do not leave
  stay0 : org 0 ∈ gone p → ⊥
  stay0 m = (gone-inner s p (org 0) m).0 (sym (org_opp2 s))

  stay1 : org 2 ∈ gone p → ⊥
  stay1 m = (gone-inner s p (org 2) m).1 (sym back2)

  not-two : (k : ℕ) → k < 3 → opp k ≢ 2
  not-two k h t = across s k (omega (arith, three s)) (ap tri t ∙ tri-outer 2 (omega arith) ∙ sym (tri-outer k h))

  head_0 : opp 0 ∈ heads p
  head_0 =
      elim (frontier_goes s p (opp 0) (Memᴰ.head refl)) [
        | inl m ↦ m
        | inr r ↦ elim r [
          | inl m ↦ absurd (stay0 (Memᴰ.cast (ap org (sym (s.twice 0 (omega (arith, three s))))) (lasts-gone s p (opp (opp 0)) m)))
          | inr t ↦ absurd (not-two 0 (omega arith) t)
        ]
      ]

  last-1 : 1 ∈ lasts p
  last-1 =
      elim (frontier_goes s p (opp 1) (Memᴰ.tail (Memᴰ.head refl))) [
        | inl m ↦ absurd (stay1 (Memᴰ.cast (sym (org_opp1 s)) (heads-gone s p (opp 1) m)))
        | inr r ↦ elim r [
          | inl m ↦ Memᴰ.cast (sym (s.twice 1 (omega (arith, three s)))) m
          | inr t ↦ absurd (not-two 1 (omega arith) t)
        ]
      ]

  -- ---- which sides have a colour

  points0 : (d : ℕ) → Colour 0 d → (d ≡ 2) ⊎ (d ∈ heads p)
  points0 d (inside i a b) = inr (found0 s (passes p) label v lab inner v0 v1 cov p (λ g m. m) (λ g m. m) d i a b)
  points0 d (along r t) = go (side-tip d (org 0) (side_of d r) (t ∙ v0))
    where
      go : ((d ≡ 0) × (org 0 ≡ org 1)) ⊎ ((d ≡ 1) × (org 0 ≡ org 2)) ⊎ ((d ≡ 2) × (org 0 ≡ org 0)) ⊎ ((d ≡ opp 0) × (org 0 ≡ org 0))
          ⊎ ((d ≡ opp 1) × (org 0 ≡ org 1)) ⊎ ((d ≡ opp 2) × (org 0 ≡ org 2))
          → (d ≡ 2) ⊎ (d ∈ heads p)
      go (inl q) = absurd (proper01 s q.1)
      go (inr (inl q)) = absurd (proper20 s (sym q.1))
      go (inr (inr (inl q))) = inl q.0
      go (inr (inr (inr (inl q)))) = inr (Memᴰ.cast q.0 head_0)
      go (inr (inr (inr (inr (inl q))))) = absurd (proper01 s q.1)
      go (inr (inr (inr (inr (inr q))))) = absurd (proper20 s (sym q.1))

  points1 : (d : ℕ) → Colour 1 d → (d ≡ opp 2) ⊎ (d ∈ lasts p)
  points1 d (inside i a b) = inr (found1 s (passes p) label v lab inner v0 v1 cov p (λ g m. m) (λ g m. m) d i a b)
  points1 d (along r t) = go (side-tip d (org 2) (side_of d r) (t ∙ v1))
    where
      go : ((d ≡ 0) × (org 2 ≡ org 1)) ⊎ ((d ≡ 1) × (org 2 ≡ org 2)) ⊎ ((d ≡ 2) × (org 2 ≡ org 0)) ⊎ ((d ≡ opp 0) × (org 2 ≡ org 0))
          ⊎ ((d ≡ opp 1) × (org 2 ≡ org 1)) ⊎ ((d ≡ opp 2) × (org 2 ≡ org 2))
          → (d ≡ opp 2) ⊎ (d ∈ lasts p)
      go (inl q) = absurd (proper12 s (sym q.1))
      go (inr (inl q)) = inr (Memᴰ.cast q.0 last-1)
      go (inr (inr (inl q))) = absurd (proper20 s q.1)
      go (inr (inr (inr (inl q)))) = absurd (proper20 s q.1)
      go (inr (inr (inr (inr (inl q))))) = absurd (proper12 s (sym q.1))
      go (inr (inr (inr (inr (inr q))))) = inl q.0

  points2 : (d : ℕ) → Colour 2 d → (d ≡ 0) ⊎ (d ≡ opp 1) ⊎ (d ∈ mids p)
  points2 d (inside i a b) = inr (inr (found2 s (passes p) label v lab inner v0 v1 cov p (λ g m. m) (λ g m. m) d i a b))
  points2 d (along r t) = go (side-tip d (org 1) (side_of d r) (t ∙ v2))
    where
      go : ((d ≡ 0) × (org 1 ≡ org 1)) ⊎ ((d ≡ 1) × (org 1 ≡ org 2)) ⊎ ((d ≡ 2) × (org 1 ≡ org 0)) ⊎ ((d ≡ opp 0) × (org 1 ≡ org 0))
          ⊎ ((d ≡ opp 1) × (org 1 ≡ org 1)) ⊎ ((d ≡ opp 2) × (org 1 ≡ org 2))
          → (d ≡ 0) ⊎ (d ≡ opp 1) ⊎ (d ∈ mids p)
      go (inl q) = inl q.0
      go (inr (inl q)) = absurd (proper12 s q.1)
      go (inr (inr (inl q))) = absurd (proper01 s (sym q.1))
      go (inr (inr (inr (inl q)))) = absurd (proper01 s (sym q.1))
      go (inr (inr (inr (inr (inl q))))) = inr (inl q.0)
      go (inr (inr (inr (inr (inr q))))) = absurd (proper12 s q.1)

  -- ---- one of each colour away from each vertex

  only0 : (d e : ℕ) → Colour 0 d → Colour 0 e → org d ≡ org e → d ≡ e
  only0 d e a b t = go (points0 d a) (points0 e b)
    where
      go : (d ≡ 2) ⊎ (d ∈ heads p) → (e ≡ 2) ⊎ (e ∈ heads p) → d ≡ e
      go (inl x) (inl y) = x ∙ sym y
      go (inl x) (inr y) = absurd (stay1 (Memᴰ.cast (ap org (sym x) ∙ t) (heads-gone s p e y)))
      go (inr x) (inl y) = absurd (stay1 (Memᴰ.cast (ap org (sym y) ∙ sym t) (heads-gone s p d x)))
      go (inr x) (inr y) = dist_same org (heads p) (heads_dist s p) d e x y t

  only1 : (d e : ℕ) → Colour 1 d → Colour 1 e → org d ≡ org e → d ≡ e
  only1 d e a b t = go (points1 d a) (points1 e b)
    where
      go : (d ≡ opp 2) ⊎ (d ∈ lasts p) → (e ≡ opp 2) ⊎ (e ∈ lasts p) → d ≡ e
      go (inl x) (inl y) = x ∙ sym y
      go (inl x) (inr y) = absurd (stay0 (Memᴰ.cast (sym (org_opp2 s) ∙ ap org (sym x) ∙ t) (lasts-gone s p e y)))
      go (inr x) (inl y) = absurd (stay0 (Memᴰ.cast (sym (org_opp2 s) ∙ ap org (sym y) ∙ sym t) (lasts-gone s p d x)))
      go (inr x) (inr y) = dist_same org (lasts p) (lasts_dist s p) d e x y t

  -- a side of colour 2 does not begin at v0 or at v1, unless it is on the rim
  mid_0 : (u : ℕ) → u ∈ mids p → org u ≢ org 0
  mid_0 u m t = (mids_apart s p u m).2 (opp 2) (Memᴰ.head refl) (t ∙ sym (org_opp2 s))

  mid_1 : (u : ℕ) → u ∈ mids p → org u ≢ org 2
  mid_1 u m t = (mids_apart s p u m).2 (opp 1) (Memᴰ.tail (Memᴰ.tail (Memᴰ.head refl))) (t ∙ sym (org_opp1 s))

  only2 : (d e : ℕ) → Colour 2 d → Colour 2 e → org d ≡ org e → d ≡ e
  only2 d e a b t = go (points2 d a) (points2 e b)
    where
      go : (d ≡ 0) ⊎ (d ≡ opp 1) ⊎ (d ∈ mids p) → (e ≡ 0) ⊎ (e ≡ opp 1) ⊎ (e ∈ mids p) → d ≡ e
      go (inl x) (inl y) = x ∙ sym y
      go (inl x) (inr (inl y)) = absurd (proper20 s (sym (org_opp1 s) ∙ ap org (sym y) ∙ sym t ∙ ap org x))
      go (inl x) (inr (inr y)) = absurd (mid_0 e y (sym t ∙ ap org x))
      go (inr (inl x)) (inl y) = absurd (proper20 s (sym (org_opp1 s) ∙ ap org (sym x) ∙ t ∙ ap org y))
      go (inr (inl x)) (inr (inl y)) = x ∙ sym y
      go (inr (inl x)) (inr (inr y)) = absurd (mid_1 e y (sym t ∙ ap org x ∙ org_opp1 s))
      go (inr (inr x)) (inl y) = absurd (mid_0 d x (t ∙ ap org y))
      go (inr (inr x)) (inr (inl y)) = absurd (mid_1 d x (t ∙ ap org y ∙ org_opp1 s))
      go (inr (inr x)) (inr (inr y)) = dist_same org (mids p) (mids_dist s p) d e x y t

  abbrev Away : ℕ → ℕ → Type 0
  Away c i = (d : ℕ) × (org d ≡ i) × Colour c d

  out0 : (i : ℕ) → i < n → i ≢ v 0 → Away 0 i
  out0 i h a =
      elim (gone-all s p i h Memᴰ.not-nil) [
        | inl m ↦ let r = gone-heads s p i m in (r.0, r.2, outs.0 r.0 r.1)
        | inr q ↦ elim q [
          | inl t ↦ absurd (a (t ∙ org_opp2 s ∙ sym v0))
          | inr t ↦ (2, sym (t ∙ back2), along (rim-dart 2 (omega arith)) (tip2 ∙ sym v0))
        ]
      ]

  out1 : (i : ℕ) → i < n → i ≢ v 1 → Away 1 i
  out1 i h a =
      elim (gone-all s p i h Memᴰ.not-nil) [
        | inl m ↦ let r = gone-lasts s p i m in (r.0, r.2, outs.1 r.0 r.1)
        | inr q ↦ elim q [
          | inl t ↦ (opp 2, sym t, along (rim-back 2 (omega arith)) (back2 ∙ sym v1))
          | inr t ↦ absurd (a (t ∙ back2 ∙ sym v1))
        ]
      ]

  out2 : (i : ℕ) → i < n → i ≢ v 2 → Away 2 i
  out2 i h a = go (ℕ_discrete i (org 0)) (ℕ_discrete i (org 2))
    where
      go : Dec (i ≡ org 0) → Dec (i ≡ org 2) → Away 2 i
      go (yes t) u = (0, sym t, along (rim-dart 0 (omega arith)) (tip0 ∙ sym v2))
      go (no t) (yes u) = (opp 1, org_opp1 s ∙ sym u, along (rim-back 1 (omega arith)) (back1 ∙ sym v2))
      go (no t) (no u) =
          let r = mids-all s p i h Memᴰ.not-nil (λ x m e.
          elim (Memᴰ.cases_cons m) [
            | inl q ↦ t (sym e ∙ ap org q ∙ org_opp2 s)
            | inr k ↦ elim (Memᴰ.cases_cons k) [
              | inl q ↦ a (sym e ∙ ap org q ∙ org_opp0 s ∙ sym v2)
              | inr k' ↦ u (sym e ∙ ap org (Memᴰ.eq_of_singleton k') ∙ org_opp1 s)
            ]
          ]) in
          (r.0, r.2, outs.2 r.0 r.1)

  out : (c : ℕ) → c < 3 → (i : ℕ) → i < n → i ≢ v c → Away c i
  out zero h = out0
  out (suc zero) h = out1
  out (suc (suc zero)) h = out2
  out (suc (suc (suc c))) h = absurd (omega arith)

  only : (c : ℕ) → c < 3 → (d e : ℕ) → Colour c d → Colour c e → org d ≡ org e → d ≡ e
  only zero h = only0
  only (suc zero) h = only1
  only (suc (suc zero)) h = only2
  only (suc (suc (suc c))) h = absurd (omega arith)

  -- ---- ranks

  -- the vertices in the order in which they leave, v0 and v1 last
  order : ℕ → List ℕ
  order zero = gone p ++ (org 2 ∷ org 0 ∷ [])
  order (suc c) = gone p ++ (org 0 ∷ org 2 ∷ [])

  unfoldable rank : ℕ → ℕ → ℕ
  rank c i = position (order c) i

  ends-place : (a b : ℕ) → (a ∈ gone p → ⊥) → (b ∈ gone p → ⊥) → a ≢ b →
      position (gone p ++ (a ∷ b ∷ [])) a < position (gone p ++ (a ∷ b ∷ [])) b
  ends-place a b x y ne =
      omega (
        arith,
        position_out (gone p) (a ∷ b ∷ []) a x,
        position_out (gone p) (a ∷ b ∷ []) b y,
        position_here a (b ∷ []),
        position_later a b (b ∷ []) ne,
        position_here b [],
      )

  ends-below : (a b : ℕ) → a < n → b < n → (a ∈ gone p → ⊥) → (b ∈ gone p → ⊥) → a ≢ b → (i : ℕ) → (i ∈ gone p)
      ⊎ (i ≡ a) ⊎ (i ≡ b) → position (gone p ++ (a ∷ b ∷ [])) i < n
  ends-below a b al bl x y ne i m =
      let xs = gone p ++ (a ∷ b ∷ []) in
      let d = distinct_append (gone_distinct s p) (cons {x = a} (λ k. ne (Memᴰ.eq_of_singleton k)) (cons {x = b} Memᴰ.not-nil nil))
      (λ w k q.
      elim (Memᴰ.cases_cons q) [ inl t ↦ x (Memᴰ.cast (sym t) k) | inr r ↦ y (Memᴰ.cast (sym (Memᴰ.eq_of_singleton r)) k) ]) in
      let l = distinct_within d (upto n) (λ w k. in_upto n w (elim (Memᴰ.append_cases (gone p) k) [
        | inl q ↦ gone-below s p w q
        | inr q ↦ elim (Memᴰ.cases_cons q) [ inl t ↦ rw t al | inr r ↦ rw (Memᴰ.eq_of_singleton r) bl ]
      ])) in
      let k : i ∈ xs = elim m [
        | inl q ↦ Memᴰ.append_left (a ∷ b ∷ []) q
        | inr q ↦ elim q [
          | inl t ↦ Memᴰ.append_right (gone p) (Memᴰ.head t)
          | inr t ↦
              Memᴰ.append_right (gone p) (Memᴰ.tail (Memᴰ.head t))
        ]
      ] in
      let u : position xs i < length xs = rw (append-nil xs) at (position_in xs [] i k) in
      omega (arith, u, l, length-upto n)

  below0 : org 0 < n
  below0 = s.vertex 0 (omega (arith, three s))

  below2 : org 2 < n
  below2 = s.vertex 2 (three s)

  where_is : (i : ℕ) → i < n → (i ∈ gone p) ⊎ (i ≡ org 0) ⊎ (i ≡ org 2)
  where_is i h =
      elim (gone-all s p i h Memᴰ.not-nil) [
        | inl m ↦ inl m
        | inr q ↦ elim q [ inl t ↦ inr (inl (t ∙ org_opp2 s)) | inr t ↦ inr (inr (t ∙ back2)) ]
      ]

  rank_below : (c i : ℕ) → i < n → rank c i < n
  unfolding rank order
  rank_below zero i h =
      ends-below (org 2) (org 0) below2 below0 stay1 stay0 (proper20 s) i
      (elim (where_is i h) [ inl m ↦ inl m | inr q ↦ elim q [ inl t ↦ inr (inr t) | inr t ↦ inr (inl t) ] ])
  rank_below (suc c) i h = ends-below (org 0) (org 2) below0 below2 stay0 stay1 (λ t. proper20 s (sym t)) i (where_is i h)

  rank_rises : (c : ℕ) → c < 2 → (d : ℕ) → Colour c d → rank c (org d) < rank c (org (next d))
  unfolding rank order
  rank_rises zero h d q =
      elim (points0 d q) [
        | inl t ↦ rw (t, tip2) (ends-place (org 2) (org 0) stay1 stay0 (proper20 s))
        | inr m ↦ (heads_rise s p (org 2 ∷ org 0 ∷ []) d m).2
      ]
  rank_rises (suc zero) h d q =
      elim (points1 d q) [
        | inl t ↦ rw (t, org_opp2 s, back2) (ends-place (org 0) (org 2) stay0 stay1 (λ t. proper20 s (sym t)))
        | inr m ↦ (lasts_rise s p (org 0 ∷ org 2 ∷ []) d m).2
      ]
  rank_rises (suc (suc c)) h d q = absurd (omega arith)

  triangle_rank_below : (t : ℕ) → t < T → position (tris p) t < T
  triangle_rank_below t h =
      let fresh : 0 ∈ map tri (passes p) → ⊥ = λ m. let r = Memᴰ.of_map tri (passes p) m in absurd (omega (arith, (inner r.0 r.1).1, r.2)) in
      let d : Distinct (0 ∷ map tri (passes p)) = cons fresh (dist_distinct tri (passes p) (passes-once s p)) in
      let l = distinct_within d (upto T) (λ w m. in_upto T w (elim (Memᴰ.cases_cons m) [
        | inl e ↦ omega arith
        | inr k ↦ let r = Memᴰ.of_map tri (passes p) k in rw (sym r.2) (tri-below T r.0 (inner r.0 r.1).0)
      ])) in
      let k : t ∈ tris p = elim (dec_lt 0 t) [
        | yes q ↦
            let e = tri-first t in
            let r = cov (3 * t) (omega arith) (rw e q) in
            Memᴰ.cast (sym (r.2 ∙ e)) (tris-inner s p r.0 r.1)
        | no q ↦ let z : t ≡ 0 = omega arith in Memᴰ.cast z (tris-outer s p)
      ] in
      let u : position (tris p) t < length (tris p) = rw (append-nil (tris p)) at (position_in (tris p) [] t k) in
      omega (arith, u, l, length-upto T, length-map (passes p) tri, tris-length s p)

  passed : (g : ℕ) → g < 3 * T → 0 < tri g → label g ≡ 2 → g ∈ passes p
  passed = label-two s (passes p) label v lab inner v0 v1 cov

  triangle_rank_rises : (g : ℕ) → g < 3 * T → 0 < tri g → label g ≡ 2 → position (tris p) (tri g) < position (tris p) (tri (opp (next g)))
  unfolding edge
  triangle_rank_rises g b h t = tris_rise s p g (passed g b h t)

  coloured : (d : ℕ) → Inner T opp d → (c : ℕ) × (c < 3) × (Colour c d ⊎ Colour c (opp d))
  coloured d i =
      elim (out_all s p d (inside-start s d i.below i.this) (inside-start s (opp d) (s.dart d i.below) i.that)) [
        | inl o ↦ elim o [
          | inl m ↦ (0, omega arith, inl (outs.0 d m))
          | inr q ↦
              elim q [ inl m ↦ (1, omega arith, inl (outs.1 d m)) | inr m ↦ (2, omega arith, inl (outs.2 d m)) ]
        ]
        | inr o ↦ elim o [
          | inl m ↦ (0, omega arith, inr (outs.0 (opp d) m))
          | inr q ↦ elim q [ inl m ↦ (1, omega arith, inr (outs.1 (opp d) m)) | inr m ↦ (2, omega arith, inr (outs.2 (opp d) m)) ]
        ]
      ]

  -- the rules of a realizer
  pub realized : Realizer n T org opp label v
  realized =
      record {
        corners = λ t h b.
            let e = tri-first t in
            let r = cov (3 * t) (omega arith) (rw e h) in
            let l = lab r.0 r.1 in
            (r.0, r.2 ∙ e, l.0, l.1, l.2);
        coloured = coloured;
        out = out;
        only = only;
        rank = rank;
        rank_below = rank_below;
        rank_rises = rank_rises;
        triangle_rank = position (tris p);
        triangle_rank_below = triangle_rank_below;
        triangle_rank_rises = triangle_rank_rises;
        trace = trace p;
        colours = coloured_trace s (passes p) label v lab inner v0 v1 p (λ g m. m) behind;
        passes = λ g b h t. rw (fans-trace p) (passed g b h t);
        leaves = λ i h a b. rw (removed_vertices-trace p) (elim (where_is i h) [
          | inl m ↦ m
          | inr q ↦ elim q [ inl t ↦ absurd (a (t ∙ sym v0)) | inr t ↦ absurd (b (t ∙ sym v1)) ]
        ]);
      }
