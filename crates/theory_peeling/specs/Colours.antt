-- The colours of sides along a peeling in any order of removals. P are the darts passed in all, with labels 2, 0, 1 at each of them, at the next and at the
-- previous one. Assumes nothing.
use Rattle.std.specs.Prelude.{ℕ, ◌*◌, ◌<◌, ◌≡◌, refl, ◌⊎◌, List, [], ◌∷◌, map}
use Rattle.std.proofs.Math.Path.{sym, ap}
use Rattle.std.proofs.Common.{◌∙◌, arith}
use Rattle.std.proofs.Math.Logic.{inl, inr}
use mathlib.Core.List.Memᴰ
use Rattle.definitions.specs.Mesh.{tri, next, prev}
use Rattle.laws.specs.Lists.{◌∈◌}
use Rattle.theory_sphere.specs.Sphere.{Sphere}
use Rattle.theory_sphere.specs.Darts.{tri-next, next-prev, prev-next, next-next, next-below, tri-outer, corner-cases}
use Rattle.theory_sphere.specs.Rotations.{tip-opp}
use Rattle.theory_realizer.specs.Trace.{edge}
use Rattle.theory_realizer.specs.Realizer.{Inner, Points, inside, along, Middle, Between, Coloured}
use Rattle.theory_peeling.specs.Inside.{Inside, inside_of_next, Inv, org_opp1, org_opp2, tip_opp2}
use Rattle.theory_peeling.specs.Fan.{Leaves}
use Rattle.theory_peeling.specs.Peel.{Peel, over, step, rest, trace, passes, heads, lasts, mids, touched, frontier_goes, passes-inside}
use Rattle.theory_peeling.specs.MiddleVertices.{rest_in, in_rest, before_in}

next_one : next 1 ≡ 2
unfolding next
next_one = refl

-- ---- every side inside is a left, a right or a middle one, in one of its two directions

-- the darts along which the colours point away from a vertex
abbrev pub Out : {n T : ℕ} {org opp : ℕ → ℕ} {R D : List ℕ} → Peel n T org opp R D → ℕ → Type 0
Out p d = (d ∈ heads p) ⊎ (d ∈ lasts p) ⊎ (d ∈ mids p)

module _ {n T : ℕ} {org opp : ℕ → ℕ} (s : Sphere n T org opp) where
  out_later : {R D D' : List ℕ} (e e' : ℕ) (gs : List ℕ) (v : Inv n T org opp R D) (l : Leaves T org opp R D e e' gs D')
      (p : Peel n T org opp (org e ∷ R) D') (d : ℕ)
      → Out p d → Out (Peel.step e e' gs v l p) d
  unfolding heads lasts mids
  out_later e e' gs v l p d (inl m) = inl (Memᴰ.tail m)
  out_later e e' gs v l p d (inr (inl m)) = inr (inl (Memᴰ.tail m))
  out_later e e' gs v l p d (inr (inr m)) = inr (inr (Memᴰ.append_right (map opp (rest gs)) m))

  -- a side of a fan but its first
  out_mid : {R D D' : List ℕ} (e e' : ℕ) (gs : List ℕ) (v : Inv n T org opp R D) (l : Leaves T org opp R D e e' gs D')
      (p : Peel n T org opp (org e ∷ R) D') (g : ℕ)
      → g ∈ gs → Inside T org R (opp g) → Out (Peel.step e e' gs v l p) (opp g)
  unfolding mids
  out_mid e e' gs v l p g m i = inr (inr (Memᴰ.append_left (mids p) (Memᴰ.map opp (in_rest s v l g m i))))

  -- where a corner of the triangle of d leaves
  out_here : {R D D' : List ℕ} (e e' : ℕ) (gs : List ℕ) (v : Inv n T org opp R D) (l : Leaves T org opp R D e e' gs D')
      (p : Peel n T org opp (org e ∷ R) D') (d : ℕ)
      → Inside T org R d → Inside T org R (opp d) → (d ∈ gs) ⊎ (next d ∈ gs) ⊎ (prev d ∈ gs)
      → Out (Peel.step e e' gs v l p) d ⊎ Out (Peel.step e e' gs v l p) (opp d)
  unfolding edge
  out_here e e' gs v l p d i j (inl m) = inr (out_mid e e' gs v l p d m j)
  out_here {R} e e' gs v l p d i j (inr (inl m)) =
      let t : opp (prev (next d)) ≡ opp d = ap opp (prev-next d) in
      elim (l.onward (next d) m) [
        | inl k ↦ inl (rw (s.twice d i.below) at (out_mid e e' gs v l p (opp d) (rw t at k) (rw (s.twice d i.below) i)))
        | inr k ↦ absurd (v.that e' (Memᴰ.tail l.that) (rw (sym t ∙ k) at j))
      ]
  out_here e e' gs v l p d i j (inr (inr m)) =
      let b = i.below in
      let t : edge T org opp (prev d) ≡ opp d = ap opp (next-prev d) in
      elim (frontier_goes s p (opp d) (rw t at (l.edges (prev d) m))) [
        | inl k ↦ inr (out_later e e' gs v l p (opp d) (inl k))
        | inr r ↦ elim r [
          | inl k ↦ inl (out_later e e' gs v l p d (inr (inl (rw (s.twice d b) at k))))
          | inr u ↦ absurd (omega (arith, j.inner, ap tri u, tri-outer 2 (omega arith)))
        ]
      ]

  pub out_all : {R D : List ℕ} (p : Peel n T org opp R D) (d : ℕ) → Inside T org R d → Inside T org R (opp d) → Out p d ⊎ Out p (opp d)
  out_all (over a b) d i j = absurd (a d i)
  out_all {R} (step e e' gs v l p) d i j = go (touched s l d i) (touched s l (opp d) j) (out_all p d)
    where
      go : Inside T org (org e ∷ R) d ⊎ (d ∈ gs) ⊎ (next d ∈ gs) ⊎ (prev d ∈ gs)
          → Inside T org (org e ∷ R) (opp d) ⊎ (opp d ∈ gs) ⊎ (next (opp d) ∈ gs) ⊎ (prev (opp d) ∈ gs)
          → (Inside T org (org e ∷ R) d → Inside T org (org e ∷ R) (opp d) → Out p d ⊎ Out p (opp d))
          → Out (Peel.step e e' gs v l p) d ⊎ Out (Peel.step e e' gs v l p) (opp d)
      go (inr m) y ih = out_here e e' gs v l p d i j m
      go (inl x) (inr m) ih =
          let t = s.twice d i.below in
          elim (out_here e e' gs v l p (opp d) j (rw t i) m) [ inl u ↦ inr u | inr u ↦ inl (rw t at u) ]
      go (inl x) (inl y) ih = elim (ih x y) [ inl u ↦ inl (out_later e e' gs v l p d u) | inr u ↦ inr (out_later e e' gs v l p (opp d) u) ]

-- ---- colours

module _ {n T : ℕ} {org opp : ℕ → ℕ} (s : Sphere n T org opp) (P : List ℕ) (label v : ℕ → ℕ)
    (lab : (g : ℕ) → g ∈ P → (label g ≡ 2) × (label (next g) ≡ 0) × (label (prev g) ≡ 1)) (inner : (g : ℕ) → g ∈ P → (g < 3 * T)
    × (0 < tri g))
    (v0 : v 0 ≡ org 0) (v1 : v 1 ≡ org 2) where
  abbrev Colour : ℕ → ℕ → Type 0
  Colour = Points T org opp label v

  -- behind a frontier dart is the outer triangle, or a triangle that has been passed and whose corners along the dart have labels 0 and 1
  abbrev pub Behind : List ℕ → Type 0
  Behind D = (x : ℕ) → x ∈ D → (opp x ≡ 0) ⊎ (opp x ≡ 1) ⊎ ((g : ℕ) × (g ∈ P) × (opp x ≡ next g))

  module _ {R D D' gs : List ℕ} {e e' : ℕ} (i : Inv n T org opp R D) (l : Leaves T org opp R D e e' gs D') (sub : (g : ℕ) → g ∈ gs →
      g ∈ P) (bh : Behind D) where
    in_e : Inside T org R e
    in_e = i.this e (Memᴰ.tail l.this)

    in_e' : Inside T org R e'
    in_e' = i.this e' (Memᴰ.tail l.that)

    twice_e : opp (opp e) ≡ e
    twice_e = s.twice e in_e.below

    twice_e' : opp (opp e') ≡ e'
    twice_e' = s.twice e' in_e'.below

    e_P : e ∈ P
    e_P = sub e (l.full e in_e refl)

    colour0 : Colour 0 e
    colour0 = go (bh e l.this)
      where
        go : (opp e ≡ 0) ⊎ (opp e ≡ 1) ⊎ ((g : ℕ) × (g ∈ P) × (opp e ≡ next g)) → Colour 0 e
        go (inl t) = along (record { below = in_e.below; outer = inr (ap tri t ∙ tri-outer 0 (omega arith)) })
            (sym (s.reverses e in_e.below) ∙ ap org t ∙ sym v0)
        go (inr (inl t)) = absurd (l.not1 (ap org (sym twice_e ∙ ap opp t) ∙ org_opp1 s ∙ sym (tip_opp2 s)))
        go (inr (inr r)) =
            let g = r.0 in
            inside (record { below = in_e.below; this = in_e.inner; that = rw (r.2, tri-next g) (inner g r.1).1 }) (lab e e_P).1
            (ap label r.2 ∙ (lab g r.1).1)

    colour1 : Colour 1 (opp e')
    colour1 = go (bh e' l.that)
      where
        go : (opp e' ≡ 0) ⊎ (opp e' ≡ 1) ⊎ ((g : ℕ) × (g ∈ P) × (opp e' ≡ next g)) → Colour 1 (opp e')
        go (inl t) = absurd (l.not0 (l.meet ∙ sym (s.reverses e' in_e'.below) ∙ ap org t ∙ sym (org_opp2 s)))
        go (inr (inl t)) = along (record { below = s.dart e' in_e'.below; outer = inl (ap tri t ∙ tri-outer 1 (omega arith)) })
            (ap (λ (x : ℕ). org (next x)) t ∙ ap org next_one ∙ sym v1)
        go (inr (inr r)) =
            let g = r.0 in
            let f = l.final in
            inside (record { below = s.dart e' in_e'.below; this = rw (r.2, tri-next g) (inner g r.1).1; that = rw twice_e' in_e'.inner })
            (ap (λ (x : ℕ). label (next x)) r.2 ∙ ap label (next-next g) ∙ (lab g r.1).2)
            (ap label (twice_e' ∙ sym f.2) ∙ (lab f.0 (sub f.0 f.1)).2)

    colour2 : (g : ℕ) → g ∈ rest gs → Colour 2 (opp g)
    colour2 g m =
        let r = rest_in s i l g m in
        let j = l.inside g r.0 in
        let t = s.twice g j.below in
        inside (record { below = r.1.below; this = r.1.inner; that = rw t j.inner })
        (lab (next (opp g)) (sub (next (opp g)) (before_in s i l g r.0 r.1))).0 (ap label t ∙ (lab g (sub g r.0)).0)

    behind' : Behind D'
    unfolding edge
    behind' x m =
        elim (l.fresh x m) [
          | inr k ↦ bh x k.0
          | inl r ↦ let g = r.0 in inr (inr (g, sub g r.1, ap opp (sym r.2) ∙ s.twice (next g) (next-below T g (l.inside g r.1).below)))
        ]

    middle : (hs : List ℕ) → ((g : ℕ) → g ∈ rest hs → Colour 2 (opp g)) → Middle T org opp label v hs
    middle [] c = tt
    middle (h ∷ hs) c = between hs c
      where
        between : (hs : List ℕ) → ((g : ℕ) → g ∈ hs → Colour 2 (opp g)) → Between T org opp label v hs
        between [] c = tt
        between (h ∷ hs) c = (c h (Memᴰ.head refl), between hs (λ g m. c g (Memᴰ.tail m)))

  -- the sides of the vertices that leave have their colours
  pub coloured_trace : {R D : List ℕ} (p : Peel n T org opp R D) → ((g : ℕ) → g ∈ passes p → g ∈ P) → Behind D →
      Coloured T org opp label v (trace p)
  unfolding trace passes
  coloured_trace (over a b) sub bh = tt
  coloured_trace (step e e' gs i l p) sub bh =
      let own : (g : ℕ) → g ∈ gs → g ∈ P = λ g m. sub g (Memᴰ.append_left (passes p) m) in (
        colour0 i l own bh,
        colour1 i l own bh,
        middle i l own bh gs (colour2 i l own bh),
        coloured_trace p (λ g m. sub g (Memᴰ.append_right gs m)) (behind' i l own bh),
      )

  pub out_coloured : {R D : List ℕ} (p : Peel n T org opp R D) → ((g : ℕ) → g ∈ passes p → g ∈ P) → Behind D
      → ((d : ℕ) → d ∈ heads p → Colour 0 d) × ((d : ℕ) → d ∈ lasts p → Colour 1 d) × ((d : ℕ) → d ∈ mids p → Colour 2 d)
  unfolding passes heads lasts mids
  out_coloured (over a b) sub bh = (
    λ d m. absurd (Memᴰ.not-nil m),
    λ d m. absurd (Memᴰ.not-nil m),
    λ d m. absurd (Memᴰ.not-nil m),
  )
  out_coloured (step e e' gs i l p) sub bh =
      let own : (g : ℕ) → g ∈ gs → g ∈ P = λ g m. sub g (Memᴰ.append_left (passes p) m) in
      let r = out_coloured p (λ g m. sub g (Memᴰ.append_right gs m)) (behind' i l own bh) in (
        λ d m. elim (Memᴰ.cases_cons m) [ inl t ↦ rw t (colour0 i l own bh) | inr k ↦ r.0 d k ],
        λ d m. elim (Memᴰ.cases_cons m) [ inl t ↦ rw t (colour1 i l own bh) | inr k ↦ r.1 d k ],
        λ d m. elim (Memᴰ.append_cases (map opp (rest gs)) m) [
          | inl k ↦ let q = Memᴰ.of_map opp (rest gs) k in rw (sym q.2) (colour2 i l own bh q.0 q.1)
          | inr k ↦ r.2 d k
        ],
      )

  -- ---- a dart with two labels of one colour beside its tip is such a side

  module _ (cov : (d : ℕ) → d < 3 * T → 0 < tri d → (g : ℕ) × (g ∈ P) × (tri g ≡ tri d)) where
    -- where a corner with a given label stands
    labels_are : (d : ℕ) → d < 3 * T → 0 < tri d → ((d ∈ P) × (label d ≡ 2)) ⊎ ((prev d ∈ P) × (label d ≡ 0))
        ⊎ ((next d ∈ P) × (label d ≡ 1))
    labels_are d b h =
        let r = cov d b h in
        let g = r.0 in
        elim (corner-cases g d (sym r.2)) [
          | inl t ↦ inl (Memᴰ.cast t r.1, ap label t ∙ (lab g r.1).0)
          | inr q ↦ elim q [
            | inl t ↦ inr (inl (Memᴰ.cast (ap prev t ∙ prev-next g) r.1, ap label t ∙ (lab g r.1).1))
            | inr t ↦ inr (inr (Memᴰ.cast (ap next t ∙ next-prev g) r.1, ap label t ∙ (lab g r.1).2))
          ]
        ]

    pub label-two : (d : ℕ) → d < 3 * T → 0 < tri d → label d ≡ 2 → d ∈ P
    label-two d b h t =
        elim (labels_are d b h) [
          | inl r ↦ r.0
          | inr q ↦ elim q [ inl r ↦ absurd (omega (arith, r.1)) | inr r ↦ absurd (omega (arith, r.1)) ]
        ]

    label_zero : (d : ℕ) → d < 3 * T → 0 < tri d → label d ≡ 0 → prev d ∈ P
    label_zero d b h t =
        elim (labels_are d b h) [
          | inl r ↦ absurd (omega (arith, r.1))
          | inr q ↦ elim q [ inl r ↦ r.0 | inr r ↦ absurd (omega (arith, r.1)) ]
        ]

    label-one : (d : ℕ) → d < 3 * T → 0 < tri d → label d ≡ 1 → next d ∈ P
    label-one d b h t =
        elim (labels_are d b h) [
          | inl r ↦ absurd (omega (arith, r.1))
          | inr q ↦ elim q [ inl r ↦ absurd (omega (arith, r.1)) | inr r ↦ r.0 ]
        ]

    find0 : {R D : List ℕ} (p : Peel n T org opp R D) → ((g : ℕ) → g ∈ passes p → g ∈ P) → (d : ℕ) → d ∈ passes p →
        label (opp d) ≡ 0 → d ∈ heads p
    unfolding passes heads
    find0 (over a b) sub d m t = absurd (Memᴰ.not-nil m)
    find0 (step e e' gs i l p) sub d m t =
        elim (Memᴰ.append_cases gs m) [
          | inr k ↦ Memᴰ.tail (find0 p (λ g m. sub g (Memᴰ.append_right gs m)) d k t)
          | inl k ↦ elim (l.prior d k) [
            | inl u ↦ Memᴰ.head u
            | inr j ↦
                let g = next (opp d) in
                let q = (lab g (sub g (Memᴰ.append_left (passes p) (before_in s i l d k j)))).2 in
                absurd (omega (arith, t, sym (ap label (prev-next (opp d))) ∙ q))
          ]
        ]

    find1 : {R D : List ℕ} (p : Peel n T org opp R D) → ((g : ℕ) → g ∈ passes p → g ∈ P) → (g : ℕ) → g ∈ passes p →
        label (next (opp (prev g))) ≡ 1 → opp (prev g) ∈ lasts p
    unfolding passes lasts
    find1 (over a b) sub g m t = absurd (Memᴰ.not-nil m)
    find1 (step e e' gs i l p) sub g m t =
        elim (Memᴰ.append_cases gs m) [
          | inr k ↦ Memᴰ.tail (find1 p (λ g m. sub g (Memᴰ.append_right gs m)) g k t)
          | inl k ↦ elim (l.onward g k) [
            | inl j ↦ absurd (omega (arith, t, (lab (opp (prev g)) (sub (opp (prev g)) (Memᴰ.append_left (passes p) j))).1))
            | inr u ↦ Memᴰ.head u
          ]
        ]

    find2 : {R D : List ℕ} (p : Peel n T org opp R D) → ((g : ℕ) → g ∈ P → (org g ∈ R) ⊎ (g ∈ passes p)) → (h : ℕ) → h ∈ passes p
        → next (opp h) ∈ P → opp h ∈ mids p
    unfolding passes mids
    find2 (over a b) spl h m t = absurd (Memᴰ.not-nil m)
    find2 {R} (step e e' gs i l p) spl h m t =
        elim (Memᴰ.append_cases gs m) [
          | inr k ↦ Memᴰ.append_right (map opp (rest gs)) (find2 p later h k t)
          | inl k ↦ elim (l.prior h k) [
            | inr j ↦ Memᴰ.append_left (mids p) (Memᴰ.map opp (in_rest s i l h k j))
            | inl u ↦ absurd (first (rw u at t))
          ]
        ]
      where
        later : (g : ℕ) → g ∈ P → (org g ∈ org e ∷ R) ⊎ (g ∈ passes p)
        later g m =
            elim (spl g m) [
              | inl k ↦ inl (Memᴰ.tail k)
              | inr k ↦ elim (Memᴰ.append_cases gs k) [ inl a ↦ inl (Memᴰ.head (l.from g a)) | inr b ↦ inr b ]
            ]

        first : next (opp e) ∈ P → ⊥
        first q =
            let j = i.this e (Memᴰ.tail l.this) in
            let o : org (next (opp e)) ≡ org e = tip-opp s e j.below in
            elim (spl (next (opp e)) q) [
              | inl k ↦ j.from (Memᴰ.cast (sym o) k)
              | inr k ↦ elim (Memᴰ.append_cases gs k) [
                | inl a ↦ i.that e (Memᴰ.tail l.this) (inside_of_next T org R (opp e) (l.inside (next (opp e)) a))
                | inr b ↦ (passes-inside s p (next (opp e)) b).from (Memᴰ.head o)
              ]
            ]

    -- all of it for the whole peeling
    module _ {R D : List ℕ} (p : Peel n T org opp R D) (sub : (g : ℕ) → g ∈ passes p → g ∈ P) (sup : (g : ℕ) → g ∈ P →
        g ∈ passes p) where
      pub found0 : (d : ℕ) → Inner T opp d → label (next d) ≡ 0 → label (opp d) ≡ 0 → d ∈ heads p
      found0 d i a b =
          let m = label_zero (next d) (next-below T d i.below) (rw (tri-next d) i.this) a in
          find0 p sub d (sup d (Memᴰ.cast (sym (prev-next d)) m)) b

      pub found1 : (d : ℕ) → Inner T opp d → label (next d) ≡ 1 → label (opp d) ≡ 1 → d ∈ lasts p
      found1 d i a b =
          let m = label-one (opp d) (s.dart d i.below) i.that b in
          let t : opp (prev (next (opp d))) ≡ d = ap opp (prev-next (opp d)) ∙ s.twice d i.below in
          Memᴰ.cast (sym t) (find1 p sub (next (opp d)) (sup (next (opp d)) m) (rw t a))

      pub found2 : (d : ℕ) → Inner T opp d → label (next d) ≡ 2 → label (opp d) ≡ 2 → d ∈ mids p
      found2 d i a b =
          let t = s.twice d i.below in
          let m = label-two (next d) (next-below T d i.below) (rw (tri-next d) i.this) a in
          let k = label-two (opp d) (s.dart d i.below) i.that b in
          Memᴰ.cast (sym t) (find2 p (λ g x. inr (sup g x)) (opp d) (sup (opp d) k) (rw t m))
