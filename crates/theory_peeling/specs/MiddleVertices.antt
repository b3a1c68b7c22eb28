-- The vertices between the two neighbours of a vertex that leaves: each vertex but v0, v1 and v2 is one of them, once. Assumes nothing.
use Rattle.std.specs.Prelude.{ℕ, ◌<◌, ◌≡◌, refl, ◌≢◌}
use Rattle.std.proofs.Math.Path.{sym, ap}
use Rattle.std.proofs.Common.{◌∙◌}
use Rattle.std.proofs.Math.Logic.{inl, inr}
use mathlib.Core.List.Memᴰ
use mathlib.Core.List.{List, [], ◌∷◌, ◌++◌, map}
use Rattle.definitions.specs.Mesh.{next, prev}
use Rattle.laws.specs.Lists.{◌∈◌, dec_in}
use Rattle.laws.specs.Counting.{Distinct, distinct_head, distinct_tail}
use Rattle.laws.specs.Edges.{Dist, dist_append}
use Rattle.theory_sphere.specs.Sphere.{Sphere}
use Rattle.theory_sphere.specs.Darts.{prev-next}
use Rattle.theory_sphere.specs.Rotations.{tip-opp, opp-rot}
use Rattle.theory_realizer.specs.Trace.{edge}
use Rattle.theory_peeling.specs.Inside.{Inside, inside-next, inside-prev, inside-less, Inv, tip_opp2}
use Rattle.theory_realizer.specs.Edges.{edge-org}
use Rattle.theory_peeling.specs.Fan.{Leaves}
use Rattle.theory_peeling.specs.Peel.{Peel, over, step, rest, mids, fan_shape}

module _ {n T : ℕ} {org opp : ℕ → ℕ} (s : Sphere n T org opp) where
  module _ {R D D' gs : List ℕ} {e e' : ℕ} (v : Inv n T org opp R D) (l : Leaves T org opp R D e e' gs D') where
    -- the darts of the fan but the first: the inside is on both of their sides
    pub rest_in : (g : ℕ) → g ∈ rest gs → (g ∈ gs) × Inside T org R (opp g)
    rest_in g m =
        let t = fan_shape l.fan in
        let k : g ∈ gs = rw t (Memᴰ.tail m) in
        (k, elim (l.prior g k) [ inl u ↦ absurd (distinct_head (rw t at l.distinct) (Memᴰ.cast (sym u) m)) | inr i ↦ i ])

    pub in_rest : (g : ℕ) → g ∈ gs → Inside T org R (opp g) → g ∈ rest gs
    in_rest g m i =
        elim (Memᴰ.cases_cons (rw (fan_shape l.fan) at m)) [
          | inl t ↦ absurd (v.that e (Memᴰ.tail l.this) (rw t at i))
          | inr k ↦ k
        ]

    -- the dart before such a dart in the fan
    pub before_in : (g : ℕ) → g ∈ gs → Inside T org R (opp g) → next (opp g) ∈ gs
    before_in g m i = l.full (next (opp g)) (inside-next T org R (opp g) i) (tip-opp s g (l.inside g m).below ∙ l.from g m)

  pub mids_apart : {R D : List ℕ} (p : Peel n T org opp R D) (u : ℕ) → u ∈ mids p
      → Inside T org R u × Inside T org R (opp u) × ((x : ℕ) → x ∈ opp 2 ∷ D → org u ≢ org x)
  unfolding mids
  mids_apart (over a b) u m = absurd (Memᴰ.not-nil m)
  mids_apart {R} (step {D = D} {D' = E} e e' gs v l p) u m =
      elim (Memᴰ.append_cases (map opp (rest gs)) m) [
        | inl k ↦
            let r = Memᴰ.of_map opp (rest gs) k in
            let g = r.0 in
            let q = rest_in v l g r.1 in
            let b = (l.inside g q.0).below in
            rw (sym r.2, s.twice g b) (q.1, l.inside g q.0, λ x y t. l.apart g q.0 q.1 x y (sym (s.reverses g b) ∙ t))
        | inr k ↦
            let r = mids_apart p u k in
            (inside-less T org (org e) R u r.0, inside-less T org (org e) R (opp u) r.1, old r)
      ]
    where
      old : Inside T org (org e ∷ R) u × Inside T org (org e ∷ R) (opp u) × ((x : ℕ) → x ∈ opp 2 ∷ E → org u ≢ org x) → (x : ℕ) →
          x ∈ opp 2 ∷ D → org u ≢ org x
      old r x y t =
          elim (Memᴰ.cases_cons y) [
            | inl a ↦ r.2 x (Memᴰ.head a) t
            | inr k ↦ elim (l.kept x k) [
              | inl a ↦ r.0.from (Memᴰ.head (t ∙ ap org a))
              | inr q ↦ elim q [
                | inl a ↦
                    let f = l.final in
                    r.2 (edge T org opp f.0) (Memᴰ.tail (l.edges f.0 f.1)) (t ∙ ap org a ∙ ap org (sym f.2)
                    ∙ sym (edge-org s f.0 (l.inside f.0 f.1).below))
                | inr b ↦ r.2 x (Memᴰ.tail b) t
              ]
            ]
          ]

  pub mids_dist : {R D : List ℕ} (p : Peel n T org opp R D) → Dist org (mids p)
  unfolding mids
  mids_dist (over a b) = tt
  mids_dist {R} (step e e' gs v l p) =
      dist_append org (map opp (rest gs)) (mids p) (own (rest gs) (rest_in v l) (distinct_tail (rw (fan_shape l.fan) at l.distinct))) (mids_dist p)
      (λ x y m k t.
      let r = Memᴰ.of_map opp (rest gs) m in
      let g = r.0 in
      let q = rest_in v l g r.1 in
      let h = next (opp g) in
      let w = before_in v l g q.0 q.1 in
      (mids_apart p y k).2 (edge T org opp h) (Memᴰ.tail (l.edges h w))
      (sym t ∙ ap org (sym r.2) ∙ ap org (sym (prev-next (opp g))) ∙ sym (edge-org s h (l.inside h w).below)))
    where
      own : (hs : List ℕ) → ((g : ℕ) → g ∈ hs → (g ∈ gs) × Inside T org R (opp g)) → Distinct hs → Dist org (map opp hs)
      own [] a d = tt
      own (g ∷ hs) a d = (
        λ y m t.
            let r = Memᴰ.of_map opp hs m in
            let h = r.0 in
            let gm = (a g (Memᴰ.head refl)).0 in
            let hm = (a h (Memᴰ.tail r.1)).0 in
            let b = (l.inside g gm).below in
            let c = (l.inside h hm).below in
            distinct_head d (Memᴰ.cast (s.once g h b c (l.from g gm ∙ sym (l.from h hm)) (sym (s.reverses g b) ∙ t ∙ ap org (sym r.2)
            ∙ s.reverses h c)) r.1),
        own hs (λ h m. a h (Memᴰ.tail m)) (distinct_tail d),
      )

  pub mids-all : {R D : List ℕ} (p : Peel n T org opp R D) (w : ℕ) → w < n → (w ∈ R → ⊥) → ((x : ℕ) → x ∈ opp 2 ∷ D → org x ≢ w)
      → (u : ℕ) × (u ∈ mids p) × (org u ≡ w)
  unfolding mids
  mids-all (over a b) w h n out =
      elim (b w h n) [
        | inl t ↦ absurd (out (opp 2) (Memᴰ.head refl) (sym t))
        | inr t ↦ absurd (out 2 (Memᴰ.tail (Memᴰ.head refl)) (sym (tip_opp2 s) ∙ sym t))
      ]
  mids-all {R} (step {D = D} {D' = E} e e' gs v l p) w h n out = go (dec_in w (map org E)) (mids-all p w h stays)
    where
      stays : w ∈ org e ∷ R → ⊥
      stays m = elim (Memᴰ.cases_cons m) [ inl t ↦ out e (Memᴰ.tail l.this) (sym t) | inr k ↦ n k ]

      new : (x : ℕ) → x ∈ E → org x ≡ w → (u : ℕ) × (u ∈ map opp (rest gs) ++ mids p) × (org u ≡ w)
      new x m t =
          elim (l.fresh x m) [
            | inr k ↦ absurd (out x (Memᴰ.tail k.0) t)
            | inl r ↦
                let g = r.0 in
                let b = (l.inside g r.1).below in
                let o : org (prev g) ≡ w = sym (edge-org s g b) ∙ ap org r.2 ∙ t in
                elim (l.onward g r.1) [
                  | inl k ↦ (
                    prev g,
                    Memᴰ.append_left (mids p) (Memᴰ.cast (sym (opp-rot s g b))
                        (Memᴰ.map opp (in_rest v l (opp (prev g)) k (rw (opp-rot s g b) (inside-prev T org R g (l.inside g r.1)))))),
                    o,
                  )
                  | inr k ↦
                      let b' = (v.this e' (Memᴰ.tail l.that)).below in
                      absurd (out e' (Memᴰ.tail l.that) (ap org (sym (s.twice e' b') ∙ ap opp (sym k) ∙ opp-rot s g b) ∙ o))
                ]
          ]

      go : Dec (w ∈ map org E) → (((x : ℕ) → x ∈ opp 2 ∷ E → org x ≢ w) → (u : ℕ) × (u ∈ mids p) × (org u ≡ w)) → (u : ℕ)
          × (u ∈ map opp (rest gs) ++ mids p) × (org u ≡ w)
      go (yes m) ih = let r = Memᴰ.of_map org E m in new r.0 r.1 r.2
      go (no a) ih =
          let r = ih (λ x m t. elim (Memᴰ.cases_cons m) [
            | inl u ↦ out x (Memᴰ.head u) t
            | inr k ↦
                a (Memᴰ.cast (sym t) (Memᴰ.map org k))
          ]) in
          (r.0, Memᴰ.append_right (map opp (rest gs)) r.1, r.2)
