-- A vertex leaves the frontier: the invariant goes on to hold, unless v0 and v1 are all that is left, and then nothing is inside. Assumes nothing.
use Rattle.std.specs.Prelude.{ℕ, zero, suc, ◌+◌, ◌*◌, ◌<◌, ◌≡◌, refl, ◌≢◌, ◌⊎◌, List, ◌∷◌}
use Rattle.std.proofs.Common.{sym, ap, ◌∙◌, inl, inr, arith}
use mathlib.Core.List.Memᴰ
use Rattle.std.proofs.Math.Decide.{ℕ_discrete}
use Rattle.definitions.specs.Mesh.{tri, next, prev}
use Rattle.laws.specs.Chain.{Chain, stop, step}
use Rattle.laws.specs.Lists.{◌∈◌}
use Rattle.laws.specs.Edges.{dist_same}
use Rattle.theory_sphere.specs.Sphere.{Sphere, rotate}
use Rattle.theory_sphere.specs.Darts.{next-prev, prev-next, next-next, prev-prev, next-below, prev-below, tri-below, tri-outer}
use Rattle.theory_sphere.specs.Rotations.{tip-opp, org-rot, rot-below, tip-rot, rotate-none, rotate-suc, rotate-add}
use Rattle.theory_realizer.specs.Trace.{edge}
use Rattle.theory_peeling.specs.Inside.{Inside, inside?, inside-next, inside-prev, inside-tri, inside-less, inside-more, Inv, three}
use Rattle.theory_realizer.specs.Edges.{edge_is, edge-org, edge-tip, edge_behind}
use Rattle.theory_peeling.specs.Fan.{Leaves}

module _ {n T : ℕ} {org opp : ℕ → ℕ} (s : Sphere n T org opp) {R D D' gs : List ℕ} {e e' : ℕ} (v : Inv n T org opp R D)
    (l : Leaves T org opp R D e e' gs D') where
  abbrev z : ℕ
  z = opp 2

  abbrev In : ℕ → Type 0
  In = Inside T org R

  abbrev In' : ℕ → Type 0
  In' = Inside T org (org e ∷ R)

  abbrev edge_of : ℕ → ℕ
  edge_of g = edge T org opp g

  e_in : e ∈ z ∷ D
  e_in = Memᴰ.tail l.this

  e'_in : e' ∈ z ∷ D
  e'_in = Memᴰ.tail l.that

  eb' : e' < 3 * T
  eb' = (v.this e' e'_in).below

  -- what has the vertex for a corner is no longer inside, and the rest is
  gone : (d : ℕ) → org d ≡ org e → In' d → ⊥
  gone d t i = i.from (Memᴰ.head t)

  gone-next : (d : ℕ) → org (next d) ≡ org e → In' d → ⊥
  gone-next d t i = i.to (Memᴰ.head t)

  gone-prev : (d : ℕ) → org (prev d) ≡ org e → In' d → ⊥
  gone-prev d t i = i.off (Memᴰ.head t)

  shrink : (d : ℕ) → In' d → In d
  shrink = inside-less T org (org e) R

  still : (d : ℕ) → In d → org d ≢ org e → org (next d) ≢ org e → org (prev d) ≢ org e → In' d
  still = inside-more T org (org e) R

  -- a dart inside whose third corner leaves is the next dart of one of the fan
  third : (d : ℕ) → In d → org (prev d) ≡ org e → prev d ∈ gs
  third d i t = l.full (prev d) (inside-prev T org R d i) t

  -- A dart that stays inside has an opposite that is inside no longer: it is of the frontier, or it lies across from the vertex.
  parted : (d : ℕ) → In' d → (In' (opp d) → ⊥) → (d ≡ z) ⊎ (d ∈ D') ⊎ ((prev (opp d) ∈ gs) × In (opp d))
  parted d i a =
      let b = i.below in
      elim (inside? T org R (opp d)) [
        | no o ↦ elim (Memᴰ.cases_cons (v.only d (shrink d i) o)) [
          | inl t ↦ inl t
          | inr m ↦ elim (l.kept d m) [
            | inl t ↦ absurd (gone d (ap org t) i)
            | inr r ↦ elim r [ inl t ↦ absurd (gone-next d (ap (λ (x : ℕ). org (next x)) t ∙ sym l.meet) i) | inr k ↦ inr (inl k) ]
          ]
        ]
        | yes o ↦ elim (ℕ_discrete (org (prev (opp d))) (org e)) [
          | yes t ↦ inr (inr (third (opp d) o t, o))
          | no t ↦ absurd (a (still (opp d) o (λ u. gone-next d (sym (s.reverses d b) ∙ u) i) (λ u. gone d (sym (tip-opp s d b) ∙ u) i) t))
        ]
      ]

  -- ---- it goes on: the side across from the vertex in its first triangle is not the closing one

  module _ (ne : next e ≢ z) where
    edge_in : (g : ℕ) → g ∈ gs → In (edge_of g)
    edge_in g m =
        rw (edge_is T org opp g) (elim (inside? T org R (opp (next g))) [
          | yes i ↦ i
          | no a ↦ absurd (ne (l.opposite g m (v.only (next g) (inside-next T org R g (l.inside g m)) a)))
        ])

    -- The triangle behind a new dart does not have the vertex: else the vertex would have two triangles only, both inside.
    two_only : (g h : ℕ) → In g → In h → opp (prev g) ≡ h → opp (prev h) ≡ g → (k : ℕ) → In (rotate opp k g) × In (rotate opp k h)
    two_only g h a b t u zero = (rw (rotate-none opp g) a, rw (rotate-none opp h) b)
    two_only g h a b t u (suc k) = let r = two_only g h a b t u k in (rw (up g k, t) r.1, rw (up h k, u) r.0)
      where
        up : (d k : ℕ) → rotate opp (suc k) d ≡ rotate opp k (opp (prev d))
        up d k =
            let w : suc k ≡ 1 + k = omega arith in
            ap (λ (x : ℕ). rotate opp x d) w ∙ rotate-add opp 1 k d
            ∙ ap (rotate opp k) (rotate-suc opp 0 d ∙ ap (λ (x : ℕ). opp (prev x)) (rotate-none opp d))

    edge_off : (g : ℕ) → g ∈ gs → org (prev (edge_of g)) ≢ org e
    edge_off g m t =
        let x = edge_of g in
        let b = (l.inside g m).below in
        let i = edge_in g m in
        let o = l.from g m in
        let p : prev x ≡ opp (prev g) = s.once (prev x) (opp (prev g)) (prev-below T x i.below) (rot-below s g b) (t ∙ sym (org-rot s g b ∙ o))
        (ap org (next-prev x) ∙ edge-org s g b ∙ sym (tip-rot s g b)) in
        let q : next x ≡ opp g = s.once (next x) (opp g) (next-below T x i.below) (s.dart g b) (edge-tip s g b ∙ sym (s.reverses g b))
        (ap org (next-next x) ∙ t ∙ sym (tip-opp s g b ∙ o)) in
        let h : In (opp (prev g)) = rw p at (inside-prev T org R x i) in
        let u : opp (prev (opp (prev g))) ≡ g = ap (λ (y : ℕ). opp (prev y)) (sym p) ∙ ap opp (prev-prev x ∙ q) ∙ s.twice g b in
        let r = s.ring g (opp e') b (s.dart e' eb') (o ∙ l.meet ∙ sym (s.reverses e' eb')) in
        v.that e' e'_in (rw r.1 at (two_only g (opp (prev g)) (l.inside g m) h refl u r.0).0)

    edge_in' : (g : ℕ) → g ∈ gs → In' (edge_of g)
    edge_in' g m =
        let b = (l.inside g m).below in
        let o = l.from g m in
        still (edge_of g) (edge_in g m)
        (λ t. s.proper (prev g) (prev-below T g b) (sym (edge-org s g b) ∙ t ∙ sym o ∙ ap org (sym (next-prev g))))
        (λ t. s.proper g b (o ∙ sym t ∙ edge-tip s g b))
        (edge_off g m)

    old_in' : (x : ℕ) → x ∈ z ∷ D → org x ≢ org e → x ≢ e' → In' x
    old_in' x m a b =
        still x (v.this x m) a (λ t. b (l.entry x m t))
        (λ t. ne (l.opposite (prev x) (third x (v.this x m) t) (Memᴰ.cast (next-prev x) m)))

    z_not_e' : z ≢ e'
    z_not_e' t = v.apart.0 e' l.that (ap org t)

    new_this : (x : ℕ) → x ∈ z ∷ D' → In' x
    new_this x m =
        elim (Memᴰ.cases_cons m) [
          | inl t ↦ rw t (old_in' z (Memᴰ.head refl) (λ u. l.not0 (sym u)) z_not_e')
          | inr k ↦ elim (l.fresh x k) [
            | inl r ↦ rw (sym r.2) (edge_in' r.0 r.1)
            | inr r ↦ old_in' x (Memᴰ.tail r.0) (λ t. r.1 (dist_same org (z ∷ D) v.apart x e (Memᴰ.tail r.0) e_in t))
                r.2
          ]
        ]

    new_that : (x : ℕ) → x ∈ z ∷ D' → In' (opp x) → ⊥
    new_that x m i =
        elim (Memᴰ.cases_cons m) [
          | inl t ↦ v.that x (Memᴰ.head t) (shrink (opp x) i)
          | inr k ↦ elim (l.fresh x k) [
            | inl r ↦
                let g = r.0 in
                let w : opp x ≡ next g = ap opp (sym r.2 ∙ edge_is T org opp g) ∙ s.twice (next g) (next-below T g (l.inside g r.1).below) in
                gone-prev (next g) (ap org (prev-next g) ∙ l.from g r.1) (rw w at i)
            | inr r ↦ v.that x (Memᴰ.tail r.0) (shrink (opp x) i)
          ]
        ]

    new_only : (d : ℕ) → In' d → (In' (opp d) → ⊥) → d ∈ z ∷ D'
    new_only d i a =
        elim (parted d i a) [
          | inl t ↦ Memᴰ.head t
          | inr r ↦ elim r [
            | inl m ↦ Memᴰ.tail m
            | inr k ↦
                Memᴰ.tail (Memᴰ.cast (sym (edge_behind s d i.below)) (l.edges (prev (opp d)) k.0))
          ]
        ]

    new-side : (d : ℕ) → d < 3 * T → (org d ∈ org e ∷ R → ⊥) → (org (next d) ∈ org e ∷ R → ⊥) → In' d ⊎ In' (opp d)
    new-side d b p q =
        let p' : org d ≢ org e = λ t. p (Memᴰ.head t) in
        let q' : org (next d) ≢ org e = λ t. q (Memᴰ.head t) in
        elim (v.side d b (λ m. p (Memᴰ.tail m)) (λ m. q (Memᴰ.tail m))) [
          | inl i ↦ elim (ℕ_discrete (org (prev d)) (org e)) [
            | yes t ↦
                let w : edge_of (prev d) ≡ opp d = edge_is T org opp (prev d) ∙ ap opp (next-prev d) in
                inr (rw w at (edge_in' (prev d) (third d i t)))
            | no t ↦ inl (still d i p' q' t)
          ]
          | inr i ↦ elim (ℕ_discrete (org (prev (opp d))) (org e)) [
            | yes t ↦ inl (rw (edge_behind s d b) at (edge_in' (prev (opp d)) (third (opp d) i t)))
            | no t ↦ inr (still (opp d) i (λ u. q' (sym (s.reverses d b) ∙ u)) (λ u. p' (sym (tip-opp s d b) ∙ u)) t)
          ]
        ]

    new-there : (w : ℕ) → w < n → (w ∈ org e ∷ R → ⊥) → (d : ℕ) × In' d × (org d ≡ w)
    new-there w h a =
        let r = v.there w h (λ m. a (Memᴰ.tail m)) in
        let d = r.0 in
        let i = r.1 in
        elim (ℕ_discrete (org (next d)) (org e)) [
          | yes t ↦
              let m = l.full (next d) (inside-next T org R d i) t in
              (edge_of (next d), edge_in' (next d) m, edge-org s (next d) (next-below T d i.below) ∙ ap org (prev-next d) ∙ r.2)
          | no t ↦ elim (ℕ_discrete (org (prev d)) (org e)) [
            | yes u ↦ (
              next (edge_of (prev d)),
              inside-next T org (org e ∷ R) (edge_of (prev d)) (edge_in' (prev d) (third d i u)),
              edge-tip s (prev d) (prev-below T d i.below) ∙ ap org (next-prev d) ∙ r.2,
            )
            | no u ↦ (d, still d i (λ x. a (Memᴰ.head (sym r.2 ∙ x))) t u, r.2)
          ]
        ]

    -- the invariant after the vertex has left
    pub goes_on : Inv n T org opp (org e ∷ R) D'
    goes_on = record { apart = l.differ; path = l.path; this = new_this; that = new_that; only = new_only; side = new-side; there = new-there }

  -- ---- the end: v0 and v1 are all that is left

  module _ (la : next e ≡ z) where
    -- the fan is one triangle
    one_g : (g : ℕ) → g ∈ gs → g ≡ e
    one_g g m =
        let t : opp (next g) ≡ 2 = sym (edge_is T org opp g) ∙ Memᴰ.eq_of_singleton (rw (l.ends la) at (l.edges g m)) in
        let u : next g ≡ next e = sym (s.twice (next g) (next-below T g (l.inside g m).below)) ∙ ap opp t ∙ sym la in
        sym (prev-next g) ∙ ap prev u ∙ prev-next e

    not-outer : In' 2 → ⊥
    not-outer i = absurd (omega (arith, i.inner, tri-outer 2 (omega arith)))

    -- from inside nothing leads out, so nothing is inside
    closed : (d : ℕ) → In' d → In' (opp d)
    closed d i =
        elim (inside? T org (org e ∷ R) (opp d)) [
          | yes j ↦ j
          | no a ↦ elim (parted d i a) [
            | inl t ↦ absurd (gone-prev d (ap (λ (x : ℕ). org (prev x)) (t ∙ sym la) ∙ ap org (prev-next e)) i)
            | inr r ↦ elim r [
              | inl m ↦ absurd (not-outer (rw (Memᴰ.eq_of_singleton (rw (l.ends la) at m)) at i))
              | inr k ↦
                  let w : opp d ≡ z = sym (next-prev (opp d)) ∙ ap next (one_g (prev (opp d)) k.0) ∙ la in
                  absurd (not-outer (rw (sym (s.twice d i.below) ∙ ap opp w ∙ s.twice 2 (three s)) at i))
            ]
          ]
        ]

    pub empty : (d : ℕ) → In' d → ⊥
    empty d i = go (s.joined (tri d) (tri-below T d i.below)) d refl i
      where
        go : {t : ℕ} → Chain (λ d. d < 3 * T) tri (λ d. tri (opp d)) 0 t → (d : ℕ) → tri d ≡ t → In' d → ⊥
        go (stop u) d t i = absurd (omega (arith, i.inner, t ∙ u))
        go (step a b u c) d t i = go c (opp a) refl (closed a (inside-tri T org (org e ∷ R) d a (u ∙ sym t) i))

    pub left_over : (w : ℕ) → w < n → (w ∈ org e ∷ R → ⊥) → (w ≡ org z) ⊎ (w ≡ org (next z))
    left_over w h a =
        let r = v.there w h (λ m. a (Memᴰ.tail m)) in
        let d = r.0 in
        let i = r.1 in
        elim (ℕ_discrete (org (next d)) (org e)) [
          | yes t ↦
              let u : d ≡ next z = sym (prev-next d) ∙ ap prev (one_g (next d) (l.full (next d) (inside-next T org R d i) t)) ∙ sym (next-next e)
              ∙ ap next la in
              inr (sym r.2 ∙ ap org u)
          | no t ↦ elim (ℕ_discrete (org (prev d)) (org e)) [
            | yes t' ↦ inl (sym r.2 ∙ ap org (sym (next-prev d) ∙ ap next (one_g (prev d) (third d i t')) ∙ la))
            | no t' ↦ absurd (empty d (still d i (λ x. a (Memᴰ.head (sym r.2 ∙ x))) t t'))
          ]
        ]
