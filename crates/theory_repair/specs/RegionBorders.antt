-- A triangle whose corners are not all in one region of u is on one of the three walks of u. Assumes nothing.
-- The walk of colour c goes between the two other regions: each of its triangles is left from one of them to the other, and entered nowhere else.
use Rattle.std.specs.Prelude.{ℕ, zero, suc, ◌*◌, ◌/◌, ◌<◌, ◌≡◌, ◌≢◌, ◌⊎◌, List, ◌∷◌, length}
use Rattle.std.proofs.Math.Path.{refl, sym, ap}
use Rattle.std.proofs.Common.{◌∙◌, arith, ne_eqb}
use Rattle.std.proofs.Math.Logic.{inl, inr}
use mathlib.Core.List.Memᴰ
use Rattle.std.proofs.Math.Decide.{ℕ_discrete}
use Rattle.definitions.specs.Mesh.{triangles_length, tri, next, org, opp}
use Rattle.definitions.specs.Labels.{outer, label, corner}
use Rattle.laws.specs.Lists.{◌∈◌}
use Rattle.laws.specs.Chain.{Chain, stop, step}
use Rattle.theory_sphere.specs.Sphere.{Sphere}
use Rattle.theory_sphere.specs.Darts.{tri-next, next-prev, next-below, tri-below, below-tri, same-tri}
use Rattle.theory_sphere.specs.Rotations.{tip-opp}
use Rattle.theory_realizer.specs.Realizer.{Realizer}
use Rattle.theory_realizer.specs.Units.{unit0, unit1, vertex_at}
use Rattle.theory_crossings.specs.UnitMaps.{units}
use Rattle.theory_repair.specs.AllWalks.{beyond, walk_triangles}
use Rattle.theory_repair.specs.Regions.{region, often, up, InnerTri, region-below, region-units, gather, own, often-below, often_most, corner-tri}
use Rattle.theory_repair.specs.Regions.{corner-next, some_corner}

-- x c is the region of the corner with label c. Where a region that a corner is in is also that of the corner with its label, and no two corners are in the
-- regions of their labels, all three are in one.
one-region : (x : ℕ → ℕ) → ((c : ℕ) → x c < 3) → ((c e : ℕ) → c < 3 → e < 3 → x e ≡ c → x c ≡ c) →
    ((c : ℕ) → c < 3 → x (up c) ≡ up c → x (up (up c)) ≡ up (up c) → ⊥) → (c : ℕ) → c < 3 → x c ≡ x 0
one-region x below most two c l =
    elim (ℕ_discrete (x c) (x 0)) [
      | yes e ↦ e
      | no d ↦
          elim (ℕ_discrete (up (x c)) (x 0)) [
            | yes e ↦ absurd (pair (x c) (x 0) (below c) e (kept c l) (kept 0 (omega arith)))
            | no e ↦ absurd (pair (x 0) (x c) (below 0) (omega (arith, below c, below 0)) (kept 0 (omega arith)) (kept c l))
          ]
    ]
  where
    kept : (c : ℕ) → c < 3 → x (x c) ≡ x c
    kept c l = most (x c) c (below c) l refl

    pair : (a b : ℕ) → a < 3 → up a ≡ b → x a ≡ a → x b ≡ b → ⊥
    pair a b l e p q =
        let f : up (up (up a)) ≡ a = omega arith in
        two (up (up a)) (omega arith) (rw f p) (rw (f, e) q)

-- a step of a walk
pub walk_triangles-on : (ts ls : List ℕ) (c k t : ℕ) → t ≢ 0 → walk_triangles ts ls c (suc k) t ≡ t ∷ walk_triangles ts ls c k (beyond ts ls c t)
unfolding walk_triangles
walk_triangles-on ts ls c k t z = rw (ne_eqb t 0 z, walk_triangles)

-- the ends of the side that the walk of colour c leaves t by are in the regions of their labels
record Split (n : ℕ) (ts ls : List ℕ) (u c t : ℕ) : Type 0 where
  inside : InnerTri ts t
  first : region n ts ls u (vertex_at ts ls t (up c)) ≡ up c
  second : region n ts ls u (vertex_at ts ls t (up (up c))) ≡ up (up c)

-- dart d leads from the second of those regions to the first
record Entry (n : ℕ) (ts ls : List ℕ) (u c d : ℕ) : Type 0 where
  from : region n ts ls u (org ts d) ≡ up (up c)
  to : region n ts ls u (org ts (next d)) ≡ up c

module _ {n : ℕ} (ts ls : List ℕ) (sph : Sphere n (length ts / 3) (org ts) (opp ts)) (size : length ts ≡ triangles_length n)
    (R : Realizer n (length ts / 3) (org ts) (opp ts) (label ls) (outer ts)) where
  -- the dart that the walk of colour c leaves t by
  door_below : (c t : ℕ) → c < 3 → InnerTri ts t → next (corner ls t c) < 3 * (length ts / 3)
  door_below c t l h =
      next-below (length ts / 3) (corner ls t c) (below-tri (length ts / 3) (corner ls t c) (omega (arith, corner-tri ts ls sph size R t c h l)))

  -- a walk goes from triangle to triangle
  pub beyond-below : (c t : ℕ) → c < 3 → 0 < t → t < length ts / 3 → beyond ts ls c t < length ts / 3
  unfolding beyond
  beyond-below c t l z h =
      tri-below (length ts / 3) (opp ts (next (corner ls t c))) (sph.dart (next (corner ls t c)) (door_below c t l (z, h)))

  -- the ends of its side, seen from beyond
  ends : (c t : ℕ) → c < 3 → InnerTri ts t →
      (org ts (opp ts (next (corner ls t c))) ≡ vertex_at ts ls t (up (up c))) × (org ts (next (opp ts (next (corner ls t c)))) ≡ vertex_at ts ls t (up c))
  ends c t l h =
      let d = next (corner ls t c) in
      let k = door_below c t l h in
      let a : corner ls t (up c) ≡ d = corner-next ts ls sph size R t c h l in
      let b : corner ls t (up (up c)) ≡ next d = corner-next ts ls sph size R t (up c) h (omega arith) ∙ ap next a in
      (sph.reverses d k ∙ ap (org ts) (sym b), tip-opp sph d k ∙ ap (org ts) (sym a))

  module _ (u c : ℕ) (hu : InnerTri ts u) (hc : c < 3) where
    -- ---- a step of the walk

    -- a split triangle leads into the next by an entry
    entry : (t : ℕ) → Split n ts ls u c t → Entry n ts ls u c (opp ts (next (corner ls t c)))
    entry t s =
        let e = ends c t hc s.inside in
        record { from = ap (region n ts ls u) e.0 ∙ s.second; to = ap (region n ts ls u) e.1 ∙ s.first }

    -- a triangle has one entry
    entry_only : (d e : ℕ) → Entry n ts ls u c d → Entry n ts ls u c e → tri d ≡ tri e → d ≡ e
    entry_only d e p q t =
        elim (same-tri d e t) [
          | inl i ↦ sym i
          | inr (inl i) ↦ absurd (omega (arith, p.to, q.from, ap (λ (d : ℕ). region n ts ls u (org ts d)) i))
          | inr (inr i) ↦ absurd (omega (arith, p.from, q.to, ap (λ (d : ℕ). region n ts ls u (org ts d)) (ap next i ∙ next-prev d)))
        ]

    door_tri : (t : ℕ) → Split n ts ls u c t → tri (next (corner ls t c)) ≡ t
    door_tri t s = tri-next (corner ls t c) ∙ corner-tri ts ls sph size R t c s.inside hc

    -- so that two walks come together nowhere
    apart : (s t : ℕ) → Split n ts ls u c s → Split n ts ls u c t → beyond ts ls c s ≡ beyond ts ls c t → s ≡ t
    unfolding beyond
    apart s t p q e =
        let a = next (corner ls s c) in
        let b = next (corner ls t c) in
        let same = entry_only (opp ts a) (opp ts b) (entry s p) (entry t q) e in
        let back = sph.twice a (door_below c s hc p.inside) in
        let forth = sph.twice b (door_below c t hc q.inside) in
        sym (door_tri s p) ∙ ap tri (sym back ∙ ap (opp ts) same ∙ forth) ∙ door_tri t q

    -- a triangle with an entry is split
    entered : (t d : ℕ) → InnerTri ts t → tri d ≡ t → Entry n ts ls u c d → Split n ts ls u c t
    entered t d h e p =
        let a = some_corner ts ls sph size R t d h e in
        let b = some_corner ts ls sph size R t (next d) h (tri-next d ∙ e) in
        record {
          inside = h;
          first = gather ts ls sph size R u t (up c) b.0 hu h (omega arith) b.1 (rw b.2 p.to);
          second = gather ts ls sph size R u t (up (up c)) a.0 hu h (omega arith) a.1 (rw a.2 p.from);
        }

    -- so is the next triangle
    onward : (t : ℕ) → Split n ts ls u c t → beyond ts ls c t ≢ 0 → Split n ts ls u c (beyond ts ls c t)
    unfolding beyond
    onward t s z =
        let b = beyond-below c t hc s.inside.0 s.inside.1 in
        entered (beyond ts ls c t) (opp ts (next (corner ls t c))) (omega arith) refl (entry t s)

    -- no walk comes into u
    unentered : (t : ℕ) → Split n ts ls u c t → beyond ts ls c t ≢ u
    unfolding beyond
    unentered t s e =
        let d = opp ts (next (corner ls t c)) in
        let p = entry t s in
        let a = some_corner ts ls sph size R u d hu e in
        let x = own ts ls sph size R u a.0 hu a.1 in
        let y = own ts ls sph size R u (up a.0) hu (omega arith) in
        let x' = ap (λ (d : ℕ). region n ts ls u (org ts d)) a.2 in
        let y' = ap (λ (d : ℕ). region n ts ls u (org ts d)) (corner-next ts ls sph size R u a.0 hu a.1 ∙ ap next a.2) in
        omega (arith, x, y, x', y', p.from, p.to, a.1)

    -- walks end: the corner with label c is in region c of ever fewer triangles
    abbrev measure : ℕ → ℕ
    measure t = often n ts ls c (vertex_at ts ls t c)

    falls : (t : ℕ) → Split n ts ls u c t → beyond ts ls c t ≢ 0 → measure (beyond ts ls c t) < measure t
    unfolding beyond
    falls t s z =
        let e = opp ts (next (corner ls t c)) in
        let o = ends c t hc s.inside in
        let s' = onward t s z in
        let k = corner ls (beyond ts ls c t) c in
        let most : (a : ℕ) → a < 3 → a ≢ c → org ts k ≡ vertex_at ts ls t a → measure (beyond ts ls c t) < measure t =
        λ a l d q. rw q (often_most ts ls sph size R t c a s.inside hc l d) in
        elim (same-tri e k (sym (corner-tri ts ls sph size R (beyond ts ls c t) c s'.inside hc))) [
          | inl i ↦ most (up (up c)) (omega arith) (omega arith) (ap (org ts) i ∙ o.0)
          | inr (inl i) ↦ most (up c) (omega arith) (omega arith) (ap (org ts) i ∙ o.1)
          | inr (inr i) ↦
              let q = corner-next ts ls sph size R (beyond ts ls c t) c s'.inside hc ∙ ap next i ∙ next-prev e in
              absurd (omega (arith, s'.first, (entry t s).from, ap (λ (d : ℕ). region n ts ls u (org ts d)) q))
        ]

    -- ---- the whole walk

    -- s is on the walk of t, through split triangles
    abbrev On : ℕ → ℕ → Type 0
    On s t = Chain (Split n ts ls u c) (λ t. t) (beyond ts ls c) s t

    -- the last triangle of all walks is the same
    ending : (k s t : ℕ) → Split n ts ls u c s → Split n ts ls u c t → beyond ts ls c s ≡ 0 → measure t < k → On s t
    ending zero s t p q z h = absurd (omega arith)
    ending (suc k) s t p q z h =
        elim (ℕ_discrete (beyond ts ls c t) 0) [
          | yes y ↦ stop (apart t s q p (y ∙ sym z))
          | no y ↦ step t q refl (ending k s (beyond ts ls c t) p (onward t q y) z (omega (arith, falls t q y)))
        ]

    -- what comes before a triangle of a walk is on the walk, or the triangle is its first
    back : (s : ℕ) {t : ℕ} → Split n ts ls u c s → On (beyond ts ls c s) t → (beyond ts ls c s ≡ t) ⊎ On s t
    back s p (stop e) = inl (sym e)
    back s p (step d q e w) =
        elim (back s p w) [
          | inl i ↦ inr (stop (sym e ∙ sym (apart s d p q i)))
          | inr v ↦ inr (step d q e v)
        ]

    -- of two split triangles one is on the walk of the other
    meet : (k s t : ℕ) → Split n ts ls u c s → Split n ts ls u c t → measure s < k → On s t ⊎ On t s
    meet zero s t p q h = absurd (omega arith)
    meet (suc k) s t p q h =
        elim (ℕ_discrete (beyond ts ls c s) 0) [
          | yes z ↦ inl (ending (length ts / 3) s t p q z (often-below ts ls sph size R c (vertex_at ts ls t c)))
          | no z ↦
              elim (meet k (beyond ts ls c s) t (onward s p z) q (omega (arith, falls s p z))) [
                | inl w ↦ elim (back s p w) [ inl e ↦ inr (step s p refl (stop e)) | inr v ↦ inl v ]
                | inr w ↦ inr (step s p refl w)
              ]
        ]

    -- u is only on its own
    alone : {t : ℕ} → On u t → t ≡ u
    alone (stop e) = e
    alone (step d q e w) = absurd (unentered d q (alone w))

    -- u is split, in each colour
    own_split : Split n ts ls u c u
    own_split =
        record {
          inside = hu;
          first = own ts ls sph size R u (up c) hu (omega arith);
          second = own ts ls sph size R u (up (up c)) hu (omega arith);
        }

    -- no walk goes on from the outer triangle
    on-inner : {s t : ℕ} → Split n ts ls u c s → On s t → t ≢ 0
    on-inner p (stop e) z = omega (arith, p.inside, e, z)
    on-inner p (step d q e w) z = omega (arith, q.inside, e, z)

    -- the list has the whole walk: its length is enough
    on-walk : {s t : ℕ} (k : ℕ) → Split n ts ls u c s → On s t → measure t < k → s ∈ walk_triangles ts ls c k t
    on-walk zero p w h = absurd (omega arith)
    on-walk {s} {t} (suc k) p (stop e) h = rw (walk_triangles-on ts ls c k t (on-inner p (stop e))) (Memᴰ.head (sym e))
    on-walk {s} {t} (suc k) p (step d q e w) h =
        let f = falls d q (on-inner p w) in
        let m = ap measure e in
        rw (← e, walk_triangles-on ts ls c k d (on-inner q (stop refl))) (Memᴰ.tail (on-walk {t = beyond ts ls c d} k p w (omega arith)))

    -- all split triangles are on u's walk
    split_walk : (g : ℕ) → Split n ts ls u c g → g ∈ walk_triangles ts ls c (length ts / 3) u
    split_walk g p =
        let w : On g u =
        elim (meet (length ts / 3) g u p own_split (often-below ts ls sph size R c (vertex_at ts ls g c))) [ inl w ↦ w | inr w ↦ stop (sym (alone w)) ] in
        on-walk (length ts / 3) p w (often-below ts ls sph size R c (vertex_at ts ls u c))

  -- A triangle off the three walks of u has all of its corners in one region of u.
  pub off_walks : (u g : ℕ) → 0 < u → u < length ts / 3 → 0 < g → g < length ts / 3 →
      ((c : ℕ) → c < 3 → g ∈ walk_triangles ts ls c (length ts / 3) u → ⊥) →
      (c : ℕ) → c < 3 →
      (unit0 n ts ls u (vertex_at ts ls g c) ≡ unit0 n ts ls u (vertex_at ts ls g 0))
      × (unit1 n ts ls u (vertex_at ts ls g c) ≡ unit1 n ts ls u (vertex_at ts ls g 0))
  off_walks u g zu hu zg hg off c l =
      let U = units ts ls sph size R in
      let same =
      one-region (λ c. region n ts ls u (vertex_at ts ls g c)) (λ c. region-below ts ls sph size R u (vertex_at ts ls g c))
      (λ c e hc he q. gather ts ls sph size R u g c e (zu, hu) (zg, hg) hc he q)
      (λ c h p q. off c h (split_walk u c (zu, hu) h g (record { inside = (zg, hg); first = p; second = q }))) c l in
      region-units ts ls sph size R u (vertex_at ts ls g c) (vertex_at ts ls g 0) (zu, hu) (U.below g c zg hg l) (U.below g 0 zg hg (omega arith)) same
