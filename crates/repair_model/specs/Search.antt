-- The next bad triangle, looked for by number and on the walks of the triangle last raised: the tests and steps that the code makes on scratch and
-- coordinates, that they are the definition's on a mesh packed for repair, and what a search in order finds. Assumes nothing.
use Prim.Native.Nat.{ℕ, zero, suc, ◌+◌, ◌-◌, ◌*◌, ◌/◌, ◌≤◌, ◌<◌}
use Rattle.std.specs.Prelude.{◌≡◌, ◌≢◌, Bool, true, false, cond, List, [], ◌∷◌, eqb, length, ℤ, ◌+ℤ◌}
use Rattle.std.proofs.Math.Path.{refl, sym, ap}
use Rattle.std.proofs.Common.{◌∙◌, inl, inr, arith, ne_eqb}
use Rattle.std.proofs.Math.Decide.{ℕ_discrete}
use Rattle.definitions.specs.Mesh.{triangles_length, tri, next, prev, org, opp}
use Rattle.definitions.specs.Labels.{outer, label, corner}
use Rattle.definitions.specs.Backward.{coordinate}
use Rattle.definitions.specs.Repair.{bad, raise}
use Rattle.laws.specs.Lists.{◌∈◌, tested}
use Rattle.theory_sphere.specs.Sphere.{Sphere}
use Rattle.theory_sphere.specs.Darts.{next-next, next-prev, next-below, prev-below, tri-below}
use Rattle.theory_realizer.specs.Realizer.{Realizer}
use Rattle.theory_realizer.specs.Units.{vertex_at}
use Rattle.theory_repair.specs.RegionBorders.{walk_triangles-on}
use Rattle.theory_repair.specs.AllWalks.{beyond, walk_triangles}
use Rattle.scratch_tables.specs.Tables.{Tables}
use Rattle.labels_tables.specs.Peeling.{Peeling}
use Rattle.labels_tables.specs.LabelledTables.{opposite_in, apex_dart}
use Rattle.repair_area.specs.Areas.{bad_of, raise_of, Agree, bad_of_lem, raise_of_lem}
use Rattle.scratch_tables.specs.Fields.{pack, field0, field1, field2, field0_is, field1_is, field2_is}
use Rattle.repair_model.specs.PackedWords.{walk_dart, walk_from, walk_to, walk_flags, corner_word, other_walks_word}
use Rattle.repair_model.specs.Corners.{Describes, apex_is, apex-below, origins_are, comes}
use Rattle.repair_model.specs.PreorderWords.{move_word, Preordered}

-- triangle t is bad; the raise that it asks for
unfoldable pub bad_at : Tables → List ℤ → ℕ → Bool
unfolding bad_of field0 field1 field2
bad_at S bs t = let w = S.op (3 * t + 1) in bad_of bs (field0 w) (field1 w) (field2 w)

unfoldable pub raise_at : Tables → List ℤ → ℕ → ℤ
unfolding raise_of field0 field1 field2
raise_at S bs t = let w = S.op (3 * t + 1) in raise_of bs (field0 w) (field1 w) (field2 w)

-- the next triangle on the walk of colour c, which ends in the outer one
unfoldable pub next_on : Tables → ℕ → ℕ → ℕ
unfolding field0 field1
next_on S c t = cond (eqb t 0) 0 (cond (eqb c 2) (field0 (S.op (3 * t))) (cond (eqb c 0) (field0 (S.op (3 * t + 2))) (field1 (S.op (3 * t + 2)))))

-- t, and those after it until the outer triangle, of k at most
unfoldable pub walk_on : Tables → ℕ → ℕ → ℕ → List ℕ
unfolding next_on
walk_on S c zero t = []
walk_on S c (suc k) t = elim (eqb t 0) [ true ↦ [] | false ↦ t ∷ walk_on S c k (next_on S c t) ]

pub walk_on-on : (S : Tables) (c k t : ℕ) → t ≢ 0 → walk_on S c (suc k) t ≡ t ∷ walk_on S c k (next_on S c t)
unfolding walk_on
walk_on-on S c k t d = ap (λ (x : Bool). elim x [ true ↦ [] | false ↦ t ∷ walk_on S c k (next_on S c t) ]) (ne_eqb t 0 d)

-- r is the first number from a on, and below b, that passes the test; b, if none does
pub record Found (p : ℕ → Bool) (a b r : ℕ) : Type 0 where
  pub least : a ≤ r
  pub most : r ≤ b
  pub before : (i : ℕ) → a ≤ i → i < r → p i ≡ false
  pub hit : r < b → p r ≡ true

-- what a search after a raise of t finds: on its walks no triangle from `full` on and below `low` is bad, and r is the first bad one from `low` on
pub record Next (S : Tables) (bs : List ℤ) (full t to r : ℕ) : Type 0 where
  pub low : ℕ
  pub low_least : full ≤ low
  pub low_most : low ≤ t
  pub clear : (c : ℕ) → c < 3 → (g : ℕ) → g ∈ walk_on S c to t → full ≤ g → g < low → bad_at S bs g ≡ false
  pub found : Found (bad_at S bs) low to r

-- ---- the walks

-- steps that are the definition's make the same walk
pub other_walks_are : (ts ls : List ℕ) (S : Tables) (c : ℕ) → ((u : ℕ) → 0 < u → u < length ts / 3 → next_on S c u ≡ beyond ts ls c u) →
    ((u : ℕ) → 0 < u → u < length ts / 3 → beyond ts ls c u < length ts / 3) → (k t : ℕ) → t < length ts / 3 →
    walk_on S c k t ≡ walk_triangles ts ls c k t
unfolding walk_on walk_triangles
other_walks_are ts ls S c same stay zero t h = refl
other_walks_are ts ls S c same stay (suc k) t h =
    elim (ℕ_discrete t 0) [
      | yes z ↦ rw z
      | no z ↦
          let p : 0 < t = omega arith in
          walk_on-on S c k t z ∙ ap (λ (u : ℕ). t ∷ walk_on S c k u) (same t p h)
          ∙ ap (λ (us : List ℕ). t ∷ us) (other_walks_are ts ls S c same stay k (beyond ts ls c t) (stay t p h)) ∙ sym (walk_triangles-on ts ls c k t z)
    ]

-- the lowest part of a word, whatever stands above it
lowest : (a b c d w : ℕ) → w ≡ pack a b c d → a < 65536 → field0 w ≡ a
unfolding field0 pack
lowest a b c d w e h = omega arith

-- where the colour-2 walk goes, whichever subtree its word tells of
move_to : (T : Peeling) (from0 size0 from1 size1 : ℕ → ℕ) (t w : ℕ) → tri (walk_dart T t) < 65536 → w ≡ move_word T from0 size0 from1 size1 t →
    field0 w ≡ tri (walk_dart T t)
unfolding move_word
move_to T from0 size0 from1 size1 t w l e =
    let o = tri (walk_dart T t) in
    let a = walk_from T t in
    let b = walk_to T t in
    let f = walk_flags T t in
    elim (tested (eqb f 1)) [
      | inl p ↦ lowest o (from0 a) (size0 a) 1 w (e ∙ rw p) l
      | inr p ↦
          elim (tested (eqb f 2)) [
            | inl q ↦ lowest o (from1 b) (size1 b) 2 w (e ∙ rw (p, q)) l
            | inr q ↦ lowest o a b f w (e ∙ rw (p, q)) l
          ]
    ]

-- ---- on a mesh whose words are packed

module _ (n : ℕ) (ts ls : List ℕ) (T : Peeling) (S : Tables) (most : n ≤ 4096) (size : length ts ≡ triangles_length n)
    (sph : Sphere n (length ts / 3) (org ts) (opp ts)) (R : Realizer n (length ts / 3) (org ts) (opp ts) (label ls) (outer ts)) (D : Describes ts ls T)
    (P : Preordered n T S) (t : ℕ) (h : 0 < t) (k : t < 2 * n - 4) where
  whole : length ts ≡ 3 * (length ts / 3)
  whole = omega (arith, size)

  inside : t < length ts / 3
  inside = omega (arith, size)

  abbrev g : ℕ
  g = apex_dart T t

  corners-at : (corner ls t 2 ≡ g) × (corner ls t 0 ≡ next g) × (corner ls t 1 ≡ prev g)
  corners-at = apex_is ts ls sph whole R T D t h inside

  below : (g < 3 * (length ts / 3)) × (next g < 3 * (length ts / 3)) × (prev g < 3 * (length ts / 3))
  below =
      let b = (apex-below ts ls sph whole R T D t h inside).below in
      (b, next-below (length ts / 3) g b, prev-below (length ts / 3) g b)

  -- the triangles beyond it
  beyond_are : (beyond ts ls 0 t ≡ tri (opp ts (prev g))) × (beyond ts ls 1 t ≡ tri (opp ts g)) × (beyond ts ls 2 t ≡ tri (opp ts (next g)))
  unfolding beyond
  beyond_are = rw (corners-at.0, corners-at.1, corners-at.2, next-next g, next-prev g) (refl, refl, refl)

  -- as the words tell them
  across_are : (T.turn g ≡ opp ts (prev g)) × (T.turn (next g) ≡ opp ts g) × (walk_dart T t ≡ opp ts (next g))
  unfolding opposite_in
  across_are = (
    ap T.turn (sym (next-prev g)) ∙ D.opposites (prev g) (omega (arith, below, whole)),
    D.opposites g (omega (arith, below, whole)),
    comes ts ls sph whole R T D t h inside,
  )

  across_few : (d : ℕ) → d < 3 * (length ts / 3) → tri (opp ts d) < 65536
  across_few d b = omega (arith, tri-below (length ts / 3) (opp ts d) (sph.dart d b), size)

  inner : t ≢ 0
  inner z = absurd (omega (arith, h, z))

  other_walks_lem : S.op (3 * t + 2) ≡ pack (tri (opp ts (prev g))) (tri (opp ts g)) 0 0
  unfolding other_walks_word
  other_walks_lem = P.walks_packed.other_walks t h k ∙ rw (across_are.0, across_are.1)

  -- the words lead there
  pub next_is : (c : ℕ) → c < 3 → next_on S c t ≡ beyond ts ls c t
  unfolding next_on
  next_is zero b =
      rw (ne_eqb t 0 inner)
      (lowest (tri (opp ts (prev g))) (tri (opp ts g)) 0 0 (S.op (3 * t + 2)) other_walks_lem (across_few (prev g) below.2) ∙ sym beyond_are.0)
  next_is (suc zero) b =
      rw (ne_eqb t 0 inner)
      (field1_is (tri (opp ts (prev g))) (tri (opp ts g)) 0 0 (S.op (3 * t + 2)) other_walks_lem (across_few (prev g) below.2) (across_few g below.0)
      (omega arith)
      ∙ sym beyond_are.1)
  next_is (suc (suc zero)) b =
      rw (ne_eqb t 0 inner)
      (move_to T P.from0 P.size0 P.from1 P.size1 t (S.op (3 * t)) (rw across_are.2 (across_few (next g) below.1)) (P.moves t h k)
      ∙ ap tri across_are.2 ∙ sym beyond_are.2)
  next_is (suc (suc (suc c))) b = absurd (omega arith)

  -- the vertices at its corners
  corner-word : S.op (3 * t + 1) ≡ pack (org ts (next g)) (org ts (prev g)) (org ts g) 0
  unfolding corner_word
  corner-word = let e = origins_are ts ls sph whole R T D t h inside in P.corners t h k ∙ rw (e.0, e.1, e.2)

  pub corners_are :
      (field0 (S.op (3 * t + 1)) ≡ vertex_at ts ls t 0) × (field1 (S.op (3 * t + 1)) ≡ vertex_at ts ls t 1)
      × (field2 (S.op (3 * t + 1)) ≡ vertex_at ts ls t 2)
  corners_are =
      let w = S.op (3 * t + 1) in
      let e = corner-word in
      let p = org ts (next g) in
      let q = org ts (prev g) in
      let r = org ts g in
      let hp : p < 65536 = omega (arith, sph.vertex (next g) below.1, most) in
      let hq : q < 65536 = omega (arith, sph.vertex (prev g) below.2, most) in
      let hr : r < 65536 = omega (arith, sph.vertex g below.0, most) in (
        field0_is p q r 0 w e hp hq hr ∙ sym (ap (org ts) corners-at.1),
        field1_is p q r 0 w e hp hq hr ∙ sym (ap (org ts) corners-at.2),
        field2_is p q r 0 w e hp hq hr ∙ sym (ap (org ts) corners-at.0),
      )

  -- Coordinates bs of which only the first two are those of bs' tell whether it is bad, and its raise.
  module _ (bs bs' : List ℤ) (same : (a : ℕ) → a < 3 → Agree bs bs' (vertex_at ts ls t a)) where
    pub bad_is : bad_at S bs t ≡ bad ts ls bs' t
    unfolding bad_at
    bad_is = let c = corners_are in rw (c.0, c.1, c.2) (bad_of_lem ts ls bs bs' t same)

    pub raise_is : (N : ℤ) →
        ((a : ℕ) → a < 3 → coordinate bs' 0 (vertex_at ts ls t a) +ℤ coordinate bs' 1 (vertex_at ts ls t a) +ℤ coordinate bs' 2
        (vertex_at ts ls t a) ≡ N) →
        raise_at S bs t ≡ raise ts ls bs' t
    unfolding raise_at
    raise_is N total = let c = corners_are in rw (c.0, c.1, c.2) (raise_of_lem ts ls bs bs' N t same total)
