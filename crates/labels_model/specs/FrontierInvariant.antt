-- The vertices of a frontier: which they are, the frontier neighbours that each has, and what the tables hold of a peeling that stands there.
-- Assumes nothing.
use Prim.Native.Nat.{ℕ, ◌*◌, ◌/◌, ◌<◌}
use Rattle.std.specs.Prelude.{◌≡◌, refl, ◌≢◌, true, false, ◌&&◌, List, [], ◌∷◌, ◌++◌, map}
use Rattle.std.proofs.Common.{sym, ◌∙◌, inl, inr}
use Rattle.std.proofs.Math.Path.{ap}
use Rattle.std.proofs.Math.Bool.{Bool, not}
use mathlib.Core.List.Memᴰ
use Rattle.std.proofs.Math.ListN.{length, length-map}
use Rattle.definitions.specs.Lists.{filter, elem}
use Rattle.definitions.specs.Mesh.{next, org, tip, opp, outgoing}
use Rattle.definitions.specs.Labels.{frontier_neighbours}
use Rattle.laws.specs.Lists.{◌∈◌, tested, elem-true, true-elem, false-elem, in_split, filter_same}
use Rattle.laws.specs.Edges.{Dist}
use Rattle.laws.specs.Mapped.{filter_map}
use Rattle.theory_sphere.specs.Sphere.{Sphere}
use Rattle.theory_peeling.specs.Inside.{Path, path_split, path-end, path-tip, Inv}
use Rattle.theory_peeling.specs.Vertices.{state}
use Rattle.labels_tables.specs.Peeling.{Peeling}
use Rattle.labels_model.specs.NeighbourCounts.{tip_is, met}
use Rattle.labels_model.specs.Counters.{Beside, Meshed, meshed_beside}
use Rattle.labels_model.specs.FrontierInsert.{Marked}
use Rattle.labels_model.specs.LabelTriangle.{Coded}

-- ---- paths of darts

-- along a path whose vertices differ no two darts lead to one vertex
pub tips_once : (o : ℕ → ℕ) (h : ℕ) (xs : List ℕ) (u : ℕ) → Path o (o h) xs u → Dist o (h ∷ xs) → (x y : ℕ) → x ∈ xs → y ∈ xs
    → o (next x) ≡ o (next y) → x ≡ y
tips_once o h [] u p d x y m k e = absurd (Memᴰ.not-nil m)
tips_once o h (a ∷ xs) u p d x y m k e =
    elim (Memᴰ.cases_cons m) [
      | inl q ↦ elim (Memᴰ.cases_cons k) [
        | inl r ↦ q ∙ sym r
        | inr l ↦ absurd (later y l (sym e ∙ ap (λ (z : ℕ). o (next z)) q))
      ]
      | inr j ↦ elim (Memᴰ.cases_cons k) [
        | inl r ↦ absurd (later x j (e ∙ ap (λ (z : ℕ). o (next z)) r))
        | inr l ↦ tips_once o a xs u p.1 d.1 x y j l e
      ]
    ]
  where
    later : (y : ℕ) → y ∈ xs → o (next y) ≡ o (next a) → ⊥
    later y l q =
        elim (path-tip o (o a) xs u p.1 y l) [
          | inl r ↦ d.0 a (Memᴰ.head refl) (sym (q ∙ p.0) ∙ r)
          | inr r ↦ d.0 r.0 (Memᴰ.tail r.1) (sym (q ∙ p.0) ∙ sym r.2)
        ]

-- a dart of a path from a vertex other than its end has one after it, which leads to that vertex
pub split : (o : ℕ → ℕ) (w u : ℕ) (D : List ℕ) → Path o w D u → (x : ℕ) → x ∈ D → o x ≢ u → (A : List ℕ) × (e' : ℕ)
    × (B : List ℕ) × (D ≡ A ++ x ∷ e' ∷ B) × (o (next e') ≡ o x)
split o w u D p x m ne = let r = in_split m in go r.0 r.1 r.2
  where
    go : (A B : List ℕ) → D ≡ A ++ x ∷ B → (A : List ℕ) × (e' : ℕ) × (B : List ℕ) × (D ≡ A ++ x ∷ e' ∷ B)
        × (o (next e') ≡ o x)
    go A [] t = absurd (ne (path_split o w A (x ∷ []) u (rw t at p)).2.1)
    go A (y ∷ B) t = (A, y, B, t, (path_split o w A (x ∷ y ∷ B) u (rw t at p)).2.1.0)

-- ---- the frontier's vertices

-- w is on the frontier that is closed by the dart from v0 to v1 and has the other darts D
abbrev pub on : List ℕ → List ℕ → ℕ → Bool
on ts D w = elem w (map (org ts) (opp ts 2 ∷ D))

pub true-on : (ts D : List ℕ) (x : ℕ) → x ∈ opp ts 2 ∷ D → on ts D (org ts x) ≡ true
true-on ts D x m = true-elem (Memᴰ.map (org ts) m)

pub on-true : (ts D : List ℕ) (w : ℕ) → on ts D w ≡ true → (x : ℕ) × (x ∈ opp ts 2 ∷ D) × (org ts x ≡ w)
on-true ts D w e = Memᴰ.of_map (org ts) (opp ts 2 ∷ D) (elem-true w (map (org ts) (opp ts 2 ∷ D)) e)

pub false-on : (ts D : List ℕ) (w : ℕ) → ((x : ℕ) → x ∈ opp ts 2 ∷ D → w ≢ org ts x) → on ts D w ≡ false
false-on ts D w h = false-elem w (map (org ts) (opp ts 2 ∷ D)) (λ m. let r = Memᴰ.of_map (org ts) (opp ts 2 ∷ D) m in h r.0 r.1 (sym r.2))

-- What the tables hold of a peeling that has removed R, has the frontier's darts D and has passed P.
pub record Stood (n : ℕ) (ts R D P : List ℕ) (t : Peeling) : Type 0 where
  pub meshed : Meshed ts t
  pub coded : Coded P t
  pub marked : Marked n ts (on ts D) t
  pub lefts : (x : ℕ) → x ∈ D → t.left (org ts x) ≡ x
  pub rights : (x : ℕ) → x ∈ D → t.right (tip ts x) ≡ x
  pub old : (x : ℕ) → x ∈ P → org ts x ∈ R

pub stood_same : {n : ℕ} {ts R D P : List ℕ} {t t' : Peeling} → Beside t t' → t'.degree ≡ t.degree → Stood n ts R D P t → Stood n ts R D P t'
stood_same b e st =
    record {
      meshed = meshed_beside b st.meshed;
      coded = rw b.apexes st.coded;
      marked = rw e st.marked;
      lefts = rw b.lefts st.lefts;
      rights = rw b.rights st.rights;
      old = st.old;
    }

module _ (n : ℕ) (ts : List ℕ) (s : Sphere n (length ts / 3) (org ts) (opp ts)) (len : 3 * (length ts / 3) ≡ length ts) {R D : List ℕ}
    (v : Inv n (length ts / 3) (org ts) (opp ts) R D) where
  abbrev T : ℕ
  T = length ts / 3

  abbrev o : ℕ → ℕ
  o = org ts

  abbrev z : ℕ
  z = opp ts 2

  -- a frontier vertex has not been removed, and is a vertex
  pub on-there : (w : ℕ) → on ts D w ≡ true → w ∈ R → ⊥
  on-there w e m = let r = on-true ts D w e in (v.this r.0 r.1).from (Memᴰ.cast r.2 m)

  pub on_below : (w : ℕ) → on ts D w ≡ true → w < n
  on_below w e = let r = on-true ts D w e in rw (sym r.2) (s.vertex r.0 (v.this r.0 r.1).below)

  -- frontier darts lead to frontier vertices
  pub tip-on : (x : ℕ) → x ∈ z ∷ D → on ts D (tip ts x) ≡ true
  tip-on x m =
      rw (tip_is ts x) (elim (Memᴰ.cases_cons m) [
        | inl q ↦ elim (path-end o (o z) D (o (next z)) v.path) [
          | inl r ↦ rw (ap (λ (y : ℕ). o (next y)) q ∙ r) (true-on ts D z (Memᴰ.head refl))
          | inr r ↦ rw (ap (λ (y : ℕ). o (next y)) q ∙ sym r.2) (true-on ts D r.0 (Memᴰ.tail r.1))
        ]
        | inr k ↦ elim (path-tip o (o z) D (o (next z)) v.path x k) [
          | inl r ↦ rw r (true-on ts D z (Memᴰ.head refl))
          | inr r ↦ rw (sym r.2) (true-on ts D r.0 (Memᴰ.tail r.1))
        ]
      ])

  -- a frontier vertex other than v0 and v1 has a frontier dart, and another one leads to it
  pub beside : (w : ℕ) → on ts D w ≡ true → w ≢ o z → w ≢ o (next z)
      → (A : List ℕ) × (e : ℕ) × (e' : ℕ) × (B : List ℕ) × (D ≡ A ++ e ∷ e' ∷ B) × (o e ≡ w) × (o (next e') ≡ w)
  beside w q a b =
      let r = on-true ts D w q in
      elim (Memᴰ.cases_cons r.1) [
        | inl e ↦ absurd (a (sym r.2 ∙ ap o e))
        | inr m ↦
            let t = split o (o z) (o (next z)) D v.path r.0 m (λ e. b (sym r.2 ∙ e)) in
            (t.0, r.0, t.1, t.2, t.3, r.2, t.4 ∙ r.2)
      ]

  -- the definition's remaining neighbours on the frontier are as many
  pub neighbours_met : (P : List ℕ) (w : ℕ) → length (frontier_neighbours ts (state ts R D P) w) ≡ met ts (on ts D) w
  unfolding frontier_neighbours met
  neighbours_met P w =
      ap length (filter_map (tip ts) there (outgoing ts w)) ∙ length-map (filter (λ d. there (tip ts d)) (outgoing ts w)) (tip ts)
      ∙ ap length (filter_same (λ d. there (tip ts d)) (λ d. on ts D (tip ts d)) (outgoing ts w) (λ d m. same (tip ts d)))
    where
      there : ℕ → Bool
      there u = not (elem u R) && elem u (map o (z ∷ D))

      same : (u : ℕ) → there u ≡ on ts D u
      same u =
          elim (tested (on ts D u)) [
            | inl q ↦ rw (q, false-elem u R (on-there u q))
            | inr q ↦ rw q (elim (tested (elem u R)) [ inl r ↦ rw r | inr r ↦ rw r ])
          ]
