-- A count of sides on a sphere: how many sides may join given vertices when they divide the triangles into few parts. Assumes nothing.
use Rattle.std.specs.Prelude.{ℕ, zero, suc, ◌+◌, ◌*◌, ◌≤◌, ◌<◌, ◌≡◌, refl, ◌≢◌, ◌⊎◌, not, List, ◌++◌, map, length}
use Rattle.std.proofs.Common.{sym, ap, ◌∙◌, inl, inr, arith, length-append}
use mathlib.Core.List.Memᴰ
use Rattle.std.proofs.Math.Decide.{ℕ_discrete, dec_le, dec_lt}
use Rattle.std.proofs.lemmas.List.{length-map}
use Rattle.std.proofs.lemmas.Bool.{not-true}
use Rattle.definitions.specs.Lists.{upto, filter, elem}
use Rattle.definitions.specs.Mesh.{tri, next, prev}
use Rattle.laws.specs.Chain.{Chain, stop, step}
use Rattle.laws.specs.Lists.{◌∈◌, dec_in, elem-false, false-elem, filter_in, in_filter, upto_in, length-upto}
use Rattle.laws.specs.Counting.{Distinct, distinct_within, distinct_upto, distinct_filter}
use Rattle.laws.specs.Forest.{Forest, forest, highest, chain_append}
use Rattle.laws.specs.Edges.{Apart, apart_append, apart_map, apart_count}
use Rattle.theory_sphere.specs.Sphere.{Sphere}
use Rattle.theory_sphere.specs.Darts.{tri-next, tri-prev, next-prev, next-next, next-other, prev-other, next-below, prev-below, tri-below, tri-outer}
use Rattle.theory_sphere.specs.Darts.{corner-cases}
use Rattle.theory_sphere.specs.Rotations.{opp-moves, tip-opp}

-- the numbers below k that a list does not have
unfoldable others : List ℕ → ℕ → List ℕ
unfolding filter elem upto
others xs k = filter (λ x. not (elem x xs)) (upto k)

others_in : (xs : List ℕ) (k x : ℕ) → x ∈ others xs k → (x < k) × (x ∈ xs → ⊥)
unfolding others
others_in xs k x m = let r = filter_in (λ x. not (elem x xs)) (upto k) m in (upto_in k r.0, elem-false (not-true (elem x xs) r.1))

others-count : (xs : List ℕ) (k : ℕ) → k ≤ length (others xs k) + length xs
unfolding others
others-count xs k =
    omega (
      arith,
      length-upto k,
      length-append (others xs k) xs,
      distinct_within (distinct_upto k) (others xs k ++ xs) (λ x m.
          elim (dec_in x xs) [
            | yes h ↦ Memᴰ.append_right (others xs k) h
            | no h ↦ Memᴰ.append_left xs (in_filter (λ x. not (elem x xs)) m (rw (false-elem x xs h)))
          ]),
    )

others_distinct : (xs : List ℕ) (k : ℕ) → Distinct (others xs k)
unfolding others
others_distinct xs k = distinct_filter (λ x. not (elem x xs)) (distinct_upto k)

module _ {n T : ℕ} {org opp : ℕ → ℕ} (s : Sphere n T org opp) where
  -- a step across a side that B does not have
  pub record Free (B : List ℕ) (d : ℕ) : Type 0 where
    pub below : d < 3 * T
    pub this : d ∈ B → ⊥
    pub that : opp d ∈ B → ⊥

  free? : (B : List ℕ) (d : ℕ) → Dec (Free B d)
  free? B d = go (dec_lt d (3 * T)) (dec_in d B) (dec_in (opp d) B)
    where
      go : Dec (d < 3 * T) → Dec (d ∈ B) → Dec (opp d ∈ B) → Dec (Free B d)
      go (no a) b c = no (λ f. a f.below)
      go (yes a) (yes b) c = no (λ f. f.this b)
      go (yes a) (no b) (yes c) = no (λ f. f.that c)
      go (yes a) (no b) (no c) = yes (record { below = a; this = b; that = c })

  -- numbers from k on count as roots, so that nothing need be said of them
  abbrev Roots : List ℕ → ℕ → ℕ → Type 0
  Roots xs k x = (k ≤ x) ⊎ (x ∈ xs)

  roots? : (xs : List ℕ) (k x : ℕ) → Dec (Roots xs k x)
  roots? xs k x = elim (dec_le k x) [
    | yes h ↦ yes (inl h)
    | no a ↦
        elim (dec_in x xs) [ yes m ↦ yes (inr m) | no b ↦ no (λ r. elim r [ inl h ↦ a h | inr m ↦ b m ]) ]
  ]

  no_root : (xs : List ℕ) (k x : ℕ) → x ∈ others xs k → Roots xs k x → ⊥
  no_root xs k x m (inl h) = absurd (omega (arith, (others_in xs k x m).0))
  no_root xs k x m (inr h) = (others_in xs k x m).1 h

  module _ (F B rs : List ℕ) (P : Forest (Free B) (Roots rs T) tri (λ d. tri (opp d))) where
    -- the parent dart of a triangle, and the darts that are neither that nor its opposite
    abbrev Up : ℕ → Type 0
    Up d = (Roots rs T (tri d) → ⊥) × (P.par (tri d) ≡ d)

    record Plain (d : ℕ) : Type 0 where
      below : d < 3 * T
      this : Up d → ⊥
      that : Up (opp d) → ⊥

    up? : (d : ℕ) → Dec (Up d)
    up? d = go (roots? rs T (tri d)) (ℕ_discrete (P.par (tri d)) d)
      where
        go : Dec (Roots rs T (tri d)) → Dec (P.par (tri d) ≡ d) → Dec (Up d)
        go (yes r) e = no (λ u. u.0 r)
        go (no r) (no e) = no (λ u. e u.1)
        go (no r) (yes e) = yes (r, e)

    plain? : (d : ℕ) → Dec (Plain d)
    plain? d = go (dec_lt d (3 * T)) (up? d) (up? (opp d))
      where
        go : Dec (d < 3 * T) → Dec (Up d) → Dec (Up (opp d)) → Dec (Plain d)
        go (no a) b c = no (λ f. a f.below)
        go (yes a) (yes b) c = no (λ f. f.this b)
        go (yes a) (no b) (yes c) = no (λ f. f.that c)
        go (yes a) (no b) (no c) = yes (record { below = a; this = b; that = c })

    -- paths of plain darts between two vertices, both ways
    abbrev Way : ℕ → ℕ → Type 0
    Way x y = Chain Plain org (λ d. org (next d)) y x

    abbrev Both : ℕ → ℕ → Type 0
    Both x y = Way x y × Way y x

    turned_both : (x y : ℕ) → Both x y → Both y x
    turned_both x y b = (b.1, b.0)

    join : (x y z : ℕ) → Both x y → Both y z → Both x z
    join x y z a b = (chain_append a.0 b.0, chain_append b.1 a.1)

    plain-both : (d : ℕ) → d < 3 * T → (Up d → ⊥) → (Up (opp d) → ⊥) → Both (org d) (org (next d))
    plain-both d h a b = (
      step d (record { below = h; this = a; that = b }) refl (stop refl),
      step (opp d) (record { below = s.dart d h; this = b; that = λ u. a (rw (s.twice d h) at u) }) (s.reverses d h) (stop (tip-opp s d h)),
    )

    opp-both : (d : ℕ) → d < 3 * T → Both (org (opp d)) (org (next (opp d))) → Both (org d) (org (next d))
    opp-both d h b = turned_both (org (next d)) (org d) (rw (s.reverses d h, tip-opp s d h) at b)

    -- the third corner leads from one end of a side to the other
    about : (d : ℕ) → Both (org (next d)) (org (next (next d))) → Both (org (prev d)) (org (next (prev d))) → Both (org d) (org (next d))
    about d a b =
        turned_both (org (next d)) (org d) (join (org (next d)) (org (prev d)) (org d) (rw (next-next d) at a) (rw (next-prev d) at b))

    module _ (D : ℕ) (top : (t : ℕ) → t < T → P.dist t ≤ D) where
      -- The ends of a parent dart are joined by plain darts: by the two other sides, of triangles that are farther away.
      across : (k d : ℕ) → d < 3 * T → Up d → D < P.dist (tri d) + k → Both (org d) (org (next d))
      across zero d h u l = absurd (omega (arith, top (tri d) (tri-below T d h)))
      across (suc k) d h u l =
          about d
          (side (across k) (next d) (next-below T d h) (tri-next d) (λ v. next-other d (sym v.1 ∙ ap P.par (tri-next d) ∙ u.1)))
          (side (across k) (prev d) (prev-below T d h) (tri-prev d) (λ v. prev-other d (sym v.1 ∙ ap P.par (tri-prev d) ∙ u.1)))
        where
          side : ((e : ℕ) → e < 3 * T → Up e → D < P.dist (tri e) + k → Both (org e) (org (next e)))
              → (e : ℕ) → e < 3 * T → tri e ≡ tri d → (Up e → ⊥) → Both (org e) (org (next e))
          side ih e b t a =
              elim (up? (opp e)) [
                | no c ↦ plain-both e b a c
                | yes c ↦
                    let q : P.dist (tri d) < P.dist (tri (opp e)) = rw (c.1, s.twice e b, t) at (P.down (tri (opp e)) c.0) in
                    opp-both e b (ih (opp e) (s.dart e b) c (omega arith))
              ]

      any-both : (d : ℕ) → d < 3 * T → Both (org d) (org (next d))
      any-both d h =
          elim (up? d) [
            | yes u ↦ across (suc D) d h u (omega arith)
            | no a ↦ elim (up? (opp d)) [
              | yes u ↦ opp-both d h (across (suc D) (opp d) (s.dart d h) u (omega arith))
              | no b ↦ plain-both d h a b
            ]
          ]

      corner-both : (d e : ℕ) → d < 3 * T → tri e ≡ tri d → Both (org d) (org e)
      corner-both d e h t =
          elim (corner-cases d e t) [
            | inl p ↦ (stop (ap org (sym p)), stop (ap org p))
            | inr q ↦ elim q [
              | inl p ↦ rw p (any-both d h)
              | inr p ↦ rw p (turned_both (org (prev d)) (org d) (rw (next-prev d) at (any-both (prev d) (prev-below T d h))))
            ]
          ]

      -- all vertices are joined by plain darts
      home : {t : ℕ} → Chain (λ d. d < 3 * T) tri (λ d. tri (opp d)) 0 t → (d : ℕ) → d < 3 * T → tri d ≡ t → Both (org d) (org 0)
      home (stop e) d h t = corner-both d 0 h (tri-outer 0 (omega arith) ∙ sym (t ∙ e))
      home (step a g q c) d h t =
          join (org d) (org a) (org 0) (corner-both d a h (q ∙ sym t))
          (rw (tip-opp s a g) at (home c (next (opp a)) (next-below T (opp a) (s.dart a g)) (tri-next (opp a))))

      ways : (u v : ℕ) → u < n → v < n → Way u v
      ways u v h k =
          let a = s.used u h in
          let b = s.used v k in
          let f = home (s.joined (tri a.0) (tri-below T a.0 a.1)) a.0 a.1 refl in
          let g = home (s.joined (tri b.0) (tri-below T b.0 b.1)) b.0 b.1 refl in
          chain_append (rw a.2 at f.0) (rw b.2 at g.1)

    module _ (Q : Forest Plain (Roots F n) org (λ d. org (next d)))
        (fd : Distinct F) (bd : Apart opp B) (bl : (d : ℕ) → d ∈ B → d < 3 * T) (bo : (d : ℕ) → d ∈ B → (org d ∈ F)
        × (org (next d) ∈ F)) where
      abbrev ts : List ℕ
      ts = others rs T

      abbrev vs : List ℕ
      vs = others F n

      tapart : Apart opp (map P.par ts)
      tapart = apart_map opp P.par (others_distinct rs T) (λ x y m k ne. (
        λ e. ne (sym (P.from x (no_root rs T x m)) ∙ ap tri e ∙ P.from y (no_root rs T y k)),
        λ e. swapped x y (no_root rs T x m) (no_root rs T y k) e,
      ))
        where
          swapped : (x y : ℕ) → (Roots rs T x → ⊥) → (Roots rs T y → ⊥) → P.par x ≡ opp (P.par y) → ⊥
          swapped x y a b e =
              let l = (P.ok y b).below in
              let p : P.dist y < P.dist x = rw (e, s.twice (P.par y) l, P.from y b) at (P.down x a) in
              let q : P.dist x < P.dist y = rw (sym e, P.from x a) at (P.down y b) in
              omega arith

      vapart : Apart opp (map Q.par vs)
      vapart = apart_map opp Q.par (others_distinct F n) (λ x y m k ne. (
        λ e. ne (sym (Q.from x (no_root F n x m)) ∙ ap org e ∙ Q.from y (no_root F n y k)),
        λ e. swapped x y (no_root F n x m) (no_root F n y k) e,
      ))
        where
          swapped : (x y : ℕ) → (Roots F n x → ⊥) → (Roots F n y → ⊥) → Q.par x ≡ opp (Q.par y) → ⊥
          swapped x y a b e =
              let l = (Q.ok y b).below in
              let p : Q.dist y < Q.dist x = rw (e, tip-opp s (Q.par y) l, Q.from y b) at (Q.down x a) in
              let q : Q.dist x < Q.dist y = rw (sym (s.reverses (Q.par y) l), sym e, Q.from x a) at (Q.down y b) in
              omega arith

      -- a parent of a vertex, and one of the given sides
      vb : (x y : ℕ) → x ∈ map Q.par vs → y ∈ B → (x ≢ y) × (x ≢ opp y)
      vb x y m k =
          let r = Memᴰ.of_map Q.par vs m in
          let o : org x ∈ F → ⊥ = λ f. (others_in F n r.0 r.1).1
          (Memᴰ.cast (sym (Q.from r.0 (no_root F n r.0 r.1)) ∙ ap org r.2) f) in
          (λ e. o (Memᴰ.cast (ap org e) (bo y k).0), λ e. o (Memᴰ.cast (ap org e ∙ s.reverses y (bl y k)) (bo y k).1))

      -- a parent of a triangle, and a parent of a vertex or one of the given sides
      tvb : (x y : ℕ) → x ∈ map P.par ts → y ∈ map Q.par vs ++ B → (x ≢ y) × (x ≢ opp y)
      tvb x y m k =
          let r = Memᴰ.of_map P.par ts m in
          let a = no_root rs T r.0 r.1 in
          let p = P.ok r.0 a in
          let t : tri x ≡ r.0 = ap tri (sym r.2) ∙ P.from r.0 a in
          let u : Up x = (rw t a, ap P.par t ∙ r.2) in
          elim (Memᴰ.append_cases (map Q.par vs) k) [
            | inl l ↦
                let q = Memᴰ.of_map Q.par vs l in
                let g = Q.ok q.0 (no_root F n q.0 q.1) in
                (λ e. g.this (rw (e, sym q.2) at u), λ e. g.that (rw (e, sym q.2) at u))
            | inr l ↦
                (λ e. p.this (Memᴰ.cast (r.2 ∙ e) l), λ e. p.that (Memᴰ.cast (ap opp (r.2 ∙ e) ∙ s.twice y (bl y l)) l))
          ]

      low : (x : ℕ) → x ∈ map P.par ts ++ (map Q.par vs ++ B) → x < 3 * T
      low x m =
          elim (Memᴰ.append_cases (map P.par ts) m) [
            | inl l ↦ let r = Memᴰ.of_map P.par ts l in rw (sym r.2) (P.ok r.0 (no_root rs T r.0 r.1)).below
            | inr k ↦ elim (Memᴰ.append_cases (map Q.par vs) k) [
              | inl l ↦ let r = Memᴰ.of_map Q.par vs l in rw (sym r.2) (Q.ok r.0 (no_root F n r.0 r.1)).below
              | inr l ↦ bl x l
            ]
          ]

      total : length B + 2 ≤ length F + length rs
      total =
          let c = apart_count opp (3 * T) s.dart s.twice (opp-moves s) (map P.par ts ++ (map Q.par vs ++ B))
          (apart_append opp tapart (apart_append opp vapart bd vb) tvb) low in
          let l : length (map P.par ts ++ (map Q.par vs ++ B)) ≡ length ts + (length vs + length B) =
          simp (length-append, length-map) in
          omega (arith, c, l, others-count rs T, others-count F n, s.size)

  -- The Euler lemma. F are vertices, B sides between them, and each triangle is joined to one of the triangles rs by steps that cross no side of B.
  pub euler : (F B rs : List ℕ) (v : ℕ) → v ∈ F → v < n → Distinct F → Apart opp B → ((d : ℕ) → d ∈ B → d < 3 * T)
      → ((d : ℕ) → d ∈ B → (org d ∈ F) × (org (next d) ∈ F))
      → ((t : ℕ) → t < T → (r : ℕ) × (r ∈ rs) × Chain (Free B) tri (λ d. tri (opp d)) r t)
      → length B + 2 ≤ length F + length rs
  euler F B rs v vf vn fd bd bl bo reach =
      let P = forest (Free B) (Roots rs T) tri (λ d. tri (opp d)) (3 * T) (roots? rs T) (free? B) (λ d f. f.below) reached in
      let D = highest P.dist T in
      let Q = forest (Plain F B rs P) (Roots F n) org (λ d. org (next d)) (3 * T) (roots? F n) (plain? F B rs P) (λ d f. f.below) (to_f P D.0 D.1) in
      total F B rs P Q fd bd bl bo
    where
      reached : (t : ℕ) → (r : ℕ) × Roots rs T r × Chain (Free B) tri (λ d. tri (opp d)) r t
      reached t = elim (dec_lt t T) [
        | yes h ↦ let a = reach t h in (a.0, inr a.1, a.2)
        | no h ↦ (t, inl (omega arith), stop refl)
      ]

      to_f : (P : Forest (Free B) (Roots rs T) tri (λ d. tri (opp d))) (D : ℕ) → ((t : ℕ) → t < T → P.dist t ≤ D)
          → (u : ℕ) → (r : ℕ) × Roots F n r × Chain (Plain F B rs P) org (λ d. org (next d)) r u
      to_f P D top u = elim (dec_lt u n) [
        | yes h ↦ (v, inr vf, ways F B rs P D top u v h vn)
        | no h ↦ (u, inl (omega arith), stop refl)
      ]
