-- What holds of a peeling after each of its steps, in any order of removals: which darts are inside, and what the frontier is to them. Assumes nothing.
-- R are the removed vertices. The frontier v0 = f_0, .., f_m = v1 is closed by the inner dart from v0 to v1, opp 2, and D are its other darts, from f_j to
-- f_(j-1).
use Rattle.std.specs.Prelude.{ℕ, zero, suc, ◌*◌, ◌≤◌, ◌<◌, ◌≡◌, refl, ◌≢◌, ◌⊎◌, List, [], ◌∷◌, ◌++◌, length, get_or}
use Rattle.std.proofs.Common.{sym, ap, ◌∙◌, inl, inr, arith}
use mathlib.Core.List.Memᴰ
use Rattle.std.proofs.Math.Decide.{dec_lt}
use Rattle.std.proofs.Math.ListN.{get_or-eq_default}
use Rattle.definitions.specs.Mesh.{tri, next, prev}
use Rattle.laws.specs.Lists.{◌∈◌, dec_in, get_or_in, in_get_or}
use Rattle.laws.specs.Edges.{Dist, dist_get_or}
use Rattle.theory_sphere.specs.Sphere.{Sphere}
use Rattle.theory_sphere.specs.Darts.{tri-next, tri-prev, prev-next, next-next, next-below, tri-outer, outer-tri, corner-cases}
use Rattle.theory_sphere.specs.Rotations.{tip-opp, org-rot, across}
use Rattle.theory_chords.specs.Crossing.{Frontier, Chord}
use Rattle.theory_chords.specs.Chords.{some_chordless}

module _ (T : ℕ) (org : ℕ → ℕ) where
  -- a dart of an inner triangle with no removed vertex
  pub record Inside (R : List ℕ) (d : ℕ) : Type 0 where
    pub below : d < 3 * T
    pub inner : 0 < tri d
    pub from : org d ∈ R → ⊥
    pub to : org (next d) ∈ R → ⊥
    pub off : org (prev d) ∈ R → ⊥

  pub inside? : (R : List ℕ) (d : ℕ) → Dec (Inside R d)
  inside? R d = go (dec_lt d (3 * T)) (dec_lt 0 (tri d)) (dec_in (org d) R) (dec_in (org (next d)) R) (dec_in (org (prev d)) R)
    where
      go : Dec (d < 3 * T) → Dec (0 < tri d) → Dec (org d ∈ R) → Dec (org (next d) ∈ R) → Dec (org (prev d) ∈ R) → Dec (Inside R d)
      go (no a) b x y z = no (λ i. a i.below)
      go (yes a) (no b) x y z = no (λ i. b i.inner)
      go (yes a) (yes b) (yes x) y z = no (λ i. i.from x)
      go (yes a) (yes b) (no x) (yes y) z = no (λ i. i.to y)
      go (yes a) (yes b) (no x) (no y) (yes z) = no (λ i. i.off z)
      go (yes a) (yes b) (no x) (no y) (no z) = yes (record { below = a; inner = b; from = x; to = y; off = z })

  pub inside-next : (R : List ℕ) (d : ℕ) → Inside R d → Inside R (next d)
  inside-next R d i =
      record {
        below = next-below T d i.below;
        inner = rw (tri-next d) i.inner;
        from = i.to;
        to = rw (next-next d) i.off;
        off = rw (prev-next d) i.from;
      }

  pub inside-prev : (R : List ℕ) (d : ℕ) → Inside R d → Inside R (prev d)
  inside-prev R d i = rw (next-next d) at (inside-next R (next d) (inside-next R d i))

  pub inside_of_next : (R : List ℕ) (d : ℕ) → Inside R (next d) → Inside R d
  inside_of_next R d i = rw (prev-next d) at (inside-prev R (next d) i)

  -- the same for any dart of the triangle, and for fewer removed vertices
  pub inside-tri : (R : List ℕ) (d a : ℕ) → tri a ≡ tri d → Inside R d → Inside R a
  inside-tri R d a t i =
      elim (corner-cases d a t) [
        | inl u ↦ rw u i
        | inr r ↦ elim r [ inl u ↦ rw u (inside-next R d i) | inr u ↦ rw u (inside-prev R d i) ]
      ]

  pub inside-less : (w : ℕ) (R : List ℕ) (d : ℕ) → Inside (w ∷ R) d → Inside R d
  inside-less w R d i = record {
    below = i.below;
    inner = i.inner;
    from = λ m. i.from (Memᴰ.tail m);
    to = λ m. i.to (Memᴰ.tail m);
    off = λ m. i.off (Memᴰ.tail m);
  }

  -- one more removed vertex that is no corner of the triangle
  pub inside-more : (w : ℕ) (R : List ℕ) (d : ℕ) → Inside R d → org d ≢ w → org (next d) ≢ w → org (prev d) ≢ w → Inside (w ∷ R) d
  inside-more w R d i a b c = record {
    below = i.below;
    inner = i.inner;
    from = add (org d) a i.from;
    to = add (org (next d)) b i.to;
    off = add (org (prev d)) c i.off;
  }
    where
      add : (u : ℕ) → u ≢ w → (u ∈ R → ⊥) → u ∈ w ∷ R → ⊥
      add u a b m = elim (Memᴰ.cases_cons m) [ inl t ↦ a t | inr k ↦ b k ]

-- Each dart leads to the origin of the one before it: from w on to u.
abbrev pub Path : (ℕ → ℕ) → ℕ → List ℕ → ℕ → Type 0
Path org w [] u = w ≡ u
Path org w (x ∷ xs) u = (org (next x) ≡ w) × Path org (org x) xs u

module _ (org : ℕ → ℕ) where
  pub path_split : (w : ℕ) (xs ys : List ℕ) (u : ℕ) → Path org w (xs ++ ys) u → (v : ℕ) × Path org w xs v × Path org v ys u
  path_split w [] ys u p = (w, refl, p)
  path_split w (x ∷ xs) ys u p = let r = path_split (org x) xs ys u p.1 in (r.0, (p.0, r.1), r.2)

  pub path_join : (w : ℕ) (xs ys : List ℕ) (v u : ℕ) → Path org w xs v → Path org v ys u → Path org w (xs ++ ys) u
  path_join w [] ys v u p q = rw p q
  path_join w (x ∷ xs) ys v u p q = (p.0, path_join (org x) xs ys v u p.1 q)

  -- where a path ends, and what the tip of one of its darts is
  pub path-end : (w : ℕ) (xs : List ℕ) (u : ℕ) → Path org w xs u → (u ≡ w) ⊎ ((x : ℕ) × (x ∈ xs) × (org x ≡ u))
  path-end w [] u p = inl (sym p)
  path-end w (x ∷ xs) u p =
      elim (path-end (org x) xs u p.1) [
        | inl e ↦ inr (x, Memᴰ.head refl, sym e)
        | inr t ↦ inr (t.0, Memᴰ.tail t.1, t.2)
      ]

  pub path-nil : (w : ℕ) (xs : List ℕ) (u : ℕ) → Path org w xs u → ((x : ℕ) → x ∈ xs → org x ≢ u) → xs ≡ []
  path-nil w [] u p n = refl
  path-nil w (x ∷ xs) u p n =
      elim (path-end (org x) xs u p.1) [
        | inl t ↦ absurd (n x (Memᴰ.head refl) (sym t))
        | inr t ↦ absurd (n t.0 (Memᴰ.tail t.1) t.2)
      ]

  pub path-tip : (w : ℕ) (xs : List ℕ) (u : ℕ) → Path org w xs u → (x : ℕ) → x ∈ xs → (org (next x) ≡ w)
      ⊎ ((y : ℕ) × (y ∈ xs) × (org y ≡ org (next x)))
  path-tip w [] u p x m = absurd (Memᴰ.not-nil m)
  path-tip w (a ∷ xs) u p x m =
      elim (Memᴰ.cases_cons m) [
        | inl e ↦ inl (ap (λ (y : ℕ). org (next y)) e ∙ p.0)
        | inr m' ↦ elim (path-tip (org a) xs u p.1 x m') [
          | inl e ↦ inr (a, Memᴰ.head refl, sym e)
          | inr t ↦ inr (t.0, Memᴰ.tail t.1, t.2)
        ]
      ]

  -- the dart in a place leads to the origin of the dart in the place before
  pub path-at : (z x : ℕ) (xs : List ℕ) → Path org (org x) xs (org (next z)) → (j : ℕ) → j ≤ length xs →
      org (next (get_or xs j z)) ≡ org (get_or (x ∷ xs) j z)
  path-at z x [] p zero h = sym p
  path-at z x [] p (suc j) h = absurd (omega arith)
  path-at z x (y ∷ xs) p zero h = p.0
  path-at z x (y ∷ xs) p (suc j) h = path-at z y xs p.1 j (omega arith)

pub record Inv (n T : ℕ) (org opp : ℕ → ℕ) (R D : List ℕ) : Type 0 where
  -- the frontier's vertices differ, and each dart leads from one to the one before it
  pub apart : Dist org (opp 2 ∷ D)
  pub path : Path org (org (opp 2)) D (org (next (opp 2)))
  -- the frontier's darts, and no others, are inside with an opposite that is not
  pub this : (x : ℕ) → x ∈ opp 2 ∷ D → Inside T org R x
  pub that : (x : ℕ) → x ∈ opp 2 ∷ D → Inside T org R (opp x) → ⊥
  pub only : (d : ℕ) → Inside T org R d → (Inside T org R (opp d) → ⊥) → d ∈ opp 2 ∷ D
  -- a side between vertices that are there has the inside on one of its sides, and a vertex that is there has a dart inside
  pub side : (d : ℕ) → d < 3 * T → (org d ∈ R → ⊥) → (org (next d) ∈ R → ⊥) → Inside T org R d ⊎ Inside T org R (opp d)
  pub there : (w : ℕ) → w < n → (w ∈ R → ⊥) → (d : ℕ) × Inside T org R d × (org d ≡ w)

-- v is beside no frontier vertex but its two neighbours: no side inside joins it to one
abbrev pub Chordless : (T : ℕ) (org opp : ℕ → ℕ) → List ℕ → List ℕ → ℕ → Type 0
Chordless T org opp R D v = (d : ℕ) → Inside T org R d → Inside T org R (opp d) → org d ≡ v → (x : ℕ) → x ∈ opp 2 ∷ D →
    org (next d) ≡ org x → ⊥

module _ {n T : ℕ} {org opp : ℕ → ℕ} (s : Sphere n T org opp) where
  pub three : 2 < 3 * T
  three = omega (arith, s.size, s.least)

  -- ---- the start

  outer-inside : (k : ℕ) → k < 3 → Inside T org [] (opp k)
  outer-inside k h =
      let b : k < 3 * T = omega (arith, three) in
      record {
        below = s.dart k b;
        inner = positive (tri (opp k)) (λ e. across s k b (e ∙ sym (tri-outer k h)));
        from = Memᴰ.not-nil;
        to = Memᴰ.not-nil;
        off = Memᴰ.not-nil;
      }
    where
      positive : (t : ℕ) → t ≢ 0 → 0 < t
      positive t h = omega arith

  outer-not : (R : List ℕ) (k : ℕ) → k < 3 → Inside T org R (opp (opp k)) → ⊥
  outer-not R k h i = absurd (omega (arith, rw (s.twice k (omega (arith, three)), tri-outer k h) at i.inner))

  pub rim-cases : (x : ℕ) → x ∈ opp 2 ∷ opp 0 ∷ opp 1 ∷ [] → (k : ℕ) × (k < 3) × (x ≡ opp k)
  rim-cases x m =
      elim (Memᴰ.cases_cons m) [
        | inl e ↦ (2, omega arith, e)
        | inr a ↦ elim (Memᴰ.cases_cons a) [
          | inl e ↦ (0, omega arith, e)
          | inr b ↦ elim (Memᴰ.cases_cons b) [ inl e ↦ (1, omega arith, e) | inr c ↦ absurd (Memᴰ.not-nil c) ]
        ]
      ]

  rim_in : (k : ℕ) → k < 3 → opp k ∈ opp 2 ∷ opp 0 ∷ opp 1 ∷ []
  rim_in zero h = Memᴰ.tail (Memᴰ.head refl)
  rim_in (suc zero) h = Memᴰ.tail (Memᴰ.tail (Memᴰ.head refl))
  rim_in (suc (suc zero)) h = Memᴰ.head refl
  rim_in (suc (suc (suc k))) h = absurd (omega arith)

  pub inside-start : (d : ℕ) → d < 3 * T → 0 < tri d → Inside T org [] d
  inside-start d b h = record { below = b; inner = h; from = Memᴰ.not-nil; to = Memᴰ.not-nil; off = Memᴰ.not-nil }

  pub org_opp0 : org (opp 0) ≡ org 1
  unfolding next
  org_opp0 = s.reverses 0 (omega (arith, three))

  pub org_opp1 : org (opp 1) ≡ org 2
  unfolding next
  org_opp1 = s.reverses 1 (omega (arith, three))

  pub org_opp2 : org (opp 2) ≡ org 0
  unfolding next
  org_opp2 = s.reverses 2 three

  pub tip_opp2 : org (next (opp 2)) ≡ org 2
  tip_opp2 = tip-opp s 2 three

  pub proper01 : org 0 ≢ org 1
  unfolding next
  proper01 = s.proper 0 (omega (arith, three))

  pub proper12 : org 1 ≢ org 2
  unfolding next
  proper12 = s.proper 1 (omega (arith, three))

  pub proper20 : org 2 ≢ org 0
  unfolding next
  proper20 = s.proper 2 three

  tri_low : (d : ℕ) → (0 < tri d → ⊥) → d < 3
  tri_low d h = elim (dec_lt 0 (tri d)) [ yes l ↦ absurd (h l) | no l ↦ outer-tri d (omega arith) ]

  -- the whole mesh, before any removal
  pub start : Inv n T org opp [] (opp 0 ∷ opp 1 ∷ [])
  start =
      record {
        apart = (
          first,
          (
            λ y m e. proper12 (sym org_opp0 ∙ e ∙ ap org (Memᴰ.eq_of_singleton m) ∙ org_opp1),
            (λ y m. absurd (Memᴰ.not-nil m), tt),
          ),
        );
        path = (tip-opp s 0 (omega (arith, three)) ∙ sym org_opp2, (tip-opp s 1 (omega (arith, three)) ∙ sym org_opp0, org_opp1 ∙ sym tip_opp2));
        this = λ x m. let r = rim-cases x m in rw r.2 (outer-inside r.0 r.1);
        that = λ x m i. let r = rim-cases x m in outer-not [] r.0 r.1 (rw r.2 at i);
        only = λ d i a. let k = tri_low (opp d) (λ h. a (inside-start (opp d) (s.dart d i.below) h)) in
            Memᴰ.cast (sym (s.twice d i.below)) (rim_in (opp d) k);
        side = λ d b p q. elim (dec_lt 0 (tri d)) [ yes h ↦ inl (inside-start d b h) | no h ↦ inr (outer-inside d (tri_low d h)) ];
        there = λ w h a. let r = s.used w h in elim (dec_lt 0 (tri r.0)) [
          | yes l ↦ (r.0, inside-start r.0 r.1 l, r.2)
          | no l ↦ (
            opp (prev r.0),
            outer-inside (prev r.0) (tri_low (prev r.0) (λ h. l (rw (tri-prev r.0) at h))),
            org-rot s r.0 r.1 ∙ r.2,
          )
        ];
      }
    where
      first : (y : ℕ) → y ∈ opp 0 ∷ opp 1 ∷ [] → org (opp 2) ≢ org y
      first y m e =
          elim (Memᴰ.cases_cons m) [
            | inl t ↦ proper01 (sym org_opp2 ∙ e ∙ ap org t ∙ org_opp0)
            | inr m' ↦ proper20 (sym org_opp1 ∙ ap org (sym (Memᴰ.eq_of_singleton m')) ∙ sym e ∙ org_opp2)
          ]

  -- ---- a vertex that can leave

  module _ {R D : List ℕ} (v : Inv n T org opp R D) where
    abbrev pub inn : ℕ → ℕ
    inn j = get_or (opp 2 ∷ D) j (opp 2)

    pub frontier : Frontier T org opp (Inside T org R) (length D) inn
    frontier =
        record {
          in? = inside? T org R;
          low = λ d i. i.below;
          whole = inside-next T org R;
          closed = get_or-eq_default D (opp 2) (omega arith);
          link = path-at org (opp 2) (opp 2) D v.path;
          apart = λ i j h l e. dist_get_or org (opp 2 ∷ D) v.apart i j (opp 2) (omega arith) (omega arith) e;
          this = λ j h. v.this (inn j) (get_or_in (opp 2 ∷ D) j (opp 2) (omega arith));
          that = λ j h. v.that (inn j) (get_or_in (opp 2 ∷ D) j (opp 2) (omega arith));
          only = λ d i a. let r = in_get_or (opp 2) (v.only d i a) in (r.0, omega (arith, r.1), r.2);
          outer = ap tri (s.twice 2 three) ∙ tri-outer 2 (omega arith);
        }

    -- there are at least three vertices on the frontier
    pub two : 2 ≤ length D
    two = go D v.path (λ x m. v.this x m) (λ x m. v.that x m)
      where
        go : (D : List ℕ) → Path org (org (opp 2)) D (org (next (opp 2))) → ((x : ℕ) → x ∈ opp 2 ∷ D → Inside T org R x) →
            ((x : ℕ) → x ∈ opp 2 ∷ D → Inside T org R (opp x) → ⊥) → 2 ≤ length D
        go [] p i o = absurd (s.proper (opp 2) (s.dart 2 three) p)
        go (x ∷ []) p i o =
            let b = (i x (Memᴰ.tail (Memᴰ.head refl))).below in
            let e : opp x ≡ opp 2 = s.once (opp x) (opp 2) (s.dart x b) (s.dart 2 three) (s.reverses x b ∙ p.0) (tip-opp s x b ∙ p.1) in
            absurd (o x (Memᴰ.tail (Memᴰ.head refl)) (rw e (i (opp 2) (Memᴰ.head refl))))
        go (x ∷ y ∷ D) p i o = omega arith

    -- one between the two ends is lonely
    pub chordless : (x : ℕ) × (x ∈ D) × (org x ≢ org (next (opp 2))) × Chordless T org opp R D (org x)
    chordless = go (some_chordless s frontier two)
      where
        go : (q : ℕ) × (0 < q) × (q < length D) × ((c j : ℕ) → j ≤ length D → Chord org opp (Inside T org R) inn q j c → ⊥)
            → (x : ℕ) × (x ∈ D) × (org x ≢ org (next (opp 2))) × Chordless T org opp R D (org x)
        go (zero, a, b, c) = absurd (omega arith)
        go (suc q, a, b, c) = (
          get_or D q (opp 2),
          get_or_in D q (opp 2) (omega arith),
          λ e.
              let l : org (next (opp 2)) ≡ org (inn (length D)) = ap (λ (x : ℕ). org (next x)) (sym frontier.closed)
              ∙ frontier.link (length D) (omega arith) in
              absurd (omega (arith, frontier.apart (suc q) (length D) (omega arith) (omega arith) (e ∙ l))),
          λ d i o e x m t. let r = in_get_or (opp 2) m in c d r.0 (omega (arith, r.1))
              (record { this = i; that = o; from = e; to = t ∙ ap org (sym r.2) }),
        )
