-- 7 and 25, which a vertex decides (C-15): what each says of its triangles, which vertex is carried, and where neither is found. Assumes nothing.
use Rattle.std.specs.Prelude.{ℕ, ◌*◌, ◌<◌, ◌≢◌, ◌↔◌, ◌⊎◌, Bool, ◌||◌, cond, eqb, length}
use Rattle.std.proofs.Math.Path.{◌≡◌, refl, ap}
use Rattle.std.proofs.Common.{sym, ◌∙◌, arith}
use Rattle.std.proofs.Math.Logic.{inl, inr}
use Rattle.std.proofs.Math.Bool.{true, false, not}
use mathlib.Core.List.Memᴰ
use mathlib.Core.List.{List, [], ◌∷◌}
use Rattle.std.proofs.Math.Option.{Option, none, some, some-ne-none, some-injective}
use borrow.Author.Tests.{eqb-true, not-true, not-false}
use Rattle.definitions.specs.Lists.{upto, first, iterate, elem}
use Rattle.definitions.specs.Answers.{Refusal, vertex_pinched, vertex_stray}
use Rattle.definitions.specs.Mesh.{org, opp, rot, rotations, outgoing, ring, stray, pinched, row7or25}
use Rattle.laws.specs.Lists.{◌∈◌, tested, clash, untrue, unfalse, and_both, or_neither, or_left, or_right, in_get_or, all-false, elem-false}
use Rattle.laws.specs.Lists.{first-upto, first-none, none-upto, in_upto, none_first}
use Rattle.laws.specs.Orbits.{period_covers, orbit-more}
use Rattle.theory_sphere.specs.Rows.{outgoing_in, in_outgoing}
use Rattle.theory_sphere.specs.Sides.{Sides}
use Rattle.theory_sphere.specs.Rings.{rotations-orbit, ring-none, ring_means, ring_period}

module _ (ts : List ℕ) where
  -- ---- a stray vertex: no corner of a triangle is it

  some_member : (ds : List ℕ) → eqb (length ds) 0 ≡ false → (d : ℕ) × (d ∈ ds)
  some_member [] e = clash refl e
  some_member (d ∷ ds) e = (d, Memᴰ.head refl)

  no_member : (ds : List ℕ) → eqb (length ds) 0 ≡ true → (d : ℕ) → d ∈ ds → ⊥
  no_member ds e d m = omega (arith, (in_get_or 0 m).1, eqb-true (length ds) 0 e)

  pub stray_means : (v : ℕ) → (stray ts v ≡ true) ↔ ((d : ℕ) → d < length ts → org ts d ≢ v)
  unfolding stray
  stray_means v = (
    λ e d h q. no_member (outgoing ts v) e d (in_outgoing ts v d h q),
    λ f. unfalse (stray ts v) (λ e.
        let r = some_member (outgoing ts v) e in
        let l = outgoing_in ts v r.1 in
        f r.0 l.0 l.1),
  )

  -- ---- a pinched vertex: it has triangles, and they are not one ring

  pub pinched_means : (v : ℕ) → (pinched ts v ≡ true) ↔ ((stray ts v ≡ false) × (ring ts (outgoing ts v) ≡ false))
  unfolding pinched
  pinched_means v = (
    λ e.
        let r = and_both (not (stray ts v)) (not (ring ts (outgoing ts v))) e in
        (not-true (stray ts v) r.0, not-true (ring ts (outgoing ts v)) r.1),
    λ r. rw (r.0, r.1),
  )

  -- so a vertex is stray or pinched just where its triangles are not one ring
  pub not-one-ring : (v : ℕ) → (stray ts v || pinched ts v) ≡ not (ring ts (outgoing ts v))
  unfolding stray pinched
  not-one-ring v =
      elim (tested (stray ts v)) [
        | inl s ↦ rw (s, ring-none ts v ((stray_means v).0 s))
        | inr s ↦ rw s
      ]

  -- ---- the lowest vertex that is stray or pinched decides

  -- every vertex below v has one ring
  abbrev pub WholeBelow : ℕ → Type 0
  WholeBelow v = (u : ℕ) → u < v → (stray ts u ≡ false) × (pinched ts u ≡ false)

  broken : ℕ → Bool
  broken v = stray ts v || pinched ts v

  -- what is found at a vertex
  at : ℕ → Refusal
  at v = cond (stray ts v) (vertex_stray v) (vertex_pinched v)

  by-lowest : (n : ℕ) (o : Option ℕ) → first broken (upto n) ≡ o → row7or25 ts n ≡ elim o [ none ↦ none | some v ↦ some (at v) ]
  unfolding row7or25 broken at
  by-lowest n o e = ap (λ (o : Option ℕ). elim o [ none ↦ none | some v ↦ some (at v) ]) e

  -- `why` is what such a vertex is refused with, and what the lowest of them is
  abbrev pub Kind : Refusal → ℕ → Type 0
  Kind why v = ((why ≡ vertex_stray v) × (stray ts v ≡ true)) ⊎ ((why ≡ vertex_pinched v) × (pinched ts v ≡ true))

  abbrev pub AtLowest : ℕ → Refusal → Type 0
  AtLowest n why = (v : ℕ) × (v < n) × WholeBelow v × Kind why v

  pub found-lowest : (n : ℕ) (why : Refusal) → row7or25 ts n ≡ some why → AtLowest n why
  unfolding broken at
  found-lowest n why e = go (first broken (upto n)) refl
    where
      go : (o : Option ℕ) → first broken (upto n) ≡ o → AtLowest n why
      go none q = absurd (some-ne-none why (sym e ∙ by-lowest n none q))
      go (some v) q =
          let f = (first-upto broken n v).0 q in
          let is : why ≡ at v = some-injective why (at v) (sym e ∙ by-lowest n (some v) q) in
          (v, f.0, λ u l. or_neither (stray ts u) (pinched ts u) (f.2 u l), kind v f.1 is)
        where
          kind : (v : ℕ) → broken v ≡ true → why ≡ at v → Kind why v
          kind v b is =
              elim (tested (stray ts v)) [
                | inl s ↦ inl (rw s at is, s)
                | inr s ↦ inr (rw s at is, rw s at b)
              ]

  lowest-found : (n v : ℕ) → v < n → broken v ≡ true → WholeBelow v → row7or25 ts n ≡ some (at v)
  unfolding broken
  lowest-found n v h b w = by-lowest n (some v) ((first-upto broken n v).1 (h, b, λ u l. let r = w u l in rw (r.0, r.1)))

  -- 25 just at a vertex in no triangle, 7 just at one with several rings, each where every vertex below it has one ring
  pub found-25 : (n v : ℕ) → (row7or25 ts n ≡ some (vertex_stray v)) ↔ ((v < n) × (stray ts v ≡ true) × WholeBelow v)
  unfolding at broken
  found-25 n v = (
    λ e.
        let r = found-lowest n (vertex_stray v) e in
        elim r.3 [
          | inl s ↦ let i : v ≡ r.0 = cc in rw i (r.1, s.1, r.2)
          | inr s ↦ let z : ◌≡◌ {A = ℕ} 0 1 = cc in absurd (omega arith)
        ],
    λ r. lowest-found n v r.0 (or_left (stray ts v) (pinched ts v) r.1) r.2 ∙ rw r.1 refl,
  )

  pub found-7 : (n v : ℕ) → (row7or25 ts n ≡ some (vertex_pinched v)) ↔ ((v < n) × (pinched ts v ≡ true) × WholeBelow v)
  unfolding at broken
  found-7 n v = (
    λ e.
        let r = found-lowest n (vertex_pinched v) e in
        elim r.3 [
          | inl s ↦ let z : ◌≡◌ {A = ℕ} 0 1 = cc in absurd (omega arith)
          | inr s ↦ let i : v ≡ r.0 = cc in rw i (r.1, s.1, r.2)
        ],
    λ r. lowest-found n v r.0 (or_right (stray ts v) (pinched ts v) r.1) r.2 ∙ rw ((pinched_means v).0 r.1).0 refl,
  )

  -- neither, just where there is one ring at each vertex
  pub row7or25_means : (n : ℕ) → (row7or25 ts n ≡ none) ↔ ((v : ℕ) → v < n → ring ts (outgoing ts v) ≡ true)
  unfolding broken
  row7or25_means n = (
    λ e v h. not-false (ring ts (outgoing ts v)) (sym (not-one-ring v) ∙ none_broken e v h),
    λ f. by-lowest n none (none_first broken (upto n) (none-upto broken n (λ v h. not-one-ring v ∙ ap not (f v h)))),
  )
    where
      none_broken : row7or25 ts n ≡ none → (v : ℕ) → v < n → broken v ≡ false
      none_broken e v h = go (first broken (upto n)) refl
        where
          go : (o : Option ℕ) → first broken (upto n) ≡ o → broken v ≡ false
          go none q = first-none broken (upto n) q (in_upto n v h)
          go (some u) q = absurd (some-ne-none (at u) (sym (by-lowest n (some u) q) ∙ e))

-- no rotations lead from some triangle at v to some other one: they are in different rings
abbrev pub SeveralRings : List ℕ → ℕ → Type 0
SeveralRings ts v = (d : ℕ) × (e : ℕ) × (d ∈ outgoing ts v) × (e ∈ outgoing ts v) × ((k : ℕ) → iterate (rot ts) k d ≢ e)

-- Where rows 3 to 6 find nothing, these are the pinched vertices.
module _ (ts : List ℕ) (T : ℕ) (whole : length ts ≡ 3 * T) (n : ℕ) (S : Sides n T (org ts) (opp ts)) (v : ℕ) where
  unmet : (ds : List ℕ) → eqb (length ds) 0 ≡ false → ring ts ds ≡ false →
      (d : ℕ) × (e : ℕ) × (d ∈ ds) × (e ∈ ds) × (e ∈ rotations ts (length ds) d → ⊥)
  unfolding ring
  unmet [] s r = clash refl s
  unmet (d ∷ ds) s r =
      let f = all-false (λ e. elem e (rotations ts (length (d ∷ ds)) d)) (d ∷ ds) r in
      (d, f.0, Memᴰ.head refl, f.1, λ m. elem-false f.2 m)

  pub several_rings : (pinched ts v ≡ true) ↔ SeveralRings ts v
  unfolding stray
  several_rings = (
    λ p.
        let m = (pinched_means ts v).0 p in
        let u = unmet (outgoing ts v) m.0 m.1 in
        let P = ring_period ts T whole n S v u.0 u.2 in (
          u.0,
          u.1,
          u.2,
          u.3,
          λ k q.
              u.4 (rw (rotations-orbit ts (length (outgoing ts v)) u.0)
              (orbit-more (rot ts) P.0 (length (outgoing ts v)) u.0 P.2 (Memᴰ.cast (sym q) (period_covers (rot ts) u.0 P.0 P.1 k)))),
        ),
    λ a.
        let has = outgoing_in ts v a.2 in
        (pinched_means ts v).1 (
          untrue (stray ts v) (λ s. (stray_means ts v).0 s a.0 has.0 has.1),
          untrue (ring ts (outgoing ts v)) (λ r. let k = ((ring_means ts T whole n S v).0 r).1 a.0 a.1 a.2 a.3 in a.4 k.0 k.1),
        ),
  )
