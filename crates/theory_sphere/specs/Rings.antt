-- Row 7: the test of the ring at a vertex, as darts that rotations lead to, and as the count of rotations back to a dart. Assumes nothing.
use Prim.Native.Nat.{ℕ, zero, suc, ◌*◌, ◌≤◌, ◌<◌}
use Rattle.std.proofs.Math.Path.{◌≡◌, refl, ap}
use Rattle.std.proofs.Common.{sym, ◌∙◌, subst, inl, inr, arith, eq-eqb, ne_eqb}
use Rattle.std.specs.Prelude.{◌≢◌, ◌↔◌, true, false, eqb, length, get_or}
use mathlib.Core.List.Memᴰ
use mathlib.Core.List.{List, [], ◌∷◌}
use Rattle.definitions.specs.Lists.{iterate, elem}
use Rattle.definitions.specs.Mesh.{org, opp, rot, rotations, outgoing, ring}
use Rattle.laws.specs.Lists.{◌∈◌, tested, clash, untrue, all_true, true-all, elem-true, true-elem}
use Rattle.laws.specs.Counting.{Distinct}
use Rattle.laws.specs.Orbits.{orbit, Period, orbit_in, in_orbit, orbit-more, period_covers, period_joins, period, period_short, period_full, full_period}
use Rattle.laws.specs.Orbits.{distinct_period, orbit_stays}
use Rattle.theory_sphere.specs.Sphere.{rotate}
use Rattle.theory_sphere.specs.Rows.{outgoing_in, in_outgoing, distinct_outgoing}
use Rattle.theory_sphere.specs.Sides.{Sides, rotate-iterate, rot-below, rot-org, rot-once}

module _ (ts : List ℕ) where
  -- `rotations` is the trail of rot
  pub rotations-orbit : (k d : ℕ) → rotations ts k d ≡ orbit (rot ts) k d
  unfolding rotations orbit
  rotations-orbit zero d = refl
  rotations-orbit (suc k) d = ap (λ (zs : List ℕ). d ∷ zs) (rotations-orbit k (rot ts d))

  -- so they are the rotations that `rotate` counts
  pub rotate-rot : (k d : ℕ) → rotate (opp ts) k d ≡ iterate (rot ts) k d
  unfolding rot
  rotate-rot k d = rotate-iterate (opp ts) k d

  pub rotations_in : {e : ℕ} (k d : ℕ) → e ∈ rotations ts k d → (i : ℕ) × (i < k) × (rotate (opp ts) i d ≡ e)
  rotations_in k d m = let r = orbit_in (rot ts) k d (rw (rotations-orbit k d) at m) in (r.0, r.1, rotate-rot r.0 d ∙ r.2)

  pub in_rotations : (k d i : ℕ) → i < k → rotate (opp ts) i d ∈ rotations ts k d
  in_rotations k d i h = rw (rotations-orbit k d, rotate-rot i d) (in_orbit (rot ts) k d i h)

  pub get_or-rotations : (k d i x : ℕ) → i < k → get_or (rotations ts k d) i x ≡ rotate (opp ts) i d
  unfolding rotations rotate rot
  get_or-rotations zero d i x h = absurd (omega arith)
  get_or-rotations (suc k) d zero x h = refl
  get_or-rotations (suc k) d (suc i) x h = get_or-rotations k (rot ts d) i x (omega arith)

  pub length-rotations : (k d : ℕ) → length (rotations ts k d) ≡ k
  unfolding rotations
  length-rotations zero d = refl
  length-rotations (suc k) d = ap suc (length-rotations k (rot ts d))

  -- a ring has a first dart, and so many rotations from it meet all
  pub ring-true : (ds : List ℕ) → ring ts ds ≡ true → (d : ℕ) × (d ∈ ds) × ((e : ℕ) → e ∈ ds → e ∈ orbit (rot ts) (length ds) d)
  unfolding ring
  ring-true [] t = let z : ◌≡◌ {A = ℕ} 0 1 = cc in absurd (omega arith)
  ring-true (d ∷ ds) t = (
    d,
    Memᴰ.head refl,
    λ e m. rw (rotations-orbit (length (d ∷ ds)) d) at (elem-true e (rotations ts (length (d ∷ ds)) d)
        (all_true (λ e. elem e (rotations ts (length (d ∷ ds)) d)) (d ∷ ds) t m)),
  )

  -- and it is a ring where so many rotations from each of its darts meet all
  pub true-ring : (ds : List ℕ) (x : ℕ) → x ∈ ds → ((d e : ℕ) → d ∈ ds → e ∈ ds → e ∈ orbit (rot ts) (length ds) d) →
      ring ts ds ≡ true
  unfolding ring
  true-ring [] x m h = absurd (Memᴰ.not-nil m)
  true-ring (d ∷ ds) x m h =
      true-all (λ e. elem e (rotations ts (length (d ∷ ds)) d)) (d ∷ ds) (λ e k.
      true-elem {x = e} {xs = rotations ts (length (d ∷ ds)) d} (rw (rotations-orbit (length (d ∷ ds)) d) (h d e (Memᴰ.head refl) k)))

  -- v has a dart, and rotations lead from each of its darts to each
  abbrev pub Rotating : ℕ → Type 0
  Rotating v = ((d : ℕ) × (d ∈ outgoing ts v)) × ((d e : ℕ) → d ∈ outgoing ts v → e ∈ outgoing ts v → (k : ℕ)
      × (iterate (rot ts) k d ≡ e))

  -- at a vertex that no dart leaves the test fails
  pub ring-none : (v : ℕ) → ((d : ℕ) → d < length ts → org ts d ≢ v) → ring ts (outgoing ts v) ≡ false
  ring-none v h =
      untrue (ring ts (outgoing ts v)) (λ t.
      let r = ring-true (outgoing ts v) t in
      let l = outgoing_in ts v r.1 in
      h r.0 l.0 l.1)

-- Where rows 3 to 6 find nothing, rotations lead round the darts at a vertex.
module _ (ts : List ℕ) (T : ℕ) (whole : length ts ≡ 3 * T) (n : ℕ) (S : Sides n T (org ts) (opp ts)) (v : ℕ) where
  abbrev at : List ℕ
  at = outgoing ts v

  -- a rotation leads from a dart at v to a dart at v, and from no two to the same
  pub rot_stays : (d : ℕ) → d ∈ at → rot ts d ∈ at
  unfolding rot
  rot_stays d m =
      let r = outgoing_in ts v m in
      let h : d < 3 * T = omega (arith, r.0) in
      in_outgoing ts v (rot ts d) (omega (arith, rot-below S d h)) (rot-org S d h ∙ r.1)

  pub rot_apart : (d e : ℕ) → d ∈ at → e ∈ at → rot ts d ≡ rot ts e → d ≡ e
  unfolding rot
  rot_apart d e m k q =
      let r = (outgoing_in ts v m).0 in
      let s = (outgoing_in ts v k).0 in
      rot-once S d e (omega arith) (omega arith) q

  -- the test passes just where rotations lead from each dart at v to each
  pub ring_means : (ring ts (outgoing ts v) ≡ true) ↔ Rotating ts v
  ring_means = (
    λ t.
        let r = ring-true ts at t in
        let p = period (rot ts) at rot_stays rot_apart r.0 r.1 in
        let leads : (y : ℕ) → y ∈ at → (k : ℕ) × (iterate (rot ts) k r.0 ≡ y) = λ y m.
        let s = orbit_in (rot ts) (length at) r.0 (r.2 y m) in (s.0, s.2) in
        let f = full_period (rot ts) at rot_stays rot_apart (distinct_outgoing ts v) r.0 p.0 r.1 p.1 leads in
        ((r.0, r.1), λ d e m k. period_joins (rot ts) r.0 p.0 p.1 (rw f (r.2 d m)) (rw f (r.2 e k))),
    λ w. true-ring ts at w.0.0 w.0.1 (λ d e m k.
        let s = w.1 d e m k in
        let p = period (rot ts) at rot_stays rot_apart d m in
        orbit-more (rot ts) p.0 (length at) d (period_short (rot ts) at rot_stays rot_apart d p.0 m p.1)
        (Memᴰ.cast (sym s.1) (period_covers (rot ts) d p.0 p.1 s.0))),
  )

  -- the rotations from any dart at v come back to it
  pub ring_period : (d : ℕ) → d ∈ outgoing ts v → (r : ℕ) × (Period (rot ts) d r) × (r ≤ length (outgoing ts v))
  ring_period d m = let p = period (rot ts) at rot_stays rot_apart d m in (p.0, p.1, period_short (rot ts) at rot_stays rot_apart d p.0 m p.1)

  -- The test passes just where the rotations from a dart at v, whichever it is, come back to it first after as many rotations as v has darts.
  pub ring-rotations : (d r : ℕ) → d ∈ outgoing ts v → Period (rot ts) d r → ring ts (outgoing ts v) ≡ eqb r (length (outgoing ts v))
  ring-rotations d r m p =
      elim (tested (ring ts at)) [
        | inl t ↦ t ∙ sym (eq-eqb r (length at) (full_period (rot ts) at rot_stays rot_apart (distinct_outgoing ts v) d r m p
            (λ y k. (ring_means.0 t).1 d y m k)))
        | inr t ↦ t ∙ sym (ne_eqb r (length at) (λ e. clash (ring_means.1 ((d, m), joins (rw e at p))) t))
      ]
    where
      joins : Period (rot ts) d (length at) → (x y : ℕ) → x ∈ at → y ∈ at → (k : ℕ) × (iterate (rot ts) k x ≡ y)
      joins q x y a b =
          let met = period_full (rot ts) at rot_stays rot_apart d m q in
          period_joins (rot ts) d (length at) q (met x a) (met y b)

  -- Where the test passes, so many rotations from any dart at v meet all of v's darts, each once.
  module _ (passes : ring ts (outgoing ts v) ≡ true) (d : ℕ) (m : d ∈ outgoing ts v) where
    pub rotations_period : Period (rot ts) d (length (outgoing ts v))
    rotations_period =
        let p = period (rot ts) at rot_stays rot_apart d m in
        let e = full_period (rot ts) at rot_stays rot_apart (distinct_outgoing ts v) d p.0 m p.1 (λ y k. (ring_means.0 passes).1 d y m k) in
        subst (Period (rot ts) d) e p.1

    pub rotations-all : (e : ℕ) → e ∈ outgoing ts v → e ∈ rotations ts (length (outgoing ts v)) d
    rotations-all e k = rw (rotations-orbit ts (length at) d) (period_full (rot ts) at rot_stays rot_apart d m rotations_period e k)

    pub rotations_distinct : Distinct (rotations ts (length (outgoing ts v)) d)
    rotations_distinct = rw (rotations-orbit ts (length at) d) (distinct_period (rot ts) at rot_stays rot_apart d (length at) m rotations_period)

  -- and any rotations stay at v
  pub rotations_stay : (k d : ℕ) → d ∈ outgoing ts v → (e : ℕ) → e ∈ rotations ts k d → e ∈ outgoing ts v
  rotations_stay k d m e l = orbit_stays (rot ts) at rot_stays rot_apart k d m e (rw (rotations-orbit ts k d) at l)
