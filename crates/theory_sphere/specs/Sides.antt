-- What rows 3 to 6 say together: vertices are in range, and sides come in opposite pairs. What follows from that alone, before anything is known
-- of rings and pieces. Assumes nothing.
use Prim.Native.Nat.{ℕ, zero, suc, ◌*◌, ◌<◌}
use Rattle.std.specs.Prelude.{◌≡◌, ◌≢◌, false, List}
use Rattle.std.proofs.Math.Path.{refl}
use Rattle.std.proofs.Common.{sym, ap, ◌∙◌}
use native.Mathlib.Omega.{arith}
use Rattle.std.proofs.Math.ListN.{length}
use Rattle.definitions.specs.Lists.{iterate}
use Rattle.definitions.specs.Mesh.{next, prev, org, tip, opp, row3, row4, row5, row6}
use Rattle.theory_sphere.specs.Sphere.{Sphere, rotate}
use Rattle.theory_sphere.specs.Darts.{next-prev, prev-below}
use Rattle.theory_sphere.specs.Rows.{Once, opp_is, row3_means, row4_means, row5_means, row6_means, row6-opp}

pub record Sides (n T : ℕ) (org opp : ℕ → ℕ) : Type 0 where
  pub vertex : (d : ℕ) → d < 3 * T → org d < n
  pub dart : (d : ℕ) → d < 3 * T → opp d < 3 * T
  pub twice : (d : ℕ) → d < 3 * T → opp (opp d) ≡ d
  pub reverses : (d : ℕ) → d < 3 * T → org (opp d) ≡ org (next d)
  pub proper : (d : ℕ) → d < 3 * T → org d ≢ org (next d)
  pub once : (d e : ℕ) → d < 3 * T → e < 3 * T → org d ≡ org e → org (next d) ≡ org (next e) → d ≡ e

pub sphere_sides : {n T : ℕ} {org opp : ℕ → ℕ} → Sphere n T org opp → Sides n T org opp
sphere_sides s =
    record { vertex = s.vertex; dart = s.dart; twice = s.twice; reverses = s.reverses; proper = s.proper; once = s.once }

-- rotations are rot, again and again
pub rotate-iterate : (opp : ℕ → ℕ) (k d : ℕ) → rotate opp k d ≡ iterate (λ d. opp (prev d)) k d
unfolding rotate iterate
rotate-iterate opp zero d = refl
rotate-iterate opp (suc k) d = rotate-iterate opp k (opp (prev d))

module _ {n T : ℕ} {org opp : ℕ → ℕ} (S : Sides n T org opp) where
  -- the opposite side runs back
  pub back : (d : ℕ) → d < 3 * T → org (next (opp d)) ≡ org d
  back d h = sym (S.reverses (opp d) (S.dart d h)) ∙ ap org (S.twice d h)

  pub opp-once : (d e : ℕ) → d < 3 * T → e < 3 * T → opp d ≡ opp e → d ≡ e
  opp-once d e h l q = sym (S.twice d h) ∙ ap opp q ∙ S.twice e l

  pub opp-other : (d : ℕ) → d < 3 * T → opp d ≢ d
  opp-other d h e = S.proper d h (ap org (sym e) ∙ S.reverses d h)

  -- `opp` is the only dart that runs back
  pub opp_only : (d e : ℕ) → d < 3 * T → e < 3 * T → org e ≡ org (next d) → org (next e) ≡ org d → opp d ≡ e
  opp_only d e h l p q = S.once (opp d) e (S.dart d h) l (S.reverses d h ∙ sym p) (back d h ∙ sym q)

  -- a rotation stays at its vertex, and no two darts turn to the same one
  pub rot-below : (d : ℕ) → d < 3 * T → opp (prev d) < 3 * T
  rot-below d h = S.dart (prev d) (prev-below T d h)

  pub rot-org : (d : ℕ) → d < 3 * T → org (opp (prev d)) ≡ org d
  rot-org d h = S.reverses (prev d) (prev-below T d h) ∙ ap org (next-prev d)

  pub rot-once : (d e : ℕ) → d < 3 * T → e < 3 * T → opp (prev d) ≡ opp (prev e) → d ≡ e
  rot-once d e h l q = sym (next-prev d) ∙ ap next (opp-once (prev d) (prev e) (prev-below T d h) (prev-below T e l) q) ∙ next-prev e

  pub rotate-below : (k d : ℕ) → d < 3 * T → rotate opp k d < 3 * T
  unfolding rotate
  rotate-below zero d h = h
  rotate-below (suc k) d h = rotate-below k (opp (prev d)) (rot-below d h)

  pub rotate-org : (k d : ℕ) → d < 3 * T → org (rotate opp k d) ≡ org d
  unfolding rotate
  rotate-org zero d h = refl
  rotate-org (suc k) d h = rotate-org k (opp (prev d)) (rot-below d h) ∙ rot-org d h

module _ (ts : List ℕ) (T : ℕ) (whole : length ts ≡ 3 * T) where
  -- rows 3 to 6
  pub sides : (n : ℕ) → row3 ts n ≡ false → row4 ts ≡ false → row5 ts ≡ false → row6 ts ≡ false → Sides n T (org ts) (opp ts)
  unfolding tip
  sides n r3 r4 r5 r6 =
      let within : (d : ℕ) → d < 3 * T → d < length ts = λ d h. omega arith in
      let once : Once ts = (row5_means ts).0 r5 in
      let found = row6-opp ts r6 in
      record {
        vertex = λ d h. (row3_means ts n).0 r3 d (within d h);
        dart = λ d h. let r = (found d (within d h)).0 in omega arith;
        twice = λ d h. let r = found d (within d h) in opp_is ts once (opp ts d) d (within d h) (sym r.2) (sym r.1);
        reverses = λ d h. (found d (within d h)).1;
        proper = λ d h. (row4_means ts).0 r4 d (within d h);
        once = λ d e h l. once d e (within d h) (within e l);
      }

  -- and back, whatever function serves as opposite; then `opp` is that function
  module _ (n : ℕ) (o : ℕ → ℕ) (S : Sides n T (org ts) o) where
    below : (d : ℕ) → d < length ts → d < 3 * T
    below d h = omega arith

    pub sides_once : Once ts
    unfolding tip
    sides_once d e h l = S.once d e (below d h) (below e l)

    pub sides_opp : (d : ℕ) → d < 3 * T → opp ts d ≡ o d
    unfolding tip
    sides_opp d h = opp_is ts sides_once d (o d) (omega (arith, S.dart d h)) (S.reverses d h) (back S d h)

    pub sides_rows : (row3 ts n ≡ false) × (row4 ts ≡ false) × (row5 ts ≡ false) × (row6 ts ≡ false)
    unfolding tip
    sides_rows = (
      (row3_means ts n).1 (λ d h. S.vertex d (below d h)),
      (row4_means ts).1 (λ d h. S.proper d (below d h)),
      (row5_means ts).1 sides_once,
      (row6_means ts).1 (λ d h. (o d, omega (arith, S.dart d (below d h)), S.reverses d (below d h), back S d (below d h))),
    )
