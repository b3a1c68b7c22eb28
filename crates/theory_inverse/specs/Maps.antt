-- The forward map and the backward map, each as a drawing. Assumes nothing.
use Rattle.std.specs.Prelude.{ℕ, ◌+◌, ◌-◌, ◌*◌, ◌/◌, ◌≤◌, ◌<◌, ◌≡◌, cond, List, eqb, length, ℤ, pos, ◌+ℤ◌, ◌-ℤ◌}
use Rattle.std.proofs.Math.Path.{refl}
use Rattle.std.proofs.Common.{ap, ◌∙◌, arith}
use Rattle.definitions.specs.Mesh.{tri, next, prev, org, opp}
use Rattle.definitions.specs.Labels.{outer, label}
use Rattle.definitions.specs.Forward.{weight, walk, path, crosses, crossed_weight}
use Rattle.definitions.specs.Backward.{coordinate, slope, weight_at}
use Rattle.laws.specs.Integers.{int, z+, z-}
use Rattle.laws.specs.Sums.{sum, sum_same}
use Rattle.laws.specs.Multiples.{times, times-cond, weigh, weigh-plus, weigh-same, weigh-none, weigh_each, weigh-one}
use Rattle.theory_sphere.specs.Sphere.{Sphere}
use Rattle.theory_sphere.specs.Darts.{tri-below}
use Rattle.theory_realizer.specs.Realizer.{Realizer}
use Rattle.theory_crossings.specs.Colours.{Apex}
use Rattle.theory_crossings.specs.Walks.{hits, hits-side, flow, colour_two, last-side}
use Rattle.theory_crossings.specs.Paths.{crossed, meets-over, meets-onward}
use Rattle.theory_crossings.specs.Tests.{named, Towards, corners_are, walking, pathing}
use Rattle.theory_crossings.specs.UnitMaps.{crosses-once}
use Rattle.theory_inverse.specs.Drawings.{Drawing}
use Rattle.theory_inverse.specs.Rows.{Cornered}
use Rattle.theory_inverse.specs.Slopes.{slope_by, difference_is, slope-by, slope-opp}

-- ---- a difference, and the sum that it comes from

pub plus-less : (a b s : ℤ) → s ≡ a -ℤ b → a ≡ s +ℤ b
plus-less a b s e = omega (int, z- a b, z+ s b)

pub less-plus : (a b s : ℤ) → a ≡ s +ℤ b → a -ℤ b ≡ s
less-plus a b s e = omega (int, z- a b, z+ s b)

plus_less2 : (a b c s : ℤ) → s ≡ a -ℤ b -ℤ c → a ≡ s +ℤ b +ℤ c
plus_less2 a b c s e = omega (int, z- a b, z- (a -ℤ b) c, z+ s b, z+ (s +ℤ b) c)

pub less_plus2 : (a b c s : ℤ) → a ≡ s +ℤ b +ℤ c → a -ℤ b -ℤ c ≡ s
less_plus2 a b c s e = omega (int, z- a b, z- (a -ℤ b) c, z+ s b, z+ (s +ℤ b) c)

module _ {n : ℕ} (ts ls : List ℕ) (sph : Sphere n (length ts / 3) (org ts) (opp ts)) (whole : length ts ≡ 3 * (length ts / 3))
    (R : Realizer n (length ts / 3) (org ts) (opp ts) (label ls) (outer ts)) where
  -- the weight of the triangle of corner g, as the backward map has it
  pub weight_at_is : (bs : List ℤ) (g : ℕ) → Apex (length ts / 3) (label ls) g →
      weight_at ts ls bs (tri g) ≡ slope ts ls bs (next g) -ℤ slope ts ls bs g -ℤ slope ts ls bs (prev g)
  unfolding weight_at
  weight_at_is bs g a = rw (corners_are ts ls sph whole R g a).0

  -- ---- backward

  pub backward_drawing : (bs : List ℤ) → Cornered ts bs →
      Drawing (length ts / 3) (org ts) (opp ts) (label ls) (outer ts) (weight_at ts ls bs) (slope ts ls bs) (coordinate bs 0) (coordinate bs 1)
  unfolding slope_by
  backward_drawing bs K =
      record {
        side = slope-opp ts ls sph R bs K;
        two = λ d p. slope-by ts ls sph R bs K 2 d (omega arith) p;
        flow = λ g a. plus_less2 (slope ts ls bs (next g)) (slope ts ls bs g) (slope ts ls bs (prev g)) (weight_at ts ls bs (tri g)) (weight_at_is bs g a);
        down0 =
            λ d p.
            plus-less (coordinate bs 1 (org ts d)) (coordinate bs 1 (org ts (next d))) (slope ts ls bs d)
            (slope-by ts ls sph R bs K 0 d (omega arith) p ∙ difference_is ts ls bs 1 d);
        down1 =
            λ d p.
            plus-less (coordinate bs 0 (org ts d)) (coordinate bs 0 (org ts (next d))) (slope ts ls bs d)
            (slope-by ts ls sph R bs K 1 d (omega arith) p ∙ difference_is ts ls bs 0 d);
        zero0 = K.v0;
        zero1 = K.v1.0;
      }

  -- ---- forward

  module _ (ws : List ℤ) where
    -- the weights whose walks cross the side of d, and those whose walks cross the colour-c path of i
    abbrev pub through : ℕ → ℤ
    through d = weigh (λ u. hits (opp ts) (walk ts ls (length ts / 3) u) d) (weight ws) 1 (length ts / 3 - 1)

    abbrev pub reached : ℕ → ℕ → ℤ
    reached c i = weigh (λ u. crossed (opp ts) (walk ts ls (length ts / 3) u) (path ts ls c n i)) (weight ws) 1 (length ts / 3 - 1)

    -- FLOW, summed over all weights
    through_flow : (g : ℕ) → Apex (length ts / 3) (label ls) g → through (next g) ≡ weight ws (tri g) +ℤ through g +ℤ through (prev g)
    through_flow g a =
        let T = length ts / 3 in
        let x : ℕ → ℕ → ℕ = λ d u. hits (opp ts) (walk ts ls T u) d in
        let own : ℕ → ℕ = λ u. cond (eqb (tri g) u) 1 0 in
        let t = tri-below T g a.below in
        weigh-plus (x (next g)) (λ u. own u + x g u) (x (prev g)) (weight ws) 1 (T - 1)
        (λ u i j. flow sph R (named ts) (walk ts ls T) (walking ts ls sph whole R) g a u (omega arith))
        ∙ ap (λ (z : ℤ). z +ℤ through (prev g))
        (weigh-plus (λ u. own u + x g u) own (x g) (weight ws) 1 (T - 1) (λ u i j. refl)
        ∙ ap (λ (z : ℤ). z +ℤ through g) (weigh-one (tri g) (weight ws) 1 (T - 1) a.inner (omega arith)))

    reached-onward : (c : ℕ) → c < 2 → (d : ℕ) → Towards ts ls c d → reached c (org ts d) ≡ through d +ℤ reached c (org ts (next d))
    reached-onward c l d p =
        let T = length ts / 3 in
        let x : ℕ → ℕ = λ u. hits (opp ts) (walk ts ls T u) d in
        let y : ℕ → ℕ → ℕ = λ i u. crossed (opp ts) (walk ts ls T u) (path ts ls c n i) in
        weigh-plus (y (org ts d)) x (y (org ts (next d))) (weight ws) 1 (T - 1)
        (λ u i j. meets-onward sph R (named ts) (walk ts ls T) (walking ts ls sph whole R) (λ c i. path ts ls c n i) (pathing ts ls sph whole R) u i
        (omega arith) c l d p)

    reached-over : (c : ℕ) → reached c (outer ts c) ≡ pos 0
    reached-over c =
        let T = length ts / 3 in
        weigh-none (λ u. crossed (opp ts) (walk ts ls T u) (path ts ls c n (outer ts c))) (weight ws) 1 (T - 1)
        (λ u i j. meets-over sph R (named ts) (walk ts ls T) (walking ts ls sph whole R) (λ c i. path ts ls c n i) (pathing ts ls sph whole R) u i
        (omega arith) c)

    pub forward_drawing : Drawing (length ts / 3) (org ts) (opp ts) (label ls) (outer ts) (weight ws) through (reached 1) (reached 0)
    forward_drawing =
        let T = length ts / 3 in
        record {
          side =
              λ d h.
              weigh-same (λ u. hits (opp ts) (walk ts ls T u) (opp ts d)) (λ u. hits (opp ts) (walk ts ls T u) d) (weight ws) 1 (T - 1)
              (λ u i j. hits-side sph R (named ts) (walk ts ls T u) d h);
          two =
              λ d p.
              weigh-none (λ u. hits (opp ts) (walk ts ls T u) d) (weight ws) 1 (T - 1)
              (λ u i j. colour_two sph R (named ts) (walk ts ls T) (walking ts ls sph whole R) p u (omega arith));
          flow = through_flow;
          down0 = λ d p. reached-onward 0 (omega arith) d p;
          down1 = λ d p. reached-onward 1 (omega arith) d p;
          zero0 = reached-over 0;
          zero1 = reached-over 1;
        }

    -- all weights go through the side from v1 to v0
    pub through-last : through 2 ≡ sum (weight ws) 1 (length ts / 3 - 1)
    through-last =
        let T = length ts / 3 in
        weigh_each (λ u. hits (opp ts) (walk ts ls T u) 2) (weight ws) 1 (T - 1)
        (λ u i j. last-side sph R (named ts) (walk ts ls T) (walking ts ls sph whole R) u i (omega arith))

    -- the definition's sums are these
    crossed_weight_is : (c i : ℕ) → crossed_weight n ts ls ws c i ≡ sum (λ t. cond (crosses n ts ls c i t) (weight ws t) (pos 0)) 1 (length ts / 3 - 1)
    unfolding crossed_weight
    crossed_weight_is c i = refl

    -- b0 and b1 of a vertex: what the definition sums over a set of triangles
    pub crossed_weight-reached : (i : ℕ) → i < n → (crossed_weight n ts ls ws 1 i ≡ reached 1 i) × (crossed_weight n ts ls ws 0 i ≡ reached 0 i)
    crossed_weight-reached i h =
        let T = length ts / 3 in
        let term : ℕ → ℕ → ℤ = λ c t. cond (crosses n ts ls c i t) (weight ws t) (pos 0) in
        let y : ℕ → ℕ → ℤ = λ c u. times (crossed (opp ts) (walk ts ls T u) (path ts ls c n i)) (weight ws u) in
        let once : (u : ℕ) → 1 ≤ u → u < 1 + (T - 1) → (term 1 u ≡ y 1 u) × (term 0 u ≡ y 0 u) =
        λ u j k.
        let o = crosses-once ts ls sph whole R u i j (omega arith) h in (
          times-cond (crosses n ts ls 1 i u) (crossed (opp ts) (walk ts ls T u) (path ts ls 1 n i)) (weight ws u) o.0,
          times-cond (crosses n ts ls 0 i u) (crossed (opp ts) (walk ts ls T u) (path ts ls 0 n i)) (weight ws u) o.1,
        ) in (
          crossed_weight_is 1 i ∙ sum_same (term 1) (y 1) 1 (T - 1) (λ u j k. (once u j k).0),
          crossed_weight_is 0 i ∙ sum_same (term 0) (y 0) 1 (T - 1) (λ u j k. (once u j k).1),
        )
