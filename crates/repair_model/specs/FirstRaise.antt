-- How the loop of repair is entered: with a total of 1 or more at the lent weights, and otherwise after the first raise, of triangle 1; and where it finds its
-- first bad triangle. Assumes nothing.
use Rattle.std.specs.Prelude.{ℕ, ◌-◌, ◌*◌, ◌/◌, ◌≤◌, ◌<◌, ◌≡◌, refl, List, [], ◌∷◌, ℤ, pos, ◌-ℤ◌, ◌≤ℤ◌, ◌<ℤ◌}
use Rattle.std.proofs.Common.{sym, ◌∙◌}
use Rattle.std.proofs.Math.Path.{ap}
use native.Mathlib.Omega.{arith}
use Rattle.std.proofs.Math.Decide.{dec_lt}
use Rattle.std.proofs.Math.ListN.{length}
use Rattle.definitions.specs.Lists.{total, total_abs}
use Rattle.definitions.specs.Mesh.{weights_length}
use Rattle.definitions.specs.Forward.{forward}
use Rattle.definitions.specs.Repair.{limit, bad, raise, max_z, add_to, stopped, first_raise, repair}
use Rattle.theory_realizer.specs.Units.{Units, unit0, unit1}
use Rattle.theory_crossings.specs.UnitMaps.{units}
use Rattle.theory_repair.specs.Areas.{good}
use Rattle.theory_repair.specs.Repairs.{straight_on, first-refused, first_made, light_9}
use Rattle.theory_repair.specs.Raises.{max_z-left, length-add_to, raise_extends}
use Rattle.scratch_tables.specs.Tables.{tables_of}
use Rattle.repair_model.specs.Raise.{Drawn, Moved, drawn_first, moved_drawn}
use Rattle.repair_model.specs.Search.{bad_at, raise_at, Found}
use Rattle.repair_model.specs.Ready.{Ready, tells_bad, tells_raise}
use Rattle.repair_model.specs.LoopState.{Reached, State}

-- ---- on a mesh whose trace is stored, with the coordinates of the lent weights

module _ (n : ℕ) (ts ls : List ℕ) (ws bs s : List ℤ) (Y : Ready n ts ls s) (lent : length ws ≡ weights_length n) (light : total_abs ws ≤ limit)
    (drawn : bs ≡ forward n ts ls ws) where
  unit_maps : Units n ts ls
  unit_maps = units ts ls Y.sphere Y.size Y.realizer

  pub drawn_lent : Drawn n ts ls ws bs
  drawn_lent = rw drawn (drawn_first n ts ls unit_maps Y.size ws lent (light_9 ws light))

  -- no first raise is due
  pub reached_straight : pos 1 ≤ℤ total ws → (sum : ℕ) → sum ≡ total_abs ws → Reached n ts ls ws ws bs s sum 0 1
  reached_straight h sum summed =
      record {
        ready = Y;
        lent = lent;
        long = lent;
        light = light;
        summed = summed;
        drawn = drawn_lent;
        raises = [];
        counted = refl;
        rest = let e : 2 * n - 4 - 0 ≡ 2 * n - 4 = omega arith in rw e (sym (straight_on n ts ls ws h));
        positive = omega arith;
        extended = λ i p q. absurd (omega arith);
      }

  module _ (low : total ws <ℤ pos 1) (x : ℤ) (ex : x ≡ max_z (raise_at (tables_of s) bs 1) (pos 1 -ℤ total ws)) where
    least : 3 ≤ n
    least = Y.sphere.least

    pub is_first-raise : x ≡ first_raise n ts ls ws
    unfolding first_raise
    is_first-raise = ex ∙ ap (λ (y : ℤ). max_z y (pos 1 -ℤ total ws)) (tells_raise n ts ls s Y ws bs drawn_lent 1 (omega arith) (omega (arith, least)))

    -- it would break 9
    pub stops_first : limit < total_abs (add_to ws 1 x) → repair n ts ls ws ≡ record { ending = stopped; weights = ws; raises = [] }
    stops_first h = first-refused n ts ls ws low (rw is_first-raise at h)

    -- it is made: triangle 1 is extended
    pub reached-first : total_abs (add_to ws 1 x) ≤ limit → (bs' : List ℤ) → Moved n (unit0 n ts ls 1) (unit1 n ts ls 1) x bs bs' →
        (sum : ℕ) → sum ≡ total_abs (add_to ws 1 x) → Reached n ts ls ws (add_to ws 1 x) bs' s sum 1 2
    unfolding first_raise
    reached-first h bs' M sum summed =
        record {
          ready = Y;
          lent = lent;
          long = length-add_to ws 1 x ∙ lent;
          light = h;
          summed = summed;
          drawn = moved_drawn n ts ls unit_maps Y.size ws lent 1 (omega arith) inside x bs bs' drawn_lent M;
          raises = 1 ∷ [];
          counted = refl;
          rest =
              let e : 2 * n - 4 - 1 ≡ 2 * n - 5 = omega arith in
              rw (e, is_first-raise) (sym (first_made n ts ls ws low (rw is_first-raise at h)));
          positive = omega arith;
          extended = λ i p q.
              let e : i ≡ 1 = omega arith in
              rw e (raise_extends n ts ls Y.size unit_maps ws lent 1 (omega arith) inside x enough);
        }
      where
        inside : 1 < length ts / 3
        inside = omega (arith, Y.size, least)

        enough : raise ts ls (forward n ts ls ws) 1 ≤ℤ x
        enough = rw is_first-raise (max_z-left (raise ts ls (forward n ts ls ws) 1) (pos 1 -ℤ total ws))

-- ---- the first bad triangle: those below `full` are extended, and so not bad

pub found_first : (n : ℕ) (ts ls : List ℕ) (ws₀ ws bs s : List ℤ) (sum count full t : ℕ) → Reached n ts ls ws₀ ws bs s sum count full →
    Found (bad_at (tables_of s) bs) full (2 * n - 4) t → State n ts ls ws₀ ws bs s sum count full t
found_first n ts ls ws₀ ws bs s sum count full t R F =
    record {
      reached = R;
      lower = F.least;
      most = F.most;
      before = λ i p q.
          elim (dec_lt i full) [
            | yes l ↦ good n ts ls size unit_maps' ws i p (omega (arith, size, F.most)) (R.extended i p l)
            | no l ↦ sym (tells i p (omega (arith, F.most))) ∙ F.before i (omega (arith, l)) q
          ];
      here = λ q. sym (tells t (omega (arith, R.positive, F.least)) q) ∙ F.hit q;
    }
  where
    size : length ts ≡ 3 * (2 * n - 4)
    size = R.ready.size

    unit_maps' : Units n ts ls
    unit_maps' = units ts ls R.ready.sphere size R.ready.realizer

    tells : (i : ℕ) → 0 < i → i < 2 * n - 4 → bad_at (tables_of s) bs i ≡ bad ts ls (forward n ts ls ws) i
    tells i p q = tells_bad n ts ls s R.ready ws bs R.drawn i p q
