-- Where repair goes at its start; what holds after each raise, which raise comes next, and how repair can end. Assumes nothing.
use Rattle.std.specs.Prelude.{ℕ, ◌*◌, ◌-◌, ◌/◌, ◌≤◌, ◌<◌, ◌≡◌, ◌≢◌, false, List, [], ◌∷◌, length, ℤ, pos, ◌≤ℤ◌, ◌<ℤ◌}
use Rattle.std.proofs.Math.Option.{some}
use borrow.Author.Tests.{lt-ltb, le-ltb}
use Rattle.definitions.specs.Lists.{first, total, total_abs}
use Rattle.definitions.specs.Mesh.{inner}
use Rattle.definitions.specs.Forward.{weight, forward}
use Rattle.definitions.specs.Repair.{limit, bad, raise, add_to, finished, stopped, out_of_fuel, RepairState, repair_loop, first_raise, repair, changed}
use Rattle.definitions.specs.Refusals.{row9}
use Rattle.laws.specs.Counting.{Distinct}
use Rattle.laws.specs.Lists.{◌∈◌}
use Rattle.laws.specs.Ring.{le-le_z, lt-le_z}
use Rattle.theory_repair.specs.Areas.{Extended}

-- ---- where repair goes at its start

module _ (n : ℕ) (ts ls : List ℕ) (ws : List ℤ) where
  -- the weights after the first raise
  abbrev pub after_first : List ℤ
  after_first = add_to ws 1 (first_raise n ts ls ws)

  -- With a total of 1 or more it is the loop, as it was before C-21.
  pub straight_on : pos 1 ≤ℤ total ws → repair n ts ls ws ≡ repair_loop n ts ls (2 * n - 4) ws []
  unfolding repair
  straight_on h = rw (le-le_z (pos 1) (total ws) h, repair)

  -- With a total below 1 it stops before the first raise, or makes it.
  pub first-refused : total ws <ℤ pos 1 → limit < total_abs after_first → repair n ts ls ws ≡ record { ending = stopped; weights = ws; raises = [] }
  unfolding repair
  first-refused h k = rw (lt-le_z (pos 1) (total ws) h, lt-ltb limit (total_abs after_first) k, repair)

  pub first_made : total ws <ℤ pos 1 → total_abs after_first ≤ limit → repair n ts ls ws ≡ repair_loop n ts ls (2 * n - 5) after_first (1 ∷ [])
  unfolding repair
  first_made h k = rw (lt-le_z (pos 1) (total ws) h, le-ltb limit (total_abs after_first) k, repair)

-- weights that sum to no more than the limit pass 9
pub light_9 : (ws : List ℤ) → total_abs ws ≤ limit → row9 ws ≡ false
unfolding row9
light_9 ws h = le-ltb limit (total_abs ws) h

-- ---- what holds after each raise

-- ws₀ are the weights that repair was given, ws those that it has come to, and rs the triangles that it has raised.
pub record Loop (n : ℕ) (ts ls : List ℕ) (ws₀ ws : List ℤ) (rs : List ℕ) : Type 0 where
  pub length_kept : length ws ≡ length ws₀
  -- inner triangles, none of them twice
  pub ours : (t : ℕ) → t ∈ rs → (0 < t) × (t < length ts / 3)
  pub once : Distinct rs
  -- fully extended, and of greater weight than at the start; the others' weights are as they were
  pub extended : (t : ℕ) → t ∈ rs → Extended ts ls (forward n ts ls ws) t
  pub grown : (t : ℕ) → t ∈ rs → weight ws₀ t <ℤ weight ws t
  pub others : (t : ℕ) → (t ∈ rs → ⊥) → weight ws t ≡ weight ws₀ t
  -- as many weights are changed as there were raises
  pub count : length (changed ts ws₀ ws) ≡ length rs
  pub light : row9 ws₀ ≡ false → row9 ws ≡ false

-- ---- from raise to raise

-- The raise of triangle t by x comes next, at the weights ws and after `count` raises: where the total is 1 or more, that of the first bad triangle; where it
-- is below 1, which is before any raise, the first raise of triangle 1.
pub data NextRaise (n : ℕ) (ts ls : List ℕ) (ws : List ℤ) (count : ℕ) : ℕ → ℤ → Type 0 where
  lowest_bad : (t : ℕ) → pos 1 ≤ℤ total ws → first (bad ts ls (forward n ts ls ws)) (inner ts) ≡ some t →
      NextRaise n ts ls ws count t (raise ts ls (forward n ts ls ws) t)
  first_of_all : count ≡ 0 → total ws <ℤ pos 1 → NextRaise n ts ls ws count 1 (first_raise n ts ls ws)

-- How repair ended: not for want of fuel; with no bad triangle and a total of 1 or more; or before a raise that would have broken 9.
pub record Outcome (n : ℕ) (ts ls : List ℕ) (ws₀ : List ℤ) (m : RepairState) : Type 0 where
  pub loop : Loop n ts ls ws₀ m.weights m.raises
  pub ends : m.ending ≢ out_of_fuel
  pub mends : m.ending ≡ finished → (t : ℕ) → 0 < t → t < length ts / 3 → bad ts ls (forward n ts ls m.weights) t ≡ false
  pub totals : m.ending ≡ finished → pos 1 ≤ℤ total m.weights
  pub stops : m.ending ≡ stopped →
      (t : ℕ) × (x : ℤ) × NextRaise n ts ls m.weights (length m.raises) t x × (limit < total_abs (add_to m.weights t x))
