-- The labels of the triangles that were passed, and what the passing of one leaves as it was. Assumes nothing.
use Rattle.std.specs.Prelude.{ℕ, ◌%◌, ◌≤◌, ◌<◌, ◌≡◌, List}
use Rattle.std.proofs.Math.Path.{refl}
use Rattle.std.proofs.Common.{arith}
use Rattle.definitions.specs.Mesh.{tri}
use Rattle.laws.specs.Lists.{◌∈◌}
use Rattle.labels_tables.specs.Peeling.{Peeling, set_apex, set_left, set_right}
use Rattle.labels_model.specs.Model.{add_frontier_dart, pass_triangle}

-- the darts from 3 on are those of inner triangles
pub inner-dart : (d : ℕ) → 0 < tri d → 3 ≤ d
unfolding tri
inner-dart d h = omega arith

pub dart-inner : (d : ℕ) → 3 ≤ d → 0 < tri d
unfolding tri
dart-inner d h = omega arith

-- label 2 is at the darts that were passed
abbrev pub Coded : List ℕ → Peeling → Type 0
Coded P t = (g : ℕ) → g ∈ P → t.apex (tri g) ≡ g % 3

-- what the passing of a triangle leaves as it was
module _ (g : ℕ) (t : Peeling) where
  pub pass_turn : (pass_triangle g t).turn ≡ t.turn
  unfolding pass_triangle add_frontier_dart set_left set_right set_apex
  pass_turn = refl

  pub pass_origin : (pass_triangle g t).origin ≡ t.origin
  unfolding pass_triangle add_frontier_dart set_left set_right set_apex
  pass_origin = refl

  pub pass_degree : (pass_triangle g t).degree ≡ t.degree
  unfolding pass_triangle add_frontier_dart set_left set_right set_apex
  pass_degree = refl

  pub pass_sets : (pass_triangle g t).sets ≡ t.sets
  unfolding pass_triangle add_frontier_dart set_left set_right set_apex
  pass_sets = refl

  pub pass_order : (pass_triangle g t).order ≡ t.order
  unfolding pass_triangle add_frontier_dart set_left set_right set_apex
  pass_order = refl
