-- What the work on the tables follows: a peeling of the definition that stands there, its next vertex, and the run to its end. Assumes nothing.
use Prim.Native.Nat.{ℕ, suc, ◌*◌, ◌/◌, ◌<◌}
use Rattle.std.specs.Prelude.{◌≡◌, refl}
use mathlib.Core.List.{List, [], ◌∷◌, ◌++◌}
use Rattle.std.proofs.Math.ListN.{length}
use Rattle.definitions.specs.Lists.{iterate}
use Rattle.definitions.specs.Mesh.{org, opp}
use Rattle.definitions.specs.Labels.{step}
use Rattle.laws.specs.Lists.{◌∈◌}
use Rattle.laws.specs.Counting.{Distinct}
use Rattle.theory_sphere.specs.Sphere.{Sphere}
use Rattle.theory_peeling.specs.Inside.{Inv}
use Rattle.theory_peeling.specs.Fan.{Leaves}
use Rattle.theory_peeling.specs.Peel.{Peel, trace, passes, final}
use Rattle.theory_peeling.specs.Vertices.{state}
use Rattle.labels_tables.specs.Peeling.{Peeling}
use Rattle.labels_tables.specs.LabelledTables.{Stored}
use Rattle.labels_model.specs.Model.{remove_next, remove_all}
use Rattle.labels_model.specs.Counters.{Meshed}
use Rattle.labels_model.specs.Candidates.{Candidates}
use Rattle.labels_model.specs.MinSearch.{Lowest}
use Rattle.labels_model.specs.LabelTriangle.{Coded}
use Rattle.labels_model.specs.FrontierInvariant.{Stood}

pub remove_all-suc : (n k i : ℕ) (t : Peeling) → remove_all n (suc k) i t ≡ remove_all n k (suc i) (remove_next n i t)
unfolding remove_all
remove_all-suc n k i t = refl

module _ (n : ℕ) (ts : List ℕ) (s : Sphere n (length ts / 3) (org ts) (opp ts)) (len : 3 * (length ts / 3) ≡ length ts) where
  abbrev T : ℕ
  T = length ts / 3

  abbrev o : ℕ → ℕ
  o = org ts

  abbrev op : ℕ → ℕ
  op = opp ts

  -- ---- the vertex that leaves next

  pub record Turn (R D P : List ℕ) (t : Peeling) : Type 0 where
    pub e : ℕ
    pub e' : ℕ
    pub fan : List ℕ
    pub after : List ℕ
    pub leaves : Leaves T o op R D e e' fan after
    pub stepped : step ts (state ts R D P) ≡ state ts (o e ∷ R) after (P ++ fan)
    pub lowest : Lowest n t (o e)

  -- what the tables hold of a peeling that has removed R, i vertices, has the frontier's darts D and has passed P
  pub record Standing (i : ℕ) (R D P : List ℕ) (t : Peeling) : Type 0 where
    pub inv : Inv n T o op R D
    pub distinct : Distinct R
    pub below : (x : ℕ) → x ∈ R → x < n
    pub many : length R ≡ i
    pub stood : Stood n ts R D P t
    pub candidates : Candidates n n t

  -- ---- the run

  -- From tables t, of a peeling that has removed R, has the frontier's darts D and has passed P, to tables t' after k vertices more, the i-th and so on.
  pub record Followed (k i : ℕ) (R D P : List ℕ) (t t' : Peeling) : Type 0 where
    pub peel : Peel n T o op R D
    pub ends : iterate (step ts) k (state ts R D P) ≡ state ts (final peel) (2 ∷ []) (P ++ passes peel)
    pub meshed : Meshed ts t'
    pub coded : Coded (P ++ passes peel) t'
    pub stored : Stored n T o op t' i (trace peel)
    pub lefts : (r : ℕ) → r ∈ R → t'.left r ≡ t.left r
    pub rights : (r : ℕ) → r ∈ R → t'.right r ≡ t.right r
    pub order : (j : ℕ) → j < i → t'.order j ≡ t.order j
