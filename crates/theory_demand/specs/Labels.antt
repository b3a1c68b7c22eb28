-- An accepted mesh always gets labels, whichever triangle is the outer one: the second demand's last words, over the peeling of document 01.
-- Assumes nothing.
use Rattle.std.specs.Prelude.{ℕ, ◌-◌, ◌+◌, ◌*◌, ◌≤◌, ◌<◌, ◌≡◌, List, [], ◌∷◌, length}
use Rattle.std.proofs.Common.{sym, ◌∙◌, arith}
use Rattle.std.proofs.Math.Option.{some}
use Rattle.definitions.specs.Lists.{iterate}
use Rattle.definitions.specs.Mesh.{labels_length, fronted, tri, next, prev, inner}
use Rattle.definitions.specs.Labels.{outer, start, next_removable, step, peel, label, labels}
use Rattle.definitions.specs.Refusals.{Accepted}
use Rattle.laws.specs.Lists.{◌∈◌}
use Rattle.laws.specs.Edges.{dist_same}
use Rattle.theory_sphere.specs.Accept.{accepted_sphere}
use Rattle.theory_sphere.specs.FrontedRows.{accepted_fronted}
use Rattle.theory_repair.specs.Coordinates.{inner_in}
use Rattle.theory_peeling.specs.NeverStuck.{never_stuck, frontier_ends, passed_inner, passed_all, passed_once}
use Rattle.theory_peeling.specs.Labelled.{passed_labels, labels-below, labels_exact}

-- of a mesh whose outer triangle is in front
pub record AlwaysLabelled (n : ℕ) (ts : List ℕ) : Type 0 where
  -- In each of n - 2 steps there is a vertex that can leave, and then v0 and v1 are left; any number of further steps changes nothing in that.
  pub finds : (k : ℕ) → k < n - 2 → (v : ℕ) × (next_removable ts (iterate (step ts) k (start ts)) ≡ some v)
  pub stops : (k : ℕ) → n - 2 ≤ k → (iterate (step ts) k (start ts)).frontier ≡ outer ts 0 ∷ outer ts 1 ∷ []
  -- Each inner triangle, and no other, is labelled, and only once: 2 at the corner where it was passed, 0 at the next and 1 at the one after it.
  pub labelled : (t : ℕ) → t ∈ inner ts →
      (g : ℕ) × (g ∈ (peel ts n).passed) × (tri g ≡ t) × ((h : ℕ) → h ∈ (peel ts n).passed → tri h ≡ t → h ≡ g)
      × (label (labels n ts) g ≡ 2) × (label (labels n ts) (next g) ≡ 0) × (label (labels n ts) (prev g) ≡ 1)
  pub inside : (g : ℕ) → g ∈ (peel ts n).passed → (g < length ts) × (0 < tri g)
  -- So there are 3(2n - 5) labels, all of them 0, 1 or 2.
  pub number : length (labels n ts) ≡ labels_length n
  pub below : (x : ℕ) → x ∈ labels n ts → x < 3

pub always_labelled : (n outer_place : ℕ) (ts : List ℕ) → Accepted n ts → outer_place < 2 * n - 4 → AlwaysLabelled n (fronted outer_place ts)
always_labelled n outer_place ts accepted there =
    let mesh = fronted outer_place ts in
    let acc = accepted_fronted n outer_place ts there accepted in
    let s = accepted_sphere n mesh acc in
    let size = acc.1 in
    record {
      finds = never_stuck n mesh s size;
      stops = λ k h. let e : n - 2 + (k - (n - 2)) ≡ k = omega arith in rw e at (frontier_ends n mesh s size (k - (n - 2)));
      labelled = λ t m.
          let i = inner_in n mesh s.least size m in
          let p = passed_all n mesh s size t i.0 (omega (arith, i.1, size)) in
          let l = passed_labels n mesh s size p.0 p.1 in (
            p.0,
            p.1,
            p.2,
            (λ h k e. dist_same tri (peel mesh n).passed (passed_once n mesh s size) h p.0 k p.1 (e ∙ sym p.2)),
            l.0,
            l.1,
            l.2,
          );
      inside = passed_inner n mesh s size;
      number = labels_exact n mesh s size;
      below = labels-below n mesh s size;
    }
