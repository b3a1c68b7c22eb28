-- What scratch holds on an accepted mesh once its corners are labelled: the stage that the maps and repair start from. Assumes nothing.
-- `ls` is any list of labels. Nothing is said of how they were found, nor of the words that the maps do not read.
use Rattle.std.specs.Prelude.{ℕ, zero, suc, ◌+◌, ◌-◌, ◌*◌, ◌/◌, ◌%◌, ◌≤◌, ◌<◌, ◌≡◌, refl, cond, List, ltb, length, ℤ}
use Rattle.std.proofs.Common.{sym, ◌∙◌, arith, lt-ltb, le-ltb}
use Rattle.std.proofs.Math.Path.{ap}
use Rattle.definitions.specs.Mesh.{triangles_length, tri, next, prev, org, opp}
use Rattle.definitions.specs.Labels.{outer, label}
use Rattle.theory_sphere.specs.Darts.{prev-next, next-below}
use Rattle.theory_sphere.specs.Sphere.{Sphere}
use Rattle.theory_realizer.specs.Trace.{Trace, done, step}
use Rattle.theory_realizer.specs.Realizer.{Realizer}
use Rattle.scratch_tables.specs.Tables.{dart_in, vertex_in}
use Rattle.labels_tables.specs.Peeling.{Peeling, peeling}

-- ---- what is read from the tables

-- the dart of the opposite side
unfoldable pub opposite_in : Peeling → ℕ → ℕ
opposite_in p d = p.turn (next d)

-- the label of the dart's corner: 3 for the corners of the outer triangle, which have none
unfoldable pub label_in : Peeling → ℕ → ℕ
label_in p d = cond (ltb d 3) 3 ((d % 3 + 5 - p.apex (tri d)) % 3)

-- the dart at the corner of triangle t with label 2; those with labels 0 and 1 are the next and the previous one
unfoldable pub apex_dart : Peeling → ℕ → ℕ
apex_dart p t = 3 * t + p.apex t

-- the words of each dart and of each inner triangle
pub record Labelled (n : ℕ) (ts ls : List ℕ) (s : List ℤ) : Type 0 where
  pub most : n ≤ 4096
  pub room : 10 * n ≤ length s
  pub size : length ts ≡ triangles_length n
  pub sphere : Sphere n (length ts / 3) (org ts) (opp ts)
  pub turns : (d : ℕ) → d < length ts → (peeling s).turn d ≡ opp ts (prev d)
  pub origins : (d : ℕ) → d < length ts → (peeling s).origin d ≡ org ts d
  pub apexes : (t : ℕ) → 0 < t → t < length ts / 3 → (peeling s).apex t < 3
  pub labels : (d : ℕ) → d < length ts → label_in (peeling s) d ≡ label ls d

-- The trace of a peeling as tables, from step k on: `order k` is the vertex that leaves, and of a vertex that has left `left` is the dart to its left
-- neighbour on the frontier and `right` the dart from its right neighbour, as they stood when it left. There are n - 2 steps.
module _ (n T : ℕ) (org opp : ℕ → ℕ) (p : Peeling) where
  abbrev pub Stored : {C : List ℕ} → ℕ → Trace T org opp C → Type 0
  Stored k done = k ≡ n - 2
  Stored k (step e e' gs h o f s tr) = (p.order k ≡ org e) × (p.left (org e) ≡ e) × (p.right (org e) ≡ e') × Stored (suc k) tr

pub record Peeled (n : ℕ) (ts ls : List ℕ) (s : List ℤ) : Type 0 where
  pub labelled : Labelled n ts ls s
  pub realizer : Realizer n (length ts / 3) (org ts) (opp ts) (label ls) (outer ts)
  pub stored : Stored n (length ts / 3) (org ts) (opp ts) (peeling s) 0 realizer.trace

-- the outer triangle's corners have no label
pub outer-label : (ls : List ℕ) (d : ℕ) → d < 3 → label ls d ≡ 3
unfolding label
outer-label ls zero h = refl
outer-label ls (suc zero) h = refl
outer-label ls (suc (suc zero)) h = refl
outer-label ls (suc (suc (suc d))) h = absurd (omega arith)

-- ---- labels by the corner that has label 2

pub inner-label : (p : Peeling) (d : ℕ) → 3 ≤ d → label_in p d ≡ (d % 3 + 5 - p.apex (tri d)) % 3
unfolding label_in
inner-label p d h = rw (le-ltb d 3 h)

pub rim-label : (p : Peeling) (d : ℕ) → d < 3 → label_in p d ≡ 3
unfolding label_in
rim-label p d h = rw (lt-ltb d 3 h)

-- a dart of an inner triangle with label 2 is the one at that corner
pub apex_dart_is : (p : Peeling) (t g : ℕ) → 0 < t → tri g ≡ t → p.apex t < 3 → label_in p g ≡ 2 → apex_dart p t ≡ g
unfolding apex_dart tri
apex_dart_is p t g h e low two =
    let l : (g % 3 + 5 - p.apex t) % 3 ≡ 2 = ap (λ (k : ℕ). (g % 3 + 5 - p.apex k) % 3) (sym e) ∙ sym (inner-label p g (omega arith)) ∙ two in
    omega arith

-- on a labelled mesh these are the opposite and the label
module _ {n : ℕ} {ts ls : List ℕ} {s : List ℤ} (l : Labelled n ts ls s) where
  -- all darts are below 3T, and fit 16 bits
  pub whole : length ts ≡ 3 * (length ts / 3)
  whole = omega (arith, l.size)

  pub few : length ts < 65536
  few = omega (arith, l.size, l.most)

  pub opp_in : (d : ℕ) → d < length ts → opp ts d < length ts
  opp_in d h = omega (arith, l.sphere.dart d (omega (arith, whole)), whole)

  -- scratch has a word for each dart and each vertex
  pub dart_room : (d : ℕ) → d < length ts → dart_in (length s) d
  dart_room d h = omega (arith, l.size, l.room)

  pub vertex_room : (v : ℕ) → v < n → vertex_in (length s) v
  vertex_room v h = omega (arith, l.room)

  pub opposite_in_is : (d : ℕ) → d < length ts → opposite_in (peeling s) d ≡ opp ts d
  unfolding opposite_in
  opposite_in_is d h = l.turns (next d) (omega (arith, next-below (length ts / 3) d (omega (arith, whole)), whole)) ∙ ap (opp ts) (prev-next d)

  pub label_in_is : (d : ℕ) → d < length ts → label_in (peeling s) d ≡ label ls d
  label_in_is d h = l.labels d h
