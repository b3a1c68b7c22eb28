-- The triangles of a leaving vertex: what is asked of them, and what the tables hold after they were passed one after the other. Assumes nothing.
use Prim.Native.Nat.{ℕ, ◌*◌, ◌/◌, ◌<◌}
use Rattle.std.specs.Prelude.{◌≡◌, ◌≢◌, Bool, false, ◌||◌, length}
use Rattle.std.proofs.Math.Path.{refl, sym, fun_ext}
use Rattle.std.proofs.Common.{ap, ◌∙◌, arith}
use mathlib.Core.List.{List, ◌∷◌, ◌++◌, map}
use Rattle.definitions.specs.Lists.{elem}
use Rattle.definitions.specs.Mesh.{next, prev, org, tip, opp}
use Rattle.laws.specs.Lists.{◌∈◌}
use Rattle.laws.specs.Counting.{Distinct}
use Rattle.theory_sphere.specs.Sphere.{Sphere}
use Rattle.theory_sphere.specs.Darts.{next-next, next-below, prev-below}
use Rattle.theory_sphere.specs.Rotations.{tip-opp, tip-rot}
use Rattle.theory_realizer.specs.Trace.{Fan, end, more}
use Rattle.theory_peeling.specs.Peel.{rest}
use Rattle.labels_tables.specs.Peeling.{Peeling}
use Rattle.labels_model.specs.Counters.{Meshed}
use Rattle.labels_model.specs.NeighbourCounts.{tip_is}
use Rattle.labels_model.specs.FrontierInsert.{Marked}
use Rattle.labels_model.specs.LabelTriangle.{Coded}

pub marked_same : (n : ℕ) (ts : List ℕ) (F G : ℕ → Bool) (t : Peeling) → ((u : ℕ) → F u ≡ G u) → Marked n ts F t → Marked n ts G t
marked_same n ts F G t e M = rw (fun_ext e) at M

-- a fan begins with its first dart
pub fan_shape : {T : ℕ} {o p : ℕ → ℕ} {q d : ℕ} {ds : List ℕ} → Fan T o p q d ds → ds ≡ d ∷ rest ds
fan_shape (end b t) = refl
fan_shape (more b f) = refl

module _ (n : ℕ) (ts : List ℕ) (s : Sphere n (length ts / 3) (org ts) (opp ts)) (len : 3 * (length ts / 3) ≡ length ts) where
  abbrev T : ℕ
  T = length ts / 3

  -- the frontier's dart across the triangle of g
  abbrev pub across : ℕ → ℕ
  across g = opp ts (next g)

  pub across-org : (g : ℕ) → g < 3 * T → org ts (across g) ≡ org ts (prev g)
  across-org g b = s.reverses (next g) (next-below T g b) ∙ ap (org ts) (next-next g)

  pub across-tip : (g : ℕ) → g < 3 * T → tip ts (across g) ≡ tip ts g
  across-tip g b = tip_is ts (across g) ∙ tip-opp s (next g) (next-below T g b) ∙ sym (tip_is ts g)

  -- What the tables hold after the darts gs of a fan, where t were the tables before and P, F what had been passed and the frontier's vertices.
  pub record Fanned (P : List ℕ) (F : ℕ → Bool) (gs : List ℕ) (t t' : Peeling) : Type 0 where
    pub meshed : Meshed ts t'
    pub coded : Coded (P ++ gs) t'
    pub marked : Marked n ts (λ u. elem u (map (tip ts) (rest gs)) || F u) t'
    pub left_new : (g : ℕ) → g ∈ gs → t'.left (org ts (across g)) ≡ across g
    pub left_old : (x : ℕ) → ((g : ℕ) → g ∈ gs → x ≢ org ts (across g)) → t'.left x ≡ t.left x
    pub right_new : (g : ℕ) → g ∈ gs → t'.right (tip ts (across g)) ≡ across g
    pub right_old : (x : ℕ) → ((g : ℕ) → g ∈ gs → x ≢ tip ts (across g)) → t'.right x ≡ t.right x
    pub orders : t'.order ≡ t.order

  -- what is asked of a fan's darts: they are darts of one vertex, their triangles have no label yet, and all but the first lead to new vertices
  pub record Fresh (v right : ℕ) (P : List ℕ) (F : ℕ → Bool) (gs : List ℕ) : Type 0 where
    pub below : (g : ℕ) → g ∈ gs → g < 3 * T
    pub from : (g : ℕ) → g ∈ gs → org ts g ≡ v
    pub distinct : Distinct gs
    pub short : (g : ℕ) → g ∈ gs → tip ts g ≢ right
    pub new : (g : ℕ) → g ∈ rest gs → F (tip ts g) ≡ false
    pub blank : (g : ℕ) → g ∈ gs → (prev g ∈ P → ⊥) × (next g ∈ P → ⊥)

  -- ---- one triangle

  module _ (right k g : ℕ) (t : Peeling) (o : Meshed ts t) (b : g < 3 * T) where
    pub tip-next : tip ts (opp ts (prev g)) ≡ org ts (prev g)
    tip-next = tip_is ts (opp ts (prev g)) ∙ tip-rot s g b

    pub prior_is : t.origin (prev g) ≡ org ts (prev g)
    prior_is = o.origins (prev g) (omega (arith, prev-below T g b))
