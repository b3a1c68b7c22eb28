-- The rules that labels of corners, and the colours that they give to sides, keep on a sphere: a Schnyder realizer. Assumes nothing.
-- `label` gives the label of a corner, and `v c` the outer vertex v_c. The maps need nothing else of labels.
use Rattle.std.specs.Prelude.{ℕ, ◌*◌, ◌<◌, ◌≡◌, ◌≢◌, ◌⊎◌}
use mathlib.Core.List.{List, [], ◌∷◌, Memᴰ}
use Rattle.definitions.specs.Mesh.{tri, next, prev}
use Rattle.theory_realizer.specs.Trace.{Trace, done, step, fans, removed_vertices}

module _ (T : ℕ) (opp : ℕ → ℕ) where
  -- a side with an inner triangle on both of its sides; a side of the outer triangle
  pub record Inner (d : ℕ) : Type 0 where
    pub below : d < 3 * T
    pub this : 0 < tri d
    pub that : 0 < tri (opp d)

  pub record Rim (d : ℕ) : Type 0 where
    pub below : d < 3 * T
    pub outer : (tri d ≡ 0) ⊎ (tri (opp d) ≡ 0)

module _ (T : ℕ) (org opp label v : ℕ → ℕ) where
  -- the side of dart d has colour c and points to the tip of d
  pub data Points (c d : ℕ) : Type 0 where
    inside : Inner T opp d → label (next d) ≡ c → label (opp d) ≡ c → Points c d
    along : Rim T opp d → org (next d) ≡ v c → Points c d

  -- The colours of the sides of the vertices that leave: colour 0 to the left, colour 1 to the right, and colour 2 to the vertex from those between.
  abbrev pub Between : List ℕ → Type 0
  Between [] = Unit {0}
  Between (g ∷ gs) = Points 2 (opp g) × Between gs

  abbrev pub Middle : List ℕ → Type 0
  Middle [] = Unit {0}
  Middle (g ∷ gs) = Between gs

  abbrev pub Coloured : {C : List ℕ} → Trace T org opp C → Type 0
  Coloured done = Unit {0}
  Coloured (step e e' gs h o f s tr) = Points 0 e × Points 1 (opp e') × Middle gs × Coloured tr

pub record Realizer (n T : ℕ) (org opp label v : ℕ → ℕ) : Type 0 where
  -- 0, 1, 2 in that order along the sides of each inner triangle
  pub corners : (t : ℕ) → 0 < t → t < T → (g : ℕ) × (tri g ≡ t) × (label g ≡ 2) × (label (next g) ≡ 0) × (label (prev g) ≡ 1)
  -- each inner side has a colour and a direction
  pub coloured : (d : ℕ) → Inner T opp d → (c : ℕ) × (c < 3) × (Points T org opp label v c d ⊎ Points T org opp label v c (opp d))
  -- from each vertex but v_c one side of colour c points away
  pub out : (c : ℕ) → c < 3 → (i : ℕ) → i < n → i ≢ v c → (d : ℕ) × (org d ≡ i) × Points T org opp label v c d
  pub only : (c : ℕ) → c < 3 → (d e : ℕ) → Points T org opp label v c d → Points T org opp label v c e → org d ≡ org e → d ≡ e
  -- paths of colour 0 and 1, and colour-2 walks, come to an end: a rank below n, or below T, rises along them
  pub rank : ℕ → ℕ → ℕ
  pub rank_below : (c i : ℕ) → i < n → rank c i < n
  pub rank_rises : (c : ℕ) → c < 2 → (d : ℕ) → Points T org opp label v c d → rank c (org d) < rank c (org (next d))
  pub triangle_rank : ℕ → ℕ
  pub triangle_rank_below : (t : ℕ) → t < T → triangle_rank t < T
  pub triangle_rank_rises : (g : ℕ) → g < 3 * T → 0 < tri g → label g ≡ 2 → triangle_rank (tri g) < triangle_rank (tri (opp (next g)))
  -- the trace that the labels come from
  pub trace : Trace T org opp (opp 0 ∷ opp 1 ∷ [])
  pub colours : Coloured T org opp label v trace
  pub passes : (g : ℕ) → g < 3 * T → 0 < tri g → label g ≡ 2 → Memᴰ g (fans T org opp trace)
  pub leaves : (i : ℕ) → i < n → i ≢ v 0 → i ≢ v 1 → Memᴰ i (removed_vertices T org opp trace)
