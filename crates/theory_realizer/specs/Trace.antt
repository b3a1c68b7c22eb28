-- The trace of a peeling: which vertices leave a frontier, in any order, until v0 and v1 are left. Assumes nothing.
-- A frontier v0 = f_0, f_1, .., f_m = v1 is the list of the darts from f_j to f_(j-1), j = 1 .. m, each in a triangle that is not labelled yet.
use Rattle.std.specs.Prelude.{ℕ, ◌*◌, ◌<◌, ◌≡◌, List, [], ◌∷◌, ◌++◌, map}
use Rattle.definitions.specs.Mesh.{next, prev}

module _ (T : ℕ) (org opp : ℕ → ℕ) where
  -- The darts from a vertex to u_1, .., u_(k-1): from g on, an iteration at a time, up to the one before `last`, which leads to u_k.
  pub data Fan (last : ℕ) : ℕ → List ℕ → Type 0 where
    end : {g : ℕ} → g < 3 * T → opp (prev g) ≡ last → Fan last g (g ∷ [])
    more : {g : ℕ} {gs : List ℕ} → g < 3 * T → Fan last (opp (prev g)) gs → Fan last g (g ∷ gs)

  -- the new frontier dart between u_j and u_(j+1), across the triangle of the fan's dart g
  unfoldable pub edge : ℕ → ℕ
  unfolding next
  edge g = opp (next g)

  -- A vertex leaves the frontier C: e leads from it to its left neighbour and e' from its right neighbour to it. C' is the frontier after it.
  pub data Step (e e' : ℕ) (gs : List ℕ) : List ℕ → List ℕ → Type 0 where
    here : {B : List ℕ} → Step e e' gs (e ∷ e' ∷ B) (map edge gs ++ B)
    there : {C C' : List ℕ} (d : ℕ) → Step e e' gs C C' → Step e e' gs (d ∷ C) (d ∷ C')

  -- The trace ends with the frontier v0, v1, whose one dart is the outer triangle's from v1 to v0.
  pub data Trace : List ℕ → Type 0 where
    done : Trace (2 ∷ [])
    step : {C C' : List ℕ} (e e' : ℕ) (gs : List ℕ) → e' < 3 * T → org e ≡ org (next e') → Fan (opp e') e gs → Step e e' gs C C'
        → Trace C' → Trace C

  -- the darts of all fans: one for each labelled triangle, at its corner with label 2
  unfoldable pub fans : {C : List ℕ} → Trace C → List ℕ
  fans done = []
  fans (step e e' gs h o f s tr) = gs ++ fans tr

  -- the vertices that leave
  unfoldable pub removed_vertices : {C : List ℕ} → Trace C → List ℕ
  removed_vertices done = []
  removed_vertices (step e e' gs h o f s tr) = org e ∷ removed_vertices tr
