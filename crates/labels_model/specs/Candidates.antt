-- The candidates: every vertex that can leave is one. Assumes nothing.
use Prim.Native.Nat.{ℕ, ◌<◌}
use Rattle.std.specs.Prelude.{◌≡◌, ◌≢◌, true}
use Rattle.labels_tables.specs.Peeling.{Peeling}
use Rattle.labels_search.specs.Sets.{member, Summed}
use Rattle.labels_model.specs.Model.{is_removable}

-- ---- the test

-- it looks at the degree alone
pub can_same : (t t' : Peeling) (x : ℕ) → t'.degree x ≡ t.degree x → t'.origin ≡ t.origin → is_removable t' x ≡ is_removable t x
unfolding is_removable
can_same t t' x e o = rw (e, o)

-- ---- the candidates

-- every vertex that can leave, but for one
pub record Candidates (n but : ℕ) (t : Peeling) : Type 0 where
  pub summed : Summed n t.sets
  pub all : (x : ℕ) → x < n → x ≢ but → is_removable t x ≡ true → member n t.sets x ≡ true
