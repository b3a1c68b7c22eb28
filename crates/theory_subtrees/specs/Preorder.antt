-- How a preorder is made, as pure functions in the shape of the code: the sizes of the subtrees first, from the first vertex to the last; then from the last to
-- the first the place of each, taken from the end of its parent's; then the preorder. Definitions only.
use Prim.Native.Nat.{ℕ, zero, suc, ◌+◌, ◌-◌}
use Rattle.scratch_tables.specs.Tables.{upd}

module _ (who up : ℕ → ℕ) where
  -- sizes after the first k vertices have been added to their parents'
  unfoldable pub sizes : ℕ → ℕ → ℕ
  unfolding upd
  sizes zero = λ _. 1
  sizes (suc k) = upd (up k) (sizes k (up k) + sizes k (who k)) (sizes k)

  module _ (size : ℕ → ℕ) where
    -- c v is the end of what v has left. The k-th vertex takes its subtree's entries from the end of what its parent has left.
    unfoldable pub allocate : ℕ → (ℕ → ℕ) → ℕ → ℕ
    unfolding upd
    allocate k c = upd (up k) (c (up k) - size (who k)) (upd (who k) (c (up k)) c)

    -- the first k vertices, in reverse
    unfoldable pub allocate_all : ℕ → (ℕ → ℕ) → ℕ → ℕ
    unfolding allocate
    allocate_all zero c = c
    allocate_all (suc k) c = allocate_all k (allocate k c)

  -- the first k vertices, each in its place: what it has left in the end is itself alone
  unfoldable pub preorder : (ℕ → ℕ) → ℕ → (ℕ → ℕ) → ℕ → ℕ
  unfolding upd
  preorder c zero r = r
  preorder c (suc k) r = upd (c (who k) - 1) (who k) (preorder c k r)
