-- A forest of paths in preorder: each vertex is followed at once by all whose path passes it, its subtree. Definitions only.
use Rattle.std.specs.Prelude.{ℕ, zero, suc, ◌+◌, ◌≤◌, ◌<◌, ◌≡◌, ◌≢◌, eqb}
use Rattle.theory_realizer.specs.Units.{bit}

-- how often i stands among the k entries of an order from place a on
unfoldable pub times : (ℕ → ℕ) → ℕ → ℕ → ℕ → ℕ
times order a zero i = 0
times order a (suc k) i = bit (eqb (order a) i) + times order (suc a) k i

-- Of the vertices below n, those named by `who` below m have a parent each: the path of `who j` goes on to `up j`. The subtree of `who k` stands in the order
-- from place `from (who k)` on, in `size (who k)` entries, each vertex of it once.
pub record Subtree (n m : ℕ) (who up order from size : ℕ → ℕ) : Type 0 where
  -- 1 if the second vertex is the first, or its path passes it; otherwise 0
  pub sub : ℕ → ℕ → ℕ
  pub onward : (k j : ℕ) → k < m → j < m → sub (who k) (who j) ≡ bit (eqb (who k) (who j)) + sub (who k) (up j)
  -- vertices without a parent are in no subtree
  pub outside : (k i : ℕ) → k < m → i < n → ((j : ℕ) → j < m → who j ≢ i) → sub (who k) i ≡ 0
  pub range : (k i : ℕ) → k < m → i < n → times order (from (who k)) (size (who k)) i ≡ sub (who k) i
  pub fits : (k : ℕ) → k < m → from (who k) + size (who k) ≤ n
  pub low : (k j : ℕ) → k < m → from (who k) ≤ j → j < from (who k) + size (who k) → order j < n
