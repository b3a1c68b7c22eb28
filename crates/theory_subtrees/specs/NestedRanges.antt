-- Subtrees as nested ranges: a range lies in another just where the path of its vertex passes the other's vertex, and every place of a range belongs to one
-- vertex. Assumes nothing.
-- Vertices are numbers up to m here, m the root; the path of k below m goes on to `par k`, which is greater.
use Rattle.std.specs.Prelude.{ℕ, zero, suc, ◌+◌, ◌≤◌, ◌<◌, ◌≡◌, refl, ◌≢◌, map}
use Rattle.std.proofs.Common.{sym, ap, ◌∙◌, subst, arith}
use mathlib.Core.List.Memᴰ
use Rattle.std.proofs.Math.Decide.{ℕ_discrete, dec_le}
use Rattle.std.proofs.lemmas.List.{length-map}
use Rattle.definitions.specs.Lists.{upto}
use Rattle.laws.specs.Lists.{◌∈◌, in_upto, upto_in, length-upto}
use Rattle.laws.specs.Counting.{distinct_within, distinct_upto}

-- `size k v` is the size of v's subtree as far as the vertices below k have been added to their parents'. It is whole from step v on.
pub record Grown (m : ℕ) (par : ℕ → ℕ) (size : ℕ → ℕ → ℕ) : Type 0 where
  pub higher : (k : ℕ) → k < m → k < par k
  pub within : (k : ℕ) → k < m → par k ≤ m
  pub one : (v : ℕ) → v ≤ m → size 0 v ≡ 1
  pub more : (k : ℕ) → k < m → size (suc k) (par k) ≡ size k (par k) + size k k
  pub same : (k v : ℕ) → k < m → v ≤ m → v ≢ par k → size (suc k) v ≡ size k v

-- The range of v begins at place `from v`; that of k comes in its parent's right behind those of the parent's children below k.
pub record Plan (m : ℕ) (par : ℕ → ℕ) (size : ℕ → ℕ → ℕ) (from : ℕ → ℕ) : Type 0 where
  pub grown : Grown m par size
  pub first : from m ≡ 0
  pub next : (k : ℕ) → k < m → from k ≡ from (par k) + size k (par k)

-- the place p is in the range of w
abbrev pub In : (ℕ → ℕ → ℕ) → (ℕ → ℕ) → ℕ → ℕ → Type 0
In size from w p = (from w ≤ p) × (p < from w + size w w)

-- a vertex up to w whose range begins at p
abbrev pub Owner : (ℕ → ℕ) → ℕ → ℕ → Type 0
Owner from w p = (v : ℕ) × (v ≤ w) × (from v ≡ p)

-- v is w, or its path passes w
data Under (m : ℕ) (par : ℕ → ℕ) (w : ℕ) : ℕ → Type 0 where
  here : {v : ℕ} → v ≡ w → Under m par w v
  there : {v : ℕ} → v < m → Under m par w (par v) → Under m par w v

module _ {m : ℕ} {par : ℕ → ℕ} {size : ℕ → ℕ → ℕ} (G : Grown m par size) where
  -- ---- sizes grow until they are whole

  grow_step : (k v : ℕ) → k < m → v ≤ m → size k v ≤ size (suc k) v
  grow_step k v h l =
      elim (ℕ_discrete v (par k)) [
        | yes e ↦ rw e (omega (arith, G.more k h))
        | no e ↦ omega (arith, G.same k v h l e)
      ]

  pub grow : (i k v : ℕ) → i ≤ k → k ≤ m → v ≤ m → size i v ≤ size k v
  grow i zero v h b l = let e : i ≡ 0 = omega arith in rw e (omega arith)
  grow i (suc k) v h b l =
      elim (ℕ_discrete i (suc k)) [
        | yes e ↦ rw e (omega arith)
        | no e ↦ omega (arith, grow i k v (omega arith) (omega arith) l, grow_step k v (omega arith) l)
      ]

  pub still : (k v : ℕ) → v ≤ k → k ≤ m → size k v ≡ size v v
  still zero v h b = let e : v ≡ 0 = omega arith in rw e refl
  still (suc k) v h b =
      elim (ℕ_discrete v (suc k)) [
        | yes e ↦ rw e refl
        | no e ↦ G.same k v (omega arith) (omega arith) (λ q. omega (arith, G.higher k (omega arith))) ∙ still k v (omega arith) (omega arith)
      ]

  pub some : (k v : ℕ) → k ≤ m → v ≤ m → 0 < size k v
  some k v h l = omega (arith, grow 0 k v (omega arith) h l, G.one v l)

module _ {m : ℕ} {par : ℕ → ℕ} {size : ℕ → ℕ → ℕ} {from : ℕ → ℕ} (P : Plan m par size from) where
  -- ---- a child's range lies in its parent's, behind the first place; children's ranges lie apart

  child : (k : ℕ) → k < m → (from (par k) < from k) × (from k + size k k ≤ from (par k) + size (par k) (par k))
  child k h =
      let a = P.grown.higher k h in
      let b = P.grown.within k h in
      omega (
        arith,
        P.next k h,
        P.grown.more k h,
        some P.grown k (par k) (omega arith) b,
        grow P.grown (suc k) (par k) (par k) (omega (arith, a)) b b,
      )

  apart : (i j : ℕ) → i < j → j < m → par i ≡ par j → from i + size i i ≤ from j
  apart i j l h e =
      let b = P.grown.within j h in
      let a : from i ≡ from (par j) + size i (par j) = rw (sym e) (P.next i (omega arith)) in
      let c : size (suc i) (par j) ≡ size i (par j) + size i i = rw (sym e) (P.grown.more i (omega arith)) in
      omega (arith, a, c, P.next j h, grow P.grown (suc i) j (par j) (omega arith) (omega arith) b)

  -- ---- ranges and paths

  under_low : {w v : ℕ} → Under m par w v → v ≤ w
  under_low (here e) = omega arith
  under_low {w} {v} (there h u) = omega (arith, P.grown.higher v h, under_low u)

  under_range : {w v : ℕ} → Under m par w v → (from w ≤ from v) × (from v + size v v ≤ from w + size w w)
  under_range (here e) = rw e (omega arith)
  under_range {w} {v} (there h u) = omega (arith, child v h, under_range u)

  -- the path comes to w by a child of w
  enter : {w v : ℕ} → Under m par w v → v ≢ w → (x : ℕ) × (x < m) × (par x ≡ w) × Under m par x v
  enter (here e) n = absurd (n e)
  enter {w} {v} (there h u) n =
      elim (ℕ_discrete (par v) w) [
        | yes e ↦ (v, h, e, here refl)
        | no e ↦ let t = enter u e in (t.0, t.1, t.2, there h t.3)
      ]

  under_root : (g v : ℕ) → m ≤ g + v → v ≤ m → Under m par m v
  under_root zero v l h = let e : v ≡ m = omega arith in here e
  under_root (suc g) v l h =
      elim (ℕ_discrete v m) [
        | yes e ↦ here e
        | no e ↦
            let b : v < m = omega (arith, e) in
            there b (under_root g (par v) (omega (arith, P.grown.higher v b)) (P.grown.within v b))
      ]

  -- two children with a place in common are one
  meet : (x w p : ℕ) → x < m → w < m → par x ≡ par w → In size from x p → In size from w p → x ≡ w
  meet x w p h b e i j =
      elim (dec_le x w) [
        | yes q ↦ elim (ℕ_discrete x w) [ yes s ↦ s | no s ↦ absurd (omega (arith, i, j, apart x w (omega (arith, s)) b e)) ]
        | no q ↦ absurd (omega (arith, i, j, apart w x (omega (arith, q)) h (sym e)))
      ]

  through : (w v : ℕ) → w < m → v ≤ m → In size from w (from v) → (x : ℕ) → x < m → par x ≡ par w → Under m par x v → Under m par w v
  through w v h b i x c e u =
      let y : x ≡ w = meet x w (from v) c h e (omega (arith, under_range u, some P.grown v v b b)) i in
      subst (λ t. Under m par t v) y u

  -- a range with the first place of v belongs to one that v's path passes
  range_under : (g w v : ℕ) → m ≤ g + w → w ≤ m → v ≤ m → In size from w (from v) → Under m par w v
  range_under zero w v l h b i = let e : w ≡ m = omega arith in rw e (under_root m v (omega arith) b)
  range_under (suc g) w v l h b i =
      elim (ℕ_discrete w m) [
        | yes e ↦ rw e (under_root m v (omega arith) b)
        | no e ↦
            let c : w < m = omega (arith, e) in
            let k = child w c in
            let u = range_under g (par w) v (omega (arith, P.grown.higher w c)) (P.grown.within w c) b (omega (arith, i, k)) in
            let t = enter u (λ q. omega (arith, i, k, ap from q)) in
            through w v c b i t.0 t.1 t.2 t.3
      ]

  pub from_once : (v w : ℕ) → v ≤ m → w ≤ m → from v ≡ from w → v ≡ w
  from_once v w h b e =
      let i = under_low (range_under m w v (omega arith) b h (omega (arith, e, some P.grown w w b b))) in
      let j = under_low (range_under m v w (omega arith) h b (omega (arith, e, some P.grown v v h h))) in
      omega (arith, i, j)

  -- the subtree of k has j, not k, just where it has j's parent
  pub onward_in : (k j : ℕ) → k < m → j < m → j ≢ k → In size from k (from j) → In size from k (from (par j))
  onward_in k j h b n i = further (range_under m k j (omega arith) (omega arith) (omega arith) i)
    where
      further : Under m par k j → In size from k (from (par j))
      further (here e) = absurd (n e)
      further (there c u) = let p = P.grown.within j c in omega (arith, under_range u, some P.grown (par j) (par j) p p)

  pub in_onward : (k j : ℕ) → k < m → j < m → In size from k (from (par j)) → In size from k (from j)
  in_onward k j h b i =
      let u = range_under m k (par j) (omega arith) (omega arith) (P.grown.within j b) i in
      let l : j ≤ m = omega arith in
      omega (arith, under_range u, child j b, some P.grown j j l l)

  -- no subtree has its parent's vertex
  pub parent_out : (k : ℕ) → k < m → In size from k (from (par k)) → ⊥
  parent_out k h i = omega (arith, i, child k h)

  -- ---- every place of a range is the first of a range in it

  owner_step : (w p : ℕ) → w ≤ m → ((x : ℕ) → x < w → In size from x p → Owner from x p) → from w ≤ p → (k : ℕ) → k ≤ w →
      p < from w + size k w → Owner from w p
  owner_step w p h lower l zero b i = (w, omega arith, omega (arith, P.grown.one w h))
  owner_step w p h lower l (suc k) b i =
      let c : k < m = omega arith in
      let rest = owner_step w p h lower l k (omega arith) in
      elim (ℕ_discrete w (par k)) [
        | yes e ↦
            elim (dec_le (from w + size k w) p) [
              | yes q ↦
                  let s : from k ≡ from w + size k w = rw e (P.next k c) in
                  let r : size (suc k) w ≡ size k w + size k k = rw e (P.grown.more k c) in
                  let t = lower k (omega arith) (omega (arith, s, r)) in
                  (t.0, omega (arith, t.1), t.2)
              | no q ↦ rest (omega (arith, q))
            ]
        | no e ↦ rest (omega (arith, P.grown.same k w c h e))
      ]

  owner_below : (g w p : ℕ) → w < g → w ≤ m → In size from w p → Owner from w p
  owner_below zero w p b h i = absurd (omega arith)
  owner_below (suc g) w p b h i = owner_step w p h (λ x l. owner_below g x p (omega arith) (omega arith)) i.0 w (omega arith) i.1

  pub owner : (w p : ℕ) → w ≤ m → In size from w p → Owner from w p
  owner w p h i = owner_below (suc w) w p (omega arith) h i

  -- so there are no more places than vertices
  whole : size m m ≤ suc m
  whole =
      rw (sym (length-upto (size m m)), sym (length-upto (suc m)), sym (length-map (upto (suc m)) from))
      (distinct_within (distinct_upto (size m m)) (map from (upto (suc m))) (λ p i.
      let t = owner m p (omega arith) (omega (arith, P.first, upto_in (size m m) i)) in
      subst (λ q. q ∈ map from (upto (suc m))) t.2 (Memᴰ.map from (in_upto (suc m) t.0 (omega (arith, t.1))))))

  pub ends : (w : ℕ) → w ≤ m → from w + size w w ≤ suc m
  ends w h = omega (arith, P.first, whole, under_range (under_root m w (omega arith) h))
