-- The passes make a preorder: each vertex stands at its place, and its range has its subtree, each vertex of it once. Assumes nothing.
use Prim.Native.Nat.{ℕ, zero, suc, ◌+◌, ◌-◌, ◌≤◌, ◌<◌}
use Rattle.std.specs.Prelude.{◌≡◌, refl, ◌≢◌, ◌⊎◌, eqb}
use Rattle.std.proofs.Common.{sym, ◌∙◌, subst, arith, eq-eqb, ne_eqb}
use Rattle.std.proofs.Math.Path.{ap}
use Rattle.std.proofs.Math.Decide.{ℕ_discrete, dec_le}
use Rattle.theory_realizer.specs.Units.{bit}
use Rattle.scratch_tables.specs.Tables.{upd-at, upd_other}
use Rattle.theory_subtrees.specs.Subtree.{Subtree, times}
use Rattle.theory_subtrees.specs.Preorder.{sizes, preorder}
use Rattle.theory_subtrees.specs.NestedRanges.{Plan, In, still, some, from_once, onward_in, in_onward, parent_out, owner, ends}
use Rattle.theory_subtrees.specs.Ranges.{places, Nesting, nesting}

-- ---- counts of one entry

times_none : (order : ℕ → ℕ) (a k i : ℕ) → ((p : ℕ) → a ≤ p → p < a + k → order p ≢ i) → times order a k i ≡ 0
unfolding times
times_none order a zero i h = refl
times_none order a (suc k) i h =
    omega (arith, ap bit (ne_eqb (order a) i (h a (omega arith) (omega arith))), times_none order (suc a) k i (λ p l b. h p (omega arith) (omega arith)))

times-once : (order : ℕ → ℕ) (a k i q : ℕ) → a ≤ q → q < a + k → order q ≡ i →
    ((p : ℕ) → a ≤ p → p < a + k → order p ≡ i → p ≡ q) → times order a k i ≡ 1
unfolding times
times-once order a zero i q l b e h = absurd (omega arith)
times-once order a (suc k) i q l b e h =
    elim (ℕ_discrete a q) [
      | yes f ↦
          let rest = times_none order (suc a) k i (λ p c d g. omega (arith, h p (omega arith) (omega arith) g)) in
          omega (arith, ap bit (eq-eqb (order a) i (ap order f ∙ e)), rest)
      | no f ↦
          let rest = times-once order (suc a) k i q (omega (arith, f)) (omega arith) e (λ p c d. h p (omega arith) (omega arith)) in
          omega (arith, ap bit (ne_eqb (order a) i (λ g. f (h a (omega arith) (omega arith) g))), rest)
    ]

-- ---- each vertex is written once, where no other is

module _ (m : ℕ) (who up c r : ℕ → ℕ) (apart : (i j : ℕ) → i < m → j < m → c (who i) - 1 ≡ c (who j) - 1 → i ≡ j) where
  written : (k : ℕ) → k ≤ m → (j : ℕ) → j < k → preorder who up c k r (c (who j) - 1) ≡ who j
  unfolding preorder
  written zero h j l = absurd (omega arith)
  written (suc k) h j l =
      elim (ℕ_discrete j k) [
        | yes e ↦ upd-at (c (who k) - 1) (c (who j) - 1) (who k) (preorder who up c k r) (rw e refl) ∙ ap who (sym e)
        | no e ↦
            upd_other (c (who k) - 1) (c (who j) - 1) (who k) (preorder who up c k r) (λ q. e (apart j k (omega arith) (omega arith) q))
            ∙ written k (omega arith) j (omega (arith, e))
      ]

-- ---- an order in which each vertex but the root stands at the first place of its range

module _ {m : ℕ} {par : ℕ → ℕ} {size : ℕ → ℕ → ℕ} {from : ℕ → ℕ} (P : Plan m par size from) (vert order : ℕ → ℕ)
    (once : (i j : ℕ) → i ≤ m → j ≤ m → vert i ≡ vert j → i ≡ j) (stands : (j : ℕ) → j < m → order (from j) ≡ vert j) where
  -- how often i stands in the range of k
  abbrev held : ℕ → ℕ → ℕ
  held k i = times order (from k) (size k k) i

  -- the vertex at a place
  entry : (k p : ℕ) → k < m → In size from k p → (v : ℕ) × (v ≤ k) × (from v ≡ p) × (order p ≡ vert v)
  entry k p h i =
      let t = owner P k p (omega arith) i in
      (t.0, t.1, t.2, ap order (sym t.2) ∙ stands t.0 (omega (arith, t.1)))

  none : (k i : ℕ) → k < m → ((v : ℕ) → v ≤ k → In size from k (from v) → vert v ≢ i) → held k i ≡ 0
  none k i h out =
      times_none order (from k) (size k k) i (λ p l b e.
      let t = entry k p h (l, b) in
      out t.0 t.1 (omega (arith, t.2)) (sym t.3 ∙ e))

  unseen : (k j : ℕ) → k < m → j ≤ m → (In size from k (from j) → ⊥) → held k (vert j) ≡ 0
  unseen k j h b out = none k (vert j) h (λ v l i e. out (subst (λ x. In size from k (from x)) (once v j (omega arith) b e) i))

  seen : (k j : ℕ) → k < m → j ≤ m → In size from k (from j) → held k (vert j) ≡ 1
  seen k j h b i =
      let t = owner P k (from j) (omega arith) i in
      let e = from_once P t.0 j (omega (arith, t.1)) b t.2 in
      times-once order (from k) (size k k) (vert j) (from j) i.0 i.1 (stands j (omega (arith, e, t.1))) (λ p l c q.
      let s = entry k p h (l, c) in
      sym s.2 ∙ ap from (once s.0 j (omega (arith, s.1)) b (sym s.3 ∙ q)))

  in? : (k p : ℕ) → Dec (In size from k p)
  in? k p =
      elim (dec_le (from k) p) [
        | yes a ↦ elim (dec_le (from k + size k k) p) [ yes b ↦ no (λ i. omega (arith, b, i)) | no b ↦ yes (a, omega (arith, b)) ]
        | no a ↦ no (λ i. a i.0)
      ]

  onward : (k j : ℕ) → k < m → j < m → held k (vert j) ≡ bit (eqb (vert k) (vert j)) + held k (vert (par j))
  onward k j h b =
      let l = P.grown.within j b in
      elim (ℕ_discrete j k) [
        | yes e ↦
            let own : In size from k (from k) = let l : k ≤ m = omega arith in omega (arith, some P.grown k k l l) in
            rw e (omega (
              arith,
              ap bit (eq-eqb (vert k) (vert k) refl),
              seen k k h (omega arith) own,
              unseen k (par k) h (P.grown.within k h) (parent_out P k h),
            ))
        | no e ↦
            let d = ap bit (ne_eqb (vert k) (vert j) (λ q. e (sym (once k j (omega arith) (omega arith) q)))) in
            elim (in? k (from j)) [
              | yes i ↦ omega (arith, d, seen k j h (omega arith) i, seen k (par j) h l (onward_in P k j h b e i))
              | no i ↦ omega (arith, d, unseen k j h (omega arith) i, unseen k (par j) h l (λ q. i (in_onward P k j h b q)))
            ]
      ]

-- ---- the preorder as built

module _ {m root : ℕ} {who up c₀ : ℕ → ℕ} (N : Nesting m root who up c₀) where
  abbrev begins : ℕ → ℕ
  begins v = places m root who up c₀ (N.vert v) - 1

  -- sizes and places by name
  size-at : (k : ℕ) → k < m → sizes who up m (who k) ≡ sizes who up k (N.vert k)
  size-at k h = ap (sizes who up m) (sym (N.named k h)) ∙ still N.plan.grown m k (omega arith) (omega arith)

  begins-at : (k : ℕ) → k < m → places m root who up c₀ (who k) - 1 ≡ begins k
  begins-at k h = ap (λ (v : ℕ). places m root who up c₀ v - 1) (sym (N.named k h))

  apart : (i j : ℕ) → i < m → j < m → places m root who up c₀ (who i) - 1 ≡ places m root who up c₀ (who j) - 1 → i ≡ j
  apart i j h b e = from_once N.plan i j (omega arith) (omega arith) (sym (begins-at i h) ∙ e ∙ begins-at j b)

  module _ (r₀ : ℕ → ℕ) where
    abbrev order : ℕ → ℕ
    order = preorder who up (places m root who up c₀) m r₀

    stands : (j : ℕ) → j < m → order (begins j) ≡ N.vert j
    stands j h = ap order (sym (begins-at j h)) ∙ written m who up (places m root who up c₀) r₀ apart m (omega arith) j h ∙ sym (N.named j h)

    abbrev part : ℕ → ℕ → ℕ
    part w i = times order (places m root who up c₀ w - 1) (sizes who up m w) i

    part_at : (k i : ℕ) → k < m → part (who k) i ≡ times order (begins k) (sizes who up k (N.vert k)) i
    part_at k i h = rw (begins-at k h, size-at k h) refl

    part-onward : (k j : ℕ) → k < m → j < m → part (who k) (who j) ≡ bit (eqb (who k) (who j)) + part (who k) (up j)
    part-onward k j h b =
        rw (
          part_at k (who j) h,
          part_at k (up j) h,
          ← N.named k h,
          ← N.named j b,
          ← N.onward j b,
        ) (onward N.plan N.vert order N.once stands k j h b)

    -- what has no parent stands in no range
    part_outside : (k i : ℕ) → k < m → ((j : ℕ) → j < m → who j ≢ i) → part (who k) i ≡ 0
    part_outside k i h out =
        part_at k i h ∙ none N.plan N.vert order N.once stands k i h (λ v l _ e.
        let b : v < m = omega arith in
        out v b (sym (N.named v b) ∙ e))

    part_low : (n k p : ℕ) → ((j : ℕ) → j < m → who j < n) → k < m → places m root who up c₀ (who k) - 1 ≤ p →
        p < places m root who up c₀ (who k) - 1 + sizes who up m (who k) → order p < n
    part_low n k p low h l b =
        let t = entry N.plan N.vert order N.once stands k p h (omega (arith, begins-at k h, size-at k h)) in
        let v : t.0 < m = omega (arith, t.1) in
        omega (arith, t.3, N.named t.0 v, low t.0 v)

  part_fits : (k : ℕ) → k < m → places m root who up c₀ (who k) - 1 + sizes who up m (who k) ≤ suc m
  part_fits k h = omega (arith, begins-at k h, size-at k h, ends N.plan k (omega arith))

  place_fits : (k : ℕ) → k < m → (0 < places m root who up c₀ (who k)) × (places m root who up c₀ (who k) ≤ suc m)
  place_fits k h =
      let b : k ≤ m = omega arith in
      let e = ap (places m root who up c₀) (N.named k h) in
      omega (arith, e, N.some k b, ends N.plan k b, some N.plan.grown k k b b)

  root_fits : sizes who up m root ≤ suc m
  root_fits = let e = ap (sizes who up m) N.last in omega (arith, e, ends N.plan m (omega arith))

-- Of the vertices below n, `who` names m, each once; the path of each goes on to the root, which is none of them, or to one that comes later.
module _ (n m root : ℕ) (who up : ℕ → ℕ) (small : m < n) (who_low : (k : ℕ) → k < m → who k < n)
    (who_once : (i j : ℕ) → i < m → j < m → who i ≡ who j → i ≡ j) (root-not : (k : ℕ) → k < m → who k ≢ root)
    (later : (k : ℕ) → k < m → (up k ≡ root) ⊎ ((j : ℕ) × (k < j) × (j < m) × (who j ≡ up k))) (c₀ r₀ : ℕ → ℕ) where
  built : Nesting m root who up c₀
  built = nesting m root who up who_once root-not later c₀

  pub subtree : Subtree n m who up (preorder who up (places m root who up c₀) m r₀) (λ v. places m root who up c₀ v - 1) (sizes who up m)
  subtree = record {
    sub = part built r₀;
    onward = part-onward built r₀;
    outside = λ k i h _. part_outside built r₀ k i h;
    range = λ k i _ _. refl;
    fits = λ k h. omega (arith, part_fits built k h);
    low = λ k j h. part_low built r₀ n k j who_low h;
  }

  pub size_low : (k : ℕ) → k < m → sizes who up m (who k) ≤ n
  size_low k h = omega (arith, part_fits built k h)

  pub root_low : sizes who up m root ≤ n
  root_low = omega (arith, root_fits built)

  pub place_low : (k : ℕ) → k < m → (0 < places m root who up c₀ (who k)) × (places m root who up c₀ (who k) ≤ n)
  place_low k h = omega (arith, place_fits built k h)
