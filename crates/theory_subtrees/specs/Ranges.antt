-- The sizes and places that the passes give are those of nested ranges: each vertex takes from its parent's range what the children before it have left.
-- Assumes nothing.
use Prim.Native.Nat.{ℕ, zero, suc, ◌+◌, ◌-◌, ◌≤◌, ◌<◌}
use Rattle.std.specs.Prelude.{◌≡◌, refl, ◌≢◌, ◌⊎◌}
use Rattle.std.proofs.Math.Path.{sym, ap}
use Rattle.std.proofs.Common.{◌∙◌, inl, inr}
use native.Mathlib.Omega.{arith}
use Rattle.std.proofs.Math.Decide.{ℕ_discrete, dec_le}
use Rattle.scratch_tables.specs.Tables.{upd, upd-at, upd_other, upd_same}
use Rattle.theory_subtrees.specs.Preorder.{sizes, allocate, allocate_all}
use Rattle.theory_subtrees.specs.NestedRanges.{Grown, Plan, grow, still, some, ends}

-- where each vertex's range begins, counted from 1
abbrev pub places : (m root : ℕ) (who up c₀ : ℕ → ℕ) → ℕ → ℕ
places m root who up c₀ = allocate_all who up (sizes who up m) m (upd root (sizes who up m root) c₀)

-- The sizes and places with the vertices numbered, the root last.
pub record Nesting (m root : ℕ) (who up c₀ : ℕ → ℕ) : Type 0 where
  pub vert : ℕ → ℕ
  pub par : ℕ → ℕ
  pub last : vert m ≡ root
  pub named : (k : ℕ) → k < m → vert k ≡ who k
  pub once : (i j : ℕ) → i ≤ m → j ≤ m → vert i ≡ vert j → i ≡ j
  pub onward : (k : ℕ) → k < m → vert (par k) ≡ up k
  pub some : (v : ℕ) → v ≤ m → 0 < places m root who up c₀ (vert v)
  pub plan : Plan m par (λ k v. sizes who up k (vert v)) (λ v. places m root who up c₀ (vert v) - 1)

module _ (m root : ℕ) (who up : ℕ → ℕ) (who_once : (i j : ℕ) → i < m → j < m → who i ≡ who j → i ≡ j) (root-not : (k : ℕ) → k < m
    → who k ≢ root)
    (later : (k : ℕ) → k < m → (up k ≡ root) ⊎ ((j : ℕ) × (k < j) × (j < m) × (who j ≡ up k))) where
  -- ---- vertices by number, the root last

  vert : ℕ → ℕ
  unfolding upd
  vert = upd m root who

  vert_root : vert m ≡ root
  unfolding vert
  vert_root = upd_same m root who

  vert_who : (k : ℕ) → k < m → vert k ≡ who k
  unfolding vert
  vert_who k h = upd_other m k root who (omega arith)

  vert_once : (i j : ℕ) → i ≤ m → j ≤ m → vert i ≡ vert j → i ≡ j
  vert_once i j h b e =
      elim (ℕ_discrete i m) [
        | yes p ↦ elim (ℕ_discrete j m) [
          | yes q ↦ omega arith
          | no q ↦
              let c : j < m = omega (arith, q) in
              absurd (root-not j c (sym (vert_who j c) ∙ sym e ∙ ap vert p ∙ vert_root))
        ]
        | no p ↦
            let d : i < m = omega (arith, p) in
            elim (ℕ_discrete j m) [
              | yes q ↦ absurd (root-not i d (sym (vert_who i d) ∙ e ∙ ap vert q ∙ vert_root))
              | no q ↦
                  let c : j < m = omega (arith, q) in
                  who_once i j d c (sym (vert_who i d) ∙ e ∙ vert_who j c)
            ]
      ]

  parent : (k : ℕ) → (p : ℕ) × (k < m → (k < p) × (p ≤ m) × (vert p ≡ up k))
  parent k =
      elim (dec_le m k) [
        | yes q ↦ (m, λ h. absurd (omega arith))
        | no q ↦
            let h : k < m = omega (arith, q) in
            elim (later k h) [
              | inl e ↦ (m, λ _. (h, omega arith, vert_root ∙ sym e))
              | inr t ↦ (t.0, λ _. (t.1, omega (arith, t.2), vert_who t.0 t.2 ∙ t.3))
            ]
      ]

  par : ℕ → ℕ
  unfolding parent
  par k = (parent k).0

  par_low : (k : ℕ) → k < m → (k < par k) × (par k ≤ m)
  unfolding par
  par_low k h = let t = (parent k).1 h in (t.0, t.1)

  par_up : (k : ℕ) → k < m → vert (par k) ≡ up k
  unfolding par
  par_up k h = ((parent k).1 h).2

  not-up : (k v : ℕ) → k < m → v ≤ m → v ≢ par k → vert v ≢ up k
  not-up k v h l n e = n (vert_once v (par k) l (par_low k h).1 (e ∙ sym (par_up k h)))

  -- ---- sizes

  size_step : (k : ℕ) → k < m → sizes who up (suc k) (vert (par k)) ≡ sizes who up k (vert (par k)) + sizes who up k (vert k)
  unfolding sizes
  size_step k h = rw (par_up k h, vert_who k h) (upd_same (up k) (sizes who up k (up k) + sizes who up k (who k)) (sizes who up k))

  size-other : (k v : ℕ) → k < m → v ≤ m → v ≢ par k → sizes who up (suc k) (vert v) ≡ sizes who up k (vert v)
  unfolding sizes
  size-other k v h l n =
      upd_other (up k) (vert v) (sizes who up k (up k) + sizes who up k (who k)) (sizes who up k) (not-up k v h l n)

  grown : Grown m par (λ k v. sizes who up k (vert v))
  unfolding sizes
  grown = record {
    higher = λ k h. (par_low k h).0;
    within = λ k h. (par_low k h).1;
    one = λ v l. refl;
    more = size_step;
    same = size-other;
  }

  -- the size of v's subtree after k steps
  abbrev size : ℕ → ℕ → ℕ
  size k v = sizes who up k (vert v)

  size-whole : (v : ℕ) → v ≤ m → sizes who up m (vert v) ≡ size v v
  size-whole v h = still grown m v h (omega arith)

  -- ---- one vertex takes its range

  abbrev taken : ℕ → (ℕ → ℕ) → ℕ → ℕ
  taken k c v = allocate who up (sizes who up m) k c (vert v)

  module _ (k : ℕ) (h : k < m) (c : ℕ → ℕ) where
    taken_own : taken k c k ≡ c (vert (par k))
    unfolding allocate
    taken_own =
        upd_other (up k) (vert k) (c (up k) - sizes who up m (who k)) (upd (who k) (c (up k)) c) (not-up k k h (omega arith) (omega (arith, par_low k h)))
        ∙ upd-at (who k) (vert k) (c (up k)) c (vert_who k h) ∙ ap c (sym (par_up k h))

    taken-parent : taken k c (par k) ≡ c (vert (par k)) - size k k
    unfolding allocate
    taken-parent =
        rw (par_up k h, ← size-whole k (omega arith), vert_who k h) (upd_same (up k) (c (up k) - sizes who up m (who k)) (upd (who k) (c (up k)) c))

    taken-other : (v : ℕ) → v ≤ m → v ≢ par k → v ≢ k → taken k c v ≡ c (vert v)
    unfolding allocate
    taken-other v l n o =
        upd_other (up k) (vert v) (c (up k) - sizes who up m (who k)) (upd (who k) (c (up k)) c) (not-up k v h l n)
        ∙ upd_other (who k) (vert v) (c (up k)) c (λ e. o (vert_once v k l (omega arith) (e ∙ sym (vert_who k h))))

  -- ---- all take theirs, the last first

  -- each vertex from k on has room for itself and its children below k
  abbrev Room : ℕ → (ℕ → ℕ) → Type 0
  Room k c = (v : ℕ) → k ≤ v → v ≤ m → size k v ≤ c (vert v)

  room_step : (k : ℕ) → k < m → (c : ℕ → ℕ) → Room (suc k) c → Room k (allocate who up (sizes who up m) k c)
  room_step k h c r v l b =
      let p = par_low k h in
      let a = grown.more k h in
      let d = r (par k) (omega (arith, p)) (omega (arith, p)) in
      elim (ℕ_discrete v k) [
        | yes e ↦ rw e (omega (arith, taken_own k h c, a, d))
        | no e ↦ elim (ℕ_discrete v (par k)) [
          | yes f ↦ rw f (omega (arith, taken-parent k h c, a, d))
          | no f ↦ omega (arith, taken-other k h c v b f e, grown.same k v h b f, r v (omega (arith, e)) b)
        ]
      ]

  -- what a vertex has left before the first k take theirs: itself and these
  left : (k : ℕ) → k ≤ m → (c : ℕ → ℕ) → Room k c → (v : ℕ) → k ≤ v → v ≤ m →
      suc (c (vert v)) ≡ allocate_all who up (sizes who up m) k c (vert v) + size k v
  unfolding allocate_all sizes
  left zero h c r v l b = omega arith
  left (suc k) h c r v l b =
      let g : k < m = omega arith in
      let a = left k (omega arith) (allocate who up (sizes who up m) k c) (room_step k g c r) v (omega arith) b in
      elim (ℕ_discrete v (par k)) [
        | yes f ↦
            let t : taken k c v ≡ c (vert v) - size k k = rw f (taken-parent k g c) in
            let s : size (suc k) v ≡ size k v + size k k = rw f (grown.more k g) in
            omega (arith, a, t, s, r v l b)
        | no f ↦ omega (arith, a, taken-other k g c v b f (omega arith), grown.same k v g b f)
      ]

  -- so each comes in its parent's range right behind those before it
  behind : (k : ℕ) → k ≤ m → (c : ℕ → ℕ) → Room k c → (i : ℕ) → i < k →
      allocate_all who up (sizes who up m) k c (vert i) ≡ allocate_all who up (sizes who up m) k c (vert (par i)) + size i (par i)
  unfolding allocate_all
  behind zero h c r i l = absurd (omega arith)
  behind (suc k) h c r i l =
      let g : k < m = omega arith in
      let c' = allocate who up (sizes who up m) k c in
      let q : Room k c' = room_step k g c r in
      elim (ℕ_discrete i k) [
        | yes e ↦
            let p = par_low k g in
            let a = left k (omega arith) c' q k (omega arith) (omega arith) in
            let b = left k (omega arith) c' q (par k) (omega (arith, p)) p.1 in
            rw e (omega (arith, a, b, taken_own k g c, taken-parent k g c, grown.more k g, r (par k) (omega (arith, p)) p.1))
        | no e ↦ behind k (omega arith) c' q i (omega (arith, e))
      ]

  module _ (c₀ : ℕ → ℕ) where
    start : Room m (upd root (sizes who up m root) c₀)
    start v l b = let e : v ≡ m = omega arith in rw (e, vert_root, upd_same root (sizes who up m root) c₀) (omega arith)

    place_root : places m root who up c₀ (vert m) ≡ 1
    place_root =
        let a = left m (omega arith) (upd root (sizes who up m root) c₀) start m (omega arith) (omega arith) in
        let b : upd root (sizes who up m root) c₀ (vert m) ≡ sizes who up m (vert m) = rw vert_root (upd_same root (sizes who up m root) c₀) in
        omega (arith, a, b)

    place-next : (k : ℕ) → k < m → places m root who up c₀ (vert k) ≡ places m root who up c₀ (vert (par k)) + size k (par k)
    place-next k h = behind m (omega arith) (upd root (sizes who up m root) c₀) start k h

    -- the root's place is the first; every other is behind its parent's
    place_some : (v : ℕ) → v ≤ m → 0 < places m root who up c₀ (vert v)
    place_some v b =
        elim (ℕ_discrete v m) [
          | yes e ↦ rw e (omega (arith, place_root))
          | no e ↦
              let h : v < m = omega (arith, e) in
              omega (arith, place-next v h, some grown v (par v) b (par_low v h).1)
        ]

    plan : Plan m par size (λ v. places m root who up c₀ (vert v) - 1)
    plan = record {
      grown = grown;
      first = omega (arith, place_root);
      next = λ k h. omega (arith, place-next k h, place_some (par k) (par_low k h).1);
    }

    pub nesting : Nesting m root who up c₀
    nesting = record {
      vert = vert;
      par = par;
      last = vert_root;
      named = vert_who;
      once = vert_once;
      onward = par_up;
      some = place_some;
      plan = plan;
    }

  -- no size on the way is greater than m + 1
  pub sum_low : (k : ℕ) → k < m → sizes who up k (up k) + sizes who up k (who k) ≤ suc m
  sum_low k h =
      let p = par_low k h in
      let g = grow grown (suc k) (par k) (par k) (omega (arith, p)) p.1 p.1 in
      rw (sym (vert_who k h), sym (par_up k h)) (omega (arith, g, grown.more k h, ends (plan (λ _. 0)) (par k) p.1))
