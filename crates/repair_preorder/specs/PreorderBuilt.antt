-- What the passes of a colour make of the tables: the sizes, places and preorders that subtrees have. Assumes nothing.
use Prim.Native.Nat.{ℕ, zero, suc, ◌+◌, ◌-◌, ◌*◌, ◌%◌, ◌≤◌, ◌<◌}
use Rattle.std.specs.Prelude.{◌≡◌, ◌≢◌}
use Rattle.std.proofs.Math.Path.{refl, sym, ap, fun_ext}
use Rattle.std.proofs.Common.{◌∙◌}
use native.Mathlib.Omega.{arith}
use Rattle.std.proofs.Math.Decide.{ℕ_discrete}
use Rattle.theory_subtrees.specs.Preorder.{sizes, allocate, allocate_all, preorder}
use Rattle.theory_subtrees.specs.Ranges.{places}
use Rattle.scratch_tables.specs.Tables.{Tables, set_head, set_count, set_mark, upd, upd-at, upd_other}
use borrow.Author.Tests.{eq-eqb}
use Rattle.scratch_tables.specs.Fields.{pack, field0, field3}
use Rattle.repair_preorder.specs.Model.{upward, downward, parent, init_size, add_size, init_root, allocate_range, with_range, store_range, store_entry}
use Rattle.repair_preorder.specs.Model.{store_vertex, sizes_computed, positions_computed, preorder_built}
use Rattle.repair_preorder.specs.LoopInvariants.{Odd, odd_then, odd_upward, odd_one, odd_add, odd_root, odd_allocate, odd_range, odd_store, odd_sizes}
use Rattle.repair_preorder.specs.LoopInvariants.{odd_positions, with_range-not, clamp_index_in}
use Rattle.repair_preorder.specs.KeptWords.{up_keeps, range_head, range-count, store_vertex_head, store_vertex-count, sized_keeps, placed_keeps}
use Rattle.repair_preorder.specs.KeptWords.{built_word}

-- Of the vertices that left, the words name the k-th and its parent.
pub record Names (m colour : ℕ) (who up : ℕ → ℕ) (S : Tables) : Type 0 where
  pub child : (k : ℕ) → k < m → field0 (S.mark (2 * k + 1)) ≡ who k
  pub on : (k : ℕ) → k < m → parent colour (S.mark (2 * k + 1)) ≡ up k

pub names_odd : {m colour : ℕ} {who up : ℕ → ℕ} {S S' : Tables} → Odd S S' → Names m colour who up S → Names m colour who up S'
names_odd {m} {colour} o N =
    record { child = λ k h. ap field0 (o.odd k) ∙ N.child k h; on = λ k h. ap (parent colour) (o.odd k) ∙ N.on k h }

module _ (m colour : ℕ) (who up : ℕ → ℕ) where
  -- ---- sizes

  ones_are : (k v : ℕ) (S : Tables) → v < k → (upward init_size k S).mark (2 * v) ≡ 1
  unfolding upward init_size set_mark
  ones_are zero v S h = absurd (omega arith)
  ones_are (suc k) v S h =
      elim (ℕ_discrete v k) [
        | yes e ↦ upd-at (2 * k) (2 * v) 1 (upward init_size k S).mark (omega arith)
        | no e ↦ upd_other (2 * k) (2 * v) 1 (upward init_size k S).mark (omega arith) ∙ ones_are k v S (omega arith)
      ]

  size_step : (k v : ℕ) (S : Tables) (z : ℕ → ℕ) → k < m → Names m colour who up S → S.mark (2 * up k) ≡ z (up k) →
      S.mark (2 * who k) ≡ z (who k) →
      z (up k) + z (who k) < 65536 → S.mark (2 * v) ≡ z v → (add_size colour k S).mark (2 * v) ≡ upd (up k) (z (up k) + z (who k)) z v
  unfolding add_size set_mark
  size_step k v S z h N eu ew l ev =
      let x = z (up k) + z (who k) in
      let b : (S.mark (2 * up k) + S.mark (2 * who k)) % 65536 ≡ x = omega (arith, eu, ew, l) in
      rw (N.on k h, N.child k h, b)
      (elim (ℕ_discrete v (up k)) [
        | yes e ↦ upd-at (2 * up k) (2 * v) x S.mark (omega arith) ∙ sym (upd-at (up k) v x z e)
        | no e ↦ upd_other (2 * up k) (2 * v) x S.mark (omega arith) ∙ ev ∙ sym (upd_other (up k) v x z e)
      ])

  module _ (n : ℕ) (who_low : (k : ℕ) → k < m → who k < n) (up_low : (k : ℕ) → k < m → up k < n)
      (small : (k : ℕ) → k < m → sizes who up k (up k) + sizes who up k (who k) < 65536) where
    sizes_are : (k v : ℕ) (S : Tables) → k ≤ m → v < n → Names m colour who up S → ((i : ℕ) → i < n → S.mark (2 * i) ≡ 1) →
        (upward (add_size colour) k S).mark (2 * v) ≡ sizes who up k v
    unfolding upward sizes
    sizes_are zero v S l h N q = q v h
    sizes_are (suc k) v S l h N q =
        let b : k < m = omega arith in
        let c : k ≤ m = omega arith in
        let S' = upward (add_size colour) k S in
        size_step k v S' (sizes who up k) b (names_odd (odd_upward (add_size colour) (odd_add colour) k S) N) (sizes_are k (up k) S c (up_low k b) N q)
        (sizes_are k (who k) S c (who_low k b) N q) (small k b) (sizes_are k v S c h N q)

  -- ---- places

  allocate_range-mark : (k : ℕ) (S : Tables) → (allocate_range colour k S).mark ≡ S.mark
  unfolding allocate_range set_head
  allocate_range-mark k S = refl

  place-step : (k : ℕ) (S : Tables) (z c : ℕ → ℕ) → k < m → Names m colour who up S → S.mark (2 * who k) ≡ z (who k) → S.head ≡ c →
      (allocate_range colour k S).head ≡ allocate who up z k c
  unfolding allocate_range allocate set_head
  place-step k S z c h N e q = rw (N.on k h, N.child k h, e, q)

  places_are : (k : ℕ) (S : Tables) (z c : ℕ → ℕ) → k ≤ m → Names m colour who up S →
      ((j : ℕ) → j < m → S.mark (2 * who j) ≡ z (who j)) → S.head ≡ c →
      (downward (allocate_range colour) k S).head ≡ allocate_all who up z k c
  unfolding downward allocate_all
  places_are zero S z c l N e q = q
  places_are (suc k) S z c l N e q =
      places_are k (allocate_range colour k S) z (allocate who up z k c) (omega arith) (names_odd (odd_allocate colour k S) N)
      (λ j h. ap (λ (f : ℕ → ℕ). f (2 * who j)) (allocate_range-mark k S) ∙ e j h) (place-step k S z c (omega arith) N (e k (omega arith)) q)

-- ---- preorders

even_set : (i x : ℕ) (f : ℕ → ℕ) (j : ℕ) → upd (2 * i) x f (2 * j) ≡ upd i x (λ k. f (2 * k)) j
even_set i x f j =
    elim (ℕ_discrete j i) [
      | yes e ↦ upd-at (2 * i) (2 * j) x f (omega arith) ∙ sym (upd-at i j x (λ k. f (2 * k)) e)
      | no e ↦ upd_other (2 * i) (2 * j) x f (omega arith) ∙ sym (upd_other i j x (λ k. f (2 * k)) e)
    ]

module _ (n m : ℕ) (who up c : ℕ → ℕ) (fits : (k : ℕ) → k < m → c (who k) - 1 < n) where
  module _ (colour : ℕ) where
    -- the k-th vertex comes to its place
    store_vertex-put : (k : ℕ) (S : Tables) → k < m → Names m colour who up S → S.head ≡ c →
        store_vertex n colour k S ≡ store_entry colour (c (who k) - 1) (who k) S
    unfolding store_vertex
    store_vertex-put k S h N q = rw (N.child k h, q, sym (clamp_index_in n (c (who k) - 1) (fits k h)))

    store_vertices-put : (k : ℕ) (S : Tables) → k < m → Names m colour who up S → S.head ≡ c →
        upward (store_vertex n colour) (suc k) S ≡ store_entry colour (c (who k) - 1) (who k) (upward (store_vertex n colour) k S)
    unfolding upward
    store_vertices-put k S h N q =
        store_vertex-put k (upward (store_vertex n colour) k S) h (names_odd (odd_upward (store_vertex n colour) (odd_store n colour) k S) N)
        (up_keeps (λ (T : Tables). T.head) (store_vertex n colour) (store_vertex_head n colour) k S ∙ q)

  orders_0 : (k : ℕ) (S : Tables) → k ≤ m → Names m 0 who up S → S.head ≡ c →
      (upward (store_vertex n 0) k S).count ≡ preorder who up c k S.count
  unfolding upward preorder store_entry set_count
  orders_0 zero S l N q = refl
  orders_0 (suc k) S l N q =
      ap (λ (T : Tables). T.count) (store_vertices-put 0 k S (omega arith) N q) ∙ ap (upd (c (who k) - 1) (who k)) (orders_0 k S (omega arith) N q)

  orders_1 : (k : ℕ) (S : Tables) → k ≤ m → Names m 1 who up S → S.head ≡ c → (j : ℕ) → (upward (store_vertex n 1) k S).mark (2 * j)
      ≡ preorder who up c k (λ i. S.mark (2 * i)) j
  unfolding upward preorder store_entry set_mark
  orders_1 zero S l N q j = refl
  orders_1 (suc k) S l N q j =
      let S' = upward (store_vertex n 1) k S in
      let i = c (who k) - 1 in
      ap (λ (T : Tables). T.mark (2 * j)) (store_vertices-put 1 k S (omega arith) N q) ∙ even_set i (who k) S'.mark j
      ∙ ap (λ (f : ℕ → ℕ). upd i (who k) f j) (fun_ext (orders_1 k S (omega arith) N q))

-- ---- all passes of a colour

-- The words in S name vertices that have a parent each, such that sums of sizes stay small and every place is one of n.
pub record Grows (n colour root : ℕ) (who up : ℕ → ℕ) (S : Tables) : Type 0 where
  pub names : Names (n - 2) colour who up S
  pub who_low : (k : ℕ) → k < n - 2 → who k < n
  pub up_low : (k : ℕ) → k < n - 2 → up k < n
  pub root_low : root < n
  pub small : (k : ℕ) → k < n - 2 → sizes who up k (up k) + sizes who up k (who k) < 65536
  pub fits : (k : ℕ) → k < n - 2 → places (n - 2) root who up S.head (who k) - 1 < n

module _ {n colour root : ℕ} {who up : ℕ → ℕ} {S : Tables} (G : Grows n colour root who up S) where
  -- scratch after the first two passes, the third and the fourth
  abbrev S₁ : Tables
  S₁ = sizes_computed n colour S

  abbrev S₂ : Tables
  S₂ = positions_computed n colour root S₁

  abbrev S₃ : Tables
  S₃ = upward (store_range colour) (2 * n - 4) S₂

  sized_mark : (v : ℕ) → v < n → S₁.mark (2 * v) ≡ sizes who up (n - 2) v
  unfolding sizes_computed
  sized_mark v h =
      sizes_are (n - 2) colour who up n G.who_low G.up_low G.small (n - 2) v (upward init_size n S) (omega arith) h
      (names_odd (odd_upward init_size odd_one n S) G.names) (λ i l. ones_are (n - 2) colour who up n i S l)

  placed-mark : (v : ℕ) → v < n → S₂.mark (2 * v) ≡ sizes who up (n - 2) v
  unfolding set_head
  placed-mark v h = placed_keeps n colour S₁ (λ (T : Tables). T.mark (2 * v)) root (λ i x T. refl) ∙ sized_mark v h

  placed_head : S₂.head ≡ places (n - 2) root who up S.head
  unfolding positions_computed init_root set_head set_mark
  placed_head =
      let z = sizes who up (n - 2) in
      let e : upd root (S₁.mark (2 * root)) S₁.head ≡ upd root (z root) S.head =
      rw (sized_mark root G.root_low, sized_keeps n colour S (λ (T : Tables). T.head) (λ i x T. refl)) in
      places_are (n - 2) colour who up (n - 2) (init_root root S₁) z (upd root (z root) S.head) (omega arith)
      (names_odd (odd_then (odd_sizes n colour S) (odd_root root S₁)) G.names) (λ j h. sized_mark (who j) (G.who_low j h)) e

  -- a word that leads across a side of another colour stays
  pub built_kept : (t w : ℕ) → 0 < t → t < 2 * n - 4 → S.op (3 * t) ≡ w → field3 w ≢ colour + 1 → (preorder_built n colour root S).op (3 * t)
      ≡ w
  built_kept t w p l e h = built_word n colour root S t p l ∙ ap (λ (x : ℕ). with_range colour x S₂) e ∙ sym (with_range-not colour w S₂ (field3 w) refl h)

  -- a word of this colour gets the place and the size of the subtree
  pub built_moved : (t w v : ℕ) → 0 < t → t < 2 * n - 4 → S.op (3 * t) ≡ w → field3 w ≡ colour + 1 → parent colour w ≡ v → v < n →
      (preorder_built n colour root S).op (3 * t) ≡ pack (field0 w) (field0 (places (n - 2) root who up S.head v - 1)) (field0 (sizes who up (n - 2) v))
      (colour + 1)
  unfolding with_range
  built_moved t w v p l e f ev h = built_word n colour root S t p l ∙ rw (e, eq-eqb (field3 w) (colour + 1) f, f, ev, placed_head, placed-mark v h)

  -- before the last pass
  ranges_names : Names (n - 2) colour who up S₃
  ranges_names =
      names_odd
      (odd_then (odd_then (odd_sizes n colour S) (odd_positions n colour root S₁)) (odd_upward (store_range colour) (odd_range colour) (2 * n - 4) S₂))
      G.names

  ranges_head : S₃.head ≡ places (n - 2) root who up S.head
  ranges_head = up_keeps (λ (T : Tables). T.head) (store_range colour) (range_head colour) (2 * n - 4) S₂ ∙ placed_head

  ranges_count : S₃.count ≡ S.count
  unfolding set_head set_mark
  ranges_count =
      up_keeps (λ (T : Tables). T.count) (store_range colour) (range-count colour) (2 * n - 4) S₂
      ∙ placed_keeps n colour S₁ (λ (T : Tables). T.count) root (λ i x T. refl) ∙ sized_keeps n colour S (λ (T : Tables). T.count) (λ i x T. refl)

module _ {n root : ℕ} {who up : ℕ → ℕ} {S : Tables} where
  pub built_order0 : (G : Grows n 0 root who up S) → (preorder_built n 0 root S).count
      ≡ preorder who up (places (n - 2) root who up S.head) (n - 2) S.count
  unfolding preorder_built
  built_order0 G =
      let c = places (n - 2) root who up S.head in
      orders_0 n (n - 2) who up c G.fits (n - 2) (S₃ G) (omega arith) (ranges_names G) (ranges_head G) ∙ ap (preorder who up c (n - 2)) (ranges_count G)

  pub built_order1 : (G : Grows n 1 root who up S) →
      (λ j. (preorder_built n 1 root S).mark (2 * j)) ≡ preorder who up (places (n - 2) root who up S.head) (n - 2) (λ j. (S₃ G).mark (2 * j))
  unfolding preorder_built
  built_order1 G =
      fun_ext (orders_1 n (n - 2) who up (places (n - 2) root who up S.head) G.fits (n - 2) (S₃ G) (omega arith) (ranges_names G) (ranges_head G))

  pub built_count : (G : Grows n 1 root who up S) → (preorder_built n 1 root S).count ≡ S.count
  unfolding preorder_built
  built_count G = up_keeps (λ (T : Tables). T.count) (store_vertex n 1) (store_vertex-count n) (n - 2) (S₃ G) ∙ ranges_count G
