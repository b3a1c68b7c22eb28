-- What the passes leave as it was: tables, and words of triangles. Assumes nothing.
use Prim.Native.Nat.{ℕ, zero, suc, ◌-◌, ◌*◌, ◌≤◌, ◌<◌}
use Rattle.std.specs.Prelude.{◌≡◌, ◌≢◌}
use Rattle.std.proofs.Math.Path.{refl, ap}
use Rattle.std.proofs.Common.{◌∙◌, arith, eq-eqb, ne_eqb}
use Rattle.std.proofs.Math.Decide.{ℕ_discrete}
use Rattle.scratch_tables.specs.Tables.{Tables, set_op, set_head, set_count, set_mark, upd-at, upd_other}
use Rattle.repair_preorder.specs.Model.{upward, downward, init_size, add_size, init_root, allocate_range, with_range, store_range, store_entry, store_vertex}
use Rattle.repair_preorder.specs.Model.{sizes_computed, positions_computed, preorder_built}

-- ---- what every step keeps

module _ {X : Type 0} (g : Tables → X) (f : ℕ → Tables → Tables) (same : (k : ℕ) (S : Tables) → g (f k S) ≡ g S) where
  pub up_keeps : (k : ℕ) (S : Tables) → g (upward f k S) ≡ g S
  unfolding upward
  up_keeps zero S = refl
  up_keeps (suc k) S = same k (upward f k S) ∙ up_keeps k S

  down_keeps : (k : ℕ) (S : Tables) → g (downward f k S) ≡ g S
  unfolding downward
  down_keeps zero S = refl
  down_keeps (suc k) S = down_keeps k (f k S) ∙ same k S

-- ---- the words of the triangles

module _ (colour : ℕ) where
  with_range-same : (w : ℕ) (S S' : Tables) → S'.head ≡ S.head → S'.mark ≡ S.mark → with_range colour w S' ≡ with_range colour w S
  unfolding with_range
  with_range-same w S S' h e = rw (h, e)

  pub range_head : (t : ℕ) (S : Tables) → (store_range colour t S).head ≡ S.head
  unfolding store_range set_op
  range_head zero S = refl
  range_head (suc t) S = refl

  pub range-count : (t : ℕ) (S : Tables) → (store_range colour t S).count ≡ S.count
  unfolding store_range set_op
  range-count zero S = refl
  range-count (suc t) S = refl

  range-mark : (t : ℕ) (S : Tables) → (store_range colour t S).mark ≡ S.mark
  unfolding store_range set_op
  range-mark zero S = refl
  range-mark (suc t) S = refl

  -- words of darts that are no inner triangle's first stay
  range-rest : (d : ℕ) → ((t : ℕ) → d ≢ 3 * suc t) → (t : ℕ) (S : Tables) → (store_range colour t S).op d ≡ S.op d
  unfolding store_range set_op
  range-rest d h zero S = refl
  range-rest d h (suc t) S = upd_other (3 * suc t) d (with_range colour (S.op (3 * suc t)) S) S.op (h t)

  pub ranges_out : (k t : ℕ) (S : Tables) → k ≤ t → (upward (store_range colour) k S).op (3 * t) ≡ S.op (3 * t)
  unfolding upward store_range set_op
  ranges_out zero t S h = refl
  ranges_out (suc zero) t S h = refl
  ranges_out (suc (suc k)) t S h =
      let S' = upward (store_range colour) (suc k) S in
      upd_other (3 * suc k) (3 * t) (with_range colour (S'.op (3 * suc k)) S') S'.op (omega arith) ∙ ranges_out (suc k) t S (omega arith)

  ranges_are : (k t : ℕ) (S : Tables) → 0 < t → t < k → (upward (store_range colour) k S).op (3 * t) ≡ with_range colour (S.op (3 * t)) S
  unfolding upward store_range set_op
  ranges_are zero t S p h = absurd (omega arith)
  ranges_are (suc zero) t S p h = absurd (omega arith)
  ranges_are (suc (suc k)) t S p h =
      let S' = upward (store_range colour) (suc k) S in
      elim (ℕ_discrete t (suc k)) [
        | yes e ↦
            rw e
            (upd-at (3 * suc k) (3 * suc k) (with_range colour (S'.op (3 * suc k)) S') S'.op refl
            ∙ ap (λ (w : ℕ). with_range colour w S') (ranges_out (suc k) (suc k) S (omega arith))
            ∙ with_range-same (S.op (3 * suc k)) S S' (up_keeps (λ (T : Tables). T.head) (store_range colour) range_head (suc k) S)
            (up_keeps (λ (T : Tables). T.mark) (store_range colour) range-mark (suc k) S))
        | no e ↦
            upd_other (3 * suc k) (3 * t) (with_range colour (S'.op (3 * suc k)) S') S'.op (omega arith) ∙ ranges_are (suc k) t S p (omega arith)
      ]

-- ---- the preorders

module _ (n : ℕ) where
  module _ (colour : ℕ) where
    pub store_vertex_head : (k : ℕ) (S : Tables) → (store_vertex n colour k S).head ≡ S.head
    unfolding store_vertex store_entry set_count set_mark
    store_vertex_head k S = elim (ℕ_discrete colour 0) [ yes e ↦ rw (eq-eqb colour 0 e) | no e ↦ rw (ne_eqb colour 0 e) ]

    store_vertex-op : (k : ℕ) (S : Tables) → (store_vertex n colour k S).op ≡ S.op
    unfolding store_vertex store_entry set_count set_mark
    store_vertex-op k S = elim (ℕ_discrete colour 0) [ yes e ↦ rw (eq-eqb colour 0 e) | no e ↦ rw (ne_eqb colour 0 e) ]

  pub store_vertex-count : (k : ℕ) (S : Tables) → (store_vertex n 1 k S).count ≡ S.count
  unfolding store_vertex store_entry set_mark
  store_vertex-count k S = refl

-- ---- all passes of a colour

-- sizes change marks only, positions `head` only
module _ (n colour : ℕ) (S : Tables) {X : Type 0} (g : Tables → X) where
  pub sized_keeps : ((i x : ℕ) (T : Tables) → g (set_mark i x T) ≡ g T) → g (sizes_computed n colour S) ≡ g S
  unfolding sizes_computed init_size add_size
  sized_keeps same = up_keeps g (add_size colour) (λ k T. same _ _ T) (n - 2) (upward init_size n S) ∙ up_keeps g init_size (λ k T. same _ _ T) n S

  pub placed_keeps : (root : ℕ) → ((i x : ℕ) (T : Tables) → g (set_head i x T) ≡ g T) → g (positions_computed n colour root S) ≡ g S
  unfolding positions_computed init_root allocate_range
  placed_keeps root same =
      down_keeps g (allocate_range colour) (λ k T. same _ _ _ ∙ same _ _ T) (n - 2) (init_root root S) ∙ same root (S.mark (2 * root)) S

module _ (n colour root : ℕ) (S : Tables) where
  pub sized_op : (sizes_computed n colour S).op ≡ S.op
  unfolding set_mark
  sized_op = sized_keeps n colour S (λ (T : Tables). T.op) (λ i x T. refl)

  pub placed-op : (positions_computed n colour root S).op ≡ S.op
  unfolding set_head
  placed-op = placed_keeps n colour S (λ (T : Tables). T.op) root (λ i x T. refl)

module _ (n colour root : ℕ) (S : Tables) where
  -- scratch before the words are stored
  abbrev pub placed : Tables
  placed = positions_computed n colour root (sizes_computed n colour S)

  same_op : placed.op ≡ S.op
  same_op = placed-op n colour root (sizes_computed n colour S) ∙ sized_op n colour root S

  built_op : (preorder_built n colour root S).op ≡ (upward (store_range colour) (2 * n - 4) placed).op
  unfolding preorder_built
  built_op = up_keeps (λ (T : Tables). T.op) (store_vertex n colour) (store_vertex-op n colour) (n - 2) (upward (store_range colour) (2 * n - 4) placed)

  pub built_word : (t : ℕ) → 0 < t → t < 2 * n - 4 → (preorder_built n colour root S).op (3 * t) ≡ with_range colour (S.op (3 * t)) placed
  built_word t p l =
      ap (λ (f : ℕ → ℕ). f (3 * t)) built_op ∙ ranges_are colour (2 * n - 4) t placed p l
      ∙ ap (λ (f : ℕ → ℕ). with_range colour (f (3 * t)) placed) same_op

  pub built_rest : (d : ℕ) → ((t : ℕ) → d ≢ 3 * suc t) → (preorder_built n colour root S).op d ≡ S.op d
  built_rest d h =
      ap (λ (f : ℕ → ℕ). f d) built_op ∙ up_keeps (λ (T : Tables). T.op d) (store_range colour) (range-rest colour d h) (2 * n - 4) placed
      ∙ ap (λ (f : ℕ → ℕ). f d) same_op
