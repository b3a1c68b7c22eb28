-- Where the paths of both colours lead to a root each, the passes make the two preorders and the words with their ranges. Assumes nothing.
use Prim.Native.Nat.{ℕ, suc, ◌+◌, ◌-◌, ◌*◌, ◌≤◌, ◌<◌}
use Rattle.std.specs.Prelude.{◌≡◌, ◌≢◌, ◌⊎◌}
use Rattle.std.proofs.Math.Path.{refl, ap}
use Rattle.std.proofs.Common.{sym, ◌∙◌, arith}
use Rattle.std.proofs.Math.Decide.{ℕ_discrete}
use borrow.Author.Tests.{eq-eqb, ne_eqb}
use Rattle.definitions.specs.Mesh.{tri, prev}
use Rattle.theory_subtrees.specs.Subtree.{Subtree}
use Rattle.theory_subtrees.specs.Preorder.{sizes, preorder}
use Rattle.theory_subtrees.specs.Ranges.{places, sum_low}
use Rattle.theory_subtrees.specs.PreorderSubtrees.{subtree, size_low, place_low}
use Rattle.scratch_tables.specs.Tables.{Tables}
use Rattle.scratch_tables.specs.Fields.{pack, field0, field1, field2, field3, field3_is, field0_small}
use Rattle.labels_tables.specs.Peeling.{Peeling, peeling_of}
use Rattle.labels_tables.specs.LabelledTables.{apex_dart}
use Rattle.repair_model.specs.RemovalOrder.{removed_at, up0, up1}
use Rattle.repair_model.specs.PackedWords.{walk_dart, walk_from, walk_to, walk_flags, walk_word, walk_word-fields, removed_word-fields, Packed, WalksPacked}
use Rattle.repair_model.specs.PackedWords.{InRange, up0_low, up1_low, ends_low, tri_small}
use Rattle.repair_model.specs.PreorderWords.{move_word, Preordered}
use Rattle.repair_preorder.specs.Model.{parent, preorder_built}
use Rattle.repair_preorder.specs.LoopInvariants.{odd_built}
use Rattle.repair_preorder.specs.KeptWords.{built_rest}
use Rattle.repair_preorder.specs.PreorderBuilt.{Names, names_odd, Grows, built_kept, built_moved, built_order0, built_order1, built_count}

-- Every vertex that leaves has a parent of each colour, which leaves later or is v0 for colour 0 and v1 for colour 1.
pub record RootedForest (n : ℕ) (T : Peeling) : Type 0 where
  pub few : n ≤ 4096
  pub inside : InRange n T
  pub who_once : (i j : ℕ) → i < n - 2 → j < n - 2 → removed_at T i ≡ removed_at T j → i ≡ j
  pub not0 : (k : ℕ) → k < n - 2 → removed_at T k ≢ T.origin 0
  pub not1 : (k : ℕ) → k < n - 2 → removed_at T k ≢ T.origin 2
  pub later0 : (k : ℕ) → k < n - 2 → (up0 T k ≡ T.origin 0) ⊎ ((j : ℕ) × (k < j) × (j < n - 2) × (removed_at T j ≡ up0 T k))
  pub later1 : (k : ℕ) → k < n - 2 → (up1 T k ≡ T.origin 2) ⊎ ((j : ℕ) × (k < j) × (j < n - 2) × (removed_at T j ≡ up1 T k))

-- a part of a word is the number itself where that is small
part_same : (x : ℕ) → x < 65536 → field0 x ≡ x
unfolding field0
part_same x h = omega arith

-- only the ranges of vertices with a parent count
subtree_same : {n m : ℕ} {removed_at up order from size from' size' : ℕ → ℕ} →
    ((k : ℕ) → k < m → from' (removed_at k) ≡ from (removed_at k)) →
    ((k : ℕ) → k < m → size' (removed_at k) ≡ size (removed_at k)) → Subtree n m removed_at up order from size →
    Subtree n m removed_at up order from' size'
subtree_same f z F =
    record {
      sub = F.sub;
      onward = F.onward;
      outside = F.outside;
      range = λ k i h l. rw (f k h, z k h) (F.range k i h l);
      fits = λ k h. rw (f k h, z k h) (F.fits k h);
      low = λ k j h. rw (f k h, z k h) (F.low k j h);
    }

module _ {n : ℕ} {T : Peeling} (some : 3 ≤ n) (R : RootedForest n T) where
  -- ---- both colours can be built

  module _ (root : ℕ) (up : ℕ → ℕ) (root-not : (k : ℕ) → k < n - 2 → removed_at T k ≢ root)
      (later : (k : ℕ) → k < n - 2 → (up k ≡ root) ⊎ ((j : ℕ) × (k < j) × (j < n - 2) × (removed_at T j ≡ up k))) (S : Tables) where
    grows : (colour : ℕ) → root < n → ((k : ℕ) → k < n - 2 → up k < n) → Names (n - 2) colour (removed_at T) up S →
        Grows n colour root (removed_at T) up S
    grows colour root_low up_low N =
        record {
          names = N;
          who_low = R.inside.order;
          up_low = up_low;
          root_low = root_low;
          small = λ k h. omega (arith, sum_low (n - 2) root (removed_at T) up R.who_once root-not later k h, R.few);
          fits = λ k h. omega (
            arith,
            place_low n (n - 2) root (removed_at T) up (omega arith) R.inside.order R.who_once root-not later S.head
                S.head k h,
          );
        }

    -- the place and the size of a subtree, as they come into a word
    abbrev from_of : ℕ → ℕ
    from_of v = field0 (places (n - 2) root (removed_at T) up S.head v - 1)

    abbrev size_of : ℕ → ℕ
    size_of v = field0 (sizes (removed_at T) up (n - 2) v)

    families : (r : ℕ → ℕ) → Subtree n (n - 2) (removed_at T) up (preorder (removed_at T) up (places (n - 2) root (removed_at T) up S.head) (n - 2) r)
        from_of size_of
    families r =
        let c = places (n - 2) root (removed_at T) up S.head in
        let small : n - 2 < n = omega arith in
        let F = subtree n (n - 2) root (removed_at T) up small R.inside.order R.who_once root-not later S.head r in
        let P = place_low n (n - 2) root (removed_at T) up small R.inside.order R.who_once root-not later S.head r in
        let Z = size_low n (n - 2) root (removed_at T) up small R.inside.order R.who_once root-not later S.head r in
        subtree_same (λ k h. part_same (c (removed_at T k) - 1) (omega (arith, P k h, R.few)))
        (λ k h. part_same (sizes (removed_at T) up (n - 2) (removed_at T k)) (omega (arith, Z k h, R.few))) F

  -- ---- the words of the vertices that left

  module _ {S : Tables} (L : Packed n T S) where
    names0 : Names (n - 2) 0 (removed_at T) (up0 T) S
    unfolding parent
    names0 =
        record {
          child = λ k h. (removed_word-fields n T R.inside R.few k h (S.mark (2 * k + 1)) (L.removed k h)).0;
          on = λ k h. (removed_word-fields n T R.inside R.few k h (S.mark (2 * k + 1)) (L.removed k h)).1;
        }

    names1 : Names (n - 2) 1 (removed_at T) (up1 T) S
    unfolding parent
    names1 =
        record { child = names0.child; on = λ k h. (removed_word-fields n T R.inside R.few k h (S.mark (2 * k + 1)) (L.removed k h)).2 }

  module _ {S S' S'' : Tables} (L : Packed n T S) (I : WalksPacked n T S) (e' : S' ≡ preorder_built n 0 (T.origin 0) S)
      (e'' : S'' ≡ preorder_built n 1 (T.origin 2) S') where
    G0 : Grows n 0 (T.origin 0) (removed_at T) (up0 T) S
    G0 = grows (T.origin 0) (up0 T) R.not0 R.later0 S 0 (R.inside.triangles.origins 0 (omega arith)) (up0_low n T R.inside) (names0 L)

    G1 : Grows n 1 (T.origin 2) (removed_at T) (up1 T) S'
    G1 =
        grows (T.origin 2) (up1 T) R.not1 R.later1 S' 1 (R.inside.triangles.origins 2 (omega arith)) (up1_low n T R.inside)
        (names_odd (rw e' (odd_built n 0 (T.origin 0) S)) (names1 L))

    abbrev from0 : ℕ → ℕ
    from0 = from_of (T.origin 0) (up0 T) R.not0 R.later0 S

    abbrev size0 : ℕ → ℕ
    size0 = size_of (T.origin 0) (up0 T) R.not0 R.later0 S

    abbrev from1 : ℕ → ℕ
    from1 = from_of (T.origin 2) (up1 T) R.not1 R.later1 S'

    abbrev size1 : ℕ → ℕ
    size1 = size_of (T.origin 2) (up1 T) R.not1 R.later1 S'

    rest : (d : ℕ) → ((t : ℕ) → d ≢ 3 * suc t) → S''.op d ≡ S.op d
    rest d h =
        ap (λ (X : Tables). X.op d) e'' ∙ built_rest n 1 (T.origin 2) S' d h ∙ ap (λ (X : Tables). X.op d) e' ∙ built_rest n 0 (T.origin 0) S d h

    module _ (t : ℕ) (p : 0 < t) (l : t < 2 * n - 4) where
      abbrev w : ℕ
      w = walk_word T t

      abbrev o : ℕ
      o = tri (walk_dart T t)

      abbrev a : ℕ
      a = walk_from T t

      abbrev b : ℕ
      b = walk_to T t

      abbrev side : ℕ
      side = walk_flags T t

      parts : (field0 w ≡ o) × (field1 w ≡ a) × (field2 w ≡ b) × (field3 w ≡ side)
      parts = walk_word-fields n T R.inside.triangles t p l R.few w refl

      tri_few : o < 65536
      unfolding walk_dart
      tri_few = tri_small n T R.inside.triangles (prev (apex_dart T t))

      way_is : walk_word T t ≡ pack o a b side
      unfolding walk_word
      way_is = refl

      move0 : side ≡ 1 → S''.op (3 * t) ≡ pack o (from0 a) (size0 a) 1
      unfolding parent
      move0 f =
          let x = pack o (from0 a) (size0 a) 1 in
          let m : S'.op (3 * t) ≡ x =
          rw e' (built_moved G0 t w a p l (L.walks t p l) (parts.3 ∙ f) parts.1 (ends_low n T R.inside.triangles t p l).0
          ∙ ap (λ (y : ℕ). pack y (from0 a) (size0 a) 1) parts.0) in
          rw e'' (built_kept G1 t x p l m (λ z. omega (arith, z, field3_is o (from0 a) (size0 a) 1 x refl tri_few (field0_small _) (field0_small _))))

      stays0 : side ≢ 1 → S'.op (3 * t) ≡ w
      stays0 f = rw e' (built_kept G0 t w p l (L.walks t p l) (λ z. f (sym parts.3 ∙ z)))

      move1 : side ≡ 2 → S''.op (3 * t) ≡ pack o (from1 b) (size1 b) 2
      unfolding parent
      move1 f =
          rw e''
          (built_moved G1 t w b p l (stays0 (λ z. omega (arith, z, f))) (parts.3 ∙ f) parts.2 (ends_low n T R.inside.triangles t p l).1
          ∙ ap (λ (y : ℕ). pack y (from1 b) (size1 b) 2) parts.0)

      move : S''.op (3 * t) ≡ move_word T from0 size0 from1 size1 t
      unfolding move_word
      move =
          elim (ℕ_discrete side 1) [
            | yes f ↦ rw (eq-eqb side 1 f) (move0 f)
            | no f ↦
                elim (ℕ_discrete side 2) [
                  | yes g ↦ rw (ne_eqb side 1 f, eq-eqb side 2 g) (move1 g)
                  | no g ↦
                      rw (ne_eqb side 1 f, ne_eqb side 2 g)
                      (rw e'' (built_kept G1 t w p l (stays0 f) (λ z. g (sym parts.3 ∙ z))) ∙ way_is)
                ]
          ]

    pub preordered : Preordered n T S''
    unfolding peeling_of
    preordered =
        record {
          from0 = from0;
          size0 = size0;
          from1 = from1;
          size1 = size1;
          subtree0 =
              rw (ap (λ (X : Tables). X.count) e'' ∙ built_count G1 ∙ ap (λ (X : Tables). X.count) e' ∙ built_order0 G0)
              (families (T.origin 0) (up0 T) R.not0 R.later0 S S.count);
          subtree1 =
              rw (ap {B = ℕ → ℕ} (λ (X : Tables) (j : ℕ). X.mark (2 * j)) e'' ∙ built_order1 G1)
              (families (T.origin 2) (up1 T) R.not1 R.later1 S' _);
          moves = move;
          corners = λ t p l. rest (3 * t + 1) (λ u. omega arith) ∙ L.corners t p l;
          walks_packed = record { other_walks = λ t p l. rest (3 * t + 2) (λ u. omega arith) ∙ I.other_walks t p l };
          rim = λ d h. ap field1 (rest d (λ u. omega arith)) ∙ L.rim d h;
        }

-- as the code builds them: the roots are read from the words of the outer triangle's darts
pub built_both : (n : ℕ) (S S' S'' : Tables) (v0 v1 : ℕ) → 3 ≤ n → v0 ≡ (peeling_of S).origin 0 → v1 ≡ (peeling_of S).origin 2 →
    S' ≡ preorder_built n 0 v0 S → S'' ≡ preorder_built n 1 v1 S' → (T : Peeling) → Packed n T S → WalksPacked n T S → RootedForest n T → Preordered n T S''
built_both n S S' S'' v0 v1 some e0 e1 e' e'' T L I R =
    preordered some R L I (rw (e0 ∙ L.rim 0 (omega arith)) at e') (rw (e1 ∙ L.rim 2 (omega arith)) at e'')
