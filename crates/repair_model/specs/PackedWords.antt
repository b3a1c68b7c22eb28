-- The words that repair packs into scratch over the tables of the labels stage: four numbers in a word, of a triangle or of a vertex that left; and what is
-- read back from a word. T is the tables of the labels stage, S what repair has made of scratch. Assumes nothing.
use Rattle.std.specs.Prelude.{ℕ, ◌+◌, ◌-◌, ◌*◌, ◌≤◌, ◌<◌, ◌≡◌, eqb}
use Rattle.std.proofs.Common.{sym, ap, arith}
use Rattle.definitions.specs.Mesh.{triangles_length, tri, next, prev}
use Rattle.theory_sphere.specs.Darts.{next-next, next-below, prev-below, below-tri}
use Rattle.theory_realizer.specs.Units.{bit}
use Rattle.scratch_tables.specs.Tables.{Tables}
use Rattle.scratch_tables.specs.Fields.{pack, field0, field1, field2, field3, field0_is, field1_is, field2_is, field3_is}
use Rattle.labels_tables.specs.Peeling.{Peeling, peeling_of, set_left, set_right}
use Rattle.labels_tables.specs.LabelledTables.{opposite_in, apex_dart}
use Rattle.repair_model.specs.RemovalOrder.{removed_at, up0, up1}

-- ---- a triangle's corners

-- the dart by which the colour-2 walk comes from triangle t into the next one
unfoldable pub walk_dart : Peeling → ℕ → ℕ
unfolding apex_dart prev
walk_dart T t = T.turn (prev (apex_dart T t))

-- it is the opposite of the dart from the corner with label 0 to the one with label 1; those are its ends, in reverse
pub walk_dart-opposite : (T : Peeling) (t : ℕ) → walk_dart T t ≡ opposite_in T (next (apex_dart T t))
unfolding walk_dart opposite_in
walk_dart-opposite T t = ap T.turn (sym (next-next (apex_dart T t)))

abbrev pub walk_from : Peeling → ℕ → ℕ
walk_from T t = T.origin (prev (apex_dart T t))

abbrev pub walk_to : Peeling → ℕ → ℕ
walk_to T t = T.origin (next (apex_dart T t))

-- v0 and v1, which did not leave, get the outer triangle's dart between them
unfoldable pub with_rim : Peeling → Peeling
unfolding set_left set_right
with_rim T = set_left (T.origin 2) 2 (set_right (T.origin 0) 2 T)

-- ---- the words

-- 1 if o is the dart to the left of vertex a; and 2 if it is the dart from the right of b
unfoldable pub end_flags : Peeling → ℕ → ℕ → ℕ → ℕ
end_flags T o a b = bit (eqb (T.left a) o) + 2 * bit (eqb (T.right b) o)

-- for the dart by which the walk comes from triangle t
abbrev pub walk_flags : Peeling → ℕ → ℕ
walk_flags T t = end_flags T (walk_dart T t) (walk_from T t) (walk_to T t)

module _ (T : Peeling) where
  -- of triangle t: where its colour-2 walk goes, and the two ends of the dart by which it comes there, and of which of them that is the dart
  unfoldable pub walk_word : ℕ → ℕ
  unfolding pack walk_dart apex_dart tri next prev end_flags
  walk_word t = pack (tri (walk_dart T t)) (walk_from T t) (walk_to T t) (walk_flags T t)

  -- of triangle t: the vertices at its corners with the labels 0, 1, 2
  unfoldable pub corner_word : ℕ → ℕ
  unfolding pack apex_dart next prev
  corner_word t = let g = apex_dart T t in pack (T.origin (next g)) (T.origin (prev g)) (T.origin g) 0

  -- of triangle t: the triangles across the sides opposite its corners with labels 0 and 1
  unfoldable pub other_walks_word : ℕ → ℕ
  unfolding pack tri apex_dart next
  other_walks_word t = let g = apex_dart T t in pack (tri (T.turn g)) (tri (T.turn (next g))) 0 0

  -- of the k-th vertex that leaves: itself, and its neighbours to the left and to the right
  unfoldable pub removed_word : ℕ → ℕ
  unfolding pack next
  removed_word k = pack (removed_at T k) (up0 T k) (up1 T k) 0

-- S has them, made from T; the words of the outer triangle's darts have their origins
pub record Packed (n : ℕ) (T : Peeling) (S : Tables) : Type 0 where
  pub walks : (t : ℕ) → 0 < t → t < 2 * n - 4 → S.op (3 * t) ≡ walk_word T t
  pub corners : (t : ℕ) → 0 < t → t < 2 * n - 4 → S.op (3 * t + 1) ≡ corner_word T t
  pub removed : (k : ℕ) → k < n - 2 → S.mark (2 * k + 1) ≡ removed_word T k
  pub rim : (d : ℕ) → d < 3 → (peeling_of S).origin d ≡ T.origin d

-- and the words of the walks of colours 0 and 1
pub record WalksPacked (n : ℕ) (T : Peeling) (S : Tables) : Type 0 where
  pub other_walks : (t : ℕ) → 0 < t → t < 2 * n - 4 → S.op (3 * t + 2) ≡ other_walks_word T t

-- ---- what is read to pack them is there

-- for the words of the triangles
pub record TrianglesIn (n : ℕ) (T : Peeling) : Type 0 where
  pub turns : (d : ℕ) → T.turn d < 65536
  pub origins : (d : ℕ) → d < triangles_length n → T.origin d < n
  pub apexes : (t : ℕ) → 0 < t → t < 2 * n - 4 → T.apex t < 3

-- and for those of the vertices that leave
pub record InRange (n : ℕ) (T : Peeling) : Type 0 where
  pub triangles : TrianglesIn n T
  pub order : (k : ℕ) → k < n - 2 → removed_at T k < n
  pub lefts : (k : ℕ) → k < n - 2 → T.left (removed_at T k) < triangles_length n
  pub rights : (k : ℕ) → k < n - 2 → T.right (removed_at T k) < triangles_length n

-- the corner with label 2 is one of its triangle
pub apex-tri : (T : Peeling) (t : ℕ) → T.apex t < 3 → tri (apex_dart T t) ≡ t
unfolding apex_dart tri
apex-tri T t h = omega arith

module _ (n : ℕ) (T : Peeling) (I : InRange n T) where
  -- the parents of the vertices that leave
  pub up0_low : (k : ℕ) → k < n - 2 → up0 T k < n
  up0_low k h = I.triangles.origins (next (T.left (removed_at T k))) (next-below (2 * n - 4) (T.left (removed_at T k)) (I.lefts k h))

  pub up1_low : (k : ℕ) → k < n - 2 → up1 T k < n
  up1_low k h = I.triangles.origins (T.right (removed_at T k)) (I.rights k h)

  module _ (most : n ≤ 4096) (k : ℕ) (h : k < n - 2) (w : ℕ) (e : w ≡ removed_word T k) where
    pub removed_word-fields : (field0 w ≡ removed_at T k) × (field1 w ≡ up0 T k) × (field2 w ≡ up1 T k)
    unfolding removed_word
    removed_word-fields =
        let a : removed_at T k < 65536 = omega (arith, I.order k h) in
        let b : up0 T k < 65536 = omega (arith, up0_low k h) in
        let c : up1 T k < 65536 = omega (arith, up1_low k h) in (
          field0_is (removed_at T k) (up0 T k) (up1 T k) 0 w e a b c,
          field1_is (removed_at T k) (up0 T k) (up1 T k) 0 w e a b c,
          field2_is (removed_at T k) (up0 T k) (up1 T k) 0 w e a b c,
        )

module _ (n : ℕ) (T : Peeling) (I : TrianglesIn n T) where
  pub tri_small : (d : ℕ) → tri (T.turn d) < 65536
  unfolding tri
  tri_small d = omega (arith, I.turns d)

  module _ (t : ℕ) (h : 0 < t) (l : t < 2 * n - 4) where
    pub apex-below : apex_dart T t < triangles_length n
    apex-below = below-tri (2 * n - 4) (apex_dart T t) (omega (arith, apex-tri T t (I.apexes t h l)))

    pub ends_low : (walk_from T t < n) × (walk_to T t < n)
    ends_low = (
      I.origins (prev (apex_dart T t)) (prev-below (2 * n - 4) (apex_dart T t) apex-below),
      I.origins (next (apex_dart T t)) (next-below (2 * n - 4) (apex_dart T t) apex-below),
    )

    module _ (most : n ≤ 4096) (w : ℕ) (e : w ≡ walk_word T t) where
      pub walk_word-fields : (field0 w ≡ tri (walk_dart T t)) × (field1 w ≡ walk_from T t) × (field2 w ≡ walk_to T t) × (field3 w ≡ walk_flags T t)
      unfolding walk_word walk_dart
      walk_word-fields =
          let o = tri (walk_dart T t) in
          let a : walk_from T t < 65536 = omega (arith, ends_low) in
          let b : walk_to T t < 65536 = omega (arith, ends_low) in
          let l = tri_small (prev (apex_dart T t)) in (
            field0_is o (walk_from T t) (walk_to T t) (walk_flags T t) w e l a b,
            field1_is o (walk_from T t) (walk_to T t) (walk_flags T t) w e l a b,
            field2_is o (walk_from T t) (walk_to T t) (walk_flags T t) w e l a b,
            field3_is o (walk_from T t) (walk_to T t) (walk_flags T t) w e l a b,
          )
