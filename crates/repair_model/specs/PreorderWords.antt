-- The words of repair's loop: one for each triangle that a walk passes, with the subtree that moves there, and two preorders. Definitions only.
use Rattle.std.specs.Prelude.{ℕ, ◌+◌, ◌-◌, ◌*◌, ◌<◌, ◌≡◌, cond, eqb}
use Rattle.definitions.specs.Mesh.{tri, next, prev}
use Rattle.theory_subtrees.specs.Subtree.{Subtree}
use Rattle.scratch_tables.specs.Tables.{Tables}
use Rattle.scratch_tables.specs.Fields.{pack}
use Rattle.labels_tables.specs.Peeling.{Peeling, peeling_of}
use Rattle.labels_tables.specs.LabelledTables.{apex_dart}
use Rattle.repair_model.specs.RemovalOrder.{removed_at, up0, up1}
use Rattle.repair_model.specs.PackedWords.{walk_dart, walk_from, walk_to, end_flags, walk_flags, corner_word, WalksPacked}

-- Of triangle t: where its colour-2 walk goes. A walk that passes there moves the subtree of one end of the side that it crosses: of the one whose dart to
-- the left that is, with 1; of the one whose dart from the right it is, with 2. `from` and `size` say where the subtrees stand in the two preorders.
unfoldable pub move_word : Peeling → (ℕ → ℕ) → (ℕ → ℕ) → (ℕ → ℕ) → (ℕ → ℕ) → ℕ → ℕ
unfolding pack walk_dart apex_dart tri next prev end_flags
move_word T from0 size0 from1 size1 t =
    let o = tri (walk_dart T t) in
    let a = walk_from T t in
    let b = walk_to T t in
    let f = walk_flags T t in
    cond (eqb f 1) (pack o (from0 a) (size0 a) 1) (cond (eqb f 2) (pack o (from1 b) (size1 b) 2) (pack o a b f))

-- colour 0 has its preorder in `count`, colour 1 in the even marks
pub record Preordered (n : ℕ) (T : Peeling) (S : Tables) : Type 0 where
  pub from0 : ℕ → ℕ
  pub size0 : ℕ → ℕ
  pub from1 : ℕ → ℕ
  pub size1 : ℕ → ℕ
  pub subtree0 : Subtree n (n - 2) (removed_at T) (up0 T) S.count from0 size0
  pub subtree1 : Subtree n (n - 2) (removed_at T) (up1 T) (λ j. S.mark (2 * j)) from1 size1
  pub moves : (t : ℕ) → 0 < t → t < 2 * n - 4 → S.op (3 * t) ≡ move_word T from0 size0 from1 size1 t
  pub corners : (t : ℕ) → 0 < t → t < 2 * n - 4 → S.op (3 * t + 1) ≡ corner_word T t
  pub walks_packed : WalksPacked n T S
  -- the words of the outer triangle's darts have their origins
  pub rim : (d : ℕ) → d < 3 → (peeling_of S).origin d ≡ T.origin d
