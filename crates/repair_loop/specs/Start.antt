-- How repair starts on a peeled mesh: its coordinates are drawn, its words packed, its preorders built, and the absolute values summed. Assumes nothing.
use Rattle.std.specs.Prelude.{ℕ, ◌≤◌, ◌<◌, ◌^◌, ◌≡◌, refl, false, List, length, ℤ, nat_abs}
use Rattle.std.proofs.Common.{sym, arith, ltb-false}
use Rattle.std.specs.List.{sum_by}
use Rattle.std.proofs.lemmas.List.Recursion.{is_sum_by}
use Rattle.definitions.specs.Lists.{total_abs}
use Rattle.definitions.specs.Mesh.{weights_length, coordinates_length}
use Rattle.definitions.specs.Forward.{forward}
use Rattle.definitions.specs.Repair.{limit}
use Rattle.definitions.specs.Refusals.{row9}
use Rattle.scratch_tables.specs.Tables.{tables_of}
use Rattle.labels_tables.specs.Peeling.{Peeling, peeling}
use Rattle.labels_tables.specs.LabelledTables.{Peeled}
use Rattle.repair_model.specs.PackedWords.{Packed, WalksPacked, with_rim}
use Rattle.repair_model.specs.PreorderWords.{Preordered}
use Rattle.repair_model.specs.Ready.{Ready}
use Rattle.repair_words.specs.LoopInvariants.{PackPre}
use Rattle.repair_preorder.specs.ForestOfMesh.{in_range, rooted, ready}
use Rattle.repair_preorder.specs.RootedForest.{RootedForest}
use Rattle.repair_loop.specs.OneRaise.{ReadyPre}

-- ---- the sum

pub summed_is : (ws : List ℤ) → sum_by nat_abs ws ≡ total_abs ws
unfolding total_abs
summed_is ws = sym (is_sum_by total_abs nat_abs refl (λ _ _. refl) ws)

light_is : (ws : List ℤ) → row9 ws ≡ false → total_abs ws ≤ limit
unfolding row9
light_is ws e = ltb-false limit (total_abs ws) e

pub summed_fits : (ws : List ℤ) → row9 ws ≡ false → sum_by nat_abs ws < 2 ^ 64
summed_fits ws e = omega (arith, summed_is ws, light_is ws e)

-- ---- what repair is called for

pub record StartPre (n : ℕ) (ws bs s : List ℤ) : Type 0 where
  pub triangles : List ℕ
  pub labels : List ℕ
  pub peeled : Peeled n triangles labels s
  pub weights : length ws ≡ weights_length n
  pub light : row9 ws ≡ false
  pub coordinates : length bs ≡ coordinates_length n

-- its words can be packed
pub pack_pre : (n : ℕ) (ws bs s : List ℤ) → StartPre n ws bs s → PackPre n s
pack_pre n ws bs s S =
    let l = S.peeled.labelled in
    record { some = l.sphere.least; few = l.most; room = l.room; inside = in_range S.peeled }

-- s₁ has the words packed, s₂ the preorders built as well
module _ (n : ℕ) (s s₁ s₂ : List ℤ) (L : Packed n (with_rim (peeling s)) (tables_of s₁)) (N : WalksPacked n (with_rim (peeling s)) (tables_of s₁))
    (built : (T : Peeling) → Packed n T (tables_of s₁) → WalksPacked n T (tables_of s₁) → RootedForest n T → Preordered n T (tables_of s₂)) where
  pub all_ready : (ts ls : List ℕ) → Peeled n ts ls s → Ready n ts ls s₂
  all_ready ts ls P = ready P s₂ (built (with_rim (peeling s)) L N (rooted P))

  pub ready_pre : (ws bs bs' : List ℤ) (sum : ℕ) (S : StartPre n ws bs s) → length s₂ ≡ length s → bs' ≡ forward n S.triangles S.labels ws →
      sum ≡ total_abs ws →
      ReadyPre n ws bs' s₂ sum
  ready_pre ws bs bs' sum S long drawn summed =
      record {
        triangles = S.triangles;
        labels = S.labels;
        ready = all_ready S.triangles S.labels S.peeled;
        drawn = drawn;
        long = S.weights;
        summed = summed;
        light = light_is ws S.light;
        room = omega (arith, S.peeled.labelled.room);
      }
