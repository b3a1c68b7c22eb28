-- On a peeled mesh the words can be packed and the preorders built, and then it is ready for repair's loop. Assumes nothing.
use Rattle.std.specs.Prelude.{ℕ, ◌+◌, ◌-◌, ◌*◌, ◌/◌, ◌≤◌, ◌<◌, ◌≡◌, ◌≢◌, ◌⊎◌, List, length, ℤ}
use Rattle.std.proofs.Math.Path.{refl, sym}
use Rattle.std.proofs.Common.{◌∙◌, arith}
use Rattle.std.proofs.Math.Logic.{inl, inr}
use Rattle.definitions.specs.Mesh.{org, opp}
use Rattle.definitions.specs.Labels.{outer, label}
use Rattle.theory_sphere.specs.Sphere.{Sphere}
use Rattle.theory_realizer.specs.Realizer.{Realizer}
use Rattle.theory_crossings.specs.Tests.{named}
use Rattle.scratch_tables.specs.Tables.{tables_of, upd-at, upd_other}
use Rattle.scratch_tables.specs.Fields.{field0, field1, field2, field0_small}
use Rattle.labels_tables.specs.Peeling.{Peeling, peeling_of, peeling, set_left, set_right}
use Rattle.labels_tables.specs.LabelledTables.{Peeled, Stored, opposite_in, label_in, opposite_in_is}
use Rattle.repair_model.specs.RemovalOrder.{removed_at, up0, up1, first, last, removed, removed-below, removed_not0, removed_not1, removed-once, stored_same}
use Rattle.repair_model.specs.PackedWords.{with_rim, walk_from, walk_to, Packed, InRange, up0_low, up1_low, ends_low, removed_word-fields, walk_word-fields}
use Rattle.repair_model.specs.Corners.{Describes}
use Rattle.repair_model.specs.PreorderWords.{Preordered}
use Rattle.repair_model.specs.Neighbours.{left_in, right_in, later0, later1, left-not-last, right_not-first}
use Rattle.repair_model.specs.Ready.{Ready}
use Rattle.repair_preorder.specs.Model.{parent}
use Rattle.repair_preorder.specs.LoopInvariants.{PreorderPre}
use Rattle.repair_preorder.specs.RootedForest.{RootedForest}

module _ {n : ℕ} {ts ls : List ℕ} {s : List ℤ} (P : Peeled n ts ls s) where
  -- the tables of the labels stage, with the outer triangle's dart at v0 and v1
  abbrev pub table : Peeling
  table = with_rim (peeling s)

  abbrev sph : Sphere n (length ts / 3) (org ts) (opp ts)
  sph = P.labelled.sphere

  abbrev R : Realizer n (length ts / 3) (org ts) (opp ts) (label ls) (outer ts)
  R = P.realizer

  -- ---- what they tell is the same

  origin_is : (d : ℕ) → d < 3 → (peeling s).origin d ≡ org ts d
  origin_is d h = P.labelled.origins d (omega (arith, P.labelled.size, sph.least))

  tells : Describes ts ls (peeling s)
  tells =
      record {
        opposites = opposite_in_is P.labelled;
        origins = P.labelled.origins;
        apexes = P.labelled.apexes;
        labels = P.labelled.labels;
      }

  describes : Describes ts ls table
  unfolding with_rim set_left set_right opposite_in label_in
  describes = record { opposites = tells.opposites; origins = tells.origins; apexes = tells.apexes; labels = tells.labels }

  same_who : (k : ℕ) → removed_at table k ≡ removed_at (peeling s) k
  unfolding with_rim set_left set_right
  same_who k = refl

  same_left : (i : ℕ) → i ≢ outer ts 1 → table.left i ≡ (peeling s).left i
  unfolding with_rim set_left set_right outer
  same_left i d = upd_other ((peeling s).origin 2) i 2 (peeling s).left (λ e. d (e ∙ origin_is 2 (omega arith)))

  same_right : (i : ℕ) → i ≢ outer ts 0 → table.right i ≡ (peeling s).right i
  unfolding with_rim set_left set_right outer
  same_right i d = upd_other ((peeling s).origin 0) i 2 (peeling s).right (λ e. d (e ∙ origin_is 0 (omega arith)))

  stored : Stored n (length ts / 3) (org ts) (opp ts) table 0 R.trace
  stored =
      stored_same n (peeling s) table same_who (λ k h. same_left (removed_at (peeling s) k) (removed_not1 sph R (named ts) (peeling s) P.stored k h))
      (λ k h. same_right (removed_at (peeling s) k) (removed_not0 sph R (named ts) (peeling s) P.stored k h)) 0 R.trace P.stored

  -- ---- v0 and v1

  root_is : (d : ℕ) → d < 3 → table.origin d ≡ org ts d
  unfolding with_rim set_left set_right
  root_is d h = origin_is d h

  at_first : table.right (outer ts 0) ≡ 2
  unfolding with_rim set_left set_right outer
  at_first = upd-at ((peeling s).origin 0) (org ts 0) 2 (peeling s).right (sym (origin_is 0 (omega arith)))

  at_last : table.left (outer ts 1) ≡ 2
  unfolding with_rim set_left set_right outer
  at_last = upd-at ((peeling s).origin 2) (org ts 2) 2 (peeling s).left (sym (origin_is 2 (omega arith)))

  -- ---- what is read is there

  module _ (T : Peeling) (few : (d : ℕ) → T.turn d < 65536) (D : Describes ts ls T) (q : Stored n (length ts / 3) (org ts) (opp ts) T 0 R.trace) where
    all_in : InRange n T
    all_in =
        let size = P.labelled.size in
        record {
          triangles =
              record {
                turns = few;
                origins = λ d h. rw (D.origins d (omega (arith, size))) (sph.vertex d (omega (arith, size)));
                apexes = λ t h l. D.apexes t h (omega (arith, size));
              };
          order = removed-below sph R (named ts) T q;
          lefts = λ k h. omega (arith, left_in ts ls sph size R T D q k h, size);
          rights = λ k h. omega (arith, right_in ts ls sph size R T D q k h, size);
        }

  turn_few : (d : ℕ) → (peeling s).turn d < 65536
  unfolding peeling_of
  turn_few d = field0_small ((tables_of s).op d)

  pub in_range : InRange n (peeling s)
  in_range = all_in (peeling s) turn_few tells P.stored

  table_in : InRange n table
  unfolding with_rim set_left set_right
  table_in = all_in table turn_few describes stored

  -- ---- its paths lead to the roots

  to-first : (k : ℕ) → k < n - 2 → (up0 table k ≡ table.origin 0) ⊎ ((j : ℕ) × (k < j) × (j < n - 2) × (removed_at table j ≡ up0 table k))
  unfolding outer
  to-first k h =
      elim (later0 ts ls sph P.labelled.size R table describes stored k h) [
        | first e ↦ inl (e ∙ sym (root_is 0 (omega arith)))
        | last e ↦ absurd (left-not-last ts ls sph P.labelled.size R table describes stored k h e)
        | removed j l m e ↦ inr (j, l, m, e)
      ]

  to_last : (k : ℕ) → k < n - 2 → (up1 table k ≡ table.origin 2) ⊎ ((j : ℕ) × (k < j) × (j < n - 2) × (removed_at table j ≡ up1 table k))
  unfolding outer
  to_last k h =
      elim (later1 ts ls sph P.labelled.size R table describes stored k h) [
        | first e ↦ absurd (right_not-first ts ls sph P.labelled.size R table describes stored k h e)
        | last e ↦ inl (e ∙ sym (root_is 2 (omega arith)))
        | removed j l m e ↦ inr (j, l, m, e)
      ]

  pub rooted : RootedForest n table
  unfolding outer
  rooted =
      record {
        few = P.labelled.most;
        inside = table_in;
        who_once = removed-once sph R (named ts) table stored;
        not0 = λ k h e. removed_not0 sph R (named ts) table stored k h (e ∙ root_is 0 (omega arith));
        not1 = λ k h e. removed_not1 sph R (named ts) table stored k h (e ∙ root_is 2 (omega arith));
        later0 = to-first;
        later1 = to_last;
      }

  -- ---- its words have room

  module _ (s' : List ℤ) (L : Packed n table (tables_of s')) (room : 10 * n ≤ length s') where
    names : (k : ℕ) (h : k < n - 2) → let w = (tables_of s').mark (2 * k + 1) in
        (field0 w ≡ removed_at table k) × (field1 w ≡ up0 table k) × (field2 w ≡ up1 table k)
    names k h = removed_word-fields n table table_in P.labelled.most k h ((tables_of s').mark (2 * k + 1)) (L.removed k h)

    tails : (t : ℕ) (h : 0 < t) (l : t < 2 * n - 4) → let w = (tables_of s').op (3 * t) in (field1 w ≡ walk_from table t) × (field2 w ≡ walk_to table t)
    tails t h l =
        let e = walk_word-fields n table table_in.triangles t h l P.labelled.most ((tables_of s').op (3 * t)) (L.walks t h l) in
        (e.1, e.2)

    pub preorder_pre : PreorderPre n s'
    unfolding parent
    preorder_pre =
        let I = table_in in
        let low = I.triangles.origins in
        record {
          pass_pre =
              record {
                some = sph.least;
                few = P.labelled.most;
                room = room;
                removed = λ k h. rw (names k h).0 (I.order k h);
                left = λ k h. rw (names k h).1 (up0_low n table I k h);
                right = λ k h. rw (names k h).2 (up1_low n table I k h);
              };
          walks0 = record { tails = λ t h l f. rw (tails t h l).0 (ends_low n table I.triangles t h l).0 };
          walks1 = record { tails = λ t h l f. rw (tails t h l).1 (ends_low n table I.triangles t h l).1 };
          first = rw (L.rim 0 (omega arith)) (low 0 (omega (arith, sph.least)));
          last = rw (L.rim 2 (omega arith)) (low 2 (omega (arith, sph.least)));
        }

  -- ---- once built it is ready

  pub ready : (s' : List ℤ) → Preordered n table (tables_of s') → Ready n ts ls s'
  ready s' preordered =
      record {
        most = P.labelled.most;
        size = P.labelled.size;
        sphere = sph;
        realizer = R;
        tables = table;
        describes = describes;
        stored = stored;
        first = at_first;
        last = at_last;
        preordered = preordered;
      }
