-- How the code meets the words that a raise reads: their parts, and the two loops that pack them. Assumes nothing.
use Prim.Native.Nat.{ℕ, ◌+◌, ◌-◌, ◌*◌, ◌≤◌, ◌<◌, ◌^◌}
use Rattle.std.specs.Prelude.{◌≡◌, refl, Bool, true, false, List, length, ℤ}
use Rattle.std.proofs.Common.{sym, ◌∙◌, arith}
use Rattle.std.specs.Int.{from_bool}
use Rattle.std.proofs.Math.Path.{ap}
use Rattle.std.proofs.Math.Decide.{ℕ_discrete}
use Rattle.definitions.specs.Mesh.{tri, next, prev}
use Rattle.theory_sphere.specs.Darts.{next-below}
use Rattle.theory_realizer.specs.Units.{bit}
use Rattle.scratch_tables.specs.Tables.{Tables, tables_of, dart_in, vertex_in, set_op, set_mark, upd-at, upd_other}
use Rattle.scratch_tables.specs.Fields.{field1}
use Rattle.labels_tables.specs.Peeling.{Peeling, peeling_of, peeling, set_left, set_right}
use Rattle.labels_tables.specs.LabelledTables.{apex_dart}
use Rattle.repair_model.specs.RemovalOrder.{removed_at}
use Rattle.repair_model.specs.PackedWords.{walk_dart, walk_from, walk_to, with_rim, end_flags, walk_word, corner_word, removed_word, other_walks_word, Packed}
use Rattle.repair_model.specs.PackedWords.{WalksPacked, TrianglesIn, InRange, apex-tri, ends_low}

-- ---- the words

-- the number of a test is the same in code and definitions
pub bit_is : (x : Bool) → from_bool x ≡ bit x
bit_is true = refl
bit_is false = refl

-- the words of triangle t in their places
unfoldable pub set_words : ℕ → Tables → Tables
unfolding walk_word corner_word other_walks_word set_op peeling_of
set_words t S =
    let T = peeling_of S in
    set_op (3 * t + 2) (other_walks_word T t) (set_op (3 * t + 1) (corner_word T t) (set_op (3 * t) (walk_word T t) S))

-- ---- what is asked of scratch

-- to pack all words
pub record PackPre (n : ℕ) (s : List ℤ) : Type 0 where
  pub some : 3 ≤ n
  pub few : n ≤ 4096
  pub room : 10 * n ≤ length s
  pub inside : InRange n (peeling s)

-- those of the triangles
pub record TrianglesPre (n : ℕ) (s : List ℤ) : Type 0 where
  pub some : 3 ≤ n
  pub few : n ≤ 4096
  pub room : 10 * n ≤ length s
  pub inside : TrianglesIn n (peeling s)

-- those of triangle t
pub record TrianglePre (words : ℕ) (T : Peeling) (t : ℕ) : Type 0 where
  pub few : t < 65536
  pub room : dart_in words (3 * t + 2)
  pub apex : T.apex t < 3
  pub from : vertex_in words (walk_from T t)
  pub to : vertex_in words (walk_to T t)

-- that of the k-th vertex that left
pub record RemovedPre (words : ℕ) (T : Peeling) (k : ℕ) : Type 0 where
  pub place : vertex_in words k
  pub low : removed_at T k < 65536
  pub vertex : vertex_in words (removed_at T k)
  pub left : dart_in words (next (T.left (removed_at T k)))
  pub right : dart_in words (T.right (removed_at T k))

-- what is asked of a triangle says that its darts are there
module _ (words : ℕ) (T : Peeling) (t : ℕ) (P : TrianglePre words T t) (g : ℕ) (eg : g ≡ apex_dart T t) where
  pub apex_few : g < 2 ^ 63
  unfolding apex_dart
  apex_few = omega (arith, P.few, P.apex)

  pub apex-at : dart_in words g
  unfolding apex_dart
  apex-at = omega (arith, P.room, P.apex)

  pub next-at : dart_in words (next g)
  unfolding apex_dart next
  next-at = omega (arith, P.room, P.apex)

  pub prev-at : (q : ℕ) → q ≡ prev g → dart_in words q
  unfolding apex_dart prev
  prev-at q e = omega (arith, P.room, P.apex)

-- for the code's calls on them
pub ruleset darts_in_room = (apex_few, apex-at, next-at, prev-at)

-- ---- the vertices that left

-- the words of the first m are packed
pub record RemovedPacked (n : ℕ) (S₀ S : Tables) (m : ℕ) : Type 0 where
  pub removed : (k : ℕ) → k < m → S.mark (2 * k + 1) ≡ removed_word (peeling_of S₀) k
  pub rest : (k : ℕ) → m ≤ k → S.mark (2 * k + 1) ≡ S₀.mark (2 * k + 1)
  pub op : S.op ≡ S₀.op
  pub head : S.head ≡ S₀.head

module _ (n : ℕ) (S₀ S : Tables) (k : ℕ) (L : RemovedPacked n S₀ S k) where
  same-removed : removed_word (peeling_of S) k ≡ removed_word (peeling_of S₀) k
  unfolding removed_word peeling_of
  same-removed = rw (L.rest k (omega arith), L.op, L.head)

  pub removed-next : (S' : Tables) → S' ≡ set_mark (2 * k + 1) (removed_word (peeling_of S) k) S → RemovedPacked n S₀ S' (k + 1)
  unfolding set_mark
  removed-next S' e =
      let w = removed_word (peeling_of S) k in
      rw e
      (record {
        removed = λ i h.
            elim (ℕ_discrete i k) [
              | yes d ↦ upd-at (2 * k + 1) (2 * i + 1) w S.mark (omega arith) ∙ same-removed ∙ ap (removed_word (peeling_of S₀)) (sym d)
              | no d ↦ upd_other (2 * k + 1) (2 * i + 1) w S.mark (omega arith) ∙ L.removed i (omega arith)
            ];
        rest = λ i h. upd_other (2 * k + 1) (2 * i + 1) w S.mark (omega arith) ∙ L.rest i (omega arith);
        op = L.op;
        head = L.head;
      })

  -- what is asked of the next
  pub removed_pre : (words : ℕ) → 3 ≤ n → n ≤ 4096 → 10 * n ≤ words → InRange n (peeling_of S₀) → k < n - 2 → RemovedPre words (peeling_of S) k
  unfolding peeling_of
  removed_pre words some few room I h =
      let T₀ = peeling_of S₀ in
      let e = L.rest k (omega arith) in
      let l : (peeling_of S).left (removed_at (peeling_of S) k) ≡ T₀.left (removed_at T₀ k) = rw (e, L.head) in
      let r : (peeling_of S).right (removed_at (peeling_of S) k) ≡ T₀.right (removed_at T₀ k) = rw (e, L.head) in
      record {
        place = omega (arith, h, room);
        low = rw e (omega (arith, I.order k h, few));
        vertex = rw e (omega (arith, I.order k h, room));
        left = rw l (omega (arith, next-below (2 * n - 4) (T₀.left (removed_at T₀ k)) (I.lefts k h), room));
        right = rw r (omega (arith, I.rights k h, room));
      }

-- ---- the triangles

-- the words of triangle t are made from its own darts
module _ (S₀ S : Tables) (t : ℕ) (low : (peeling_of S₀).apex t < 3) (rest : (d : ℕ) → 3 * t ≤ d → S.op d ≡ S₀.op d) (head : S.head ≡ S₀.head) where
  abbrev T₀ : Peeling
  T₀ = peeling_of S₀

  abbrev g : ℕ
  g = apex_dart T₀ t

  same-apex : apex_dart (peeling_of S) t ≡ g
  unfolding apex_dart peeling_of
  same-apex = rw (rest (3 * t) (omega arith))

  apex-least : (3 * t ≤ g) × (3 * t ≤ next g) × (3 * t ≤ prev g)
  unfolding tri next prev
  apex-least = omega (arith, apex-tri T₀ t low)

  same_ends : (walk_from (peeling_of S) t ≡ walk_from T₀ t) × (walk_to (peeling_of S) t ≡ walk_to T₀ t)
  unfolding peeling_of
  same_ends = rw same-apex (ap field1 (rest (prev g) apex-least.2), ap field1 (rest (next g) apex-least.1))

  same-walk_word : walk_word (peeling_of S) t ≡ walk_word T₀ t
  unfolding walk_word walk_dart end_flags peeling_of
  same-walk_word = rw (same-apex, rest (prev g) apex-least.2, rest (next g) apex-least.1, head)

  same-corners : corner_word (peeling_of S) t ≡ corner_word T₀ t
  unfolding corner_word peeling_of
  same-corners = rw (same-apex, rest g apex-least.0, rest (prev g) apex-least.2, rest (next g) apex-least.1)

  same_other_walks : other_walks_word (peeling_of S) t ≡ other_walks_word T₀ t
  unfolding other_walks_word peeling_of
  same_other_walks = rw (same-apex, rest g apex-least.0, rest (next g) apex-least.1)

-- the words of the inner triangles below m are packed, those of the others are as they were
pub record TrianglesPacked (n : ℕ) (S₀ S : Tables) (m : ℕ) : Type 0 where
  pub walks : (t : ℕ) → 0 < t → t < m → S.op (3 * t) ≡ walk_word (peeling_of S₀) t
  pub corners : (t : ℕ) → 0 < t → t < m → S.op (3 * t + 1) ≡ corner_word (peeling_of S₀) t
  pub other_walks : (t : ℕ) → 0 < t → t < m → S.op (3 * t + 2) ≡ other_walks_word (peeling_of S₀) t
  pub rim : (d : ℕ) → d < 3 → S.op d ≡ S₀.op d
  pub rest : (d : ℕ) → 3 * m ≤ d → S.op d ≡ S₀.op d
  pub head : S.head ≡ S₀.head
  pub mark : S.mark ≡ S₀.mark

module _ (n : ℕ) (S₀ S : Tables) (t : ℕ) (W : TrianglesPacked n S₀ S t) (I : TrianglesIn n (peeling_of S₀)) (h : 0 < t) (l : t < 2 * n - 4) where
  -- what is asked of the next
  pub triangle_pre : (words : ℕ) → n ≤ 4096 → 10 * n ≤ words → TrianglePre words (peeling_of S) t
  unfolding peeling_of
  triangle_pre words few room =
      let e = same_ends S₀ S t (I.apexes t h l) W.rest W.head in
      let b = ends_low n (peeling_of S₀) I t h l in
      record {
        few = omega (arith, l, few);
        room = omega (arith, l, room);
        apex = rw (W.rest (3 * t) (omega arith)) (I.apexes t h l);
        from = omega (arith, e.0, b.0, room);
        to = omega (arith, e.1, b.1, room);
      }

  pub triangles-next : (S' : Tables) → S' ≡ set_words t S → TrianglesPacked n S₀ S' (t + 1)
  unfolding set_words set_op
  triangles-next S' e =
      let low = I.apexes t h l in
      let w = walk_word (peeling_of S) t in
      let c = corner_word (peeling_of S) t in
      let x = other_walks_word (peeling_of S) t in
      rw e
      (record {
        walks = λ i p q.
            upd_other (3 * t + 2) (3 * i) x _ (omega arith) ∙ upd_other (3 * t + 1) (3 * i) c _ (omega arith)
            ∙ elim (ℕ_discrete i t) [
              | yes d ↦ upd-at (3 * t) (3 * i) w S.op (omega arith) ∙ same-walk_word S₀ S t low W.rest W.head
                  ∙ ap (walk_word (peeling_of S₀)) (sym d)
              | no d ↦ upd_other (3 * t) (3 * i) w S.op (omega arith) ∙ W.walks i p (omega arith)
            ];
        corners = λ i p q.
            upd_other (3 * t + 2) (3 * i + 1) x _ (omega arith)
            ∙ elim (ℕ_discrete i t) [
              | yes d ↦ upd-at (3 * t + 1) (3 * i + 1) c _ (omega arith) ∙ same-corners S₀ S t low W.rest W.head
                  ∙ ap (corner_word (peeling_of S₀)) (sym d)
              | no d ↦
                  upd_other (3 * t + 1) (3 * i + 1) c _ (omega arith) ∙ upd_other (3 * t) (3 * i + 1) w S.op (omega arith)
                  ∙ W.corners i p (omega arith)
            ];
        other_walks = λ i p q.
            elim (ℕ_discrete i t) [
              | yes d ↦ upd-at (3 * t + 2) (3 * i + 2) x _ (omega arith) ∙ same_other_walks S₀ S t low W.rest W.head
                  ∙ ap (other_walks_word (peeling_of S₀)) (sym d)
              | no d ↦
                  upd_other (3 * t + 2) (3 * i + 2) x _ (omega arith) ∙ upd_other (3 * t + 1) (3 * i + 2) c _ (omega arith)
                  ∙ upd_other (3 * t) (3 * i + 2) w S.op (omega arith) ∙ W.other_walks i p (omega arith)
            ];
        rim = λ d q.
            upd_other (3 * t + 2) d x _ (omega arith) ∙ upd_other (3 * t + 1) d c _ (omega arith) ∙ upd_other (3 * t) d w S.op (omega arith)
            ∙ W.rim d q;
        rest = λ d q.
            upd_other (3 * t + 2) d x _ (omega arith) ∙ upd_other (3 * t + 1) d c _ (omega arith) ∙ upd_other (3 * t) d w S.op (omega arith)
            ∙ W.rest d (omega arith);
        head = W.head;
        mark = W.mark;
      })

-- ---- all of them: the rim, then the vertices that left, then the triangles

-- with the outer triangle's dart at v0 and v1 too
in_range-with_rim : (n : ℕ) (T : Peeling) → 3 ≤ n → InRange n T → InRange n (with_rim T)
unfolding with_rim set_left set_right
in_range-with_rim n T some I =
    record {
      triangles = record { turns = I.triangles.turns; origins = I.triangles.origins; apexes = I.triangles.apexes };
      order = I.order;
      lefts = λ k h. elim (ℕ_discrete (T.order k) (T.origin 2)) [
        | yes e ↦ rw (upd-at (T.origin 2) (T.order k) 2 T.left e) (omega arith)
        | no e ↦ rw (upd_other (T.origin 2) (T.order k) 2 T.left e) (I.lefts k h)
      ];
      rights = λ k h. elim (ℕ_discrete (T.order k) (T.origin 0)) [
        | yes e ↦ rw (upd-at (T.origin 0) (T.order k) 2 T.right e) (omega arith)
        | no e ↦ rw (upd_other (T.origin 0) (T.order k) 2 T.right e) (I.rights k h)
      ];
    }

module _ (n : ℕ) (s s₁ : List ℤ) (P : PackPre n s) (e₁ : length s₁ ≡ length s) (q₁ : peeling s₁ ≡ with_rim (peeling s)) where
  inside₁ : InRange n (peeling s₁)
  inside₁ = rw q₁ (in_range-with_rim n (peeling s) P.some P.inside)

  pub pack_pre_with_rim : PackPre n s₁
  pack_pre_with_rim = record { some = P.some; few = P.few; room = omega (arith, P.room); inside = inside₁ }

  module _ (s₂ : List ℤ) (e₂ : length s₂ ≡ length s₁) (L : RemovedPacked n (tables_of s₁) (tables_of s₂) (n - 2)) where
    pub triangles_pre : TrianglesPre n s₂
    unfolding peeling_of
    triangles_pre =
        let I = inside₁.triangles in
        record {
          some = P.some;
          few = P.few;
          room = omega (arith, P.room, e₂);
          inside = rw L.op (record { turns = I.turns; origins = I.origins; apexes = I.apexes });
        }

    module _ (s₃ : List ℤ) (W : TrianglesPacked n (tables_of s₂) (tables_of s₃) (2 * n - 4)) where
      -- the words are made from the tables before any were packed
      kept : (t d : ℕ) → 3 * t ≤ d → (tables_of s₂).op d ≡ (tables_of s₁).op d
      kept t d h = ap (λ (f : ℕ → ℕ). f d) L.op

      pub all_packed : Packed n (with_rim (peeling s)) (tables_of s₃)
      unfolding peeling_of
      all_packed =
          let I = inside₁.triangles in
          rw (sym q₁)
          (record {
            walks = λ t h l. W.walks t h l ∙ same-walk_word (tables_of s₁) (tables_of s₂) t (I.apexes t h l) (kept t) L.head;
            corners = λ t h l. W.corners t h l ∙ same-corners (tables_of s₁) (tables_of s₂) t (I.apexes t h l) (kept t) L.head;
            removed = λ k h. ap (λ (f : ℕ → ℕ). f (2 * k + 1)) W.mark ∙ L.removed k h;
            rim = λ d h. ap field1 (W.rim d h ∙ kept 0 d (omega arith));
          })

      pub all_walks_packed : WalksPacked n (with_rim (peeling s)) (tables_of s₃)
      all_walks_packed =
          let I = inside₁.triangles in
          rw (sym q₁)
          (record {
            other_walks = λ t h l. W.other_walks t h l ∙ same_other_walks (tables_of s₁) (tables_of s₂) t (I.apexes t h l) (kept t) L.head;
          })
