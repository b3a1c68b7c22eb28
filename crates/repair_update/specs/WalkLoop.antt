-- The walk of a raised triangle, step by step: what each step adds, what all of them add, and how large the coordinates get. Assumes nothing.
use Prim.Native.Nat.{ℕ, zero, suc, ◌+◌, ◌-◌, ◌*◌, ◌≤◌, ◌<◌, ◌^◌}
use Rattle.std.specs.Prelude.{◌≡◌, ◌≢◌, false, cond, List, eqb, length, get_or, set, ℤ, nat_abs, ◌+ℤ◌, ◌*ℤ◌}
use Rattle.std.proofs.Math.Path.{refl, sym, ap}
use Rattle.std.proofs.Common.{◌∙◌, arith, eq-eqb, ne_eqb}
use Rattle.std.proofs.Math.Decide.{ℕ_discrete}
use Rattle.std.proofs.Math.IntN.{pos}
use Rattle.definitions.specs.Backward.{coordinate}
use Rattle.definitions.specs.Repair.{limit}
use Rattle.definitions.specs.Refusals.{row10}
use Rattle.theory_realizer.specs.Units.{bit}
use Rattle.scratch_tables.specs.Tables.{Tables, word_at, tables_of, count_in, extra_in, count_start, mark_start}
use Rattle.scratch_tables.specs.Fields.{field0, field1, field2, field3}
use Rattle.labels_tables.specs.Peeling.{peeling_of, peeling}
use Rattle.maps_limits.specs.Limits.{range}
use Rattle.repair_model.specs.Raise.{Moved}
use Rattle.repair_model.specs.Update.{times_moved, moved, times_moved_home, times_moved-on, moved-yes, moved_no}
use Rattle.repair_update.specs.Increase.{none, More, more-none, more_then, more_same, single, more-set, Small, small_later, small_set}
use Rattle.repair_update.specs.RangeLoop.{along, many_added, RangePre, count-order, mark-order}

-- ---- what is asked and given

-- The words of the walks: each leads to a triangle, and moves a subtree that stands in its preorder.
pub record Words (n : ℕ) (S : Tables) : Type 0 where
  pub on : (t : ℕ) → 0 < t → t < 2 * n - 4 → field0 (S.op (3 * t)) < 2 * n - 4
  pub left : (t : ℕ) → 0 < t → t < 2 * n - 4 → field3 (S.op (3 * t)) ≡ 1 → (field1 (S.op (3 * t)) + field2 (S.op (3 * t)) ≤ n)
      × ((j : ℕ) → field1 (S.op (3 * t)) ≤ j → j < field1 (S.op (3 * t)) + field2 (S.op (3 * t)) → S.count j < n)
  pub right : (t : ℕ) → 0 < t → t < 2 * n - 4 → field3 (S.op (3 * t)) ≡ 2 → (field1 (S.op (3 * t)) + field2 (S.op (3 * t)) ≤ n)
      × ((j : ℕ) → field1 (S.op (3 * t)) ≤ j → j < field1 (S.op (3 * t)) + field2 (S.op (3 * t)) → S.mark (2 * j) < n)

pub record UpdatePre (n : ℕ) (s bs : List ℤ) (t : ℕ) (x : ℤ) : Type 0 where
  pub least : 3 ≤ n
  pub most : n ≤ 4096
  pub room : 10 * n ≤ length s
  pub long : length bs ≡ 3 * n
  pub within : row10 bs ≡ false
  pub inside : t < 2 * n - 4
  pub light : nat_abs x ≤ 2 * limit + 1
  pub first : (peeling s).origin 0 < n
  pub last : (peeling s).origin 2 < n
  pub words : Words n (tables_of s)

-- each vertex has x more as often as the walk comes by it, v1 in coordinate 1 and v0 in coordinate 0 once more
abbrev pub WalkMoved : ℕ → Tables → ℕ → ℤ → List ℤ → List ℤ → Type 0
WalkMoved n S t x =
    Moved n (λ i. times_moved 2 (λ j. S.mark (2 * j)) S.op (2 * n - 4) t i + bit (eqb i ((peeling_of S).origin 0)))
    (λ i. times_moved 1 S.count S.op (2 * n - 4) t i + bit (eqb i ((peeling_of S).origin 2))) x

-- ---- one word

-- what a word adds to coordinate c of vertex i
unfoldable pub share : Tables → ℕ → ℕ → ℕ → ℕ
unfolding moved
share S w zero i = moved 2 (λ j. S.mark (2 * j)) w i
share S w (suc zero) i = moved 1 S.count w i
share S w (suc (suc c)) i = 0

module _ (S : Tables) (w : ℕ) where
  share-left : field3 w ≡ 1 → (c i : ℕ) → c < 3 → along S.count (field1 w) (field2 w) 1 c i ≡ share S w c i
  unfolding share
  share-left e zero i h = sym (moved_no 2 (λ j. S.mark (2 * j)) w i (omega (arith, e)))
  share-left e (suc zero) i h = sym (moved-yes 1 S.count w i e)
  share-left e (suc (suc zero)) i h = refl
  share-left e (suc (suc (suc c))) i h = absurd (omega arith)

  share_right : field3 w ≡ 2 → (c i : ℕ) → c < 3 → along (λ j. S.mark (2 * j)) (field1 w) (field2 w) 0 c i ≡ share S w c i
  unfolding share
  share_right e zero i h = sym (moved-yes 2 (λ j. S.mark (2 * j)) w i e)
  share_right e (suc zero) i h = sym (moved_no 1 S.count w i (omega (arith, e)))
  share_right e (suc (suc zero)) i h = refl
  share_right e (suc (suc (suc c))) i h = absurd (omega arith)

  share-none : field3 w ≢ 1 → field3 w ≢ 2 → (c i : ℕ) → c < 3 → 0 ≡ share S w c i
  unfolding share
  share-none d e zero i h = sym (moved_no 2 (λ j. S.mark (2 * j)) w i e)
  share-none d e (suc zero) i h = sym (moved_no 1 S.count w i d)
  share-none d e (suc (suc c)) i h = refl

-- where in scratch the preorder of a flag begins: `count` for 1, the even marks for 2
unfoldable pub preorder_at : ℕ → ℕ → ℕ
preorder_at words f = cond (eqb f 1) (count_start words) (mark_start words)

pub preorder-left : (words f r : ℕ) → f ≡ 1 → r ≡ count_start words → r ≡ preorder_at words f
unfolding preorder_at
preorder-left words f r e q = rw (eq-eqb f 1 e) q

pub preorder_right : (words f r : ℕ) → f ≢ 1 → r ≡ mark_start words → r ≡ preorder_at words f
unfolding preorder_at
preorder_right words f r d q = rw (ne_eqb f 1 d) q

-- what is asked of a word that is followed, with `added` numbers added so far
pub record SubtreePre (s bs : List ℤ) (w : ℕ) (x : ℤ) : Type 0 where
  pub n : ℕ
  pub most : n ≤ 4096
  pub room : 10 * n ≤ length s
  pub long : length bs ≡ 3 * n
  pub light : nat_abs x ≤ 2 * limit + 1
  pub left : field3 w ≡ 1 → (field1 w + field2 w ≤ n) × ((j : ℕ) → field1 w ≤ j → j < field1 w + field2 w → (tables_of s).count j < n)
  pub right : field3 w ≡ 2 → (field1 w + field2 w ≤ n) × ((j : ℕ) → field1 w ≤ j → j < field1 w + field2 w → (tables_of s).mark (2 * j) < n)
  pub added : ℕ
  pub small : Small added bs
  pub few : added + 4096 ≤ many_added

-- and what it gives
pub record SubtreeAdded (s : List ℤ) (w : ℕ) (x : ℤ) (bs bs' : List ℤ) : Type 0 where
  pub more : More (share (tables_of s) w) x bs bs'
  pub small : (k : ℕ) → Small k bs → Small (k + 4096) bs'

module _ (s bs : List ℤ) (w : ℕ) (x : ℤ) (M : SubtreePre s bs w x) where
  left-range : field3 w ≡ 1 → (a end : ℕ) → a ≡ count_start (length s) + field1 w → end ≡ a + field2 w → RangePre s bs a end 1 x
  left-range e a end ea ee =
      let f = M.left e in
      record {
        ordered = omega (arith, ee);
        inside = omega (arith, ee, ea, f.0, M.room);
        low = omega arith;
        short = omega (arith, M.long, M.most);
        vertices = λ p h l.
            let j = p - count_start (length s) in
            let q : count_start (length s) + j ≡ p = omega (arith, ea, h) in
            let c = count_in s j (omega (arith, ea, ee, l, f.0, M.room)) in
            let b = f.1 j (omega (arith, ea, h)) (omega (arith, ea, ee, h, l)) in
            omega (arith, c, b, ap (word_at s) q, M.long);
        light = M.light;
        added = M.added;
        small = M.small;
        few = omega (arith, M.few, M.most, f.0, ee);
      }

  right_range : field3 w ≡ 2 → (a end : ℕ) → a ≡ mark_start (length s) + field1 w → end ≡ a + field2 w → RangePre s bs a end 0 x
  right_range e a end ea ee =
      let f = M.right e in
      record {
        ordered = omega (arith, ee);
        inside = omega (arith, ee, ea, f.0, M.room);
        low = omega arith;
        short = omega (arith, M.long, M.most);
        vertices = λ p h l.
            let j = p - mark_start (length s) in
            let q : mark_start (length s) + j ≡ p = omega (arith, ea, h) in
            let c = extra_in s j (omega (arith, ea, ee, l, f.0, M.room)) in
            let b = f.1 j (omega (arith, ea, h)) (omega (arith, ea, ee, h, l)) in
            omega (arith, c, b, ap (word_at s) q, M.long);
        light = M.light;
        added = M.added;
        small = M.small;
        few = omega (arith, M.few, M.most, f.0, ee);
      }

  module _ (bs' : List ℤ) (a end : ℕ) where
    left_added : field3 w ≡ 1 → a ≡ count_start (length s) + field1 w → end ≡ a + field2 w → More (along (word_at s) a (end - a) 1) x bs bs' →
        ((k : ℕ) → Small k bs → Small (k + (end - a)) bs') → SubtreeAdded s w x bs bs'
    left_added e ea ee more small =
        let f = M.left e in
        let z : end - a ≡ field2 w = omega (arith, ee) in
        record {
          more = more_same
              (λ c i h.
              rw (z, ea)
              (ap (λ (m : ℕ). cond (eqb c 1) m 0) (count-order s (field2 w) (field1 w) i (omega (arith, f.0, M.room)))
              ∙ share-left (tables_of s) w e c i h))
              more;
          small = λ k l. small_later (omega (arith, f.0, M.most, ee)) (small k l);
        }

    right_added : field3 w ≡ 2 → a ≡ mark_start (length s) + field1 w → end ≡ a + field2 w → More (along (word_at s) a (end - a) 0) x bs bs' →
        ((k : ℕ) → Small k bs → Small (k + (end - a)) bs') → SubtreeAdded s w x bs bs'
    right_added e ea ee more small =
        let f = M.right e in
        let z : end - a ≡ field2 w = omega (arith, ee) in
        record {
          more = more_same
              (λ c i h.
              rw (z, ea)
              (ap (λ (m : ℕ). cond (eqb c 0) m 0) (mark-order s (field2 w) (field1 w) i (omega (arith, f.0, M.room)))
              ∙ share_right (tables_of s) w e c i h))
              more;
          small = λ k l. small_later (omega (arith, f.0, M.most, ee)) (small k l);
        }

  -- the same for either flag f
  module _ (f a end c : ℕ) (ef : f ≡ field3 w) (some : f ≢ 0) (few : f ≤ 2) (ea : a ≡ preorder_at (length s) f + field1 w) (ee : end ≡ a + field2 w)
      (ec : c ≡ 2 - f) where
    pub subtree_range : RangePre s bs a end c x
    subtree_range =
        elim (ℕ_discrete f 1) [
          | yes e ↦
              let z : c ≡ 1 = omega arith in
              rw z (left-range (sym ef ∙ e) a end (omega (arith, ea, preorder-left (length s) f (count_start (length s)) e refl)) ee)
          | no e ↦
              let z : c ≡ 0 = omega arith in
              let g : f ≡ 2 = omega arith in
              rw z (right_range (sym ef ∙ g) a end (omega (arith, ea, preorder_right (length s) f (mark_start (length s)) e refl)) ee)
        ]

    pub subtree_added : (bs' : List ℤ) → More (along (word_at s) a (end - a) c) x bs bs' →
        ((k : ℕ) → Small k bs → Small (k + (end - a)) bs') → SubtreeAdded s w x bs bs'
    subtree_added bs' more small =
        elim (ℕ_discrete f 1) [
          | yes e ↦
              let z : c ≡ 1 = omega arith in
              left_added bs' a end (sym ef ∙ e) (omega (arith, ea, preorder-left (length s) f (count_start (length s)) e refl)) ee (rw z at more) small
          | no e ↦
              let z : c ≡ 0 = omega arith in
              let g : f ≡ 2 = omega arith in
              right_added bs' a end (sym ef ∙ g) (omega (arith, ea, preorder_right (length s) f (mark_start (length s)) e refl)) ee (rw z at more) small
        ]

  pub none_added : field3 w ≢ 1 → field3 w ≢ 2 → SubtreeAdded s w x bs bs
  none_added d e =
      record { more = more_same (λ c i h. share-none (tables_of s) w d e c i h) (more-none x bs); small = λ k l. small_later (omega arith) l }

-- ---- the walk

-- what the walk from triangle t on, of k steps at most, adds to coordinate c of vertex i
unfoldable pub amount : Tables → ℕ → ℕ → ℕ → ℕ → ℕ
unfolding times_moved
amount S k t zero i = times_moved 2 (λ j. S.mark (2 * j)) S.op k t i
amount S k t (suc zero) i = times_moved 1 S.count S.op k t i
amount S k t (suc (suc c)) i = 0

amount_home : (S : Tables) (k c i : ℕ) → amount S k 0 c i ≡ 0
unfolding amount
amount_home S k zero i = times_moved_home 2 (λ j. S.mark (2 * j)) S.op k i
amount_home S k (suc zero) i = times_moved_home 1 S.count S.op k i
amount_home S k (suc (suc c)) i = refl

amount-over : (S : Tables) (t c i : ℕ) → amount S 0 t c i ≡ 0
unfolding amount times_moved
amount-over S t zero i = refl
amount-over S t (suc zero) i = refl
amount-over S t (suc (suc c)) i = refl

amount-on : (S : Tables) (k t c i : ℕ) → t ≢ 0 → amount S (suc k) t c i ≡ share S (S.op (3 * t)) c i + amount S k (field0 (S.op (3 * t))) c i
unfolding amount share
amount-on S k t zero i d = times_moved-on 2 (λ j. S.mark (2 * j)) S.op k t i d
amount-on S k t (suc zero) i d = times_moved-on 1 S.count S.op k t i d
amount-on S k t (suc (suc c)) i d = refl

pub record WalkPre (s bs : List ℤ) (steps t : ℕ) (x : ℤ) : Type 0 where
  pub n : ℕ
  pub most : n ≤ 4096
  pub room : 10 * n ≤ length s
  pub long : length bs ≡ 3 * n
  pub light : nat_abs x ≤ 2 * limit + 1
  pub words : Words n (tables_of s)
  pub all : steps ≡ 2 * n - 4
  pub inside : t < steps
  pub small : Small 0 bs

pub record Walked (s : List ℤ) (steps t : ℕ) (x : ℤ) (bs bs' : List ℤ) : Type 0 where
  pub more : More (amount (tables_of s) steps t) x bs bs'
  pub small : Small (4096 * steps) bs'

-- k steps are left, from triangle `at` on: what has been added and what they add is what all of them add
pub record Walking (s bs₀ : List ℤ) (steps t : ℕ) (x : ℤ) (bs : List ℤ) (k at : ℕ) : Type 0 where
  pub asked : WalkPre s bs₀ steps t x
  pub inside : at < steps
  pub few : k ≤ steps
  pub sum : ℕ → ℕ → ℕ
  pub more : More sum x bs₀ bs
  pub rest : (c i : ℕ) → sum c i + amount (tables_of s) k at c i ≡ amount (tables_of s) steps t c i
  pub small : Small (4096 * (steps - k)) bs

pub walking_none : (s bs₀ : List ℤ) (steps t : ℕ) (x : ℤ) → WalkPre s bs₀ steps t x → Walking s bs₀ steps t x bs₀ steps t
walking_none s bs₀ steps t x W =
    record {
      asked = W;
      inside = W.inside;
      few = omega arith;
      sum = λ c i. 0;
      more = more-none x bs₀;
      rest = λ c i. omega arith;
      small = small_later (omega arith) W.small;
    }

module _ {s bs₀ : List ℤ} {steps t : ℕ} {x : ℤ} {bs : List ℤ} {k at : ℕ} (G : Walking s bs₀ steps t x bs k at) where
  walking_ends : ((c i : ℕ) → amount (tables_of s) k at c i ≡ 0) → Walked s steps t x bs₀ bs
  walking_ends z =
      record {
        more = more_same (λ c i h. omega (arith, G.rest c i, z c i)) G.more;
        small = small_later (omega arith) G.small;
      }

  pub walking_home : at ≡ 0 → Walked s steps t x bs₀ bs
  walking_home e = walking_ends (λ c i. rw e (amount_home (tables_of s) k c i))

  pub walking_over : k ≡ 0 → Walked s steps t x bs₀ bs
  walking_over e = walking_ends (λ c i. rw e (amount-over (tables_of s) at c i))

  module _ (d : at ≢ 0) (h : 0 < k) where
    pub walking_next : (bs' : List ℤ) (at' : ℕ) → at' ≡ field0 ((tables_of s).op (3 * at)) → SubtreeAdded s ((tables_of s).op (3 * at)) x bs bs' →
        Walking s bs₀ steps t x bs' (k - 1) at'
    walking_next bs' at' to F =
        let W = G.asked in
        let w = (tables_of s).op (3 * at) in
        record {
          asked = W;
          inside = rw to (omega (arith, W.words.on at (omega arith) (omega (arith, G.inside, W.all)), W.all));
          few = omega (arith, G.few);
          sum = λ c i. G.sum c i + share (tables_of s) w c i;
          more = more_then G.more F.more;
          rest = λ c i.
              let e : k ≡ suc (k - 1) = omega arith in
              let on = ap (λ (m : ℕ). amount (tables_of s) m at c i) e ∙ amount-on (tables_of s) (k - 1) at c i d in
              let f = ap (λ (m : ℕ). amount (tables_of s) (k - 1) m c i) to in
              omega (arith, G.rest c i, on, f);
          small = small_later (omega (arith, G.few)) (F.small (4096 * (steps - k)) G.small);
        }

-- ---- all of it

small_start : (bs : List ℤ) → row10 bs ≡ false → Small 0 bs
small_start bs e = record { small = λ j. omega (arith, range bs e j) }

bit_swapped : (v i : ℕ) → bit (eqb v i) ≡ bit (eqb i v)
bit_swapped v i = elim (ℕ_discrete v i) [ yes e ↦ rw (eq-eqb v i e, eq-eqb i v (sym e)) | no d ↦ rw (ne_eqb v i d, ne_eqb i v (λ e. d (sym e))) ]

module _ (n : ℕ) (s bs : List ℤ) (t : ℕ) (x : ℤ) (Y : UpdatePre n s bs t x) where
  pub walk_pre : WalkPre s bs (2 * n - 4) t x
  walk_pre =
      record {
        n = n;
        most = Y.most;
        room = Y.room;
        long = Y.long;
        light = Y.light;
        words = Y.words;
        all = refl;
        inside = Y.inside;
        small = small_start bs Y.within;
      }

  -- v0 after the walk, and v1 after it
  module _ (bs₁ : List ℤ) (W : Walked s (2 * n - 4) t x bs bs₁) (v0 : ℕ) (e0 : v0 ≡ (peeling s).origin 0) where
    pub first_room : (3 * v0 < length bs₁) × (nat_abs (get_or bs₁ (3 * v0) (pos 0)) + nat_abs x < 2 ^ 63)
    first_room = (
      omega (arith, e0, Y.first, W.more.long, Y.long),
      omega (arith, W.small.small (3 * v0), Y.light, Y.most),
    )

    module _ (bs₂ : List ℤ) (made : bs₂ ≡ set bs₁ (3 * v0) (get_or bs₁ (3 * v0) (pos 0) +ℤ x)) (v1 : ℕ) (e1 : v1 ≡ (peeling s).origin 2) where
      first_small : Small (4096 * (2 * n - 4) + 1) bs₂
      first_small = small_set (4096 * (2 * n - 4)) (3 * v0) x bs₁ bs₂ W.small Y.light first_room.0 made

      first_more : More (single 0 v0) x bs₁ bs₂
      first_more =
          let e : 3 * v0 + 0 ≡ 3 * v0 = omega arith in
          more-set x bs₁ bs₂ 0 v0 (omega arith) (omega (arith, first_room.0)) (rw e made)

      pub last_room : (3 * v1 + 1 < length bs₂) × (nat_abs (get_or bs₂ (3 * v1 + 1) (pos 0)) + nat_abs x < 2 ^ 63)
      last_room = (
        omega (arith, e1, Y.last, first_more.long, W.more.long, Y.long),
        omega (arith, first_small.small (3 * v1 + 1), Y.light, Y.most),
      )

      pub moved_all : (bs₃ : List ℤ) → bs₃ ≡ set bs₂ (3 * v1 + 1) (get_or bs₂ (3 * v1 + 1) (pos 0) +ℤ x) →
          WalkMoved n (tables_of s) t x bs bs₃
      unfolding amount
      moved_all bs₃ made' =
          let S = tables_of s in
          let A = more_then (more_then W.more first_more) (more-set x bs₂ bs₃ 1 v1 (omega arith) last_room.0 made') in
          record {
            long = A.long;
            more0 = λ i h.
                let e : times_moved 2 (λ j. S.mark (2 * j)) S.op (2 * n - 4) t i + bit (eqb v0 i) + 0
                ≡ times_moved 2 (λ j. S.mark (2 * j)) S.op (2 * n - 4) t i + bit (eqb i ((peeling s).origin 0)) =
                omega (arith, bit_swapped v0 i, ap (λ (v : ℕ). bit (eqb i v)) e0) in
                A.more 0 i (omega arith) (omega (arith, Y.long)) ∙ ap (λ (m : ℕ). coordinate bs 0 i +ℤ pos m *ℤ x) e;
            more1 = λ i h.
                let e : times_moved 1 S.count S.op (2 * n - 4) t i + 0 + bit (eqb v1 i)
                ≡ times_moved 1 S.count S.op (2 * n - 4) t i + bit (eqb i ((peeling s).origin 2)) =
                omega (arith, bit_swapped v1 i, ap (λ (v : ℕ). bit (eqb i v)) e1) in
                A.more 1 i (omega arith) (omega (arith, Y.long)) ∙ ap (λ (m : ℕ). coordinate bs 1 i +ℤ pos m *ℤ x) e;
            same2 = λ i h. A.more 2 i (omega arith) (omega (arith, Y.long)) ∙ sym (none (coordinate bs 2 i) x);
          }
