-- A set of vertices below n as words of 32 bits in three levels, and its lowest member. Assumes nothing.
-- Vertex v is bit v % 32 of the word of block v / 32. A bit of a group's word says of a block, and a bit of the top word of a group, whether its own word
-- has any. The top word stands first, then those of the groups, then those of the blocks.
use Rattle.std.specs.Prelude.{ℕ, ◌+◌, ◌*◌, ◌/◌, ◌%◌, ◌≤◌, ◌<◌, ◌^◌, min, ◌≡◌, ◌≢◌, Bool, true, false, not, cond, ◌&&◌, ◌||◌, eqb, ltb}
use Rattle.std.proofs.Math.Path.{refl}
use Rattle.std.proofs.Common.{sym, ◌∙◌}
use Rattle.std.proofs.Math.Bool.{and-true}
use native.Mathlib.Omega.{arith}
use Rattle.std.proofs.Math.Decide.{ℕ_discrete}
use borrow.Author.Tests.{lt-ltb, le-ltb, eq-eqb, ne_eqb, eqb-true, eqb-false}
use Rattle.scratch_tables.specs.Tables.{upd, upd_same, upd-at, upd_other}
use Rattle.labels_search.specs.Bits.{with_bit, lowest_bit, without_lowest, summary, bit-none, with_bit_small, without_less}
use Rattle.labels_search.specs.Bits.{Only, with_only, with_some, without_only, summary_only, summary-less}
use Rattle.labels_search.specs.Levels.{bit_at, Within, Level, WordChanged, BitChanged, bit-changed, within_changed, level_changed, at_some}
use Rattle.labels_search.specs.Levels.{first_word, first_bit, first-set, first-least, first_within, level_up, level_down}

-- ---- where the words stand, and how many there are

abbrev pub first_block : ℕ → ℕ
first_block n = n / 1024 + 2

abbrev pub blocks : ℕ → ℕ
blocks n = n / 32 + 1

abbrev pub groups : ℕ → ℕ
groups n = n / 1024 + 1

abbrev pub places : ℕ → ℕ
places n = n / 1024 + n / 32 + 3

-- ---- the set

unfoldable pub member : ℕ → (ℕ → ℕ) → ℕ → Bool
member n f v = eqb (bit_at f (first_block n) v) 1

unfoldable pub is_empty : (ℕ → ℕ) → Bool
is_empty f = eqb (f 0) 0

-- zeros before place k; and in every word of the set
unfoldable pub cleared_below : ℕ → (ℕ → ℕ) → ℕ → ℕ
cleared_below k f i = cond (ltb i k) 0 (f i)

abbrev pub emptied : ℕ → (ℕ → ℕ) → ℕ → ℕ
emptied n f = cleared_below (places n) f

-- another word at place i, another of group g, and another top word
unfoldable pub put : ℕ → ℕ → ℕ → ℕ → ℕ → (ℕ → ℕ) → ℕ → ℕ
put i g x y z f = upd 0 z (upd (1 + g) y (upd i x f))

-- the set with vertex v
unfoldable pub add_to : ℕ → ℕ → (ℕ → ℕ) → ℕ → ℕ
add_to n v f =
    let i = first_block n + v / 32 in
    let g = v / 1024 in
    put i g (with_bit (v % 32) (f i)) (with_bit (v / 32 % 32) (f (1 + g))) (with_bit g (f 0)) f

-- the lowest member, its block and its group
unfoldable pub lowest_group : (ℕ → ℕ) → ℕ
lowest_group f = lowest_bit (f 0)

unfoldable pub lowest_block : (ℕ → ℕ) → ℕ
lowest_block f = 32 * lowest_group f + lowest_bit (f (1 + lowest_group f))

unfoldable pub lowest : ℕ → (ℕ → ℕ) → ℕ
lowest n f = 32 * lowest_block f + lowest_bit (f (first_block n + lowest_block f))

-- the set without its lowest member
unfoldable pub take_from : ℕ → (ℕ → ℕ) → ℕ → ℕ
take_from n f =
    let i = first_block n + lowest_block f in
    let x = without_lowest (f i) in
    let y = summary x (f (1 + lowest_group f)) in
    put i (lowest_group f) x y (summary y (f 0)) f

-- the levels agree: no bit stands for what is not below n, and each upper bit says whether the word below it has any
pub record Summed (n : ℕ) (f : ℕ → ℕ) : Type 0 where
  most : n ≤ 4096
  small : (i : ℕ) → i < places n → f i < 2 ^ 32
  members : Within f (first_block n) n (blocks n)
  blocks : Level f (first_block n) 1 (blocks n) (groups n)
  groups : Level f 1 0 (groups n) 1

-- ---- three words stored

upd_small : (i x j : ℕ) (f : ℕ → ℕ) → x < 2 ^ 32 → f j < 2 ^ 32 → upd i x f j < 2 ^ 32
upd_small i x j f hx hf = elim (ℕ_discrete j i) [ yes e ↦ omega (arith, upd-at i j x f e) | no e ↦ omega (arith, upd_other i j x f e) ]

-- vertex v is in block b, and that in group g
module _ (n v b g x y z : ℕ) (f : ℕ → ℕ) (low : v < n) (eb : v / 32 ≡ b) (eg : b / 32 ≡ g) where
  abbrev stored : ℕ → ℕ
  stored = put (first_block n + b) g x y z f

  -- after one store, and after two
  abbrev one : ℕ → ℕ
  one = upd (first_block n + b) x f

  abbrev two : ℕ → ℕ
  two = upd (1 + g) y one

  block-stored : WordChanged f stored (first_block n) (blocks n) b x
  unfolding put
  block-stored =
      let at = first_block n + b in record {
        same = upd_other 0 at z two (omega arith) ∙ upd_other (1 + g) at y one (omega arith) ∙ upd_same at x f;
        other = λ j h k.
            upd_other 0 (first_block n + j) z two (omega arith) ∙ upd_other (1 + g) (first_block n + j) y one (omega arith)
            ∙ upd_other at (first_block n + j) x f (omega (arith, k));
      }

  group-stored : WordChanged f stored 1 (groups n) g y
  unfolding put
  group-stored = record {
    same = upd_other 0 (1 + g) z two (omega arith) ∙ upd_same (1 + g) y one;
    other = λ j h k.
        upd_other 0 (1 + j) z two (omega arith) ∙ upd_other (1 + g) (1 + j) y one (omega (arith, k)) ∙ upd_other (first_block n + b) (1 + j) x f (omega arith);
  }

  top_stored : WordChanged f stored 0 1 0 z
  unfolding put
  top_stored = record { same = upd_same 0 z two; other = λ j h k. absurd (omega (arith, k)) }

  small_stored : x < 2 ^ 32 → y < 2 ^ 32 → z < 2 ^ 32 → ((i : ℕ) → i < places n → f i < 2 ^ 32) → (i : ℕ) → i < places n → stored i < 2 ^ 32
  unfolding put
  small_stored hx hy hz h i l = upd_small 0 z i two hz (upd_small (1 + g) y i one hy (upd_small (first_block n + b) x i f hx (h i l)))

  member-stored : (c : ℕ) → Only (v % 32) c (f (first_block n + b)) x → BitChanged f stored (first_block n) (blocks n) v c
  member-stored c o = bit-changed block-stored v c eb o

  module _ (s : Summed n f) (c : ℕ) (ox : Only (v % 32) c (f (first_block n + b)) x) (oy : Only (b % 32) (min x 1) (f (1 + g)) y)
      (oz : Only g (min y 1) (f 0) z) where
    block_bits : BitChanged f stored 1 (groups n) b (min x 1)
    block_bits = bit-changed group-stored b (min x 1) eg oy

    group_bits : BitChanged f stored 0 1 g (min y 1)
    group_bits = bit-changed top_stored g (min y 1) (omega (arith, s.most)) (let e : g % 32 ≡ g = omega (arith, s.most) in rw e oz)

    sum-stored : x < 2 ^ 32 → y < 2 ^ 32 → z < 2 ^ 32 → Summed n stored
    sum-stored hx hy hz = record {
      most = s.most;
      small = small_stored hx hy hz s.small;
      members = within_changed (member-stored c ox) n low s.members;
      blocks = level_changed block_bits (first_block n) (blocks n) x (omega arith) (omega arith) refl block-stored s.blocks;
      groups = level_changed group_bits 1 (groups n) y (omega arith) (omega arith) refl group-stored s.groups;
    }

-- ---- the lowest member

-- the blocks and the groups of members
module _ (n : ℕ) (f : ℕ → ℕ) (s : Summed n f) (w : ℕ) (low : w < n) (e : bit_at f (first_block n) w ≡ 1) where
  up-block : bit_at f 1 (w / 32) ≡ 1
  up-block = level_up f (first_block n) 1 (blocks n) (groups n) s.blocks (w / 32) (omega arith) (at_some f (first_block n) w e)

  up-group : bit_at f 0 (w / 32 / 32) ≡ 1
  up-group = level_up f 1 0 (groups n) 1 s.groups (w / 32 / 32) (omega arith) (at_some f 1 (w / 32) up-block)

module _ (n : ℕ) (f : ℕ → ℕ) (s : Summed n f) (some : 0 < f 0) where
  top_small : f 0 < 2 ^ 32
  top_small = s.small 0 (omega arith)

  group-first : 32 * 0 + lowest_bit (f (0 + 0)) ≡ lowest_group f
  unfolding lowest_group
  group-first = omega arith

  pub group_in : lowest_group f < groups n
  group_in = omega (arith, group-first, first_within f 0 0 some top_small (groups n) 1 (omega arith) s.groups.within)

  pub group_some : 0 < f (1 + lowest_group f)
  group_some = level_down f 1 0 (groups n) 1 s.groups (lowest_group f) group_in (rw (← group-first) (first-set f 0 0 some top_small))

  group_small : f (1 + lowest_group f) < 2 ^ 32
  group_small = s.small (1 + lowest_group f) (omega (arith, group_in))

  block-group : lowest_block f / 32 ≡ lowest_group f
  unfolding lowest_block
  block-group = first_word f 1 (lowest_group f) group_some group_small

  pub block_in : lowest_block f < blocks n
  unfolding lowest_block
  block_in = first_within f 1 (lowest_group f) group_some group_small (blocks n) (groups n) group_in s.blocks.within

  pub block_some : 0 < f (first_block n + lowest_block f)
  unfolding lowest_block
  block_some =
      level_down f (first_block n) 1 (blocks n) (groups n) s.blocks (lowest_block f) block_in (first-set f 1 (lowest_group f) group_some group_small)

  block_small : f (first_block n + lowest_block f) < 2 ^ 32
  block_small = s.small (first_block n + lowest_block f) (omega (arith, block_in))

  lowest-block : lowest n f / 32 ≡ lowest_block f
  unfolding lowest
  lowest-block = first_word f (first_block n) (lowest_block f) block_some block_small

  lowest-below : lowest n f < n
  unfolding lowest
  lowest-below = first_within f (first_block n) (lowest_block f) block_some block_small n (blocks n) block_in s.members

  lowest-at : bit_at f (first_block n) (lowest n f) ≡ 1
  unfolding lowest
  lowest-at = first-set f (first_block n) (lowest_block f) block_some block_small

  -- their bits are the lowest ones
  lowest-bit : lowest n f % 32 ≡ lowest_bit (f (first_block n + lowest_block f))
  unfolding lowest
  lowest-bit = first_bit f (first_block n) (lowest_block f) block_some block_small

  block-bit : lowest_block f % 32 ≡ lowest_bit (f (1 + lowest_group f))
  unfolding lowest_block
  block-bit = first_bit f 1 (lowest_group f) group_some group_small

  module _ (w : ℕ) (low : w < n) (e : bit_at f (first_block n) w ≡ 1) where
    least-group : lowest_group f ≤ w / 32 / 32
    least-group =
        let up : bit_at f 0 (w / 32 / 32) ≡ 1 = up-group n f s w low e in
        omega (arith, group-first, first-least f 0 0 some top_small (w / 32 / 32) (omega (arith, s.most)) up)

    least-block : lowest_group f ≡ w / 32 / 32 → lowest_block f ≤ w / 32
    unfolding lowest_block
    least-block q = first-least f 1 (lowest_group f) group_some group_small (w / 32) (sym q) (up-block n f s w low e)

    least_vertex : lowest_block f ≡ w / 32 → lowest n f ≤ w
    unfolding lowest
    least_vertex q = first-least f (first_block n) (lowest_block f) block_some block_small w (sym q) e

    least : lowest n f ≤ w
    least = elim (ℕ_discrete (lowest_group f) (w / 32 / 32)) [
      | yes p ↦ elim (ℕ_discrete (lowest_block f) (w / 32)) [
        | yes q ↦ least_vertex q
        | no q ↦ omega (arith, q, least-block p, lowest-block)
      ]
      | no p ↦ omega (arith, p, least-group, block-group, lowest-block)
    ]

-- ---- members, before and after

member-true : (n : ℕ) (f : ℕ → ℕ) (v : ℕ) → member n f v ≡ true → bit_at f (first_block n) v ≡ 1
unfolding member
member-true n f v e = eqb-true (bit_at f (first_block n) v) 1 e

true-member : (n : ℕ) (f : ℕ → ℕ) (v : ℕ) → bit_at f (first_block n) v ≡ 1 → member n f v ≡ true
unfolding member
true-member n f v e = eq-eqb (bit_at f (first_block n) v) 1 e

no_member : (n : ℕ) (f : ℕ → ℕ) (v : ℕ) → bit_at f (first_block n) v ≢ 1 → member n f v ≡ false
unfolding member
no_member n f v h = ne_eqb (bit_at f (first_block n) v) 1 h

member-kept : (n : ℕ) (f f' : ℕ → ℕ) (v : ℕ) → bit_at f' (first_block n) v ≡ bit_at f (first_block n) v → member n f' v ≡ member n f v
unfolding member
member-kept n f f' v e = rw e

pub not_empty : (f : ℕ → ℕ) → is_empty f ≡ false → 0 < f 0
unfolding is_empty
not_empty f e = let h = eqb-false (f 0) 0 e in omega (arith, h)

-- ---- a vertex added

module _ (n : ℕ) (f : ℕ → ℕ) (v : ℕ) (low : v < n) where
  group_of : v / 32 / 32 ≡ v / 1024
  group_of = omega arith

  abbrev block : ℕ
  block = f (first_block n + v / 32)

  abbrev group : ℕ
  group = f (1 + v / 1024)

  pub add_summed : Summed n f → Summed n (add_to n v f)
  unfolding add_to
  add_summed s =
      sum-stored n v (v / 32) (v / 1024) (with_bit (v % 32) block) (with_bit (v / 32 % 32) group) (with_bit (v / 1024) (f 0)) f low refl group_of s 1
      (with_only (v % 32) block)
      (rw (with_some (v % 32) block) (with_only (v / 32 % 32) group))
      (rw (with_some (v / 32 % 32) group) (with_only (v / 1024) (f 0)))
      (with_bit_small (v % 32) 32 block (omega arith) (s.small (first_block n + v / 32) (omega arith)))
      (with_bit_small (v / 32 % 32) 32 group (omega arith) (s.small (1 + v / 1024) (omega arith)))
      (with_bit_small (v / 1024) 32 (f 0) (omega (arith, s.most)) (s.small 0 (omega arith)))

  added : BitChanged f (add_to n v f) (first_block n) (blocks n) v 1
  unfolding add_to
  added =
      member-stored n v (v / 32) (v / 1024) (with_bit (v % 32) block) (with_bit (v / 32 % 32) group) (with_bit (v / 1024) (f 0)) f low refl group_of 1
      (with_only (v % 32) block)

  pub add-member : (w : ℕ) → w < n → member n (add_to n v f) w ≡ (eqb w v || member n f w)
  add-member w h = elim (ℕ_discrete w v) [
    | yes e ↦ rw (eq-eqb w v e, e) (true-member n (add_to n v f) v added.same)
    | no e ↦ rw (ne_eqb w v e) (member-kept n f (add_to n v f) w (added.other w (omega arith) e))
  ]

-- ---- the lowest member taken

module _ {n : ℕ} {f : ℕ → ℕ} (s : Summed n f) where
  -- a set with a member is not empty, and one that is not empty has a lowest member
  pub member_some : (w : ℕ) → w < n → member n f w ≡ true → is_empty f ≡ false
  unfolding is_empty
  member_some w h e =
      let up = at_some f 0 (w / 32 / 32) (up-group n f s w h (member-true n f w e)) in
      let top : 0 + w / 32 / 32 / 32 ≡ 0 = omega (arith, s.most) in
      let some : 0 < f 0 = rw top at up in
      ne_eqb (f 0) 0 (omega arith)

  module _ (some : is_empty f ≡ false) where
    pub lowest_in : lowest n f < n
    lowest_in = lowest-below n f s (not_empty f some)

    pub lowest-member : member n f (lowest n f) ≡ true
    lowest-member = true-member n f (lowest n f) (lowest-at n f s (not_empty f some))

    pub lowest-least : (w : ℕ) → w < n → member n f w ≡ true → lowest n f ≤ w
    lowest-least w h e = least n f s (not_empty f some) w h (member-true n f w e)

    abbrev left : ℕ
    left = without_lowest (f (first_block n + lowest_block f))

    abbrev group_left : ℕ
    group_left = summary left (f (1 + lowest_group f))

    left_only : Only (lowest n f % 32) 0 (f (first_block n + lowest_block f)) left
    left_only =
        let h = not_empty f some in
        rw (lowest-bit n f s h) (without_only (f (first_block n + lowest_block f)) (block_some n f s h) (block_small n f s h))

    group_only : Only (lowest_block f % 32) (min left 1) (f (1 + lowest_group f)) group_left
    group_only =
        let h = not_empty f some in
        rw (block-bit n f s h) (summary_only left (f (1 + lowest_group f)) (group_some n f s h) (group_small n f s h))

    top_only : Only (lowest_group f) (min group_left 1) (f 0) (summary group_left (f 0))
    unfolding lowest_group
    top_only = summary_only group_left (f 0) (not_empty f some) (top_small n f s (not_empty f some))

    pub take_summed : Summed n (take_from n f)
    unfolding take_from
    take_summed =
        let h = not_empty f some in
        sum-stored n (lowest n f) (lowest_block f) (lowest_group f) left group_left (summary group_left (f 0)) f lowest_in (lowest-block n f s h)
        (block-group n f s h) s 0 left_only group_only top_only
        (omega (arith, without_less (f (first_block n + lowest_block f)), block_small n f s h))
        (omega (arith, summary-less left (f (1 + lowest_group f)), group_small n f s h))
        (omega (arith, summary-less group_left (f 0), top_small n f s h))

    taken : BitChanged f (take_from n f) (first_block n) (blocks n) (lowest n f) 0
    unfolding take_from
    taken =
        let h = not_empty f some in
        member-stored n (lowest n f) (lowest_block f) (lowest_group f) left group_left (summary group_left (f 0)) f lowest_in (lowest-block n f s h)
        (block-group n f s h) 0 left_only

    pub take-member : (w : ℕ) → w < n → member n (take_from n f) w ≡ (member n f w && not (eqb w (lowest n f)))
    take-member w h = elim (ℕ_discrete w (lowest n f)) [
      | yes e ↦
          rw (eq-eqb w (lowest n f) e, e, lowest-member)
          (no_member n (take_from n f) (lowest n f) (omega (arith, taken.same)))
      | no e ↦ rw (ne_eqb w (lowest n f) e) (member-kept n f (take_from n f) w (taken.other w (omega arith) e) ∙ sym (and-true (member n f w)))
    ]

-- ---- the empty set

module _ (f : ℕ → ℕ) where
  pub cleared_before : (k i : ℕ) → i < k → cleared_below k f i ≡ 0
  unfolding cleared_below
  cleared_before k i h = rw (lt-ltb i k h)

  pub cleared_from : (k i : ℕ) → k ≤ i → cleared_below k f i ≡ f i
  unfolding cleared_below
  cleared_from k i h = rw (le-ltb i k h)

module _ (n : ℕ) (f : ℕ → ℕ) where
  emptied-at : (i : ℕ) → i < places n → emptied n f i ≡ 0
  emptied-at i h = cleared_before f (places n) i h

  emptied-bit : (base j : ℕ) → base + j / 32 < places n → bit_at (emptied n f) base j ≡ 0
  unfolding bit_at
  emptied-bit base j h = rw (emptied-at (base + j / 32) h) (bit-none (j % 32))

  pub empty_summed : n ≤ 4096 → Summed n (emptied n f)
  empty_summed few = record {
    most = few;
    small = λ i h. omega (arith, emptied-at i h);
    members = λ j h k. emptied-bit (first_block n) j (omega arith);
    blocks = record {
      each = λ j h. omega (arith, emptied-bit 1 j (omega arith), emptied-at (first_block n + j) (omega arith));
      within = λ j h k. emptied-bit 1 j (omega arith);
    };
    groups = record {
      each = λ j h. omega (arith, emptied-bit 0 j (omega arith), emptied-at (1 + j) (omega arith));
      within = λ j h k. emptied-bit 0 j (omega arith);
    };
  }
