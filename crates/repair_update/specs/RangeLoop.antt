-- The entries of a preorder one after another, each with x more: what the loop over them asks, keeps and gives. Assumes nothing.
use Prim.Native.Nat.{ℕ, zero, suc, ◌+◌, ◌-◌, ◌*◌, ◌≤◌, ◌<◌, ◌^◌}
use Rattle.std.specs.Prelude.{◌≡◌, Bool, true, false, cond, List, eqb, length, get_or, set, ℤ, pos, nat_abs, ◌+ℤ◌}
use Rattle.std.proofs.Math.Path.{refl}
use Rattle.std.proofs.Common.{sym, ap, ◌∙◌}
use native.Mathlib.Omega.{arith}
use Rattle.definitions.specs.Repair.{limit}
use Rattle.theory_realizer.specs.Units.{bit}
use Rattle.theory_subtrees.specs.Subtree.{times}
use Rattle.scratch_tables.specs.Tables.{word_at, column, tables_of, count_in, extra_in, count_start, mark_start}
use Rattle.repair_update.specs.Increase.{More, more-none, more_then, more_same, single, more-set, Small, small_later, small_set}

-- x more in coordinate e of each vertex in the k entries of a preorder from place a on
abbrev pub along : (ℕ → ℕ) → ℕ → ℕ → ℕ → ℕ → ℕ → ℕ
along order a k e c i = cond (eqb c e) (times order a k i) 0

-- as many additions as an update makes, and more
abbrev pub many_added : ℕ
many_added = 67_108_864

pub record RangePre (s bs : List ℤ) (a end e : ℕ) (x : ℤ) : Type 0 where
  pub ordered : a ≤ end
  pub inside : end ≤ length s
  pub low : e < 3
  pub short : length bs < 65536
  pub vertices : (p : ℕ) → a ≤ p → p < end → 3 * word_at s p + e < length bs
  pub light : nat_abs x ≤ 2 * limit + 1
  pub added : ℕ
  pub small : Small added bs
  pub few : added + (end - a) ≤ many_added

-- the entries before place p are done
pub record RangeDone (s bs₀ : List ℤ) (a end e : ℕ) (x : ℤ) (bs : List ℤ) (p : ℕ) : Type 0 where
  pub asked : RangePre s bs₀ a end e x
  pub begun : a ≤ p
  pub inside : p ≤ end
  pub more : More (along (word_at s) a (p - a) e) x bs₀ bs
  pub small : (k : ℕ) → Small k bs₀ → Small (k + (p - a)) bs

-- one entry more
times-last : (order : ℕ → ℕ) (k a i : ℕ) → times order a (k + 1) i ≡ times order a k i + bit (eqb (order (a + k)) i)
unfolding times
times-last order zero a i =
    let e : a + 0 ≡ a = omega arith in
    rw e (omega arith)
times-last order (suc k) a i =
    let e : suc k + 1 ≡ suc (k + 1) = omega arith in
    let f : suc a + k ≡ a + suc k = omega arith in
    rw e (omega (arith, times-last order k (suc a) i, ap (λ (p : ℕ). bit (eqb (order p) i)) f))

along-last : (order : ℕ → ℕ) (a k e c i : ℕ) → along order a k e c i + single e (order (a + k)) c i ≡ along order a (k + 1) e c i
along-last order a k e c i = go (eqb c e)
  where
    go : (b : Bool) → cond b (times order a k i) 0 + cond b (bit (eqb (order (a + k)) i)) 0 ≡ cond b (times order a (k + 1) i) 0
    go true = sym (times-last order k a i)
    go false = refl

along-none : (order : ℕ → ℕ) (a e c i : ℕ) → 0 ≡ along order a 0 e c i
unfolding times
along-none order a e c i = go (eqb c e)
  where
    go : (b : Bool) → ◌≡◌ {A = ℕ} 0 (cond b 0 0)
    go true = refl
    go false = refl

pub range_none : (s bs₀ : List ℤ) (a end e : ℕ) (x : ℤ) → RangePre s bs₀ a end e x → RangeDone s bs₀ a end e x bs₀ a
range_none s bs₀ a end e x R =
    let z : a - a ≡ 0 = omega arith in
    record {
      asked = R;
      begun = omega arith;
      inside = R.ordered;
      more = rw z (more_same (λ c i h. along-none (word_at s) a e c i) (more-none x bs₀));
      small = λ k h. rw z (small_later (omega arith) h);
    }

module _ {s bs₀ : List ℤ} {a end e : ℕ} {x : ℤ} {bs : List ℤ} {p : ℕ} (G : RangeDone s bs₀ a end e x bs p) where
  -- the next entry is a vertex v, and has room
  module _ (h : p < end) (v : ℕ) (ev : v ≡ word_at s p) where
    pub range_room : 3 * v + e < length bs
    range_room = rw ev (omega (arith, G.asked.vertices p G.begun h, G.more.long))

    pub range_small : (j : ℕ) → nat_abs (get_or bs j (pos 0)) + nat_abs x < 2 ^ 63
    range_small j = omega (arith, (G.small G.asked.added G.asked.small).small j, G.asked.light, G.asked.few, G.begun)

    pub range-next : (bs' : List ℤ) → bs' ≡ set bs (3 * v + e) (get_or bs (3 * v + e) (pos 0) +ℤ x) → RangeDone s bs₀ a end e x bs' (p + 1)
    range-next bs' made =
        let z : p + 1 - a ≡ p - a + 1 = omega (arith, G.begun) in
        let q : a + (p - a) ≡ p = omega (arith, G.begun) in
        let f : v ≡ word_at s (a + (p - a)) = ev ∙ ap (word_at s) (sym q) in
        record {
          asked = G.asked;
          begun = omega (arith, G.begun);
          inside = omega arith;
          more = rw z
              (more_same
              (λ c i l. ap (λ (w : ℕ). along (word_at s) a (p - a) e c i + single e w c i) f ∙ along-last (word_at s) a (p - a) e c i)
              (more_then G.more (more-set x bs bs' e v G.asked.low range_room made)));
          small = λ k l. rw z (small_later (omega arith) (small_set (k + (p - a)) (3 * v + e) x bs bs' (G.small k l) G.asked.light range_room made));
        }

-- ---- the two preorders, where they stand in scratch

module _ (s : List ℤ) where
  pub count-order : (k a i : ℕ) → a + k ≤ column (length s) → times (word_at s) (count_start (length s) + a) k i ≡ times (tables_of s).count a k i
  unfolding times
  count-order zero a i h = refl
  count-order (suc k) a i h =
      let f : suc (count_start (length s) + a) ≡ count_start (length s) + suc a = omega arith in
      rw (count_in s a (omega arith), f) (ap (λ (m : ℕ). bit (eqb (word_at s (count_start (length s) + a)) i) + m) (count-order k (suc a) i (omega arith)))

  pub mark-order : (k a i : ℕ) → a + k ≤ column (length s) → times (word_at s) (mark_start (length s) + a) k i
      ≡ times (λ j. (tables_of s).mark (2 * j)) a k i
  unfolding times
  mark-order zero a i h = refl
  mark-order (suc k) a i h =
      let f : suc (mark_start (length s) + a) ≡ mark_start (length s) + suc a = omega arith in
      rw (extra_in s a (omega arith), f) (ap (λ (m : ℕ). bit (eqb (word_at s (mark_start (length s) + a)) i) + m) (mark-order k (suc a) i (omega arith)))
