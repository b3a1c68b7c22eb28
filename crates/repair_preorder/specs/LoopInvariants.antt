-- How the code's iterations meet the passes: room for the stores, and the loops. Assumes nothing.
use Prim.Native.Nat.{ℕ, zero, suc, ◌+◌, ◌-◌, ◌*◌, ◌%◌, ◌≤◌, ◌<◌}
use Rattle.std.specs.Prelude.{◌≡◌, ◌≢◌, List, eqb, length, ℤ}
use Rattle.std.proofs.Math.Path.{refl, ap}
use Rattle.std.proofs.Common.{sym, ◌∙◌, inl, inr, eq-eqb, ne_eqb, lt-ltb}
use native.Mathlib.Omega.{arith}
use Rattle.std.proofs.Math.Decide.{ℕ_discrete}
use Rattle.laws.specs.Lists.{tested}
use Rattle.scratch_tables.specs.Tables.{Tables, tables_of, set_op, set_head, set_count, set_mark, upd_other}
use Rattle.scratch_tables.specs.Fields.{pack, field0, field1, field2, field3, field3_is, field0_small}
use Rattle.labels_tables.specs.Peeling.{peeling}
use Rattle.repair_preorder.specs.Model.{upward, downward, parent, init_size, add_size, init_root, allocate_range, with_range, store_range, clamp_index}
use Rattle.repair_preorder.specs.Model.{store_entry, store_vertex, sizes_computed, positions_computed, preorder_built}
use Rattle.repair_preorder.specs.KeptWords.{ranges_out, sized_op, placed-op, placed, built_word}

-- ---- the words of the vertices that left stay

pub record Odd (S S' : Tables) : Type 0 where
  pub odd : (k : ℕ) → S'.mark (2 * k + 1) ≡ S.mark (2 * k + 1)

odd_none : (S : Tables) → Odd S S
odd_none S = record { odd = λ k. refl }

pub odd_then : {S S' S'' : Tables} → Odd S S' → Odd S' S'' → Odd S S''
odd_then p q = record { odd = λ k. q.odd k ∙ p.odd k }

odd_mark : (v x : ℕ) (S : Tables) → Odd S (set_mark (2 * v) x S)
unfolding set_mark
odd_mark v x S = record { odd = λ k. upd_other (2 * v) (2 * k + 1) x S.mark (omega arith) }

pub odd_one : (v : ℕ) (S : Tables) → Odd S (init_size v S)
unfolding init_size
odd_one v S = odd_mark v 1 S

pub odd_add : (colour k : ℕ) (S : Tables) → Odd S (add_size colour k S)
unfolding add_size
odd_add colour k S =
    let w = S.mark (2 * k + 1) in
    let u = parent colour w in
    odd_mark u ((S.mark (2 * u) + S.mark (2 * field0 w)) % 65536) S

pub odd_root : (root : ℕ) (S : Tables) → Odd S (init_root root S)
unfolding init_root set_head
odd_root root S = record { odd = λ k. refl }

pub odd_allocate : (colour k : ℕ) (S : Tables) → Odd S (allocate_range colour k S)
unfolding allocate_range set_head
odd_allocate colour k S = record { odd = λ k. refl }

pub odd_range : (colour t : ℕ) (S : Tables) → Odd S (store_range colour t S)
unfolding store_range set_op
odd_range colour zero S = odd_none S
odd_range colour (suc j) S = record { odd = λ k. refl }

odd_entry : (colour i x : ℕ) (S : Tables) → Odd S (store_entry colour i x S)
unfolding store_entry set_count
odd_entry colour i x S = elim (tested (eqb colour 0)) [ inl e ↦ rw e (record { odd = λ k. refl }) | inr e ↦ rw e (odd_mark i x S) ]

pub odd_store : (n colour k : ℕ) (S : Tables) → Odd S (store_vertex n colour k S)
unfolding store_vertex
odd_store n colour k S = let v = field0 (S.mark (2 * k + 1)) in odd_entry colour (clamp_index n (S.head v - 1)) v S

pub odd_upward : (f : ℕ → Tables → Tables) → ((k : ℕ) (S : Tables) → Odd S (f k S)) → (k : ℕ) (S : Tables) → Odd S (upward f k S)
unfolding upward
odd_upward f o zero S = odd_none S
odd_upward f o (suc k) S = odd_then (odd_upward f o k S) (o k (upward f k S))

odd_downward : (f : ℕ → Tables → Tables) → ((k : ℕ) (S : Tables) → Odd S (f k S)) → (k : ℕ) (S : Tables) → Odd S (downward f k S)
unfolding downward
odd_downward f o zero S = odd_none S
odd_downward f o (suc k) S = odd_then (o k S) (odd_downward f o k (f k S))

pub odd_sizes : (n colour : ℕ) (S : Tables) → Odd S (sizes_computed n colour S)
unfolding sizes_computed
odd_sizes n colour S = odd_then (odd_upward init_size odd_one n S) (odd_upward (add_size colour) (odd_add colour) (n - 2) (upward init_size n S))

pub odd_positions : (n colour root : ℕ) (S : Tables) → Odd S (positions_computed n colour root S)
unfolding positions_computed
odd_positions n colour root S = odd_then (odd_root root S) (odd_downward (allocate_range colour) (odd_allocate colour) (n - 2) (init_root root S))

pub odd_built : (n colour root : ℕ) (S : Tables) → Odd S (preorder_built n colour root S)
unfolding preorder_built
odd_built n colour root S =
    let S₁ = sizes_computed n colour S in
    let S₂ = positions_computed n colour root S₁ in
    let S₃ = upward (store_range colour) (2 * n - 4) S₂ in
    odd_then (odd_then (odd_sizes n colour S) (odd_positions n colour root S₁))
    (odd_then (odd_upward (store_range colour) (odd_range colour) (2 * n - 4) S₂) (odd_upward (store_vertex n colour) (odd_store n colour) (n - 2) S₃))

-- ---- what is asked of scratch

-- it has n vertices' entries, and the words of the vertices that left name vertices
pub record PassPre (n words : ℕ) (S : Tables) : Type 0 where
  pub some : 3 ≤ n
  pub few : n ≤ 4096
  pub room : 10 * n ≤ words
  pub removed : (k : ℕ) → k < n - 2 → field0 (S.mark (2 * k + 1)) < n
  pub left : (k : ℕ) → k < n - 2 → field1 (S.mark (2 * k + 1)) < n
  pub right : (k : ℕ) → k < n - 2 → field2 (S.mark (2 * k + 1)) < n

pass_pre_odd : {n words words' : ℕ} {S S' : Tables} → Odd S S' → words' ≡ words → PassPre n words S → PassPre n words' S'
pass_pre_odd o e P =
    record {
      some = P.some;
      few = P.few;
      room = omega (arith, e, P.room);
      removed = λ k h. rw (o.odd k) (P.removed k h);
      left = λ k h. rw (o.odd k) (P.left k h);
      right = λ k h. rw (o.odd k) (P.right k h);
    }

-- each store keeps it
module _ {n words words' : ℕ} {S S' : Tables} (v x : ℕ) where
  pub mark_kept : S' ≡ set_mark (2 * v) x S → PassPre n words S → words' ≡ words → PassPre n words' S'
  mark_kept e P l = rw e (pass_pre_odd (odd_mark v x S) l P)

  pub head_kept : S' ≡ set_head v x S → PassPre n words S → words' ≡ words → PassPre n words' S'
  unfolding set_head
  head_kept e P l = rw e (pass_pre_odd (record { odd = λ k. refl }) l P)

  pub count_kept : S' ≡ set_count v x S → PassPre n words S → words' ≡ words → PassPre n words' S'
  unfolding set_count
  count_kept e P l = rw e (pass_pre_odd (record { odd = λ k. refl }) l P)

  pub op_kept : S' ≡ set_op v x S → PassPre n words S → words' ≡ words → PassPre n words' S'
  unfolding set_op
  op_kept e P l = rw e (pass_pre_odd (record { odd = λ k. refl }) l P)

-- and the words of walks across sides of the colour name vertices
pub record WalksIn (n colour : ℕ) (S : Tables) : Type 0 where
  pub tails : (t : ℕ) → 0 < t → t < 2 * n - 4 → field3 (S.op (3 * t)) ≡ colour + 1 → parent colour (S.op (3 * t)) < n

walks_kept : (n colour : ℕ) (S S' : Tables) → S'.op ≡ S.op → WalksIn n colour S → WalksIn n colour S'
walks_kept n colour S S' e W = record { tails = λ t h l. rw e (W.tails t h l) }

-- ---- the loops

-- one step more
pub up_next : (f : ℕ → Tables → Tables) (S₀ S S' : Tables) (k : ℕ) → S ≡ upward f k S₀ → S' ≡ f k S → S' ≡ upward f (k + 1) S₀
unfolding upward
up_next f S₀ S S' k e e' = let q : k + 1 ≡ suc k = omega arith in rw q (e' ∙ ap (f k) e)

-- k steps are left, and come to R
module _ (f : ℕ → Tables → Tables) (S S' R : Tables) (k : ℕ) (D : downward f k S ≡ R) where
  pub down_next : 0 < k → S' ≡ f (k - 1) S → downward f (k - 1) S' ≡ R
  unfolding downward
  down_next h e =
      let q : k ≡ suc (k - 1) = omega arith in
      rw e (rw q at D)

  pub down_ends : k ≤ 0 → S ≡ R
  unfolding downward
  down_ends h = let e : k ≡ 0 = omega arith in rw e at D

-- what a step reads of the k-th vertex that left
module _ {n words : ℕ} {S : Tables} (k w : ℕ) (P : PassPre n words S) (h : k < n - 2) (e : w ≡ S.mark (2 * k + 1)) where
  pub removed_low : (v : ℕ) → v ≡ field0 w → v < n
  removed_low v q = rw (q, e) (P.removed k h)

  pub parent_low : (colour u : ℕ) → u ≡ parent colour w → u < n
  unfolding parent
  parent_low colour u q = rw (q, e) (elim (tested (eqb colour 0)) [ inl b ↦ rw b (P.left k h) | inr b ↦ rw b (P.right k h) ])

-- both, for the code's calls on them
pub ruleset steps = (removed_low, parent_low)

pub store_range_is : (colour t w r : ℕ) (T T' : Tables) → 0 < t → w ≡ T.op (3 * t) → r ≡ with_range colour w T → T' ≡ set_op (3 * t) r T →
    T' ≡ store_range colour t T
unfolding store_range
store_range_is colour t w r T T' h ew er et =
    let q : t ≡ suc (t - 1) = omega arith in
    let e : store_range colour t T ≡ set_op (3 * suc (t - 1)) (with_range colour (T.op (3 * suc (t - 1))) T) T = ap (λ (x : ℕ). store_range colour x T) q in
    et ∙ rw (er, ew) (rw (sym q) at (sym e))

pub with_range-not : (colour w : ℕ) (T : Tables) (f : ℕ) → f ≡ field3 w → f ≢ colour + 1 → w ≡ with_range colour w T
unfolding with_range
with_range-not colour w T f ef d = rw (ne_eqb (field3 w) (colour + 1) (λ q. d (ef ∙ q)))

pub clamp_index_in : (n i : ℕ) → i < n → i ≡ clamp_index n i
unfolding clamp_index
clamp_index_in n i h = rw (lt-ltb i n h)

-- ---- one pass after another

-- the words of walks after the first two passes, and those across sides of colour 1 after all passes of colour 0
module _ (n colour : ℕ) (T T' : Tables) where
  pub sized_walks : T' ≡ sizes_computed n colour T → WalksIn n colour T → WalksIn n colour T'
  sized_walks e W = rw e (walks_kept n colour T (sizes_computed n colour T) (sized_op n colour 0 T) W)

  pub placed_walks : (root : ℕ) → T' ≡ positions_computed n colour root T → WalksIn n colour T → WalksIn n colour T'
  placed_walks root e W = rw e (walks_kept n colour T (positions_computed n colour root T) (placed-op n colour root T) W)

-- a word across a side of colour 1 is none of colour 0, and stays
module _ (n root : ℕ) (T : Tables) where
  other_word : (w : ℕ) (S : Tables) → field3 (with_range 0 w S) ≡ 2 → with_range 0 w S ≡ w
  unfolding with_range
  other_word w S e =
      elim (ℕ_discrete (field3 w) 1) [
        | no d ↦ rw (ne_eqb (field3 w) 1 d)
        | yes d ↦
            let a = field0 (S.head (parent 0 w) - 1) in
            let b = field0 (S.mark (2 * parent 0 w)) in
            let x = pack (field0 w) a b (field3 w) in
            let f : field3 x ≡ field3 w = field3_is (field0 w) a b (field3 w) x refl (field0_small _) (field0_small _) (field0_small _) in
            absurd (omega (arith, d, f, rw (eq-eqb (field3 w) 1 d) at e))
      ]

  pub built_walks : (T' : Tables) → T' ≡ preorder_built n 0 root T → WalksIn n 1 T → WalksIn n 1 T'
  built_walks T' e W =
      rw e
      (record {
        tails = λ t h l f.
            let b = built_word n 0 root T t h l in
            let s = other_word (T.op (3 * t)) (placed n 0 root T) (sym (ap field3 b) ∙ f) in
            rw (b ∙ s) (W.tails t h l (sym (ap field3 (b ∙ s)) ∙ f));
      })

-- the words of triangle t before they are stored
pub range_pre : (n colour : ℕ) (S₀ S : Tables) (t : ℕ) → S ≡ upward (store_range colour) t S₀ → WalksIn n colour S₀ → 0 < t → t < 2 * n - 4 →
    field3 (S.op (3 * t)) ≡ colour + 1 → parent colour (S.op (3 * t)) < n
range_pre n colour S₀ S t U W h l =
    let e : S.op (3 * t) ≡ S₀.op (3 * t) = ap (λ (T : Tables). T.op (3 * t)) U ∙ ranges_out colour t t S₀ (omega arith) in
    rw e (W.tails t h l)

-- scratch as it is before both colours
pub record PreorderPre (n : ℕ) (s : List ℤ) : Type 0 where
  pub pass_pre : PassPre n (length s) (tables_of s)
  pub walks0 : WalksIn n 0 (tables_of s)
  pub walks1 : WalksIn n 1 (tables_of s)
  pub first : (peeling s).origin 0 < n
  pub last : (peeling s).origin 2 < n
