-- The sets in the tables of the labels stage, as the code reads and stores them. Assumes nothing.
use Rattle.std.specs.Prelude.{ℕ, ◌+◌, ◌*◌, ◌/◌, ◌%◌, ◌≤◌, ◌<◌, ◌≡◌, false}
use Rattle.std.proofs.Common.{sym, ◌∙◌, arith}
use Rattle.std.proofs.Math.Path.{ap, fun_ext}
use Rattle.std.proofs.Math.Decide.{ℕ_discrete, dec_le}
use Rattle.scratch_tables.specs.Tables.{Tables, set_count, vertex_in, upd, upd-at, upd_other}
use Rattle.labels_tables.specs.Peeling.{Peeling, peeling_of}
use Rattle.labels_search.specs.Bits.{with_bit, lowest_bit, without_lowest, summary}
use Rattle.labels_search.specs.Sets.{first_block, is_empty, cleared_below, put, add_to, lowest_group, lowest_block, lowest, take_from}
use Rattle.labels_search.specs.Sets.{Summed, not_empty, group_in, group_some, block_in, block_some, cleared_before, cleared_from}

-- the tables with other words for the sets
unfoldable pub with_sets : (ℕ → ℕ) → Peeling → Peeling
with_sets f p = record {
  turn = p.turn;
  origin = p.origin;
  apex = p.apex;
  degree = p.degree;
  left = p.left;
  right = p.right;
  sets = f;
  order = p.order;
}

-- ---- one word, and three

pub word_read : (t : Tables) (i r : ℕ) → r ≡ t.count i → r ≡ (peeling_of t).sets i
unfolding peeling_of
word_read t i r e = e

pub word-stored : (t t' : Tables) (i x : ℕ) → t' ≡ set_count i x t → peeling_of t' ≡ with_sets (upd i x (peeling_of t).sets) (peeling_of t)
unfolding peeling_of set_count with_sets
word-stored t t' i x e = ap peeling_of e

pub three-stored : (p₀ p₁ p₂ p₃ : Peeling) (i g x y z : ℕ) → p₁ ≡ with_sets (upd i x p₀.sets) p₀ → p₂ ≡ with_sets (upd (1 + g) y p₁.sets) p₁
    → p₃ ≡ with_sets (upd 0 z p₂.sets) p₂ → p₃ ≡ with_sets (put i g x y z p₀.sets) p₀
unfolding with_sets put
three-stored p₀ p₁ p₂ p₃ i g x y z e₁ e₂ e₃ = e₃ ∙ rw (e₂, e₁)

-- ---- a vertex added, the lowest one taken

pub add-stored : (n v : ℕ) (p p' : Peeling) (x y z x' y' z' : ℕ) → x ≡ p.sets (first_block n + v / 32) → y ≡ p.sets (1 + v / 1024) → z ≡ p.sets 0
    → x' ≡ with_bit (v % 32) x → y' ≡ with_bit (v / 32 % 32) y → z' ≡ with_bit (v / 1024) z
    → p' ≡ with_sets (put (first_block n + v / 32) (v / 1024) x' y' z' p.sets) p → p' ≡ with_sets (add_to n v p.sets) p
unfolding add_to
add-stored n v p p' x y z x' y' z' ex ey ez ex' ey' ez' e = e ∙ rw (ex', ey', ez', ex, ey, ez)

-- the words on the way to the lowest member: the top word, its group's, its block's
module _ {n : ℕ} {f : ℕ → ℕ} {z g : ℕ} (s : Summed n f) (some : is_empty f ≡ false) (ez : z ≡ f 0) (eg : g ≡ lowest_bit z) where
  g_is : g ≡ lowest_group f
  unfolding lowest_group
  g_is = eg ∙ ap lowest_bit ez

  pub top_read : 0 < z
  top_read = rw ez (not_empty f some)

  pub group_room : (words : ℕ) → 3 ≤ n → 10 * n ≤ words → vertex_in words (1 + g)
  group_room words h room = omega (arith, g_is, group_in n f s (not_empty f some))

  pub group_read : (y : ℕ) → y ≡ f (1 + g) → 0 < y
  group_read y ey = rw (ey, g_is) (group_some n f s (not_empty f some))

  module _ {y l : ℕ} (ey : y ≡ f (1 + g)) (el : l ≡ lowest_bit y) where
    b_is : 32 * g + l ≡ lowest_block f
    unfolding lowest_block
    b_is = rw (el, ey, g_is)

    pub block_room : (words : ℕ) → 3 ≤ n → 10 * n ≤ words → vertex_in words (first_block n + (32 * g + l))
    block_room words h room = omega (arith, b_is, block_in n f s (not_empty f some))

    module _ {x : ℕ} (ex : x ≡ f (first_block n + (32 * g + l))) where
      pub block_read : 0 < x
      block_read = rw (ex, b_is) (block_some n f s (not_empty f some))

      pub lowest_read : (k : ℕ) → k ≡ lowest_bit x → 32 * (32 * g + l) + k ≡ lowest n f
      unfolding lowest
      lowest_read k e = rw (e, ex, b_is)

      pub take-stored : (p p' : Peeling) (x' y' z' : ℕ) → x' ≡ without_lowest x → y' ≡ summary x' y → z' ≡ summary y' z
          → p' ≡ with_sets (put (first_block n + (32 * g + l)) g x' y' z' f) p → p' ≡ with_sets (take_from n f) p
      unfolding take_from
      take-stored p p' x' y' z' ex' ey' ez' e = e ∙ rw (ez', ey', ex', ex, ey, ez, b_is, g_is)

-- ---- the loop that clears

cleared_one : (f : ℕ → ℕ) (k : ℕ) → upd k 0 (cleared_below k f) ≡ cleared_below (k + 1) f
cleared_one f k = fun_ext (λ i. elim (dec_le i k) [
  | yes h ↦ rw (cleared_before f (k + 1) i (omega arith)) (elim (ℕ_discrete i k) [
    | yes e ↦ upd-at k i 0 (cleared_below k f) e
    | no e ↦ upd_other k i 0 (cleared_below k f) e ∙ cleared_before f k i (omega (arith, e))
  ])
  | no h ↦
      upd_other k i 0 (cleared_below k f) (omega (arith, h)) ∙ cleared_from f k i (omega (arith, h)) ∙ sym (cleared_from f (k + 1) i (omega (arith, h)))
])

pub cleared_none : (p : Peeling) → p ≡ with_sets (cleared_below 0 p.sets) p
unfolding with_sets
cleared_none p = ap (λ (f : ℕ → ℕ). with_sets f p) (fun_ext (λ i. sym (cleared_from p.sets 0 i (omega arith))))

pub cleared_more : (p p' p'' : Peeling) (k : ℕ) → p' ≡ with_sets (cleared_below k p.sets) p → p'' ≡ with_sets (upd k 0 p'.sets) p'
    → p'' ≡ with_sets (cleared_below (k + 1) p.sets) p
unfolding with_sets
cleared_more p p' p'' k e q = q ∙ rw e (ap (λ (f : ℕ → ℕ). with_sets f p) (cleared_one p.sets k))

-- the laws by which the check proves the reads and the stores
pub ruleset stores =
    (word_read, word-stored, three-stored, add-stored, top_read, group_room, block_room, lowest_read, take-stored, cleared_none, cleared_more)
