-- Weights kept in scratch, past the words of the darts. Assumes nothing.
use Rattle.std.specs.Prelude.{ℕ, ◌+◌, ◌-◌, ◌*◌, ◌≤◌, ◌<◌, ◌≡◌, refl, List, length, get_or, set, ℤ, pos}
use Rattle.std.proofs.Common.{sym, ap, ◌∙◌, arith, length-set, get_or-set_same, get_or-set_other, ext_get_or}
use Rattle.std.proofs.Math.Path.{fun_ext}
use Rattle.std.proofs.Math.Decide.{ℕ_discrete, dec_lt}
use Rattle.definitions.specs.Mesh.{coordinates_length}
use Rattle.definitions.specs.Backward.{coordinate}
use Rattle.scratch_tables.specs.Tables.{word_at, tables_of, op_in, op_past, past_darts}
use Rattle.labels_tables.specs.Peeling.{peeling_of, peeling}
use Rattle.labels_tables.specs.LabelledTables.{Labelled, label_in}
use Rattle.maps_backward.specs.Weights.{InnerTriangle, weight_of, weights, weights-at, same-weight}

-- scratch s holds the list xs there
pub record Buffered (xs s : List ℤ) : Type 0 where
  pub entries : (j : ℕ) → j < length xs → get_or s (past_darts (length s) + j) (pos 0) ≡ get_or xs j (pos 0)

-- the words of the darts stay as they are
op_same : (s : List ℤ) (k : ℕ) (x : ℤ) → past_darts (length s) ≤ k → (tables_of (set s k x)).op ≡ (tables_of s).op
unfolding word_at
op_same s k x h = fun_ext (λ d. elim (dec_lt d (past_darts (length s))) [
  | yes q ↦
      let b : d < past_darts (length (set s k x)) = rw (length-set s k x) q in
      op_in (set s k x) d b ∙ rw (get_or-set_other s k d x (pos 0) (omega arith)) (sym (op_in s d q))
  | no q ↦
      let b : past_darts (length (set s k x)) ≤ d = rw (length-set s k x) (omega arith) in
      sym (op_past (set s k x) d b) ∙ op_past s d (omega arith)
])

-- the loop that keeps them: s₀ is scratch before it, and the first i have been kept
pub record Buffering (xs s₀ s : List ℤ) (i : ℕ) : Type 0 where
  pub long : length s ≡ length s₀
  pub same : (tables_of s).op ≡ (tables_of s₀).op
  pub entries : (j : ℕ) → j < i → get_or s (past_darts (length s₀) + j) (pos 0) ≡ get_or xs j (pos 0)

pub keeping_none : (xs s₀ : List ℤ) → Buffering xs s₀ s₀ 0
keeping_none xs s₀ = record { long = refl; same = refl; entries = λ j h. absurd (omega arith) }

pub keeping_more : (xs s₀ s : List ℤ) (i k : ℕ) (x : ℤ) → Buffering xs s₀ s i → k ≡ past_darts (length s₀) + i → k < length s → x ≡ get_or xs i (pos 0) →
    Buffering xs s₀ (set s k x) (i + 1)
keeping_more xs s₀ s i k x K e h q = record {
  long = length-set s k x ∙ K.long;
  same = op_same s k x (omega (arith, e, K.long)) ∙ K.same;
  entries = λ j b. elim (ℕ_discrete j i) [
    | yes f ↦ rw (f, ← e) (get_or-set_same s k x (pos 0) h ∙ q)
    | no f ↦ get_or-set_other s k (past_darts (length s₀) + j) x (pos 0) (omega (arith, e, f)) ∙ K.entries j (omega (arith, f))
  ];
}

pub keeping_all : (xs s₀ s : List ℤ) (i : ℕ) → length xs ≤ i → Buffering xs s₀ s i → Buffered xs s
keeping_all xs s₀ s i h K = record { entries = λ j b. rw K.long (K.entries j (omega arith)) }

-- the darts' entries in the tables of the labels stage
module _ {xs s₀ s : List ℤ} {i : ℕ} (K : Buffering xs s₀ s i) where
  same_turn : (peeling s).turn ≡ (peeling s₀).turn
  unfolding peeling_of
  same_turn = rw K.same

  same-origin : (peeling s).origin ≡ (peeling s₀).origin
  unfolding peeling_of
  same-origin = rw K.same

  same-apex : (peeling s).apex ≡ (peeling s₀).apex
  unfolding peeling_of
  same-apex = rw K.same

  same-label : (d : ℕ) → label_in (peeling s) d ≡ label_in (peeling s₀) d
  unfolding label_in
  same-label d = rw same-apex

  still_labelled : {n : ℕ} {ts ls : List ℕ} → Labelled n ts ls s₀ → Labelled n ts ls s
  still_labelled l = record {
    most = l.most;
    room = rw K.long l.room;
    size = l.size;
    sphere = l.sphere;
    turns = λ d h. rw same_turn (l.turns d h);
    origins = λ d h. rw same-origin (l.origins d h);
    apexes = λ t z h. rw same-apex (l.apexes t z h);
    labels = λ d h. same-label d ∙ l.labels d h;
  }

-- the next triangle, with some weights kept already, and its weight
module _ (bs : List ℤ) (n : ℕ) (s₀ s : List ℤ) (i : ℕ) (K : Buffering (weights bs (peeling s₀) (2 * n - 5)) s₀ s i) (h : i < 2 * n - 5) where
  pub next_triangle : {ts ls : List ℕ} → Labelled n ts ls s₀ → length bs ≡ coordinates_length n → InnerTriangle bs s (i + 1)
  next_triangle l e = record {
    n = n;
    ts = _;
    ls = _;
    labelled = still_labelled K l;
    long = e;
    inner = omega arith;
    below = omega (arith, l.size);
  }

  pub kept-weight : (N x : ℤ) → N ≡ coordinate bs 0 ((peeling s₀).origin 0) → x ≡ weight_of bs (peeling s) N (i + 1) →
      x ≡ get_or (weights bs (peeling s₀) (2 * n - 5)) i (pos 0)
  kept-weight N x t e =
      e ∙ same-weight bs (peeling s) (peeling s₀) N (i + 1) (same_turn K) (same-origin K) (same-apex K)
      ∙ ap (λ (N : ℤ). weight_of bs (peeling s₀) N (i + 1)) t ∙ sym (weights-at bs (peeling s₀) (2 * n - 5) i h)

-- the loop that writes them
pub record Copied (s ws₀ ws : List ℤ) (i : ℕ) : Type 0 where
  pub long : length ws ≡ length ws₀
  pub entries : (j : ℕ) → j < i → get_or ws j (pos 0) ≡ get_or s (past_darts (length s) + j) (pos 0)

pub copied_none : (s ws₀ : List ℤ) → Copied s ws₀ ws₀ 0
copied_none s ws₀ = record { long = refl; entries = λ j h. absurd (omega arith) }

pub copied_more : (s ws₀ ws ws' : List ℤ) (i k : ℕ) (x : ℤ) → Copied s ws₀ ws i → i < length ws → k ≡ past_darts (length s) + i →
    x ≡ get_or s k (pos 0) →
    ws' ≡ set ws i x → Copied s ws₀ ws' (i + 1)
copied_more s ws₀ ws ws' i k x C h e q r = rw r (record {
  long = length-set ws i x ∙ C.long;
  entries = λ j b. elim (ℕ_discrete j i) [
    | yes f ↦ rw (f, ← e) (get_or-set_same ws i x (pos 0) h ∙ q)
    | no f ↦ get_or-set_other ws i j x (pos 0) f ∙ C.entries j (omega (arith, f))
  ];
})

pub copied_all : (s ws₀ ws xs : List ℤ) (i : ℕ) → Copied s ws₀ ws i → length ws ≤ i → Buffered xs s → length ws₀ ≡ length xs →
    ws ≡ xs
copied_all s ws₀ ws xs i C h K e = ext_get_or (pos 0) ws xs (C.long ∙ e) (λ j b. C.entries j (omega arith) ∙ K.entries j (omega (arith, C.long, e)))
