-- Four tables of natural numbers in the lent scratch, and what a store does to them. Assumes nothing.
-- A tenth of the words is one column. Six columns are `op`, a word for each dart; one is `head` and one `count`, a word for each vertex; and two are
-- `mark`, two words for each vertex, the even ones in one column and the odd ones in the other. So each stands in one piece. What the words hold is the
-- matter of each stage. An index past its table reads as 0 and is not stored to.
use Rattle.std.specs.Prelude.{ℕ, ◌+◌, ◌*◌, ◌/◌, ◌%◌, ◌≤◌, ◌<◌, ◌^◌, ◌≡◌, refl, ◌≢◌, cond, List, map, eqb, ltb, get_or, set, ℤ, pos}
use Rattle.std.proofs.Common.{arith, ap, ◌∙◌, get_or-set_same, get_or-set_other, ext_get_or, of_z, lt-ltb, le-ltb, eq-eqb, ne_eqb}
use Rattle.std.proofs.Math.Path.{sym, fun_ext}
use Rattle.std.proofs.Math.ListN.{length, length-set, get_or-map}
use Rattle.std.proofs.lemmas.List.{length-map}
use Rattle.std.proofs.Math.Decide.{ℕ_discrete, dec_le}
use Rattle.std.specs.Int.{w64}
use Rattle.scratch_tables.specs.declared.Column.{Column}
use Rattle.scratch_tables.specs.declared.Column.TheVariants.{Head, Count, EvenMark, OddMark}

-- ---- functions changed at one place

unfoldable pub upd : ℕ → ℕ → (ℕ → ℕ) → ℕ → ℕ
upd i x f j = cond (eqb j i) x (f j)

pub upd_same : (i x : ℕ) (f : ℕ → ℕ) → upd i x f i ≡ x
unfolding upd
upd_same i x f = rw (eq-eqb i i refl)

pub upd-at : (i j x : ℕ) (f : ℕ → ℕ) → j ≡ i → upd i x f j ≡ x
unfolding upd
upd-at i j x f e = rw (eq-eqb j i e)

pub upd_other : (i j x : ℕ) (f : ℕ → ℕ) → j ≢ i → upd i x f j ≡ f j
unfolding upd
upd_other i j x f h = rw (ne_eqb j i h)

-- ---- a word of scratch as a natural number: its lowest 63 bits. What is past the end reads as 0.

unfoldable pub to_natural : ℤ → ℕ
to_natural x = of_z w64 x % 2 ^ 63

unfoldable pub word_at : List ℤ → ℕ → ℕ
word_at s i = to_natural (get_or s i (pos 0))

-- ---- where the entries stand

-- a tenth of scratch
abbrev pub column : ℕ → ℕ
column words = words / 10

-- where a column of the vertices begins
abbrev pub column_start : Column → ℕ → ℕ
column_start Head words = 6 * column words
column_start Count words = 7 * column words
column_start EvenMark words = 8 * column words
column_start OddMark words = 9 * column words

-- where the words past those of the darts begin; those of `count`; and those of the even marks
abbrev pub past_darts : ℕ → ℕ
past_darts words = 6 * column words

abbrev pub count_start : ℕ → ℕ
count_start words = 7 * column words

abbrev pub mark_start : ℕ → ℕ
mark_start words = 8 * column words

-- the entries that there are
abbrev pub dart_in : ℕ → ℕ → Type 0
dart_in words d = d < 6 * column words

abbrev pub vertex_in : ℕ → ℕ → Type 0
vertex_in words v = v < column words

abbrev pub mark_in : ℕ → ℕ → Type 0
mark_in words t = t < 2 * column words

-- Marks of one kind, even or odd, stand together.
unfoldable pub mark_at : ℕ → ℕ → ℕ
mark_at c t = cond (eqb (t % 2) 0) (8 * c + t / 2) (9 * c + t / 2)

-- ---- the tables

pub record Tables : Type 0 where
  pub op : ℕ → ℕ
  pub head : ℕ → ℕ
  pub count : ℕ → ℕ
  pub mark : ℕ → ℕ

-- an entry of a table of `size` entries, the one of index i at place `at i`
unfoldable pub entry : List ℤ → (ℕ → ℕ) → ℕ → ℕ → ℕ
entry s at size i = cond (ltb i size) (word_at s (at i)) 0

-- what scratch holds, in columns of c words
unfoldable pub columns : ℕ → List ℤ → Tables
columns c s = record {
  op = entry s (λ d. d) (6 * c);
  head = entry s (λ v. 6 * c + v) c;
  count = entry s (λ v. 7 * c + v) c;
  mark = entry s (mark_at c) (2 * c);
}

unfoldable pub tables_of : List ℤ → Tables
tables_of s = columns (column (length s)) s

unfoldable pub set_op : ℕ → ℕ → Tables → Tables
set_op d x t = record { op = upd d x t.op; head = t.head; count = t.count; mark = t.mark }

unfoldable pub set_head : ℕ → ℕ → Tables → Tables
set_head v x t = record { op = t.op; head = upd v x t.head; count = t.count; mark = t.mark }

unfoldable pub set_count : ℕ → ℕ → Tables → Tables
set_count v x t = record { op = t.op; head = t.head; count = upd v x t.count; mark = t.mark }

unfoldable pub set_mark : ℕ → ℕ → Tables → Tables
set_mark i x t = record { op = t.op; head = t.head; count = t.count; mark = upd i x t.mark }

-- an entry of a column of the vertices, and a store to it
abbrev pub entry_of : Column → ℕ → Tables → ℕ
entry_of Head v t = t.head v
entry_of Count v t = t.count v
entry_of EvenMark v t = t.mark (2 * v)
entry_of OddMark v t = t.mark (2 * v + 1)

abbrev pub set_entry : Column → ℕ → ℕ → Tables → Tables
set_entry Head v x t = set_head v x t
set_entry Count v x t = set_count v x t
set_entry EvenMark v x t = set_mark (2 * v) x t
set_entry OddMark v x t = set_mark (2 * v + 1) x t

-- ---- a store to one of them

word_at-same : (s : List ℤ) (i x : ℕ) → x < 2 ^ 63 → i < length s → word_at (set s i (pos x)) i ≡ x
unfolding word_at to_natural
word_at-same s i x few h = rw (get_or-set_same s i (pos x) (pos 0) h) (omega arith)

word_at-other : (s : List ℤ) (i j x : ℕ) → j ≢ i → word_at (set s i (pos x)) j ≡ word_at s j
unfolding word_at
word_at-other s i j x h = rw (get_or-set_other s i j (pos x) (pos 0) h)

entry_in : (s : List ℤ) (at : ℕ → ℕ) (size i : ℕ) → i < size → entry s at size i ≡ word_at s (at i)
unfolding entry
entry_in s at size i h = rw (lt-ltb i size h)

entry_past : (s : List ℤ) (at : ℕ → ℕ) (size i : ℕ) → size ≤ i → entry s at size i ≡ 0
unfolding entry
entry_past s at size i h = rw (le-ltb i size h)

-- a store to a word that is no entry of the table
entry_other : (s : List ℤ) (at : ℕ → ℕ) (size k x : ℕ) → ((j : ℕ) → j < size → at j ≢ k) →
    entry (set s k (pos x)) at size ≡ entry s at size
entry_other s at size k x apart = fun_ext (λ j. elim (dec_le size j) [
  | yes q ↦ entry_past (set s k (pos x)) at size j q ∙ sym (entry_past s at size j q)
  | no q ↦
      let h : j < size = omega (arith, q) in
      entry_in (set s k (pos x)) at size j h ∙ word_at-other s k (at j) x (apart j h) ∙ sym (entry_in s at size j h)
])

-- a store to one of the table's entries, which stand at different places
module _ (s : List ℤ) (at : ℕ → ℕ) (size i x : ℕ) (few : x < 2 ^ 63) (h : i < size) (low : at i < length s) (apart : (j : ℕ) → j < size → at j ≡ at i →
    j ≡ i) where
  entry-same : (j : ℕ) → entry (set s (at i) (pos x)) at size j ≡ upd i x (entry s at size) j
  entry-same j = elim (ℕ_discrete j i) [
    | yes e ↦
        rw (e, upd_same i x (entry s at size)) (entry_in (set s (at i) (pos x)) at size i h ∙ word_at-same s (at i) x few low)
    | no e ↦
        rw (upd_other i j x (entry s at size) e) (elim (dec_le size j) [
          | yes q ↦ entry_past (set s (at i) (pos x)) at size j q ∙ sym (entry_past s at size j q)
          | no q ↦
              let k : j < size = omega (arith, q) in
              entry_in (set s (at i) (pos x)) at size j k ∙ word_at-other s (at i) (at j) x (λ z. e (apart j k z)) ∙ sym (entry_in s at size j k)
        ])
  ]

-- a mark stands in its column
pub mark_even : (c t : ℕ) → t % 2 ≡ 0 → mark_at c t ≡ 8 * c + t / 2
unfolding mark_at
mark_even c t e = rw (eq-eqb (t % 2) 0 e)

pub mark_odd : (c t : ℕ) → t % 2 ≢ 0 → mark_at c t ≡ 9 * c + t / 2
unfolding mark_at
mark_odd c t e = rw (ne_eqb (t % 2) 0 e)

mark-range : (c t : ℕ) → t < 2 * c → (8 * c ≤ mark_at c t) × (mark_at c t < 10 * c)
mark-range c t h = elim (ℕ_discrete (t % 2) 0) [
  | yes e ↦ omega (arith, mark_even c t e)
  | no e ↦ omega (arith, mark_odd c t e)
]

mark_apart : (c t u : ℕ) → t < 2 * c → u < 2 * c → mark_at c t ≡ mark_at c u → t ≡ u
mark_apart c t u h k q = elim (ℕ_discrete (t % 2) 0) [
  | yes e ↦ elim (ℕ_discrete (u % 2) 0) [
    | yes f ↦ omega (arith, mark_even c t e, mark_even c u f)
    | no f ↦ omega (arith, mark_even c t e, mark_odd c u f)
  ]
  | no e ↦ elim (ℕ_discrete (u % 2) 0) [
    | yes f ↦ omega (arith, mark_odd c t e, mark_even c u f)
    | no f ↦ omega (arith, e, f, mark_odd c t e, mark_odd c u f)
  ]
]

module _ (s : List ℤ) (c : ℕ) (room : 10 * c ≤ length s) where
  columns-op : (d x : ℕ) → x < 2 ^ 63 → d < 6 * c → columns c (set s d (pos x)) ≡ set_op d x (columns c s)
  unfolding columns set_op
  columns-op d x few h = λ i. record {
    op = fun_ext (entry-same s (λ j. j) (6 * c) d x few h (omega arith) (λ j k e. e)) i;
    head = entry_other s (λ v. 6 * c + v) c d x (λ j k. omega arith) i;
    count = entry_other s (λ v. 7 * c + v) c d x (λ j k. omega arith) i;
    mark = entry_other s (mark_at c) (2 * c) d x (λ j k. omega (arith, mark-range c j k)) i;
  }

  columns_head : (v x : ℕ) → x < 2 ^ 63 → v < c → columns c (set s (6 * c + v) (pos x)) ≡ set_head v x (columns c s)
  unfolding columns set_head
  columns_head v x few h = λ i. record {
    op = entry_other s (λ d. d) (6 * c) (6 * c + v) x (λ j k. omega arith) i;
    head = fun_ext (entry-same s (λ j. 6 * c + j) c v x few h (omega arith) (λ j k e. omega arith)) i;
    count = entry_other s (λ w. 7 * c + w) c (6 * c + v) x (λ j k. omega arith) i;
    mark = entry_other s (mark_at c) (2 * c) (6 * c + v) x (λ j k. omega (arith, mark-range c j k)) i;
  }

  columns-count : (v x : ℕ) → x < 2 ^ 63 → v < c → columns c (set s (7 * c + v) (pos x)) ≡ set_count v x (columns c s)
  unfolding columns set_count
  columns-count v x few h = λ i. record {
    op = entry_other s (λ d. d) (6 * c) (7 * c + v) x (λ j k. omega arith) i;
    head = entry_other s (λ w. 6 * c + w) c (7 * c + v) x (λ j k. omega arith) i;
    count = fun_ext (entry-same s (λ j. 7 * c + j) c v x few h (omega arith) (λ j k e. omega arith)) i;
    mark = entry_other s (mark_at c) (2 * c) (7 * c + v) x (λ j k. omega (arith, mark-range c j k)) i;
  }

  columns-mark : (t x : ℕ) → x < 2 ^ 63 → t < 2 * c → columns c (set s (mark_at c t) (pos x)) ≡ set_mark t x (columns c s)
  unfolding columns set_mark
  columns-mark t x few h = λ i. record {
    op = entry_other s (λ d. d) (6 * c) (mark_at c t) x (λ j k. omega (arith, mark-range c t h)) i;
    head = entry_other s (λ w. 6 * c + w) c (mark_at c t) x (λ j k. omega (arith, mark-range c t h)) i;
    count = entry_other s (λ w. 7 * c + w) c (mark_at c t) x (λ j k. omega (arith, mark-range c t h)) i;
    mark = fun_ext (entry-same s (mark_at c) (2 * c) t x few h (omega (arith, mark-range c t h)) (λ j k e. mark_apart c j t k h e)) i;
  }

module _ (s : List ℤ) where
  pub tables_of-op : (d x : ℕ) → x < 2 ^ 63 → dart_in (length s) d → tables_of (set s d (pos x)) ≡ set_op d x (tables_of s)
  unfolding tables_of
  tables_of-op d x few h = rw (length-set s d (pos x)) (columns-op s (length s / 10) (omega arith) d x few h)

  pub tables_of_head : (v x : ℕ) → x < 2 ^ 63 → vertex_in (length s) v → tables_of (set s (6 * column (length s) + v) (pos x)) ≡ set_head v x (tables_of s)
  unfolding tables_of
  tables_of_head v x few h = rw (length-set s (6 * (length s / 10) + v) (pos x)) (columns_head s (length s / 10) (omega arith) v x few h)

  pub tables_of-count : (v x : ℕ) → x < 2 ^ 63 → vertex_in (length s) v → tables_of (set s (7 * column (length s) + v) (pos x)) ≡ set_count v x (tables_of s)
  unfolding tables_of
  tables_of-count v x few h = rw (length-set s (7 * (length s / 10) + v) (pos x)) (columns-count s (length s / 10) (omega arith) v x few h)

  pub tables_of-mark : (t x : ℕ) → x < 2 ^ 63 → mark_in (length s) t → tables_of (set s (mark_at (column (length s)) t) (pos x)) ≡ set_mark t x (tables_of s)
  unfolding tables_of
  tables_of-mark t x few h = rw (length-set s (mark_at (length s / 10) t) (pos x)) (columns-mark s (length s / 10) (omega arith) t x few h)

-- ---- a word as the code reads it

-- an entry as the code reads it: its word, or 0 where there is none

-- ---- the marks' two columns as one table, in which one entry stands after another: the flags of row 8

unfoldable pub flags_of : List ℤ → ℕ → ℕ
flags_of s = entry s (λ t. 8 * column (length s) + t) (2 * column (length s))

pub flag_in : (s : List ℤ) (t : ℕ) → mark_in (length s) t → flags_of s t ≡ word_at s (8 * column (length s) + t)
unfolding flags_of
flag_in s t h = entry_in s (λ t. 8 * (length s / 10) + t) (2 * (length s / 10)) t h

-- ---- the words of the vertices and of their marks as one table: the queue of row 8

unfoldable pub queue_of : List ℤ → ℕ → ℕ
queue_of s = entry s (λ j. 6 * column (length s) + j) (2 * column (length s))

pub queue_in : (s : List ℤ) (j : ℕ) → mark_in (length s) j → queue_of s j ≡ word_at s (6 * column (length s) + j)
unfolding queue_of
queue_in s j h = entry_in s (λ j. 6 * (length s / 10) + j) (2 * (length s / 10)) j h

-- a store to a flag, and one to the queue; the words of the darts stay, and so does the other table
pub record Flagged (s s' : List ℤ) (t x : ℕ) : Type 0 where
  pub flags : flags_of s' ≡ upd t x (flags_of s)
  pub queue : queue_of s' ≡ queue_of s
  pub darts : (tables_of s').op ≡ (tables_of s).op

pub record Queued (s s' : List ℤ) (j x : ℕ) : Type 0 where
  pub queue : queue_of s' ≡ upd j x (queue_of s)
  pub flags : flags_of s' ≡ flags_of s
  pub darts : (tables_of s').op ≡ (tables_of s).op

module _ (s : List ℤ) (t x : ℕ) (few : x < 2 ^ 63) (h : mark_in (length s) t) where
  pub flagged : Flagged s (set s (8 * column (length s) + t) (pos x)) t x
  unfolding tables_of columns flags_of queue_of
  flagged =
      let c = length s / 10 in
      let k = 8 * c + t in
      let e = length-set s k (pos x) in
      record {
        flags = rw e (fun_ext (entry-same s (λ j. 8 * c + j) (2 * c) t x few h (omega arith) (λ j l q. omega arith)));
        queue = rw e (entry_other s (λ j. 6 * c + j) (2 * c) k x (λ j l. omega arith));
        darts = rw e (entry_other s (λ d. d) (6 * c) k x (λ j l. omega arith));
      }

  pub queued : Queued s (set s (6 * column (length s) + t) (pos x)) t x
  unfolding tables_of columns flags_of queue_of
  queued =
      let c = length s / 10 in
      let k = 6 * c + t in
      let e = length-set s k (pos x) in
      record {
        queue = rw e (fun_ext (entry-same s (λ j. 6 * c + j) (2 * c) t x few h (omega arith) (λ j l q. omega arith)));
        flags = rw e (entry_other s (λ j. 8 * c + j) (2 * c) k x (λ j l. omega arith));
        darts = rw e (entry_other s (λ d. d) (6 * c) k x (λ j l. omega arith));
      }

module _ (s : List ℤ) where
  pub op_in : (d : ℕ) → dart_in (length s) d → (tables_of s).op d ≡ word_at s d
  unfolding tables_of columns
  op_in d h = entry_in s (λ j. j) (6 * (length s / 10)) d h

  pub op_past : (d : ℕ) → 6 * column (length s) ≤ d → 0 ≡ (tables_of s).op d
  unfolding tables_of columns
  op_past d h = sym (entry_past s (λ j. j) (6 * (length s / 10)) d h)

  pub head_in : (v : ℕ) → vertex_in (length s) v → (tables_of s).head v ≡ word_at s (6 * column (length s) + v)
  unfolding tables_of columns
  head_in v h = entry_in s (λ j. 6 * (length s / 10) + j) (length s / 10) v h

  pub count_in : (v : ℕ) → vertex_in (length s) v → (tables_of s).count v ≡ word_at s (7 * column (length s) + v)
  unfolding tables_of columns
  count_in v h = entry_in s (λ j. 7 * (length s / 10) + j) (length s / 10) v h

  pub mark_in_lem : (t : ℕ) → mark_in (length s) t → (tables_of s).mark t ≡ word_at s (mark_at (column (length s)) t)
  unfolding tables_of columns
  mark_in_lem t h = entry_in s (mark_at (length s / 10)) (2 * (length s / 10)) t h

-- odd marks, which stand in a column of their own
module _ (s : List ℤ) (k : ℕ) (h : vertex_in (length s) k) where
  odd_at : mark_at (column (length s)) (2 * k + 1) ≡ 9 * column (length s) + k
  odd_at = omega (arith, mark_odd (length s / 10) (2 * k + 1) (omega arith))

  pub order_in : (tables_of s).mark (2 * k + 1) ≡ word_at s (9 * column (length s) + k)
  order_in = mark_in_lem s (2 * k + 1) (omega arith) ∙ ap (word_at s) odd_at

  pub tables_of-order : (x : ℕ) → x < 2 ^ 63 → tables_of (set s (9 * column (length s) + k) (pos x)) ≡ set_mark (2 * k + 1) x (tables_of s)
  tables_of-order x few = ap (λ (i : ℕ). tables_of (set s i (pos x))) (sym odd_at) ∙ tables_of-mark s (2 * k + 1) x few (omega arith)

-- even marks, which stand in another
module _ (s : List ℤ) (v : ℕ) (h : vertex_in (length s) v) where
  even_at : mark_at (column (length s)) (2 * v) ≡ 8 * column (length s) + v
  even_at = omega (arith, mark_even (length s / 10) (2 * v) (omega arith))

  pub extra_in : (tables_of s).mark (2 * v) ≡ word_at s (8 * column (length s) + v)
  extra_in = mark_in_lem s (2 * v) (omega arith) ∙ ap (word_at s) even_at

  pub tables_of_extra : (x : ℕ) → x < 2 ^ 63 → tables_of (set s (8 * column (length s) + v) (pos x)) ≡ set_mark (2 * v) x (tables_of s)
  tables_of_extra x few = ap (λ (i : ℕ). tables_of (set s i (pos x))) (sym even_at) ∙ tables_of-mark s (2 * v) x few (omega arith)

-- an entry of a column as the code reads and stores it
pub entry_in_column : (s : List ℤ) (k : Column) (v : ℕ) → vertex_in (length s) v → entry_of k v (tables_of s) ≡ word_at s (column_start k (length s) + v)
entry_in_column s Head v h = head_in s v h
entry_in_column s Count v h = count_in s v h
entry_in_column s EvenMark v h = extra_in s v h
entry_in_column s OddMark v h = order_in s v h

pub tables_of-entry : (s : List ℤ) (k : Column) (v x : ℕ) → x < 2 ^ 63 → vertex_in (length s) v →
    tables_of (set s (column_start k (length s) + v) (pos x)) ≡ set_entry k v x (tables_of s)
tables_of-entry s Head v x few h = tables_of_head s v x few h
tables_of-entry s Count v x few h = tables_of-count s v x few h
tables_of-entry s EvenMark v x few h = tables_of_extra s v h x few
tables_of-entry s OddMark v x few h = tables_of-order s v h x few

-- ---- the loop that clears: the words from k on and before i are zero

pub record Cleared (s s' : List ℤ) (k i : ℕ) : Type 0 where
  pub long : length s' ≡ length s
  pub same : (j : ℕ) → j < k → get_or s' j (pos 0) ≡ get_or s j (pos 0)
  pub zero : (j : ℕ) → k ≤ j → j < i → get_or s' j (pos 0) ≡ pos 0

pub cleared_none : (s : List ℤ) (k : ℕ) → Cleared s s k k
cleared_none s k = record { long = refl; same = λ j h. refl; zero = λ j h l. absurd (omega arith) }

pub cleared_more : (s s' : List ℤ) (k i : ℕ) → k ≤ i → i < length s' → Cleared s s' k i → Cleared s (set s' i (pos 0)) k (i + 1)
cleared_more s s' k i g h c = record {
  long = length-set s' i (pos 0) ∙ c.long;
  same = λ j q. get_or-set_other s' i j (pos 0) (pos 0) (omega arith) ∙ c.same j q;
  zero = λ j q l. elim (ℕ_discrete j i) [
    | yes e ↦ rw e (get_or-set_same s' i (pos 0) (pos 0) h)
    | no e ↦ get_or-set_other s' i j (pos 0) (pos 0) e ∙ c.zero j q (omega (arith, e))
  ];
}

pub cleared_end : (s s' : List ℤ) (k i e : ℕ) → i ≤ e → e ≤ i → Cleared s s' k i → Cleared s s' k e
cleared_end s s' k i e h l c = let q : i ≡ e = omega arith in rw q at c

pub cleared_all : (s s' : List ℤ) → Cleared s s' 0 (length s) → s' ≡ map (λ _. pos 0) s
cleared_all s s' c =
    ext_get_or (pos 0) s' (map (λ _. pos 0) s) (c.long ∙ sym (length-map s (λ (_ : ℤ). pos 0)))
    (λ k q. c.zero k (omega arith) (omega (arith, c.long)) ∙ sym (get_or-map (λ (_ : ℤ). pos 0) s k (pos 0)))

entry_kept : (s s' : List ℤ) (at : ℕ → ℕ) (size : ℕ) → ((j : ℕ) → j < size → get_or s' (at j) (pos 0) ≡ get_or s (at j) (pos 0)) →
    entry s' at size ≡ entry s at size
unfolding word_at
entry_kept s s' at size f = fun_ext (λ j. elim (dec_le size j) [
  | yes q ↦ entry_past s' at size j q ∙ sym (entry_past s at size j q)
  | no q ↦ let h : j < size = omega (arith, q) in entry_in s' at size j h ∙ ap to_natural (f j h) ∙ sym (entry_in s at size j h)
])

entry_zero : (s : List ℤ) (at : ℕ → ℕ) (size : ℕ) → ((j : ℕ) → j < size → get_or s (at j) (pos 0) ≡ pos 0) → entry s at size ≡ (λ _. 0)
unfolding word_at to_natural
entry_zero s at size f = fun_ext (λ j. elim (dec_le size j) [
  | yes q ↦ entry_past s at size j q
  | no q ↦ let h : j < size = omega (arith, q) in entry_in s at size j h ∙ ap to_natural (f j h)
])

-- the darts' words stay, and those of the vertices and of their marks are zero
pub record VerticesCleared (t t' : Tables) : Type 0 where
  pub darts : t'.op ≡ t.op
  pub vertices : t'.head ≡ (λ _. 0)
  pub marks : t'.count ≡ (λ _. 0)

pub cleared_vertices : (s s' : List ℤ) → Cleared s s' (6 * column (length s)) (8 * column (length s)) → VerticesCleared (tables_of s) (tables_of s')
unfolding tables_of columns
cleared_vertices s s' c = let k = length s / 10 in
    rw c.long record {
      darts = entry_kept s s' (λ d. d) (6 * k) c.same;
      vertices = entry_zero s' (λ v. 6 * k + v) k (λ j h. c.zero (6 * k + j) (omega arith) (omega arith));
      marks = entry_zero s' (λ v. 7 * k + v) k (λ j h. c.zero (7 * k + j) (omega arith) (omega arith));
    }
