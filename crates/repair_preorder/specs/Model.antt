-- The passes that make a preorder on the tables, as pure functions in the shape of the code. Definitions only.
use Rattle.std.specs.Prelude.{ℕ, zero, suc, ◌+◌, ◌-◌, ◌*◌, ◌%◌, cond, eqb, ltb}
use Rattle.scratch_tables.specs.Tables.{Tables, set_op, set_head, set_count, set_mark}
use Rattle.scratch_tables.specs.Fields.{pack, field0, field1, field2, field3}

-- steps 0 to k - 1, one after another, and in reverse
unfoldable pub upward : (ℕ → Tables → Tables) → ℕ → Tables → Tables
upward f zero S = S
upward f (suc k) S = f k (upward f k S)

unfoldable pub downward : (ℕ → Tables → Tables) → ℕ → Tables → Tables
downward f zero S = S
downward f (suc k) S = downward f k (f k S)

-- In the word of a vertex that left: its parent of colour 0 or 1. In the word of a triangle: the tail of the side, if it has that colour.
unfoldable pub parent : ℕ → ℕ → ℕ
unfolding field1 field2
parent colour w = cond (eqb colour 0) (field1 w) (field2 w)

-- ---- sizes, in the even marks: each vertex for itself, and the k-th that left for its parent too

unfoldable pub init_size : ℕ → Tables → Tables
unfolding set_mark
init_size v S = set_mark (2 * v) 1 S

unfoldable pub add_size : ℕ → ℕ → Tables → Tables
unfolding field0 parent set_mark
add_size colour k S =
    let w = S.mark (2 * k + 1) in
    let u = parent colour w in
    set_mark (2 * u) ((S.mark (2 * u) + S.mark (2 * field0 w)) % 65536) S

-- ---- places, in `head`: what a vertex has left ends there

unfoldable pub init_root : ℕ → Tables → Tables
unfolding set_head
init_root root S = set_head root (S.mark (2 * root)) S

unfoldable pub allocate_range : ℕ → ℕ → Tables → Tables
unfolding field0 parent set_head
allocate_range colour k S =
    let w = S.mark (2 * k + 1) in
    let v = field0 w in
    let u = parent colour w in
    set_head u (S.head u - S.mark (2 * v)) (set_head v (S.head u) S)

-- ---- the words of the triangles that lead across sides of the colour

unfoldable pub with_range : ℕ → ℕ → Tables → ℕ
unfolding pack field0 field3 parent
with_range colour w S =
    let v = parent colour w in
    cond (eqb (field3 w) (colour + 1)) (pack (field0 w) (field0 (S.head v - 1)) (field0 (S.mark (2 * v))) (field3 w)) w

-- the outer triangle has none
unfoldable pub store_range : ℕ → ℕ → Tables → Tables
unfolding with_range set_op
store_range colour zero S = S
store_range colour (suc j) S = let t = suc j in set_op (3 * t) (with_range colour (S.op (3 * t)) S) S

-- ---- the preorder: `count` for colour 0, the even marks for colour 1

unfoldable pub clamp_index : ℕ → ℕ → ℕ
clamp_index n i = cond (ltb i n) i 0

unfoldable pub store_entry : ℕ → ℕ → ℕ → Tables → Tables
unfolding set_count set_mark
store_entry colour i x S = cond (eqb colour 0) (set_count i x S) (set_mark (2 * i) x S)

unfoldable pub store_vertex : ℕ → ℕ → ℕ → Tables → Tables
unfolding field0 clamp_index store_entry
store_vertex n colour k S = let v = field0 (S.mark (2 * k + 1)) in store_entry colour (clamp_index n (S.head v - 1)) v S

-- ---- all passes of a colour

unfoldable pub sizes_computed : ℕ → ℕ → Tables → Tables
unfolding upward init_size add_size
sizes_computed n colour S = upward (add_size colour) (n - 2) (upward init_size n S)

unfoldable pub positions_computed : ℕ → ℕ → ℕ → Tables → Tables
unfolding downward init_root allocate_range
positions_computed n colour root S = downward (allocate_range colour) (n - 2) (init_root root S)

unfoldable pub preorder_built : ℕ → ℕ → ℕ → Tables → Tables
unfolding sizes_computed positions_computed upward store_range store_vertex
preorder_built n colour root S = upward (store_vertex n colour) (n - 2)
    (upward (store_range colour) (2 * n - 4) (positions_computed n colour root (sizes_computed n colour S)))
