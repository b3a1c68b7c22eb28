-- Steps of the writer of a listing, in the shape in which the code hands them over: a signed number as its bits. Assumes nothing.
use Rattle.std.specs.Prelude.{ℕ, zero, suc, ◌+◌, ◌-◌, ◌*◌, ◌≤◌, ◌<◌, ◌≡◌, refl, List, [], ◌∷◌, ◌++◌, length, ℤ, None, Some}
use Rattle.std.proofs.Math.Path.{ap}
use Rattle.std.proofs.Common.{◌∙◌, arith, add-one, length-append, length-drop, SFits, of_z, to_z, to_z-of_z, lt-ltb, le-ltb}
use Rattle.std.proofs.Math.IntN.{pos}
use Rattle.std.specs.Int.{w64}
use Rattle.definitions.specs.Backward.{coordinate}
use Rattle.definitions.specs.Job.{bytes, pack_map, write_line, listing}
use Rattle.text_model.specs.Writing.{Wrote, wrote_none, wrote_then, rest_is, rest_of, put_rest, head_of, vertex_line, vertex_lines, listing_is}
use Rattle.text_write_listing.specs.Answer.{Listing}

-- ---- a line by its numbers

pub four : (a b c d x y z w : ℤ) → a ≡ x → b ≡ y → c ≡ z → d ≡ w →
    ◌≡◌ {A = List ℤ} (a ∷ b ∷ c ∷ d ∷ []) (x ∷ y ∷ z ∷ w ∷ [])
four a b c d x y z w p q r s = cc

module _ (bs : List ℤ) (i : ℕ) (xs : List ℤ) (e : xs ≡ pos i ∷ coordinate bs 0 i ∷ coordinate bs 1 i ∷ coordinate bs 2 i ∷ []) where
  vertex_line_lem : write_line (bytes "v") xs ≡ vertex_line bs i
  unfolding vertex_line
  vertex_line_lem = ap (write_line (bytes "v")) e

  pub vertex_room : (out : List ℕ) → length (vertex_line bs i) ≤ length out → length (write_line (bytes "v") xs) ≤ length out
  vertex_room out h = rw vertex_line_lem h

  pub vertex_wrote : (old out : List ℕ) (r : ℕ) → Wrote (write_line (bytes "v") xs) old out r → Wrote (vertex_line bs i) old out r
  vertex_wrote old out r h = rw vertex_line_lem at h

  pub vertex_counted : (r : ℕ) → r ≡ length (write_line (bytes "v") xs) → r ≡ length (vertex_line bs i)
  vertex_counted r h = rw vertex_line_lem at h

module _ (n : ℕ) (N : ℤ) (raises : ℕ) (xs : List ℤ) (e : xs ≡ pos n ∷ to_z w64 (of_z w64 N) ∷ pos raises ∷ []) (f : SFits w64 N) where
  head_line_lem : write_line pack_map xs ≡ head_of n N raises
  unfolding head_of
  head_line_lem = ap (write_line pack_map) (e ∙ ap (λ (z : ℤ). pos n ∷ z ∷ pos raises ∷ []) (to_z-of_z f))

  pub head_room : (out : List ℕ) → length (head_of n N raises) ≤ length out → length (write_line pack_map xs) ≤ length out
  head_room out h = rw head_line_lem h

  pub head_wrote : (old out : List ℕ) (r : ℕ) → Wrote (write_line pack_map xs) old out r → Wrote (head_of n N raises) old out r
  head_wrote old out r h = rw head_line_lem at h

  pub head_counted : (r : ℕ) → r ≡ length (write_line pack_map xs) → r ≡ length (head_of n N raises)
  head_counted r h = rw head_line_lem at h

-- ---- the lines of vertices, i of them so far

lines_next : (bs : List ℤ) (i : ℕ) → vertex_lines bs (i + 1) ≡ vertex_lines bs i ++ vertex_line bs i
unfolding vertex_lines
lines_next bs i = rw (add-one i)

next-length : (bs : List ℤ) (i : ℕ) → length (vertex_lines bs (i + 1)) ≡ length (vertex_lines bs i) + length (vertex_line bs i)
next-length bs i = rw (lines_next bs i, length-append (vertex_lines bs i) (vertex_line bs i))

lines_grow : (bs : List ℤ) (i j : ℕ) → length (vertex_lines bs i) ≤ length (vertex_lines bs (i + j))
unfolding vertex_lines
lines_grow bs i zero =
    let e : i + 0 ≡ i = omega arith in
    rw e (omega arith)
lines_grow bs i (suc j) =
    let e : i + suc j ≡ suc (i + j) = omega arith in
    rw (e, length-append (vertex_lines bs (i + j)) (vertex_line bs (i + j))) (omega (arith, lines_grow bs i j))

-- the line of vertex i, after those before it
pub line_room : (bs : List ℤ) (i n : ℕ) → i < n → length (vertex_lines bs i) + length (vertex_line bs i) ≤ length (vertex_lines bs n)
line_room bs i n h =
    let e : i + 1 + (n - (i + 1)) ≡ n = omega arith in
    omega (arith, next-length bs i, rw e at (lines_grow bs (i + 1) (n - (i + 1))))

-- the first i lines stand at the front
pub lines_none : (bs : List ℤ) (old : List ℕ) → Wrote (vertex_lines bs 0) old old 0
unfolding vertex_lines
lines_none bs old = wrote_none old

module _ (bs : List ℤ) (old out : List ℕ) (at i : ℕ) (w : Wrote (vertex_lines bs i) old out at) where
  pub lines_room : (n : ℕ) → i < n → length (vertex_lines bs n) ≤ length old → length out ≡ length old →
      length (vertex_line bs i) ≤ length (rest_of at out)
  lines_room n h l e = rw (rest_is at out) (omega (arith, length-drop at out, w.count, line_room bs i n h))

  pub lines_more : (ys : List ℕ) (r : ℕ) → Wrote (vertex_line bs i) (rest_of at out) ys r →
      Wrote (vertex_lines bs (i + 1)) old (put_rest at out ys) (at + r)
  lines_more ys r q = rw (lines_next bs i) (wrote_then (vertex_lines bs i) (vertex_line bs i) old out ys at r w q)

-- `at` is the length of the first i lines
pub record Counts (bs : List ℤ) (at i : ℕ) : Type 0 where
  pub so_far : at ≡ length (vertex_lines bs i)
  pub small : at ≤ 369 * i

pub counts_none : (bs : List ℤ) → Counts bs 0 0
unfolding vertex_lines
counts_none bs = record { so_far = refl; small = omega arith }

pub counts_more : (bs : List ℤ) (at i r : ℕ) → Counts bs at i → r ≡ length (vertex_line bs i) → r ≤ 369 → Counts bs (at + r) (i + 1)
counts_more bs at i r a e l = record { so_far = omega (arith, a.so_far, next-length bs i); small = omega (arith, a.small) }

-- ---- the whole

module _ (n : ℕ) (N : ℤ) (raises : ℕ) (bs : List ℤ) (f : SFits w64 N) where
  whole : length (listing n N raises bs) ≡ length (head_of n (to_z w64 (of_z w64 N)) raises) + length (vertex_lines bs n)
  whole = rw (to_z-of_z f, listing_is n N raises bs) (length-append (head_of n N raises) (vertex_lines bs n))

  pub whole_counted : (a b : ℕ) → a ≡ length (head_of n (to_z w64 (of_z w64 N)) raises) → b ≡ length (vertex_lines bs n) →
      a + b ≡ length (listing n N raises bs)
  whole_counted a b e g = omega (arith, whole)

  pub whole_room : (out : List ℕ) → length (listing n N raises bs) ≤ length out →
      length (head_of n (to_z w64 (of_z w64 N)) raises) + length (vertex_lines bs n) ≤ length out
  whole_room out h = omega (arith, whole)

  pub whole_wrote : (old mid ys : List ℕ) (a b : ℕ) → Wrote (head_of n (to_z w64 (of_z w64 N)) raises) old mid a
      → Wrote (vertex_lines bs n) (rest_of a mid) ys b → Wrote (listing n N raises bs) old (put_rest a mid ys) (a + b)
  whole_wrote old mid ys a b p q =
      rw (listing_is n N raises bs) (wrote_then (head_of n N raises) (vertex_lines bs n) old mid ys a b (rw (to_z-of_z f) at p) q)

  module _ (old : List ℕ) (k : ℕ) (e : k ≡ length (listing n (to_z w64 (of_z w64 N)) raises bs)) where
    count : k ≡ length (listing n N raises bs)
    count = rw (to_z-of_z f) at e

    pub short : length old < k → Listing (listing n N raises bs) old old None
    short h = let no = lt-ltb (length old) (length (listing n N raises bs)) (omega (arith, count)) in record { answer = rw no; buffer = rw no }

    pub written : (out : List ℕ) (r : ℕ) → k ≤ length old → Wrote (listing n (to_z w64 (of_z w64 N)) raises bs) old out r →
        Listing (listing n N raises bs) old out (Some r)
    written out r h p =
        let w : Wrote (listing n N raises bs) old out r = rw (to_z-of_z f) at p in
        let yes = le-ltb (length old) (length (listing n N raises bs)) (omega (arith, count)) in
        record { answer = rw yes (ap Some w.count); buffer = rw yes w.puts.bytes }
