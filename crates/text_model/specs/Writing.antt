-- Bytes put at the front of a buffer, part after part, and the lengths of lines and of the listing. Assumes nothing.
use Rattle.std.specs.Prelude.{ℕ, zero, suc, ◌+◌, ◌-◌, ◌*◌, ◌≤◌, ◌<◌, ◌≡◌, refl, Bool, true, false, ◌||◌, ltb, length, get_or, take, drop, set, ℤ, pos, nat_abs}
use Rattle.std.proofs.Common.{sym, ap, ◌∙◌, true≢false, arith, length-append, length-drop, drop_of_length-le, take_all, take-suc, take_at, drop_at, drop-drop, drop-cons, length-take-le, ltb-false}
use mathlib.Core.List.{List, [], ◌∷◌, ◌++◌, flat_map, append_assoc, append-nil}
use Rattle.std.proofs.lemmas.List.{set_at}
use Rattle.definitions.specs.Lists.{range, upto, any}
use Rattle.definitions.specs.Backward.{coordinate}
use Rattle.definitions.specs.Refusals.{row10}
use Rattle.definitions.specs.Job.{LF, TAB, bytes, pack_map, decimal, write_line, listing}
use Rattle.text_model.specs.Numbers.{decimal-length, decimal_short}

-- ---- a buffer with bytes at its front

-- `after` is `before` with w at its front; bytes past w keep what they held
pub record Puts (w before after : List ℕ) : Type 0 where
  pub bytes : after ≡ w ++ drop (length w) before

pub puts_none : (before : List ℕ) → Puts [] before before
puts_none before = record { bytes = refl }

-- the part from a on, and the list with other bytes in its place, as a loan of `&mut out[a..]` has them
abbrev pub rest_of : ℕ → List ℕ → List ℕ
rest_of a out = take (length out - a) (drop a out)

abbrev pub put_rest : ℕ → List ℕ → List ℕ → List ℕ
put_rest a out ys = take a out ++ (ys ++ drop (length out - a) (drop a out))

pub rest_is : (a : ℕ) (out : List ℕ) → rest_of a out ≡ drop a out
rest_is a out = take_all (length out - a) (drop a out) (omega (arith, length-drop a out))

past_rest : (a : ℕ) (out : List ℕ) → drop (length out - a) (drop a out) ≡ []
past_rest a out = drop_of_length-le (drop a out) {i = length out - a} (omega (arith, length-drop a out))

-- v at the front, and w after it
pub puts_then : (v w before mid ys : List ℕ) (a : ℕ) → Puts v before mid → a ≡ length v → Puts w (rest_of a mid) ys →
    Puts (v ++ w) before (put_rest a mid ys)
puts_then v w before mid ys a p e q =
    let m : take a mid ≡ v = ap (λ (l : List ℕ). take a l) p.bytes ∙ take_at v (drop (length v) before) a (sym e) in
    let d : drop a mid ≡ drop (length v) before = ap (λ (l : List ℕ). drop a l) p.bytes ∙ drop_at v (drop (length v) before) a (sym e) in
    let y : ys ≡ w ++ drop (length w) (drop (length v) before) = q.bytes ∙ rw (rest_is a mid, d) in
    record {
      bytes =
          rw (
            past_rest a mid,
            append-nil ys,
            m,
            y,
            drop-drop (length w) (length v) before,
            length-append v w,
          ) (sym (append_assoc v w (drop (length v + length w) before)));
    }

-- one byte
pub puts_byte : (b : ℕ) (before : List ℕ) → 0 < length before → Puts (b ∷ []) before (set before 0 b)
puts_byte b [] h = absurd (omega arith)
puts_byte b (c ∷ before) h = record { bytes = refl }

-- r bytes, which are w, were put at the front
pub record Wrote (w before after : List ℕ) (r : ℕ) : Type 0 where
  pub count : r ≡ length w
  pub puts : Puts w before after

pub wrote_then : (v w before mid ys : List ℕ) (a b : ℕ) → Wrote v before mid a → Wrote w (rest_of a mid) ys b →
    Wrote (v ++ w) before (put_rest a mid ys) (a + b)
wrote_then v w before mid ys a b p q =
    record {
      count = omega (arith, p.count, q.count, length-append v w);
      puts = puts_then v w before mid ys a p.puts p.count q.puts;
    }

-- after w, the buffer has its length, and so much room less
pub wrote_length : (w before after : List ℕ) (r : ℕ) → Wrote w before after r → length w ≤ length before → length after ≡ length before
wrote_length w before after r p h =
    ap {B = ℕ} length p.puts.bytes ∙ length-append w (drop (length w) before) ∙ rw (length-drop (length w) before) (omega arith)

-- what is left of the buffer after v has room for w
pub rest_room : (v w before mid : List ℕ) (a : ℕ) → Wrote v before mid a → length mid ≡ length before → length (v ++ w) ≤ length before
    → length w ≤ length (rest_of a mid)
rest_room v w before mid a p e h = rw (rest_is a mid) (omega (arith, length-drop a mid, length-append v w, p.count))

pub wrote_none : (before : List ℕ) → Wrote [] before before 0
wrote_none before = record { count = refl; puts = puts_none before }

pub wrote_byte : (b : ℕ) (before : List ℕ) → 0 < length before → Wrote (b ∷ []) before (set before 0 b) 1
wrote_byte b before h = record { count = refl; puts = puts_byte b before h }

-- ---- a list filled from its end on

-- the last place before those that are filled
pub fill-back : (old new : List ℕ) (k b : ℕ) → suc k ≤ length old → suc k ≤ length new → b ≡ get_or new k 0
    → set (take (suc k) old ++ drop (suc k) new) k b ≡ take k old ++ drop k new
fill-back old new k b h l e =
    let t : take (suc k) old ++ drop (suc k) new ≡ take k old ++ (get_or old k 0 ∷ drop (suc k) new) =
    ap (λ (s : List ℕ). s ++ drop (suc k) new) (take-suc old k 0 h) ∙ append_assoc (take k old) (get_or old k 0 ∷ []) (drop (suc k) new) in
    ap (λ (s : List ℕ). set s k b) t
    ∙ set_at (take k old) (get_or old k 0) (drop (suc k) new) b k (length-take-le k old (omega arith))
    ∙ ap (λ (s : List ℕ). take k old ++ s) (ap (λ (x : ℕ). x ∷ drop (suc k) new) e ∙ sym (drop-cons new k 0 l))

-- ---- lengths of lines

-- the bytes of the numbers of a line, each after its tab
unfoldable pub tabbed : List ℤ → List ℕ
unfolding decimal
tabbed [] = []
tabbed (x ∷ xs) = (TAB ∷ decimal x) ++ tabbed xs

pub tabbed_is : (xs : List ℤ) → flat_map (λ x. TAB ∷ decimal x) xs ≡ tabbed xs
unfolding flat_map tabbed
tabbed_is [] = refl
tabbed_is (x ∷ xs) = ap (λ (l : List ℕ). (TAB ∷ decimal x) ++ l) (tabbed_is xs)

pub line_is : (word : List ℕ) (xs : List ℤ) → write_line word xs ≡ word ++ tabbed xs ++ (LF ∷ [])
unfolding write_line
line_is word xs = rw (tabbed_is xs)

pub tabbed-more : (x : ℤ) (xs : List ℤ) → length (tabbed (x ∷ xs)) ≡ suc (length (decimal x)) + length (tabbed xs)
unfolding tabbed
tabbed-more x xs = length-append (TAB ∷ decimal x) (tabbed xs)

pub line_length : (word : List ℕ) (xs : List ℤ) → length (write_line word xs) ≡ length word + length (tabbed xs) + 1
line_length word xs = rw (line_is word xs, length-append (word ++ tabbed xs) (LF ∷ []), length-append word (tabbed xs))

-- ---- the listing

-- the line of vertex i
unfoldable pub vertex_line : List ℤ → ℕ → List ℕ
unfolding write_line coordinate
vertex_line bs i = write_line (bytes "v") (pos i ∷ coordinate bs 0 i ∷ coordinate bs 1 i ∷ coordinate bs 2 i ∷ [])

-- those of the first k vertices
unfoldable pub vertex_lines : List ℤ → ℕ → List ℕ
vertex_lines bs zero = []
vertex_lines bs (suc k) = vertex_lines bs k ++ vertex_line bs k

unfoldable pub head_of : ℕ → ℤ → ℕ → List ℕ
unfolding write_line
head_of n N raises = write_line pack_map (pos n ∷ N ∷ pos raises ∷ [])

run_snoc : (bs : List ℤ) (from k : ℕ) → flat_map (vertex_line bs) (range from (suc k)) ≡ flat_map (vertex_line bs) (range from k)
    ++ vertex_line bs (from + k)
unfolding flat_map range
run_snoc bs from zero =
    let e : from + 0 ≡ from = omega arith in
    rw (e, append-nil (vertex_line bs from))
run_snoc bs from (suc k) =
    let e : suc from + k ≡ from + suc k = omega arith in
    rw (append_assoc (vertex_line bs from) (flat_map (vertex_line bs) (range (suc from) k)) (vertex_line bs (from + suc k)), ← e)
    (ap (λ (l : List ℕ). vertex_line bs from ++ l) (run_snoc bs (suc from) k))

lines_are : (bs : List ℤ) (k : ℕ) → flat_map (vertex_line bs) (upto k) ≡ vertex_lines bs k
unfolding vertex_lines upto flat_map range
lines_are bs zero = refl
lines_are bs (suc k) =
    let e : 0 + k ≡ k = omega arith in
    run_snoc bs 0 k ∙ rw (e, lines_are bs k)

pub listing_is : (n : ℕ) (N : ℤ) (raises : ℕ) (bs : List ℤ) → listing n N raises bs ≡ head_of n N raises ++ vertex_lines bs n
unfolding listing head_of vertex_line
listing_is n N raises bs = ap (λ (l : List ℕ). head_of n N raises ++ l) (lines_are bs n)

-- ---- how long it can be

-- a coordinate whose absolute value is at most 1,073,741,823 has at most 11 bytes, with its sign
field_short : (z : ℤ) → nat_abs z ≤ 1073741823 → length (decimal z) ≤ 11
field_short z h = decimal-length 9 z (omega arith)

head_short : (n : ℕ) (N : ℤ) (raises : ℕ) → n ≤ 999 → nat_abs N ≤ 1073741823 → raises ≤ 999 → length (head_of n N raises) ≤ 29
unfolding head_of tabbed
head_short n N raises hn h_n hr =
    rw (line_length pack_map (pos n ∷ N ∷ pos raises ∷ []))
    (omega (
      arith,
      tabbed-more (pos n) (N ∷ pos raises ∷ []),
      tabbed-more N (pos raises ∷ []),
      tabbed-more (pos raises) [],
      decimal_short 2 n (omega arith),
      field_short N h_n,
      decimal_short 2 raises (omega arith),
    ))

vertex_short : (bs : List ℤ) (i : ℕ) → i ≤ 999 → ((c : ℕ) → nat_abs (coordinate bs c i) ≤ 1073741823) → length (vertex_line bs i) ≤ 42
unfolding vertex_line tabbed
vertex_short bs i hi h =
    rw (line_length (bytes "v") (pos i ∷ coordinate bs 0 i ∷ coordinate bs 1 i ∷ coordinate bs 2 i ∷ []))
    (omega (
      arith,
      tabbed-more (pos i) (coordinate bs 0 i ∷ coordinate bs 1 i ∷ coordinate bs 2 i ∷ []),
      tabbed-more (coordinate bs 0 i) (coordinate bs 1 i ∷ coordinate bs 2 i ∷ []),
      tabbed-more (coordinate bs 1 i) (coordinate bs 2 i ∷ []),
      tabbed-more (coordinate bs 2 i) [],
      decimal_short 2 i (omega arith),
      field_short (coordinate bs 0 i) (h 0),
      field_short (coordinate bs 1 i) (h 1),
      field_short (coordinate bs 2 i) (h 2),
    ))

lines_short : (bs : List ℤ) (k : ℕ) → k ≤ 999 → ((c i : ℕ) → nat_abs (coordinate bs c i) ≤ 1073741823) → length (vertex_lines bs k) ≤ 42 * k
unfolding vertex_lines
lines_short bs zero hk h = omega arith
lines_short bs (suc k) hk h =
    rw (length-append (vertex_lines bs k) (vertex_line bs k))
    (omega (arith, lines_short bs k (omega arith) h, vertex_short bs k (omega arith) (λ c. h c k)))

-- The listing of a mesh on at most 256 vertices, with coordinates and N within the limit and at most 999 raises, has at most 16,384 bytes.
pub listing_short : (n : ℕ) (N : ℤ) (raises : ℕ) (bs : List ℤ) → n ≤ 256 → nat_abs N ≤ 1073741823 → raises ≤ 999
    → ((c i : ℕ) → nat_abs (coordinate bs c i) ≤ 1073741823) → length (listing n N raises bs) ≤ 16384
listing_short n N raises bs hn h_n hr h =
    rw (listing_is n N raises bs, length-append (head_of n N raises) (vertex_lines bs n))
    (omega (arith, head_short n N raises (omega arith) h_n hr, lines_short bs n (omega arith) h))

-- coordinates that row 10 lets through are within the limit, those past the end of the list too
get_or-limit : (bs : List ℤ) (k : ℕ) → row10 bs ≡ false → nat_abs (get_or bs k (pos 0)) ≤ 1073741823
unfolding row10 any
get_or-limit [] k e = omega arith
get_or-limit (b ∷ bs) k e = go k (ltb 1073741823 (nat_abs b)) refl e (λ j f. get_or-limit bs j f)
  where
    go : (k : ℕ) (x : Bool) → ltb 1073741823 (nat_abs b) ≡ x → x || row10 bs ≡ false →
        ((j : ℕ) → row10 bs ≡ false → nat_abs (get_or bs j (pos 0)) ≤ 1073741823)
        → nat_abs (get_or (b ∷ bs) k (pos 0)) ≤ 1073741823
    go k true p q ih = absurd (true≢false q)
    go zero false p q ih = ltb-false 1073741823 (nat_abs b) p
    go (suc k) false p q ih = ih k q

-- So packmap's buffer always has room: 16,384 bytes are enough for every listing of such coordinates.
pub listing_fits : (n : ℕ) (N : ℤ) (raises : ℕ) (bs : List ℤ) → n ≤ 256 → nat_abs N ≤ 1073741823 → raises ≤ 999 → row10 bs ≡ false
    → length (listing n N raises bs) ≤ 16384
unfolding coordinate
listing_fits n N raises bs hn h_n hr e = listing_short n N raises bs hn h_n hr (λ c i. get_or-limit bs (3 * i + c) e)
