-- Rows 1 and 2 as the code asks them: the number of vertices, and the lengths that slices have beside those that are wanted. Assumes nothing.
use Prim.Native.Nat.{ℕ, suc, ◌+◌, ◌≤◌, ◌<◌}
use Rattle.std.specs.Prelude.{◌≡◌, refl, ◌≢◌, true, false, cond, List, [], ◌∷◌, ltb, length, get_or, drop, Result, Ok, Err}
use Rattle.std.proofs.Common.{sym, ◌∙◌, inl, inr, drop_of_length-le, drop-cons}
use native.Mathlib.Omega.{arith}
use borrow.Author.Tests.{lt-ltb, le-ltb, eq-eqb, ne_eqb}
use Rattle.definitions.specs.Lists.{any}
use Rattle.definitions.specs.Refusals.{most_vertices, row1, Slice, slice, wrong_length, row2}
use Rattle.definitions.specs.Mesh.{triangles_length, labels_length, weights_length, coordinates_length, scratch_length, points_length}
use Rattle.laws.specs.Lists.{tested}
use Rattle.theory_sphere.specs.Accept.{row1-range}
use Rattle.lent_slices.specs.declared.SizeRefusal.{SizeRefusal}
use Rattle.lent_slices.specs.declared.SizeRefusal.TheVariants.{VertexCount, SliceLength}
use Rattle.lent_slices.specs.declared.Contents.{Contents}
use Rattle.lent_slices.specs.declared.Contents.TheVariants.{Triangles, Labels, Weights, Coordinates, Scratch, Points}

-- what row 1 lets through
pub record InSize (n : ℕ) : Type 0 where
  pub least : 3 ≤ n
  pub most : n ≤ 4096

pub in_size : (n : ℕ) (r : _) → r ≡ row1 most_vertices n → r ≡ false → InSize n
in_size n r e f = let b = row1-range most_vertices n (sym e ∙ f) in record { least = b.0; most = b.1 }

pub size_few : (n : ℕ) → n < 3 → true ≡ row1 most_vertices n
unfolding row1
size_few n h = rw (lt-ltb n 3 h)

pub size-rest : (n : ℕ) → 3 ≤ n → ltb most_vertices n ≡ row1 most_vertices n
unfolding row1
size-rest n h = rw (le-ltb n 3 h)

-- the length that document 01 fixes for what a slice holds
abbrev pub length_of : Contents → ℕ → ℕ
length_of Triangles n = triangles_length n
length_of Labels n = labels_length n
length_of Weights n = weights_length n
length_of Coordinates n = coordinates_length n
length_of Scratch n = scratch_length n
length_of Points n = points_length n

-- slices by what they hold and how long they are, as row 2 has them
abbrev pub slices_of : ℕ → List (Contents × ℕ) → List Slice
slices_of n [] = []
slices_of n (x ∷ xs) = slice x.1 (length_of x.0 n) ∷ slices_of n xs

-- the number of the row that an answer tells of, or 0
abbrev pub row_in : Result (Unit {0}) SizeRefusal → ℕ
row_in (Ok x) = 0
row_in (Err VertexCount) = 1
row_in (Err SliceLength) = 2

-- the number of the first of rows 1 and 2 that finds something, or 0
unfoldable pub first_rows : ℕ → List Slice → ℕ
unfolding row1 row2
first_rows n slices = cond (row1 most_vertices n) 1 (cond (row2 slices) 2 0)

module _ (n : ℕ) (slices : List Slice) where
  pub first-1 : row1 most_vertices n ≡ true → 1 ≡ first_rows n slices
  unfolding first_rows
  first-1 e = rw e

  pub first-2 : row1 most_vertices n ≡ false → row2 slices ≡ true → 2 ≡ first_rows n slices
  unfolding first_rows
  first-2 e f = rw (e, f)

  pub first-0 : row1 most_vertices n ≡ false → row2 slices ≡ false → 0 ≡ first_rows n slices
  unfolding first_rows
  first-0 e f = rw (e, f)

  -- and back
  pub none_found : (r : ℕ) → r ≡ first_rows n slices → r ≡ 0 → (row1 most_vertices n ≡ false) × (row2 slices ≡ false)
  none_found r e z =
      elim (tested (row1 most_vertices n)) [
        | inl f ↦ absurd (omega (arith, first-1 f))
        | inr f ↦ elim (tested (row2 slices)) [ inl g ↦ absurd (omega (arith, first-2 f g)) | inr g ↦ (f, g) ]
      ]

-- ---- the loop of row 2: the lengths before i are right

pub record Comparing (n : ℕ) (xs : List (Contents × ℕ)) (i : ℕ) : Type 0 where
  pub size : row1 most_vertices n ≡ false
  pub within : i ≤ length xs
  pub rest : row2 (slices_of n (drop i xs)) ≡ row2 (slices_of n xs)

pub comparing_none : (n : ℕ) (xs : List (Contents × ℕ)) → row1 most_vertices n ≡ false → Comparing n xs 0
comparing_none n xs e = record { size = e; within = omega arith; rest = refl }

module _ (n : ℕ) (xs : List (Contents × ℕ)) (i : ℕ) (h : i < length xs) (C : Comparing n xs i) where
  split : row2 (slices_of n xs) ≡ row2 (slice (get_or xs i (Triangles, 0)).1 (length_of (get_or xs i (Triangles, 0)).0 n) ∷ slices_of n (drop (suc i) xs))
  split = sym C.rest ∙ rw (drop-cons xs i (Triangles, 0) h)

  pub comparing_found : (m : ℕ) → m ≡ length_of (get_or xs i (Triangles, 0)).0 n → (get_or xs i (Triangles, 0)).1 ≢ m → 2 ≡ first_rows n (slices_of n xs)
  unfolding row2 any wrong_length
  comparing_found m e f = first-2 n (slices_of n xs) C.size (rw (split, ne_eqb (get_or xs i (Triangles, 0)).1 _ (λ z. f (z ∙ sym e))))

  pub comparing_next : (m : ℕ) → m ≡ length_of (get_or xs i (Triangles, 0)).0 n → (get_or xs i (Triangles, 0)).1 ≡ m → Comparing n xs (i + 1)
  unfolding row2 any wrong_length
  comparing_next m e f =
      let z : i + 1 ≡ suc i = omega arith in
      record { size = C.size; within = omega arith; rest = rw (z, split, eq-eqb (get_or xs i (Triangles, 0)).1 _ (f ∙ e)) }

pub comparing_end : (n : ℕ) (xs : List (Contents × ℕ)) (i : ℕ) → length xs ≤ i → Comparing n xs i → 0 ≡ first_rows n (slices_of n xs)
unfolding row2 any
comparing_end n xs i h C = first-0 n (slices_of n xs) C.size (sym (rw (drop_of_length-le xs h) at C.rest))
