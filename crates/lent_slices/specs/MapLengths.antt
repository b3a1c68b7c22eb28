-- The lengths of the slices that the maps and repair are lent: weights and coordinates besides the triangles and the scratch, in either order. Assumes
-- nothing.
use Rattle.std.specs.Prelude.{ℕ, ◌≤◌, ◌≡◌, refl, false, List, [], ◌∷◌, length, ℤ}
use Rattle.std.proofs.Common.{sym, ◌∙◌, inl, inr}
use Rattle.definitions.specs.Lists.{any}
use Rattle.definitions.specs.Mesh.{triangles_length, weights_length, coordinates_length, scratch_length}
use Rattle.definitions.specs.Refusals.{row2, Slice, slice, most_vertices}
use Rattle.laws.specs.Lists.{clash, tested, unfalse}
use Rattle.theory_sphere.specs.FirstRefusal.{row2-cons}
use Rattle.theory_sphere.specs.Accept.{range-row1, row1-range}
use Rattle.lent_slices.specs.Lengths.{first_rows, none_found}
use Rattle.lent_slices.specs.Calls.{Fits}

-- how long everything is
pub record Lengths (n t s w b : ℕ) : Type 0 where
  pub least : 3 ≤ n
  pub most : n ≤ 4096
  pub triangles : t ≡ triangles_length n
  pub scratch : s ≡ scratch_length n
  pub weights : w ≡ weights_length n
  pub coordinates : b ≡ coordinates_length n

no_slice : row2 [] ≡ false
unfolding row2 any
no_slice = refl

module _ (n t s w b : ℕ) where
  abbrev pub forward_slices : List Slice
  forward_slices = slice t (triangles_length n) ∷ slice s (scratch_length n) ∷ slice w (weights_length n) ∷ slice b (coordinates_length n) ∷ []

  abbrev pub backward_slices : List Slice
  backward_slices = slice t (triangles_length n) ∷ slice s (scratch_length n) ∷ slice b (coordinates_length n) ∷ slice w (weights_length n) ∷ []

  abbrev Long : Type 0
  Long = (t ≡ triangles_length n) × (s ≡ scratch_length n) × (w ≡ weights_length n) × (b ≡ coordinates_length n)

  fore_long : row2 forward_slices ≡ false → Long
  fore_long e =
      let p = (row2-cons t (triangles_length n) _).0 e in
      let q = (row2-cons s (scratch_length n) _).0 p.1 in
      let r = (row2-cons w (weights_length n) _).0 q.1 in
      (p.0, q.0, r.0, ((row2-cons b (coordinates_length n) _).0 r.1).0)

  long_fore : Long → row2 forward_slices ≡ false
  long_fore l =
      (row2-cons t (triangles_length n) _).1 (
        l.0,
        (row2-cons s (scratch_length n) _).1 (
          l.1,
          (row2-cons w (weights_length n) _).1
              (l.2, (row2-cons b (coordinates_length n) []).1 (l.3, no_slice)),
        ),
      )

  back_long : row2 backward_slices ≡ false → Long
  back_long e =
      let p = (row2-cons t (triangles_length n) _).0 e in
      let q = (row2-cons s (scratch_length n) _).0 p.1 in
      let r = (row2-cons b (coordinates_length n) _).0 q.1 in
      (p.0, q.0, ((row2-cons w (weights_length n) _).0 r.1).0, r.0)

  long_back : Long → row2 backward_slices ≡ false
  long_back l =
      (row2-cons t (triangles_length n) _).1 (
        l.0,
        (row2-cons s (scratch_length n) _).1 (
          l.1,
          (row2-cons b (coordinates_length n) _).1
              (l.3, (row2-cons w (weights_length n) []).1 (l.2, no_slice)),
        ),
      )

  -- the order of the two slices does not matter
  same_row : row2 forward_slices ≡ row2 backward_slices
  same_row =
      elim (tested (row2 forward_slices)) [
        | inl e ↦ e ∙ sym (unfalse (row2 backward_slices) (λ f. clash e (long_fore (back_long f))))
        | inr e ↦ e ∙ sym (long_back (fore_long e))
      ]

  pub back-rows : first_rows n forward_slices ≡ first_rows n backward_slices
  unfolding first_rows
  back-rows = rw same_row

  -- where rows 1 and 2 have found nothing, all lengths are right
  pub map_lengths : (r : ℕ) → r ≡ first_rows n forward_slices → r ≡ 0 → Lengths n t s w b
  map_lengths r e z =
      let f = none_found n forward_slices r e z in
      let o = row1-range most_vertices n f.0 in
      let l = fore_long f.1 in
      record { least = o.0; most = o.1; triangles = l.0; scratch = l.1; weights = l.2; coordinates = l.3 }

-- and so they find nothing, in either order of the two slices
module _ (n : ℕ) (ts : List ℕ) (scratch : List ℤ) (w b : ℕ) (L : Lengths n (length ts) (length scratch) w b) where
  pub forward_fits : Fits n ts scratch (slice w (weights_length n) ∷ slice b (coordinates_length n) ∷ [])
  forward_fits = record {
    size = range-row1 most_vertices n L.least L.most;
    lengths = long_fore n (length ts) (length scratch) w b (L.triangles, L.scratch, L.weights, L.coordinates);
  }

  pub backward_fits : Fits n ts scratch (slice b (coordinates_length n) ∷ slice w (weights_length n) ∷ [])
  backward_fits = record {
    size = range-row1 most_vertices n L.least L.most;
    lengths = long_back n (length ts) (length scratch) w b (L.triangles, L.scratch, L.weights, L.coordinates);
  }
