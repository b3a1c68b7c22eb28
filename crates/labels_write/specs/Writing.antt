-- The labels written from scratch, triangle by triangle. Assumes nothing.
use Prim.Native.Nat.{zero, suc}
use borrow.Rule.Slice.PartMut.{put_mid}
use Rattle.std.specs.Prelude.{ℕ, [], ◌∷◌, ◌+◌, ◌-◌, ◌*◌, ◌/◌, ◌%◌, ◌≤◌, ◌<◌, ◌≡◌, refl, List, length, get_or, set}
use Rattle.std.proofs.Common.{sym, ap, ◌∙◌, get_or-set_same}
use native.Mathlib.Omega.{arith}
use Rattle.std.proofs.Math.Decide.{ℕ_discrete, dec_lt}
use Rattle.std.proofs.Math.ListN.{length-set}
use Rattle.std.proofs.Math.Seq.{get_or-set_other}
use Rattle.definitions.specs.Mesh.{tri}
use Rattle.scratch_tables.specs.Tables.{dart_in}
use Rattle.labels_tables.specs.Peeling.{Peeling}
use Rattle.labels_tables.specs.LabelledTables.{label_in, inner-label}

-- the label of corner i of a triangle of which corner k has label 2
unfoldable pub label_of_corner : ℕ → ℕ → ℕ
label_of_corner k i = (i + 5 - k) % 3

-- triangle t + 1 has its word in scratch of this many words, and a corner with label 2
pub record Readable (p : Peeling) (words t : ℕ) : Type 0 where
  pub room : dart_in words (3 * (t + 1))
  pub small : t + 1 < 65536
  pub corner : p.apex (t + 1) < 3

-- the labels of triangle t + 1 stored from 3 t on
unfoldable pub with_triangle : ℕ → ℕ → List ℕ → List ℕ
with_triangle k t ls = set (set (set ls (3 * t) (label_of_corner k 0)) (3 * t + 1) (label_of_corner k 1)) (3 * t + 2) (label_of_corner k 2)

-- three labels side by side are three stores
pub three_set : (i a b c : ℕ) (ls : List ℕ) → i + 3 ≤ length ls → put_mid i 3 ls (a ∷ b ∷ c ∷ []) ≡ set (set (set ls i a) (suc i) b) (suc (suc i)) c
three_set zero a b c (x ∷ y ∷ z ∷ ls) h = refl
three_set zero a b c [] h = absurd (omega arith)
three_set zero a b c (x ∷ []) h = absurd (omega arith)
three_set zero a b c (x ∷ y ∷ []) h = absurd (omega arith)
three_set (suc i) a b c (x ∷ ls) h = ap (◌∷◌ x) (three_set i a b c ls (omega arith))
three_set (suc i) a b c [] h = absurd (omega arith)

module _ (k t : ℕ) (ls : List ℕ) (room : 3 * t + 3 ≤ length ls) where
  abbrev one : List ℕ
  one = set ls (3 * t) (label_of_corner k 0)

  abbrev two : List ℕ
  two = set one (3 * t + 1) (label_of_corner k 1)

  -- what stands before stays, and these are the three
  triangle_before : (j : ℕ) → j < 3 * t → get_or (with_triangle k t ls) j 0 ≡ get_or ls j 0
  unfolding with_triangle
  triangle_before j h =
      get_or-set_other two (3 * t + 2) j (label_of_corner k 2) 0 (omega arith) ∙ get_or-set_other one (3 * t + 1) j (label_of_corner k 1) 0 (omega arith)
      ∙ get_or-set_other ls (3 * t) j (label_of_corner k 0) 0 (omega arith)

  triangle_at : (i : ℕ) → i < 3 → get_or (with_triangle k t ls) (3 * t + i) 0 ≡ label_of_corner k i
  unfolding with_triangle
  triangle_at i h =
      let l₁ = length-set ls (3 * t) (label_of_corner k 0) in
      let l₂ = length-set one (3 * t + 1) (label_of_corner k 1) in
      elim (ℕ_discrete i 2) [
        | yes e ↦ rw e (get_or-set_same two (3 * t + 2) (label_of_corner k 2) 0 (omega arith))
        | no e ↦
            get_or-set_other two (3 * t + 2) (3 * t + i) (label_of_corner k 2) 0 (omega arith) ∙ elim (ℕ_discrete i 1) [
              | yes f ↦ rw f (get_or-set_same one (3 * t + 1) (label_of_corner k 1) 0 (omega arith))
              | no f ↦
                  let z : i ≡ 0 = omega (arith, e, f) in
                  let q : 3 * t + 0 ≡ 3 * t = omega arith in
                  get_or-set_other one (3 * t + 1) (3 * t + i) (label_of_corner k 1) 0 (omega arith)
                  ∙ rw (z, q) (get_or-set_same ls (3 * t) (label_of_corner k 0) 0 (omega arith))
            ]
      ]

-- ---- the loop: the labels of t triangles are written

abbrev pub Writing : Peeling → List ℕ → ℕ → Type 0
Writing p ls t = (k : ℕ) → k < 3 * t → get_or ls k 0 ≡ label_in p (k + 3)

pub writing_more : (p : Peeling) (ls ls' : List ℕ) (t : ℕ) → 3 * t + 3 ≤ length ls → ls' ≡ with_triangle (p.apex (t + 1)) t ls → Writing p ls t
    → Writing p ls' (t + 1)
unfolding label_of_corner tri
writing_more p ls ls' t room e w k l =
    let a = p.apex (t + 1) in
    rw e (elim (dec_lt k (3 * t)) [
      | yes q ↦ triangle_before a t ls room k q ∙ w k q
      | no q ↦
          let i = k - 3 * t in
          let here : k ≡ 3 * t + i = omega (arith, q) in
          let at : (k + 3) / 3 ≡ t + 1 = omega (arith, q) in
          let corner : (k + 3) % 3 ≡ i = omega (arith, q) in
          ap (λ (j : ℕ). get_or (with_triangle a t ls) j 0) here ∙ triangle_at a t ls room i (omega (arith, q))
          ∙ sym (inner-label p (k + 3) (omega arith) ∙ rw (at, corner))
    ])
