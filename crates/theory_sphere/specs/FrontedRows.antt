-- C-12: whichever triangle stands in front, a mesh is refused alike and with the same vertex, and accepted alike. Assumes nothing.
use Rattle.std.specs.Prelude.{ℕ, ◌+◌, ◌-◌, ◌*◌, ◌≤◌, ◌<◌, ◌≡◌, refl, ◌⊎◌, true, false, cond, List, [], ◌∷◌, ltb, length}
use Rattle.std.proofs.Common.{sym, ◌∙◌, inl, inr, arith, lt-ltb, le-ltb}
use Rattle.std.proofs.Math.Option.{some}
use Rattle.std.proofs.Math.Decide.{dec_lt}
use Rattle.definitions.specs.Answers.{vertex_pinched, first_refusal}
use Rattle.definitions.specs.Mesh.{triangles_length, fronted, next, row5, row6, row7or25, row8}
use Rattle.definitions.specs.Refusals.{mesh_rows, Accepted}
use Rattle.theory_sphere.specs.Fronted.{listed, listed-outer, listed-moved, listed_kept, length-fronted, org-fronted}
use Rattle.theory_sphere.specs.Renumbered.{Renumbered, refusal-renumbered}

-- ---- the mesh with the triangle at place p in front has the same triangles

-- dart d of that mesh is dart e of the list as lent: one of the outer triangle, of one that it has passed, or of one behind it
abbrev Stands : ℕ → ℕ → ℕ → Type 0
Stands p d e = ((d < 3) × (e ≡ 3 * p + d)) ⊎ ((3 ≤ d) × (d < 3 * p + 3) × (e + 3 ≡ d)) ⊎ ((3 * p + 3 ≤ d) × (e ≡ d))

-- where dart e of the list as lent stands in that mesh
unfoldable moved : ℕ → ℕ → ℕ
moved p e = cond (ltb e (3 * p)) (e + 3) (cond (ltb e (3 * p + 3)) (e - 3 * p) e)

-- `listed` and `moved` give these darts, and no others
stands_listed : (p d : ℕ) → Stands p d (listed p d)
stands_listed p d =
    elim (dec_lt d 3) [
      | yes h ↦ inl (h, listed-outer p d h)
      | no h ↦ elim (dec_lt d (3 * p + 3)) [
        | yes l ↦ let m : 3 ≤ d = omega arith in inr (inl (m, l, omega (arith, listed-moved p d m l)))
        | no l ↦ let m : 3 * p + 3 ≤ d = omega arith in inr (inr (m, listed_kept p d m))
      ]
    ]

listed_stands : (p d e : ℕ) → Stands p d e → listed p d ≡ e
listed_stands p d e (inl (h, q)) = listed-outer p d h ∙ sym q
listed_stands p d e (inr (inl (h, l, q))) = listed-moved p d h l ∙ omega arith
listed_stands p d e (inr (inr (h, q))) = listed_kept p d h ∙ sym q

stands_moved : (p e : ℕ) → Stands p (moved p e) e
unfolding moved
stands_moved p e =
    elim (dec_lt e (3 * p)) [
      | yes h ↦ rw (lt-ltb e (3 * p) h) (inr (inl (omega arith)))
      | no h ↦
          let m : 3 * p ≤ e = omega arith in
          elim (dec_lt e (3 * p + 3)) [
            | yes l ↦ rw (le-ltb e (3 * p) m, lt-ltb e (3 * p + 3) l) (inl (omega arith))
            | no l ↦ let k : 3 * p + 3 ≤ e = omega arith in rw (le-ltb e (3 * p) m, le-ltb e (3 * p + 3) k) (inr (inr (omega arith)))
          ]
    ]

moved_stands : (p d e : ℕ) → Stands p d e → moved p e ≡ d
unfolding moved
moved_stands p d e (inl (h, q)) =
    let a : 3 * p ≤ e = omega arith in
    let b : e < 3 * p + 3 = omega arith in
    rw (le-ltb e (3 * p) a, lt-ltb e (3 * p + 3) b) (omega arith)
moved_stands p d e (inr (inl (h, l, q))) = let a : e < 3 * p = omega arith in rw (lt-ltb e (3 * p) a) (omega arith)
moved_stands p d e (inr (inr (h, q))) =
    let a : 3 * p ≤ e = omega arith in
    let b : 3 * p + 3 ≤ e = omega arith in
    rw (le-ltb e (3 * p) a, le-ltb e (3 * p + 3) b) q

stands_next : (p d e : ℕ) → Stands p d e → Stands p (next d) (next e)
unfolding next
stands_next p d e (inl (h, q)) = inl (omega arith)
stands_next p d e (inr (inl (h, l, q))) = inr (inl (omega arith))
stands_next p d e (inr (inr (h, q))) = inr (inr (omega arith))

-- both are darts of T triangles, where the outer one is one of them
stands_below : (p T d e : ℕ) → p < T → Stands p d e → (d < 3 * T → e < 3 * T) × (e < 3 * T → d < 3 * T)
stands_below p T d e there (inl (h, q)) = omega arith
stands_below p T d e there (inr (inl (h, l, q))) = omega arith
stands_below p T d e there (inr (inr (h, q))) = omega arith

pub renumbered-fronted : (p T : ℕ) (ts : List ℕ) → length ts ≡ 3 * T → p < T → Renumbered T ts (fronted p ts)
renumbered-fronted p T ts whole there =
    let reaches : 3 * p + 3 ≤ length ts = omega arith in
    record {
      whole = whole;
      whole' = length-fronted p ts ∙ whole;
      to = listed p;
      from = moved p;
      to_below = λ d h. (stands_below p T d (listed p d) there (stands_listed p d)).0 h;
      from_below = λ e h. (stands_below p T (moved p e) e there (stands_moved p e)).1 h;
      to_from = λ e h. listed_stands p (moved p e) e (stands_moved p e);
      from_to = λ d h. moved_stands p d (listed p d) (stands_listed p d);
      to_next = λ d h. listed_stands p (next d) (next (listed p d)) (stands_next p d (listed p d) (stands_listed p d));
      origin = λ d h. org-fronted p ts reaches d;
    }

-- ---- so it is refused alike

module _ (n p : ℕ) (ts : List ℕ) (there : p < 2 * n - 4) where
  pub rows-fronted : length ts ≡ triangles_length n → first_refusal (mesh_rows n (fronted p ts)) ≡ first_refusal (mesh_rows n ts)
  rows-fronted e = refusal-renumbered (renumbered-fronted p (2 * n - 4) ts e there) n

  -- and accepted alike
  pub accepted_fronted : Accepted n ts → Accepted n (fronted p ts)
  accepted_fronted (small, e, clean) = (small, length-fronted p ts ∙ e, rows-fronted e ∙ clean)

  pub fronted_accepted : Accepted n (fronted p ts) → Accepted n ts
  fronted_accepted (small, e, clean) = let size = sym (length-fronted p ts) ∙ e in (small, size, sym (rows-fronted size) ∙ clean)

-- ---- The order of the rows is needed: where sides do not come in opposite pairs, 7 and 8 alone depend on the triangle in front.

-- Two triangles share one side, from 0 to 2; row 6 finds the other sides. A rotation at 0 leads from the first triangle to the second and none leads back, and
-- at 2 it is the other way round.
unfoldable pub open_ring : List ℕ
open_ring = 0 ∷ 1 ∷ 2 ∷ 0 ∷ 2 ∷ 3 ∷ []

pub row7_alone : (row6 open_ring ≡ true) × (row7or25 open_ring 4 ≡ some (vertex_pinched 2)) × (row7or25 (fronted 1 open_ring) 4 ≡ some (vertex_pinched 0))
unfolding open_ring fronted row6 row7or25
row7_alone = (refl, refl, refl)

-- Row 5 finds the side from 0 to 1 in the first triangle and in the second. Across it both lead to the third, which leads back to the first only; and of these
-- three only the second is joined to the fourth.
unfoldable pub double_side : List ℕ
double_side = 0 ∷ 1 ∷ 2 ∷ 0 ∷ 1 ∷ 3 ∷ 0 ∷ 2 ∷ 1 ∷ 0 ∷ 3 ∷ 4 ∷ []

pub row8_alone : (row5 double_side ≡ true) × (row8 double_side ≡ false) × (row8 (fronted 3 double_side) ≡ true)
unfolding double_side fronted row5 row8
row8_alone = (refl, refl, refl)
