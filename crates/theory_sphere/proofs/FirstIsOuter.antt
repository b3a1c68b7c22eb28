-- The mesh check does not depend on the outer number, where 21 lets that through: it is what it was when the first triangle was the outer one. Assumes nothing.
use Rattle.std.specs.Prelude.{ℕ, ◌-◌, ◌*◌, ◌<◌, ◌≡◌, ℤ, length}
use Rattle.std.proofs.Math.Path.{sym}
use Rattle.std.proofs.Common.{◌∙◌}
use Rattle.std.proofs.Math.Logic.{inl, inr}
use mathlib.Core.List.{List, [], ◌∷◌, ◌++◌}
use Rattle.definitions.specs.Answers.{numbered, Row, row}
use Rattle.definitions.specs.Mesh.{triangles_length, scratch_length, fronted}
use Rattle.definitions.specs.Refusals.{row1, row2, most_vertices, Slice, slice, mesh_rows}
use Rattle.definitions.specs.Refusals.{check_call}
use Rattle.laws.specs.Lists.{tested}
use Rattle.theory_sphere.specs.Fronted.{length-fronted}
use Rattle.theory_sphere.specs.FrontedRows.{rows-fronted}
use Rattle.theory_sphere.specs.FirstRefusal.{row-found, refusal-found, same_behind, same_more, row2-cons, lent}
use Rattle.theory_sphere.specs.FirstIsOuter.{call_refusal_before, check_call_before, as_fronted}

module _ (n p : ℕ) (ts : List ℕ) (there : p < 2 * n - 4) where
  found_anywhere : (scratch : List ℤ) (slices : List Slice) (own : List Row) →
      call_refusal_before n (fronted p ts) scratch slices own ≡ call_refusal_before n ts scratch slices own
  unfolding call_refusal_before
  found_anywhere scratch slices own =
      let one = row 1 (λ _. row1 most_vertices n) in
      let two = row 2 (λ _. row2 (lent n ts scratch slices)) in
      let theirs = mesh_rows n (fronted p ts) ++ own in
      let ours = mesh_rows n ts ++ own in
      rw (length-fronted p ts) (same_behind one (two ∷ theirs) (two ∷ ours) (elim (tested (row2 (lent n ts scratch slices))) [
        | inl t ↦
            let stops = row-found 2 (λ _. row2 (lent n ts scratch slices)) t in
            refusal-found two theirs (numbered 2) stops ∙ sym (refusal-found two ours (numbered 2) stops)
        | inr t ↦
            let e = ((row2-cons (length ts) (triangles_length n) (slice (length scratch) (scratch_length n) ∷ slices)).0 t).0 in
            same_behind two theirs ours (same_more (mesh_rows n (fronted p ts)) (mesh_rows n ts) own (rows-fronted n p ts there e))
      ]))

  -- It does not depend on the outer number, where 21 lets that through.
  pub check_anywhere : (scratch : List ℤ) → check_call n p ts scratch ≡ check_call_before n ts scratch
  unfolding check_call_before
  check_anywhere scratch = (as_fronted n p ts there).check scratch ∙ rw (found_anywhere scratch [] [])
