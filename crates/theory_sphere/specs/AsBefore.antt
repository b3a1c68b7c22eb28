-- Row 7, and what a mesh was refused with, as they stood before C-15. Definitions only; that acceptance does not move is in proofs/AsBefore.
use Rattle.std.specs.Prelude.{ℕ, Bool, List, [], ◌∷◌}
use Rattle.std.proofs.Math.Bool.{not}
use Rattle.std.proofs.Math.Option.{Option, none, some}
use Rattle.definitions.specs.Lists.{upto, any}
use Rattle.definitions.specs.Answers.{Refusal, numbered, vertex_pinched, vertex_stray, stopped_after, share_outside, line_broken, Row, row}
use Rattle.definitions.specs.Mesh.{outgoing, ring, row3, row4, row5, row6, row8}

-- not one ring at a vertex, whether it has triangles or not
unfoldable pub row7_before : List ℕ → ℕ → Bool
row7_before ts n = any (λ v. not (ring ts (outgoing ts v))) (upto n)

unfoldable pub mesh_rows_before : ℕ → List ℕ → List Row
mesh_rows_before n ts =
    row 3 (λ _. row3 ts n) ∷ row 4 (λ _. row4 ts) ∷ row 5 (λ _. row5 ts) ∷ row 6 (λ _. row6 ts) ∷ row 7 (λ _. row7_before ts n)
    ∷ row 8 (λ _. row8 ts) ∷ []

-- what was answered then: 7 in place of 25, and no vertex
abbrev pub answered_before : Refusal → Refusal
answered_before (vertex_pinched v) = numbered 7
answered_before (vertex_stray v) = numbered 7
answered_before (numbered k) = numbered k
answered_before (stopped_after count) = stopped_after count
answered_before (share_outside share) = share_outside share
answered_before (line_broken line) = line_broken line

abbrev pub found_before : Option Refusal → Option Refusal
found_before none = none
found_before (some why) = some (answered_before why)
