-- What scratch holds after the mesh check and the labels stage, and that the labels read from it are the definition's. Assumes nothing.
use Rattle.std.specs.Prelude.{ℕ, zero, suc, ◌+◌, ◌*◌, ◌/◌, ◌%◌, ◌<◌, ◌≡◌, refl, List, [], ◌∷◌, length, get_or, ℤ, Result, Ok, Err}
use Rattle.std.proofs.Common.{sym, ◌∙◌, arith, ext_get_or}
use Rattle.std.proofs.Math.Option.{none, some}
use Rattle.std.proofs.Math.Numerals.{add-three}
use Rattle.definitions.specs.Mesh.{labels_length, fronted, org, opp}
use Rattle.definitions.specs.Answers.{first_refusal}
use Rattle.definitions.specs.Labels.{labels, label}
use Rattle.theory_sphere.specs.Sphere.{Sphere}
use Rattle.theory_sphere.specs.Accept.{accepted_sphere}
use Rattle.theory_sphere.specs.FirstRefusal.{rim_rows}
use Rattle.theory_peeling.specs.Labelled.{labels_exact}
use Rattle.mesh_tables.specs.Incidence.{incidence_of, incidence}
use Rattle.labels_tables.specs.Peeling.{peeling_of, peeling}
use Rattle.labels_tables.specs.LabelledTables.{Peeled, label_in, label_in_is}
use Rattle.labels_write.specs.Writing.{Readable}
use Rattle.mesh_answer.specs.Answer.{to_refusal}
use Rattle.mesh_answer.specs.declared.Refusal.{Refusal}
use Rattle.mesh_check.specs.Stages.{Lent, mesh-lent, Examined, AcceptingRim, accepted_none, accepting_mesh}
use Rattle.labels_model.specs.Counters.{Meshed}
use Rattle.labels_model.specs.Model.{peel_tables}
use Rattle.labels_model.specs.Preconditions.{Room, HasMesh, has_mesh}
use Rattle.labels_model.proofs.Result.{peeled_tables}

-- no row has found anything, and scratch holds the labels of the mesh and the trace of its peeling
pub record LabelledRim (n outer_place : ℕ) (ts : List ℕ) (s : List ℤ) : Type 0 where
  pub rows : first_refusal (rim_rows n outer_place ts) ≡ none
  pub peeled : Peeled n (fronted outer_place ts) (labels n (fronted outer_place ts)) s

-- what the answer says: so it is, or a row has found something
abbrev pub Labelling : ℕ → ℕ → List ℕ → List ℤ → Result (Unit {0}) Refusal → Type 0
Labelling n outer_place ts s (Ok x) = LabelledRim n outer_place ts s
Labelling n outer_place ts s (Err why) = first_refusal (rim_rows n outer_place ts) ≡ some (to_refusal why)

-- ---- an answer taken apart

module _ (n outer_place : ℕ) (ts : List ℕ) where
  pub labelling_refused : (s : List ℤ) (r : Result (Unit {0}) Refusal) (why : Refusal) → r ≡ Err why → Examined n outer_place ts s r
      → Labelling n outer_place ts s r
  labelling_refused s r why e S = let p : Examined n outer_place ts s (Err why) = rw e at S in rw e p

  -- what the stage asks, and what it leaves, where the mesh check has accepted
  module _ (words : ℕ) (L : Lent n ts words) (s : List ℤ) (a : Result (Unit {0}) Refusal) (e : a ≡ Ok tt) (S : Examined n outer_place ts s a) where
    abbrev mesh : List ℕ
    mesh = fronted outer_place ts

    accepting : AcceptingRim n outer_place ts (incidence s)
    accepting = rw e at S

    M : Lent n mesh words
    M = mesh-lent record { there = accepting.there; lent = L }

    sphere : Sphere n (length mesh / 3) (org mesh) (opp mesh)
    sphere = accepted_sphere n mesh (accepting_mesh L accepting)

    -- the darts' words are read as the mesh check has left them
    meshed : Meshed mesh (peeling s)
    unfolding incidence_of peeling_of
    meshed = record { turns = accepting.mesh.turns; origins = accepting.mesh.origins }

    pub can_peel : (m : ℕ) → m ≡ words → Room n m × HasMesh n (peeling s)
    can_peel m f = (rw f record { least = M.least; most = M.most; room = M.room }, has_mesh n mesh (peeling s) sphere M.triangles meshed)

    pub peels : (s' : List ℤ) → length s' ≡ words → peeling s' ≡ peel_tables n (peeling s) → LabelledRim n outer_place ts s'
    peels s' l f = record {
      rows = accepted_none accepting;
      peeled = peeled_tables n mesh sphere M.triangles M.most (peeling s) meshed s' (rw l M.room) f;
    }

  pub labelled_refused : (s : List ℤ) (a : Result (Unit {0}) Refusal) (why : Refusal) → a ≡ Err why → Labelling n outer_place ts s a →
      first_refusal (rim_rows n outer_place ts) ≡ some (to_refusal why)
  labelled_refused s a why e S = rw e at S

  pub labelled_accepted : (s : List ℤ) (a : Result (Unit {0}) Refusal) → a ≡ Ok tt → Labelling n outer_place ts s a → LabelledRim n outer_place ts s
  labelled_accepted s a e S = rw e at S

-- ---- the labels, read from scratch

same_default : (xs : List ℕ) (k a b : ℕ) → k < length xs → get_or xs k a ≡ get_or xs k b
same_default [] k a b h = absurd (omega arith)
same_default (x ∷ xs) zero a b h = refl
same_default (x ∷ xs) (suc k) a b h = same_default xs k a b (omega arith)

module _ (n : ℕ) (ts : List ℕ) (s : List ℤ) (P : Peeled n ts (labels n ts) s) where
  long : length (labels n ts) ≡ labels_length n
  long = labels_exact n ts P.labelled.sphere P.labelled.size

  past_outer : (ls : List ℕ) (k : ℕ) → label ls (k + 3) ≡ get_or ls k 3
  unfolding label
  past_outer ls k = rw (add-three k)

  -- corner k + 3 has the k-th label
  read : (k : ℕ) → k < labels_length n → label_in (peeling s) (k + 3) ≡ get_or (labels n ts) k 0
  read k h =
      label_in_is P.labelled (k + 3) (omega (arith, P.labelled.size)) ∙ past_outer (labels n ts) k
      ∙ same_default (labels n ts) k 3 0 (omega (arith, long))

  -- each inner triangle has its word
  pub can_write : (ls : List ℕ) → length ls ≡ labels_length n
      → (length ls % 3 ≡ 0) × ((t : ℕ) → 3 * t < length ls → Readable (peeling s) (length s) t)
  can_write ls e = (
    omega arith,
    λ t h. record {
      room = omega (arith, P.labelled.room);
      small = omega (arith, P.labelled.most);
      corner = P.labelled.apexes (t + 1) (omega arith) (omega (arith, P.labelled.size));
    },
  )

  pub written : (ls : List ℕ) → length ls ≡ labels_length n → ((k : ℕ) → k < length ls → get_or ls k 0 ≡ label_in (peeling s) (k + 3)) →
      ls ≡ labels n ts
  written ls e f = ext_get_or 0 ls (labels n ts) (e ∙ sym long) (λ k h. f k h ∙ read k (omega (arith, e)))
