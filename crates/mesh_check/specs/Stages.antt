-- The steps of the mesh check put together: what scratch holds after each, and which row it has found. Assumes nothing.
use Rattle.std.specs.Prelude.{ℕ, ◌+◌, ◌-◌, ◌*◌, ◌/◌, ◌≤◌, ◌<◌, ◌≡◌, Bool, true, false, List, ◌∷◌, length, ℤ, Result, Ok, Err}
use Rattle.std.proofs.Common.{sym, ap, ◌∙◌, arith}
use Rattle.std.proofs.Math.Logic.{inl, inr}
use Rattle.std.proofs.Math.Option.{none, some}
use Rattle.std.proofs.Math.Decide.{dec_lt}
use Rattle.std.proofs.Math.ListN.{get_or-eq_default}
use Rattle.definitions.specs.Mesh.{triangles_length, scratch_length, fronted, prev, org, opp, row3, row4, row7or25, row8}
use Rattle.definitions.specs.Answers.{numbered, first_refusal}
use Rattle.definitions.specs.Refusals.{Slice, slice, most_vertices, row21, mesh_rows, Accepted as AcceptedMesh}
use Rattle.theory_sphere.specs.Darts.{prev-below}
use Rattle.theory_sphere.specs.Rows.{row3_means, outgoing_in}
use Rattle.theory_sphere.specs.Sides.{Sides}
use Rattle.theory_sphere.specs.Accept.{row1-range, range-row1}
use Rattle.lent_slices.specs.Calls.{Fits}
use Rattle.laws.specs.Lists.{unfalse}
use Rattle.theory_sphere.specs.Fronted.{length-fronted}
use Rattle.theory_sphere.specs.Renumbered.{same-3}
use Rattle.theory_sphere.specs.FrontedRows.{renumbered-fronted}
use Rattle.theory_sphere.specs.FirstRefusal.{rim_rows, rim-21, rim-mesh, row21_means, row2-cons, clean_refusal, mesh-3, mesh-4, mesh-5, mesh-6, mesh-8}
use Rattle.theory_sphere.specs.VertexRefusals.{Passed, in_order, from_vertex}
use Rattle.scratch_tables.specs.Tables.{VerticesCleared, tables_of}
use Rattle.mesh_tables.specs.Incidence.{Incidence, incidence}
use Rattle.mesh_model.specs.IncidenceLists.{fill, zeros_empty}
use Rattle.mesh_model.specs.RingWalk.{first_broken}
use Rattle.mesh_model.proofs.RingWalk.{first_broken_is}
use Rattle.mesh_model.specs.FloodFill.{Pairs, explore_is}
use Rattle.mesh_rings.specs.RingLoops.{AllRounding}
use Rattle.mesh_sides.specs.Room.{Ready, Filling, filled_ready}
use Rattle.mesh_sides.specs.LoopInvariants.{AllFilled, AllMatched}
use Rattle.mesh_sides.specs.MatchedSides.{Matched, SidesMatched, found-5, found-6, found_refusal, found_none, found_rings}
use Rattle.mesh_connectivity.specs.FloodFillLoops.{Sided, Split}
use Rattle.mesh_answer.specs.Answer.{to_refusal, found_in}
use Rattle.mesh_answer.specs.declared.Refusal.{Refusal}
use Rattle.mesh_answer.specs.declared.Refusal.TheVariants.{RepeatedSide, UnpairedSide}

-- ---- what is lent, and what is left there

-- Rows 1 and 2 have found nothing.
pub record Lent (n : ℕ) (ts : List ℕ) (words : ℕ) : Type 0 where
  pub least : 3 ≤ n
  pub most : n ≤ 4096
  pub triangles : length ts ≡ triangles_length n
  pub room : 10 * n ≤ words

-- which slices a call has besides makes no difference
pub has_lent : (n : ℕ) (ts : List ℕ) (scratch : List ℤ) (slices : List Slice) → Fits n ts scratch slices → Lent n ts (length scratch)
has_lent n ts scratch slices F =
    let b = row1-range most_vertices n F.size in
    let l = (row2-cons (length ts) (triangles_length n) (slice (length scratch) (scratch_length n) ∷ slices)).0 F.lengths in
    record { least = b.0; most = b.1; triangles = l.0; room = omega (arith, ((row2-cons (length scratch) (scratch_length n) slices).0 l.1).0) }

-- rows 3 to 7 and 25 have found nothing
pub record Paired (n : ℕ) (ts : List ℕ) (i : Incidence) : Type 0 where
  pub passed : Passed n ts
  pub rings : row7or25 ts n ≡ none
  pub tables : Matched ts i

-- no row of the mesh has found anything; each dart's turn and origin are there
pub record Accepting (n : ℕ) (ts : List ℕ) (i : Incidence) : Type 0 where
  pub clean : first_refusal (mesh_rows n ts) ≡ none
  pub turns : (d : ℕ) → d < length ts → i.turn d ≡ opp ts (prev d)
  pub origins : (d : ℕ) → d < length ts → i.origin d ≡ org ts d

-- what the answer says of the mesh: of the rows 3 to 7 and 25
abbrev pub SidesPaired : ℕ → List ℕ → List ℤ → Result (Unit {0}) Refusal → Type 0
SidesPaired n ts s (Ok x) = Paired n ts (incidence s)
SidesPaired n ts s (Err why) = first_refusal (mesh_rows n ts) ≡ some (to_refusal why)

-- of the list as lent: 21 has not found anything either
pub record AcceptingRim (n outer_place : ℕ) (ts : List ℕ) (i : Incidence) : Type 0 where
  pub there : outer_place < 2 * n - 4
  pub mesh : Accepting n (fronted outer_place ts) i

-- what the answer says of 21 and of all rows of the mesh
abbrev pub Examined : ℕ → ℕ → List ℕ → List ℤ → Result (Unit {0}) Refusal → Type 0
Examined n outer_place ts s (Ok x) = AcceptingRim n outer_place ts (incidence s)
Examined n outer_place ts s (Err why) = first_refusal (rim_rows n outer_place ts) ≡ some (to_refusal why)

-- ---- room

-- so many numbers make whole triangles
whole : (n : ℕ) (ts : List ℕ) {words : ℕ} → Lent n ts words → (length ts ≡ 3 * (length ts / 3)) × (length ts / 3 ≤ 2 * n)
    × (0 < length ts / 3)
whole n ts L = omega (arith, L.triangles, L.least)

-- where row 3 finds nothing every corner has a vertex, and what stands past the end reads as one
small : (n : ℕ) (ts : List ℕ) → 3 ≤ n → row3 ts n ≡ false → (d : ℕ) → org ts d < n
unfolding org
small n ts h e d =
    elim (dec_lt d (length ts)) [
      | yes l ↦ (row3_means ts n).0 e d l
      | no l ↦ let p : length ts ≤ d = omega arith in rw (get_or-eq_default ts 0 p) (omega arith)
    ]

-- ---- row 3

-- Rows 1, 2 and 21 have found nothing: there is an outer triangle, and the mesh is the list with it in front.
pub record Rimmed (n outer_place : ℕ) (ts : List ℕ) (words : ℕ) : Type 0 where
  pub there : outer_place < 2 * n - 4
  pub lent : Lent n ts words

module _ {n outer_place : ℕ} {ts : List ℕ} {words : ℕ} (R : Rimmed n outer_place ts words) where
  pub in_list : 3 * outer_place + 3 ≤ length ts
  in_list = omega (arith, R.there, R.lent.triangles)

  pub mesh-lent : Lent n (fronted outer_place ts) words
  mesh-lent = record {
    least = R.lent.least;
    most = R.lent.most;
    triangles = length-fronted outer_place ts ∙ R.lent.triangles;
    room = R.lent.room;
  }

  -- row 3 is asked of the list as lent, and finds the same in the mesh
  same3 : row3 (fronted outer_place ts) n ≡ row3 ts n
  same3 = same-3 (renumbered-fronted outer_place (2 * n - 4) ts R.lent.triangles R.there) n

  pub refuse3 : (r : Bool) → r ≡ row3 ts n → r ≡ true → first_refusal (mesh_rows n (fronted outer_place ts)) ≡ some (numbered 3)
  refuse3 r e f = mesh-3 n (fronted outer_place ts) (same3 ∙ sym e ∙ f)

  pass3 : (r : Bool) → r ≡ row3 ts n → r ≡ false → row3 (fronted outer_place ts) n ≡ false
  pass3 r e f = same3 ∙ sym e ∙ f

pub can_fill : (n outer_place : ℕ) (ts : List ℕ) (s s₁ : List ℤ) (r : Bool) → Rimmed n outer_place ts (length s) → r ≡ row3 ts n → r ≡ false →
    length s₁ ≡ length s → VerticesCleared (tables_of s) (tables_of s₁)
    → (3 * outer_place + 3 ≤ length ts) × Filling (fronted outer_place ts) s₁
can_fill n outer_place ts s s₁ r R e f l b =
    let L = mesh-lent R in
    let low : (d : ℕ) → org (fronted outer_place ts) d < n = small n (fronted outer_place ts) L.least (pass3 R r e f) in (
      in_list R,
      record {
        whole = omega (arith, L.triangles);
        few = omega (arith, L.triangles, L.most);
        darts = rw l (omega (arith, L.triangles, L.room));
        vertex = λ d. rw l (omega (arith, low d, L.room));
        empty = zeros_empty (tables_of s₁) (λ v. ap (λ (g : ℕ → ℕ). g v) b.vertices) (λ w. ap (λ (g : ℕ → ℕ). g w) b.marks);
      },
    )

-- ---- row 8, of any list that is a mesh

module _ (n : ℕ) (ts : List ℕ) (words : ℕ) (L : Lent n ts words) (s : List ℤ) (p : Result (Unit {0}) Refusal) (e : p ≡ Ok tt)
    (S : SidesPaired n ts s p) where
  P : Paired n ts (incidence s)
  P = rw e at S

  sides : Sides n (length ts / 3) (org ts) (opp ts)
  sides = in_order n ts (length ts / 3) (whole n ts L).0 P.passed

  pairing : Pairs (length ts / 3) (incidence s).turn (opp ts)
  pairing = record { dart = sides.dart; twice = sides.twice; turns = λ d h. P.tables.turns d (omega (arith, (whole n ts L).0)) }

  can_walk : length s ≡ words → Sided (length ts / 3) (length s) (incidence s).turn
  can_walk l = record {
    some = (whole n ts L).2;
    small = omega (arith, L.triangles, L.most);
    room = rw l (omega (arith, L.triangles, L.room));
    opp = opp ts;
    pairs = pairing;
  }

  module _ (s' : List ℤ) (r : Bool) (D : Split (length ts / 3) s s' r) where
    found8 : r ≡ row8 ts
    found8 = D.found ∙ explore_is ts (incidence s).turn pairing D.flag D.queue (whole n ts L).2 D.zeros

    finds8 : r ≡ true → first_refusal (mesh_rows n ts) ≡ some (numbered 8)
    finds8 t = mesh-8 n ts P.passed.none3 P.passed.none4 P.passed.none5 P.passed.none6 P.rings (sym found8 ∙ t)

    passes8 : r ≡ false → Accepting n ts (incidence s')
    passes8 t = record {
      clean = clean_refusal n ts record {
        clean3 = P.passed.none3;
        clean4 = P.passed.none4;
        clean5 = P.passed.none5;
        clean6 = P.passed.none6;
        clean7 = P.rings;
        clean8 = sym found8 ∙ t;
      };
      turns = λ d h. rw D.turns (P.tables.turns d h);
      origins = λ d h. rw D.origins (P.tables.origins d h);
    }

-- ---- the list as lent, read with its outer triangle in front

module _ (n outer_place : ℕ) (ts : List ℕ) where
  abbrev mesh : List ℕ
  mesh = fronted outer_place ts

  -- ---- rows 5 to 7, and 25

  -- scratch as lent, with the vertices cleared, with the lists filled, and with the sides matched
  module _ (s s₀ s₁ : List ℤ) (R : Rimmed n outer_place ts (length s)) (r3 : Bool) (e3 : r3 ≡ row3 ts n) (f3 : r3 ≡ false)
      (l : length s₀ ≡ length s) (b : VerticesCleared (tables_of s) (tables_of s₀)) (r4 : Bool) (A : AllFilled mesh s₀ s₁ r4) where
    L : Lent n mesh (length s)
    L = mesh-lent R

    none3 : row3 mesh n ≡ false
    none3 = pass3 R r3 e3 f3

    F : Filling mesh s₀
    F = (can_fill n outer_place ts s s₀ r3 R e3 f3 l b).1

    pub refuse4 : r4 ≡ true → first_refusal (mesh_rows n mesh) ≡ some (numbered 4)
    refuse4 e = mesh-4 n mesh none3 (sym A.found ∙ e)

    pub can_match : r4 ≡ false → length s₁ ≡ length s₀ → Ready n s₁
    can_match f4 m =
        filled_ready n (length mesh / 3) mesh s₀ s₁ F (whole n mesh L).0 (whole n mesh L).2 (rw l (omega (arith, L.room))) (omega (arith, L.most)) m
        (A.same f4)

    module _ (f4 : r4 ≡ false) (s₂ : List ℤ) (r : Result Bool Refusal) (M : AllMatched n s₁ s₂ r) where
      none4 : row4 mesh ≡ false
      none4 = sym A.found ∙ f4

      f : incidence s₁ ≡ fill mesh (length mesh) (incidence s₀)
      f = A.same f4

      pub refuse5 : r ≡ Err RepeatedSide → first_refusal (mesh_rows n mesh) ≡ some (numbered 5)
      refuse5 e =
          mesh-5 n mesh none3 none4
          (found-5 n (length mesh / 3) mesh (whole n mesh L).0 (whole n mesh L).2 (small n mesh L.least none3) s₀ s₁ s₂ F f r M e)

      pub refuse6 : r ≡ Err UnpairedSide → first_refusal (mesh_rows n mesh) ≡ some (numbered 6)
      refuse6 e =
          let g = found-6 n (length mesh / 3) mesh (whole n mesh L).0 (whole n mesh L).2 (small n mesh L.least none3) s₀ s₁ s₂ F f r M e in
          mesh-6 n mesh none3 none4 g.0 g.1

      -- whichever of them it is
      pub refuse_sides : (why : Refusal) → r ≡ Err why → first_refusal (mesh_rows n mesh) ≡ some (to_refusal why)
      refuse_sides why e =
          elim (found_refusal n (length mesh / 3) mesh (whole n mesh L).0 (whole n mesh L).2 (small n mesh L.least none3) s₀ s₁ s₂ F f r M why e) [
            | inl q ↦ rw q (refuse5 (rw q at e))
            | inr q ↦ rw q (refuse6 (rw q at e))
          ]

      -- rows 5 and 6 have found nothing
      module _ (rings : Bool) (e : r ≡ Ok rings) where
        matched : SidesMatched mesh (incidence s₂)
        matched = found_none n (length mesh / 3) mesh (whole n mesh L).0 (whole n mesh L).2 (small n mesh L.least none3) s₀ s₁ s₂ F f r M rings e

        passed : Passed n mesh
        passed = record { none3 = none3; none4 = none4; none5 = matched.none5; none6 = matched.none6 }

        the_sides : Sides n (length mesh / 3) (org mesh) (opp mesh)
        the_sides = in_order n mesh (length mesh / 3) (whole n mesh L).0 passed

        rings_are : first_broken (incidence s₂) n 0 ≡ row7or25 mesh n
        rings_are =
            first_broken_is mesh (length mesh / 3) (whole n mesh L).0 n the_sides (incidence s₂) matched.tables.rooted matched.tables.turns

        -- each vertex has one ring
        pub pairs : rings ≡ true → Paired n mesh (incidence s₂)
        pairs t = record {
          passed = passed;
          rings =
              sym rings_are
              ∙ found_rings n (length mesh / 3) mesh (whole n mesh L).0 (whole n mesh L).2 (small n mesh L.least none3) s₀ s₁ s₂ F f r M
              (rw t at e);
          tables = matched.tables;
        }

        -- or the lowest that has not is looked for
        pub can_round : length s₂ ≡ length s → AllRounding n (length s₂) (incidence s₂)
        can_round m v h = record {
          vertex = rw m (omega (arith, L.room));
          dart = λ k. record {
            darts = length mesh;
            room = rw m (omega (arith, L.triangles, L.room));
            below = λ d b. rw (matched.tables.turns d b) (omega (
              arith,
              (whole n mesh L).0,
              the_sides.dart (prev d) (prev-below (length mesh / 3) d (omega (arith, (whole n mesh L).0))),
            ));
            at = (outgoing_in mesh v (matched.tables.rooted.dart v k)).0;
          };
        }

        pub rounded : (q : Result (Unit {0}) Refusal) → found_in q ≡ first_broken (incidence s₂) n 0 → SidesPaired n mesh s₂ q
        rounded (Ok x) g = record { passed = passed; rings = sym rings_are ∙ sym g; tables = matched.tables }
        rounded (Err why) g = from_vertex n mesh (to_refusal why) passed (sym rings_are ∙ sym g)

  -- ---- the list as lent: 21, and then the rows of the mesh, which has as many triangles

  module _ (words : ℕ) (L : Lent n ts words) where
    pub refuse21 : length ts / 3 ≤ outer_place → first_refusal (rim_rows n outer_place ts) ≡ some (numbered 21)
    refuse21 h = rim-21 n outer_place ts (unfalse (row21 n outer_place) (λ e. omega (arith, h, (row21_means n outer_place).0 e, L.triangles)))

    module _ (there : outer_place < length ts / 3) where
      pub rimmed : Rimmed n outer_place ts words
      rimmed = record { there = omega (arith, L.triangles); lent = L }

      as_many : length mesh / 3 ≡ length ts / 3
      as_many = ap (λ (k : ℕ). k / 3) (length-fronted outer_place ts)

      past21 : first_refusal (rim_rows n outer_place ts) ≡ first_refusal (mesh_rows n mesh)
      past21 = rim-mesh n outer_place ts ((row21_means n outer_place).1 rimmed.there)

      module _ (s : List ℤ) (q : Result (Unit {0}) Refusal) (S : SidesPaired n mesh s q) where
        pub said_refused : (why : Refusal) → q ≡ Err why → Examined n outer_place ts s q
        said_refused why e = let g : SidesPaired n mesh s (Err why) = rw e at S in rw e (past21 ∙ g)

        module _ (e : q ≡ Ok tt) where
          pub walks : length s ≡ words → Sided (length ts / 3) (length s) (incidence s).turn
          walks l = rw as_many at (can_walk n mesh words (mesh-lent rimmed) s q e S l)

          module _ (s' : List ℤ) (r : Bool) (D : Split (length ts / 3) s s' r) where
            D' : Split (length mesh / 3) s s' r
            D' = rw as_many D

            pub refuse8 : r ≡ true → first_refusal (rim_rows n outer_place ts) ≡ some (numbered 8)
            refuse8 t = past21 ∙ finds8 n mesh words (mesh-lent rimmed) s q e S s' r D' t

            pub accept : r ≡ false → AcceptingRim n outer_place ts (incidence s')
            accept t = record { there = rimmed.there; mesh = passes8 n mesh words (mesh-lent rimmed) s q e S s' r D' t }

-- where the mesh is accepted, none of these rows finds anything
pub accepted_none : {n outer_place : ℕ} {ts : List ℕ} {i : Incidence} → AcceptingRim n outer_place ts i → first_refusal (rim_rows n outer_place ts) ≡ none
accepted_none {n} {outer_place} {ts} A = rim-mesh n outer_place ts ((row21_means n outer_place).1 A.there) ∙ A.mesh.clean

-- ---- what the calls that go on from here have: an accepted mesh, and so a sphere

pub accepting_mesh : {n outer_place : ℕ} {ts : List ℕ} {words : ℕ} {i : Incidence} → Lent n ts words → AcceptingRim n outer_place ts i
    → AcceptedMesh n (fronted outer_place ts)
accepting_mesh {n} {outer_place} {ts} L A =
    let M : Lent n (fronted outer_place ts) _ = mesh-lent record { there = A.there; lent = L } in
    (range-row1 most_vertices n M.least M.most, M.triangles, A.mesh.clean)
