-- C-15 of a whole mesh: 25 is answered just for a vertex in no triangle, 7 just for one whose triangles form several rings, each with the lowest vertex for
-- which either is true; and rows 3 to 6 have found nothing. Assumes nothing.
use Rattle.std.specs.Prelude.{ℕ, ◌*◌, ◌<◌, ◌≡◌, ◌≢◌, ◌↔◌, false, List, length}
use Rattle.std.proofs.Common.{sym, ◌∙◌, inl, inr, arith}
use Rattle.std.proofs.Math.Option.{some, some-ne-none, some-injective}
use Rattle.definitions.specs.Answers.{Refusal, numbered, vertex_pinched, vertex_stray, first_refusal}
use Rattle.definitions.specs.Mesh.{org, opp, row3, row4, row5, row6, row7or25, row8}
use Rattle.definitions.specs.Refusals.{mesh_rows}
use Rattle.laws.specs.Lists.{tested}
use Rattle.theory_sphere.specs.Sides.{Sides, sides}
use Rattle.theory_sphere.specs.Vertices.{WholeBelow, SeveralRings, stray_means, several_rings, found-25, found-7}
use Rattle.theory_sphere.specs.FirstRefusal.{asked, Clean, clean_refusal, mesh-3, mesh-4, mesh-5, mesh-6, mesh_7or25, mesh-8}

module _ (n : ℕ) (ts : List ℕ) where
  -- rows 3 to 6 find nothing
  pub record Passed : Type 0 where
    pub none3 : row3 ts n ≡ false
    pub none4 : row4 ts ≡ false
    pub none5 : row5 ts ≡ false
    pub none6 : row6 ts ≡ false

  -- a refusal that is no number alone comes from the place of 7
  of_vertex : (why : Refusal) → ((k : ℕ) → why ≢ numbered k) → first_refusal (mesh_rows n ts) ≡ some why → Passed × (row7or25 ts n ≡ some why)
  of_vertex why plain e =
      elim (tested (row3 ts n)) [
        | inl t ↦ other 3 (mesh-3 n ts t)
        | inr n3 ↦ elim (tested (row4 ts)) [
          | inl t ↦ other 4 (mesh-4 n ts n3 t)
          | inr n4 ↦ elim (tested (row5 ts)) [
            | inl t ↦ other 5 (mesh-5 n ts n3 n4 t)
            | inr n5 ↦ elim (tested (row6 ts)) [
              | inl t ↦ other 6 (mesh-6 n ts n3 n4 n5 t)
              | inr n6 ↦ elim (asked (row7or25 ts n)) [
                | inr q ↦ (
                  record { none3 = n3; none4 = n4; none5 = n5; none6 = n6 },
                  q.1 ∙ sym (mesh_7or25 n ts q.0 n3 n4 n5 n6 q.1) ∙ e,
                )
                | inl q ↦ elim (tested (row8 ts)) [
                  | inl t ↦ other 8 (mesh-8 n ts n3 n4 n5 n6 q t)
                  | inr t ↦
                      let all : Clean n ts = record { clean3 = n3; clean4 = n4; clean5 = n5; clean6 = n6; clean7 = q; clean8 = t } in
                      absurd (some-ne-none why (sym e ∙ clean_refusal n ts all))
                ]
              ]
            ]
          ]
        ]
      ]
    where
      other : (k : ℕ) → first_refusal (mesh_rows n ts) ≡ some (numbered k) → Passed × (row7or25 ts n ≡ some why)
      other k q = absurd (plain k (some-injective why (numbered k) (sym e ∙ q)))

  pub from_vertex : (why : Refusal) → Passed → row7or25 ts n ≡ some why → first_refusal (mesh_rows n ts) ≡ some why
  from_vertex why p e = mesh_7or25 n ts why p.none3 p.none4 p.none5 p.none6 e

  -- 25: no corner of a triangle is v
  pub refused-25 : (v : ℕ) → (first_refusal (mesh_rows n ts) ≡ some (vertex_stray v))
      ↔ (Passed × (v < n) × ((d : ℕ) → d < length ts → org ts d ≢ v) × WholeBelow ts v)
  refused-25 v = (
    λ e.
        let r = of_vertex (vertex_stray v) (λ k q. let z : ◌≡◌ {A = ℕ} 0 1 = cc in omega arith) e in
        let f = (found-25 ts n v).0 r.1 in
        (r.0, f.0, (stray_means ts v).0 f.1, f.2),
    λ r. from_vertex (vertex_stray v) r.0 ((found-25 ts n v).1 (r.1, (stray_means ts v).1 r.2, r.3)),
  )

  -- 7: the triangles at v form several rings
  module _ (T : ℕ) (whole : length ts ≡ 3 * T) where
    pub in_order : Passed → Sides n T (org ts) (opp ts)
    in_order p = sides ts T whole n p.none3 p.none4 p.none5 p.none6

    pub refused-7 : (v : ℕ) → (first_refusal (mesh_rows n ts) ≡ some (vertex_pinched v)) ↔ (Passed × (v < n) × SeveralRings ts v × WholeBelow ts v)
    refused-7 v = (
      λ e.
          let r = of_vertex (vertex_pinched v) (λ k q. let z : ◌≡◌ {A = ℕ} 0 1 = cc in omega arith) e in
          let f = (found-7 ts n v).0 r.1 in
          (r.0, f.0, (several_rings ts T whole n (in_order r.0) v).0 f.1, f.2),
      λ r. from_vertex (vertex_pinched v) r.0 ((found-7 ts n v).1 (r.1, (several_rings ts T whole n (in_order r.0) v).1 r.2, r.3)),
    )
