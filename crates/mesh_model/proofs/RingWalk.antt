-- Going round, vertex by vertex, finds what rows 7 and 25 find. Assumes nothing.
use Prim.Native.Nat.{ℕ, zero, suc, ◌+◌, ◌-◌, ◌*◌, ◌≤◌, ◌<◌}
use Rattle.std.specs.Prelude.{◌≡◌, ◌≢◌, ◌||◌, List}
use Rattle.std.proofs.Math.Path.{refl, sym, ap}
use Rattle.std.proofs.Common.{◌∙◌}
use Rattle.std.proofs.Math.Logic.{inl, inr}
use Rattle.std.proofs.Math.Bool.{true, false, cond}
use Rattle.std.proofs.Math.Option.{Option, none, some}
use native.Mathlib.Omega.{arith}
use Rattle.std.proofs.Math.Decide.{ℕ_discrete, dec_le}
use Rattle.std.proofs.Math.Dec.{eqb}
use Rattle.std.proofs.Math.ListN.{length}
use borrow.Author.Tests.{eq-eqb, ne_eqb, eqb-true, eqb-false}
use Rattle.definitions.specs.Lists.{range, upto, iterate, first}
use Rattle.definitions.specs.Answers.{Refusal, vertex_pinched, vertex_stray}
use Rattle.definitions.specs.Mesh.{prev, org, opp, rot, outgoing, ring, stray, pinched, row7or25}
use Rattle.laws.specs.Lists.{◌∈◌, tested, clash}
use Rattle.theory_sphere.specs.Rows.{outgoing_in}
use Rattle.theory_sphere.specs.Sides.{Sides, rot-below}
use Rattle.theory_sphere.specs.Rings.{ring_period, ring-rotations}
use Rattle.mesh_tables.specs.Incidence.{Incidence}
use Rattle.mesh_model.specs.IncidenceLists.{Rooted}
use Rattle.mesh_model.specs.RingWalk.{returns_within, broken_at, first_broken, first_broken-step, one_ring}

ring_unbroken : (i : Incidence) (v : ℕ) → one_ring i v ≡ true → broken_at i v ≡ none
unfolding one_ring broken_at
ring_unbroken i v e =
    elim (tested (eqb (i.number v) 0)) [
      | inl c ↦ clash refl (sym (rw c at e))
      | inr c ↦ elim (tested (returns_within i.turn (i.first v) (i.number v - 1) (i.first v))) [
        | inl b ↦ clash refl (sym (rw (c, b) at e))
        | inr b ↦ rw (c, b)
      ]
    ]

pub rings_unbroken : (i : Incidence) (k v : ℕ) → ((w : ℕ) → v ≤ w → w < v + k → one_ring i w ≡ true) → first_broken i k v ≡ none
unfolding first_broken
rings_unbroken i zero v f = refl
rings_unbroken i (suc k) v f =
    first_broken-step i k v none (ring_unbroken i v (f v (omega arith) (omega arith))) ∙ rings_unbroken i k (suc v) (λ w h l. f w (omega arith) (omega arith))

module _ (ts : List ℕ) (T : ℕ) (whole : length ts ≡ 3 * T) (n : ℕ) (S : Sides n T (org ts) (opp ts))
    (i : Incidence) (R : Rooted ts i) (O : (d : ℕ) → d < length ts → i.turn d ≡ opp ts (prev d)) where
  rotate_is : (d : ℕ) → d < 3 * T → i.turn d ≡ rot ts d
  unfolding rot
  rotate_is d h = O d (omega arith)

  rotate-below : (d : ℕ) → d < 3 * T → rot ts d < 3 * T
  unfolding rot
  rotate-below d h = rot-below S d h

  returns_within-true : (h k d : ℕ) → d < 3 * T → returns_within i.turn h k d ≡ true → (j : ℕ) × (0 < j) × (j ≤ k)
      × (iterate (rot ts) j d ≡ h)
  unfolding returns_within iterate
  returns_within-true h zero d l e = clash e refl
  returns_within-true h (suc k) d l e =
      let q = rotate_is d l in
      elim (tested (eqb (i.turn d) h)) [
        | inl c ↦ (1, omega arith, omega arith, sym q ∙ eqb-true (i.turn d) h c)
        | inr c ↦
            let r = returns_within-true h k (rot ts d) (rotate-below d l) (rw (c, q) at e) in
            (suc r.0, omega arith, omega (arith, r.2), r.3)
      ]

  returns_within-false : (h k d : ℕ) → d < 3 * T → returns_within i.turn h k d ≡ false → (j : ℕ) → 0 < j → j ≤ k →
      iterate (rot ts) j d ≢ h
  unfolding returns_within iterate
  returns_within-false h zero d l e j p m q = omega arith
  returns_within-false h (suc k) d l e zero p m q = omega arith
  returns_within-false h (suc k) d l e (suc j) p m q =
      let s = rotate_is d l in
      elim (tested (eqb (i.turn d) h)) [
        | inl c ↦ let f : true ≡ false = rw c at e in clash refl f
        | inr c ↦
            elim (ℕ_discrete j 0) [
              | yes z ↦
                  let a : rot ts d ≡ h = rw z at q in
                  eqb-false (i.turn d) h c (s ∙ a)
              | no z ↦ returns_within-false h k (rot ts d) (rotate-below d l) (rw (c, s) at e) j (omega arith) (omega arith) q
            ]
      ]

  stray_is : (v : ℕ) → eqb (i.number v) 0 ≡ stray ts v
  unfolding stray
  stray_is v = ap (λ (k : ℕ). eqb k 0) (R.number v)

  pinched_is : (v : ℕ) → stray ts v ≡ false → returns_within i.turn (i.first v) (i.number v - 1) (i.first v) ≡ pinched ts v
  unfolding pinched
  pinched_is v s =
      let m = R.number v in
      let some-dart : i.number v ≢ 0 = eqb-false (i.number v) 0 (stray_is v ∙ s) in
      let d = i.first v in
      let at : d ∈ outgoing ts v = R.dart v (omega arith) in
      let below : d < 3 * T = omega (arith, (outgoing_in ts v at).0) in
      let P = ring_period ts T whole n S v d at in
      let p = P.1 in
      let is = ring-rotations ts T whole n S v d P.0 at p in
      let short : P.0 ≤ length (outgoing ts v) = P.2 in
      elim (tested (returns_within i.turn d (i.number v - 1) d)) [
        | inl e ↦
            let r = returns_within-true d (i.number v - 1) d below e in
            let no-ring : ring ts (outgoing ts v) ≡ false =
            is ∙ ne_eqb P.0 (length (outgoing ts v)) (λ q. p.soonest r.0 r.1 (omega (arith, r.2)) r.3) in
            rw (e, s, no-ring)
        | inr e ↦
            let long : length (outgoing ts v) ≤ P.0 =
            elim (dec_le (length (outgoing ts v)) P.0) [
              | yes h ↦ h
              | no h ↦ absurd (returns_within-false d (i.number v - 1) d below e P.0 p.some (omega arith) p.back)
            ] in
            let one-ring : ring ts (outgoing ts v) ≡ true = is ∙ eq-eqb P.0 (length (outgoing ts v)) (omega arith) in
            rw (e, s, one-ring)
      ]

  -- the walk finds at v what the definition finds there
  broken_at_is : (v : ℕ) → broken_at i v ≡ cond (stray ts v) (some (vertex_stray v)) (cond (pinched ts v) (some (vertex_pinched v)) none)
  unfolding broken_at
  broken_at_is v =
      elim (tested (stray ts v)) [
        | inl s ↦ rw (stray_is v, s)
        | inr s ↦ rw (stray_is v, s, pinched_is v s)
      ]

  -- what the lowest of the vertices that are stray or pinched decides
  abbrev decided : Option ℕ → Option Refusal
  decided o = elim o [ none ↦ none | some u ↦ some (cond (stray ts u) (vertex_stray u) (vertex_pinched u)) ]

  first_broken-range : (k v : ℕ) → first_broken i k v ≡ decided (first (λ u. stray ts u || pinched ts u) (range v k))
  unfolding first_broken first range
  first_broken-range zero v = refl
  first_broken-range (suc k) v =
      elim (tested (stray ts v)) [
        | inl s ↦ first_broken-step i k v (some (vertex_stray v)) (broken_at_is v ∙ rw s) ∙ rw s (rw s)
        | inr s ↦ elim (tested (pinched ts v)) [
          | inl p ↦ first_broken-step i k v (some (vertex_pinched v)) (broken_at_is v ∙ rw (s, p)) ∙ rw (s, p) (rw s)
          | inr p ↦ first_broken-step i k v none (broken_at_is v ∙ rw (s, p)) ∙ first_broken-range k (suc v) ∙ rw (s, p)
        ]
      ]

  pub first_broken_is : first_broken i n 0 ≡ row7or25 ts n
  unfolding row7or25 upto
  first_broken_is = first_broken-range n 0
