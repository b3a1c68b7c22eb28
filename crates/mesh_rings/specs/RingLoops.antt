-- What the functions of 7 and 25 ask, and what is known at each iteration of their loops: what is left to do from here finds what the whole finds.
-- Assumes nothing.
use Prim.Native.Nat.{ℕ, suc, ◌+◌, ◌-◌, ◌*◌, ◌≤◌, ◌<◌}
use Rattle.std.specs.Prelude.{◌≡◌, Bool, Result, Ok, Err}
use Rattle.std.specs.Result.{is_ok}
use Rattle.std.proofs.Common.{refl, sym, ◌∙◌}
use Rattle.std.proofs.Math.Logic.{inl, inr}
use Rattle.std.proofs.Math.Bool.{true, false}
use Rattle.std.proofs.Math.Option.{Option, none, some}
use native.Mathlib.Omega.{arith}
use Rattle.std.proofs.Math.Dec.{eqb}
use borrow.Author.Tests.{eq-eqb, ne_eqb}
use Rattle.laws.specs.Lists.{tested}
use Rattle.definitions.specs.Answers.{vertex_pinched, vertex_stray, Refusal as Told}
use Rattle.scratch_tables.specs.Tables.{column, vertex_in}
use Rattle.mesh_tables.specs.Incidence.{Incidence}
use Rattle.mesh_model.specs.RingWalk.{returns_within, one_ring, broken_at, first_broken, first_broken-step}
use Rattle.mesh_answer.specs.declared.Refusal.{Refusal}
use Rattle.mesh_answer.specs.Answer.{found_in}

-- ---- what is asked

-- by turns from dart d one never leaves the darts that have words
pub record Turning (words : ℕ) (turn : ℕ → ℕ) (d : ℕ) : Type 0 where
  pub darts : ℕ
  pub room : darts ≤ 6 * column words
  pub below : (e : ℕ) → e < darts → turn e < darts
  pub at : d < darts

turning_next : {words : ℕ} {turn : ℕ → ℕ} {d : ℕ} → Turning words turn d → Turning words turn (turn d)
turning_next {d = d} T = record { darts = T.darts; room = T.room; below = T.below; at = T.below d T.at }

-- vertex v has a word, and where it has darts turns go on from the first of them
pub record Rounding (words : ℕ) (i : Incidence) (v : ℕ) : Type 0 where
  pub vertex : vertex_in words v
  pub dart : 0 < i.number v → Turning words i.turn (i.first v)

abbrev pub AllRounding : ℕ → ℕ → Incidence → Type 0
AllRounding n words i = (v : ℕ) → v < n → Rounding words i v

-- ---- turn by turn

-- i of k turns are made, and lead to d
pub record Rotating (words : ℕ) (turn : ℕ → ℕ) (h k d i : ℕ) : Type 0 where
  pub on : Turning words turn d
  pub rest : returns_within turn h (k - i) d ≡ returns_within turn h k h

module _ (words : ℕ) (turn : ℕ → ℕ) (h k : ℕ) where
  pub rotating_back : (d e i : ℕ) → i < k → e ≡ turn d → e ≡ h → Rotating words turn h k d i → true ≡ returns_within turn h k h
  unfolding returns_within
  rotating_back d e i l q b I =
      let z : k - i ≡ suc (k - (i + 1)) = omega arith in
      let c : eqb (turn d) h ≡ true = eq-eqb (turn d) h (sym q ∙ b) in
      rw (z, c) at I.rest

  pub rotating_next : (d e i : ℕ) → i < k → e ≡ turn d → (e ≡ h → ⊥) → Rotating words turn h k d i → Rotating words turn h k e (i + 1)
  unfolding returns_within
  rotating_next d e i l q b I =
      let z : k - i ≡ suc (k - (i + 1)) = omega arith in
      let c : eqb (turn d) h ≡ false = ne_eqb (turn d) h (λ r. b (q ∙ r)) in
      record { on = rw q (turning_next I.on); rest = rw q (rw (z, c) at I.rest) }

  pub rotating_none : (d i : ℕ) → k ≤ i → Rotating words turn h k d i → false ≡ returns_within turn h k h
  unfolding returns_within
  rotating_none d i l I = let z : k - i ≡ 0 = omega arith in rw z at I.rest

-- ---- what is found at one vertex
module _ (i : Incidence) (v k : ℕ) (e : k ≡ i.number v) where
  pub stray-found : k ≡ 0 → some (vertex_stray v) ≡ broken_at i v
  unfolding broken_at
  stray-found z = rw (eq-eqb (i.number v) 0 (sym e ∙ z))

  module _ (z : k ≡ 0 → ⊥) (h : ℕ) (q : h ≡ i.first v) (r : Bool) (f : r ≡ returns_within i.turn h (k - 1) h) where
    pub pinched-found : r ≡ true → some (vertex_pinched v) ≡ broken_at i v
    unfolding broken_at
    pinched-found b = rw (← e, ← q, ne_eqb k 0 z, ← f, b)

    pub ring-found : r ≡ false → none ≡ broken_at i v
    unfolding broken_at
    ring-found b = rw (← e, ← q, ne_eqb k 0 z, ← f, b)

-- Nothing is, where v has one ring.
found-none : {A : Type 0} (r : Result A Refusal) → found_in r ≡ none → is_ok r ≡ true
found-none (Ok x) e = refl
found-none (Err why) e = cc

found-some : {A : Type 0} (r : Result A Refusal) (why : Told) → found_in r ≡ some why → is_ok r ≡ false
found-some (Ok x) why e = cc
found-some (Err y) why e = refl

pub ring_is : {A : Type 0} (i : Incidence) (v : ℕ) (r : Result A Refusal) → found_in r ≡ broken_at i v → is_ok r ≡ one_ring i v
unfolding broken_at one_ring
ring_is i v r f =
    elim (tested (eqb (i.number v) 0)) [
      | inl c ↦ rw c (found-some r (vertex_stray v) (rw c at f))
      | inr c ↦ elim (tested (returns_within i.turn (i.first v) (i.number v - 1) (i.first v))) [
        | inl b ↦ rw (c, b) (found-some r (vertex_pinched v) (rw (c, b) at f))
        | inr b ↦ rw (c, b) (found-none r (rw (c, b) at f))
      ]
    ]

-- ---- vertex by vertex
pub record Testing (i : Incidence) (n v : ℕ) : Type 0 where
  pub rest : first_broken i (n - v) v ≡ first_broken i n 0

-- what is found at v
module _ (i : Incidence) (n v : ℕ) (h : v < n) (I : Testing i n v) where
  on : (b : Option Told) → broken_at i v ≡ b → elim b [ some why ↦ some why | none ↦ first_broken i (n - suc v) (suc v) ] ≡ first_broken i n 0
  on b f = let z : n - v ≡ suc (n - suc v) = omega arith in sym (first_broken-step i (n - suc v) v b f) ∙ (rw z at I.rest)

  pub testing_found : (why : Told) → some why ≡ broken_at i v → some why ≡ first_broken i n 0
  testing_found why f = on (some why) (sym f)

  pub testing_next : none ≡ broken_at i v → Testing i n (v + 1)
  testing_next f = let y : v + 1 ≡ suc v = omega arith in record { rest = rw y (on none (sym f)) }

pub testing_none : (i : Incidence) (n v : ℕ) → n ≤ v → Testing i n v → none ≡ first_broken i n 0
unfolding first_broken
testing_none i n v h I = let z : n - v ≡ 0 = omega arith in rw z at I.rest

-- the laws by which the check proves what is found
pub ruleset found = (stray-found, pinched-found, ring-found, ring_is, testing_found, testing_next, testing_none)
