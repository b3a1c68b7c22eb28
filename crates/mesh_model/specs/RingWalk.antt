-- 7 and 25 by going round, vertex by vertex: it has a dart, and from that by rotations, of which none but the last of as many as it has darts may come
-- back to it. That this finds what the definition finds is in proofs/RingWalk. Assumes nothing.
use Prim.Native.Nat.{ℕ, zero, suc, ◌-◌, ◌<◌}
use Rattle.std.specs.Prelude.{◌≡◌, Bool, not}
use Rattle.std.proofs.Math.Path.{refl, sym, ap}
use Rattle.std.proofs.Math.Bool.{true, false, cond}
use Rattle.std.proofs.Math.Option.{Option, none, some}
use native.Mathlib.Omega.{arith}
use Rattle.std.proofs.Math.Decide.{ℕ_discrete}
use Rattle.std.proofs.Math.Dec.{eqb}
use borrow.Author.Tests.{eq-eqb, ne_eqb}
use Rattle.definitions.specs.Answers.{Refusal, vertex_pinched, vertex_stray}
use Rattle.laws.specs.Lists.{clash}
use Rattle.mesh_tables.specs.Incidence.{Incidence, with_turn}

-- within k turns from d one comes to h
unfoldable pub returns_within : (ℕ → ℕ) → ℕ → ℕ → ℕ → Bool
returns_within turn h zero d = false
returns_within turn h (suc k) d = cond (eqb (turn d) h) true (returns_within turn h k (turn d))

-- what is found at v: no dart, or a turn that comes back too soon
unfoldable pub broken_at : Incidence → ℕ → Option Refusal
broken_at i v =
    cond (eqb (i.number v) 0) (some (vertex_stray v))
    (cond (returns_within i.turn (i.first v) (i.number v - 1) (i.first v)) (some (vertex_pinched v)) none)

-- and at the first of k vertices from v on where something is found
unfoldable pub first_broken : Incidence → ℕ → ℕ → Option Refusal
first_broken i zero v = none
first_broken i (suc k) v = elim (broken_at i v) [ some why ↦ some why | none ↦ first_broken i k (suc v) ]

pub first_broken-step : (i : Incidence) (k v : ℕ) (b : Option Refusal) → broken_at i v ≡ b →
    first_broken i (suc k) v ≡ elim b [ some why ↦ some why | none ↦ first_broken i k (suc v) ]
unfolding first_broken
first_broken-step i k v b e = ap (λ (b : Option Refusal). elim b [ some why ↦ some why | none ↦ first_broken i k (suc v) ]) e

-- v has one ring: a dart, and no turn that comes back too soon
unfoldable pub one_ring : Incidence → ℕ → Bool
one_ring i v = cond (eqb (i.number v) 0) false (not (returns_within i.turn (i.first v) (i.number v - 1) (i.first v)))

-- Turns that are the same at the darts of v, which they do not leave, leave its ring as it was.
module _ (turn turn' : ℕ → ℕ) (In : ℕ → Type 0) (same : (d : ℕ) → In d → turn' d ≡ turn d) (stays : (d : ℕ) → In d → In (turn d)) where
  returns_within-same : (h k d : ℕ) → In d → returns_within turn' h k d ≡ returns_within turn h k d
  unfolding returns_within
  returns_within-same h zero d m = refl
  returns_within-same h (suc k) d m =
      rw (same d m) (ap (λ (b : Bool). cond (eqb (turn d) h) true b) (returns_within-same h k (turn d) (stays d m)))

  pub ring-same : (i : Incidence) (v : ℕ) → (0 < i.number v → In (i.first v)) → one_ring (with_turn turn i) v ≡ true →
      one_ring (with_turn turn' i) v ≡ true
  unfolding one_ring with_turn
  ring-same i v m e =
      elim (ℕ_discrete (i.number v) 0) [
        | yes z ↦ clash refl (sym (rw (eq-eqb (i.number v) 0 z) at e))
        | no z ↦
            let c = ne_eqb (i.number v) 0 z in
            rw (c, returns_within-same (i.first v) (i.number v - 1) (i.first v) (m (omega (arith, z)))) (rw c at e)
      ]
