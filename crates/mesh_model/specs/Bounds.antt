-- Entries of the tables are in range: a dart that is stored is below 3 T, and a vertex has its words. So what is read can be followed without a test.
-- Assumes nothing.
use Prim.Native.Nat.{ℕ, zero, suc, ◌*◌, ◌%◌, ◌≤◌, ◌<◌}
use Rattle.std.specs.Prelude.{◌≡◌, List, length}
use Rattle.std.proofs.Common.{sym, ◌∙◌, arith}
use Rattle.std.proofs.Math.Path.{ap}
use Rattle.std.proofs.Math.Decide.{ℕ_discrete}
use Rattle.definitions.specs.Mesh.{next, prev, org}
use Rattle.theory_sphere.specs.Darts.{next-below, prev-below}
use Rattle.scratch_tables.specs.Tables.{past_darts, dart_in, vertex_in, upd-at, upd_other}
use Rattle.mesh_tables.specs.Incidence.{Incidence, set_dart, set_turn, set_list, set_mark}
use Rattle.mesh_model.specs.IncidenceLists.{Empty, Origins, push, fill, fill_unmarked}

-- `words` is the length of scratch, T the number of triangles
pub record Bounded (T words : ℕ) (i : Incidence) : Type 0 where
  pub room : 3 * T ≤ past_darts words
  pub few : 3 * T ≤ 65536
  pub turn : (d : ℕ) → d < 3 * T → i.turn d < 3 * T
  pub origin : (d : ℕ) → d < 3 * T → vertex_in words (i.origin d)
  pub first : (v : ℕ) → i.first v < 3 * T
  -- the dart of a mark
  pub mark : (w : ℕ) → i.mark w % 65536 < 3 * T

module _ {T words : ℕ} {i : Incidence} (B : Bounded T words i) where
  -- the darts beside a dart, and their origins
  pub bounded_next : (d : ℕ) → d < 3 * T → dart_in words (next d) × vertex_in words (i.origin (next d))
  bounded_next d h = let l = next-below T d h in (omega (arith, l, B.room), B.origin (next d) l)

  pub bounded_prev : (d : ℕ) → d < 3 * T → dart_in words (prev d) × vertex_in words (i.origin (prev d))
  bounded_prev d h = let l = prev-below T d h in (omega (arith, l, B.room), B.origin (prev d) l)

  -- stores keep it
  pub bounded_mark : (w x : ℕ) → x % 65536 < 3 * T → Bounded T words (set_mark w x i)
  unfolding set_mark
  bounded_mark w x h = record {
    room = B.room;
    few = B.few;
    turn = B.turn;
    origin = B.origin;
    first = B.first;
    mark = λ u. elim (ℕ_discrete u w) [
      | yes q ↦ rw (upd-at w u x i.mark q) h
      | no q ↦ rw (upd_other w u x i.mark q) (B.mark u)
    ];
  }

  pub bounded_turn : (d x : ℕ) → x < 3 * T → Bounded T words (set_turn d x i)
  unfolding set_turn
  bounded_turn d x h = record {
    room = B.room;
    few = B.few;
    turn = λ e l. elim (ℕ_discrete e d) [
      | yes q ↦ rw (upd-at d e x i.turn q) h
      | no q ↦ rw (upd_other d e x i.turn q) (B.turn e l)
    ];
    origin = B.origin;
    first = B.first;
    mark = B.mark;
  }

-- ---- while the lists are filled

module _ (ts : List ℕ) where
  -- the darts from k on have their words
  record Placed (k : ℕ) (i : Incidence) : Type 0 where
    turn : (d : ℕ) → k ≤ d → d < length ts → i.turn d < length ts
    origin : (d : ℕ) → k ≤ d → d < length ts → i.origin d ≡ org ts d
    first : (v : ℕ) → i.first v < length ts

  push_places : (d : ℕ) (i : Incidence) → d < length ts → Placed (suc d) i → Placed d (push ts d i)
  unfolding push set_dart set_list
  push_places d i h P = record {
    turn = λ e k l. elim (ℕ_discrete e d) [
      | yes q ↦ rw (upd-at d e (i.first (org ts d)) i.turn q) (P.first (org ts d))
      | no q ↦ rw (upd_other d e (i.first (org ts d)) i.turn q) (P.turn e (omega (arith, q)) l)
    ];
    origin = λ e k l. elim (ℕ_discrete e d) [
      | yes q ↦ upd-at d e (org ts d) i.origin q ∙ ap (org ts) (sym q)
      | no q ↦ upd_other d e (org ts d) i.origin q ∙ P.origin e (omega (arith, q)) l
    ];
    first = λ v. elim (ℕ_discrete v (org ts d)) [
      | yes q ↦ rw (upd-at (org ts d) v d i.first q) h
      | no q ↦ rw (upd_other (org ts d) v d i.first q) (P.first v)
    ];
  }

  fill-places : (k : ℕ) (i : Incidence) → k ≤ length ts → Placed k i → Placed 0 (fill ts k i)
  unfolding fill
  fill-places zero i h P = P
  fill-places (suc k) i h P = fill-places k (push ts k i) (omega arith) (push_places k i h P)

  -- where they are filled the words have the origins, and all is in range
  module _ (i : Incidence) (E : Empty i) (some : 0 < length ts) where
    placed : Placed 0 (fill ts (length ts) i)
    placed = fill-places (length ts) i (omega arith) record {
      turn = λ d k l. absurd (omega arith);
      origin = λ d k l. absurd (omega arith);
      first = λ v. omega (arith, E.first v);
    }

    pub fill_origins : Origins ts (fill ts (length ts) i).origin
    fill_origins d h = placed.origin d (omega arith) h

    pub fill_bounded : (T words : ℕ) → length ts ≡ 3 * T → 3 * T ≤ past_darts words → 3 * T ≤ 65536 → ((d : ℕ) → vertex_in words (org ts d))
        → Bounded T words (fill ts (length ts) i)
    fill_bounded T words whole room few vertices = record {
      room = room;
      few = few;
      turn = λ d h. omega (arith, placed.turn d (omega arith) (omega arith));
      origin = λ d h. rw (fill_origins d (omega arith)) (vertices d);
      first = λ v. omega (arith, placed.first v);
      mark = λ w. omega (arith, fill_unmarked ts i E w);
    }
