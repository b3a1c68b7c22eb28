-- The tables of the mesh check, and where their entries stand in scratch. Assumes nothing.
-- A dart's word has its turn and its origin. A vertex's word has the first dart of its list and their number. The marks' words have the marks of row 5.
use Rattle.std.specs.Prelude.{ℕ, ◌<◌, ◌≡◌, List, ℤ}
use Rattle.std.proofs.Common.{arith, ◌∙◌}
use Rattle.std.proofs.Math.Path.{refl}
use Rattle.scratch_tables.specs.Tables.{Tables, tables_of, upd, set_op, set_head, set_count}
use Rattle.scratch_tables.specs.Fields.{pack, field0, field1, field0_is, field1_is, field-set, field-kept}

pub record Incidence : Type 0 where
  -- of a dart: the one after it in the list of its origin, and once the sides are matched the next one round its origin, which is the opposite of the
  -- dart before it; and its origin
  pub turn : ℕ → ℕ
  pub origin : ℕ → ℕ
  -- of a vertex: the first dart that leaves it, and how many do
  pub first : ℕ → ℕ
  pub number : ℕ → ℕ
  -- the mark that a neighbour has left there
  pub mark : ℕ → ℕ

unfoldable pub incidence_of : Tables → Incidence
incidence_of t = record {
  turn = λ d. field0 (t.op d);
  origin = λ d. field1 (t.op d);
  first = λ v. field0 (t.head v);
  number = λ v. field1 (t.head v);
  mark = t.count;
}

abbrev pub incidence : List ℤ → Incidence
incidence s = incidence_of (tables_of s)

-- ---- stores

-- all of a dart's word
unfoldable pub set_dart : ℕ → ℕ → ℕ → Incidence → Incidence
set_dart d x o i = record { turn = upd d x i.turn; origin = upd d o i.origin; first = i.first; number = i.number; mark = i.mark }

unfoldable pub set_turn : ℕ → ℕ → Incidence → Incidence
set_turn d x i = record { turn = upd d x i.turn; origin = i.origin; first = i.first; number = i.number; mark = i.mark }

-- all of a vertex's word
unfoldable pub set_list : ℕ → ℕ → ℕ → Incidence → Incidence
set_list v d k i = record { turn = i.turn; origin = i.origin; first = upd v d i.first; number = upd v k i.number; mark = i.mark }

unfoldable pub set_mark : ℕ → ℕ → Incidence → Incidence
set_mark w x i = record { turn = i.turn; origin = i.origin; first = i.first; number = i.number; mark = upd w x i.mark }

-- one table for another
unfoldable pub with_turn : (ℕ → ℕ) → Incidence → Incidence
with_turn turn i = record { turn = turn; origin = i.origin; first = i.first; number = i.number; mark = i.mark }

unfoldable pub with_mark : (ℕ → ℕ) → Incidence → Incidence
with_mark mark i = record { turn = i.turn; origin = i.origin; first = i.first; number = i.number; mark = mark }

-- ---- the words that are stored for them

module _ (t : Tables) (d x o w : ℕ) (e : w ≡ pack x o 0 0) (hx : x < 65536) (ho : o < 65536) where
  pub dart-stored : incidence_of (set_op d w t) ≡ set_dart d x o (incidence_of t)
  unfolding incidence_of set_op set_dart
  dart-stored = λ i. record {
    turn = field-set field0 d w x t.op (field0_is x o 0 0 w e hx ho (omega arith)) i;
    origin = field-set field1 d w o t.op (field1_is x o 0 0 w e hx ho (omega arith)) i;
    first = λ v. field0 (t.head v);
    number = λ v. field1 (t.head v);
    mark = t.count;
  }

  pub turn-stored : o ≡ field1 (t.op d) → incidence_of (set_op d w t) ≡ set_turn d x (incidence_of t)
  unfolding incidence_of set_op set_turn
  turn-stored q = λ i. record {
    turn = field-set field0 d w x t.op (field0_is x o 0 0 w e hx ho (omega arith)) i;
    origin = field-kept field1 d w t.op (field1_is x o 0 0 w e hx ho (omega arith) ∙ q) i;
    first = λ v. field0 (t.head v);
    number = λ v. field1 (t.head v);
    mark = t.count;
  }

module _ (t : Tables) (v d k w : ℕ) (e : w ≡ pack d k 0 0) (hd : d < 65536) (hk : k < 65536) where
  pub list-stored : incidence_of (set_head v w t) ≡ set_list v d k (incidence_of t)
  unfolding incidence_of set_head set_list
  list-stored = λ i. record {
    turn = λ d. field0 (t.op d);
    origin = λ d. field1 (t.op d);
    first = field-set field0 v w d t.head (field0_is d k 0 0 w e hd hk (omega arith)) i;
    number = field-set field1 v w k t.head (field1_is d k 0 0 w e hd hk (omega arith)) i;
    mark = t.count;
  }

pub mark-stored : (t : Tables) (w x : ℕ) → incidence_of (set_count w x t) ≡ set_mark w x (incidence_of t)
unfolding incidence_of set_count set_mark
mark-stored t w x = refl

-- the laws by which the check proves the stores
pub ruleset stores = (dart-stored, turn-stored, list-stored, mark-stored)
