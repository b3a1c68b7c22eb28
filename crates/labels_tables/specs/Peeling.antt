-- The tables of the labels stage, and where their entries stand in scratch. Assumes nothing.
-- A dart's word has its turn, its origin and, where it is the first of a triangle, the corner with label 2. A vertex's word has its frontier degree and
-- its two frontier darts. The marks' words have the sets of the search, and the odd marks the order of removal.
use Rattle.std.specs.Prelude.{ℕ, ◌+◌, ◌*◌, ◌<◌, ◌≡◌, List, ℤ}
use Rattle.std.proofs.Common.{sym, ◌∙◌, arith}
use Rattle.std.proofs.Math.Path.{ap, fun_ext}
use Rattle.std.proofs.Math.Decide.{ℕ_discrete}
use Rattle.scratch_tables.specs.Tables.{Tables, tables_of, upd, upd-at, upd_other, set_op, set_head, set_mark}
use Rattle.scratch_tables.specs.Fields.{pack, field0, field1, field2, field0_is, field1_is, field2_is, field0_small, field1_small}
use Rattle.scratch_tables.specs.Fields.{field-set, field-kept}

pub record Peeling : Type 0 where
  -- of a dart: the next one round its origin, which is the opposite of the dart before it; and its origin
  pub turn : ℕ → ℕ
  pub origin : ℕ → ℕ
  -- of a triangle: which of its corners has label 2
  pub apex : ℕ → ℕ
  -- of a vertex: 0 off the frontier, and one more than the number of its frontier neighbours on it; the frontier's dart that leaves it, and the one that
  -- leads to it
  pub degree : ℕ → ℕ
  pub left : ℕ → ℕ
  pub right : ℕ → ℕ
  -- the words of the search for the next vertex; and the vertices in order of removal
  pub sets : ℕ → ℕ
  pub order : ℕ → ℕ

unfoldable pub peeling_of : Tables → Peeling
peeling_of t = record {
  turn = λ d. field0 (t.op d);
  origin = λ d. field1 (t.op d);
  apex = λ k. field2 (t.op (3 * k));
  degree = λ v. field0 (t.head v);
  left = λ v. field1 (t.head v);
  right = λ v. field2 (t.head v);
  sets = t.count;
  order = λ k. t.mark (2 * k + 1);
}

abbrev pub peeling : List ℤ → Peeling
peeling s = peeling_of (tables_of s)

-- ---- stores

unfoldable pub set_apex : ℕ → ℕ → Peeling → Peeling
set_apex k x p = record {
  turn = p.turn;
  origin = p.origin;
  apex = upd k x p.apex;
  degree = p.degree;
  left = p.left;
  right = p.right;
  sets = p.sets;
  order = p.order;
}

-- all of a vertex's word
unfoldable pub set_vertex : ℕ → ℕ → ℕ → ℕ → Peeling → Peeling
set_vertex v x l r p = record {
  turn = p.turn;
  origin = p.origin;
  apex = p.apex;
  degree = upd v x p.degree;
  left = upd v l p.left;
  right = upd v r p.right;
  sets = p.sets;
  order = p.order;
}

unfoldable pub set_degree : ℕ → ℕ → Peeling → Peeling
set_degree v x p = record {
  turn = p.turn;
  origin = p.origin;
  apex = p.apex;
  degree = upd v x p.degree;
  left = p.left;
  right = p.right;
  sets = p.sets;
  order = p.order;
}

unfoldable pub set_left : ℕ → ℕ → Peeling → Peeling
set_left v x p = record {
  turn = p.turn;
  origin = p.origin;
  apex = p.apex;
  degree = p.degree;
  left = upd v x p.left;
  right = p.right;
  sets = p.sets;
  order = p.order;
}

unfoldable pub set_right : ℕ → ℕ → Peeling → Peeling
set_right v x p = record {
  turn = p.turn;
  origin = p.origin;
  apex = p.apex;
  degree = p.degree;
  left = p.left;
  right = upd v x p.right;
  sets = p.sets;
  order = p.order;
}

unfoldable pub set_order : ℕ → ℕ → Peeling → Peeling
set_order k x p = record {
  turn = p.turn;
  origin = p.origin;
  apex = p.apex;
  degree = p.degree;
  left = p.left;
  right = p.right;
  sets = p.sets;
  order = upd k x p.order;
}

-- ---- the words that are stored for them

module _ (t : Tables) (k x w : ℕ) (e : w ≡ pack (field0 (t.op (3 * k))) (field1 (t.op (3 * k))) x 0) (small : x < 65536) where
  apex-0 : field0 w ≡ field0 (t.op (3 * k))
  apex-0 = field0_is (field0 (t.op (3 * k))) (field1 (t.op (3 * k))) x 0 w e (field0_small (t.op (3 * k))) (field1_small (t.op (3 * k))) small

  apex-1 : field1 w ≡ field1 (t.op (3 * k))
  apex-1 = field1_is (field0 (t.op (3 * k))) (field1 (t.op (3 * k))) x 0 w e (field0_small (t.op (3 * k))) (field1_small (t.op (3 * k))) small

  apex-2 : field2 w ≡ x
  apex-2 = field2_is (field0 (t.op (3 * k))) (field1 (t.op (3 * k))) x 0 w e (field0_small (t.op (3 * k))) (field1_small (t.op (3 * k))) small

  apexes : ◌≡◌ {A = ℕ → ℕ} (λ j. field2 (upd (3 * k) w t.op (3 * j))) (upd k x (λ j. field2 (t.op (3 * j))))
  apexes = fun_ext (λ j. elim (ℕ_discrete j k) [
    | yes q ↦ rw (upd-at (3 * k) (3 * j) w t.op (omega arith), upd-at k j x (λ j. field2 (t.op (3 * j))) q) apex-2
    | no q ↦ rw (upd_other (3 * k) (3 * j) w t.op (omega (arith, q)), upd_other k j x (λ j. field2 (t.op (3 * j))) q)
  ])

  pub peeling-apex : peeling_of (set_op (3 * k) w t) ≡ set_apex k x (peeling_of t)
  unfolding peeling_of set_op set_apex
  peeling-apex = λ i. record {
    turn = field-kept field0 (3 * k) w t.op apex-0 i;
    origin = field-kept field1 (3 * k) w t.op apex-1 i;
    apex = apexes i;
    degree = λ v. field0 (t.head v);
    left = λ v. field1 (t.head v);
    right = λ v. field2 (t.head v);
    sets = t.count;
    order = λ k. t.mark (2 * k + 1);
  }

module _ (t : Tables) (v x l r w : ℕ) (e : w ≡ pack x l r 0) (hx : x < 65536) (hl : l < 65536) (hr : r < 65536) where
  pub peeling_vertex : peeling_of (set_head v w t) ≡ set_vertex v x l r (peeling_of t)
  unfolding peeling_of set_head set_vertex
  peeling_vertex = λ i. record {
    turn = λ d. field0 (t.op d);
    origin = λ d. field1 (t.op d);
    apex = λ k. field2 (t.op (3 * k));
    degree = field-set field0 v w x t.head (field0_is x l r 0 w e hx hl hr) i;
    left = field-set field1 v w l t.head (field1_is x l r 0 w e hx hl hr) i;
    right = field-set field2 v w r t.head (field2_is x l r 0 w e hx hl hr) i;
    sets = t.count;
    order = λ k. t.mark (2 * k + 1);
  }

pub peeling-order : (t : Tables) (k x : ℕ) → peeling_of (set_mark (2 * k + 1) x t) ≡ set_order k x (peeling_of t)
unfolding peeling_of set_mark set_order
peeling-order t k x =
    let orders : ◌≡◌ {A = ℕ → ℕ} (λ j. upd (2 * k + 1) x t.mark (2 * j + 1)) (upd k x (λ j. t.mark (2 * j + 1))) =
    fun_ext (λ j. elim (ℕ_discrete j k) [
      | yes q ↦ rw (upd-at (2 * k + 1) (2 * j + 1) x t.mark (omega arith), upd-at k j x (λ j. t.mark (2 * j + 1)) q)
      | no q ↦ rw (upd_other (2 * k + 1) (2 * j + 1) x t.mark (omega (arith, q)), upd_other k j x (λ j. t.mark (2 * j + 1)) q)
    ]) in
    λ i. record {
      turn = λ d. field0 (t.op d);
      origin = λ d. field1 (t.op d);
      apex = λ k. field2 (t.op (3 * k));
      degree = λ v. field0 (t.head v);
      left = λ v. field1 (t.head v);
      right = λ v. field2 (t.head v);
      sets = t.count;
      order = orders i;
    }

-- ---- a part of a vertex's word for another, where the rest is what it was

same-entry : (v : ℕ) (f : ℕ → ℕ) → upd v (f v) f ≡ f
same-entry v f = fun_ext (λ j. elim (ℕ_discrete j v) [
  | yes q ↦ upd-at v j (f v) f q ∙ ap f (sym q)
  | no q ↦ upd_other v j (f v) f q
])

module _ (p : Peeling) (v x : ℕ) where
  only_degree : set_vertex v x (p.left v) (p.right v) p ≡ set_degree v x p
  unfolding set_vertex set_degree
  only_degree = λ i. record {
    turn = p.turn;
    origin = p.origin;
    apex = p.apex;
    degree = upd v x p.degree;
    left = same-entry v p.left i;
    right = same-entry v p.right i;
    sets = p.sets;
    order = p.order;
  }

  only_left : set_vertex v (p.degree v) x (p.right v) p ≡ set_left v x p
  unfolding set_vertex set_left
  only_left = λ i. record {
    turn = p.turn;
    origin = p.origin;
    apex = p.apex;
    degree = same-entry v p.degree i;
    left = upd v x p.left;
    right = same-entry v p.right i;
    sets = p.sets;
    order = p.order;
  }

  only_right : set_vertex v (p.degree v) (p.left v) x p ≡ set_right v x p
  unfolding set_vertex set_right
  only_right = λ i. record {
    turn = p.turn;
    origin = p.origin;
    apex = p.apex;
    degree = same-entry v p.degree i;
    left = same-entry v p.left i;
    right = upd v x p.right;
    sets = p.sets;
    order = p.order;
  }

-- as the code stores them
module _ (p p' : Peeling) (v x k l r : ℕ) where
  pub degree-stored : l ≡ p.left v → r ≡ p.right v → p' ≡ set_vertex v x l r p → p' ≡ set_degree v x p
  degree-stored el er q = q ∙ rw (el, er) (only_degree p v x)

  pub left-stored : k ≡ p.degree v → r ≡ p.right v → p' ≡ set_vertex v k x r p → p' ≡ set_left v x p
  left-stored ek er q = q ∙ rw (ek, er) (only_left p v x)

  pub right_stored : k ≡ p.degree v → l ≡ p.left v → p' ≡ set_vertex v k l x p → p' ≡ set_right v x p
  right_stored ek el q = q ∙ rw (ek, el) (only_right p v x)

-- the laws by which the check proves the stores
pub ruleset stores = (peeling-apex, peeling_vertex, degree-stored, left-stored, right_stored)
