-- The search for the smallest vertex that can leave takes candidates, the lowest first, and with each it comes nearer. Assumes nothing.
use Prim.Native.Nat.{ℕ, ◌≤◌, ◌<◌}
use Rattle.std.specs.Prelude.{◌≡◌, ◌≢◌, true, false, not, eqb}
use Rattle.std.proofs.Math.Path.{refl}
use Rattle.std.proofs.Common.{sym, ap, ◌∙◌, arith}
use Rattle.std.proofs.Math.Decide.{dec_lt}
use borrow.Author.Tests.{ne_eqb, eqb-false, not-true}
use Rattle.laws.specs.Lists.{clash, and_both}
use Rattle.labels_tables.specs.Peeling.{Peeling}
use Rattle.labels_search.specs.Sets.{member, is_empty, lowest, Summed, member_some, lowest_in, lowest-member, lowest-least}
use Rattle.labels_search.specs.Stores.{with_sets}
use Rattle.labels_search.specs.Sets.{take_summed, take-member}
use Rattle.labels_model.specs.Model.{Found, is_removable, take_lowest}
use Rattle.labels_model.specs.Candidates.{can_same, Candidates}

-- w is the smallest vertex that can leave
pub record Lowest (n : ℕ) (t : Peeling) (w : ℕ) : Type 0 where
  pub candidates : Candidates n n t
  pub below : w < n
  pub able : is_removable t w ≡ true
  pub first : (x : ℕ) → x < w → is_removable t x ≡ false

module _ {n : ℕ} {t : Peeling} {w : ℕ} (L : Lowest n t w) where
  abbrev v : ℕ
  v = lowest n t.sets

  abbrev t₁ : Peeling
  t₁ = take_lowest n t

  w_member : member n t.sets w ≡ true
  w_member = L.candidates.all w L.below (omega (arith, L.below)) L.able

  pub some_left : is_empty t.sets ≡ false
  some_left = member_some L.candidates.summed w L.below w_member

  pub lowest_vertex : v < n
  lowest_vertex = lowest_in L.candidates.summed some_left

  pub lowest-before : v ≤ w
  lowest-before = lowest-least L.candidates.summed some_left w L.below w_member

  -- the lowest candidate that can leave is the smallest vertex that can
  pub found : is_removable t v ≡ true → v ≡ w
  found e = elim (dec_lt v w) [ yes h ↦ clash e (L.first v h) | no h ↦ omega (arith, h, lowest-before) ]

  taken-member : (x : ℕ) → x < n → x ≢ v → member n t.sets x ≡ true → member n t₁.sets x ≡ true
  unfolding take_lowest with_sets
  taken-member x h q m = take-member L.candidates.summed some_left x h ∙ rw (m, ne_eqb x v q)

  taken_summed : Summed n t₁.sets
  unfolding take_lowest with_sets
  taken_summed = take_summed L.candidates.summed some_left

  taken_can : (x : ℕ) → is_removable t₁ x ≡ is_removable t x
  unfolding take_lowest with_sets
  taken_can x = can_same t t₁ x refl refl

  -- with it taken, the others are candidates
  pub taken_candidates : Candidates n v t₁
  taken_candidates = record {
    summed = taken_summed;
    all = λ x h k e. taken-member x h k (L.candidates.all x h (omega arith) (sym (taken_can x) ∙ e));
  }

  module _ (not_able : is_removable t v ≡ false) where
    -- and where it cannot leave the search goes on, from a higher one
    pub taken : Lowest n t₁ w
    taken = record {
      candidates = record {
        summed = taken_summed;
        all = λ x h k e.
            let able = sym (taken_can x) ∙ e in
            taken-member x h (λ q. clash able (ap (is_removable t) q ∙ not_able)) (L.candidates.all x h k able);
      };
      below = L.below;
      able = taken_can w ∙ L.able;
      first = λ x h. taken_can x ∙ L.first x h;
    }

-- the next candidate is a higher one
pub taken_higher : {n : ℕ} {t : Peeling} {w : ℕ} (L : Lowest n t w) → is_removable t (lowest n t.sets) ≡ false →
    lowest n t.sets < lowest n (take_lowest n t).sets
unfolding take_lowest with_sets
taken_higher {n} {t} {w} L e =
    let L₁ : Lowest n (take_lowest n t) w = taken L e in
    let x = lowest n (take_lowest n t).sets in
    let m = lowest-member L₁.candidates.summed (some_left L₁) in
    let b = and_both (member n t.sets x) (not (eqb x (lowest n t.sets)))
    (sym (take-member L.candidates.summed (some_left L) x (lowest_vertex L₁)) ∙ m) in
    let q = eqb-false x (lowest n t.sets) (not-true (eqb x (lowest n t.sets)) b.1) in
    omega (arith, q, lowest-least L.candidates.summed (some_left L) x (lowest_vertex L₁) b.0)

-- the search has found w, and changed only the sets
pub record Sought (n : ℕ) (t : Peeling) (w : ℕ) (f : Found) : Type 0 where
  pub here : f.vertex ≡ w
  pub tables : f.tables ≡ with_sets f.tables.sets t
  pub candidates : Candidates n w f.tables
