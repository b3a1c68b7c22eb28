-- How the code's searches meet the tests after a raise: the vertices that they read, their branches, their steps and their loops. Assumes nothing.
use Rattle.std.specs.Prelude.{ℕ, zero, suc, ◌+◌, ◌-◌, ◌*◌, ◌≤◌, ◌<◌, ◌≡◌, refl, ◌≢◌, ◌⊎◌, Bool, true, false, List, [], length, ℤ}
use Rattle.std.specs.Prelude.{Option, None, Some, MatchOption}
use Rattle.std.proofs.Common.{◌∙◌, inl, inr, arith, unwrap_or}
use mathlib.Core.List.Memᴰ
use Rattle.std.proofs.Math.Decide.{ℕ_discrete}
use borrow.Author.Tests.{eq-eqb, ne_eqb}
use Rattle.laws.specs.Lists.{◌∈◌}
use Rattle.definitions.specs.Refusals.{row10}
use Rattle.scratch_tables.specs.Tables.{Tables, tables_of, dart_in, past_darts}
use Rattle.repair_area.specs.Areas.{CoordinatesIn, bad_of, raise_of}
use Rattle.scratch_tables.specs.Fields.{field0, field1, field2}
use Rattle.repair_model.specs.Search.{bad_at, raise_at, next_on, walk_on, walk_on-on, Found}

-- ---- what is asked

-- the word of triangle t's corners is there, and names vertices that have their coordinates, within the limit
pub record CornersIn (s bs : List ℤ) (t : ℕ) : Type 0 where
  pub place : dart_in (length s) (3 * t + 1)
  pub first : CoordinatesIn bs (field0 ((tables_of s).op (3 * t + 1)))
  pub second : CoordinatesIn bs (field1 ((tables_of s).op (3 * t + 1)))
  pub third : CoordinatesIn bs (field2 ((tables_of s).op (3 * t + 1)))
  pub within : row10 bs ≡ false

-- there are `to` triangles: so it is for each inner one, and the walks lead from one to another
pub record SearchPre (s bs : List ℤ) (to : ℕ) : Type 0 where
  pub few : to < 65536
  pub room : 3 * to ≤ past_darts (length s)
  pub corners : (t : ℕ) → 0 < t → t < to → CornersIn s bs t
  pub walks : (c t : ℕ) → c < 3 → t < to → next_on (tables_of s) c t < to

-- ---- the corners

-- w holds the vertices p, q, r at the corners with the labels 0, 1, 2
module _ (S : Tables) (bs : List ℤ) (t w p q r : ℕ) (ew : w ≡ S.op (3 * t + 1)) (ep : p ≡ field0 w) (eq : q ≡ field1 w) (er : r ≡ field2 w) where
  pub bad-by : (x : Bool) → x ≡ bad_of bs p q r → x ≡ bad_at S bs t
  unfolding bad_at
  bad-by x e = e ∙ rw (ep, eq, er, ew)

  pub raise-by : (x : ℤ) → x ≡ raise_of bs p q r → x ≡ raise_at S bs t
  unfolding raise_at
  raise-by x e = e ∙ rw (ep, eq, er, ew)

-- ---- searches

-- the first number that passes, if one does: what a search through the numbers from a to b - 1 gives
pub found_by : (p : ℕ → Bool) (a b : ℕ) (r : Option ℕ) → a ≤ b → MatchOption r ((k : ℕ) → a ≤ k → k < b → p k ≡ false)
    (λ i. (a ≤ i) × (i < b) × (p i ≡ true) × ((k : ℕ) → a ≤ k → k < i → p k ≡ false)) →
    Found p a b (unwrap_or r b)
found_by p a b None h m = record { least = h; most = omega arith; before = m; hit = λ l. absurd (omega arith) }
found_by p a b (Some i) h m = record { least = m.0; most = omega (arith, m.1); before = m.3; hit = λ l. m.2 }

-- ---- walks

-- the code's steps
module _ (S : Tables) (c t : ℕ) where
  pub next_home : t ≡ 0 → 0 ≡ next_on S c t
  unfolding next_on
  next_home z = rw (eq-eqb t 0 z)

  pub next-2 : (w r : ℕ) → w ≡ S.op (3 * t) → r ≡ field0 w → t ≢ 0 → c ≡ 2 → r ≡ next_on S c t
  unfolding next_on
  next-2 w r ew er z e = er ∙ rw (ew, ne_eqb t 0 z, eq-eqb c 2 e)

  pub next-0 : (w r : ℕ) → w ≡ S.op (3 * t + 2) → r ≡ field0 w → t ≢ 0 → c ≢ 2 → c ≡ 0 → r ≡ next_on S c t
  unfolding next_on
  next-0 w r ew er z d e = er ∙ rw (ew, ne_eqb t 0 z, ne_eqb c 2 d, eq-eqb c 0 e)

  pub next-1 : (w r : ℕ) → w ≡ S.op (3 * t + 2) → r ≡ field1 w → t ≢ 0 → c ≢ 2 → c ≢ 0 → r ≡ next_on S c t
  unfolding next_on
  next-1 w r ew er z d e = er ∙ rw (ew, ne_eqb t 0 z, ne_eqb c 2 d, ne_eqb c 0 e)

-- r is i, if that is from `full` on, below `low`, and passes; `low`, if not
pub record Lower (p : ℕ → Bool) (full i low r : ℕ) : Type 0 where
  pub least : full ≤ low → full ≤ r
  pub most : r ≤ low
  pub clear : full ≤ i → i < r → p i ≡ false

-- On the three walks from t on, of k at most, none from `full` on and below r passes.
pub record Lowest (S : Tables) (p : ℕ → Bool) (k full t r : ℕ) : Type 0 where
  pub least : full ≤ t → full ≤ r
  pub most : r ≤ t
  pub clear : (c : ℕ) → c < 3 → (g : ℕ) → g ∈ walk_on S c k t → full ≤ g → g < r → p g ≡ false

-- none is left of a walk that is home; g is on a walk from i on if it is i or on the walk from the next one on
walk_on_home : (S : Tables) (c k : ℕ) → walk_on S c k 0 ≡ []
unfolding walk_on
walk_on_home S c zero = refl
walk_on_home S c (suc k) = refl

walk_on-step : (S : Tables) (c k i g : ℕ) → g ∈ walk_on S c (suc k) i → (g ≡ i) ⊎ (g ∈ walk_on S c k (next_on S c i))
walk_on-step S c k i g m =
    elim (ℕ_discrete i 0) [
      | yes z ↦ absurd (Memᴰ.not-nil (rw (z, walk_on_home S c (suc k)) at m))
      | no z ↦ Memᴰ.cases_cons (rw (walk_on-on S c k i z) at m)
    ]

-- the same of one walk, but for those on the rest of it, which is from i on
pub record Walking (S : Tables) (p : ℕ → Bool) (c steps full t k i r : ℕ) : Type 0 where
  pub inside : i < steps
  pub clear : (g : ℕ) → g ∈ walk_on S c steps t → full ≤ g → g < r → (g ∈ walk_on S c k i) ⊎ (p g ≡ false)

module _ (S : Tables) (p : ℕ → Bool) (c steps full t k i r : ℕ) (W : Walking S p c steps full t k i r) where
  walk_ends : walk_on S c k i ≡ [] → (g : ℕ) → g ∈ walk_on S c steps t → full ≤ g → g < r → p g ≡ false
  walk_ends e g m l h = elim (W.clear g m l h) [ inl q ↦ absurd (Memᴰ.not-nil (rw e at q)) | inr q ↦ q ]

  -- i has been looked at
  walk-next : (r' i' : ℕ) → 0 < k → r' ≤ r → (full ≤ i → i < r' → p i ≡ false) → i' ≡ next_on S c i → next_on S c i < steps →
      Walking S p c steps full t (k - 1) i' r'
  walk-next r' i' h most here e inside =
      let q : k ≡ suc (k - 1) = omega arith in
      record {
        inside = rw e inside;
        clear = λ g m l n.
            elim (W.clear g m l (omega (arith, most))) [
              | inr b ↦ inr b
              | inl b ↦ elim (walk_on-step S c (k - 1) i g (rw q at b)) [ inl a ↦ inr (rw a (here (rw a at l) (rw a at n))) | inr a ↦ inl (rw e a) ]
            ];
      }

-- the three walks together, which have come to a, b and d
pub record Walks (S : Tables) (p : ℕ → Bool) (steps full t k a b d r : ℕ) : Type 0 where
  pub least : full ≤ t → full ≤ r
  pub most : r ≤ t
  pub walk_0 : Walking S p 0 steps full t k a r
  pub walk_1 : Walking S p 1 steps full t k b r
  pub walk_2 : Walking S p 2 steps full t k d r

pub walks_begin : (S : Tables) (p : ℕ → Bool) (steps full t : ℕ) → t < steps → Walks S p steps full t steps t t t t
walks_begin S p steps full t h =
    record {
      least = λ l. l;
      most = omega arith;
      walk_0 = record { inside = h; clear = λ g m l k. inl m };
      walk_1 = record { inside = h; clear = λ g m l k. inl m };
      walk_2 = record { inside = h; clear = λ g m l k. inl m };
    }

module _ (S : Tables) (p : ℕ → Bool) (steps full t k a b d r : ℕ) (W : Walks S p steps full t k a b d r) where
  walks_end : walk_on S 0 k a ≡ [] → walk_on S 1 k b ≡ [] → walk_on S 2 k d ≡ [] → Lowest S p steps full t r
  walks_end ea eb ed =
      record {
        least = W.least;
        most = W.most;
        clear = λ c h. elim (ℕ_discrete c 0) [
          | yes e ↦ rw e (walk_ends S p 0 steps full t k a r W.walk_0 ea)
          | no x ↦
              elim (ℕ_discrete c 1) [
                | yes e ↦ rw e (walk_ends S p 1 steps full t k b r W.walk_1 eb)
                | no y ↦ let e : c ≡ 2 = omega arith in rw e (walk_ends S p 2 steps full t k d r W.walk_2 ed)
              ]
        ];
      }

  pub walks_stop : k ≡ 0 → Lowest S p steps full t r
  unfolding walk_on
  walks_stop e = walks_end (rw e) (rw e) (rw e)

  pub walks_home : a + b + d ≡ 0 → Lowest S p steps full t r
  walks_home e =
      let ea : a ≡ 0 = omega arith in
      let eb : b ≡ 0 = omega arith in
      let ed : d ≡ 0 = omega arith in
      walks_end (rw ea (walk_on_home S 0 k)) (rw eb (walk_on_home S 1 k)) (rw ed (walk_on_home S 2 k))

  -- a, b and d have been looked at, one after another, and all three walks go on
  pub walks_next : ((c t : ℕ) → c < 3 → t < steps → next_on S c t < steps) → (r0 r1 r2 a' b' d' : ℕ) → 0 < k → Lower p full a r r0 →
      Lower p full b r0 r1 → Lower p full d r1 r2 → a' ≡ next_on S 0 a → b' ≡ next_on S 1 b → d' ≡ next_on S 2 d →
      Walks S p steps full t (k - 1) a' b' d' r2
  walks_next on r0 r1 r2 a' b' d' h A B D ea eb ed =
      let fa = on 0 a (omega arith) W.walk_0.inside in
      let fb = on 1 b (omega arith) W.walk_1.inside in
      let fd = on 2 d (omega arith) W.walk_2.inside in
      let m0 = A.most in
      let m1 = B.most in
      let m2 = D.most in
      record {
        least = λ l. D.least (B.least (A.least (W.least l)));
        most = omega (arith, W.most, m0, m1, m2);
        walk_0 =
            walk-next S p 0 steps full t k a r W.walk_0 r2 a' h (omega (arith, m0, m1, m2)) (λ l n. A.clear l (omega (arith, m1, m2))) ea fa;
        walk_1 = walk-next S p 1 steps full t k b r W.walk_1 r2 b' h (omega (arith, m0, m1, m2)) (λ l n. B.clear l (omega (arith, m2))) eb fb;
        walk_2 = walk-next S p 2 steps full t k d r W.walk_2 r2 d' h (omega (arith, m0, m1, m2)) D.clear ed fd;
      }
