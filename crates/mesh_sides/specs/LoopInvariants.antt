-- What is known at each iteration of the loops that fill the lists and of rows 5 and 6: what is left to do from here gives what the whole gives.
-- Assumes nothing.
use Prim.Native.Nat.{ℕ, suc, ◌+◌, ◌-◌, ◌*◌, ◌/◌, ◌%◌, ◌≤◌, ◌<◌}
use Rattle.std.specs.Prelude.{◌≡◌, Bool, ◌&&◌, leb, List, ◌∷◌, length, ℤ, Result, Ok, Err}
use Rattle.std.specs.Int.{from_bool}
use Rattle.std.proofs.Math.Path.{refl, sym, ap}
use Rattle.std.proofs.Common.{◌∙◌}
use Rattle.std.proofs.Math.Bool.{true, false, cond}
use native.Mathlib.Omega.{arith}
use Rattle.std.proofs.Math.Decide.{dec_lt, dec_le}
use borrow.Author.Tests.{eq-eqb, ne_eqb, le-leb, lt-leb}
use Rattle.definitions.specs.Mesh.{next, prev, org, row4, fronted}
use Rattle.theory_sphere.specs.Fronted.{listed, listed-outer, listed-moved, listed_kept, length-fronted}
use Rattle.laws.specs.Lists.{clash}
use Rattle.scratch_tables.specs.Tables.{upd, dart_in}
use Rattle.mesh_tables.specs.Incidence.{Incidence, incidence, set_turn, set_mark, with_turn, with_mark}
use Rattle.mesh_model.specs.IncidenceLists.{chain, list_at, put_first, push, fill, Counted, empty_counts, push_counts}
use Rattle.mesh_model.specs.Bounds.{Bounded, bounded_mark, bounded_turn}
use Rattle.mesh_model.specs.DuplicateSides.{Scan, noted, noted-dart, is_of, clashes, scan, scan_all, scan_clash, scan-on}
use Rattle.mesh_model.specs.Opposites.{Join, Round, facing, meets, join, scanned, joined, join_all}
use Rattle.mesh_model.specs.RingWalk.{one_ring}
use Rattle.mesh_rings.specs.RingLoops.{Rounding}
use Rattle.mesh_sides.specs.RepeatedVertex.{repeated_at, repeated_in, repeated_is, NoLoops, loop_found, loops-none, no_loops}
use Rattle.mesh_answer.specs.declared.Refusal.{Refusal}
use Rattle.mesh_answer.specs.declared.Refusal.TheVariants.{RepeatedSide, UnpairedSide}
use Rattle.mesh_sides.specs.Room.{Pushing, PushingThree, corner_is, PushingAt, Fillable, Filling, Beside, AtVertex, Ready, beside_next, beside_prev}

-- ---- lists are filled from the last triangle down to that of dart d

-- what the three darts from d on ask, and what they leave: nothing is said where a vertex is twice in their triangle
pub record ThreePushed (ts : List ℕ) (s s' : List ℤ) (d : ℕ) (r : Bool) : Type 0 where
  pub found : r ≡ repeated_at ts d
  pub same : r ≡ false → incidence s' ≡ push ts d (push ts (d + 1) (push ts (d + 2) (incidence s)))

-- three darts at once
abbrev three : List ℕ → ℕ → Incidence → Incidence
three ts d i = push ts d (push ts (d + 1) (push ts (d + 2) i))

three-fill : (ts : List ℕ) (d : ℕ) (i : Incidence) → fill ts (d + 3) i ≡ fill ts d (three ts d i)
unfolding fill
three-fill ts d i =
    let a : d + 3 ≡ suc (suc (suc d)) = omega arith in
    let b : d + 2 ≡ suc (suc d) = omega arith in
    let c : d + 1 ≡ suc d = omega arith in
    rw (a, b, c)

three_counts : (ts : List ℕ) (d : ℕ) (i : Incidence) → Counted ts (d + 3) i → Counted ts d (three ts d i)
three_counts ts d i C =
    let a : d + 3 ≡ suc (suc (suc d)) = omega arith in
    let b : d + 2 ≡ suc (suc d) = omega arith in
    let c : d + 1 ≡ suc d = omega arith in
    rw (b, c) (push_counts ts d (push ts (suc d) (push ts (suc (suc d)) i))
    (push_counts ts (suc d) (push ts (suc (suc d)) i) (push_counts ts (suc (suc d)) i (rw a at C))))

-- the darts from d on, and below `high`, are in front of what the lists held
pub record Filled (ts : List ℕ) (s₀ s : List ℤ) (high d : ℕ) : Type 0 where
  pub long : length s ≡ length s₀
  pub first : d % 3 ≡ 0
  pub low : d ≤ high
  pub top : high ≤ length ts
  pub count : Counted ts d (incidence s)
  pub clean : NoLoops ts high d
  pub rest : fill ts d (incidence s) ≡ fill ts high (incidence s₀)

-- what a loop says that fills so far: it has met a vertex twice in a triangle, or they are
pub record FilledTo (ts : List ℕ) (s₀ s : List ℤ) (high d : ℕ) (r : Bool) : Type 0 where
  pub found : r ≡ true → row4 ts ≡ true
  pub filled : r ≡ false → Filled ts s₀ s high d

-- row 4, and the tables where it finds nothing
pub record AllFilled (ts : List ℕ) (s s' : List ℤ) (r : Bool) : Type 0 where
  pub found : r ≡ row4 ts
  pub same : r ≡ false → incidence s' ≡ fill ts (length ts) (incidence s)

-- ---- the darts are those of the mesh, the list as lent with its outer triangle in front

module _ (outer_place : ℕ) (ts : List ℕ) where
  abbrev mesh : List ℕ
  mesh = fronted outer_place ts

  as_long : length mesh ≡ length ts
  as_long = length-fronted outer_place ts

  -- the corners are read at `place`
  module _ (s : List ℤ) (d : ℕ) (P : PushingThree outer_place ts s d) (place a b c : ℕ) (is : place ≡ listed outer_place d)
      (at : a ≡ org ts place) (bt : b ≡ org ts (place + 1)) (ct : c ≡ org ts (place + 2)) where
    first_is : a ≡ org mesh d
    first_is =
        let z : place + 0 ≡ place = omega arith in
        let y : d + 0 ≡ d = omega arith in
        rw y at (corner_is P place is 0 a (omega arith) (rw z at))

    second_is : b ≡ org mesh (d + 1)
    second_is = corner_is P place is 1 b (omega arith) bt

    third_is : c ≡ org mesh (d + 2)
    third_is = corner_is P place is 2 c (omega arith) ct

    found_is : (r : Bool) → repeated_in a b c ≡ r → r ≡ repeated_at mesh d
    found_is r e = sym e ∙ repeated_is mesh d a b c P.first first_is second_is third_is

    pub three-repeated : repeated_in a b c ≡ true → ThreePushed mesh s s d true
    three-repeated e = record { found = found_is true e; same = λ q. clash refl q }

    room : (s' : List ℤ) (e v : ℕ) → e < 3 → v ≡ org mesh (d + e) → v < 65536 → length s' ≡ length s → Counted mesh (d + e + 1) (incidence s')
        → Pushing s' (d + e) v
    room s' e v h q low l C = record {
      place = omega (arith, P.three, P.darts, l);
      small = omega (arith, P.three, P.few);
      vertex = rw (l, q) (P.vertex (d + e));
      origin = low;
      number = omega (arith, C v, as_long, P.few);
    }

    pub pushing_last : c < 65536 → Pushing s (d + 2) c
    pushing_last low = let z : d + 3 ≡ d + 2 + 1 = omega arith in room s 2 c (omega arith) third_is low refl (rw z at P.count)

    module _ (s₁ : List ℤ) (l₁ : length s₁ ≡ length s) (e₁ : incidence s₁ ≡ put_first (d + 2) c (incidence s)) where
      put_third : incidence s₁ ≡ push mesh (d + 2) (incidence s)
      unfolding push
      put_third = rw (sym third_is) e₁

      counted₁ : Counted mesh (d + 2) (incidence s₁)
      counted₁ = let z : d + 3 ≡ suc (d + 2) = omega arith in rw put_third (push_counts mesh (d + 2) (incidence s) (rw z at P.count))

      pub pushing_middle : b < 65536 → Pushing s₁ (d + 1) b
      pushing_middle low = let z : d + 2 ≡ d + 1 + 1 = omega arith in room s₁ 1 b (omega arith) second_is low l₁ (rw z at counted₁)

      module _ (s₂ : List ℤ) (l₂ : length s₂ ≡ length s₁) (e₂ : incidence s₂ ≡ put_first (d + 1) b (incidence s₁)) where
        put_second : incidence s₂ ≡ push mesh (d + 1) (incidence s₁)
        unfolding push
        put_second = rw (sym second_is) e₂

        pub pushing_first : a < 65536 → Pushing s₂ d a
        pushing_first low =
            let z : d + 2 ≡ suc (d + 1) = omega arith in
            let y : d + 0 ≡ d = omega arith in
            let w : d + 1 ≡ d + 0 + 1 = omega arith in
            let C : Counted mesh (d + 1) (incidence s₂) = rw put_second (push_counts mesh (d + 1) (incidence s₁) (rw z at counted₁)) in
            rw y at (room s₂ 0 a (omega arith) (rw y first_is) low (l₂ ∙ l₁) (rw w at C))

        put_first_lem : (s₃ : List ℤ) → incidence s₃ ≡ put_first d a (incidence s₂) → incidence s₃ ≡ push mesh d (incidence s₂)
        unfolding push
        put_first_lem s₃ e₃ = rw (sym first_is) e₃

        pub three_pushed : repeated_in a b c ≡ false → (s₃ : List ℤ) → incidence s₃ ≡ put_first d a (incidence s₂) → ThreePushed mesh s s₃ d false
        three_pushed e s₃ e₃ = record {
          found = found_is false e;
          same = λ _. put_first_lem s₃ e₃ ∙ ap (push mesh d) (put_second ∙ ap (push mesh (d + 1)) put_third);
        }

  -- ---- the loop over triangles behind the outer one, which keep their places, or over those before it, which have each moved by one

  module _ (s₀ : List ℤ) (low high : ℕ) (F : Fillable outer_place ts s₀ low high) where
    pub filled_start : Filled mesh s₀ s₀ (3 * high) (3 * high)
    filled_start = record {
      long = refl;
      first = omega arith;
      low = omega arith;
      top = omega (arith, F.top, as_long);
      count = F.count;
      clean = λ e h m. absurd (omega arith);
      rest = refl;
    }

    -- those from t on are; the one before is next
    module _ (s : List ℤ) (t : ℕ) (some : 0 < t) (I : Filled mesh s₀ s (3 * high) (3 * t)) where
      pushing : PushingThree outer_place ts s (3 * (t - 1))
      pushing =
          let z : 3 * t ≡ 3 * (t - 1) + 3 = omega arith in
          record {
            there = F.there;
            first = omega arith;
            three = omega (arith, I.low, F.top);
            few = F.few;
            darts = omega (arith, F.darts, I.long);
            vertex = λ e. rw I.long (F.vertex e);
            count = rw z at I.count;
          }

      -- after it
      module _ (s' : List ℤ) (r : Bool) (P : ThreePushed mesh s s' (3 * (t - 1)) r) where
        low_three : 3 * (t - 1) + 2 < length mesh
        low_three = omega (arith, I.low, I.top)

        twice : r ≡ true → row4 mesh ≡ true
        twice e = loop_found mesh (3 * (t - 1)) low_three (sym P.found ∙ e)

        next_filled : r ≡ false → length s' ≡ length s → Filled mesh s₀ s' (3 * high) (3 * (t - 1))
        next_filled e l =
            let z : 3 * t ≡ 3 * (t - 1) + 3 = omega arith in
            record {
              long = l ∙ I.long;
              first = omega arith;
              low = omega (arith, I.low);
              top = I.top;
              count = rw (P.same e) (three_counts mesh (3 * (t - 1)) (incidence s) (rw z at I.count));
              clean = loops-none mesh (3 * (t - 1)) low_three (3 * high) (sym P.found ∙ e) (rw z at I.clean);
              rest = rw (P.same e) (sym (three-fill mesh (3 * (t - 1)) (incidence s)) ∙ (rw z at I.rest));
            }

    module _ (s : List ℤ) (t moved : ℕ) (e : moved ≡ from_bool (leb low outer_place)) (h : low < t) (l : t ≤ high)
        (I : Filled mesh s₀ s (3 * high) (3 * t)) where
      stands : 3 * (t - 1 - moved) ≡ listed outer_place (3 * (t - 1))
      stands = elim (dec_le low outer_place) [
        | yes m ↦
            let one : moved ≡ 1 = e ∙ ap from_bool (le-leb low outer_place m) in
            omega (arith, F.side m, listed-moved outer_place (3 * (t - 1)) (omega (arith, F.some)) (omega (arith, F.side m)))
        | no m ↦
            let none : moved ≡ 0 = e ∙ ap from_bool (lt-leb low outer_place (omega (arith, m))) in
            omega (arith, listed_kept outer_place (3 * (t - 1)) (omega (arith, m)))
      ]

      pub between_pushing : PushingAt ts s (3 * (t - 1 - moved)) (3 * (t - 1))
      between_pushing = record { outer_place = outer_place; room = pushing s t (omega arith) I; is = stands }

      module _ (s' : List ℤ) (r : Bool)
          (P : (A : PushingAt ts s (3 * (t - 1 - moved)) (3 * (t - 1))) → ThreePushed (fronted A.outer_place ts) s s' (3 * (t - 1)) r) where
        pub between_twice : r ≡ true → (s'' : List ℤ) (to : ℕ) → FilledTo mesh s₀ s'' (3 * high) to true
        unfolding between_pushing
        between_twice f s'' to = record { found = λ _. twice s t (omega arith) I s' r (P between_pushing) f; filled = λ q. clash refl q }

        pub between_next : r ≡ false → length s' ≡ length s → Filled mesh s₀ s' (3 * high) (3 * (t - 1))
        unfolding between_pushing
        between_next f m = next_filled s t (omega arith) I s' r (P between_pushing) f m

  -- ---- all triangles: those behind the outer one, those before it, and the outer one

  module _ (s₀ : List ℤ) (R : (3 * outer_place + 3 ≤ length ts) × Filling mesh s₀) where
    count_is : 3 * (length ts / 3) ≡ length mesh
    count_is = omega (arith, as_long, R.1.whole)

    pub can_fill_behind : Fillable outer_place ts s₀ (outer_place + 1) (length ts / 3)
    can_fill_behind =
        let F = R.1 in
        record {
          there = R.0;
          some = omega arith;
          order = omega (arith, R.0);
          side = λ h. omega (arith, h);
          top = omega (arith, count_is, as_long);
          few = omega (arith, F.few, as_long);
          darts = omega (arith, F.darts, as_long);
          vertex = F.vertex;
          count = λ v. omega (arith, empty_counts mesh (incidence s₀) F.empty v, count_is);
        }

    module _ (s₁ : List ℤ) (r₁ : Bool) (A : FilledTo mesh s₀ s₁ (3 * (length ts / 3)) (3 * (outer_place + 1)) r₁) where
      module _ (e₁ : r₁ ≡ false) where
        pub can_fill-before : Fillable outer_place ts s₁ 1 (outer_place + 1)
        can_fill-before =
            let I = A.filled e₁ in
            record {
              there = R.0;
              some = omega arith;
              order = omega arith;
              side = λ _. omega arith;
              top = omega (arith, R.0);
              few = can_fill_behind.few;
              darts = omega (arith, can_fill_behind.darts, I.long);
              vertex = λ d. rw I.long (can_fill_behind.vertex d);
              count = I.count;
            }

        module _ (s₂ : List ℤ) (r₂ : Bool) (B : FilledTo mesh s₁ s₂ (3 * (outer_place + 1)) (3 * 1) r₂) where
          module _ (e₂ : r₂ ≡ false) where
            both : Filled mesh s₀ s₂ (3 * (length ts / 3)) (3 * 1)
            both =
                let I = A.filled e₁ in
                let J = B.filled e₂ in
                record {
                  long = J.long ∙ I.long;
                  first = J.first;
                  low = omega (arith, R.0, count_is, as_long);
                  top = I.top;
                  count = J.count;
                  clean = λ e h l. elim (dec_lt e (3 * (outer_place + 1))) [ yes k ↦ J.clean e h k | no k ↦ I.clean e (omega (arith, k)) l ];
                  rest = J.rest ∙ I.rest;
                }

            outer_room : PushingThree outer_place ts s₂ 0
            outer_room = pushing s₀ (outer_place + 1) (length ts / 3) can_fill_behind s₂ 1 (omega arith) both

            pub outer_pushing : PushingAt ts s₂ (3 * outer_place) 0
            outer_pushing = record { outer_place = outer_place; room = outer_room; is = omega (arith, listed-outer outer_place 0 (omega arith)) }

            pub outer_pushed : (s₃ : List ℤ) (r : Bool) → length s₃ ≡ length s₂
                → ((P : PushingAt ts s₂ (3 * outer_place) 0) → ThreePushed (fronted P.outer_place ts) s₂ s₃ 0 r) → AllFilled mesh s₀ s₃ r
            unfolding fill outer_pushing
            outer_pushed s₃ r l E = go r refl
              where
                P : ThreePushed mesh s₂ s₃ 0 r
                P = E outer_pushing

                go : (b : Bool) → r ≡ b → AllFilled mesh s₀ s₃ r
                go true e = record {
                  found = e ∙ sym (twice s₀ (outer_place + 1) (length ts / 3) can_fill_behind s₂ 1 (omega arith) both s₃ r P e);
                  same = λ q. clash e q;
                }
                go false e =
                    let I = next_filled s₀ (outer_place + 1) (length ts / 3) can_fill_behind s₂ 1 (omega arith) both s₃ r P e l in
                    record {
                      found = e ∙ sym (no_loops mesh (rw count_is at I.clean));
                      same = λ _. I.rest ∙ ap (λ (k : ℕ). fill mesh k (incidence s₀)) count_is;
                    }

-- ---- tables that differ in one table only

only_mark : (i i₀ : Incidence) (f : ℕ → ℕ) → i ≡ with_mark f i₀ → i ≡ with_mark i.mark i₀
unfolding with_mark
only_mark i i₀ f e = e ∙ ap (λ (g : ℕ → ℕ). with_mark g i₀) (sym (ap (λ (i : Incidence). i.mark) e))

only_turn : (i i₀ : Incidence) (f : ℕ → ℕ) → i ≡ with_turn f i₀ → i ≡ with_turn i.turn i₀
unfolding with_turn
only_turn i i₀ f e = e ∙ ap (λ (g : ℕ → ℕ). with_turn g i₀) (sym (ap (λ (i : Incidence). i.turn) e))

-- what is in range stays so
abbrev pub Keeps : List ℤ → List ℤ → Type 0
Keeps s s' = (T : ℕ) → Bounded T (length s) (incidence s) → Bounded T (length s) (incidence s')

-- ---- the darts that leave a vertex leave their marks

-- dart e of vertex v leaves its mark, unless there is a mark of v where it leads
pub record Left (s s' : List ℤ) (v e : ℕ) (r : Bool) : Type 0 where
  pub found : r ≡ clashes (incidence s).origin v (incidence s).mark e
  pub same : incidence s' ≡ cond r (incidence s) (set_mark ((incidence s).origin (next e)) (noted v e) (incidence s))

module _ (s : List ℤ) (v e d w m : ℕ) (after : d ≡ next e) (at : w ≡ (incidence s).origin d) (is : m ≡ (incidence s).mark w) where
  mark-there : m ≡ (incidence s).mark ((incidence s).origin (next e))
  mark-there = is ∙ ap (incidence s).mark (at ∙ ap (incidence s).origin after)

  pub left_clash : m / 65536 ≡ v + 1 → Left s s v e true
  unfolding clashes is_of
  left_clash h = record {
    found = sym (eq-eqb ((incidence s).mark ((incidence s).origin (next e)) / 65536) (v + 1) (ap (λ (x : ℕ). x / 65536) (sym mark-there) ∙ h));
    same = refl;
  }

  pub left-on : (s' : List ℤ) → (m / 65536 ≡ v + 1 → ⊥) → e < 65536 → incidence s' ≡ set_mark w (65536 * (v + 1) + e) (incidence s) → Left s s' v e false
  unfolding clashes is_of noted
  left-on s' h few x =
      let z : 65536 * (v + 1) + e ≡ 65536 * (v + 1) + e % 65536 = omega arith in
      record {
        found = sym (ne_eqb ((incidence s).mark ((incidence s).origin (next e)) / 65536) (v + 1) (λ z. h (ap (λ (y : ℕ). y / 65536) mark-there ∙ z)));
        same =
            x ∙ ap (λ (y : ℕ). set_mark w y (incidence s)) z
            ∙ ap (λ (u : ℕ). set_mark u (65536 * (v + 1) + e % 65536) (incidence s)) (at ∙ ap (incidence s).origin after);
      }

-- k darts of v from h on are walked; i of them are done, and e is the next
pub record Marking (s₀ : List ℤ) (v k h : ℕ) (s : List ℤ) (e i : ℕ) : Type 0 where
  pub long : length s ≡ length s₀
  pub bounds : Keeps s₀ s
  pub dart : (T : ℕ) → Bounded T (length s₀) (incidence s₀) → e < 3 * T
  pub same : incidence s ≡ with_mark (incidence s).mark (incidence s₀)
  pub rest : scan (incidence s₀).origin v (chain (incidence s₀).turn (k - i) e) (incidence s).mark
      ≡ scan (incidence s₀).origin v (chain (incidence s₀).turn k h) (incidence s₀).mark

pub marking_start : (s : List ℤ) (v k h : ℕ) → h ≡ (incidence s).first v → Marking s v k h s h 0
unfolding with_mark
marking_start s v k h q =
    let z : k - 0 ≡ k = omega arith in
    record { long = refl; bounds = λ T B. B; dart = λ T B. omega (arith, B.first v); same = refl; rest = rw z }

left : (turn : ℕ → ℕ) (k i e : ℕ) → i < k → chain turn (k - i) e ≡ e ∷ chain turn (k - (i + 1)) (turn e)
unfolding chain
left turn k i e h = let z : k - i ≡ suc (k - (i + 1)) = omega arith in rw z

-- the tables beside the marks are those of the start
same_turn : (s₀ s : List ℤ) → incidence s ≡ with_mark (incidence s).mark (incidence s₀) → (incidence s).turn ≡ (incidence s₀).turn
unfolding with_mark
same_turn s₀ s e = ap (λ (i : Incidence). i.turn) e

same-origin : (s₀ s : List ℤ) → incidence s ≡ with_mark (incidence s).mark (incidence s₀) → (incidence s).origin ≡ (incidence s₀).origin
unfolding with_mark
same-origin s₀ s e = ap (λ (i : Incidence). i.origin) e

-- dart e has its word, and so has the vertex that it leads to
pub marking_dart : (s₀ : List ℤ) (v k h : ℕ) (s : List ℤ) (e i : ℕ) → AtVertex s₀ v → Marking s₀ v k h s e i → (s' : List ℤ) → length s' ≡ length s
    → dart_in (length s') e
marking_dart s₀ v k h s e i A I s' l = omega (arith, I.long, I.dart A.triangles A.bounds, A.bounds.room)

pub marking_beside : (s₀ : List ℤ) (v k h : ℕ) (s : List ℤ) (e i : ℕ) → AtVertex s₀ v → Marking s₀ v k h s e i → Beside s v e (next e)
marking_beside s₀ v k h s e i A I =
    beside_next s (rw I.long (I.bounds A.triangles A.bounds)) (I.dart A.triangles A.bounds) A.small

module _ (s₀ : List ℤ) (v k h : ℕ) (s : List ℤ) (e i : ℕ) (l : i < k) (I : Marking s₀ v k h s e i) where
  -- what is left, if e clashes or not
  abbrev later : List ℕ
  later = chain (incidence s₀).turn (k - (i + 1)) ((incidence s₀).turn e)

  marking_rest : scan (incidence s₀).origin v (e ∷ later) (incidence s).mark
      ≡ scan (incidence s₀).origin v (chain (incidence s₀).turn k h) (incidence s₀).mark
  marking_rest = ap (λ (ds : List ℕ). scan (incidence s₀).origin v ds (incidence s).mark) (sym (left (incidence s₀).turn k i e l)) ∙ I.rest

  clash_is : clashes (incidence s).origin v (incidence s).mark e ≡ clashes (incidence s₀).origin v (incidence s).mark e
  clash_is = ap (λ (o : ℕ → ℕ). clashes o v (incidence s).mark e) (same-origin s₀ s I.same)

  marking_found : clashes (incidence s).origin v (incidence s).mark e ≡ true
      → record { found = true; mark = (incidence s).mark } ≡ scan (incidence s₀).origin v (chain (incidence s₀).turn k h) (incidence s₀).mark
  marking_found c = sym (scan_clash (incidence s₀).origin v e later (incidence s).mark (sym clash_is ∙ c)) ∙ marking_rest

  pub marking_next : (s' : List ℤ) (e' : ℕ) (r : Bool) → r ≡ false → length s' ≡ length s → Left s s' v e r → e' ≡ (incidence s').turn e
      → Marking s₀ v k h s' e' (i + 1)
  unfolding set_mark with_mark
  marking_next s' e' r f m L q =
      let c : clashes (incidence s₀).origin v (incidence s).mark e ≡ false = sym clash_is ∙ sym L.found ∙ f in
      let x : incidence s' ≡ set_mark ((incidence s).origin (next e)) (noted v e) (incidence s) = rw f at L.same in
      let o = same-origin s₀ s I.same in
      let t : (incidence s').turn ≡ (incidence s).turn = ap (λ (i : Incidence). i.turn) x in
      let u : e' ≡ (incidence s₀).turn e = q ∙ ap (λ (f : ℕ → ℕ). f e) (t ∙ same_turn s₀ s I.same) in
      let to = upd ((incidence s).origin (next e)) (noted v e) (incidence s).mark in
      let a : (incidence s').mark ≡ upd ((incidence s₀).origin (next e)) (noted v e) (incidence s).mark =
      ap (λ (i : Incidence). i.mark) x ∙ ap (λ (o : ℕ → ℕ). upd (o (next e)) (noted v e) (incidence s).mark) o in
      record {
        long = m ∙ I.long;
        bounds = λ T B.
            let C = I.bounds T B in
            rw x (bounded_mark C ((incidence s).origin (next e)) (noted v e)
            (let d = I.dart T B in let n = noted-dart v e (omega (arith, C.few)) in omega arith));
        dart = λ T B. let d = B.turn e (I.dart T B) in rw u d;
        same = only_mark (incidence s') (incidence s₀) to (x ∙ ap (with_mark to) I.same);
        rest = rw (a, u) (sym (scan-on (incidence s₀).origin v e later (incidence s).mark c) ∙ marking_rest);
      }

-- what the whole walk gives
abbrev pub marks : List ℤ → ℕ → Scan
marks s v = scan (incidence s).origin v (list_at (incidence s) v) (incidence s).mark

pub record Marked (s s' : List ℤ) (v : ℕ) (r : Bool) : Type 0 where
  pub found : r ≡ (marks s v).found
  pub same : incidence s' ≡ with_mark (marks s v).mark (incidence s)
  pub bounds : Keeps s s'

module _ (s₀ : List ℤ) (v k h : ℕ) (a : k ≡ (incidence s₀).number v) (b : h ≡ (incidence s₀).first v) where
  marked : (s : List ℤ) (r : Bool) → Keeps s₀ s → incidence s ≡ with_mark (incidence s).mark (incidence s₀)
      → record { found = r; mark = (incidence s).mark } ≡ scan (incidence s₀).origin v (chain (incidence s₀).turn k h) (incidence s₀).mark
      → Marked s₀ s v r
  marked s r K e q =
      let w : record { found = r; mark = (incidence s).mark } ≡ marks s₀ v = rw (a, b) at q in
      record {
        found = ap (λ (x : Scan). x.found) w;
        same = e ∙ ap (λ (x : Scan). with_mark x.mark (incidence s₀)) w;
        bounds = K;
      }

  pub marked_found : (s s' : List ℤ) (e i : ℕ) (r : Bool) → i < k → r ≡ true → Left s s' v e r → Marking s₀ v k h s e i → Marked s₀ s' v true
  marked_found s s' e i r l f L I =
      let x : incidence s' ≡ incidence s = rw f at L.same in
      let m : (incidence s').mark ≡ (incidence s).mark = ap (λ (i : Incidence). i.mark) x in
      marked s' true (λ T B. rw x (I.bounds T B)) (rw x I.same) (rw m (marking_found s₀ v k h s e i l I (sym L.found ∙ f)))

  pub marked_none : (s : List ℤ) (e i : ℕ) → k ≤ i → Marking s₀ v k h s e i → Marked s₀ s v false
  unfolding chain scan
  marked_none s e i l I = let z : k - i ≡ 0 = omega arith in marked s false I.bounds I.same (rw z at I.rest)

-- ---- vertex by vertex, from u on

pub record Scanning (u n : ℕ) (s₀ s : List ℤ) (v : ℕ) : Type 0 where
  pub long : length s ≡ length s₀
  pub bounds : Keeps s₀ s
  pub same : incidence s ≡ with_mark (incidence s).mark (incidence s₀)
  pub rest : scan_all (incidence s₀) (n - v) v (incidence s).mark ≡ scan_all (incidence s₀) (n - u) u (incidence s₀).mark

pub record Scanned (u n : ℕ) (s s' : List ℤ) (r : Bool) : Type 0 where
  pub found : r ≡ (scan_all (incidence s) (n - u) u (incidence s).mark).found
  pub same : incidence s' ≡ with_mark (scan_all (incidence s) (n - u) u (incidence s).mark).mark (incidence s)

pub scanning_start : (u n : ℕ) (s : List ℤ) → Scanning u n s s u
unfolding with_mark
scanning_start u n s = record { long = refl; bounds = λ T B. B; same = refl; rest = refl }

-- room for vertex v, whatever of it has changed within range
pub ready_at : (n : ℕ) (s₀ s : List ℤ) (v : ℕ) → Ready n s₀ → v < n → length s ≡ length s₀ → Keeps s₀ s → AtVertex s v
ready_at n s₀ s v R h l K = record {
  triangles = R.triangles;
  bounds = rw l (K R.triangles R.bounds);
  vertex = omega (arith, R.vertices);
  small = omega (arith, R.small);
}

module _ (u n : ℕ) (s₀ s : List ℤ) (v : ℕ) (I : Scanning u n s₀ s v) where
  pub scanning_at : Ready n s₀ → v < n → AtVertex s v
  scanning_at R h = ready_at n s₀ s v R h I.long I.bounds

  -- the lists are those of the start
  now_scan : Scan
  now_scan = scan (incidence s₀).origin v (list_at (incidence s₀) v) (incidence s).mark

  now_is : marks s v ≡ now_scan
  unfolding with_mark now_scan
  now_is = ap (λ (i : Incidence). scan i.origin v (list_at i v) (incidence s).mark) I.same

  now_mark : (s' : List ℤ) (r : Bool) → Marked s s' v r → incidence s' ≡ with_mark now_scan.mark (incidence s₀)
  unfolding with_mark
  now_mark s' r M = M.same ∙ ap (λ (x : Scan). with_mark x.mark (incidence s)) now_is ∙ ap (with_mark now_scan.mark) I.same

  pub scanning_found : (s' : List ℤ) (r : Bool) → r ≡ true → v < n → Marked s s' v r → Scanned u n s₀ s' true
  unfolding scan_all now_scan
  scanning_found s' r t h M =
      let z : n - v ≡ suc (n - suc v) = omega arith in
      let f : now_scan.found ≡ true = sym (sym t ∙ M.found ∙ ap (λ (x : Scan). x.found) now_is) in
      let w : record { found = true; mark = now_scan.mark } ≡ scan_all (incidence s₀) (n - u) u (incidence s₀).mark = rw (z, f) at I.rest in
      record {
        found = ap (λ (x : Scan). x.found) w;
        same = now_mark s' r M ∙ ap (λ (x : Scan). with_mark x.mark (incidence s₀)) w;
      }

  pub scanning_next : (s' : List ℤ) (r : Bool) → r ≡ false → v < n → length s' ≡ length s → Marked s s' v r → Scanning u n s₀ s' (v + 1)
  unfolding scan_all with_mark now_scan
  scanning_next s' r t h l M =
      let z : n - v ≡ suc (n - suc v) = omega arith in
      let y : v + 1 ≡ suc v = omega arith in
      let f : now_scan.found ≡ false = sym (sym t ∙ M.found ∙ ap (λ (x : Scan). x.found) now_is) in
      let e = now_mark s' r M in
      let m : (incidence s').mark ≡ now_scan.mark = ap (λ (i : Incidence). i.mark) e in
      let w : scan_all (incidence s₀) (n - suc v) (suc v) now_scan.mark ≡ scan_all (incidence s₀) (n - u) u (incidence s₀).mark =
      rw (z, f) at I.rest in
      record {
        long = l ∙ I.long;
        bounds = λ T B. rw I.long at (M.bounds T (rw I.long (I.bounds T B)));
        same = only_mark (incidence s') (incidence s₀) now_scan.mark e;
        rest = rw (m, y) w;
      }

  pub scanning_none : n ≤ v → Scanned u n s₀ s false
  unfolding scan_all
  scanning_none h =
      let z : n - v ≡ 0 = omega arith in
      let w : record { found = false; mark = (incidence s).mark } ≡ scan_all (incidence s₀) (n - u) u (incidence s₀).mark = rw z at I.rest in
      record {
        found = ap (λ (x : Scan). x.found) w;
        same = I.same ∙ ap (λ (x : Scan). with_mark x.mark (incidence s₀)) w;
      }

-- ---- the darts that leave a vertex find their turns

-- dart e of vertex v finds its turn, and stores it
pub record Met (s s' : List ℤ) (v e : ℕ) (r : Bool) : Type 0 where
  pub met : r ≡ meets (incidence s).origin v (incidence s).mark e
  pub same : incidence s' ≡ cond r (set_turn e (facing (incidence s).origin (incidence s).mark e) (incidence s)) (incidence s)

module _ (s : List ℤ) (v e d w m : ℕ) (before : d ≡ prev e) (at : w ≡ (incidence s).origin d) (is : m ≡ (incidence s).mark w) where
  mark-here : m ≡ (incidence s).mark ((incidence s).origin (prev e))
  mark-here = is ∙ ap (incidence s).mark (at ∙ ap (incidence s).origin before)

  met_so : meets (incidence s).origin v (incidence s).mark e ≡ is_of v m
  unfolding meets
  met_so = ap (is_of v) (sym mark-here)

  pub met-none : (m / 65536 ≡ v + 1 → ⊥) → Met s s v e false
  unfolding is_of
  met-none f = record { met = sym (met_so ∙ ne_eqb (m / 65536) (v + 1) f); same = refl }

  pub met-one : (s' : List ℤ) → m / 65536 ≡ v + 1 → incidence s' ≡ set_turn e (m % 65536) (incidence s) → Met s s' v e true
  unfolding is_of facing
  met-one s' f q = record { met = sym (met_so ∙ eq-eqb (m / 65536) (v + 1) f); same = q ∙ ap (λ (x : ℕ). set_turn e (x % 65536) (incidence s)) mark-here }

pub record Tying (s₀ : List ℤ) (v k h : ℕ) (s : List ℤ) (e i : ℕ) : Type 0 where
  pub long : length s ≡ length s₀
  pub bounds : Keeps s₀ s
  pub dart : (T : ℕ) → Bounded T (length s₀) (incidence s₀) → e < 3 * T
  pub same : incidence s ≡ with_turn (incidence s).turn (incidence s₀)
  pub rest : join (incidence s₀).origin v (incidence s₀).mark (k - i) e (incidence s).turn
      ≡ join (incidence s₀).origin v (incidence s₀).mark k h (incidence s₀).turn

pub tying_start : (s : List ℤ) (v k h : ℕ) → h ≡ (incidence s).first v → Tying s v k h s h 0
unfolding with_turn
tying_start s v k h q =
    let z : k - 0 ≡ k = omega arith in
    record { long = refl; bounds = λ T B. B; dart = λ T B. omega (arith, B.first v); same = refl; rest = rw z }

pub tying_dart : (s₀ : List ℤ) (v k h : ℕ) (s : List ℤ) (e i : ℕ) → AtVertex s₀ v → Tying s₀ v k h s e i → dart_in (length s) e
tying_dart s₀ v k h s e i A I = omega (arith, I.long, I.dart A.triangles A.bounds, A.bounds.room)

pub tying_beside : (s₀ : List ℤ) (v k h : ℕ) (s : List ℤ) (e i : ℕ) → AtVertex s₀ v → Tying s₀ v k h s e i → Beside s v e (prev e)
tying_beside s₀ v k h s e i A I =
    beside_prev s (rw I.long (I.bounds A.triangles A.bounds)) (I.dart A.triangles A.bounds) A.small

module _ (s₀ : List ℤ) (v k h : ℕ) (s : List ℤ) (e i : ℕ) (l : i < k) (I : Tying s₀ v k h s e i) where
  -- origins and marks are those of the start
  meets_is : meets (incidence s).origin v (incidence s).mark e ≡ meets (incidence s₀).origin v (incidence s₀).mark e
  unfolding with_turn
  meets_is = ap (λ (i : Incidence). meets i.origin v i.mark e) I.same

  facing_is : facing (incidence s).origin (incidence s).mark e ≡ facing (incidence s₀).origin (incidence s₀).mark e
  unfolding with_turn
  facing_is = ap (λ (i : Incidence). facing i.origin i.mark e) I.same

  facing_low : (T : ℕ) → Bounded T (length s₀) (incidence s) → facing (incidence s).origin (incidence s).mark e < 3 * T
  unfolding facing
  facing_low T B = B.mark ((incidence s).origin (prev e))

  pub tying_next : (s' : List ℤ) (e' : ℕ) (r : Bool) → r ≡ true → length s' ≡ length s → Met s s' v e r → e' ≡ (incidence s).turn e
      → Tying s₀ v k h s' e' (i + 1)
  unfolding set_turn with_turn join
  tying_next s' e' r f m M q =
      let z : k - i ≡ suc (k - (i + 1)) = omega arith in
      let c : meets (incidence s₀).origin v (incidence s₀).mark e ≡ true = sym meets_is ∙ sym M.met ∙ f in
      let new = facing (incidence s).origin (incidence s).mark e in
      let x : incidence s' ≡ set_turn e new (incidence s) = rw f at M.same in
      let to = upd e new (incidence s).turn in
      let a : (incidence s').turn ≡ upd e (facing (incidence s₀).origin (incidence s₀).mark e) (incidence s).turn =
      ap (λ (i : Incidence). i.turn) x ∙ ap (λ (y : ℕ). upd e y (incidence s).turn) facing_is in
      let w : join (incidence s₀).origin v (incidence s₀).mark (k - (i + 1)) ((incidence s).turn e)
      (upd e (facing (incidence s₀).origin (incidence s₀).mark e) (incidence s).turn)
      ≡ join (incidence s₀).origin v (incidence s₀).mark k h (incidence s₀).turn = rw (z, c) at I.rest in
      record {
        long = m ∙ I.long;
        bounds = λ T B. let C = I.bounds T B in rw x (bounded_turn C e new (facing_low T C));
        dart = λ T B. let d = (I.bounds T B).turn e (I.dart T B) in rw q d;
        same = only_turn (incidence s') (incidence s₀) to (x ∙ ap (with_turn to) I.same);
        rest = rw (a, q) w;
      }

  tying_lacks : meets (incidence s).origin v (incidence s).mark e ≡ false
      → record { lacks = true; turn = (incidence s).turn } ≡ join (incidence s₀).origin v (incidence s₀).mark k h (incidence s₀).turn
  unfolding join
  tying_lacks c =
      let z : k - i ≡ suc (k - (i + 1)) = omega arith in
      rw (z, sym meets_is ∙ c) at I.rest

-- what the whole walk gives
abbrev pub turns : List ℤ → ℕ → Join
turns s v = join (incidence s).origin v (incidence s).mark ((incidence s).number v) ((incidence s).first v) (incidence s).turn

pub record Tied (s s' : List ℤ) (v : ℕ) (r : Bool) : Type 0 where
  pub lacks : r ≡ (turns s v).lacks
  pub same : incidence s' ≡ with_turn (turns s v).turn (incidence s)
  pub bounds : Keeps s s'

module _ (s₀ : List ℤ) (v k h : ℕ) (a : k ≡ (incidence s₀).number v) (b : h ≡ (incidence s₀).first v) where
  tied : (s : List ℤ) (r : Bool) → Keeps s₀ s → incidence s ≡ with_turn (incidence s).turn (incidence s₀)
      → record { lacks = r; turn = (incidence s).turn } ≡ join (incidence s₀).origin v (incidence s₀).mark k h (incidence s₀).turn
      → Tied s₀ s v r
  tied s r K e q =
      let w : record { lacks = r; turn = (incidence s).turn } ≡ turns s₀ v = rw (a, b) at q in
      record {
        lacks = ap (λ (x : Join). x.lacks) w;
        same = e ∙ ap (λ (x : Join). with_turn x.turn (incidence s₀)) w;
        bounds = K;
      }

  pub tied_lacks : (s s' : List ℤ) (e i : ℕ) (r : Bool) → i < k → r ≡ false → Met s s' v e r → Tying s₀ v k h s e i → Tied s₀ s' v true
  tied_lacks s s' e i r l f M I =
      let x : incidence s' ≡ incidence s = rw f at M.same in
      let p : (incidence s').turn ≡ (incidence s).turn = ap (λ (i : Incidence). i.turn) x in
      tied s' true (λ T B. rw x (I.bounds T B)) (rw x I.same) (rw p (tying_lacks s₀ v k h s e i l I (sym M.met ∙ f)))

  pub tied-none : (s : List ℤ) (e i : ℕ) → k ≤ i → Tying s₀ v k h s e i → Tied s₀ s v false
  unfolding join
  tied-none s e i l I = let z : k - i ≡ 0 = omega arith in tied s false I.bounds I.same (rw z at I.rest)

-- ---- both, vertex by vertex

abbrev pub joined_all : ℕ → Incidence → Round
joined_all n i = join_all i n 0 i.mark i.turn true

-- `rings` says that each vertex before v has one ring
pub record Matching (n : ℕ) (s₀ s : List ℤ) (v : ℕ) (rings : Bool) : Type 0 where
  pub long : length s ≡ length s₀
  pub bounds : Keeps s₀ s
  pub same : incidence s ≡ with_turn (incidence s).turn (with_mark (incidence s).mark (incidence s₀))
  pub rest : join_all (incidence s₀) (n - v) v (incidence s).mark (incidence s).turn rings ≡ joined_all n (incidence s₀)

-- what is found, and the tables where that is neither of rows 5 and 6
pub record AllMatched (n : ℕ) (s s' : List ℤ) (r : Result Bool Refusal) : Type 0 where
  pub answer : r ≡ (joined_all n (incidence s)).answer
  pub same : (rings : Bool) → r ≡ Ok rings
      → incidence s' ≡ with_turn (joined_all n (incidence s)).turn (with_mark (joined_all n (incidence s)).mark (incidence s))

pub matching_start : (n : ℕ) (s : List ℤ) → Matching n s s 0 true
unfolding with_mark with_turn
matching_start n s =
    let z : n - 0 ≡ n = omega arith in
    record {
      long = refl;
      bounds = λ T B. B;
      same = refl;
      rest = ap (λ (j : ℕ). join_all (incidence s) j 0 (incidence s).mark (incidence s).turn true) z;
    }

module _ (n : ℕ) (s₀ s : List ℤ) (v : ℕ) (rings : Bool) (h : v < n) (I : Matching n s₀ s v rings) where
  pub matching_at : Ready n s₀ → AtVertex s v
  matching_at R = ready_at n s₀ s v R h I.long I.bounds

  one : Scan
  one = scanned (incidence s₀) v (incidence s).mark (incidence s).turn

  two : Join
  two = joined (incidence s₀) v (incidence s).mark (incidence s).turn

  one_is : marks s v ≡ one
  unfolding with_mark with_turn one
  one_is = ap (λ (i : Incidence). scan i.origin v (chain (incidence s).turn (i.number v) (i.first v)) (incidence s).mark) I.same

  -- after the marks
  module _ (s₁ : List ℤ) (r : Bool) (M : Marked s s₁ v r) where
    pub matching_twice : r ≡ true → (s' : List ℤ) → AllMatched n s₀ s' (Err RepeatedSide)
    unfolding join_all one
    matching_twice e s' =
        let z : n - v ≡ suc (n - suc v) = omega arith in
        let f : one.found ≡ true = sym (sym e ∙ M.found ∙ ap (λ (x : Scan). x.found) one_is) in
        let w : record { answer = Err RepeatedSide; turn = (incidence s).turn; mark = one.mark } ≡ joined_all n (incidence s₀) = rw (z, f) at I.rest in
        record { answer = ap (λ (x : Round). x.answer) w; same = λ rings q. absurd (cc) }

    marked_keeps : Keeps s₀ s₁
    marked_keeps T B = rw I.long at (M.bounds T (rw I.long (I.bounds T B)))

    pub marked_at : Ready n s₀ → length s₁ ≡ length s → AtVertex s₁ v
    marked_at R l = ready_at n s₀ s₁ v R h (l ∙ I.long) marked_keeps

    marks_are : incidence s₁ ≡ with_turn (incidence s).turn (with_mark one.mark (incidence s₀))
    unfolding with_mark with_turn
    marks_are = M.same ∙ ap (λ (x : Scan). with_mark x.mark (incidence s)) one_is ∙ ap (with_mark one.mark) I.same

    -- after the turns
    module _ (e : r ≡ false) (l : length s₁ ≡ length s) (s₂ : List ℤ) (q : Bool) (J : Tied s₁ s₂ v q) where
      clean : one.found ≡ false
      clean = sym (sym e ∙ M.found ∙ ap (λ (x : Scan). x.found) one_is)

      two_is : turns s₁ v ≡ two
      unfolding with_mark with_turn one two
      two_is = ap (λ (i : Incidence). join i.origin v i.mark (i.number v) (i.first v) i.turn) marks_are

      tied_are : incidence s₂ ≡ with_turn two.turn (with_mark one.mark (incidence s₀))
      unfolding with_mark with_turn
      tied_are = J.same ∙ ap (λ (j : Join). with_turn j.turn (incidence s₁)) two_is ∙ ap (with_turn two.turn) marks_are

      tied_keeps : Keeps s₀ s₂
      tied_keeps T B = rw (l ∙ I.long) at (J.bounds T (rw (l ∙ I.long) (marked_keeps T B)))

      pub tied_ready : Ready n s₀ → length s₂ ≡ length s₁ → Ready n s₂
      tied_ready R m =
          let z : length s₂ ≡ length s₀ = m ∙ l ∙ I.long in
          record { triangles = R.triangles; bounds = rw z (tied_keeps R.triangles R.bounds); vertices = rw z R.vertices; small = R.small }

      -- the ring of v, which the turns show
      pub tied_round : Ready n s₀ → length s₂ ≡ length s₁ → Rounding (length s₂) (incidence s₂) v
      tied_round R m =
          let z : length s₂ ≡ length s₀ = m ∙ l ∙ I.long in
          let B : Bounded R.triangles (length s₂) (incidence s₂) = rw z (tied_keeps R.triangles R.bounds) in
          record {
            vertex = omega (arith, R.vertices, z);
            dart = λ k. record { darts = 3 * R.triangles; room = B.room; below = B.turn; at = B.first v };
          }

      ring_is : one_ring (incidence s₂) v ≡ one_ring (with_turn two.turn (incidence s₀)) v
      unfolding one_ring with_mark with_turn
      ring_is = ap (λ (i : Incidence). one_ring i v) tied_are

      pub matching_next : q ≡ false → length s₂ ≡ length s₁ → (ring : Bool) → ring ≡ one_ring (incidence s₂) v
          → Matching n s₀ s₂ (v + 1) (ring && rings)
      unfolding join_all one two with_mark with_turn
      matching_next g m ring e' =
          let z : n - v ≡ suc (n - suc v) = omega arith in
          let y : v + 1 ≡ suc v = omega arith in
          let f : two.lacks ≡ false = sym (sym g ∙ J.lacks ∙ ap (λ (j : Join). j.lacks) two_is) in
          let w : join_all (incidence s₀) (n - suc v) (suc v) one.mark two.turn (one_ring (with_turn two.turn (incidence s₀)) v && rings)
          ≡ joined_all n (incidence s₀) = rw (z, clean, f) at I.rest in
          let a : (incidence s₂).mark ≡ one.mark = ap (λ (i : Incidence). i.mark) tied_are in
          let b : (incidence s₂).turn ≡ two.turn = ap (λ (i : Incidence). i.turn) tied_are in
          record {
            long = m ∙ l ∙ I.long;
            bounds = tied_keeps;
            same =
                tied_are ∙ ap (λ (g : ℕ → ℕ). with_turn g (with_mark one.mark (incidence s₀))) (sym b)
                ∙ ap (λ (g : ℕ → ℕ). with_turn (incidence s₂).turn (with_mark g (incidence s₀))) (sym a);
            rest = rw (a, b, y, e' ∙ ring_is) w;
          }

      -- an opposite is lacking; the marks have gone on alone
      module _ (g : q ≡ true) (s₃ : List ℤ) (p : Bool) (S : Scanned (v + 1) n s₂ s₃ p) where
        goes_on : p ≡ (scan_all (with_turn two.turn (with_mark one.mark (incidence s₀))) (n - suc v) (suc v) one.mark).found
        unfolding with_mark with_turn
        goes_on =
            let y : v + 1 ≡ suc v = omega arith in
            S.found ∙ ap (λ (x : ℕ). (scan_all (incidence s₂) (n - x) x (incidence s₂).mark).found) y
            ∙ ap (λ (i : Incidence). (scan_all i (n - suc v) (suc v) i.mark).found) tied_are

        answer_is : Err (cond p RepeatedSide UnpairedSide) ≡ (joined_all n (incidence s₀)).answer
        unfolding join_all one two
        answer_is =
            let z : n - v ≡ suc (n - suc v) = omega arith in
            let f : two.lacks ≡ true = sym (sym g ∙ J.lacks ∙ ap (λ (j : Join). j.lacks) two_is) in
            let w : record {
              answer =
                  Err (cond (scan_all (with_turn two.turn (with_mark one.mark (incidence s₀))) (n - suc v) (suc v) one.mark).found RepeatedSide
                  UnpairedSide);
              turn = two.turn;
              mark = one.mark;
            }
            ≡ joined_all n (incidence s₀) = rw (z, clean, f) at I.rest in
            ap (λ (b : Bool). Err (cond b RepeatedSide UnpairedSide)) goes_on ∙ ap (λ (x : Round). x.answer) w

        pub matching_later : p ≡ true → (s' : List ℤ) → AllMatched n s₀ s' (Err RepeatedSide)
        matching_later f s' = record { answer = rw f at answer_is; same = λ rings q. absurd (cc) }

        pub matching_lacks : p ≡ false → (s' : List ℤ) → AllMatched n s₀ s' (Err UnpairedSide)
        matching_lacks f s' = record { answer = rw f at answer_is; same = λ rings q. absurd (cc) }

pub matching_none : (n : ℕ) (s₀ s : List ℤ) (v : ℕ) (rings : Bool) → n ≤ v → Matching n s₀ s v rings → AllMatched n s₀ s (Ok rings)
unfolding join_all
matching_none n s₀ s v rings h I =
    let z : n - v ≡ 0 = omega arith in
    let w : record { answer = Ok rings; turn = (incidence s).turn; mark = (incidence s).mark } ≡ joined_all n (incidence s₀) = rw z at I.rest in
    record {
      answer = ap (λ (x : Round). x.answer) w;
      same = λ _ _. I.same ∙ ap (λ (x : Round). with_turn x.turn (with_mark x.mark (incidence s₀))) w;
    }
