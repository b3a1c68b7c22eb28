-- What each step of the forward map reads and leaves, in the shape of the code, and what its calls ask. Assumes nothing.
use Rattle.std.specs.Prelude.{ℕ, zero, suc, ◌+◌, ◌-◌, ◌*◌, ◌/◌, ◌≤◌, ◌<◌, ◌^◌, ◌≡◌, refl, ◌≢◌, false, List, [], ◌∷◌, map, get_or, set, ℤ, pos, nat_abs}
use Rattle.std.proofs.Common.{sym, ◌∙◌, subst, arith}
use Rattle.std.proofs.Math.Path.{ap}
use Rattle.std.proofs.Math.ListN.{length}
use Rattle.definitions.specs.Mesh.{triangles_length, weights_length, coordinates_length, tri, next, prev, org}
use Rattle.definitions.specs.Forward.{weight, forward}
use Rattle.definitions.specs.Backward.{coordinate}
use Rattle.definitions.specs.Refusals.{row9}
use Rattle.theory_sphere.specs.Darts.{next-below, prev-below}
use Rattle.scratch_tables.specs.Tables.{dart_in}
use Rattle.labels_tables.specs.Peeling.{Peeling, peeling}
use Rattle.labels_tables.specs.LabelledTables.{Peeled}
use Rattle.maps_forward_model.specs.Model.{word_index, copy, add, store_weight, stores, fan_from, kept_and_stored, with_left_sum, accumulate, accumulate_all}
use Rattle.maps_forward_model.specs.Model.{with_corners, with_left_b1, propagate, propagate_all, length-store_weight}
use Rattle.maps_forward_model.specs.Model.{InnerDart, Turns, stops, goes, fan_from_is}
use Rattle.maps_forward_model.specs.RemovalStep.{Room}
use Rattle.maps_forward_model.specs.Propagate.{Ceiling}
use Rattle.maps_forward_model.specs.Thirds.{ThirdsPre, ThirdsWritten}
use Rattle.maps_forward_model.specs.Result.{Readable, Around, readable, around, rooms, ceilings, v0_is, v1_is, thirds_pre, whole_is}

-- ---- what is read is there

-- the slices that are lent for a mesh of n vertices
pub record Lent (n : ℕ) (ws bs s : List ℤ) : Type 0 where
  pub readable : Readable n (length s) (peeling s)
  pub weights : length ws ≡ weights_length n
  pub coordinates : length bs ≡ coordinates_length n

-- beside a vertex that leaves: where its right dart starts and where its left one leads, and the dart before the left one
module _ {n words fuel v : ℕ} {t : Peeling} (R : Readable n words t) (A : Around n fuel t v) where
  pub right_in : (d u : ℕ) → d ≡ t.right v → u ≡ t.origin d → u < n
  right_in d u e q = let b : d < triangles_length n = rw e A.right in omega (arith, R.origins d b)

  module _ (left : ℕ) (e : left ≡ t.left v) where
    left_below : left < triangles_length n
    left_below = rw e A.left

    pub tip-word : dart_in words (next left) × (left < 2 ^ 63)
    tip-word = (omega (arith, next-below (2 * n - 4) left left_below, R.room), omega (arith, left_below, R.most))

    pub tip_in : (u : ℕ) → u ≡ t.origin (next left) → u < n
    tip_in u q = omega (arith, R.origins (next left) (next-below (2 * n - 4) left left_below))

    pub prev-word : (d : ℕ) → d ≡ prev left → dart_in words d
    prev-word d q = omega (arith, prev-below (2 * n - 4) left left_below, R.room)

    pub prev_in : (d u : ℕ) → d ≡ prev left → u ≡ t.origin d → u < n
    prev_in d u q f = let b : d < triangles_length n = omega (arith, prev-below (2 * n - 4) left left_below) in omega (arith, R.origins d b)

-- of a fan's dart: the one before it, where that starts, and the weight of its triangle
module _ {n words g : ℕ} {t : Peeling} (R : Readable n words t) (I : InnerDart n g) (q : ℕ) (e : q ≡ prev g) where
  fan-below : q < triangles_length n
  fan-below = omega (arith, prev-below (2 * n - 4) g I.below)

  pub fan-word : dart_in words q
  fan-word = omega (arith, fan-below, R.room)

  pub fan_in : (u : ℕ) → u ≡ t.origin q → u < n
  fan_in u f = omega (arith, R.origins q fan-below)

pub weight_in_lem : {n g : ℕ} → InnerDart n g → 1 ≤ g / 3
unfolding tri
weight_in_lem I = I.inner

-- ---- the first two coordinates of a vertex

pub first-at : (s : List ℤ) (v : ℕ) → get_or s (3 * v) (pos 0) ≡ coordinate s 0 v
unfolding coordinate
first-at s v = let e : 3 * v ≡ 3 * v + 0 = omega arith in ap (λ (i : ℕ). get_or s i (pos 0)) e

pub second_at : (s : List ℤ) (v : ℕ) → get_or s (3 * v + 1) (pos 0) ≡ coordinate s 1 v
unfolding coordinate
second_at s v = refl

-- weights stand from triangle 1 on
inner-weight : (ws : List ℤ) (t : ℕ) → 0 < t → get_or ws (t - 1) (pos 0) ≡ weight ws t
unfolding weight
inner-weight ws zero h = absurd (omega arith)
inner-weight ws (suc t) h = let q : suc t - 1 ≡ t = omega arith in ap (λ (j : ℕ). get_or ws j (pos 0)) q

pub store_weight_is : (n : ℕ) (origin : ℕ → ℕ) (ws : List ℤ) (g u q : ℕ) (w : ℤ) (s s' : List ℤ) → InnerDart n g → q ≡ prev g → u ≡ origin q →
    w ≡ get_or ws (g / 3 - 1) (pos 0) → s' ≡ set s (word_index 1 u) w → s' ≡ store_weight origin ws g s
unfolding store_weight tri
store_weight_is n origin ws g u q w s s' I a b d e = rw (e, b, a, d, inner-weight ws (g / 3) I.inner)

-- ---- the fan's loop: what is left of it ends as the whole

-- a fan from dart g on, in range
pub record FanAhead (ws bs s : List ℤ) (stop g : ℕ) : Type 0 where
  pub n : ℕ
  pub lent : Lent n ws bs s
  pub gs : List ℕ
  pub turns : Turns n (peeling s) stop g gs
  pub short : length gs ≤ length s

pub record FanLoop (ws s : List ℤ) (stop : ℕ) (end bs : List ℤ) (g q : ℕ) : Type 0 where
  pub ahead : FanAhead ws bs s stop g
  pub previous : q ≡ prev g
  pub rest : stores (peeling s).origin ws ahead.gs bs ≡ end

module _ {n : ℕ} {t : Peeling} {stop : ℕ} where
  -- its end, or the rest of it
  stopped : {g : ℕ} {gs : List ℕ} → Turns n t stop g gs → prev g ≡ stop → gs ≡ g ∷ []
  stopped (stops i e) h = refl
  stopped (goes i e w) h = absurd (e h)

  turned : {g : ℕ} {gs : List ℕ} (g' : ℕ) → Turns n t stop g gs → prev g ≢ stop → g' ≡ t.turn g →
      (hs : List ℕ) × (gs ≡ g ∷ hs) × Turns n t stop g' hs
  turned g' (stops i e) h q = absurd (h e)
  turned g' (goes {gs = gs} i e w) h q = (gs, refl, rw q w)

pub fan-start : (ws bs s : List ℤ) (stop g q : ℕ) → FanAhead ws bs s stop g → q ≡ prev g →
    FanLoop ws s stop (stores (peeling s).origin ws (fan_from (peeling s) stop (length s) g) bs) bs g q
fan-start ws bs s stop g q A e = record { ahead = A; previous = e; rest = rw (fan_from_is (length s) A.turns A.short) }

module _ (ws s : List ℤ) (stop : ℕ) (end bs : List ℤ) (g q : ℕ) (L : FanLoop ws s stop end bs g q) where
  pub fan-stop : (bs' : List ℤ) → q ≡ stop → bs' ≡ store_weight (peeling s).origin ws g bs → bs' ≡ end
  unfolding stores
  fan-stop bs' e r = r ∙ rw (stopped L.ahead.turns (sym L.previous ∙ e)) at L.rest

  module _ (g' : ℕ) (h : q ≡ stop → ⊥) (t : g' ≡ (peeling s).turn g) where
    left_over : (hs : List ℕ) × (L.ahead.gs ≡ g ∷ hs) × Turns L.ahead.n (peeling s) stop g' hs
    left_over = turned g' L.ahead.turns (λ e. h (L.previous ∙ e)) t

    pub fan-next : (q' : ℕ) (bs' : List ℤ) → q' ≡ prev g' → bs' ≡ store_weight (peeling s).origin ws g bs → FanLoop ws s stop end bs' g' q'
    unfolding stores
    fan-next q' bs' e r =
        let A = L.ahead in
        let o = left_over in
        record {
          ahead = record {
            n = A.n;
            lent = record {
              readable = A.lent.readable;
              weights = A.lent.weights;
              coordinates = ap length r ∙ length-store_weight (peeling s).origin ws g bs ∙ A.lent.coordinates;
            };
            gs = o.0;
            turns = o.2;
            short = omega (arith, A.short, ap length o.1);
          };
          previous = e;
          rest = rw r (rw o.1 at L.rest);
        }

    pub fan-less : length (fan_from (peeling s) stop (length s) g') < length (fan_from (peeling s) stop (length s) g)
    fan-less =
        let A = L.ahead in
        let o = left_over in
        let few : length o.0 ≤ length s = omega (arith, A.short, ap length o.1) in
        omega (arith, ap length o.1, ap length (fan_from_is (length s) o.2 few), ap length (fan_from_is (length s) A.turns A.short))

-- ---- a vertex leaves

module _ (s ws : List ℤ) (v left right q u r : ℕ) (el : left ≡ (peeling s).left v) (er : right ≡ (peeling s).right v) (eq : q ≡ prev left)
    (eu : u ≡ (peeling s).origin q) (eo : r ≡ (peeling s).origin right) (bs bs₁ : List ℤ)
    (e₁ : bs₁ ≡ stores (peeling s).origin ws (fan_from (peeling s) right (length s) left) (copy (word_index 0 v) (word_index 1 r) bs)) where
  kept-made : bs₁ ≡ kept_and_stored (length s) (peeling s) ws v bs
  unfolding kept_and_stored
  kept-made = rw (e₁, eo, er, el)

  pub left_room : Room (length s) (peeling s) ws v bs → nat_abs (coordinate bs₁ 1 u) + nat_abs (coordinate bs₁ 1 v) < 2 ^ 63
  left_room k = rw (eu, eq, el, kept-made) k.left

  left-made : add (word_index 1 u) (word_index 1 v) bs₁ ≡ with_left_sum (length s) (peeling s) ws v bs
  unfolding with_left_sum
  left-made = rw (kept-made, eu, eq, el)

  pub right_room : Room (length s) (peeling s) ws v bs →
      nat_abs (coordinate (add (word_index 1 u) (word_index 1 v) bs₁) 1 r) + nat_abs (coordinate (add (word_index 1 u) (word_index 1 v) bs₁) 0 v) < 2 ^ 63
  right_room k = rw (left-made, eo, er) k.right

  pub accumulate-made : (bs₂ : List ℤ) → bs₂ ≡ add (word_index 1 r) (word_index 0 v) (add (word_index 1 u) (word_index 1 v) bs₁) →
      bs₂ ≡ accumulate (length s) (peeling s) ws v bs
  unfolding accumulate
  accumulate-made bs₂ e₂ = rw (e₂, left-made, eo, er)

-- ---- a vertex that comes back

module _ (s : List ℤ) (v left right l r : ℕ) (el : left ≡ (peeling s).left v) (er : right ≡ (peeling s).right v)
    (et : l ≡ (peeling s).origin (next left)) (eo : r ≡ (peeling s).origin right) (bs : List ℤ) where
  pub b1_room : Ceiling (peeling s) v bs → nat_abs (coordinate bs 1 v) + nat_abs (coordinate bs 1 l) < 2 ^ 63
  b1_room k = rw (et, el) k.left

  module _ (bs₁ : List ℤ) (e₁ : bs₁ ≡ add (word_index 1 v) (word_index 1 l) bs) where
    b1_made : bs₁ ≡ with_left_b1 (peeling s) v bs
    unfolding with_left_b1
    b1_made = rw (e₁, et, el)

    pub b0_room : Ceiling (peeling s) v bs → nat_abs (coordinate bs₁ 0 v) + nat_abs (coordinate bs₁ 0 r) < 2 ^ 63
    b0_room k = rw (eo, er, b1_made) k.right

    pub propagate-made : (bs₂ : List ℤ) → bs₂ ≡ add (word_index 0 v) (word_index 0 r) bs₁ → bs₂ ≡ propagate (peeling s) v bs
    unfolding propagate
    propagate-made bs₂ e₂ = rw (e₂, b1_made, eo, er)

-- vertices come back from the last one that left to the first: one and the same place of the order, counted from its end in two ways
pub propagate_index : (n k : ℕ) (t : Peeling) → k + 2 < n → t.order (n - 3 - k) ≡ t.order (n - 2 - suc k)
propagate_index n k t h = let e : n - 3 - k ≡ n - 2 - suc k = omega arith in ap t.order e

-- ---- the whole, call by call: each asks what the theory gives of the list that it is handed

module _ {n : ℕ} {ts ls : List ℕ} {scratch : List ℤ} (P : Peeled n ts ls scratch) (ws : List ℤ) (len : length ws ≡ weights_length n)
    (low : row9 ws ≡ false) (s : List ℤ) (long : length s ≡ coordinates_length n) where
  abbrev t : Peeling
  t = peeling scratch

  abbrev fuel : ℕ
  fuel = length scratch

  pub all_readable : Readable n fuel t
  all_readable = readable P ws len low s long

  pub all_around : (k : ℕ) → k < n - 2 → Around n fuel t (t.order k)
  all_around = around P ws len low s long

  pub corner_in : (t.origin 0 < n) × (t.origin 2 < n)
  corner_in = let b = all_readable in (b.origins 0 (omega (arith, b.least)), b.origins 2 (omega (arith, b.least)))

  module _ (s₁ : List ℤ) (e₁ : s₁ ≡ map (λ _. pos 0) s) where
    pub asks_accumulate : length s₁ ≡ length s → Lent n ws s₁ scratch × ((k : ℕ) → k < n - 2 → Around n fuel t (t.order k))
        × ((k : ℕ) → k < n - 2 → Room fuel t ws (t.order k) (accumulate_all fuel t ws k s₁))
    asks_accumulate l = (
      record { readable = all_readable; weights = len; coordinates = l ∙ long },
      all_around,
      subst (λ (l : List ℤ). (k : ℕ) → k < n - 2 → Room fuel t ws (t.order k) (accumulate_all fuel t ws k l)) (sym e₁) (rooms P ws len low s long),
    )

    module _ (s₂ s₃ : List ℤ) (v0 v1 : ℕ) (is0 : v0 ≡ t.origin 0) (is1 : v1 ≡ t.origin 2) (e₂ : s₂ ≡ accumulate_all fuel t ws (n - 2) s₁)
        (e₃ : s₃ ≡ with_corners v0 v1 s₂) where
      base_is : s₃ ≡ with_corners (org ts 0) (org ts 2) (accumulate_all fuel t ws (n - 2) (map (λ _. pos 0) s))
      base_is =
          e₃ ∙ rw (is0, is1, v0_is P ws len low s long, v1_is P ws len low s long, e₂, e₁)

      pub asks_propagate : (k : ℕ) → k < n - 2 → Ceiling t (t.order (n - 2 - suc k)) (propagate_all t (n - 2) k s₃)
      asks_propagate =
          subst (λ (l : List ℤ). (k : ℕ) → k < n - 2 → Ceiling t (t.order (n - 2 - suc k)) (propagate_all t (n - 2) k l))
          (sym base_is) (ceilings P ws len low s long)

      module _ (s₄ : List ℤ) (e₄ : s₄ ≡ propagate_all t (n - 2) (n - 2) s₃) where
        high_is : s₄ ≡ propagate_all t (n - 2) (n - 2) (with_corners (org ts 0) (org ts 2) (accumulate_all fuel t ws (n - 2) (map (λ _. pos 0) s)))
        high_is = e₄ ∙ ap (propagate_all t (n - 2) (n - 2)) base_is

        first_is : v0 ≡ org ts 0
        first_is = is0 ∙ v0_is P ws len low s long

        pub asks_thirds : ThirdsPre n v0 s₄
        asks_thirds = rw (first_is, high_is) (thirds_pre P ws len low s long)

        -- and in the end the definition's coordinates stand there
        pub all_written : (s₅ : List ℤ) → ThirdsWritten n (coordinate s₄ 0 v0) s₄ s₅ → s₅ ≡ forward n ts ls ws
        all_written s₅ C = whole_is P ws len low s long s₅ (rw (first_is, high_is) at C)
