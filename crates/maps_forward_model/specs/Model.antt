-- The forward map as the code runs it on the lent coordinates: word 3i + c is coordinate c of vertex i. Assumes nothing.
-- Going down, word 3i + 1 carries the sum S of the frontier's dart that starts at i, and word 3i keeps the sum on the right of i when i leaves.
use Prim.Native.Nat.{ℕ, zero, suc, ◌+◌, ◌-◌, ◌*◌, ◌≤◌, ◌<◌}
use Rattle.std.specs.Prelude.{◌≡◌, ◌≢◌, Bool, true, false, cond, eqb, length, set, ℤ, pos, ◌+ℤ◌}
use Rattle.std.proofs.Math.Path.{refl}
use Rattle.std.proofs.Common.{sym, ap, ◌∙◌, arith, eq-eqb, ne_eqb, eqb-true}
use Rattle.std.proofs.Math.Logic.{inl, inr}
use mathlib.Core.List.Memᴰ
use mathlib.Core.List.{List, [], ◌∷◌}
use Rattle.std.proofs.Math.ListN.{get_or, length-set}
use Rattle.std.proofs.Math.Seq.{get_or-set_same, get_or-set_other}
use Rattle.std.proofs.Math.IntN.{+ℤ_idr}
use Rattle.std.proofs.lemmas.Bool.{eqb-false}
use Rattle.definitions.specs.Mesh.{triangles_length, tri, next, prev}
use Rattle.definitions.specs.Forward.{weight}
use Rattle.definitions.specs.Backward.{coordinate}
use Rattle.laws.specs.Lists.{◌∈◌}
use Rattle.laws.specs.Edges.{Dist}
use Rattle.theory_sphere.specs.Darts.{prev-below}
use Rattle.theory_realizer.specs.Trace.{Fan, end, more}
use Rattle.labels_tables.specs.Peeling.{Peeling}
use Rattle.maps_forward_model.specs.Removals.{Onward, onward-more}

-- coordinate c of vertex i
abbrev pub word_index : ℕ → ℕ → ℕ
word_index c i = 3 * i + c

-- one word copied; added to another
unfoldable pub copy : ℕ → ℕ → List ℤ → List ℤ
copy to from bs = set bs to (get_or bs from (pos 0))

unfoldable pub add : ℕ → ℕ → List ℤ → List ℤ
add to from bs = set bs to (get_or bs to (pos 0) +ℤ get_or bs from (pos 0))

-- The darts of a fan from g on, each the next one round its origin, up to the one whose previous dart is `stop`; no more than `fuel` of them.
unfoldable pub fan_from : Peeling → ℕ → ℕ → ℕ → List ℕ
fan_from t stop zero g = []
fan_from t stop (suc fuel) g = g ∷ cond (eqb (prev g) stop) [] (fan_from t stop fuel (t.turn g))

module _ (origin : ℕ → ℕ) (ws : List ℤ) where
  -- the weight of a fan's dart, stored at the vertex where the new frontier dart starts; those of all its darts
  unfoldable pub store_weight : ℕ → List ℤ → List ℤ
  store_weight g bs = set bs (word_index 1 (origin (prev g))) (weight ws (tri g))

  unfoldable pub stores : List ℕ → List ℤ → List ℤ
  stores [] bs = bs
  stores (g ∷ gs) bs = stores gs (store_weight g bs)

module _ (fuel : ℕ) (t : Peeling) (ws : List ℤ) where
  -- v leaves: it keeps the sum on its right, the weights of its fan are stored, and the two sums beside it go to the first and the last of them
  unfoldable pub kept_and_stored : ℕ → List ℤ → List ℤ
  kept_and_stored v bs =
      stores t.origin ws (fan_from t (t.right v) fuel (t.left v)) (copy (word_index 0 v) (word_index 1 (t.origin (t.right v))) bs)

  unfoldable pub with_left_sum : ℕ → List ℤ → List ℤ
  with_left_sum v bs = add (word_index 1 (t.origin (prev (t.left v)))) (word_index 1 v) (kept_and_stored v bs)

  unfoldable pub accumulate : ℕ → List ℤ → List ℤ
  accumulate v bs = add (word_index 1 (t.origin (t.right v))) (word_index 0 v) (with_left_sum v bs)

  unfoldable pub accumulate_all : ℕ → List ℤ → List ℤ
  accumulate_all zero bs = bs
  accumulate_all (suc k) bs = accumulate (t.order k) (accumulate_all k bs)

-- v0 and v1 at their corners: what has come down to v1 is N
unfoldable pub with_corners : ℕ → ℕ → List ℤ → List ℤ
with_corners v0 v1 bs = copy (word_index 0 v0) (word_index 1 v1) (set (set bs (word_index 1 v0) (pos 0)) (word_index 0 v1) (pos 0))

module _ (t : Peeling) where
  -- v comes back: b1 from its left neighbour, b0 from its right one
  unfoldable pub with_left_b1 : ℕ → List ℤ → List ℤ
  with_left_b1 v bs = add (word_index 1 v) (word_index 1 (t.origin (next (t.left v)))) bs

  unfoldable pub propagate : ℕ → List ℤ → List ℤ
  propagate v bs = add (word_index 0 v) (word_index 0 (t.origin (t.right v))) (with_left_b1 v bs)

  -- the last k of m vertices that left
  unfoldable pub propagate_all : ℕ → ℕ → List ℤ → List ℤ
  propagate_all m zero bs = bs
  propagate_all m (suc k) bs = propagate (t.order (m - suc k)) (propagate_all m k bs)

-- ---- one word changed

module _ (bs : List ℤ) (x : ℤ) where
  pub set_at : (c i : ℕ) → word_index c i < length bs → coordinate (set bs (word_index c i) x) c i ≡ x
  unfolding coordinate
  set_at c i h = get_or-set_same bs (word_index c i) x (pos 0) h

  pub set_off : (j c i : ℕ) → word_index c i ≢ j → coordinate (set bs j x) c i ≡ coordinate bs c i
  unfolding coordinate
  set_off j c i h = get_or-set_other bs j (word_index c i) x (pos 0) h

-- ---- one word added to: it has grown by the other, and the rest is as it was

module _ (bs : List ℤ) (to from : ℕ) where
  pub add_off : (c i : ℕ) → word_index c i ≢ to → coordinate (add to from bs) c i ≡ coordinate bs c i
  unfolding add
  add_off c i h = set_off bs (get_or bs to (pos 0) +ℤ get_or bs from (pos 0)) to c i h

  pub length-add : length (add to from bs) ≡ length bs
  unfolding add
  length-add = length-set bs to (get_or bs to (pos 0) +ℤ get_or bs from (pos 0))

  pub copy_off : (c i : ℕ) → word_index c i ≢ to → coordinate (copy to from bs) c i ≡ coordinate bs c i
  unfolding copy
  copy_off c i h = set_off bs (get_or bs from (pos 0)) to c i h

  pub length-copy : length (copy to from bs) ≡ length bs
  unfolding copy
  length-copy = length-set bs to (get_or bs from (pos 0))

module _ (bs : List ℤ) (c i c' i' : ℕ) (h : word_index c i < length bs) where
  pub add_at : coordinate (add (word_index c i) (word_index c' i') bs) c i ≡ coordinate bs c i +ℤ coordinate bs c' i'
  unfolding add coordinate
  add_at = set_at bs (get_or bs (word_index c i) (pos 0) +ℤ get_or bs (word_index c' i') (pos 0)) c i h

  pub copy_at : coordinate (copy (word_index c i) (word_index c' i') bs) c i ≡ coordinate bs c' i'
  unfolding copy coordinate
  copy_at = set_at bs (get_or bs (word_index c' i') (pos 0)) c i h

-- the same, of any vertex j: what is added, or nothing
pub add_where : (bs : List ℤ) (i c' i' j : ℕ) → word_index 1 i < length bs →
    coordinate (add (word_index 1 i) (word_index c' i') bs) 1 j ≡ coordinate bs 1 j +ℤ cond (eqb j i) (coordinate bs c' i') (pos 0)
add_where bs i c' i' j h = go (eqb j i) refl
  where
    go : (b : Bool) → eqb j i ≡ b → coordinate (add (word_index 1 i) (word_index c' i') bs) 1 j
        ≡ coordinate bs 1 j +ℤ cond b (coordinate bs c' i') (pos 0)
    go true e = rw (eqb-true j i e) (add_at bs 1 i c' i' h)
    go false e = add_off bs (word_index 1 i) (word_index c' i') 1 j (λ q. eqb-false j i e (omega (arith, q))) ∙ sym (+ℤ_idr (coordinate bs 1 j))

-- ---- a fan stored

module _ (origin : ℕ → ℕ) (ws : List ℤ) where
  pub length-store_weight : (g : ℕ) (bs : List ℤ) → length (store_weight origin ws g bs) ≡ length bs
  unfolding store_weight
  length-store_weight g bs = length-set bs (word_index 1 (origin (prev g))) (weight ws (tri g))

  store_weight-at : (x : ℕ) (bs : List ℤ) → word_index 1 (origin (prev x)) < length bs →
      coordinate (store_weight origin ws x bs) 1 (origin (prev x)) ≡ weight ws (tri x)
  unfolding store_weight
  store_weight-at x bs h = set_at bs (weight ws (tri x)) 1 (origin (prev x)) h

  pub length-stores : (gs : List ℕ) (bs : List ℤ) → length (stores origin ws gs bs) ≡ length bs
  unfolding stores
  length-stores [] bs = refl
  length-stores (g ∷ gs) bs = length-stores gs (store_weight origin ws g bs) ∙ length-store_weight g bs

  -- words that it does not come to
  pub stores-0 : (gs : List ℕ) (bs : List ℤ) (i : ℕ) → coordinate (stores origin ws gs bs) 0 i ≡ coordinate bs 0 i
  unfolding stores store_weight
  stores-0 [] bs i = refl
  stores-0 (g ∷ gs) bs i =
      stores-0 gs (store_weight origin ws g bs) i ∙ set_off bs (weight ws (tri g)) (word_index 1 (origin (prev g))) 0 i (omega arith)

  pub stores_off : (gs : List ℕ) (bs : List ℤ) (i : ℕ) → ((g : ℕ) → g ∈ gs → origin (prev g) ≢ i) →
      coordinate (stores origin ws gs bs) 1 i ≡ coordinate bs 1 i
  unfolding stores store_weight
  stores_off [] bs i h = refl
  stores_off (g ∷ gs) bs i h =
      stores_off gs (store_weight origin ws g bs) i (λ x m. h x (Memᴰ.tail m))
      ∙ set_off bs (weight ws (tri g)) (word_index 1 (origin (prev g))) 1 i (omega (arith, h g (Memᴰ.head refl)))

  -- those that it comes to, if it comes to none twice
  pub stores_at : (gs : List ℕ) (bs : List ℤ) → Dist (λ g. origin (prev g)) gs →
      ((g : ℕ) → g ∈ gs → word_index 1 (origin (prev g)) < length bs) → (g : ℕ) → g ∈ gs →
      coordinate (stores origin ws gs bs) 1 (origin (prev g)) ≡ weight ws (tri g)
  unfolding stores
  stores_at [] bs δ h g m = absurd (Memᴰ.not-nil m)
  stores_at (x ∷ gs) bs δ h g m =
      elim (Memᴰ.cases_cons m) [
        | inl e ↦
            rw e
            (stores_off gs (store_weight origin ws x bs) (origin (prev x)) (λ y k q. δ.0 y k (sym q))
            ∙ store_weight-at x bs (h x (Memᴰ.head refl)))
        | inr k ↦ stores_at gs (store_weight origin ws x bs) δ.1 (λ y l. rw (length-store_weight x bs) (h y (Memᴰ.tail l))) g k
      ]

-- the same from origins that agree on the fan
pub stores_same : (o origin : ℕ → ℕ) (ws : List ℤ) (gs : List ℕ) (bs : List ℤ) → ((g : ℕ) → g ∈ gs → o (prev g) ≡ origin (prev g)) →
    stores o ws gs bs ≡ stores origin ws gs bs
unfolding stores store_weight
stores_same o origin ws [] bs e = refl
stores_same o origin ws (g ∷ gs) bs e =
    rw (e g (Memᴰ.head refl))
    (stores_same o origin ws gs (set bs (word_index 1 (origin (prev g))) (weight ws (tri g))) (λ x m. e x (Memᴰ.tail m)))

-- ---- lengths stay

module _ (fuel : ℕ) (t : Peeling) (ws : List ℤ) where
  pub length-kept_and_stored : (v : ℕ) (bs : List ℤ) → length (kept_and_stored fuel t ws v bs) ≡ length bs
  unfolding kept_and_stored
  length-kept_and_stored v bs =
      length-stores t.origin ws (fan_from t (t.right v) fuel (t.left v)) (copy (word_index 0 v) (word_index 1 (t.origin (t.right v))) bs)
      ∙ length-copy bs (word_index 0 v) (word_index 1 (t.origin (t.right v)))

  pub length-with_left_sum : (v : ℕ) (bs : List ℤ) → length (with_left_sum fuel t ws v bs) ≡ length bs
  unfolding with_left_sum
  length-with_left_sum v bs =
      length-add (kept_and_stored fuel t ws v bs) (word_index 1 (t.origin (prev (t.left v)))) (word_index 1 v) ∙ length-kept_and_stored v bs

  pub length-accumulate : (v : ℕ) (bs : List ℤ) → length (accumulate fuel t ws v bs) ≡ length bs
  unfolding accumulate
  length-accumulate v bs =
      length-add (with_left_sum fuel t ws v bs) (word_index 1 (t.origin (t.right v))) (word_index 0 v) ∙ length-with_left_sum v bs

  pub length-accumulate_all : (k : ℕ) (bs : List ℤ) → length (accumulate_all fuel t ws k bs) ≡ length bs
  unfolding accumulate_all
  length-accumulate_all zero bs = refl
  length-accumulate_all (suc k) bs = length-accumulate (t.order k) (accumulate_all fuel t ws k bs) ∙ length-accumulate_all k bs

pub length-with_corners : (v0 v1 : ℕ) (bs : List ℤ) → length (with_corners v0 v1 bs) ≡ length bs
unfolding with_corners
length-with_corners v0 v1 bs =
    length-copy (set (set bs (word_index 1 v0) (pos 0)) (word_index 0 v1) (pos 0)) (word_index 0 v0) (word_index 1 v1)
    ∙ length-set (set bs (word_index 1 v0) (pos 0)) (word_index 0 v1) (pos 0) ∙ length-set bs (word_index 1 v0) (pos 0)

module _ (t : Peeling) where
  pub length-with_left_b1 : (v : ℕ) (bs : List ℤ) → length (with_left_b1 t v bs) ≡ length bs
  unfolding with_left_b1
  length-with_left_b1 v bs = length-add bs (word_index 1 v) (word_index 1 (t.origin (next (t.left v))))

  pub length-propagate : (v : ℕ) (bs : List ℤ) → length (propagate t v bs) ≡ length bs
  unfolding propagate
  length-propagate v bs = length-add (with_left_b1 t v bs) (word_index 0 v) (word_index 0 (t.origin (t.right v))) ∙ length-with_left_b1 v bs

  pub length-propagate_all : (m k : ℕ) (bs : List ℤ) → length (propagate_all t m k bs) ≡ length bs
  unfolding propagate_all
  length-propagate_all m zero bs = refl
  length-propagate_all m (suc k) bs = length-propagate (t.order (m - suc k)) (propagate_all t m k bs) ∙ length-propagate_all m k bs

-- ---- a fan that comes to its end

-- Its darts are those of inner triangles, in a mesh of n vertices.
pub record InnerDart (n g : ℕ) : Type 0 where
  pub inner : 0 < tri g
  pub below : g < triangles_length n

pub data Turns (n : ℕ) (t : Peeling) (stop : ℕ) : ℕ → List ℕ → Type 0 where
  stops : {g : ℕ} → InnerDart n g → prev g ≡ stop → Turns n t stop g (g ∷ [])
  goes : {g : ℕ} {gs : List ℕ} → InnerDart n g → prev g ≢ stop → Turns n t stop (t.turn g) gs → Turns n t stop g (g ∷ gs)

pub fan_from_is : {n : ℕ} {t : Peeling} {stop g : ℕ} {gs : List ℕ} (fuel : ℕ) → Turns n t stop g gs → length gs ≤ fuel →
    fan_from t stop fuel g ≡ gs
unfolding fan_from
fan_from_is zero (stops i e) l = absurd (omega arith)
fan_from_is zero (goes i e w) l = absurd (omega arith)
fan_from_is {stop = stop} (suc fuel) (stops {g} i e) l = rw (eq-eqb (prev g) stop e)
fan_from_is {stop = stop} (suc fuel) (goes {g} i e w) l = rw (ne_eqb (prev g) stop e, fan_from_is fuel w (omega arith))

-- a fan of the mesh is one, if the darts' words have their turns
module _ {n T : ℕ} {o f : ℕ → ℕ} (t : Peeling) (size : 3 * T ≡ triangles_length n) (e' : ℕ) (twice : (d : ℕ) → d < 3 * T → f (f d) ≡ d) (h' : e' < 3 * T)
    (turns : (d : ℕ) → d < 3 * T → t.turn d ≡ f (prev d)) where
  pub fan-turns : {g : ℕ} {gs : List ℕ} → Fan T o f (f e') g gs → Onward (f e') gs → ((x : ℕ) → x ∈ gs → 0 < tri x) → Turns n t e' g gs
  fan-turns (end {g} h q) a i =
      stops (record { inner = i g (Memᴰ.head refl); below = omega (arith, size) }) (sym (twice (prev g) (prev-below T g h)) ∙ ap f q ∙ twice e' h')
  fan-turns (more {g} {gs} h s) a i =
      let b = onward-more s a in
      goes {gs = gs} (record { inner = i g (Memᴰ.head refl); below = omega (arith, size) }) (λ q. b.0 (ap f q))
      (rw (turns g h) (fan-turns s b.1 (λ x m. i x (Memᴰ.tail m))))
