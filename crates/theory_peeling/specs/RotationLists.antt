-- The darts that turning round a vertex meets, as a list. Assumes nothing.
use Prim.Native.Nat.{ℕ, zero, suc, ◌+◌, ◌-◌, ◌*◌, ◌≤◌, ◌<◌}
use Rattle.std.specs.Prelude.{◌≡◌, length}
use Rattle.std.proofs.Math.Path.{refl, ap}
use Rattle.std.proofs.Common.{sym, ◌∙◌}
use Rattle.std.proofs.Math.Logic.{inl, inr}
use mathlib.Core.List.Memᴰ
use mathlib.Core.List.{List, [], ◌∷◌, ◌++◌}
use native.Mathlib.Omega.{arith}
use Rattle.definitions.specs.Mesh.{prev}
use Rattle.laws.specs.Lists.{◌∈◌}
use Rattle.laws.specs.Counting.{Distinct, nil, cons}
use Rattle.theory_sphere.specs.Sphere.{Sphere, rotate}
use Rattle.theory_sphere.specs.Rotations.{rotate-add, rot-below}
use Rattle.theory_realizer.specs.Trace.{Fan, end, more}

module _ (opp : ℕ → ℕ) where
  -- d, and the darts that further rotations lead to: k darts in all
  unfoldable pub rotations_by : ℕ → ℕ → List ℕ
  unfolding prev
  rotations_by zero d = []
  rotations_by (suc k) d = d ∷ rotations_by k (opp (prev d))

  pub length-rotations_by : (k d : ℕ) → length (rotations_by k d) ≡ k
  unfolding rotations_by
  length-rotations_by zero d = refl
  length-rotations_by (suc k) d = ap suc (length-rotations_by k (opp (prev d)))

  pub rotations_by_in : {x : ℕ} (k d : ℕ) → x ∈ rotations_by k d → (i : ℕ) × (i < k) × (x ≡ rotate opp i d)
  unfolding rotations_by rotate
  rotations_by_in zero d m = absurd (Memᴰ.not-nil m)
  rotations_by_in (suc k) d m =
      elim (Memᴰ.cases_cons m) [
        | inl e ↦ (0, omega arith, e)
        | inr m' ↦ let r = rotations_by_in k (opp (prev d)) m' in (suc r.0, omega (arith, r.1), r.2)
      ]

  pub in_rotations_by : (k d i : ℕ) → i < k → rotate opp i d ∈ rotations_by k d
  unfolding rotations_by rotate
  in_rotations_by zero d i h = absurd (omega arith)
  in_rotations_by (suc k) d zero h = Memᴰ.head refl
  in_rotations_by (suc k) d (suc i) h = Memᴰ.tail (in_rotations_by k (opp (prev d)) i (omega arith))

  pub rotations_by-add : (j k d : ℕ) → rotations_by (j + k) d ≡ rotations_by j d ++ rotations_by k (rotate opp j d)
  unfolding rotations_by rotate
  rotations_by-add zero k d = let e : zero + k ≡ k = omega arith in rw e
  rotations_by-add (suc j) k d = let e : suc j + k ≡ suc (j + k) = omega arith in
      rw e (ap {B = List ℕ} (λ (r : List ℕ). d ∷ r) (rotations_by-add j k (opp (prev d))))

  -- Up to the first dart without P no dart is met twice.
  pub rotations_by_distinct : (P : ℕ → Type 0) (k d : ℕ) → ((i : ℕ) → i ≤ k → P (rotate opp i d)) → (P (rotate opp (suc k) d) → ⊥) →
      Distinct (rotations_by (suc k) d)
  unfolding rotations_by rotate
  rotations_by_distinct P zero d h a = cons {x = d} Memᴰ.not-nil nil
  rotations_by_distinct P (suc k) d h a =
      cons {x = d}
      (λ m.
      let r = rotations_by_in (suc k) (opp (prev d)) m in
      let i = r.0 in
      let e : suc (suc k) ≡ suc i + (suc k - i) = omega (arith, r.1) in
      let t : rotate opp (suc (suc k)) d ≡ rotate opp (suc k - i) d =
      ap (λ (x : ℕ). rotate opp x d) e ∙ rotate-add opp (suc i) (suc k - i) d ∙ ap (rotate opp (suc k - i)) (sym r.2) in
      a (rw t (h (suc k - i) (omega arith))))
      (rotations_by_distinct P k (opp (prev d)) (λ i l. h (suc i) (omega arith)) a)

module _ {n T : ℕ} {org opp : ℕ → ℕ} (s : Sphere n T org opp) where
  -- a fan is such a list
  pub rotations_by-fan : (last k d : ℕ) → d < 3 * T → rotate opp (suc k) d ≡ last → Fan T org opp last d (rotations_by opp (suc k) d)
  unfolding rotations_by rotate
  rotations_by-fan last zero d h e = end h e
  rotations_by-fan last (suc k) d h e = more h (rotations_by-fan last k (opp (prev d)) (rot-below s d h) e)
