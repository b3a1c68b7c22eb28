-- Row 4, triangle by triangle. Assumes nothing.
use Rattle.std.specs.Prelude.{ℕ, ◌+◌, ◌%◌, ◌≤◌, ◌<◌, ◌≡◌, Bool, ◌||◌, ◌⊎◌, List, eqb, length}
use Rattle.std.proofs.Math.Path.{refl}
use Rattle.std.proofs.Common.{arith}
use Rattle.std.proofs.Math.Bool.{true, false}
use Rattle.std.proofs.Math.Logic.{inl, inr}
use borrow.Author.Tests.{eq-eqb, ne_eqb}
use Rattle.std.proofs.Math.Decide.{ℕ_discrete}
use Rattle.definitions.specs.Lists.{upto}
use Rattle.definitions.specs.Mesh.{next, org, tip, darts, row4}
use Rattle.laws.specs.Lists.{tested, clash, true-any, false-any, in_upto, upto_in}

-- dart e runs from a vertex to itself
abbrev pub loops : List ℕ → ℕ → Bool
loops ts e = eqb (org ts e) (tip ts e)

-- one of the three darts from d on does
unfoldable pub repeated_at : List ℕ → ℕ → Bool
repeated_at ts d = loops ts d || (loops ts (d + 1) || loops ts (d + 2))

next-0 : (d : ℕ) → d % 3 ≡ 0 → next d ≡ d + 1
unfolding next
next-0 d h = omega arith

next-1 : (d : ℕ) → d % 3 ≡ 0 → next (d + 1) ≡ d + 2
unfolding next
next-1 d h = let r : (d + 1) % 3 ≡ 1 = omega arith in omega arith

next-2 : (d : ℕ) → d % 3 ≡ 0 → next (d + 2) ≡ d
unfolding next
next-2 d h = let r : (d + 2) % 3 ≡ 2 = omega arith in omega arith

-- two of three corners are one vertex
unfoldable pub repeated_in : ℕ → ℕ → ℕ → Bool
repeated_in a b c = eqb a b || (eqb b c || eqb c a)

module _ (a b c : ℕ) where
  pub repeated_found : (a ≡ b) ⊎ (((a ≡ b → ⊥) × (b ≡ c)) ⊎ ((a ≡ b → ⊥) × (b ≡ c → ⊥) × (c ≡ a))) → repeated_in a b c ≡ true
  unfolding repeated_in
  repeated_found (inl e) = rw (eq-eqb a b e)
  repeated_found (inr (inl p)) = rw (ne_eqb a b p.0, eq-eqb b c p.1)
  repeated_found (inr (inr p)) = rw (ne_eqb a b p.0, ne_eqb b c p.1, eq-eqb c a p.2)

  pub repeated_none : (a ≡ b → ⊥) → (b ≡ c → ⊥) → (c ≡ a → ⊥) → repeated_in a b c ≡ false
  unfolding repeated_in
  repeated_none f g h = rw (ne_eqb a b f, ne_eqb b c g, ne_eqb c a h)

-- which is so just where one of the three darts of their triangle runs from a vertex to itself
pub repeated_is : (ts : List ℕ) (d a b c : ℕ) → d % 3 ≡ 0 → a ≡ org ts d → b ≡ org ts (d + 1) → c ≡ org ts (d + 2)
    → repeated_in a b c ≡ repeated_at ts d
unfolding repeated_at repeated_in tip
repeated_is ts d a b c first at bt ct = rw (next-0 d first, next-1 d first, next-2 d first, at, bt, ct)

-- ---- triangle by triangle, the last one first

-- no dart from d on, and below `high`, runs from a vertex to itself
abbrev pub NoLoops : List ℕ → ℕ → ℕ → Type 0
NoLoops ts high d = (e : ℕ) → d ≤ e → e < high → loops ts e ≡ false

module _ (ts : List ℕ) (d : ℕ) (low : d + 2 < length ts) where
  pub loop_found : repeated_at ts d ≡ true → row4 ts ≡ true
  unfolding repeated_at row4 darts
  loop_found e =
      elim (tested (loops ts d)) [
        | inl p ↦ true-any (loops ts) (in_upto (length ts) d (omega arith)) p
        | inr p ↦ elim (tested (loops ts (d + 1))) [
          | inl q ↦ true-any (loops ts) (in_upto (length ts) (d + 1) (omega arith)) q
          | inr q ↦ true-any (loops ts) (in_upto (length ts) (d + 2) low) (rw (p, q) at e)
        ]
      ]

  pub loops-none : (high : ℕ) → repeated_at ts d ≡ false → NoLoops ts high (d + 3) → NoLoops ts high d
  unfolding repeated_at
  loops-none high e later x h l =
      elim (tested (loops ts d)) [
        | inl p ↦ let f : true ≡ false = rw p at e in clash refl f
        | inr p ↦ elim (tested (loops ts (d + 1))) [
          | inl q ↦ let f : true ≡ false = rw (p, q) at e in clash refl f
          | inr q ↦
              elim (ℕ_discrete x d) [
                | yes z ↦ rw z p
                | no z ↦ elim (ℕ_discrete x (d + 1)) [
                  | yes w ↦ rw w q
                  | no w ↦ elim (ℕ_discrete x (d + 2)) [
                    | yes u ↦ rw u (rw (p, q) at e)
                    | no u ↦ later x (omega (arith, z, w, u)) l
                  ]
                ]
              ]
        ]
      ]

pub no_loops : (ts : List ℕ) → NoLoops ts (length ts) 0 → row4 ts ≡ false
unfolding row4 darts
no_loops ts f = false-any (loops ts) (upto (length ts)) (λ e m. f e (omega arith) (upto_in (length ts) m))
