-- Row 3 by the highest vertex number. Assumes nothing.
use Rattle.std.specs.Prelude.{ℕ, ◌+◌, ◌≤◌, ◌<◌, max, ◌≡◌, ◌⊎◌, List, leb, length, get_or}
use Rattle.std.proofs.Math.Path.{sym}
use Rattle.std.proofs.Common.{◌∙◌, arith}
use Rattle.std.proofs.Math.Logic.{inl, inr}
use Rattle.std.proofs.Math.Decide.{ℕ_discrete, dec_le}
use borrow.Author.Tests.{le-leb, lt-leb}
use Rattle.definitions.specs.Mesh.{org, row3}
use Rattle.laws.specs.Lists.{true-any, false-any, get_or_in, in_get_or}

-- no vertex number of the first d corners is above `highest`, which is one of them or 0
pub record Highest (ts : List ℕ) (highest d : ℕ) : Type 0 where
  pub above : (e : ℕ) → e < d → org ts e ≤ highest
  pub there : (highest ≡ 0) ⊎ ((e : ℕ) × (e < d) × (org ts e ≡ highest))

pub highest_next : (ts : List ℕ) (highest d r : ℕ) → r ≡ max highest (get_or ts d 0) → Highest ts highest d → Highest ts r (d + 1)
unfolding org
highest_next ts highest d r q H =
    record {
      above = λ x h. elim (ℕ_discrete x d) [
        | yes z ↦ rw z (omega (arith, q))
        | no z ↦ omega (arith, q, H.above x (omega (arith, z)))
      ];
      there = elim (dec_le highest (get_or ts d 0)) [
        | yes l ↦ inr (d, omega arith, omega (arith, q, l))
        | no l ↦ elim H.there [
          | inl z ↦ inl (omega (arith, l))
          | inr w ↦ inr (w.0, omega (arith, w.1), omega (arith, w.2, q, l))
        ]
      ];
    }

module _ (ts : List ℕ) (n highest d : ℕ) (some : 0 < n) (all : length ts ≤ d) (low : d ≤ length ts) (H : Highest ts highest d) where
  pub highest_tells : leb n highest ≡ row3 ts n
  unfolding row3 org
  highest_tells =
      elim (dec_le n highest) [
        | yes h ↦ elim H.there [
          | inl z ↦ absurd (omega (arith, z, h))
          | inr w ↦
              le-leb n highest h
              ∙ sym (true-any (leb n) (get_or_in ts w.0 0 (omega (arith, w.1))) (le-leb n (get_or ts w.0 0) (omega (arith, w.2, h))))
        ]
        | no h ↦
            lt-leb n highest (omega (arith, h)) ∙ sym (false-any (leb n) ts (λ v m.
            let i = in_get_or 0 m in
            lt-leb n v (omega (arith, h, H.above i.0 (omega (arith, i.1)), i.2))))
      ]
