-- Weights with a tolerance (document 02, C-18): where no weight falls no coordinate falls, and what row 29 says of the ranges. Assumes nothing.
use Rattle.std.specs.Prelude.{ℕ, zero, suc, ◌≤◌, ◌<◌, ◌≡◌, Bool, true, false, not, cond, List, length, get_or, ℤ, pos, ◌≤ℤ◌}
use Rattle.std.proofs.Common.{arith}
use Rattle.std.specs.Int.Signed.{le_z, ≤ℤ_refl}
use Rattle.std.proofs.lemmas.Bool.{not-false}
use Rattle.definitions.specs.Mesh.{triangles_length, weights_length}
use Rattle.definitions.specs.Forward.{weight, forward}
use Rattle.definitions.specs.Backward.{coordinate}
use Rattle.definitions.specs.Refusals.{row29}
use Rattle.laws.specs.Lists.{upto-none}
use Rattle.laws.specs.Ring.{le_z-true}
use Rattle.laws.specs.Sums.{sum-le}
use Rattle.theory_realizer.specs.Units.{Units}
use Rattle.theory_repair.specs.Parts.{is_part}
use Rattle.theory_repair.specs.Coordinates.{term, coordinate-sum}

-- where row 29 finds nothing each low is at most its high
pub low_high : (lows highs : List ℤ) → row29 lows highs ≡ false → (t : ℕ) → 1 ≤ t → t ≤ length lows → weight lows t ≤ℤ weight highs t
unfolding row29 weight
low_high lows highs e zero h k = absurd (omega arith)
low_high lows highs e (suc t) h k =
    let above : ℕ → Bool = λ j. not (le_z (get_or lows j (pos 0)) (get_or highs j (pos 0))) in
    le_z-true (get_or lows t (pos 0)) (get_or highs t (pos 0)) (not-false _ (upto-none above (length lows) e t (omega arith)))

-- a number that counts or does not
counted_le : (b : Bool) (x y : ℤ) → x ≤ℤ y → cond b x (pos 0) ≤ℤ cond b y (pos 0)
counted_le true x y h = h
counted_le false x y h = ≤ℤ_refl (pos 0)

-- Each coordinate is a sum of weights, and so it is nowhere greater where no weight is.
pub coordinates_grow : (n : ℕ) (ts ls : List ℕ) → length ts ≡ triangles_length n → Units n ts ls → (us ws : List ℤ) →
    length us ≡ weights_length n → length ws ≡ weights_length n → ((t : ℕ) → 1 ≤ t → t ≤ weights_length n → weight us t ≤ℤ weight ws t) →
    (c i : ℕ) → c < 3 → i < n → coordinate (forward n ts ls us) c i ≤ℤ coordinate (forward n ts ls ws) c i
coordinates_grow n ts ls size U us ws len len' below c i h k =
    rw (coordinate-sum n ts ls size U us len c i h k, coordinate-sum n ts ls size U ws len' c i h k)
    (sum-le (term n ts ls us c i) (term n ts ls ws c i) 1 (weights_length n)
    (λ t l m. counted_le (is_part n ts ls c i t) (weight us t) (weight ws t) (below t l (omega arith))))
