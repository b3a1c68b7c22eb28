-- What the cases look at: the number of an answer, 0 where nothing is refused, and the first coordinate of three points of the same share;
-- and what the code's tests of them rest on. Assumes nothing.
use Rattle.std.specs.Prelude.{ℕ, ◌<◌, ◌^◌, ◌≡◌, true, List, eqb, ℤ, pos, Float, get_or, replicate}
use Rattle.std.proofs.Common.{ap, ◌∙◌, to_z, of_z, to_z-of_z}
use Rattle.std.specs.Int.Signed.{mag}
use Rattle.std.specs.Int.{w64}
use Rattle.definitions.specs.Answers.{Answer, done, refused, number}
use Rattle.definitions.specs.Refusals.{snap_call}

abbrev pub number_of : Answer (Unit {0}) → ℕ
number_of (done x) = 0
number_of (refused why) = number why

unfoldable pub whole_of : Float → ℕ → ℤ
unfolding snap_call
whole_of share r = get_or (snap_call 3 (replicate 6 share) r (replicate 9 (pos 0))).coordinates 0 (pos 0)

-- the code's test of a whole number z that is w
pub whole_tested : (z w : ℤ) (n : ℕ) → z ≡ w → eqb (of_z w64 w) n ≡ true → eqb (of_z w64 z) n ≡ true
whole_tested z w n e h = rw e h

-- the first coordinate of a list that is cs, read back from its bits
pub first_is : (bs cs : List ℤ) → bs ≡ cs → mag (get_or bs 0 (pos 0)) < 2 ^ 63 → to_z w64 (of_z w64 (get_or bs 0 (pos 0))) ≡ get_or cs 0 (pos 0)
first_is bs cs e h = to_z-of_z {w = w64} (record { sfits = h }) ∙ ap (λ (xs : List ℤ). get_or xs 0 (pos 0)) e
