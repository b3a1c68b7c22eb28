-- What rows 11 and 12 say of coordinates that they let through. Assumes nothing.
use Rattle.std.specs.Prelude.{ℕ, ◌<◌, ◌≡◌, true, false, not, ◌&&◌, List, T, ℤ, pos, ◌+ℤ◌, ◌≤ℤ◌}
use Rattle.std.proofs.Common.{sym, subst}
use Rattle.std.specs.Int.Signed.{le_z, le_z_yes}
use Rattle.std.proofs.lemmas.Bool.{not-false}
use Rattle.definitions.specs.Labels.{outer}
use Rattle.definitions.specs.Backward.{coordinate}
use Rattle.definitions.specs.Refusals.{eq_z, has_coordinates, row11, row12}
use Rattle.laws.specs.Integers.{int}
use Rattle.laws.specs.Lists.{and_both, upto-none}

eq_z-true : (a b : ℤ) → eq_z a b ≡ true → a ≡ b
unfolding eq_z
eq_z-true a b e =
    let k = and_both (le_z a b) (le_z b a) e in
    let le : a ≤ℤ b = le_z_yes (subst T (sym k.0) tt) in
    let ge : b ≤ℤ a = le_z_yes (subst T (sym k.1) tt) in
    omega int

has_coordinates-true : (bs : List ℤ) (i : ℕ) (x y z : ℤ) → has_coordinates bs i x y z ≡ true →
    (coordinate bs 0 i ≡ x) × (coordinate bs 1 i ≡ y) × (coordinate bs 2 i ≡ z)
unfolding has_coordinates
has_coordinates-true bs i x y z e =
    let k = and_both (eq_z (coordinate bs 0 i) x && eq_z (coordinate bs 1 i) y) (eq_z (coordinate bs 2 i) z) e in
    let l = and_both (eq_z (coordinate bs 0 i) x) (eq_z (coordinate bs 1 i) y) k.0 in
    (eq_z-true (coordinate bs 0 i) x l.0, eq_z-true (coordinate bs 1 i) y l.1, eq_z-true (coordinate bs 2 i) z k.1)

-- the outer vertices stand at their corners; N is b0 of v0
pub record Cornered (ts : List ℕ) (bs : List ℤ) : Type 0 where
  pub v0 : coordinate bs 1 (outer ts 0) ≡ pos 0
  pub v1 : (coordinate bs 0 (outer ts 1) ≡ pos 0) × (coordinate bs 1 (outer ts 1) ≡ coordinate bs 0 (outer ts 0))
  pub v2 : (coordinate bs 0 (outer ts 2) ≡ pos 0) × (coordinate bs 1 (outer ts 2) ≡ pos 0)

pub cornered : (ts : List ℕ) (bs : List ℤ) → row11 ts bs ≡ false → Cornered ts bs
unfolding row11
cornered ts bs e =
    let N = coordinate bs 0 (outer ts 0) in
    let o = pos 0 in
    let s0 = has_coordinates bs (outer ts 0) N o o in
    let s1 = has_coordinates bs (outer ts 1) o N o in
    let s2 = has_coordinates bs (outer ts 2) o o N in
    let k = and_both (s0 && s1) s2 (not-false (s0 && s1 && s2) e) in
    let l = and_both s0 s1 k.0 in
    let a = has_coordinates-true bs (outer ts 0) N o o l.0 in
    let b = has_coordinates-true bs (outer ts 1) o N o l.1 in
    let c = has_coordinates-true bs (outer ts 2) o o N k.1 in
    record { v0 = a.1; v1 = (b.0, b.1); v2 = (c.0, c.1) }

-- every vertex's coordinates come to N
pub summing : (n : ℕ) (ts : List ℕ) (bs : List ℤ) → row12 n ts bs ≡ false → (i : ℕ) → i < n →
    coordinate bs 0 i +ℤ coordinate bs 1 i +ℤ coordinate bs 2 i ≡ coordinate bs 0 (outer ts 0)
unfolding row12
summing n ts bs e i h =
    let N = coordinate bs 0 (outer ts 0) in
    let s : ℕ → ℤ = λ i. coordinate bs 0 i +ℤ coordinate bs 1 i +ℤ coordinate bs 2 i in
    eq_z-true (s i) N (not-false (eq_z (s i) N) (upto-none (λ i. not (eq_z (s i) N)) n e i h))
