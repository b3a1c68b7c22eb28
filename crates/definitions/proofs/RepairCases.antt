-- Cases of our own for "Repair", computed of the definitions: area numbers, raises, their order, the limit that stops them, C-21's first raise, and changed
-- weights. What each expects is worked out from the papers by hand; the comments say how. Assumes nothing.
use Rattle.std.specs.Prelude.{ℕ, ◌+◌, ◌≡◌, refl, true, false, List, [], ◌∷◌, map, replicate, ℤ, pos, ◌+ℤ◌}
use Rattle.definitions.specs.Answers.{done, refused, stopped_after}
use Rattle.definitions.specs.Repair.{area, bad, raise, add_to, finished, stopped, repair, changed}
use Rattle.definitions.specs.Refusals.{repair_call}
use Rattle.definitions.proofs.CheckedShells.{Every, all_held, ◌and◌, pair, tetra, lent, lent_scratch, cleared_scratch, minus, tetra_at}

-- ---- one triangle

-- Triangle 1 of n = 3 is (0, 1, 2). With the labels 0, 1, 2 its corners p, q, r are the vertices 0, 1, 2, and the lists below have b0, b1, b2 of p, of q and
-- of r, line by line.
abbrev pqr : List ℕ
pqr = 0 ∷ 1 ∷ 2 ∷ []

-- D = (7 - 2)(4 - 3) - (13 - 3)(17 - 2) = 5 - 150. With the labels 2, 0, 1 p, q, r are the vertices 1, 2, 0: (17 - 7)(3 - 13) - (4 - 13)(2 - 7) = -100 - 45.
abbrev Areas : Type 0
Areas =
    let bs =
    pos 2 ∷ pos 3 ∷ pos 11
    ∷ pos 7 ∷ pos 13 ∷ pos 5
    ∷ pos 17 ∷ pos 4 ∷ pos 19
    ∷ [] in
    (area pair pqr bs 1 ≡ minus 145) × (area pair (2 ∷ 0 ∷ 1 ∷ []) bs 1 ≡ minus 145)

areas : Areas
unfolding area
areas = (refl, refl)

-- with p at (0, 0), q at (1, 0) and r at (0, D) in b0 and b1 the area number is D
abbrev with_area : ℤ → List ℤ
with_area D =
    pos 0 ∷ pos 0 ∷ pos 0
    ∷ pos 1 ∷ pos 0 ∷ pos 0
    ∷ pos 0 ∷ D ∷ pos 0
    ∷ []

abbrev Bad : Type 0
Bad = map (λ D. bad pair pqr (with_area D) 1) (minus 1 ∷ pos 0 ∷ pos 1 ∷ []) ≡ true ∷ true ∷ false ∷ []

bads : Bad
unfolding bad
bads = refl

-- m = 5 each time, once from each c and each of the two other corners: b0 of q and of r less that of p, b1 of p and of r less that of q, b2 of p and of q
-- less that of r. In the last m is the largest of -9, -4 and -7.
abbrev Raises : Type 0
Raises =
    map (λ bs. raise pair pqr bs 1)
    ((pos 2 ∷ pos 0 ∷ pos 0
    ∷ pos 7 ∷ pos 0 ∷ pos 0
    ∷ pos 3 ∷ pos 0 ∷ pos 0
    ∷ [])
    ∷ (pos 2 ∷ pos 0 ∷ pos 0
    ∷ pos 3 ∷ pos 0 ∷ pos 0
    ∷ pos 7 ∷ pos 0 ∷ pos 0
    ∷ [])
    ∷ (pos 0 ∷ pos 7 ∷ pos 0
    ∷ pos 0 ∷ pos 2 ∷ pos 0
    ∷ pos 0 ∷ pos 3 ∷ pos 0
    ∷ [])
    ∷ (pos 0 ∷ pos 3 ∷ pos 0
    ∷ pos 0 ∷ pos 2 ∷ pos 0
    ∷ pos 0 ∷ pos 7 ∷ pos 0
    ∷ [])
    ∷ (pos 0 ∷ pos 0 ∷ pos 7
    ∷ pos 0 ∷ pos 0 ∷ pos 3
    ∷ pos 0 ∷ pos 0 ∷ pos 2
    ∷ [])
    ∷ (pos 0 ∷ pos 0 ∷ pos 3
    ∷ pos 0 ∷ pos 0 ∷ pos 7
    ∷ pos 0 ∷ pos 0 ∷ pos 2
    ∷ [])
    ∷ (pos 9 ∷ pos 0 ∷ pos 0
    ∷ pos 0 ∷ pos 4 ∷ pos 0
    ∷ pos 0 ∷ pos 0 ∷ pos 7
    ∷ [])
    ∷ [])
    ≡ pos 6 ∷ pos 6 ∷ pos 6 ∷ pos 6 ∷ pos 6 ∷ pos 6 ∷ minus 3 ∷ []

raises : Raises
unfolding raise
raises = refl

-- inner triangles are numbered from 1
abbrev Added : Type 0
Added =
    let ws = pos 5 ∷ pos 3 ∷ pos 2 ∷ [] in
    map (λ t. add_to ws t (pos 4)) (1 ∷ 2 ∷ 3 ∷ [])
    ≡ (pos 9 ∷ pos 3 ∷ pos 2 ∷ [])
    ∷ (pos 5 ∷ pos 7 ∷ pos 2 ∷ [])
    ∷ (pos 5 ∷ pos 3 ∷ pos 6 ∷ [])
    ∷ []

added : Added
unfolding add_to
added = refl

-- ---- the loop

abbrev tetra_labels : List ℕ
tetra_labels = 0 ∷ 1 ∷ 2 ∷ 0 ∷ 1 ∷ 2 ∷ 0 ∷ 1 ∷ 2 ∷ []

-- The tetra with vertex 4 put into its triangle (0,3,2). v2 = 2 leaves with 0, 4, 3, 1, then 4, since 3 has a chord to 0, and then 3: all inner triangles have
-- the labels 0, 1, 2 as listed.
abbrev divided : List ℕ
divided = 0 ∷ 2 ∷ 1 ∷ 0 ∷ 3 ∷ 4 ∷ 4 ∷ 3 ∷ 2 ∷ 0 ∷ 4 ∷ 2 ∷ 0 ∷ 1 ∷ 3 ∷ 3 ∷ 1 ∷ 2 ∷ []

abbrev divided_labels : List ℕ
divided_labels = 0 ∷ 1 ∷ 2 ∷ 0 ∷ 1 ∷ 2 ∷ 0 ∷ 1 ∷ 2 ∷ 0 ∷ 1 ∷ 2 ∷ 0 ∷ 1 ∷ 2 ∷ []

-- The sides that the walks cross: 0-3 triangles 1, 2, 3; 3-4 triangle 2; 0-4 triangle 3; 1-3 triangle 5; 0-1 all. 3 goes to v0 by 0-3 and to v1 by 1-3, and
-- 4 goes to v0 by 0-4 and to v1 by 3-4 and 1-3. So the weights a to e put 3 at (e, a + b + c, d) and 4 at (b + e, c, a + d). The area numbers are
-- a(a + b + c) + d(a + b), bc + (a + b)(b + e), cN, dN and e_n.
abbrev divided_at : ℤ → ℤ → ℤ → ℤ → ℤ → List ℤ
divided_at a b c d e =
    let N = a +ℤ b +ℤ c +ℤ d +ℤ e in
    let o = pos 0 in
    N ∷ o ∷ o ∷ o ∷ N ∷ o ∷ o ∷ o ∷ N ∷ e ∷ (a +ℤ b +ℤ c) ∷ d ∷ (b +ℤ e) ∷ c ∷ (a +ℤ d) ∷ []

-- For -1, 2, -1, 1, 0 the area numbers are 1, 0, -1, 1, 0. Of 2, 3 and 5, 2 is the lowest; m is 0 (b1, b2), so 2 becomes 3. Now they are 1, 3, -2, 2, 0; of
-- 3 and 5, 3 is the lower; m is 1 (b0, b1), so -1 becomes 1. Now they are -1, 9, 4, 4, 0: 1 is turned, and lower than 5; m is 1 (b2), so -1 becomes 1. Now
-- they are 9, 15, 6, 6, 0; m is 0 (b0), so 0 becomes 1. The raises are of 2, 3, 1 and 5, in this order.
abbrev LowestFirst : Type 0
LowestFirst =
    repair 5 divided divided_labels (minus 1 ∷ pos 2 ∷ minus 1 ∷ pos 1 ∷ pos 0 ∷ [])
    ≡ record { ending = finished; weights = pos 1 ∷ pos 3 ∷ pos 1 ∷ pos 1 ∷ pos 1 ∷ []; raises = 2 ∷ 3 ∷ 1 ∷ 5 ∷ [] }

lowest-first : LowestFirst
unfolding repair
lowest-first = refl

-- In the tetra with weights a, b, c the area numbers are aN, bN and cN. For L - 1, 0, 0 triangle 2 is flat, and m is 0: the raise makes the sum L. Then 3 is
-- flat, m is 0, and the sum would be L + 1: stopped after a raise of the loop.
-- For 0, 0, -B with B = 400,000,000, N is below 1. The m of triangle 1 is 0 - N, so its own raise is 1 - N: it leaves 1 + B, 0, -B and N = 1. Now triangle 2
-- is flat, and its m is B too: the absolute values would sum to 3B + 2, past L: stopped after the first raise.
abbrev CountSoFar : Type 0
CountSoFar =
    (repair_call 4 0 tetra (pos 1_073_741_822 ∷ pos 0 ∷ pos 0 ∷ []) (lent 12) (lent_scratch 4)
    ≡ record {
      answer = refused (stopped_after 1);
      weights = pos 1_073_741_822 ∷ pos 1 ∷ pos 0 ∷ [];
      coordinates = tetra_at (pos 1_073_741_823) (pos 1_073_741_822) (pos 1) (pos 0);
      scratch = cleared_scratch 4;
    })
    × (repair 4 tetra tetra_labels (pos 1_073_741_822 ∷ pos 0 ∷ pos 0 ∷ [])
    ≡ record { ending = stopped; weights = pos 1_073_741_822 ∷ pos 1 ∷ pos 0 ∷ []; raises = 2 ∷ [] })
    × (repair_call 4 0 tetra (pos 0 ∷ pos 0 ∷ minus 400_000_000 ∷ []) (lent 12) (lent_scratch 4)
    ≡ record {
      answer = refused (stopped_after 1);
      weights = pos 400_000_001 ∷ pos 0 ∷ minus 400_000_000 ∷ [];
      coordinates = tetra_at (pos 1) (pos 400_000_001) (pos 0) (minus 400_000_000);
      scratch = cleared_scratch 4;
    })
    × (repair 4 tetra tetra_labels (pos 0 ∷ pos 0 ∷ minus 400_000_000 ∷ [])
    ≡ record { ending = stopped; weights = pos 400_000_001 ∷ pos 0 ∷ minus 400_000_000 ∷ []; raises = 1 ∷ [] })

count_so_far : CountSoFar
unfolding repair repair_call
count_so_far = (refl, refl, refl, refl)

-- Only triangle 2, of weight 0, is bad. Its m is 0 - b = 0: the other two, a - N and c - N, are below 0. A raise to the sum L = 1,073,741,823 is made;
-- one to L + 1 is refused.
abbrev RaiseToLimit : Type 0
RaiseToLimit =
    (repair_call 4 0 tetra (pos 1_073_741_821 ∷ pos 0 ∷ pos 1 ∷ []) (lent 12) (lent_scratch 4)
    ≡ record {
      answer = done 1;
      weights = pos 1_073_741_821 ∷ pos 1 ∷ pos 1 ∷ [];
      coordinates = tetra_at (pos 1_073_741_823) (pos 1_073_741_821) (pos 1) (pos 1);
      scratch = cleared_scratch 4;
    })
    × (repair_call 4 0 tetra (pos 1_073_741_822 ∷ pos 0 ∷ pos 1 ∷ []) (lent 12) (lent_scratch 4)
    ≡ record {
      answer = refused (stopped_after 0);
      weights = pos 1_073_741_822 ∷ pos 0 ∷ pos 1 ∷ [];
      coordinates = tetra_at (pos 1_073_741_823) (pos 1_073_741_822) (pos 0) (pos 1);
      scratch = cleared_scratch 4;
    })

raise-to-limit : RaiseToLimit
unfolding repair_call
raise-to-limit = (refl, refl)

-- ---- the first raise, of triangle 1 where N is below 1 (document 02, C-21)

-- `divided` with the weights 2, 1, 1, 1, -4 - k: N is 1 - k. Triangle 1 has area number 11, and m is -2 (b2): its own raise is -1. So k = 0 leaves it as it
-- is, and k = 1 raises it by 1 - N = 1, to 3 and N = 1. Then 2 is turned: b + e is -3 - k, m is 3 + k (b0), and 1 becomes 5 + k. Now 1 to 4 have area numbers
-- above 0, and 5 is turned: m is 4 + k (b0), and -4 - k becomes 1.
abbrev WithTotal : ℕ → ℕ → Type 0
WithTotal k count =
    repair_call 5 0 divided (pos 2 ∷ pos 1 ∷ pos 1 ∷ pos 1 ∷ minus (4 + k) ∷ []) (lent 15) (lent_scratch 5)
    ≡ record {
      answer = done count;
      weights = pos (2 + k) ∷ pos (5 + k) ∷ pos 1 ∷ pos 1 ∷ pos 1 ∷ [];
      coordinates = divided_at (pos (2 + k)) (pos (5 + k)) (pos 1) (pos 1) (pos 1);
      scratch = cleared_scratch 5;
    }

-- N = 1 and 0
abbrev Totals : Type 0
Totals = WithTotal 0 2 × WithTotal 1 3

totals : Totals
unfolding repair_call
totals = (refl, refl)

-- `divided` with all weights 0: N = 0. By its area numbers each triangle, with 1 for those before it and 0 for it and those after it, is the first that is
-- flat, and its m is 0: of 2 by b0 and b2, of 3 by b1, of 4 by b1 and b2, of 5 by b0. So all 2n - 5 = 5 are raised.
abbrev MostRaises : Type 0
MostRaises =
    repair_call 5 0 divided (replicate 5 (pos 0)) (lent 15) (lent_scratch 5)
    ≡ record {
      answer = done 5;
      weights = replicate 5 (pos 1);
      coordinates = divided_at (pos 1) (pos 1) (pos 1) (pos 1) (pos 1);
      scratch = cleared_scratch 5;
    }

most_raises : MostRaises
unfolding repair_call
most_raises = refl

-- The tetra with 0, 2, -3: N is -1, and m of triangle 1 is b - N = 3: its own raise is 4, and 1 - N is 2. So 0 becomes 4 and N is 3. Then 3: m is 0 - c = 3,
-- so -3 becomes 1.
abbrev LargerOwnRaise : Type 0
LargerOwnRaise =
    repair_call 4 0 tetra (pos 0 ∷ pos 2 ∷ minus 3 ∷ []) (lent 12) (lent_scratch 4)
    ≡ record {
      answer = done 2;
      weights = pos 4 ∷ pos 2 ∷ pos 1 ∷ [];
      coordinates = tetra_at (pos 7) (pos 4) (pos 2) (pos 1);
      scratch = cleared_scratch 4;
    }

larger-own-raise : LargerOwnRaise
unfolding repair_call
larger-own-raise = refl

-- `divided` with 0, 0, 1, 1, -3: N is -1. Triangle 1 is flat, and m is 0 (b1, b2): its own raise is 1, and 1 - N is 2. So 0 becomes 2 and N is 1. Then 2 is
-- turned: m is 3 (b0), and 0 becomes 4. Then 5 is turned: m is 3 (b0), and -3 becomes 1.
abbrev SmallerOwnRaise : Type 0
SmallerOwnRaise =
    repair_call 5 0 divided (pos 0 ∷ pos 0 ∷ pos 1 ∷ pos 1 ∷ minus 3 ∷ []) (lent 15) (lent_scratch 5)
    ≡ record {
      answer = done 3;
      weights = pos 2 ∷ pos 4 ∷ pos 1 ∷ pos 1 ∷ pos 1 ∷ [];
      coordinates = divided_at (pos 2) (pos 4) (pos 1) (pos 1) (pos 1);
      scratch = cleared_scratch 5;
    }

smaller_own-raise : SmallerOwnRaise
unfolding repair_call
smaller_own-raise = refl

-- n = 3 with weight -5, which is N: m is 0 - N, so the raise is 1 - N = 6, and nothing is left to raise.
abbrev OneTriangle : Type 0
OneTriangle =
    repair_call 3 0 pair (minus 5 ∷ []) (lent 9) (lent_scratch 3)
    ≡ record {
      answer = done 1;
      weights = pos 1 ∷ [];
      coordinates = pos 1 ∷ pos 0 ∷ pos 0 ∷ pos 0 ∷ pos 1 ∷ pos 0 ∷ pos 0 ∷ pos 0 ∷ pos 1 ∷ [];
      scratch = cleared_scratch 3;
    }

one_triangle : OneTriangle
unfolding repair_call
one_triangle = refl

-- The tetra with -1, b, -B, where B = 536,870,910: the area number of triangle 1 is -N, above 0, and its m is b - N = 1 + B, so the first raise leaves
-- 1 + B, b, -B. For b = 2 their absolute values sum to 2B + 3 = L, and it is made; then 3 is turned, m is 0 - c = B, and -B becomes 1. For b = 3 they would sum
-- to L + 1: it is not made, and nothing else is done, though triangle 2 is turned and could be raised.
abbrev FirstRaiseToLimit : Type 0
FirstRaiseToLimit =
    (repair_call 4 0 tetra (minus 1 ∷ pos 2 ∷ minus 536_870_910 ∷ []) (lent 12) (lent_scratch 4)
    ≡ record {
      answer = done 2;
      weights = pos 536_870_911 ∷ pos 2 ∷ pos 1 ∷ [];
      coordinates = tetra_at (pos 536_870_914) (pos 536_870_911) (pos 2) (pos 1);
      scratch = cleared_scratch 4;
    })
    × (repair_call 4 0 tetra (minus 1 ∷ pos 3 ∷ minus 536_870_910 ∷ []) (lent 12) (lent_scratch 4)
    ≡ record {
      answer = refused (stopped_after 0);
      weights = minus 1 ∷ pos 3 ∷ minus 536_870_910 ∷ [];
      coordinates = tetra_at (minus 536_870_908) (minus 1) (pos 3) (minus 536_870_910);
      scratch = cleared_scratch 4;
    })

first-raise-to-limit : FirstRaiseToLimit
unfolding repair_call
first-raise-to-limit = (refl, refl)

-- ---- changed weights: one that rose, one that fell, one of each, none

abbrev Changed : Type 0
Changed =
    let ws = pos 5 ∷ pos 3 ∷ minus 1 ∷ [] in
    (changed tetra ws (pos 5 ∷ pos 3 ∷ pos 1 ∷ []) ≡ 3 ∷ [])
    × (changed tetra ws (pos 5 ∷ pos 2 ∷ minus 1 ∷ []) ≡ 2 ∷ [])
    × (changed tetra ws (pos 6 ∷ pos 3 ∷ minus 2 ∷ []) ≡ 1 ∷ 3 ∷ [])
    × (changed tetra ws ws ≡ [])

changes : Changed
unfolding changed
changes = (refl, refl, refl, refl)

pub repair-cases :
    Every
    (Areas ∷ Bad ∷ Raises ∷ Added ∷ LowestFirst ∷ CountSoFar ∷ RaiseToLimit ∷ Totals ∷ MostRaises ∷ LargerOwnRaise ∷ SmallerOwnRaise
    ∷ OneTriangle ∷ FirstRaiseToLimit ∷ Changed ∷ [])
repair-cases =
    areas and bads and raises and added and lowest-first and count_so_far and raise-to-limit and totals and most_raises
    and larger-own-raise and smaller_own-raise and one_triangle and first-raise-to-limit and changes and all_held
