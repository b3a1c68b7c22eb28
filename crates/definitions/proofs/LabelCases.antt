-- Cases of our own for "Labels", computed of the definitions: the peeling step by step, the labels, and the colours of sides. What each expects is
-- worked out from the paper by hand; the comments say how. Assumes nothing.
use Rattle.std.specs.Prelude.{ℕ, ◌≡◌, refl, List, [], ◌∷◌, map}
use Rattle.std.proofs.Math.Option.{none, some}
use Rattle.definitions.specs.Lists.{filter}
use Rattle.definitions.specs.Answers.{done}
use Rattle.definitions.specs.Mesh.{darts, tip}
use Rattle.definitions.specs.Labels.{Peeling, outer, start, next_removable, fan, step, peel, rim, points}
use Rattle.definitions.specs.Refusals.{labels_call}
use Rattle.definitions.proofs.CheckedShells.{Every, all_held, ◌and◌, stale, lent_scratch, cleared_scratch}

-- ---- the smallest-numbered first

-- v2 = 2 leaves first and puts 3 and 5 on the frontier 0, 3, 5, 1, around 4. Both can leave, and 3 is the smaller: it passes (3, 0, 4) and
-- (3, 4, 5). Then 4 has a chord to 1, so 5 leaves, and 4 last. With 5 first, (3, 4, 5) would have the labels 0, 1, 2.
abbrev pub six : List ℕ
six =
    0 ∷ 2 ∷ 1
    ∷ 0 ∷ 3 ∷ 2
    ∷ 3 ∷ 5 ∷ 2
    ∷ 5 ∷ 1 ∷ 2
    ∷ 3 ∷ 0 ∷ 4
    ∷ 3 ∷ 4 ∷ 5
    ∷ 4 ∷ 1 ∷ 5
    ∷ 0 ∷ 1 ∷ 4
    ∷ []

abbrev pub six_labels : List ℕ
six_labels = 0 ∷ 1 ∷ 2 ∷ 0 ∷ 1 ∷ 2 ∷ 0 ∷ 1 ∷ 2 ∷ 2 ∷ 0 ∷ 1 ∷ 2 ∷ 0 ∷ 1 ∷ 0 ∷ 1 ∷ 2 ∷ 0 ∷ 1 ∷ 2 ∷ []

abbrev SmallestFirst : Type 0
SmallestFirst = labels_call 6 0 six (stale 21) (lent_scratch 6) ≡ record { answer = done tt; labels = six_labels; scratch = cleared_scratch 6 }

smallest_first : SmallestFirst
unfolding labels_call
smallest_first = refl

-- v0 = 1 and v1 = 0 are smaller than v2 = 2, and both stay: 2 at v2, 0 at v0, 1 at v1.
abbrev EndsStay : Type 0
EndsStay =
    labels_call 3 0 (1 ∷ 2 ∷ 0 ∷ 2 ∷ 1 ∷ 0 ∷ []) (stale 3) (lent_scratch 3)
    ≡ record { answer = done tt; labels = 2 ∷ 0 ∷ 1 ∷ []; scratch = cleared_scratch 3 }

ends_stay : EndsStay
unfolding labels_call
ends_stay = refl

-- ---- a shell with v0 = 5, v1 = 1 and v2 = 3: a long frontier

-- v2 leaves with 5, 0, 2, 4, 1. 0 and 2 have chords to v1, so 4 leaves, with 2, 1; then 2 with 0, 1, and 0 with 5, 1.
abbrev pub chain : List ℕ
chain =
    5 ∷ 3 ∷ 1
    ∷ 5 ∷ 0 ∷ 3
    ∷ 0 ∷ 2 ∷ 3
    ∷ 2 ∷ 4 ∷ 3
    ∷ 4 ∷ 1 ∷ 3
    ∷ 4 ∷ 2 ∷ 1
    ∷ 2 ∷ 0 ∷ 1
    ∷ 0 ∷ 5 ∷ 1
    ∷ []

abbrev LongFrontier : Type 0
LongFrontier =
    labels_call 6 0 chain (stale 21) (lent_scratch 6)
    ≡ record {
      answer = done tt;
      labels = 0 ∷ 1 ∷ 2 ∷ 0 ∷ 1 ∷ 2 ∷ 0 ∷ 1 ∷ 2 ∷ 0 ∷ 1 ∷ 2 ∷ 2 ∷ 0 ∷ 1 ∷ 2 ∷ 0 ∷ 1 ∷ 2 ∷ 0 ∷ 1 ∷ [];
      scratch = cleared_scratch 6;
    }

long_frontier : LongFrontier
unfolding labels_call
long_frontier = refl

-- ---- a shell with v0 = 4, v1 = 3 and v2 = 1

-- The inner vertices: 5 is joined to v0 and v2, 0 to v1 and v2, and 2 to v0 and v1; they are joined to each other.
abbrev pub mixed : List ℕ
mixed =
    4 ∷ 1 ∷ 3
    ∷ 5 ∷ 1 ∷ 4
    ∷ 5 ∷ 0 ∷ 1
    ∷ 1 ∷ 0 ∷ 3
    ∷ 4 ∷ 2 ∷ 5
    ∷ 2 ∷ 0 ∷ 5
    ∷ 2 ∷ 3 ∷ 0
    ∷ 2 ∷ 4 ∷ 3
    ∷ []

-- The peeling, state by state; `passed` has the darts from each vertex that left to its u1 .. uk, but for uk. First v2 leaves, with 4, 5, 0, 3.
abbrev begun : Peeling
begun = record { frontier = 4 ∷ 1 ∷ 3 ∷ []; removed = []; passed = [] }

-- 5 and 0 can leave. 0 is the smaller, though later on the frontier; it leaves with 5, 2, 3.
abbrev after_one : Peeling
after_one = record { frontier = 4 ∷ 5 ∷ 0 ∷ 3 ∷ []; removed = 1 ∷ []; passed = 4 ∷ 8 ∷ 9 ∷ [] }

-- 2 has a chord to 4. 5 leaves with 4, 2.
abbrev after_two : Peeling
after_two = record { frontier = 4 ∷ 5 ∷ 2 ∷ 3 ∷ []; removed = 0 ∷ 1 ∷ []; passed = 4 ∷ 8 ∷ 9 ∷ 16 ∷ 20 ∷ [] }

-- 2 leaves with 4, 3, and v0 and v1 stay.
abbrev after_three : Peeling
after_three = record { frontier = 4 ∷ 2 ∷ 3 ∷ []; removed = 5 ∷ 0 ∷ 1 ∷ []; passed = 4 ∷ 8 ∷ 9 ∷ 16 ∷ 20 ∷ 14 ∷ [] }

abbrev ended : Peeling
ended = record { frontier = 4 ∷ 3 ∷ []; removed = 2 ∷ 5 ∷ 0 ∷ 1 ∷ []; passed = 4 ∷ 8 ∷ 9 ∷ 16 ∷ 20 ∷ 14 ∷ 21 ∷ [] }

-- v0, v1 and v2, and the vertex that leaves in each state
abbrev Choices : Type 0
Choices =
    (map (outer mixed) (0 ∷ 1 ∷ 2 ∷ []) ≡ 4 ∷ 3 ∷ 1 ∷ [])
    × (start mixed ≡ begun)
    × (map (next_removable mixed) (begun ∷ after_one ∷ after_two ∷ after_three ∷ ended ∷ []) ≡ some 1 ∷ some 0 ∷ some 5 ∷ some 2 ∷ none ∷ [])

choices : Choices
unfolding outer start next_removable
choices = (refl, refl, refl)

-- u1 .. uk
abbrev Fans : Type 0
Fans =
    (map (tip mixed) (fan mixed begun 1) ≡ 4 ∷ 5 ∷ 0 ∷ 3 ∷ [])
    × (map (tip mixed) (fan mixed after_one 0) ≡ 5 ∷ 2 ∷ 3 ∷ [])
    × (map (tip mixed) (fan mixed after_two 5) ≡ 4 ∷ 2 ∷ [])
    × (map (tip mixed) (fan mixed after_three 2) ≡ 4 ∷ 3 ∷ [])

fans : Fans
unfolding tip fan
fans = (refl, refl, refl, refl)

abbrev Steps : Type 0
Steps =
    (map (step mixed) (begun ∷ after_one ∷ after_two ∷ after_three ∷ ended ∷ []) ≡ after_one ∷ after_two ∷ after_three ∷ ended ∷ ended ∷ [])
    × (peel mixed 6 ≡ ended)

steps : Steps
unfolding step peel
steps = (refl, refl)

-- the labels that these steps give, in listed order
abbrev pub mixed_labels : List ℕ
mixed_labels = 1 ∷ 2 ∷ 0 ∷ 0 ∷ 1 ∷ 2 ∷ 2 ∷ 0 ∷ 1 ∷ 0 ∷ 1 ∷ 2 ∷ 1 ∷ 2 ∷ 0 ∷ 0 ∷ 1 ∷ 2 ∷ 2 ∷ 0 ∷ 1 ∷ []

abbrev Mixed : Type 0
Mixed = labels_call 6 0 mixed (stale 21) (lent_scratch 6) ≡ record { answer = done tt; labels = mixed_labels; scratch = cleared_scratch 6 }

mixed_labelled : Mixed
unfolding labels_call
mixed_labelled = refl

-- ---- colours

-- The darts whose sides have colour c and point to their tips. Colour 0: 5 to 4, 0 to 5 and 2 to 4 (darts 14, 16, 21), and on the rim 3 and 1 to v0 = 4.
-- Colour 1: 0 to 3, 5 to 2 and 2 to 3 (10, 17, 18), and on the rim 1 and 4 to v1 = 3. Colour 2: 5 and 0 to 1, and 2 to 0 (3, 7, 15), and on the
-- rim 4 and 3 to v2 = 1.
abbrev Coloured : ℕ → List ℕ → Type 0
Coloured c ds = filter (points mixed mixed_labels c) (darts mixed) ≡ ds

abbrev Colours : Type 0
Colours =
    Coloured 0 (2 ∷ 4 ∷ 14 ∷ 16 ∷ 21 ∷ [])
    × Coloured 1 (1 ∷ 10 ∷ 17 ∷ 18 ∷ 22 ∷ [])
    × Coloured 2 (0 ∷ 3 ∷ 7 ∷ 11 ∷ 15 ∷ [])

colours : Colours
unfolding filter points darts
colours = (refl, refl, refl)

-- the rim sides, from the outer triangle (darts 0, 1, 2) and from the inner ones (1 to 4, 3 to 1, 4 to 3)
abbrev Rim : Type 0
Rim = filter (rim mixed) (darts mixed) ≡ 0 ∷ 1 ∷ 2 ∷ 4 ∷ 11 ∷ 22 ∷ []

rim_sides : Rim
unfolding filter rim darts
rim_sides = refl

pub label-cases : Every (SmallestFirst ∷ EndsStay ∷ LongFrontier ∷ Choices ∷ Fans ∷ Steps ∷ Mixed ∷ Colours ∷ Rim ∷ [])
label-cases =
    smallest_first and ends_stay and long_frontier and choices and fans and steps and mixed_labelled and colours and rim_sides and all_held
