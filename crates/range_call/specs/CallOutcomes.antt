-- What the range call answers and leaves, for each way that it can end: the equations of `range_call`. Assumes nothing.
use Rattle.std.specs.Prelude.{ℕ, ◌/◌, ◌≤◌, ◌<◌, ◌≡◌, refl, Bool, true, false, ◌||◌, List, [], ◌∷◌, map, length, ℤ, pos}
use Rattle.std.proofs.Common.{sym, ◌∙◌, arith}
use Rattle.std.proofs.Math.Option.{Option, none, some}
use Rattle.definitions.specs.Mesh.{triangles_length, weights_length, coordinates_length, scratch_length, fronted}
use Rattle.definitions.specs.Answers.{Answer, done, refused, numbered, Refusal, Row, row, first_refusal}
use Rattle.definitions.specs.Labels.{labels}
use Rattle.definitions.specs.Forward.{forward}
use Rattle.definitions.specs.Refusals.{row9, row21, row29, Slice, slice, mesh_rows, Ranged, range_call, AcceptedWeights}
use Rattle.laws.specs.Lists.{unfalse, or_neither}
use Rattle.theory_sphere.specs.FirstRefusal.{OnlyWith, only_none, only_row, only_more, rim_rows, row2-cons, row21_means, lent}
use Rattle.theory_sphere.specs.RangeRows.{coordinate_slices, range_slices, range_rows, range_found, range-outcome, range-21, range-29}
use Rattle.theory_sphere.specs.RangeRows.{range-mesh, range-9, range_none}
use Rattle.lent_slices.specs.Lengths.{first_rows}
use Rattle.lent_slices.specs.Calls.{Fits, has_fits, early_more, Late, mesh_late, zeros-more, cleared}

-- rows 1 and 2 find nothing
pub record RangeFits (n : ℕ) (ts : List ℕ) (lows highs low_bs high_bs scratch : List ℤ) : Type 0 where
  pub fits : Fits n ts scratch (range_slices n (length lows) (length highs) (length low_bs) (length high_bs))

-- r is what the code has found
pub range_fits : (n : ℕ) (ts : List ℕ) (lows highs low_bs high_bs scratch : List ℤ) (r : ℕ) →
    r ≡ first_rows n (lent n ts scratch (range_slices n (length lows) (length highs) (length low_bs) (length high_bs))) → r ≡ 0 →
    RangeFits n ts lows highs low_bs high_bs scratch
range_fits n ts lows highs low_bs high_bs scratch r e z = record { fits = has_fits n ts scratch _ r e z }

-- 9 as the code asks it: a and b are what it finds in the lows and in the highs
pub either_low : (lows highs : List ℤ) (a : Bool) → a ≡ row9 lows → a ≡ true → true ≡ (row9 lows || row9 highs)
either_low lows highs a e f = rw (← e, f)

pub either_high : (lows highs : List ℤ) (a b : Bool) → a ≡ row9 lows → a ≡ false → b ≡ row9 highs → b ≡ (row9 lows || row9 highs)
either_high lows highs a b e f g = rw (← e, f, g)

-- how long everything is
module _ (n : ℕ) (ts : List ℕ) (lows highs low_bs high_bs scratch : List ℤ) (F : RangeFits n ts lows highs low_bs high_bs scratch) where
  pub record Long : Type 0 where
    pub triangles : length ts ≡ triangles_length n
    pub low_weights : length lows ≡ weights_length n
    pub high_weights : length highs ≡ weights_length n
    pub low_places : length low_bs ≡ coordinates_length n
    pub high_places : length high_bs ≡ coordinates_length n

  pub range_long : Long
  range_long =
      let places = coordinate_slices n (length low_bs) (length high_bs) in
      let slices = range_slices n (length lows) (length highs) (length low_bs) (length high_bs) in
      let t = (row2-cons (length ts) (triangles_length n) (slice (length scratch) (scratch_length n) ∷ slices)).0 F.fits.lengths in
      let s = (row2-cons (length scratch) (scratch_length n) slices).0 t.1 in
      let l = (row2-cons (length lows) (weights_length n) (slice (length highs) (weights_length n) ∷ places)).0 s.1 in
      let h = (row2-cons (length highs) (weights_length n) places).0 l.1 in
      let a = (row2-cons (length low_bs) (coordinates_length n) (slice (length high_bs) (coordinates_length n) ∷ [])).0 h.1 in
      let b = (row2-cons (length high_bs) (coordinates_length n) []).0 a.1 in
      record { triangles = t.0; low_weights = l.0; high_weights = h.0; low_places = a.0; high_places = b.0 }

  -- both lists of weights are as many as are wanted
  pub same_number : length lows ≡ length highs
  same_number = omega (arith, range_long.low_weights, range_long.high_weights)

  -- and accepted where 9 finds nothing; a is the result of the code's test
  pub both_accepted : (a : Bool) → a ≡ (row9 lows || row9 highs) → a ≡ false →
      AcceptedWeights n lows × AcceptedWeights n highs × (length low_bs ≡ coordinates_length n) × (length high_bs ≡ coordinates_length n)
  both_accepted a e f =
      let small = or_neither (row9 lows) (row9 highs) (sym e ∙ f) in
      ((range_long.low_weights, small.0), (range_long.high_weights, small.1), range_long.low_places, range_long.high_places)

module _ (n outer_place : ℕ) (ts : List ℕ) (lows highs low_bs high_bs scratch : List ℤ) where
  abbrev call : Ranged
  call = range_call n outer_place ts lows highs low_bs high_bs scratch

  abbrev mesh : List ℕ
  mesh = fronted outer_place ts

  abbrev slices : List Slice
  slices = range_slices n (length lows) (length highs) (length low_bs) (length high_bs)

  abbrev rows : List Row
  rows = range_rows n outer_place ts lows highs low_bs high_bs scratch

  abbrev found : Option Refusal
  found = range_found n outer_place ts lows highs low_bs high_bs scratch

  -- the answer and both coordinate lists are the definition's
  abbrev pub Runs : Answer (Unit {0}) → List ℤ → List ℤ → Type 0
  Runs a low high = (a ≡ call.answer) × ((low ≡ call.low_coordinates) × (high ≡ call.high_coordinates))

  -- and the scratch too
  abbrev pub Gives : Answer (Unit {0}) → List ℤ → List ℤ → List ℤ → Type 0
  Gives a low high s = (a ≡ call.answer) × ((low ≡ call.low_coordinates) × ((high ≡ call.high_coordinates) × (s ≡ call.scratch)))

  refuses : (why : Refusal) → found ≡ some why → Runs (refused why) low_bs high_bs
  refuses why e =
      let O = range-outcome n outer_place ts lows highs low_bs high_bs scratch (some why) e in
      (sym O.answer, (sym O.low, sym O.high))

  -- 1 and 2
  pub gives_early : (r : ℕ) → r ≡ first_rows n (lent n ts scratch slices) → (r ≡ 0 → ⊥) → Gives (refused (numbered r)) low_bs high_bs scratch
  gives_early r e f =
      let g = early_more n ts scratch slices r e outer_place rows f in
      let O = range-outcome n outer_place ts lows highs low_bs high_bs scratch (some (numbered r)) g.0 in
      (sym O.answer, (sym O.low, (sym O.high, sym g.1 ∙ sym O.scratch_left)))

  module _ (F : RangeFits n ts lows highs low_bs high_bs scratch) where
    -- 21 as the code asks it
    pub runs-21 : length ts / 3 ≤ outer_place → Runs (refused (numbered 21)) low_bs high_bs
    runs-21 h =
        let size = (range_long n ts lows highs low_bs high_bs scratch F).triangles in
        let there = unfalse (row21 n outer_place) (λ e. omega (arith, h, (row21_means n outer_place).0 e, size)) in
        refuses (numbered 21) (range-21 n outer_place ts lows highs low_bs high_bs scratch F.fits.size F.fits.lengths there)

    module _ (h : outer_place < length ts / 3) where
      there : row21 n outer_place ≡ false
      there = (row21_means n outer_place).1 (omega (arith, h, (range_long n ts lows highs low_bs high_bs scratch F).triangles))

      -- 29
      pub runs-29 : row29 lows highs ≡ true → Runs (refused (numbered 29)) low_bs high_bs
      runs-29 e = refuses (numbered 29) (range-29 n outer_place ts lows highs low_bs high_bs scratch F.fits.size F.fits.lengths there e)

      module _ (o : row29 lows highs ≡ false) where
        -- 3 to 8
        pub runs-mesh : (why told : Refusal) → first_refusal (rim_rows n outer_place ts) ≡ some why → told ≡ why → Runs (refused told) low_bs high_bs
        runs-mesh why told e f =
            rw f (refuses why (range-mesh n outer_place ts lows highs low_bs high_bs scratch F.fits.size F.fits.lengths there o why e))

        module _ (clean : first_refusal (rim_rows n outer_place ts) ≡ none) where
          -- 9
          pub runs-9 : (row9 lows || row9 highs) ≡ true → Runs (refused (numbered 9)) low_bs high_bs
          runs-9 e = refuses (numbered 9) (range-9 n outer_place ts lows highs low_bs high_bs scratch F.fits.size F.fits.lengths there o clean e)

          -- nothing is found
          pub runs_done : (row9 lows || row9 highs) ≡ false → (low high : List ℤ) → low ≡ forward n mesh (labels n mesh) lows →
              high ≡ forward n mesh (labels n mesh) highs → Runs (done tt) low high
          runs_done e low high f g =
              let None-found = range_none n outer_place ts lows highs low_bs high_bs scratch F.fits.size F.fits.lengths there o clean e in
              let O = range-outcome n outer_place ts lows highs low_bs high_bs scratch none None-found in
              (sym O.answer, (f ∙ sym O.low, g ∙ sym O.high))

    late : OnlyWith Late rows
    late =
        only_row Late 29 (λ _. row29 lows highs) _ (omega arith)
        (only_more Late (mesh_rows n mesh) (row 9 (λ _. row9 lows || row9 highs) ∷ []) (mesh_late n mesh)
        (only_row Late 9 (λ _. row9 lows || row9 highs) [] (omega arith) (only_none Late)))

    -- the whole call
    pub gives_run : (a : Answer (Unit {0})) (low high : List ℤ) → Runs a low high → (s z : List ℤ) → length s ≡ length scratch →
        z ≡ map (λ _. pos 0) s → Gives a low high z
    gives_run a low high R s z e f =
        let O = range-outcome n outer_place ts lows highs low_bs high_bs scratch found refl in
        let zero = f ∙ cleared scratch s e ∙ zeros-more n outer_place ts scratch slices rows late F.fits ∙ sym O.scratch_left in
        (R.0, (R.1.0, (R.1.1, zero)))
