-- Document 02, C-18, for every accepted mesh on n vertices and every choice of the outer triangle: what the call on weights with a tolerance promises of the
-- two coordinate lists that it writes, one record, a line for each sentence of the request. Assumes nothing.
use Rattle.std.specs.Prelude.{ℕ, ◌*◌, ◌-◌, ◌≤◌, ◌<◌, ◌≡◌, refl, ◌||◌, List, length, ℤ, pos, ◌≤ℤ◌}
use Rattle.std.proofs.Common.{sym, ◌∙◌, arith}
use Rattle.std.proofs.Math.Bool.{false}
use Rattle.std.proofs.Math.Option.{Option, none, some}
use Rattle.std.specs.Int.Signed.{≤ℤ_refl}
use borrow.Author.Tests.{eq-eqb}
use Rattle.definitions.specs.Lists.{any}
use Rattle.definitions.specs.Answers.{Refusal, done, answer_of}
use Rattle.definitions.specs.Mesh.{weights_length, coordinates_length, scratch_length, inner, fronted}
use Rattle.definitions.specs.Labels.{labels}
use Rattle.definitions.specs.Forward.{weight, forward}
use Rattle.definitions.specs.Backward.{coordinate}
use Rattle.definitions.specs.Repair.{bad}
use Rattle.definitions.specs.Refusals.{row2, wrong_length, row9, Slice, Ranged, range_call, Accepted, AcceptedWeights, AcceptedRanges, Within}
use Rattle.laws.specs.Integers.{int, zpos}
use Rattle.laws.specs.Lists.{◌∈◌}
use Rattle.theory_sphere.specs.FirstRefusal.{lent, rim-mesh, row21_means}
use Rattle.theory_sphere.specs.RangeRows.{range_slices, range_found, range-outcome, range_none, range_accepted}
use Rattle.theory_sphere.specs.FrontedRows.{accepted_fronted}
use Rattle.theory_repair.specs.Coordinates.{inner_in, weight_in_lem}
use Rattle.theory_repair.specs.Areas.{positive_good}
use Rattle.theory_repair.specs.Ranges.{low_high, coordinates_grow}
use Rattle.theory_demand.specs.Demand.{sphere, maps}

module _ (n outer_place : ℕ) (ts : List ℕ) where
  -- the mesh as the calls read it, its outer triangle in front, and its labels
  abbrev mesh : List ℕ
  mesh = fronted outer_place ts

  abbrev ls : List ℕ
  ls = labels n mesh

  pub record Ranges : Type 0 where
    -- Accepted ranges get their two coordinate lists, whatever the lists that they are written to and the scratch hold.
    pub written : (lows highs low_bs high_bs scratch : List ℤ) → AcceptedRanges n lows highs →
        length low_bs ≡ coordinates_length n → length high_bs ≡ coordinates_length n → length scratch ≡ scratch_length n →
        (range_call n outer_place ts lows highs low_bs high_bs scratch).answer ≡ done tt
    -- Some weights within the ranges reach the low of every coordinate, and some the high: forward accepts them and gives just these lists.
    pub low_reached : (lows highs low_bs high_bs scratch : List ℤ) → let call = range_call n outer_place ts lows highs low_bs high_bs scratch in
        call.answer ≡ done tt → (ws : List ℤ) × Within n lows highs ws × AcceptedWeights n ws × (forward n mesh ls ws ≡ call.low_coordinates)
    pub high_reached : (lows highs low_bs high_bs scratch : List ℤ) → let call = range_call n outer_place ts lows highs low_bs high_bs scratch in
        call.answer ≡ done tt → (ws : List ℤ) × Within n lows highs ws × AcceptedWeights n ws × (forward n mesh ls ws ≡ call.high_coordinates)
    -- No weights within the ranges pass either end, whether 9 lets them through or not.
    pub none_passes : (lows highs low_bs high_bs scratch : List ℤ) → let call = range_call n outer_place ts lows highs low_bs high_bs scratch in
        call.answer ≡ done tt → (ws : List ℤ) → Within n lows highs ws → (c i : ℕ) → c < 3 → i < n →
        (coordinate call.low_coordinates c i ≤ℤ coordinate (forward n mesh ls ws) c i)
        × (coordinate (forward n mesh ls ws) c i ≤ℤ coordinate call.high_coordinates c i)
    -- Narrower ranges never widen a result, at either end.
    pub narrower : (lows highs low_bs high_bs scratch lows' highs' low_bs' high_bs' scratch' : List ℤ) →
        let call = range_call n outer_place ts lows highs low_bs high_bs scratch in
        let narrow = range_call n outer_place ts lows' highs' low_bs' high_bs' scratch' in
        call.answer ≡ done tt → narrow.answer ≡ done tt →
        ((t : ℕ) → 1 ≤ t → t ≤ weights_length n → (weight lows t ≤ℤ weight lows' t) × (weight highs' t ≤ℤ weight highs t)) →
        (c i : ℕ) → c < 3 → i < n →
        (coordinate call.low_coordinates c i ≤ℤ coordinate narrow.low_coordinates c i)
        × (coordinate narrow.high_coordinates c i ≤ℤ coordinate call.high_coordinates c i)
    -- Where all lows are 1 or more, no choice within the ranges leaves an inner triangle flat or turned.
    pub upright : (lows highs low_bs high_bs scratch : List ℤ) → (range_call n outer_place ts lows highs low_bs high_bs scratch).answer ≡ done tt →
        ((w : ℤ) → w ∈ lows → pos 1 ≤ℤ w) → (ws : List ℤ) → Within n lows highs ws → (t : ℕ) → t ∈ inner mesh →
        bad mesh ls (forward n mesh ls ws) t ≡ false

-- ---- a call that is answered

-- nothing is found where the answer is no refusal
unrefused : (found : Option Refusal) → answer_of {A = Unit {0}} tt found ≡ done tt → found ≡ none
unrefused none e = refl
unrefused (some why) e = cc

module _ (n outer_place : ℕ) (ts : List ℕ) (lows highs low_bs high_bs scratch : List ℤ) where
  abbrev call : Ranged
  call = range_call n outer_place ts lows highs low_bs high_bs scratch

  abbrev slices : List Slice
  slices = range_slices n (length lows) (length highs) (length low_bs) (length high_bs)

  abbrev found : Option Refusal
  found = range_found n outer_place ts lows highs low_bs high_bs scratch

  -- what was lent to it, and what it wrote
  record Answered : Type 0 where
    ranges : AcceptedRanges n lows highs
    low : call.low_coordinates ≡ forward n (fronted outer_place ts) (labels n (fronted outer_place ts)) lows
    high : call.high_coordinates ≡ forward n (fronted outer_place ts) (labels n (fronted outer_place ts)) highs

  answered : call.answer ≡ done tt → Answered
  answered e =
      let all = range-outcome n outer_place ts lows highs low_bs high_bs scratch found refl in
      let None-found = unrefused found (sym all.answer ∙ e) in
      let O = range-outcome n outer_place ts lows highs low_bs high_bs scratch none None-found in
      record { ranges = (range_accepted n outer_place ts lows highs low_bs high_bs scratch None-found).1; low = O.low; high = O.high }

  -- Accepted ranges on an accepted mesh are answered.
  answers : Accepted n ts → outer_place < 2 * n - 4 → AcceptedRanges n lows highs → length low_bs ≡ coordinates_length n →
      length high_bs ≡ coordinates_length n → length scratch ≡ scratch_length n → call.answer ≡ done tt
  unfolding row2 any wrong_length
  answers acc there r l h s =
      let fits : row2 (lent n ts scratch slices) ≡ false =
      rw (eq-eqb _ _ acc.1, eq-eqb _ _ s, eq-eqb _ _ r.0.0, eq-eqb _ _ r.1.0, eq-eqb _ _ l, eq-eqb _ _ h) in
      let on = (row21_means n outer_place).1 there in
      let clean = rim-mesh n outer_place ts on ∙ (accepted_fronted n outer_place ts there acc).2 in
      let small : (row9 lows || row9 highs) ≡ false = rw (r.0.1, r.1.1) in
      let None-found = range_none n outer_place ts lows highs low_bs high_bs scratch acc.0 fits on r.2 clean small in
      (range-outcome n outer_place ts lows highs low_bs high_bs scratch none None-found).answer

-- lows and highs themselves lie within the ranges
module _ (n : ℕ) (lows highs : List ℤ) (r : AcceptedRanges n lows highs) where
  low_within : Within n lows highs lows
  low_within = (r.0.0, λ t h k. (≤ℤ_refl (weight lows t), low_high lows highs r.2 t h (omega (arith, r.0.0))))

  high_within : Within n lows highs highs
  high_within = (r.1.0, λ t h k. (low_high lows highs r.2 t h (omega (arith, r.0.0)), ≤ℤ_refl (weight highs t)))

-- The promises hold.
pub ranges : (n outer_place : ℕ) (ts : List ℕ) → Accepted n ts → outer_place < 2 * n - 4 → Ranges n outer_place ts
ranges n outer_place ts accepted there =
    let mesh = fronted outer_place ts in
    let ls = labels n mesh in
    let acc = accepted_fronted n outer_place ts there accepted in
    let U = maps n mesh acc in
    record {
      written = λ lows highs low_bs high_bs scratch. answers n outer_place ts lows highs low_bs high_bs scratch accepted there;
      low_reached = λ lows highs low_bs high_bs scratch e.
          let A = answered n outer_place ts lows highs low_bs high_bs scratch e in
          (lows, low_within n lows highs A.ranges, A.ranges.0, sym A.low);
      high_reached = λ lows highs low_bs high_bs scratch e.
          let A = answered n outer_place ts lows highs low_bs high_bs scratch e in
          (highs, high_within n lows highs A.ranges, A.ranges.1, sym A.high);
      none_passes = λ lows highs low_bs high_bs scratch e ws w c i h k.
          let A = answered n outer_place ts lows highs low_bs high_bs scratch e in (
            rw A.low (coordinates_grow n mesh ls acc.1 U lows ws A.ranges.0.0 w.0 (λ t l m. (w.1 t l m).0) c i h k),
            rw A.high (coordinates_grow n mesh ls acc.1 U ws highs w.0 A.ranges.1.0 (λ t l m. (w.1 t l m).1) c i h k),
          );
      narrower = λ lows highs low_bs high_bs scratch lows' highs' low_bs' high_bs' scratch' e e' inside c i h k.
          let A = answered n outer_place ts lows highs low_bs high_bs scratch e in
          let B = answered n outer_place ts lows' highs' low_bs' high_bs' scratch' e' in (
            rw (A.low, B.low)
                (coordinates_grow n mesh ls acc.1 U lows lows' A.ranges.0.0 B.ranges.0.0 (λ t l m. (inside t l m).0) c i h k),
            rw (A.high, B.high)
                (coordinates_grow n mesh ls acc.1 U highs' highs B.ranges.1.0 A.ranges.1.0 (λ t l m. (inside t l m).1) c i h k),
          );
      upright = λ lows highs low_bs high_bs scratch e ones ws w t m.
          let A = answered n outer_place ts lows highs low_bs high_bs scratch e in
          let r = inner_in n mesh (sphere n mesh acc).least acc.1 m in
          positive_good n mesh ls acc.1 U ws w.0 (λ u l k.
          let low = ones (weight lows u) (weight_in_lem lows u l (omega arith)) in
          let up = (w.1 u l (omega arith)).0 in
          omega (int, zpos 1)) t r.0 r.1;
    }
