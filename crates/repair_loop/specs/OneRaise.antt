-- What one raise asks and gives, as the code makes it, and what the loop and all of repair ask. Assumes nothing.
use Rattle.std.specs.Prelude.{ℕ, suc, ◌+◌, ◌-◌, ◌*◌, ◌≤◌, ◌<◌, ◌^◌, ◌≡◌, List, length, get_or, set, ℤ, pos, nat_abs, ◌+ℤ◌, ◌<ℤ◌, Option, None, Some}
use Rattle.std.proofs.Common.{sym, ap, ◌∙◌, arith, to_z, of_z, SFits}
use Rattle.std.specs.Int.{w64}
use Rattle.definitions.specs.Lists.{total, total_abs}
use Rattle.definitions.specs.Mesh.{weights_length}
use Rattle.definitions.specs.Forward.{weight, forward}
use Rattle.definitions.specs.Repair.{limit, add_to}
use Rattle.laws.specs.Lists.{get_or_in, total_abs_in, total_abs-set}
use Rattle.scratch_tables.specs.Tables.{tables_of}
use Rattle.repair_model.specs.Ready.{Ready}
use Rattle.repair_model.specs.LoopState.{Reached}
use Rattle.repair_update.specs.Signed.{term_held, sum_fits, sum_held}
use Rattle.repair_update.specs.WalkLoop.{UpdatePre, WalkMoved}

-- ---- weights

pub record SumPre (ws : List ℤ) (t sum : ℕ) (x : ℤ) : Type 0 where
  pub positive : 0 < t
  pub inside : t ≤ length ws
  pub summed : sum ≡ total_abs ws
  pub light : total_abs ws ≤ limit
  pub small : nat_abs x ≤ 2 * limit + 1

-- the weight of t stands at place t - 1
add-place : (ws : List ℤ) (t : ℕ) (x : ℤ) → 0 < t → add_to ws t x ≡ set ws (t - 1) (get_or ws (t - 1) (pos 0) +ℤ x)
unfolding add_to weight
add-place ws t x h =
    let e : t ≡ suc (t - 1) = omega arith in
    ap (λ (w : ℤ). set ws (t - 1) (w +ℤ x)) (ap (λ (k : ℕ). weight ws k) e)

pub added : (ws ws' : List ℤ) (t : ℕ) (x : ℤ) → 0 < t → ws' ≡ set ws (t - 1) (get_or ws (t - 1) (pos 0) +ℤ x) → ws' ≡ add_to ws t x
added ws ws' t x h e = e ∙ sym (add-place ws t x h)

-- no weight is past the limit where all together are not
weight_light : (ws : List ℤ) (i : ℕ) → i < length ws → total_abs ws ≤ limit → nat_abs (get_or ws i (pos 0)) ≤ limit
weight_light ws i h l = omega (arith, total_abs_in (get_or_in ws i (pos 0) h))

-- the sum without the old weight's part, and with that of the new one
module _ (ws : List ℤ) (t sum : ℕ) (x : ℤ) (S : SumPre ws t sum x) where
  abbrev here : ℤ
  here = get_or ws (t - 1) (pos 0)

  place_in : t - 1 < length ws
  place_in = omega (arith, S.positive, S.inside)

  pub weight_in_lem : nat_abs here ≤ limit
  weight_in_lem = weight_light ws (t - 1) place_in S.light

  -- the old and the new weight, as the code has them
  room : nat_abs here + nat_abs x < 2 ^ 63
  room = omega (arith, weight_in_lem, S.small)

  pub here_held : to_z w64 (of_z w64 here) ≡ here
  here_held = term_held here x room

  pub raised_fits : SFits w64 (to_z w64 (of_z w64 here) +ℤ x)
  raised_fits = sum_fits here x room

  pub raised_held : to_z w64 (of_z w64 (to_z w64 (of_z w64 here) +ℤ x)) ≡ here +ℤ x
  raised_held = sum_held here x room

  pub sum_without : (old : ℕ) → old ≡ nat_abs here → old ≤ sum
  sum_without old e = omega (arith, total_abs_in (get_or_in ws (t - 1) (pos 0) place_in), S.summed)

  pub sum_with : (old new : ℕ) → old ≡ nat_abs here → new ≡ nat_abs (here +ℤ x) → sum - old + new ≡ total_abs (add_to ws t x)
  sum_with old new eo en =
      let c = total_abs-set ws (t - 1) (here +ℤ x) (pos 0) place_in in
      omega (arith, c, total_abs_in (get_or_in ws (t - 1) (pos 0) place_in), ap total_abs (add-place ws t x S.positive), S.summed)

-- ---- one raise

pub record RaisePre (n : ℕ) (ws bs s : List ℤ) (t sum : ℕ) (x : ℤ) : Type 0 where
  pub positive : 0 < t
  pub inside : t ≤ length ws
  pub summed : sum ≡ total_abs ws
  pub light : total_abs ws ≤ limit
  pub small : nat_abs x ≤ 2 * limit + 1
  pub update_pre : UpdatePre n s bs t x

-- so the sum can be told, and the weight be raised
module _ (n : ℕ) (ws bs s : List ℤ) (t sum : ℕ) (x : ℤ) (A : RaisePre n ws bs s t sum x) where
  pub sum_pre : SumPre ws t sum x
  sum_pre = record { positive = A.positive; inside = A.inside; summed = A.summed; light = A.light; small = A.small }

  pub add_pre : (t - 1 < length ws) × (nat_abs (get_or ws (t - 1) (pos 0)) + nat_abs x < 2 ^ 63)
  add_pre =
      let h : t - 1 < length ws = omega (arith, A.positive, A.inside) in
      (h, omega (arith, weight_light ws (t - 1) h A.light, A.small))

-- r is the sum with the raise; past the limit nothing has changed, otherwise the raise is made
pub record Tried (n : ℕ) (s ws bs ws' bs' : List ℤ) (t : ℕ) (x : ℤ) (r : ℕ) : Type 0 where
  pub sum : r ≡ total_abs (add_to ws t x)
  pub kept : limit < r → (ws' ≡ ws) × (bs' ≡ bs)
  pub made : r ≤ limit → (ws' ≡ add_to ws t x) × WalkMoved n (tables_of s) t x bs bs'

-- the same of what the code gives: the sum with the raise, if it is made, and nothing, if it is not
abbrev pub Attempted : ℕ → List ℤ → List ℤ → List ℤ → List ℤ → List ℤ → ℕ → ℤ → Option ℕ → Type 0
Attempted n s ws bs ws' bs' t x None = (r : ℕ) × (limit < r) × Tried n s ws bs ws' bs' t x r
Attempted n s ws bs ws' bs' t x (Some r) = (r ≤ limit) × Tried n s ws bs ws' bs' t x r

-- y is x, as the calls were handed it
module _ (n : ℕ) (s ws bs : List ℤ) (t r : ℕ) (x y : ℤ) (ey : y ≡ x) (er : r ≡ total_abs (add_to ws t y)) where
  pub tried_made : (ws' bs' : List ℤ) → r ≤ limit → ws' ≡ add_to ws t y → WalkMoved n (tables_of s) t y bs bs' → Tried n s ws bs ws' bs' t x r
  tried_made ws' bs' h ew G = record { sum = rw ey at er; kept = λ l. absurd (omega arith); made = λ l. (rw ey at ew, rw ey at G) }

-- ---- the loop, and all of repair

-- the loop is where the definition's is, after `count` raises, of which there are none or the first
pub record LoopPre (n : ℕ) (ws bs s : List ℤ) (sum count : ℕ) : Type 0 where
  pub triangles : List ℕ
  pub labels : List ℕ
  pub lent : List ℤ
  pub reached : Reached n triangles labels lent ws bs s sum count (count + 1)
  pub few : count < 2
  pub room : 10 * n ≤ length s

-- the coordinates are those of the weights, for some mesh and labels whose trace is stored
pub record ReadyPre (n : ℕ) (ws bs s : List ℤ) (sum : ℕ) : Type 0 where
  pub triangles : List ℕ
  pub labels : List ℕ
  pub ready : Ready n triangles labels s
  pub drawn : bs ≡ forward n triangles labels ws
  pub long : length ws ≡ weights_length n
  pub summed : sum ≡ total_abs ws
  pub light : total_abs ws ≤ limit
  pub room : 10 * n ≤ length s

-- the total N of the weights is below 1
pub record FirstPre (n : ℕ) (ws bs s : List ℤ) (sum : ℕ) (N : ℤ) : Type 0 where
  pub begun : ReadyPre n ws bs s sum
  pub is : (ts ls : List ℕ) → Ready n ts ls s → bs ≡ forward n ts ls ws → N ≡ total ws
  pub small : nat_abs N ≤ limit
  pub low : N <ℤ pos 1
