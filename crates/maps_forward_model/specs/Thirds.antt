-- The loop that writes the third coordinates: the three of a vertex sum to N, which is coordinate 0 of v0. Assumes nothing.
use Rattle.std.specs.Prelude.{ℕ, ◌+◌, ◌*◌, ◌≤◌, ◌<◌, ◌≡◌, refl, List, length, set, ℤ, pos, nat_abs, ◌-ℤ◌}
use Rattle.std.proofs.Common.{sym, ◌∙◌, arith, length-set, get_or-set_same, get_or-set_other}
use Rattle.std.proofs.Math.Decide.{ℕ_discrete}
use Rattle.definitions.specs.Backward.{coordinate}
use Rattle.definitions.specs.Repair.{limit}

-- three coordinates to each of n vertices, of which the first two are within the limit
pub record ThirdsPre (n v0 : ℕ) (bs : List ℤ) : Type 0 where
  pub few : n ≤ 4096
  pub first : v0 < n
  pub long : length bs ≡ 3 * n
  pub small : (c i : ℕ) → c < 2 → i < n → nat_abs (coordinate bs c i) ≤ limit

-- the third coordinates of the first v vertices are written; nothing else has changed
pub record ThirdsWritten (v : ℕ) (N : ℤ) (bs bs' : List ℤ) : Type 0 where
  pub long : length bs' ≡ length bs
  pub same : (c i : ℕ) → c < 2 → coordinate bs' c i ≡ coordinate bs c i
  pub third : (i : ℕ) → i < v → coordinate bs' 2 i ≡ N -ℤ coordinate bs 0 i -ℤ coordinate bs 1 i

pub thirds_none : (N : ℤ) (bs : List ℤ) → ThirdsWritten 0 N bs bs
thirds_none N bs = record { long = refl; same = λ c i h. refl; third = λ i h. absurd (omega arith) }

pub thirds_next : (v : ℕ) (N : ℤ) (bs bs' bs'' : List ℤ) → ThirdsWritten v N bs bs' → 3 * v + 2 < length bs' →
    bs'' ≡ set bs' (3 * v + 2) (N -ℤ coordinate bs' 0 v -ℤ coordinate bs' 1 v) → ThirdsWritten (v + 1) N bs bs''
unfolding coordinate
thirds_next v N bs bs' bs'' C room e =
    let y = N -ℤ coordinate bs' 0 v -ℤ coordinate bs' 1 v in
    rw e
    (record {
      long = length-set bs' (3 * v + 2) y ∙ C.long;
      same = λ c i h. get_or-set_other bs' (3 * v + 2) (3 * i + c) y (pos 0) (omega arith) ∙ C.same c i h;
      third = λ i h.
          elim (ℕ_discrete i v) [
            | yes q ↦ rw (q, sym (C.same 0 v (omega arith)), sym (C.same 1 v (omega arith))) (get_or-set_same bs' (3 * v + 2) y (pos 0) room)
            | no q ↦ get_or-set_other bs' (3 * v + 2) (3 * i + 2) y (pos 0) (omega arith) ∙ C.third i (omega arith)
          ];
    })

-- what the loop reads is within the limit
pub thirds_small : {n v0 v : ℕ} {N : ℤ} {bs bs' : List ℤ} → ThirdsPre n v0 bs → ThirdsWritten v N bs bs' → (c i : ℕ) →
    c < 2 → i < n → nat_abs (coordinate bs' c i) ≤ limit
thirds_small P C c i h l = rw (C.same c i h) (P.small c i h l)
