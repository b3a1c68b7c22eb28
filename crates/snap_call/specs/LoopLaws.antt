-- Looking at the shares in order, and writing a point and a list of points, as the code hands them over. Assumes nothing.
use Rattle.std.specs.Prelude.{ℕ, suc, ◌+◌, ◌*◌, ◌^◌, ◌≤◌, ◌<◌, ◌≡◌, Bool, true, false, List, [], ◌∷◌, ℤ, pos, nat_abs, ◌-ℤ◌, Float, length, get_or, set}
use Rattle.std.proofs.Common.{arith, add-one, sym, ◌∙◌, to_z, of_z, to_z-of_z}
use Rattle.std.specs.Int.Signed.{mag}
use Rattle.std.specs.Float.{nan}
use Rattle.std.proofs.lemmas.List.Edits.{sets}
use Rattle.std.specs.Int.{w64}
use Rattle.definitions.specs.Answers.{done, refused}
use Rattle.definitions.specs.DrawnPoints.{whole, snap, snap_all}
use Rattle.int64.specs.Whole.{fits_abs, held, held-size}
use Rattle.snap_model.specs.Share.{inside, refusal, snap_bound}
use Rattle.snap_model.specs.Points.{new, both-whole, Filled, filled_none, filled_more, filled_all}
use Rattle.snap_model.specs.Looking.{shares_answer, shares_answer_lem, Passed, passed_stop, passed_more, passed_all, each_passes}
use Rattle.snap_call.specs.Answer.{snap_to_refusal}
use Rattle.snap_call.specs.declared.SnapRefusal.{SnapRefusal}

-- ---- looking: i shares are passed

pub record Looked (shares : List Float) (i : ℕ) : Type 0 where
  pub passed : Passed shares i

-- the next share, and what its test says of it
module _ (shares : List Float) (i : ℕ) (s : Looked shares i) where
  module _ (b : Bool) (h : i < length shares) (t : b ≡ inside (get_or shares i nan)) where
    pub looked_more : b ≡ true → Looked shares (i + 1)
    looked_more f = record { passed = rw add-one (passed_more shares i s.passed h (sym t ∙ f)) }

    pub looked_stop : (why : SnapRefusal) → b ≡ false → snap_to_refusal why ≡ refusal (get_or shares i nan)
        → refused (snap_to_refusal why) ≡ shares_answer shares
    looked_stop why f g = rw g (sym (passed_stop shares i s.passed h (sym t ∙ f)))

  pub looked_all : length shares ≤ i → done tt ≡ shares_answer shares
  looked_all h = sym (passed_all shares i s.passed h)

-- ---- writing a point: its shares x and y become kx and ky

module _ (r : ℕ) (x : Float) (k : ℤ) (e : snap r x ≡ whole k) (s : r ≤ 24) where
  bound : nat_abs k ≤ 2 ^ 25
  bound = snap_bound r x k s e

  pub share-size : nat_abs (to_z w64 (of_z w64 k)) ≤ 2 ^ 25
  share-size = omega (arith, held-size k, bound)

  share-held : to_z w64 (of_z w64 k) ≡ k
  share-held = to_z-of_z (fits_abs k (omega (arith, bound)))

-- the stores of the code, at + 1 and at + 2, are the run of stores, at the successors
three-stores : (bs : List ℤ) (at : ℕ) (a b c : ℤ) → set (set (set bs at a) (at + 1) b) (at + 2) c ≡ sets bs at (a ∷ b ∷ c ∷ [])
three-stores bs at a b c =
    let e : at + 1 ≡ suc at = omega arith in
    let f : at + 2 ≡ suc (suc at) = omega arith in
    rw (e, f)

-- the stores make the point's coordinates
pub point-stored : (bs : List ℤ) (at r : ℕ) (x y : Float) (kx ky kz : ℤ) → snap r x ≡ whole kx → snap r y ≡ whole ky → r ≤ 24 →
    kz ≡ pos (2 ^ r) -ℤ to_z w64 (of_z w64 kx) -ℤ to_z w64 (of_z w64 ky) → mag kz < 2 ^ 63
    → set (set (set bs at (to_z w64 (of_z w64 kx))) (at + 1) (to_z w64 (of_z w64 ky))) (at + 2) (to_z w64 (of_z w64 kz))
    ≡ sets bs at (new (snap_all r (x ∷ y ∷ [])))
point-stored bs at r x y kx ky kz e f s g m =
    rw (held kz m, g, share-held r x kx e s, share-held r y ky f s, both-whole r x y kx e ky f)
    (three-stores bs at kx ky (pos (2 ^ r) -ℤ kx -ℤ ky))

-- what `write_point` rests on
pub ruleset storing = (share-size, point-stored)

-- ---- writing a list of points none of which is refused

-- The invariant is `Filled` of the points behind.
pub written_none : (n : ℕ) (shares : List Float) (r : ℕ) (bs : List ℤ) → length shares ≡ 2 * n → shares_answer shares ≡ done tt
    → Filled r shares 0 bs
written_none n shares r bs l e = filled_none r shares bs (shares_answer_lem r n shares l ∙ e)

-- the shares x and y of the next point are from -2 to 2
module _ (n : ℕ) (shares : List Float) (i : ℕ) (h : i < n) (l : length shares ≡ 2 * n) (f : shares_answer shares ≡ done tt) where
  pub x_passes : (x : Float) → x ≡ get_or shares (2 * i) nan → inside x ≡ true
  x_passes x e = rw e (each_passes shares (2 * i) f (omega arith))

  pub y_passes : (y : Float) → y ≡ get_or shares (2 * i + 1) nan → inside y ≡ true
  y_passes y e = rw e (each_passes shares (2 * i + 1) f (omega arith))

-- bs is as long as the coordinates that were lent
module _ (n : ℕ) (shares : List Float) (r : ℕ) (lent : List ℤ) (i : ℕ) (bs : List ℤ) (f : Filled r shares i bs) (l : length shares ≡ 2 * n)
    (m : length lent ≡ 3 * n) (k : length bs ≡ length lent) where
  pub written_more : (x y : Float) (cs : List ℤ) → i < n → x ≡ get_or shares (2 * i) nan → y ≡ get_or shares (2 * i + 1) nan →
      cs ≡ sets bs (3 * i) (new (snap_all r (x ∷ y ∷ []))) → Filled r shares (i + 1) cs
  written_more x y cs h ex ey e = rw (e, ex, ey) (filled_more r shares n i bs l (k ∙ m) h f)

  pub written_all : i ≤ n → n ≤ i → bs ≡ new (snap_all r shares)
  written_all g h =
      let e : i ≡ n = omega arith in
      filled_all r shares n bs l (k ∙ m) (rw e at f)
