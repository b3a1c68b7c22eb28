-- What the functions of row 8 ask and give, and what is known at each iteration of their loops. Assumes nothing.
use Prim.Native.Nat.{ℕ, suc, ◌+◌, ◌-◌, ◌*◌, ◌≤◌, ◌<◌, ◌^◌}
use Rattle.std.specs.Prelude.{◌≡◌, refl, Bool, true, false, List, length, ℤ}
use Rattle.std.proofs.Common.{sym, ◌∙◌}
use Rattle.std.proofs.Math.Path.{ap}
use native.Mathlib.Omega.{arith}
use Rattle.std.proofs.Math.Decide.{ℕ_discrete}
use borrow.Author.Tests.{lt-ltb, le-ltb}
use Rattle.definitions.specs.Mesh.{tri, prev}
use Rattle.theory_sphere.specs.Darts.{prev-below, tri-below}
use Rattle.scratch_tables.specs.Tables.{column, dart_in, mark_in, tables_of, flags_of, queue_of, Flagged, Queued, upd-at, upd_other}
use Rattle.mesh_tables.specs.Incidence.{incidence, incidence_of}
use Rattle.mesh_model.specs.FloodFill.{Front, is_new, reach, gain, gain_most, leave, explore, begin, Pairs}
use Rattle.mesh_model.specs.FloodFill.{Reached, at_hand, turn_below, leave-goes, leave_short, begin-goes}
use Rattle.mesh_connectivity.specs.declared.Place.{Place}
use Rattle.mesh_connectivity.specs.declared.Side.{Side}

-- the state of the walk, as scratch and a place hold it
abbrev pub front : List ℤ → Place → Front
front s p = record { flag = flags_of s; queue = queue_of s; from = p.from; to = p.to; dart = p.dart }

-- ---- what stays

-- the words of the darts
pub record Kept (s s' : List ℤ) : Type 0 where
  pub darts : (tables_of s').op ≡ (tables_of s).op

pub kept-none : (s : List ℤ) → Kept s s
kept-none s = record { darts = refl }

pub kept_more : {s s₁ s₂ : List ℤ} → Kept s s₁ → Kept s₁ s₂ → Kept s s₂
kept_more A B = record { darts = B.darts ∙ A.darts }

pub kept-turn : {s s' : List ℤ} → Kept s s' → (incidence s').turn ≡ (incidence s).turn
unfolding incidence_of
kept-turn K = rw K.darts

kept-origin : {s s' : List ℤ} → Kept s s' → (incidence s').origin ≡ (incidence s).origin
unfolding incidence_of
kept-origin K = rw K.darts

pub flagged_kept : {s s' : List ℤ} {t x : ℕ} → Flagged s s' t x → Kept s s'
flagged_kept F = record { darts = F.darts }

pub queued_kept : {s s' : List ℤ} {j x : ℕ} → Queued s s' j x → Kept s s'
queued_kept Q = record { darts = Q.darts }

-- the laws by which the check proves that they stay
pub ruleset stays = (kept-none, kept_more, kept-turn, flagged_kept, queued_kept)

-- ---- what is asked

-- m triangles whose darts are paired, and room for them
pub record Sided (m words : ℕ) (turn : ℕ → ℕ) : Type 0 where
  pub some : 0 < m
  pub small : m < 2 ^ 60
  pub room : m + 2 ≤ 2 * column words
  pub opp : ℕ → ℕ
  pub pairs : Pairs m turn opp

-- i of m triangles are left
pub record Going (m words : ℕ) (turn : ℕ → ℕ) (i : ℕ) (f : Front) : Type 0 where
  pub sided : Sided m words turn
  pub reached : Reached m sided.opp i f

-- and one is at hand
pub record Leaving (words : ℕ) (turn : ℕ → ℕ) (f : Front) : Type 0 where
  pub triangles : ℕ
  pub left : ℕ
  pub going : Going triangles words turn left f
  pub some : f.from ≤ f.to

-- none is left yet
pub record Starting (words : ℕ) (turn : ℕ → ℕ) : Type 0 where
  pub triangles : ℕ
  pub sided : Sided triangles words turn

-- the queue has a word to take from, and two to store to
pub record Space (words : ℕ) (a b : Side) (p : Place) : Type 0 where
  pub order : p.from ≤ p.to
  pub room : p.to + gain a.is_new + gain b.is_new < 2 * column words
  pub first : a.dart < 2 ^ 63
  pub second : b.dart < 2 ^ 63

-- ---- what is given

-- the walk's new state is f
pub record Moved (s s' : List ℤ) (p : Place) (f : Front) : Type 0 where
  pub is : front s' p ≡ f
  pub kept : Kept s s'

-- ---- a triangle is left

module _ (words : ℕ) (turn : ℕ → ℕ) (f : Front) (L : Leaving words turn f) where
  hand : f.dart < 3 * L.triangles
  hand = at_hand L.triangles turn L.going.sided.opp L.going.sided.pairs L.left f L.some L.going.reached

  below : (d : ℕ) → d < 3 * L.triangles → turn d < 3 * L.triangles
  below = turn_below L.triangles turn L.going.sided.opp L.going.sided.pairs

  -- its dart, and the one before, have words
  pub leaving_dart : dart_in words f.dart
  leaving_dart = omega (arith, hand, L.going.sided.room)

  pub leaving_prev : (e : ℕ) → e ≡ prev f.dart → dart_in words e
  leaving_prev e q = omega (arith, prev-below L.triangles f.dart hand, L.going.sided.room)

  pub leaving_small : f.dart < 2 ^ 63
  leaving_small = omega (arith, hand, L.going.sided.small)

  -- the triangles across have flags
  pub leaving_first : (a : ℕ) → a ≡ turn f.dart → mark_in words (tri a)
  leaving_first a q =
      let h = tri-below L.triangles (turn f.dart) (below f.dart hand) in
      rw q (omega (arith, h, L.going.sided.room))

  pub leaving_second : (e b words' : ℕ) → e ≡ prev f.dart → b ≡ turn e → words' ≡ words → mark_in words' (tri b)
  leaving_second e b words' p q w =
      let h = tri-below L.triangles (turn (prev f.dart)) (below (prev f.dart) (prev-below L.triangles f.dart hand)) in
      rw (q, p) (omega (arith, h, L.going.sided.room))

-- and the queue has words
pub leaving_space : (s s₁ s₂ : List ℤ) (place : Place) (a e b : ℕ) (x y : Side)
    → a ≡ (incidence s).turn place.dart → a < 65536 → e ≡ prev place.dart → b ≡ (incidence s).turn e → b < 65536
    → Flagged s s₁ (tri a) 1 → x.dart ≡ a → x.is_new ≡ is_new a (flags_of s) → y.dart ≡ b → y.is_new ≡ is_new b (flags_of s₁)
    → length s₁ ≡ length s → length s₂ ≡ length s₁ → Leaving (length s) (incidence s).turn (front s place) → Space (length s₂) x y place
unfolding reach
leaving_space s s₁ s₂ place a e b x y ea small ee eb small' F dx ep dy eq l₁ l₂ L =
    let G = L.going in
    let turn = (incidence s).turn in
    let f = front s place in
    let ea' : turn place.dart ≡ a = sym ea in
    let eb' : turn (prev place.dart) ≡ b = sym (eb ∙ ap turn ee) in
    let h = leave_short L.triangles turn G.sided.opp G.sided.pairs L.left f L.some G.reached in
    let h' : place.to + gain x.is_new + gain y.is_new ≤ L.triangles = rw (ea', eb', ← F.flags, ← ep, ← eq) at h in
    record { order = L.some; room = omega (arith, h', G.sided.room); first = omega arith; second = omega arith }

-- ---- the start

-- the triangle across dart 0 has a flag
pub starting_first : (s s₁ : List ℤ) (y : ℕ) → Starting (length s) (incidence s).turn → length s₁ ≡ length s → Flagged s s₁ 0 1 →
    y ≡ (incidence s₁).turn 1 → mark_in (length s₁) (tri y)
starting_first s s₁ y S l F e =
    let m = S.triangles in
    let t = (incidence s).turn in
    let e' : y ≡ t 1 = e ∙ ap (λ (f : ℕ → ℕ). f 1) (kept-turn (flagged_kept F)) in
    let h = tri-below m (t 1) (turn_below m t S.sided.opp S.sided.pairs 1 (omega (arith, S.sided.some))) in
    rw e' (omega (arith, h, S.sided.room))

-- the queue has words
pub starting_space : (words words' y : ℕ) (turn : ℕ → ℕ) (x : Side) → Starting words turn → words' ≡ words → y < 65536 → x.dart ≡ y
    → Space words' x (record { dart = 0; is_new = true }) (record { dart = 0; from = 0; to = 0 })
starting_space words words' y turn x S e small q =
    record { order = omega arith; room = omega (arith, gain_most x.is_new, S.sided.room, S.sided.some); first = omega arith; second = omega arith }

-- ---- zeros

pub record Unflagging (s₀ s : List ℤ) (t : ℕ) : Type 0 where
  pub long : length s ≡ length s₀
  pub kept : Kept s₀ s
  pub zeros : (u : ℕ) → u < t → flags_of s u ≡ 0

pub unflagging_next : (s₀ s s' : List ℤ) (t : ℕ) → length s' ≡ length s → Flagged s s' t 0 → Unflagging s₀ s t → Unflagging s₀ s' (t + 1)
unflagging_next s₀ s s' t l F I = record {
  long = l ∙ I.long;
  kept = kept_more I.kept (flagged_kept F);
  zeros = λ u h.
      elim (ℕ_discrete u t) [
        | yes q ↦ rw F.flags (upd-at t u 0 (flags_of s) q)
        | no q ↦ rw F.flags (upd_other t u 0 (flags_of s) q ∙ I.zeros u (omega arith))
      ];
}

-- ---- triangle by triangle

-- i triangles were left, and `p` is the place
pub record Exploring (m : ℕ) (s₀ s : List ℤ) (p₀ p : Place) (i : ℕ) : Type 0 where
  pub long : length s ≡ length s₀
  pub kept : Kept s₀ s
  pub going : Going m (length s₀) (incidence s₀).turn i (front s p)
  pub rest : explore (incidence s₀).turn (m - i) (front s p) ≡ explore (incidence s₀).turn m (front s₀ p₀)

pub record Explored (m : ℕ) (s s' : List ℤ) (p : Place) (r : Bool) : Type 0 where
  pub kept : Kept s s'
  pub found : r ≡ explore (incidence s).turn m (front s p)

module _ (m : ℕ) (s₀ s : List ℤ) (p₀ p : Place) (i : ℕ) (I : Exploring m s₀ s p₀ p i) where
  pub explored_soon : i < m → p.to < p.from → Explored m s₀ s p₀ true
  unfolding explore
  explored_soon h e =
      let z : m - i ≡ suc (m - suc i) = omega arith in
      record { kept = I.kept; found = rw (z, lt-ltb p.to p.from e) at I.rest }

  pub explored_all : m ≤ i → Explored m s₀ s p₀ false
  unfolding explore
  explored_all h = let z : m - i ≡ 0 = omega arith in record { kept = I.kept; found = rw z at I.rest }

  -- one more is left
  module _ (h : i < m) (w : p.from ≤ p.to) where
    pub exploring_leaves : Leaving (length s) (incidence s).turn (front s p)
    exploring_leaves = rw (I.long, kept-turn I.kept) record { triangles = m; left = i; going = I.going; some = w }

    pub exploring_next : (s' : List ℤ) (p' : Place) → length s' ≡ length s → Moved s s' p' (leave (incidence s).turn (front s p))
        → Exploring m s₀ s' p₀ p' (i + 1)
    unfolding explore
    exploring_next s' p' l M =
        let z : m - i ≡ suc (m - (i + 1)) = omega arith in
        let G = I.going in
        let turn = (incidence s₀).turn in
        let is : front s' p' ≡ leave turn (front s p) = rw (kept-turn I.kept) at M.is in
        let more : i + 1 ≡ suc i = omega arith in
        let on = leave-goes m turn G.sided.opp G.sided.pairs i (front s p) w G.reached in
        record {
          long = l ∙ I.long;
          kept = kept_more I.kept M.kept;
          going = record { sided = G.sided; reached = rw (more, is) on };
          rest = rw is (rw (z, le-ltb p.to p.from w) at I.rest);
        }

-- ---- row 8: a walk from cleared flags

pub record Split (m : ℕ) (s s' : List ℤ) (r : Bool) : Type 0 where
  pub turns : (incidence s').turn ≡ (incidence s).turn
  pub origins : (incidence s').origin ≡ (incidence s).origin
  pub flag : ℕ → ℕ
  pub queue : ℕ → ℕ
  pub zeros : (t : ℕ) → t < m → flag t ≡ 0
  pub found : r ≡ explore (incidence s).turn m (begin (incidence s).turn flag queue)

module _ (m : ℕ) (s s₁ : List ℤ) (S : Sided m (length s) (incidence s).turn) (U : Unflagging s s₁ m) where
  pub starts : Starting (length s₁) (incidence s₁).turn
  starts = rw (U.long, kept-turn U.kept) record { triangles = m; sided = S }

  module _ (s₂ : List ℤ) (p : Place) (long : length s₂ ≡ length s₁)
      (M : Moved s₁ s₂ p (begin (incidence s₁).turn (flags_of s₁) (queue_of s₁))) where
    turns : (incidence s₂).turn ≡ (incidence s).turn
    turns = kept-turn (kept_more U.kept M.kept)

    is : front s₂ p ≡ begin (incidence s).turn (flags_of s₁) (queue_of s₁)
    is = rw (kept-turn U.kept) at M.is

    pub begun : Going m (length s₂) (incidence s₂).turn 0 (front s₂ p)
    begun =
        let R = begin-goes m (incidence s).turn S.opp S.pairs (flags_of s₁) (queue_of s₁) S.some U.zeros in
        let e : length s₂ ≡ length s = long ∙ U.long in
        rw (e, turns, is) record { sided = S; reached = R }

    pub split : (s₃ : List ℤ) (r : Bool) → Explored m s₂ s₃ p r → Split m s s₃ r
    split s₃ r E = record {
      turns = kept-turn (kept_more (kept_more U.kept M.kept) E.kept);
      origins = kept-origin (kept_more (kept_more U.kept M.kept) E.kept);
      flag = flags_of s₁;
      queue = queue_of s₁;
      zeros = U.zeros;
      found = E.found ∙ rw (turns, is);
    }
