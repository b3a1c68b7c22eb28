-- The scale that a call works with: it is 24 at most, and what 0 stands for matters to a call that passes 0 alone. Assumes nothing.
use Prim.Native.Nat.{ℕ, zero, suc, ◌≤◌}
use Rattle.std.proofs.Common.{arith, sym, ◌∙◌, true≢false}
use Rattle.std.specs.Prelude.{◌≡◌, Bool, ◌&&◌, ◌||◌, List, ℤ, Float}
use Rattle.std.proofs.Math.Path.{refl}
use Rattle.std.proofs.Math.Bool.{true, false}
use Rattle.std.proofs.Math.Dec.{eqb, leb}
use borrow.Author.Tests.{leb-true, eqb-true, le-leb, ne_eqb}
use Rattle.definitions.specs.DrawnPoints.{effective_scale, scale_allowed}
use Rattle.definitions.specs.Refusals.{snap_call, snap_call_where_zero_is}
use Rattle.snap_model.specs.Call.{call}

-- It is 24 at most where the call's own is allowed.
pub scale_most : (usual r : ℕ) → usual ≤ 24 → scale_allowed r ≡ true → effective_scale usual r ≤ 24
scale_most usual zero u h = unfold effective_scale in u
scale_most usual (suc r) u h = unfold effective_scale scale_allowed in go (eqb (suc r) 0) (leb 4 (suc r)) (leb (suc r) 24) h refl refl
  where
    go : (a b c : Bool) → (a || b && c) ≡ true → eqb (suc r) 0 ≡ a → leb (suc r) 24 ≡ c → suc r ≤ 24
    go true b c h e f = omega (arith, eqb-true (suc r) 0 e)
    go false true c h e f = leb-true (suc r) 24 (f ∙ h)
    go false false c h e f = absurd (true≢false (sym h))

allowed : (r : ℕ) → 4 ≤ r → r ≤ 24 → scale_allowed r ≡ true
allowed r low high = unfold scale_allowed in rw (ne_eqb r 0 (λ e. omega arith), le-leb 4 r low, le-leb r 24 high)

-- ---- what 0 stood for before: n points, their shares, and the coordinates bs as they are lent

module _ (n : ℕ) (shares : List Float) (bs : List ℤ) where
  -- A call that passes 1 or more answers and leaves the same, whatever 0 stands for.
  pub own_scale : (before now r : ℕ) → 1 ≤ r → snap_call_where_zero_is before n shares r bs ≡ snap_call_where_zero_is now n shares r bs
  own_scale before now zero h = absurd (omega arith)
  own_scale before now (suc r) h = unfold snap_call_where_zero_is in refl

  -- A call that passes what 0 stood for answers and leaves what a call with 0 did, whatever 0 stands for now.
  pub zero_before : (before now : ℕ) → 4 ≤ before → before ≤ 24
      → snap_call_where_zero_is now n shares before bs ≡ snap_call_where_zero_is before n shares 0 bs
  zero_before zero now low high = absurd (omega arith)
  zero_before (suc r) now low high =
      rw (call now n shares (suc r) bs, call (suc r) n shares 0 bs, allowed (suc r) low high) (unfold scale_allowed effective_scale in refl)

  -- C-17: 0 stood for 16, and calls that relied on that pass 16.
  pub sixteen_as_before : snap_call n shares 16 bs ≡ snap_call_where_zero_is 16 n shares 0 bs
  sixteen_as_before = unfold snap_call in refl
