-- The mesh with its outer triangle in front: its length, and where each of its darts stands in the list as lent. Assumes nothing.
use Rattle.std.specs.Prelude.{ℕ, ◌+◌, ◌-◌, ◌*◌, ◌≤◌, ◌<◌, ◌≡◌, cond, List, ◌++◌, ltb, length, take, drop}
use Rattle.std.proofs.Common.{sym, ◌∙◌, append-nil, length-append, take-append-drop, get_or-append-add, lt-ltb, le-ltb}
use Rattle.std.proofs.Math.Path.{ap}
use native.Mathlib.Omega.{arith}
use Rattle.std.proofs.Math.Decide.{dec_lt}
use Rattle.std.proofs.Math.ListN.{get_or, length-take, length-drop, get_or-append}
use Rattle.std.proofs.Math.Seq.{get_or-take, get_or-drop}
use Rattle.definitions.specs.Mesh.{org, fronted}

-- where dart d of the mesh with the triangle at place p in front stands in the list as lent
unfoldable pub listed : ℕ → ℕ → ℕ
listed p d = cond (ltb d 3) (3 * p + d) (cond (ltb d (3 * p + 3)) (d - 3) d)

-- its three ways
pub listed-outer : (p d : ℕ) → d < 3 → listed p d ≡ 3 * p + d
unfolding listed
listed-outer p d h = rw (lt-ltb d 3 h)

pub listed-moved : (p d : ℕ) → 3 ≤ d → d < 3 * p + 3 → listed p d ≡ d - 3
unfolding listed
listed-moved p d h l = rw (le-ltb d 3 h, lt-ltb d (3 * p + 3) l)

pub listed_kept : (p d : ℕ) → 3 * p + 3 ≤ d → listed p d ≡ d
unfolding listed
listed_kept p d h = let l : 3 ≤ d = omega arith in rw (le-ltb d 3 l, le-ltb d (3 * p + 3) h)

-- with the first triangle in front nothing moves
pub fronted-0 : (ts : List ℕ) → fronted 0 ts ≡ ts
unfolding fronted
fronted-0 ts = ap (λ (front : List ℕ). front ++ drop 3 ts) (append-nil (take 3 ts)) ∙ take-append-drop 3 ts

-- the mesh is as long as the list, whatever the place
pub length-fronted : (p : ℕ) (ts : List ℕ) → length (fronted p ts) ≡ length ts
unfolding fronted
length-fronted p ts =
    let one = take 3 (drop (3 * p) ts) in
    let passed = take (3 * p) ts in
    omega (
      arith,
      length-append (one ++ passed) (drop (3 * p + 3) ts),
      length-append one passed,
      length-take 3 (drop (3 * p) ts),
      length-drop (3 * p) ts,
      length-take (3 * p) ts,
      length-drop (3 * p + 3) ts,
    )

-- an entry of the second of two lists
get_or_second : (xs ys : List ℕ) (i k : ℕ) → length xs ≡ k → k ≤ i → get_or (xs ++ ys) i 0 ≡ get_or ys (i - k) 0
get_or_second xs ys i k e h =
    let z : length xs + (i - k) ≡ i = omega arith in
    ap (λ (j : ℕ). get_or (xs ++ ys) j 0) (sym z) ∙ get_or-append-add xs ys (i - k) 0

module _ (p : ℕ) (ts : List ℕ) (there : 3 * p + 3 ≤ length ts) where
  -- the triangle in front, those that it has passed, and those behind it
  one : List ℕ
  one = take 3 (drop (3 * p) ts)

  passed : List ℕ
  passed = take (3 * p) ts

  behind : List ℕ
  behind = drop (3 * p + 3) ts

  length-one : length one ≡ 3
  unfolding one
  length-one = length-take 3 (drop (3 * p) ts) ∙ omega (arith, length-drop (3 * p) ts)

  length_passed : length passed ≡ 3 * p
  unfolding passed
  length_passed = length-take (3 * p) ts ∙ omega arith

  length_front : length (one ++ passed) ≡ 3 * p + 3
  length_front = omega (arith, length-append one passed, length-one, length_passed)

  -- a corner has the vertex that it has in the list as lent
  pub org-fronted : (d : ℕ) → org (fronted p ts) d ≡ org ts (listed p d)
  unfolding fronted org one passed behind
  org-fronted d =
      elim (dec_lt d (3 * p + 3)) [
        | yes l ↦
            get_or-append (one ++ passed) behind 0 d (omega (arith, length_front))
            ∙ elim (dec_lt d 3) [
              | yes h ↦
                  get_or-append one passed 0 d (omega (arith, length-one)) ∙ get_or-take 3 (drop (3 * p) ts) d 0 h ∙ get_or-drop (3 * p) ts d 0
                  ∙ ap (λ (k : ℕ). get_or ts k 0) (sym (listed-outer p d h))
              | no h ↦
                  get_or_second one passed d 3 length-one (omega (arith, h)) ∙ get_or-take (3 * p) ts (d - 3) 0 (omega (arith, h))
                  ∙ ap (λ (k : ℕ). get_or ts k 0) (sym (listed-moved p d (omega (arith, h)) l))
            ]
        | no l ↦
            get_or_second (one ++ passed) behind d (3 * p + 3) length_front (omega (arith, l)) ∙ get_or-drop (3 * p + 3) ts (d - (3 * p + 3)) 0
            ∙ ap (λ (k : ℕ). get_or ts k 0) (omega (arith, l, listed_kept p d (omega (arith, l))))
      ]
