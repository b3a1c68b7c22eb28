-- An iteration of each loop, in the shape in which the code hands it over. Assumes nothing.
use Rattle.std.specs.Prelude.{ℕ, suc, ◌+◌, ◌*◌, ◌≤◌, ◌<◌, ◌≡◌, refl, List, [], ◌∷◌, ◌++◌, length, get_or, take, drop, ℤ, pos}
use Rattle.std.proofs.Common.{sym, ap, ◌∙◌, append_assoc, append-nil, arith, add-one, length-append, take-append-drop, take-suc, length-drop, SFits}
use Rattle.std.proofs.Common.{of_z, to_z, to_z-of_z}
use Rattle.std.specs.Int.{w64}
use Rattle.definitions.specs.Job.{LF, TAB, decimal, write_line}
use Rattle.text_model.specs.Writing.{Wrote, tabbed, rest_of, put_rest, rest_is, wrote_none, wrote_then, line_is, line_length}

-- ---- numbers, k of them so far

tabbed_append : (xs ys : List ℤ) → tabbed (xs ++ ys) ≡ tabbed xs ++ tabbed ys
unfolding tabbed
tabbed_append [] ys = refl
tabbed_append (x ∷ xs) ys =
    ap (λ (l : List ℕ). (TAB ∷ decimal x) ++ l) (tabbed_append xs ys) ∙ sym (append_assoc (TAB ∷ decimal x) (tabbed xs) (tabbed ys))

tabbed-one : (x : ℤ) → tabbed (x ∷ []) ≡ TAB ∷ decimal x
unfolding tabbed
tabbed-one x = append-nil (TAB ∷ decimal x)

tabbed-next : (xs : List ℤ) (k : ℕ) → k < length xs → tabbed (take (k + 1) xs) ≡ tabbed (take k xs) ++ (TAB ∷ decimal (get_or xs k (pos 0)))
tabbed-next xs k h =
    ap (λ (j : ℕ). tabbed (take j xs)) (add-one k)
    ∙ ap tabbed (take-suc xs k (pos 0) h)
    ∙ tabbed_append (take k xs) (get_or xs k (pos 0) ∷ [])
    ∙ ap (λ (l : List ℕ). tabbed (take k xs) ++ l) (tabbed-one (get_or xs k (pos 0)))

tabbed-part : (xs : List ℤ) (k : ℕ) → length (tabbed (take k xs)) ≤ length (tabbed xs)
tabbed-part xs k =
    omega (
      arith,
      ap {B = ℕ} length (tabbed_append (take k xs) (drop k xs)),
      length-append (tabbed (take k xs)) (tabbed (drop k xs)),
      ap {B = ℕ} (λ (l : List ℤ). length (tabbed l)) (take-append-drop k xs),
    )

-- the field of number k, after those before it
next-length : (xs : List ℤ) (k : ℕ) → k < length xs →
    length (tabbed (take (k + 1) xs)) ≡ length (tabbed (take k xs)) + suc (length (decimal (get_or xs k (pos 0))))
next-length xs k h = rw (tabbed-next xs k h, length-append (tabbed (take k xs)) (TAB ∷ decimal (get_or xs k (pos 0))))

pub field_room : (xs : List ℤ) (k : ℕ) → k < length xs →
    length (tabbed (take k xs)) + suc (length (decimal (get_or xs k (pos 0)))) ≤ length (tabbed xs)
field_room xs k h = omega (arith, tabbed-part xs (k + 1), next-length xs k h)

-- `at` is the length of the first k fields
pub record Counts (xs : List ℤ) (at k : ℕ) : Type 0 where
  pub so_far : at ≡ length (tabbed (take k xs))
  pub small : at ≤ 22 * k

pub counts_none : (xs : List ℤ) → Counts xs 0 0
unfolding tabbed
counts_none xs = record { so_far = refl; small = omega arith }

pub counts_more : (xs : List ℤ) (at k r : ℕ) → Counts xs at k → k < length xs → SFits w64 (get_or xs k (pos 0))
    → r ≡ length (decimal (to_z w64 (of_z w64 (get_or xs k (pos 0))))) → r ≤ 21 → Counts xs (at + (1 + r)) (k + 1)
counts_more xs at k r c h f e l =
    let d : r ≡ length (decimal (get_or xs k (pos 0))) = rw (to_z-of_z f) at e in
    record { so_far = omega (arith, c.so_far, next-length xs k h); small = omega (arith, c.small) }

-- the first k fields stand at the front
pub fields-none : (xs : List ℤ) (old : List ℕ) → Wrote (tabbed (take 0 xs)) old old 0
unfolding tabbed
fields-none xs old = wrote_none old

module _ (xs : List ℤ) (old out : List ℕ) (at k : ℕ) (w : Wrote (tabbed (take k xs)) old out at) (h : k < length xs)
    (f : SFits w64 (get_or xs k (pos 0))) where
  pub fields-room : length (tabbed xs) ≤ length old → length out ≡ length old →
      suc (length (decimal (to_z w64 (of_z w64 (get_or xs k (pos 0)))))) ≤ length (rest_of at out)
  fields-room l e =
      rw (to_z-of_z f, rest_is at out) (omega (arith, length-drop at out, w.count, field_room xs k h))

  pub fields-more : (ys : List ℕ) (r : ℕ) → Wrote (TAB ∷ decimal (to_z w64 (of_z w64 (get_or xs k (pos 0))))) (rest_of at out) ys r
      → Wrote (tabbed (take (k + 1) xs)) old (put_rest at out ys) (at + r)
  fields-more ys r q =
      rw (tabbed-next xs k h)
      (wrote_then (tabbed (take k xs)) (TAB ∷ decimal (get_or xs k (pos 0))) old out ys at r w (rw (to_z-of_z f) at q))

-- ---- a line: the word, the numbers, and LF

pub wrote_line : (word : List ℕ) (xs : List ℤ) (old out : List ℕ) (r : ℕ) → Wrote ((word ++ tabbed xs) ++ (LF ∷ [])) old out r →
    Wrote (write_line word xs) old out r
wrote_line word xs old out r p = rw (line_is word xs) p

pub counts_line : (word : List ℕ) (xs : List ℤ) (r : ℕ) → r ≡ length (tabbed xs) → length word + r + 1 ≡ length (write_line word xs)
counts_line word xs r e = omega (arith, line_length word xs)
