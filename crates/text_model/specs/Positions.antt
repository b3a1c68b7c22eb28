-- Lines and fields by positions: where the first LF or tab stands, what stands before it and what after. Assumes nothing.
use Rattle.std.specs.Prelude.{ℕ, suc, ◌+◌, ◌-◌, ◌≤◌, ◌<◌, min, ◌≡◌, refl, Bool, true, false, ◌&&◌, cond, List, [], ◌∷◌, eqb, length, get_or, take, drop}
use Rattle.std.proofs.Common.{sym, ap, ◌∙◌, arith, add-one, length-drop, drop_of_length-le, drop-drop, take_all}
use Rattle.std.proofs.Math.Option.{none, some}
use Rattle.std.proofs.Math.Decide.{dec_le}
use Rattle.std.proofs.Math.Seq.{drop-cons}
use borrow.Author.Tests.{eq-eqb, ne_eqb, eqb-true}
use Rattle.definitions.specs.Job.{LF, TAB, same_bytes, split_line, fields}

-- ---- where a byte stands

-- the place of the first b, or the length where there is none
unfoldable pub index_of : ℕ → List ℕ → ℕ
index_of b [] = 0
index_of b (c ∷ bs) = cond (eqb c b) 0 (suc (index_of b bs))

index_of-here : (b c : ℕ) (bs : List ℕ) → c ≡ b → index_of b (c ∷ bs) ≡ 0
unfolding index_of
index_of-here b c bs e = rw (eq-eqb c b e)

index_of-later : (b c : ℕ) (bs : List ℕ) → (c ≡ b → ⊥) → index_of b (c ∷ bs) ≡ suc (index_of b bs)
unfolding index_of
index_of-later b c bs e = rw (ne_eqb c b e)

pub index_of-le : (b : ℕ) (bs : List ℕ) → index_of b bs ≤ length bs
unfolding index_of
index_of-le b [] = omega arith
index_of-le b (c ∷ bs) = go (eqb c b) (index_of-le b bs)
  where
    go : (x : Bool) → index_of b bs ≤ length bs → cond x 0 (suc (index_of b bs)) ≤ suc (length bs)
    go true h = omega arith
    go false h = omega arith

-- the byte that stands there
pub index_of-at : (b : ℕ) (bs : List ℕ) → index_of b bs < length bs → get_or bs (index_of b bs) 0 ≡ b
unfolding index_of
index_of-at b [] h = absurd (omega arith)
index_of-at b (c ∷ bs) h = go (eqb c b) refl h (index_of-at b bs)
  where
    go : (x : Bool) → eqb c b ≡ x → cond x 0 (suc (index_of b bs)) < suc (length bs) → (index_of b bs < length bs → get_or bs (index_of b bs) 0 ≡ b)
        → get_or (c ∷ bs) (cond x 0 (suc (index_of b bs))) 0 ≡ b
    go true e h ih = eqb-true c b e
    go false e h ih = ih (omega arith)

-- as a loop over positions meets it
module _ (b : ℕ) (bs : List ℕ) (i : ℕ) (h : i < length bs) where
  pub index_of_hit : get_or bs i 0 ≡ b → index_of b (drop i bs) ≡ 0
  index_of_hit e = rw (drop-cons bs i 0 h) (index_of-here b (get_or bs i 0) (drop (suc i) bs) e)

  pub index_of-miss : (get_or bs i 0 ≡ b → ⊥) → index_of b (drop i bs) ≡ suc (index_of b (drop (i + 1) bs))
  index_of-miss e = rw (add-one i, drop-cons bs i 0 h) (index_of-later b (get_or bs i 0) (drop (suc i) bs) e)

pub index_of-end : (b : ℕ) (bs : List ℕ) (i : ℕ) → length bs ≤ i → index_of b (drop i bs) ≡ 0
unfolding index_of
index_of-end b bs i h = rw (drop_of_length-le bs {i = i} h)

-- ---- bytes compared

pub same_lengths : (as' bs : List ℕ) → (length as' ≡ length bs → ⊥) → same_bytes as' bs ≡ false
unfolding same_bytes
same_lengths [] [] ne = absurd (ne refl)
same_lengths [] (b ∷ bs) ne = refl
same_lengths (a ∷ as') [] ne = refl
same_lengths (a ∷ as') (b ∷ bs) ne = rw (same_lengths as' bs (λ e. ne (ap suc e))) (go (eqb a b))
  where
    go : (x : Bool) → x && false ≡ false
    go true = refl
    go false = refl

module _ (as' bs : List ℕ) (i : ℕ) (h : i < length as') (k : i < length bs) where
  pub same-miss : (get_or as' i 0 ≡ get_or bs i 0 → ⊥) → same_bytes (drop i as') (drop i bs) ≡ false
  unfolding same_bytes
  same-miss ne = rw (drop-cons as' i 0 h, drop-cons bs i 0 k, ne_eqb (get_or as' i 0) (get_or bs i 0) ne)

  pub same_hit : get_or as' i 0 ≡ get_or bs i 0 → same_bytes (drop i as') (drop i bs) ≡ same_bytes (drop (i + 1) as') (drop (i + 1) bs)
  unfolding same_bytes
  same_hit e = rw (add-one i, drop-cons as' i 0 h, drop-cons bs i 0 k, eq-eqb (get_or as' i 0) (get_or bs i 0) e)

pub same_end : (as' bs : List ℕ) (i : ℕ) → length as' ≤ i → length bs ≤ i → same_bytes (drop i as') (drop i bs) ≡ true
unfolding same_bytes
same_end as' bs i h k = rw (drop_of_length-le as' {i = i} h, drop_of_length-le bs {i = i} k)

-- ---- parts of a slice, as loans have them

pub from_is : (bs : List ℕ) (i : ℕ) → take (length bs - i) (drop i bs) ≡ drop i bs
from_is bs i = take_all (length bs - i) (drop i bs) (omega (arith, length-drop i bs))

pub from_end : (bs : List ℕ) (i : ℕ) → length bs ≤ i → take (length bs - length bs) (drop (length bs) bs) ≡ drop i bs
from_end bs i h =
    let e : length bs - length bs ≡ 0 = omega arith in
    rw (e, drop_of_length-le bs {i = i} h)

-- ---- a line

pub cut_none : (bs : List ℕ) → length bs ≤ index_of LF bs → split_line bs ≡ none
unfolding split_line index_of
cut_none [] h = refl
cut_none (b ∷ bs) h = go (eqb b LF) refl h (cut_none bs)
  where
    go : (x : Bool) → eqb b LF ≡ x → suc (length bs) ≤ cond x 0 (suc (index_of LF bs)) → (length bs ≤ index_of LF bs → split_line bs ≡ none) →
        split_line (b ∷ bs) ≡ none
    go true e h ih = absurd (omega arith)
    go false e h ih = rw (e, ih (omega arith), split_line)

pub cut_some : (bs : List ℕ) → index_of LF bs < length bs →
    split_line bs ≡ some (record { line = take (index_of LF bs) bs; rest = drop (suc (index_of LF bs)) bs })
unfolding split_line index_of
cut_some [] h = absurd (omega arith)
cut_some (b ∷ bs) h = go (eqb b LF) refl h (cut_some bs)
  where
    go : (x : Bool) → eqb b LF ≡ x → cond x 0 (suc (index_of LF bs)) < suc (length bs)
        → (index_of LF bs < length bs → split_line bs ≡ some (record { line = take (index_of LF bs) bs; rest = drop (suc (index_of LF bs)) bs }))
        → split_line (b ∷ bs) ≡ some (record {
          line = take (cond x 0 (suc (index_of LF bs))) (b ∷ bs);
          rest = drop (cond x 0 (suc (index_of LF bs))) bs;
        })
    go true e h ih = rw (e, split_line)
    go false e h ih = rw (e, ih (omega arith), split_line)

-- ---- fields

pub fields-last : (bs : List ℕ) → length bs ≤ index_of TAB bs → fields bs ≡ bs ∷ []
unfolding fields index_of
fields-last [] h = refl
fields-last (b ∷ bs) h = go (eqb b TAB) refl h (fields-last bs)
  where
    go : (x : Bool) → eqb b TAB ≡ x → suc (length bs) ≤ cond x 0 (suc (index_of TAB bs)) → (length bs ≤ index_of TAB bs → fields bs ≡ bs ∷ [])
        → fields (b ∷ bs) ≡ (b ∷ bs) ∷ []
    go true e h ih = absurd (omega arith)
    go false e h ih = rw (e, ih (omega arith))

pub fields-more : (bs : List ℕ) → index_of TAB bs < length bs → fields bs ≡ take (index_of TAB bs) bs ∷ fields (drop (suc (index_of TAB bs)) bs)
unfolding fields index_of
fields-more [] h = absurd (omega arith)
fields-more (b ∷ bs) h = go (eqb b TAB) refl h (fields-more bs)
  where
    go : (x : Bool) → eqb b TAB ≡ x → cond x 0 (suc (index_of TAB bs)) < suc (length bs)
        → (index_of TAB bs < length bs → fields bs ≡ take (index_of TAB bs) bs ∷ fields (drop (suc (index_of TAB bs)) bs))
        → fields (b ∷ bs) ≡ take (cond x 0 (suc (index_of TAB bs))) (b ∷ bs) ∷ fields (drop (cond x 0 (suc (index_of TAB bs))) bs)
    go true e h ih = rw e
    go false e h ih = rw (e, ih (omega arith))

-- ---- the text after a line

-- what stands after the first LF: nothing where there is none
unfoldable pub after_line : List ℕ → List ℕ
unfolding index_of
after_line text = drop (suc (index_of LF text)) text

-- the position of the next line, at most the end
unfoldable pub next_line : List ℕ → ℕ → ℕ
unfolding index_of
next_line text at = min (at + suc (index_of LF (drop at text))) (length text)

drop_min : (bs : List ℕ) (i : ℕ) → drop (min i (length bs)) bs ≡ drop i bs
drop_min bs i =
    elim (dec_le i (length bs)) [
      | yes h ↦
          let e : min i (length bs) ≡ i = omega arith in
          rw e
      | no h ↦
          let e : min i (length bs) ≡ length bs = omega arith in
          rw (e, drop_of_length-le bs {i = length bs} (omega arith), drop_of_length-le bs {i = i} (omega arith))
    ]

pub drop-next_line : (text : List ℕ) (at : ℕ) → drop (next_line text at) text ≡ after_line (drop at text)
unfolding next_line after_line
drop-next_line text at = drop_min text (at + suc (index_of LF (drop at text))) ∙ sym (drop-drop (suc (index_of LF (drop at text))) at text)

-- the three ways to it: past the end, no LF, an LF at k
pub next_line_past : (text : List ℕ) (at : ℕ) → length text ≤ at → next_line text at ≡ length text
unfolding next_line
next_line_past text at h = omega arith

pub next_line-none : (text : List ℕ) (at : ℕ) → at < length text → length (drop at text) ≤ index_of LF (drop at text) →
    next_line text at ≡ length text
unfolding next_line
next_line-none text at h k = omega (arith, length-drop at text)

pub next_line_some : (text : List ℕ) (at k : ℕ) → at < length text → k ≡ index_of LF (drop at text) → k < length (drop at text) →
    next_line text at ≡ at + k + 1
unfolding next_line
next_line_some text at k h e l = omega (arith, length-drop at text)
