-- An iteration of each loop, in the shape in which the code hands it over. Assumes nothing.
use Rattle.std.specs.Prelude.{ℕ, suc, ◌+◌, ◌*◌, ◌-◌, ◌≤◌, ◌<◌, ◌≡◌, refl, length, take, drop, set, ℤ, None, Some}
use Rattle.std.specs.Prelude.{Option as Maybe}
use Rattle.std.proofs.Math.Path.{sym, ap}
use Rattle.std.proofs.Common.{◌∙◌, arith, add-one, length-drop, length-take-le, take-suc-set, SFits, of_z, to_z, to_z-of_z}
use mathlib.Core.List.{List, [], ◌∷◌, ◌++◌, flat_map, append-nil}
use Rattle.std.proofs.Math.Option.{Option}
use Rattle.std.proofs.lemmas.Slice.{take-put_mid}
use borrow.Rule.Slice.PartMut.{put_mid}
use Rattle.std.specs.Int.{w64}
use Rattle.definitions.specs.Job.{Read, got, breaks, read_line, read_lines, triangle_line, weight_line}
use Rattle.text_model.specs.Positions.{next_line, after_line, drop-next_line}
use Rattle.text_reader.specs.declared.Reader.{Reader}
use Rattle.text_read_job.specs.Answer.{left}
use Rattle.text_parse.specs.Answer.{option_of}
use Rattle.text_model.specs.Reading.{line_of, prefix, prefix-none, prefix-prefix, lines_broken, lines_more, flat, triangles_broken, triangles-more}

-- the text that is left once a reader has moved by a line
pub moved : (r s : Reader) → (s.text ≡ r.text) × (s.at ≡ next_line r.text.now r.at) → left s ≡ after_line (left r)
moved r s e = rw (e.0, e.1) (drop-next_line r.text.now r.at)

-- three numbers stored
pub three_stored : {A : Type 0} (ts ys xs : List A) (i : ℕ) → ys ≡ xs → length ys ≡ length (take (3 * (i + 1) - 3 * i) (drop (3 * i) ts))
    → 3 * (i + 1) ≤ length ts → take (3 * (i + 1)) (put_mid (3 * i) (3 * (i + 1) - 3 * i) ts ys) ≡ take (3 * i) ts ++ xs
three_stored ts ys xs i e l h =
    let k = 3 * (i + 1) - 3 * i in
    let m : length (take k (drop (3 * i) ts)) ≡ k = length-take-le k (drop (3 * i) ts) (omega (arith, length-drop (3 * i) ts)) in
    take-put_mid (3 * i) k ts ys (3 * (i + 1)) (omega arith) (omega arith) ∙ ap (λ zs. take (3 * i) ts ++ zs) e

-- a weight stored, which was handed over as bits
pub weight_stored : (ws : List ℤ) (i : ℕ) (z : ℤ) → SFits w64 z → i < length ws →
    take (i + 1) (set ws i (to_z w64 (of_z w64 z))) ≡ take i ws ++ (z ∷ [])
weight_stored ws i z f h = rw (to_z-of_z f, add-one i) (take-suc-set ws i z h)

-- ---- lines of one layout, of which each gives a few numbers of a list

-- how lines are read one after another, i of them into the first `size i` places
pub record Steady {A B : Type 0} (layout : List (List ℕ) → Option B) (numbers : B → List A) (size : ℕ → ℕ)
    (lines : ℕ → ℕ → List ℕ → Read (List A)) : Type 0 where
  pub empty : size 0 ≡ 0
  pub none : (at : ℕ) (text : List ℕ) → lines 0 at text ≡ got [] text
  pub broken : (k at : ℕ) (text : List ℕ) (l : ℕ) → read_line layout at text ≡ breaks l → lines (suc k) at text ≡ breaks l
  pub more : (k at : ℕ) (text : List ℕ) (x : B) (rest : List ℕ) → read_line layout at text ≡ got x rest
      → lines (suc k) at text ≡ prefix (numbers x) (lines k (suc at) rest)

abbrev pub corners : ℕ → ℕ → List ℕ → Read (List ℕ)
corners k at text = flat (read_lines triangle_line k at text)

abbrev pub threes : ℕ → ℕ
threes i = 3 * i

abbrev pub ones : ℕ → ℕ
ones i = i

pub triangles_steady : Steady triangle_line (λ (t : List ℕ). t) threes corners
unfolding flat read_lines flat_map
triangles_steady = record { empty = refl; none = λ at text. refl; broken = triangles_broken; more = triangles-more }

pub weights_steady : Steady weight_line (λ (z : ℤ). z ∷ []) ones (read_lines weight_line)
unfolding read_lines
weights_steady = record { empty = refl; none = λ at text. refl; broken = lines_broken weight_line; more = lines_more weight_line }

-- Of `count` lines from line `first`, which begin `text`, i have been read, and they gave the first `size i` of `now`. `rest` is left of the text.
abbrev pub Reads : {A : Type 0} → (ℕ → ℕ) → (ℕ → ℕ → List ℕ → Read (List A)) → List ℕ → ℕ → ℕ → List A → List ℕ → ℕ → Type 0
Reads size lines text count first now rest i = lines count first text ≡ prefix (take (size i) now) (lines (count - i) (first + i) rest)

module _ {A B : Type 0} {layout : List (List ℕ) → Option B} {numbers : B → List A} {size : ℕ → ℕ} {lines : ℕ → ℕ → List ℕ → Read (List A)}
    (steady : Steady layout numbers size lines) (text : List ℕ) (count first : ℕ) where
  pub reads_none : (now : List A) → Reads size lines text count first now text 0
  reads_none now =
      let c : count - 0 ≡ count = omega arith in
      let f : first + 0 ≡ first = omega arith in
      rw (c, f, steady.empty) (sym (prefix-none (lines count first text)))

  module _ (now : List A) (rest : List ℕ) (i : ℕ) (inv : Reads size lines text count first now rest i) where
    -- line i, which was read from what was lent
    module _ (h : i < count) (lent : List ℕ) (g : lent ≡ rest) (o : Maybe B)
        (r : (l : ℕ) → line_of (option_of o) l lent ≡ read_line layout l lent) where
      next : lines count first text ≡ prefix (take (size i) now) (lines (suc (count - (i + 1))) (first + i) rest)
      next =
          let l : count - i ≡ suc (count - (i + 1)) = omega arith in
          rw l at inv

      line : (p : Maybe B) → o ≡ p → read_line layout (first + i) rest ≡ line_of (option_of p) (first + i) rest
      line p e = sym (rw (g, e) at (r (first + i)))

      pub reads_broken : o ≡ None → (l : ℕ) → l ≡ first + i → breaks l ≡ lines count first text
      unfolding line_of prefix
      reads_broken e l f =
          ap breaks f
          ∙ sym (next ∙ ap (prefix (take (size i) now)) (steady.broken (count - (i + 1)) (first + i) rest (first + i) (line None e)))

      pub reads_more : (x : B) → o ≡ Some x → (now' : List A) (rest' : List ℕ)
          → take (size (i + 1)) now' ≡ take (size i) now ++ numbers x → rest' ≡ after_line rest → Reads size lines text count first now' rest' (i + 1)
      unfolding line_of
      reads_more x e now' rest' n p =
          let s : suc (first + i) ≡ first + (i + 1) = omega arith in
          next
          ∙ ap (prefix (take (size i) now)) (steady.more (count - (i + 1)) (first + i) rest x rest' (line (Some x) e ∙ ap (got x) (sym p)))
          ∙ prefix-prefix (take (size i) now) (numbers x) (lines (count - (i + 1)) (suc (first + i)) rest')
          ∙ rw (s, n)

    pub reads_all : i ≤ count → count ≤ i → got (take (size count) now) rest ≡ lines count first text
    unfolding prefix
    reads_all k h =
        let z : count - i ≡ 0 = omega arith in
        let c : count ≡ i = omega arith in
        let all : lines count first text ≡ got (take (size i) now) rest = inv
        ∙ ap (prefix (take (size i) now)) (ap (λ (k : ℕ). lines k (first + i) rest) z ∙ steady.none (first + i) rest)
        ∙ rw (append-nil (take (size i) now)) in
        ap (λ (j : ℕ). got (take (size j) now) rest) c ∙ sym all
