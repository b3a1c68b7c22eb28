-- Steps through a line, in the shape in which the code hands them over: results of calls, and the parts that were lent. Assumes nothing.
use Rattle.std.specs.Prelude.{ℕ, suc, ◌+◌, ◌≤◌, ◌<◌, ◌≡◌, ◌==◌, refl, Bool, true, false, ◌&&◌, ltb, cond, List, [], ◌∷◌, eqb, length, take, drop}
use Rattle.std.specs.Prelude.{position, None, Some, unwrap_or, Option as Maybe}
use Rattle.std.proofs.Common.{sym, ap, ◌∙◌, arith, lt-ltb, le-ltb, ltb-true, ltb-false}
use Rattle.std.proofs.lemmas.Grind.{common_steps}
use Rattle.std.proofs.lemmas.List.Recursion.{is_position_or_len}
use Rattle.std.proofs.Math.Option.{Option, none, some}
use Rattle.std.specs.List.{position_or_len}
use Rattle.std.specs.Str.{bytes_eq}
use Rattle.definitions.specs.Job.{TAB, same_bytes, fields, vertex_field, three}
use Rattle.text_model.specs.Positions.{index_of, index_of-le, fields-more, fields-last}
use Rattle.text_model.specs.Layouts.{Begins, no_tab, other_word, the_word, corners_of, last-field, vertex_tab}

-- ---- the place of a byte

index_is : (b : ℕ) (s : List ℕ) → index_of b s ≡ position_or_len (λ x. x == b) s
unfolding index_of
index_is b = is_position_or_len (index_of b) (λ x. x == b) refl more
  where
    more : (x : ℕ) (xs : List ℕ) → index_of b (x ∷ xs) ≡ cond (x == b) 0 (1 + index_of b xs)
    more x xs = let e : 1 + index_of b xs ≡ suc (index_of b xs) = omega arith in rw e refl

module _ (b : ℕ) (s : List ℕ) where
  pub place-none : None ≡ position (λ x. x == b) s → length s ≤ index_of b s
  place-none e = let i = index_is b s in grind (arith, common_steps)

  pub place_or_length : (r : Maybe ℕ) → r ≡ position (λ x. x == b) s → unwrap_or r (length s) ≡ index_of b s
  place_or_length r e = let i = index_is b s in let l = index_of-le b s in grind (arith, common_steps)

  pub place_some : (k : ℕ) → Some k ≡ position (λ x. x == b) s → (k < length s) × (k ≡ index_of b s)
  place_some k e = let i = index_is b s in grind (arith, common_steps)

-- ---- the word

same_is : (s t : List ℕ) → same_bytes s t ≡ bytes_eq s t
unfolding same_bytes
same_is [] [] = refl
same_is [] (y ∷ ys) = refl
same_is (x ∷ xs) [] = refl
same_is (x ∷ xs) (y ∷ ys) = ap (λ r. eqb x y && r) (same_is xs ys)

-- what follows the first field of s, where that is the word
unfoldable pub after_word : List ℕ → List ℕ → Option (List ℕ)
unfolding index_of
after_word word s =
    cond (ltb (index_of TAB s) (length s) && same_bytes (take (index_of TAB s) s) word) (some (drop (suc (index_of TAB s)) s)) none

module _ (word s : List ℕ) where
  pub word_alone : length s ≤ index_of TAB s → after_word word s ≡ none
  unfolding after_word
  word_alone h = rw (le-ltb (index_of TAB s) (length s) h)

  module _ (f : List ℕ) (r : Bool) (h : index_of TAB s < length s) (e : f ≡ take (index_of TAB s) s) (q : r ≡ bytes_eq f word) where
    tested : same_bytes (take (index_of TAB s) s) word ≡ r
    tested = same_is (take (index_of TAB s) s) word ∙ ap (λ t. bytes_eq t word) (sym e) ∙ sym q

    pub word-other : r ≡ false → after_word word s ≡ none
    unfolding after_word
    word-other n = rw (lt-ltb (index_of TAB s) (length s) h, tested, n)

    pub word_then : r ≡ true → (rest : List ℕ) → rest ≡ drop (suc (index_of TAB s)) s → after_word word s ≡ some rest
    unfolding after_word
    word_then y rest d = rw (lt-ltb (index_of TAB s) (length s) h, tested, y, d)

-- a layout that wants the word and then another layout
module _ {A : Type 0} {layout inner : List (List ℕ) → Option A} {word : List ℕ} (b : Begins layout inner word) (s : List ℕ) where
  follow : Option (List ℕ) → Option A
  follow none = none
  follow (some rest) = inner (fields rest)

  follows : layout (fields s) ≡ follow (after_word word s)
  unfolding after_word follow
  follows = go (ltb (index_of TAB s) (length s)) (same_bytes (take (index_of TAB s) s) word) refl refl
    where
      go : (x y : Bool) → ltb (index_of TAB s) (length s) ≡ x → same_bytes (take (index_of TAB s) s) word ≡ y
          → layout (fields s) ≡ follow (cond (x && y) (some (drop (suc (index_of TAB s)) s)) none)
      go true true p q = the_word layout inner word b s (ltb-true _ _ p) q
      go true false p q = other_word layout inner word b s (ltb-true _ _ p) q
      go false y p q = no_tab layout inner word b s (ltb-false _ _ p)

  pub word_none : after_word word s ≡ none → layout (fields s) ≡ none
  unfolding follow
  word_none e = follows ∙ ap follow e

  pub word_some : (rest : List ℕ) → after_word word s ≡ some rest → layout (fields s) ≡ inner (fields rest)
  unfolding follow
  word_some rest e = follows ∙ ap follow e

-- ---- three vertices, a, b and c

three-none : (x y : Option ℕ) → three x y none ≡ none
unfolding three
three-none none y = refl
three-none (some a) none = refl
three-none (some a) (some b) = refl

module _ (s : List ℕ) where
  pub corners-alone : length s ≤ index_of TAB s → corners_of (fields s) ≡ none
  unfolding corners_of
  corners-alone h = rw (fields-last s h)

  module _ (a rest : List ℕ) (h : index_of TAB s < length s) (e : a ≡ take (index_of TAB s) s) (d : rest ≡ drop (suc (index_of TAB s)) s) where
    pub corners-two : length rest ≤ index_of TAB rest → corners_of (fields s) ≡ none
    unfolding corners_of
    corners-two k = rw (fields-more s h, ← d, fields-last rest k)

    pub corners_three : (b c : List ℕ) → index_of TAB rest < length rest → b ≡ take (index_of TAB rest) rest → c ≡ drop (suc (index_of TAB rest)) rest
        → corners_of (fields s) ≡ three (vertex_field a) (vertex_field b) (vertex_field c)
    unfolding corners_of
    corners_three b c k f g =
        rw (fields-more s h, ← d, ← e, fields-more rest k, ← g, ← f)
        (last-field (λ fs. corners_of (a ∷ b ∷ fs)) (λ z. three (vertex_field a) (vertex_field b) (vertex_field z))
        (record {
          single = λ z. refl;
          several = λ z u fs. refl;
          tab = λ z t. rw (vertex_tab z t) (three-none (vertex_field a) (vertex_field b));
        }) c)
