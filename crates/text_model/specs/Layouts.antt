-- The layout of each line as one who goes through it from tab to tab meets it: the word first, then field after field. Assumes nothing.
use Rattle.std.specs.Prelude.{ℕ, zero, suc, ◌-◌, ◌≤◌, ◌<◌, ◌≡◌, refl, Bool, true, false, not, ◌&&◌, cond, List, [], ◌∷◌, eqb, length, get_or, take, drop, ℤ}
use Rattle.std.proofs.Common.{sym, ap, ◌∙◌, arith, eqb-true}
use Rattle.std.proofs.Math.Option.{Option, none, some}
use Rattle.std.proofs.Math.Decide.{dec_lt}
use Rattle.std.proofs.lemmas.Bool.{eqb-false}
use Rattle.definitions.specs.Lists.{all}
use Rattle.definitions.specs.Job.{TAB, bytes, pack_map, same_bytes, fields, digit, value, natural, natural_to, vertex_field, weight_field, head_line, three}
use Rattle.definitions.specs.Job.{triangle_line, weight_line}
use Rattle.text_model.specs.Numbers.{all-at, plus, minus, weight-plus, weight-minus}
use Rattle.text_model.specs.Positions.{index_of, index_of-at, fields-last, fields-more}

-- ---- a field with a tab in it is no number

natural-all : (bs : List ℕ) (k : ℕ) → natural bs ≡ some k → all digit bs ≡ true
unfolding natural all
natural-all [] k e = cc
natural-all (b ∷ []) k e = go (digit b) (b - 48) e
  where
    go : (x : Bool) (v : ℕ) → cond x (some v) none ≡ some k → x && true ≡ true
    go true v e = refl
    go false v e = cc
natural-all (b ∷ c ∷ bs) k e = go (all digit (b ∷ c ∷ bs)) (not (eqb b 48)) (value 0 (b ∷ c ∷ bs)) e
  where
    go : (x y : Bool) (v : ℕ) → cond (x && y) (some v) none ≡ some k → x ≡ true
    go true y v e = refl
    go false y v e = cc

no_natural : (bs : List ℕ) (i : ℕ) → i < length bs → digit (get_or bs i 0) ≡ false → natural bs ≡ none
no_natural bs i h e = go (natural bs) refl
  where
    go : (o : Option ℕ) → natural bs ≡ o → o ≡ none
    go none p = refl
    go (some k) p = let a = all-at digit bs i (natural-all bs k p) h in cc

no_natural_to : (most : ℕ) (bs : List ℕ) (i : ℕ) → i < length bs → digit (get_or bs i 0) ≡ false → natural_to most bs ≡ none
unfolding natural_to
no_natural_to most bs i h e = rw (no_natural bs i h e, natural_to)

tab_digit : (b : ℕ) → b ≡ TAB → digit b ≡ false
unfolding digit
tab_digit b e = rw e

pub vertex_tab : (bs : List ℕ) → index_of TAB bs < length bs → vertex_field bs ≡ none
unfolding vertex_field
vertex_tab bs h = no_natural_to 65535 bs (index_of TAB bs) h (tab_digit (get_or bs (index_of TAB bs) 0) (index_of-at TAB bs h))

-- a tab at some place, for a weight
weight-at : (bs : List ℕ) (i : ℕ) → i < length bs → get_or bs i 0 ≡ TAB → weight_field bs ≡ none
unfolding plus minus
weight-at [] i h e = absurd (omega arith)
weight-at (b ∷ bs) i h e = go (eqb b 45) refl i h e
  where
    go : (x : Bool) → eqb b 45 ≡ x → (i : ℕ) → i < length (b ∷ bs) → get_or (b ∷ bs) i 0 ≡ TAB → weight_field (b ∷ bs) ≡ none
    go false p i h e = weight-plus b bs (eqb-false b 45 p) ∙ ap plus (no_natural_to 2147483647 (b ∷ bs) i h (tab_digit (get_or (b ∷ bs) i 0) e))
    go true p zero h e = absurd (omega (arith, eqb-true b 45 p))
    go true p (suc i) h e =
        weight-minus b bs (eqb-true b 45 p) ∙ ap minus (no_natural_to 2147483648 bs i (omega arith) (tab_digit (get_or bs i 0) e))

pub weight_tab : (bs : List ℕ) → index_of TAB bs < length bs → weight_field bs ≡ none
weight_tab bs h = weight-at bs (index_of TAB bs) h (index_of-at TAB bs h)

-- ---- the last field of a line: its fields are that one, or the field has a tab in it

module _ {A : Type 0} (layout : List (List ℕ) → Option A) (one : List ℕ → Option A) where
  -- a layout that wants one field more
  pub record Wants : Type 0 where
    pub single : (f : List ℕ) → layout (f ∷ []) ≡ one f
    pub several : (f g : List ℕ) (fs : List (List ℕ)) → layout (f ∷ g ∷ fs) ≡ none
    pub tab : (bs : List ℕ) → index_of TAB bs < length bs → one bs ≡ none

  some_fields : (f bs : List ℕ) → ((f g : List ℕ) (fs : List (List ℕ)) → layout (f ∷ g ∷ fs) ≡ none) → layout (f ∷ fields bs) ≡ none
  some_fields f bs s =
      elim (dec_lt (index_of TAB bs) (length bs)) [
        | yes h ↦ rw (fields-more bs h) (s f (take (index_of TAB bs) bs) (fields (drop (suc (index_of TAB bs)) bs)))
        | no h ↦ rw (fields-last bs (omega arith)) (s f bs [])
      ]

  pub last-field : Wants → (bs : List ℕ) → layout (fields bs) ≡ one bs
  last-field w bs =
      elim (dec_lt (index_of TAB bs) (length bs)) [
        | yes h ↦
            rw (fields-more bs h)
            (some_fields (take (index_of TAB bs) bs) (drop (suc (index_of TAB bs)) bs) w.several ∙ sym (w.tab bs h))
        | no h ↦ rw (fields-last bs (omega arith)) (w.single bs)
      ]

-- ---- the first word of a line

-- A layout that wants a word and then the fields of another. A line with no tab, or with another word, breaks it.
module _ {A : Type 0} (layout inner : List (List ℕ) → Option A) (word : List ℕ) where
  pub record Begins : Type 0 where
    pub alone : (f : List ℕ) → layout (f ∷ []) ≡ none
    pub then : (f : List ℕ) (fs : List (List ℕ)) → layout (f ∷ fs) ≡ cond (same_bytes f word) (inner fs) none

  module _ (b : Begins) (bs : List ℕ) where
    pub no_tab : length bs ≤ index_of TAB bs → layout (fields bs) ≡ none
    no_tab h = rw (fields-last bs h) (b.alone bs)

    pub other_word : index_of TAB bs < length bs → same_bytes (take (index_of TAB bs) bs) word ≡ false → layout (fields bs) ≡ none
    other_word h e = rw (fields-more bs h) (b.then (take (index_of TAB bs) bs) (fields (drop (suc (index_of TAB bs)) bs)) ∙ rw e)

    pub the_word : index_of TAB bs < length bs → same_bytes (take (index_of TAB bs) bs) word ≡ true →
        layout (fields bs) ≡ inner (fields (drop (suc (index_of TAB bs)) bs))
    the_word h e = rw (fields-more bs h) (b.then (take (index_of TAB bs) bs) (fields (drop (suc (index_of TAB bs)) bs)) ∙ rw e)

cond-none : {A : Type 0} (x : Bool) → cond {A = Option A} x none none ≡ none
cond-none true = refl
cond-none false = refl

-- ---- the first line: what follows the fixed bytes is one vertex count

unfoldable pub count_of : List (List ℕ) → Option ℕ
unfolding vertex_field
count_of [] = none
count_of (x ∷ []) = vertex_field x
count_of (x ∷ y ∷ fs) = none

pub count-last : (bs : List ℕ) → count_of (fields bs) ≡ vertex_field bs
unfolding count_of
count-last bs = last-field count_of vertex_field (record { single = λ f. refl; several = λ f g fs. refl; tab = vertex_tab }) bs

pub head_begins : Begins head_line count_of pack_map
unfolding head_line count_of
head_begins = record { alone = λ f. refl; then = go }
  where
    go : (f : List ℕ) (fs : List (List ℕ)) → head_line (f ∷ fs) ≡ cond (same_bytes f pack_map) (count_of fs) none
    go f [] = sym (cond-none (same_bytes f pack_map))
    go f (x ∷ []) = refl
    go f (x ∷ y ∷ fs) = sym (cond-none (same_bytes f pack_map))

-- ---- a weight

unfoldable pub weight_of : List (List ℕ) → Option ℤ
unfolding weight_field
weight_of [] = none
weight_of (x ∷ []) = weight_field x
weight_of (x ∷ y ∷ fs) = none

pub weight-last : (bs : List ℕ) → weight_of (fields bs) ≡ weight_field bs
unfolding weight_of
weight-last bs = last-field weight_of weight_field (record { single = λ f. refl; several = λ f g fs. refl; tab = weight_tab }) bs

pub weight-begins : Begins weight_line weight_of (bytes "w")
unfolding weight_line weight_of
weight-begins = record { alone = λ f. refl; then = go }
  where
    go : (f : List ℕ) (fs : List (List ℕ)) → weight_line (f ∷ fs) ≡ cond (same_bytes f (bytes "w")) (weight_of fs) none
    go f [] = sym (cond-none (same_bytes f (bytes "w")))
    go f (x ∷ []) = refl
    go f (x ∷ y ∷ fs) = sym (cond-none (same_bytes f (bytes "w")))

-- ---- a triangle: three vertices, two, and the last

unfoldable pub corners_of : List (List ℕ) → Option (List ℕ)
unfolding vertex_field three
corners_of [] = none
corners_of (x ∷ []) = none
corners_of (x ∷ y ∷ []) = none
corners_of (x ∷ y ∷ z ∷ []) = three (vertex_field x) (vertex_field y) (vertex_field z)
corners_of (x ∷ y ∷ z ∷ u ∷ fs) = none

unfoldable pub pair_of : ℕ → List (List ℕ) → Option (List ℕ)
unfolding vertex_field three
pair_of a [] = none
pair_of a (y ∷ []) = none
pair_of a (y ∷ z ∷ []) = three (some a) (vertex_field y) (vertex_field z)
pair_of a (y ∷ z ∷ u ∷ fs) = none

unfoldable pub last_of : ℕ → ℕ → List (List ℕ) → Option (List ℕ)
unfolding vertex_field three
last_of a b [] = none
last_of a b (z ∷ []) = three (some a) (some b) (vertex_field z)
last_of a b (z ∷ u ∷ fs) = none

pub triangle_begins : Begins triangle_line corners_of (bytes "t")
unfolding triangle_line corners_of
triangle_begins = record { alone = λ f. refl; then = go }
  where
    go : (f : List ℕ) (fs : List (List ℕ)) → triangle_line (f ∷ fs) ≡ cond (same_bytes f (bytes "t")) (corners_of fs) none
    go f [] = sym (cond-none (same_bytes f (bytes "t")))
    go f (x ∷ []) = sym (cond-none (same_bytes f (bytes "t")))
    go f (x ∷ y ∷ []) = sym (cond-none (same_bytes f (bytes "t")))
    go f (x ∷ y ∷ z ∷ []) = refl
    go f (x ∷ y ∷ z ∷ u ∷ fs) = sym (cond-none (same_bytes f (bytes "t")))

-- a vertex, and then the fields of another layout: one that breaks where the vertex does
module _ (layout : List (List ℕ) → Option (List ℕ)) (inner : ℕ → List (List ℕ) → Option (List ℕ)) where
  pub record Takes : Type 0 where
    pub alone : (f : List ℕ) → layout (f ∷ []) ≡ none
    pub broken : (f : List ℕ) (fs : List (List ℕ)) → vertex_field f ≡ none → layout (f ∷ fs) ≡ none
    pub then : (f : List ℕ) (fs : List (List ℕ)) (a : ℕ) → vertex_field f ≡ some a → layout (f ∷ fs) ≡ inner a fs

  module _ (t : Takes) (bs : List ℕ) where
    pub take_alone : length bs ≤ index_of TAB bs → layout (fields bs) ≡ none
    take_alone h = rw (fields-last bs h) (t.alone bs)

    pub take_broken : index_of TAB bs < length bs → vertex_field (take (index_of TAB bs) bs) ≡ none → layout (fields bs) ≡ none
    take_broken h e = rw (fields-more bs h) (t.broken (take (index_of TAB bs) bs) (fields (drop (suc (index_of TAB bs)) bs)) e)

    pub take_vertex : (a : ℕ) → index_of TAB bs < length bs → vertex_field (take (index_of TAB bs) bs) ≡ some a
        → layout (fields bs) ≡ inner a (fields (drop (suc (index_of TAB bs)) bs))
    take_vertex a h e = rw (fields-more bs h) (t.then (take (index_of TAB bs) bs) (fields (drop (suc (index_of TAB bs)) bs)) a e)

pub corners-take : Takes corners_of pair_of
unfolding corners_of pair_of
corners-take = record { alone = λ f. refl; broken = bad; then = good }
  where
    bad : (f : List ℕ) (fs : List (List ℕ)) → vertex_field f ≡ none → corners_of (f ∷ fs) ≡ none
    bad f [] e = refl
    bad f (y ∷ []) e = refl
    bad f (y ∷ z ∷ []) e = rw e
    bad f (y ∷ z ∷ u ∷ fs) e = refl

    good : (f : List ℕ) (fs : List (List ℕ)) (a : ℕ) → vertex_field f ≡ some a → corners_of (f ∷ fs) ≡ pair_of a fs
    good f [] a e = refl
    good f (y ∷ []) a e = refl
    good f (y ∷ z ∷ []) a e = rw e
    good f (y ∷ z ∷ u ∷ fs) a e = refl

pub pair-take : (a : ℕ) → Takes (pair_of a) (last_of a)
unfolding pair_of last_of
pair-take a = record { alone = λ f. refl; broken = bad; then = good }
  where
    bad : (f : List ℕ) (fs : List (List ℕ)) → vertex_field f ≡ none → pair_of a (f ∷ fs) ≡ none
    bad f [] e = refl
    bad f (z ∷ []) e = rw e
    bad f (z ∷ u ∷ fs) e = refl

    good : (f : List ℕ) (fs : List (List ℕ)) (b : ℕ) → vertex_field f ≡ some b → pair_of a (f ∷ fs) ≡ last_of a b fs
    good f [] b e = refl
    good f (z ∷ []) b e = rw e
    good f (z ∷ u ∷ fs) b e = refl

pub last-last : (a b : ℕ) (bs : List ℕ) → last_of a b (fields bs) ≡ three (some a) (some b) (vertex_field bs)
unfolding last_of three
last-last a b bs =
    last-field (last_of a b) (λ z. three (some a) (some b) (vertex_field z))
    (record { single = λ f. refl; several = λ f g fs. refl; tab = λ z h. rw (vertex_tab z h) }) bs
