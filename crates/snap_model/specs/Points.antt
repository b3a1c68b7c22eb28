-- Snapping of points in order: a point by its two shares, a list by its first point. Assumes nothing.
use Rattle.std.specs.Prelude.{ℕ, suc, ◌+◌, ◌*◌, ◌^◌, ◌≤◌, ◌<◌, ◌≡◌, refl, ℤ, pos, ◌-ℤ◌, Float, length, get_or, drop}
use Rattle.std.proofs.Common.{arith, ◌∙◌, drop_of_length-le, length-append, drop-cons, take_at, take_all, length-take-le}
use Rattle.std.proofs.Math.Path.{sym, ap}
use mathlib.Core.List.{List, [], ◌∷◌, ◌++◌, append-nil, append_assoc}
use Rattle.std.specs.Float.{nan}
use Rattle.std.proofs.Math.ListN.{take}
use Rattle.std.proofs.lemmas.List.Edits.{sets, sets-eq}
use Rattle.definitions.specs.Answers.{Refusal, numbered, share_outside, Answer, done, refused}
use Rattle.definitions.specs.DrawnPoints.{Snap, whole, not_finite, beyond, snap, snap_all}

-- what two shares' answers and the answer of the points after them come to
unfoldable point : ℕ → Snap → Snap → Answer (List ℤ) → Answer (List ℤ)
point r u v w =
    elim u [
      | not_finite ↦ refused (numbered 15)
      | beyond share ↦ refused (share_outside share)
      | whole kx ↦
          elim v [
            | not_finite ↦ refused (numbered 15)
            | beyond share ↦ refused (share_outside share)
            | whole ky ↦
                elim w [
                  | refused why ↦ refused why
                  | done bs ↦ done (kx ∷ ky ∷ (pos (2 ^ r) -ℤ kx -ℤ ky) ∷ bs)
                ]
          ]
    ]

snap_all-more : (r : ℕ) (x y : Float) (rest : List Float) → snap_all r (x ∷ y ∷ rest) ≡ point r (snap r x) (snap r y) (snap_all r rest)
unfolding point snap_all
snap_all-more r x y rest = refl

-- ---- one point

-- its answer, by the answers of its shares
module _ (r : ℕ) (x y : Float) where
  one : snap_all r (x ∷ y ∷ []) ≡ point r (snap r x) (snap r y) (done [])
  one = snap_all-more r x y [] ∙ ap (point r (snap r x) (snap r y)) (unfold snap_all in refl)

  pub first-not_finite : snap r x ≡ not_finite → snap_all r (x ∷ y ∷ []) ≡ refused (numbered 15)
  first-not_finite e = rw (one, e) (unfold point in refl)

  pub first-beyond : (share : Float) → snap r x ≡ beyond share → snap_all r (x ∷ y ∷ []) ≡ refused (share_outside share)
  first-beyond share e = rw (one, e) (unfold point in refl)

  module _ (kx : ℤ) (e : snap r x ≡ whole kx) where
    pub second_not_finite : snap r y ≡ not_finite → snap_all r (x ∷ y ∷ []) ≡ refused (numbered 15)
    second_not_finite f = rw (one, e, f) (unfold point in refl)

    pub second_beyond : (share : Float) → snap r y ≡ beyond share → snap_all r (x ∷ y ∷ []) ≡ refused (share_outside share)
    second_beyond share f = rw (one, e, f) (unfold point in refl)

    pub both-whole : (ky : ℤ) → snap r y ≡ whole ky →
        snap_all r (x ∷ y ∷ []) ≡ done (kx ∷ ky ∷ (pos (2 ^ r) -ℤ kx -ℤ ky) ∷ [])
    both-whole ky f = rw (one, e, f) (unfold point in refl)

-- ---- a point and those after it

-- whether an answer is a refusal, and which; and the coordinates of one that is not
abbrev pub settled : Answer (List ℤ) → Answer (Unit {0})
settled (done bs) = done tt
settled (refused why) = refused why

abbrev pub new : Answer (List ℤ) → List ℤ
new (done bs) = bs
new (refused why) = []

-- The first point is refused: so is the list. It is not: the list is refused as the rest is, and its coordinates come before the others.
abbrev pub after : Answer (List ℤ) → Answer (List ℤ) → Answer (List ℤ)
after (refused why) w = refused why
after (done ks) (refused why) = refused why
after (done ks) (done bs) = done (ks ++ bs)

point-after : (r : ℕ) (u v : Snap) (w : Answer (List ℤ)) → point r u v w ≡ after (point r u v (done [])) w
unfolding point
point-after r not_finite v w = refl
point-after r (beyond share) v w = refl
point-after r (whole kx) not_finite w = refl
point-after r (whole kx) (beyond share) w = refl
point-after r (whole kx) (whole ky) (refused why) = refl
point-after r (whole kx) (whole ky) (done bs) = refl

-- a list by its first point
pub more : (r : ℕ) (x y : Float) (rest : List Float) → snap_all r (x ∷ y ∷ rest) ≡ after (snap_all r (x ∷ y ∷ [])) (snap_all r rest)
more r x y rest =
    snap_all-more r x y rest
    ∙ point-after r (snap r x) (snap r y) (snap_all r rest)
    ∙ ap (λ (a : Answer (List ℤ)). after a (snap_all r rest)) (sym (one r x y))

pub not-refused : (why : Refusal) → ◌≡◌ {A = Answer (Unit {0})} (refused why) (done tt) → ⊥
not-refused why e = let z : ◌≡◌ {A = ℕ} 0 1 = cc in omega arith

pub settled-after : (a w : Answer (List ℤ)) → settled a ≡ done tt → settled (after a w) ≡ settled w
settled-after (done ks) (done bs) e = refl
settled-after (done ks) (refused why) e = refl
settled-after (refused why) w e = absurd (not-refused why e)

-- ---- points in turn: i of them are behind, 2 * i shares and 3 * i coordinates

-- two shares to a point
pub point_at : (shares : List Float) (n i : ℕ) → length shares ≡ 2 * n → i < n
    → drop (2 * i) shares ≡ get_or shares (2 * i) nan ∷ get_or shares (2 * i + 1) nan ∷ drop (2 * (i + 1)) shares
point_at shares n i l h =
    let a : suc (2 * i) ≡ 2 * i + 1 = omega arith in
    let b : suc (2 * i + 1) ≡ 2 * (i + 1) = omega arith in
    drop-cons shares (2 * i) nan (omega arith)
    ∙ ap (λ (j : ℕ). get_or shares (2 * i) nan ∷ drop j shares) a
    ∙ ap (λ (xs : List Float). get_or shares (2 * i) nan ∷ xs) (drop-cons shares (2 * i + 1) nan (omega arith))
    ∙ ap (λ (j : ℕ). get_or shares (2 * i) nan ∷ get_or shares (2 * i + 1) nan ∷ drop j shares) b

drop_all : (shares : List Float) (n : ℕ) → length shares ≡ 2 * n → drop (2 * n) shares ≡ []
drop_all shares n l = let h : length shares ≤ 2 * n = omega arith in drop_of_length-le shares h

module _ (r : ℕ) (shares : List Float) (n i : ℕ) (l : length shares ≡ 2 * n) (h : i < n) where
  abbrev At : Answer (List ℤ)
  At = snap_all r (get_or shares (2 * i) nan ∷ get_or shares (2 * i + 1) nan ∷ [])

  next : snap_all r (drop (2 * i) shares) ≡ after At (snap_all r (drop (2 * (i + 1)) shares))
  next = ap (snap_all r) (point_at shares n i l h) ∙ more r (get_or shares (2 * i) nan) (get_or shares (2 * i + 1) nan) (drop (2 * (i + 1)) shares)

-- Writing: what is left is not refused, and its coordinates belong behind those that are written.
pub record Filled (r : ℕ) (shares : List Float) (i : ℕ) (bs : List ℤ) : Type 0 where
  pub fine : settled (snap_all r (drop (2 * i) shares)) ≡ done tt
  pub parts : take (3 * i) bs ++ new (snap_all r (drop (2 * i) shares)) ≡ new (snap_all r shares)

-- nothing is written yet,
pub filled_none : (r : ℕ) (shares : List Float) (bs : List ℤ) → settled (snap_all r shares) ≡ done tt → Filled r shares 0 bs
filled_none r shares bs h = record { fine = h; parts = refl }

-- or all is.
pub filled_all : (r : ℕ) (shares : List Float) (n : ℕ) (bs : List ℤ) → length shares ≡ 2 * n → length bs ≡ 3 * n → Filled r shares n bs
    → bs ≡ new (snap_all r shares)
filled_all r shares n bs l m f =
    let whole-list : length bs ≤ 3 * n = omega arith in
    let nothing : new (snap_all r (drop (2 * n) shares)) ≡ [] = ap (λ (xs : List Float). new (snap_all r xs)) (drop_all shares n l)
    ∙ (unfold snap_all in refl) in
    sym (append-nil bs)
    ∙ ap (λ (xs : List ℤ). xs ++ []) (sym (take_all (3 * n) bs whole-list))
    ∙ ap (λ (xs : List ℤ). take (3 * n) bs ++ xs) (sym nothing)
    ∙ f.parts

-- a point and the rest, none of them refused
split : (a w : Answer (List ℤ)) → settled (after a w) ≡ done tt → (settled a ≡ done tt) × (settled w ≡ done tt)
    × (new (after a w) ≡ new a ++ new w)
split (done ks) (done bs) e = (refl, refl, refl)
split (done ks) (refused why) e = absurd (not-refused why e)
split (refused why) w e = absurd (not-refused why e)

-- a point that is not refused has three coordinates
three : (r : ℕ) (u v : Snap) → settled (point r u v (done [])) ≡ done tt → length (new (point r u v (done []))) ≡ 3
unfolding point
three r not_finite v e = absurd (not-refused (numbered 15) e)
three r (beyond share) v e = absurd (not-refused (share_outside share) e)
three r (whole kx) not_finite e = absurd (not-refused (numbered 15) e)
three r (whole kx) (beyond share) e = absurd (not-refused (share_outside share) e)
three r (whole kx) (whole ky) e = refl

-- a run of stores, up to its end
take_sets : (bs ks : List ℤ) (i j : ℕ) → i + length ks ≡ j → j ≤ length bs → take j (sets bs i ks) ≡ take i bs ++ ks
take_sets bs ks i j e h =
    let l : i + length ks ≤ length bs = omega arith in
    let m : length (take i bs ++ ks) ≡ j = length-append (take i bs) ks ∙ ap (λ (k : ℕ). k + length ks) (length-take-le i bs (omega arith)) ∙ e in
    ap (take j) (sets-eq ks bs i l) ∙ take_at (take i bs ++ ks) (drop (i + length ks) bs) j m

-- In between, a point's three coordinates are written from 3 * i on.
pub filled_more : (r : ℕ) (shares : List Float) (n i : ℕ) (bs : List ℤ) → length shares ≡ 2 * n → length bs ≡ 3 * n → i < n →
    Filled r shares i bs
    → Filled r shares (i + 1) (sets bs (3 * i) (new (snap_all r (get_or shares (2 * i) nan ∷ get_or shares (2 * i + 1) nan ∷ []))))
filled_more r shares n i bs l m h f =
    let x = get_or shares (2 * i) nan in
    let y = get_or shares (2 * i + 1) nan in
    let a = snap_all r (x ∷ y ∷ []) in
    let w = snap_all r (drop (2 * (i + 1)) shares) in
    let all : snap_all r (drop (2 * i) shares) ≡ after a w = next r shares n i l h in
    let z = split a w (ap settled (sym all) ∙ f.fine) in
    let size : length (new a) ≡ 3 =
    ap (λ (p : Answer (List ℤ)). length (new p)) (one r x y)
    ∙ three r (snap r x) (snap r y) (ap settled (sym (one r x y)) ∙ z.0) in
    record {
      fine = z.1;
      parts =
          ap (λ (xs : List ℤ). xs ++ new w) (take_sets bs (new a) (3 * i) (3 * (i + 1)) (omega arith) (omega arith))
          ∙ append_assoc (take (3 * i) bs) (new a) (new w)
          ∙ ap (λ (xs : List ℤ). take (3 * i) bs ++ xs) (sym z.2 ∙ ap new (sym all))
          ∙ f.parts;
    }
