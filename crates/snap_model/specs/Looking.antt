-- Looking at the shares of a list in order, which takes no scale: the first that does not pass is what snapping the list is refused with. Assumes nothing.
use Rattle.std.specs.Prelude.{ℕ, zero, suc, ◌*◌, ◌≤◌, ◌<◌, ◌≡◌, true, false, cond, List, [], ◌∷◌, ℤ, Float, length, get_or, drop}
use Rattle.std.proofs.Common.{arith, ap, ◌∙◌, drop_of_length-le, drop-cons}
use Rattle.std.proofs.Math.Path.{refl}
use Rattle.std.proofs.Math.Logic.{inl, inr}
use Rattle.std.specs.Float.{nan}
use Rattle.laws.specs.Lists.{tested}
use Rattle.definitions.specs.Answers.{Answer, done, refused}
use Rattle.definitions.specs.DrawnPoints.{whole, snap, snap_all}
use Rattle.snap_model.specs.Share.{endless, inside, snap-endless, snap_far, passing_whole, refusal}
use Rattle.snap_model.specs.Points.{
  first-not_finite,
  first-beyond,
  second_not_finite,
  second_beyond,
  both-whole,
  settled,
  settled-after,
  after,
  more,
  not-refused,
}

-- what they are answered: the refusal of the first that does not pass, or done
unfoldable pub shares_answer : List Float → Answer (Unit {0})
unfolding inside refusal
shares_answer [] = done tt
shares_answer (x ∷ xs) = cond (inside x) (shares_answer xs) (refused (refusal x))

-- ---- snapping answers it, at every scale

module _ (r : ℕ) (x y : Float) where
  first_stops : inside x ≡ false → snap_all r (x ∷ y ∷ []) ≡ refused (refusal x)
  unfolding refusal
  first_stops h =
      elim (tested (endless x)) [
        | inl e ↦ rw e (first-not_finite r x y (snap-endless r x e))
        | inr e ↦ rw e (first-beyond r x y x (snap_far r x e h))
      ]

  second_stops : (kx : ℤ) → snap r x ≡ whole kx → inside y ≡ false → snap_all r (x ∷ y ∷ []) ≡ refused (refusal y)
  unfolding refusal
  second_stops kx f h =
      elim (tested (endless y)) [
        | inl e ↦ rw e (second_not_finite r x y kx f (snap-endless r y e))
        | inr e ↦ rw e (second_beyond r x y kx f y (snap_far r y e h))
      ]

-- a point more
point-more : (r : ℕ) (x y : Float) (shares : List Float) → settled (snap_all r shares) ≡ shares_answer shares
    → settled (after (snap_all r (x ∷ y ∷ [])) (snap_all r shares)) ≡ shares_answer (x ∷ y ∷ shares)
unfolding shares_answer
point-more r x y shares ih =
    elim (tested (inside x)) [
      | inr e ↦ rw (e, first_stops r x y e)
      | inl e ↦
          let k = passing_whole r x e in
          elim (tested (inside y)) [
            | inr f ↦ rw (e, f, second_stops r x y k.0 k.1 f)
            | inl f ↦
                let j = passing_whole r y f in
                let fine = ap settled (both-whole r x y k.0 k.1 j.0 j.1) in
                rw (e, f) (settled-after (snap_all r (x ∷ y ∷ [])) (snap_all r shares) fine ∙ ih)
          ]
    ]

pub shares_answer_lem : (r n : ℕ) (shares : List Float) → length shares ≡ 2 * n → settled (snap_all r shares) ≡ shares_answer shares
shares_answer_lem r n [] l = unfold snap_all shares_answer in refl
shares_answer_lem r n (x ∷ []) l = absurd (omega arith)
shares_answer_lem r zero (x ∷ y ∷ shares) l = absurd (omega arith)
shares_answer_lem r (suc n) (x ∷ y ∷ shares) l = ap settled (more r x y shares) ∙ point-more r x y shares (shares_answer_lem r n shares (omega arith))

-- ---- share by share: i of them have passed

abbrev pub Passed : List Float → ℕ → Type 0
Passed shares i = shares_answer shares ≡ shares_answer (drop i shares)

module _ (shares : List Float) (i : ℕ) (p : Passed shares i) where
  module _ (h : i < length shares) where
    next : shares_answer shares ≡ cond (inside (get_or shares i nan)) (shares_answer (drop (suc i) shares)) (refused (refusal (get_or shares i nan)))
    next = p ∙ ap shares_answer (drop-cons shares i nan h) ∙ (unfold shares_answer in refl)

    pub passed_stop : inside (get_or shares i nan) ≡ false → shares_answer shares ≡ refused (refusal (get_or shares i nan))
    passed_stop e = next ∙ rw e

    pub passed_more : inside (get_or shares i nan) ≡ true → Passed shares (suc i)
    passed_more e = next ∙ rw e

  pub passed_all : length shares ≤ i → shares_answer shares ≡ done tt
  passed_all h = p ∙ ap shares_answer (drop_of_length-le shares h) ∙ (unfold shares_answer in refl)

passes : (x : Float) (shares : List Float) → shares_answer (x ∷ shares) ≡ done tt → (inside x ≡ true) × (shares_answer shares ≡ done tt)
unfolding shares_answer
passes x shares h =
    elim (tested (inside x)) [ inl e ↦ (e, rw e at h) | inr e ↦ absurd (not-refused (refusal x) (rw e at h)) ]

-- where none is refused each passes
pub each_passes : (shares : List Float) (i : ℕ) → shares_answer shares ≡ done tt → i < length shares → inside (get_or shares i nan) ≡ true
each_passes [] i h l = absurd (omega arith)
each_passes (x ∷ shares) zero h l = (passes x shares h).0
each_passes (x ∷ shares) (suc i) h l = each_passes shares i (passes x shares h).1 (omega arith)
