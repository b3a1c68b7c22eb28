-- A list that has every member of a list without repeats, and is no longer, has no repeats itself. And what holds of all members. Assumes nothing.
use Rattle.std.specs.Prelude.{◌≤◌, ◌≡◌, refl, List, [], ◌∷◌, ◌++◌, length}
use Rattle.std.proofs.Common.{inl, inr, append_assoc, arith, length-append}
use mathlib.Core.List.Memᴰ
use Rattle.laws.specs.Every.{Every}
use Rattle.laws.specs.Lists.{◌∈◌}
use Rattle.laws.specs.Counting.{Distinct, nil, cons, distinct_within}

-- what holds of every member, from what does
pub every_map : {A : Type 0} (P Q : A → Type 0) → ((x : A) → P x → Q x) → (xs : List A) → Every P xs → Every Q xs
every_map P Q h [] k = tt
every_map P Q h (x ∷ xs) k = (h x k.0, every_map P Q h xs k.1)

pub in_every : {A : Type 0} (P : A → Type 0) (xs : List A) → ((x : A) → x ∈ xs → P x) → Every P xs
in_every P [] h = tt
in_every P (x ∷ xs) h = (h x (Memᴰ.head refl), in_every P xs (λ y m. h y (Memᴰ.tail m)))

module _ {A : Type 0} {xs : List A} (d : Distinct xs) where
  -- the part of the list from some place on
  covers_from : (ls bs : List A) → ((x : A) → x ∈ xs → x ∈ ls ++ bs) → length (ls ++ bs) ≤ length xs → Distinct bs
  covers_from ls [] h l = nil
  covers_from ls (b ∷ bs) h l =
      let e : (ls ++ (b ∷ [])) ++ bs ≡ ls ++ b ∷ bs = append_assoc ls (b ∷ []) bs in
      let rest : (x : A) → x ∈ xs → b ∈ bs → x ∈ ls ++ bs =
      λ x m k.
      elim (Memᴰ.append_cases ls (h x m)) [
        | inl a ↦ Memᴰ.append_left bs a
        | inr q ↦ elim (Memᴰ.cases_cons q) [ inl p ↦ Memᴰ.append_right ls (Memᴰ.cast p k) | inr r ↦ Memᴰ.append_right ls r ]
      ] in
      cons
      (λ k. absurd (omega (arith, distinct_within d (ls ++ bs) (λ x m. rest x m k), length-append ls bs, length-append ls (b ∷ bs))))
      (covers_from (ls ++ (b ∷ [])) bs (λ x m. rw e (h x m)) (rw e l))

  pub covers_distinct : (ys : List A) → ((x : A) → x ∈ xs → x ∈ ys) → length ys ≤ length xs → Distinct ys
  covers_distinct ys h l = covers_from [] ys h l
