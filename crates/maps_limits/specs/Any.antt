-- std's `any`, of which calls of the method tell, and the definitions' `any`. Assumes nothing.
use Rattle.std.specs.Prelude.{ℕ, suc, ◌+◌, ◌<◌, ◌≡◌, refl, Bool, ◌||◌, List, [], ◌∷◌, length, get_or}
use Rattle.std.proofs.Math.Path.{ap}
use Rattle.std.proofs.Common.{◌∙◌, arith}
use Rattle.std.specs.List.{list_any, range_with_len}
use Rattle.std.proofs.lemmas.List.FromFn.{length-range_with_len, get_or-range_with_len}
use Rattle.definitions.specs.Lists.{any, range, upto}

-- std's word and the definitions'
pub any_is : {X : Type 0} (p : X → Bool) (xs : List X) → list_any p xs ≡ any p xs
unfolding any
any_is p [] = refl
any_is p (x ∷ xs) = ap (λ t. p x || t) (any_is p xs)

any-range : {X : Type 0} (p : X → Bool) (q : ℕ → Bool) (d : X) (xs : List X) (from : ℕ) → ((k : ℕ) → k < length xs → p (get_or xs k d) ≡ q (from + k)) →
    list_any p xs ≡ any q (range from (length xs))
unfolding any range
any-range p q d [] from h = refl
any-range p q d (x ∷ xs) from h =
    let e : p x ≡ q from = h 0 (omega arith) ∙ ap q (omega arith) in
    let rest = any-range p q d xs (suc from) (λ k l. h (suc k) (omega (arith, l)) ∙ ap q (omega arith)) in
    rw (e, rest)

-- the same of a list of n, where q tells of its places
pub any-at : {X : Type 0} (p : X → Bool) (q : ℕ → Bool) (d : X) (xs : List X) (n : ℕ) → length xs ≡ n → ((k : ℕ) → k < n → p (get_or xs k d) ≡ q k) →
    list_any p xs ≡ any q (upto n)
unfolding upto
any-at p q d xs n e h = any-range p q d xs 0 (λ k l. h k (omega (arith, l)) ∙ ap q (omega arith)) ∙ ap (λ m. any q (range 0 m)) e

-- the same of 0, 1, .., n - 1
pub any_upto : (p : ℕ → Bool) (n : ℕ) → list_any p (range_with_len 0 n) ≡ any p (upto n)
any_upto p n =
    any-at p p 0 (range_with_len 0 n) n (length-range_with_len 0 n) (λ k l. ap p (omega (arith, get_or-range_with_len 0 n k 0 l)))
