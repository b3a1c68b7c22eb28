-- A property of every member of a list, by recursion on the list. Assumes nothing.
use Rattle.std.proofs.Common.{sym, subst}
use mathlib.Core.List.{List, [], ◌∷◌, ◌++◌, Memᴰ}

abbrev pub Every : {A : Type 0} → (A → Type 0) → List A → Type 0
Every P [] = Unit {0}
Every P (x ∷ xs) = P x × Every P xs

module _ {A : Type 0} (P : A → Type 0) where
  -- of two lists together
  pub every_append : (xs ys : List A) → Every P xs → Every P ys → Every P (xs ++ ys)
  every_append [] ys p q = q
  every_append (x ∷ xs) ys p q = (p.0, every_append xs ys p.1 q)

  pub every_split : (xs ys : List A) → Every P (xs ++ ys) → Every P xs × Every P ys
  every_split [] ys p = (tt, p)
  every_split (x ∷ xs) ys p = let r = every_split xs ys p.1 in ((p.0, r.0), r.1)

  -- of one member
  pub every_in : {a : A} {xs : List A} → Every P xs → Memᴰ a xs → P a
  every_in p (Memᴰ.head e) = subst P (sym e) p.0
  every_in p (Memᴰ.tail m) = every_in p.1 m
