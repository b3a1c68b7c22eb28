-- The first number that has a property, paths put together and turned round, and breadth-first distances in a finite graph. Assumes nothing.
use Rattle.std.specs.Prelude.{ℕ, zero, suc, ◌+◌, ◌≤◌, ◌<◌, ◌≡◌, refl, ◌⊎◌}
use Rattle.std.proofs.Common.{sym, ◌∙◌, inl, inr, arith}
use Rattle.std.proofs.Math.Decide.{ℕ_discrete, dec_le}
use Rattle.laws.specs.Chain.{Chain, stop, step}

module _ (P : ℕ → Type 0) where
  -- k is the first number with P
  pub record Earliest (k : ℕ) : Type 0 where
    pub has : P k
    pub none : (i : ℕ) → i < k → P i → ⊥

  -- the first number below n with P, or none is there
  pub earliest : ((x : ℕ) → Dec (P x)) → (n : ℕ) → ((k : ℕ) × (k < n) × Earliest k) ⊎ ((i : ℕ) → i < n → P i → ⊥)
  earliest p zero = inr (λ i h. absurd (omega arith))
  earliest p (suc n) =
      elim (earliest p n) [
        | inl t ↦ inl (t.0, omega (arith, t.1), t.2)
        | inr a ↦ elim (p n) [
          | yes h ↦ inl (n, omega arith, record { has = h; none = a })
          | no b ↦ inr (λ i l h. elim (ℕ_discrete i n) [ yes e ↦ b (rw e at h) | no e ↦ a i (omega arith) h ])
        ]
      ]

  -- the first number with P, where some number has it
  pub first_with : ((x : ℕ) → Dec (P x)) → (n : ℕ) → P n → (k : ℕ) × (k ≤ n) × Earliest k
  first_with p n h = elim (earliest p (suc n)) [ inl t ↦ (t.0, omega (arith, t.1), t.2) | inr a ↦ absurd (a n (omega arith) h) ]

  -- some number below n has P, or none has
  pub below? : ((x : ℕ) → Dec (P x)) → (n : ℕ) → Dec ((k : ℕ) × (k < n) × P k)
  below? p n = elim (earliest p n) [ inl t ↦ yes (t.0, t.1, t.2.has) | inr a ↦ no (λ t. a t.0 t.1 t.2) ]

-- a bound of finitely many numbers
pub highest : (f : ℕ → ℕ) (n : ℕ) → (m : ℕ) × ((x : ℕ) → x < n → f x ≤ m)
highest f zero = (0, λ x h. absurd (omega arith))
highest f (suc n) =
    let t = highest f n in
    (t.0 + f n, λ x h. elim (ℕ_discrete x n) [ yes e ↦ rw e (omega arith) | no e ↦ omega (arith, t.1 x (omega arith)) ])

-- two paths one after the other, and a path the other way round where each good arc has a good arc back
pub chain_append : {Good : ℕ → Type 0} {src tgt : ℕ → ℕ} {y x z : ℕ} → Chain Good src tgt y x → Chain Good src tgt z y →
    Chain Good src tgt z x
chain_append (stop e) c = rw e c
chain_append (step d g s r) c = step d g s (chain_append r c)

module _ {Good : ℕ → Type 0} {src tgt : ℕ → ℕ} (back : ℕ → ℕ) (good : (d : ℕ) → Good d → Good (back d)) (from : (d : ℕ) → Good d →
    src (back d) ≡ tgt d)
    (to : (d : ℕ) → Good d → tgt (back d) ≡ src d) where
  pub chain_reverse : {y x : ℕ} → Chain Good src tgt y x → Chain Good src tgt x y
  chain_reverse (stop e) = stop (sym e)
  chain_reverse (step d g s c) = chain_append (chain_reverse c) (step (back d) (good d g) (from d g) (stop (to d g ∙ s)))

module _ (Good Root : ℕ → Type 0) (src tgt : ℕ → ℕ) where
  -- For each node that is no root, an arc to a node of smaller distance.
  pub record Forest : Type 0 where
    pub dist : ℕ → ℕ
    pub par : ℕ → ℕ
    pub ok : (x : ℕ) → (Root x → ⊥) → Good (par x)
    pub from : (x : ℕ) → (Root x → ⊥) → src (par x) ≡ x
    pub down : (x : ℕ) → (Root x → ⊥) → dist (tgt (par x)) < dist x

  module _ (M : ℕ) (root? : (x : ℕ) → Dec (Root x)) (good? : (d : ℕ) → Dec (Good d)) (arc : (d : ℕ) → Good d → d < M) where
    -- a root is reached from x by at most k arcs
    abbrev Near : ℕ → ℕ → Type 0
    Near zero x = Root x
    Near (suc k) x = Near k x ⊎ ((d : ℕ) × (d < M) × (Good d × (src d ≡ x) × Near k (tgt d)))

    near? : (k x : ℕ) → Dec (Near k x)
    near? zero x = root? x
    near? (suc k) x =
        elim (near? k x) [
          | yes h ↦ yes (inl h)
          | no a ↦ elim (below? (λ d. Good d × (src d ≡ x) × Near k (tgt d)) (λ d. both d (good? d) (ℕ_discrete (src d) x) (near? k (tgt d))) M) [
            | yes t ↦ yes (inr t)
            | no b ↦ no (λ s. elim s [ inl h ↦ a h | inr t ↦ b t ])
          ]
        ]
      where
        both : (d : ℕ) → Dec (Good d) → Dec (src d ≡ x) → Dec (Near k (tgt d)) → Dec (Good d × (src d ≡ x) × Near k (tgt d))
        both d (no a) s t = no (λ h. a h.0)
        both d (yes g) (no a) t = no (λ h. a h.1)
        both d (yes g) (yes e) (no a) = no (λ h. a h.2)
        both d (yes g) (yes e) (yes r) = yes (g, e, r)

    near : {y x : ℕ} → Root y → Chain Good src tgt y x → (k : ℕ) × Near k x
    near r (stop e) = (0, rw e r)
    near r (step d g s c) = let t = near r c in (suc t.0, inr (d, arc d g, (g, s, t.1)))

    module _ (reach : (x : ℕ) → (y : ℕ) × Root y × Chain Good src tgt y x) where
      place : (x : ℕ) → (k : ℕ) × Earliest (λ (i : ℕ). Near i x) k
      place x =
          let t = near (reach x).1 (reach x).2 in
          let f = first_with (λ (i : ℕ). Near i x) (λ i. near? i x) t.0 t.1 in
          (f.0, f.2)

      later : (x k : ℕ) → Near k x → (place x).0 ≤ k
      later x k h = elim (dec_le (place x).0 k) [ yes l ↦ l | no l ↦ absurd ((place x).1.none k (omega arith) h) ]

      up : (x k : ℕ) → (place x).0 ≡ k → Near k x → ((i : ℕ) → i < k → Near i x → ⊥) → (Root x → ⊥)
          → (d : ℕ) × Good d × (src d ≡ x) × ((place (tgt d)).0 < (place x).0)
      up x zero e h n r = absurd (r h)
      up x (suc k) e (inl h) n r = absurd (n k (omega arith) h)
      up x (suc k) e (inr t) n r = (t.0, t.2.0, t.2.1, omega (arith, later (tgt t.0) k t.2.2))

      parent : (x : ℕ) → (d : ℕ) × ((Root x → ⊥) → Good d × (src d ≡ x) × ((place (tgt d)).0 < (place x).0))
      parent x =
          elim (root? x) [
            | yes r ↦ (0, λ n. absurd (n r))
            | no n ↦
                let u = up x (place x).0 refl (place x).1.has (place x).1.none n in
                (u.0, λ m. (u.1, u.2, u.3))
          ]

      -- Where every node reaches a root there is a forest.
      pub forest : Forest
      forest =
          record {
            dist = λ x. (place x).0;
            par = λ x. (parent x).0;
            ok = λ x n. ((parent x).1 n).0;
            from = λ x n. ((parent x).1 n).1;
            down = λ x n. ((parent x).1 n).2;
          }
