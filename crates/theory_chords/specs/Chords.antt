-- A frontier has a vertex, other than its two ends, that has no chord. Assumes nothing.
use Rattle.std.specs.Prelude.{ℕ, zero, suc, ◌+◌, ◌*◌, ◌≤◌, ◌<◌, ◌≡◌, ◌≢◌}
use Rattle.std.proofs.Common.{sym, ◌∙◌, arith}
use Rattle.std.proofs.Math.Decide.{ℕ_discrete, dec_le}
use Rattle.definitions.specs.Mesh.{next}
use Rattle.laws.specs.Forest.{below?}
use Rattle.theory_sphere.specs.Sphere.{Sphere}
use Rattle.theory_sphere.specs.Rotations.{tip-opp}
use Rattle.theory_chords.specs.Crossing.{Frontier, Chord, crossing}

module _ {n T : ℕ} {org opp : ℕ → ℕ} (s : Sphere n T org opp) {In : ℕ → Type 0} {m : ℕ} {inn : ℕ →
    ℕ} (f : Frontier T org opp In m inn) where
  abbrev Link : ℕ → ℕ → ℕ → Type 0
  Link = Chord org opp In inn

  back : (i j c : ℕ) → Link i j c → Link j i (opp c)
  back i j c p =
      let b = f.low c p.this in
      record { this = p.that; that = rw (s.twice c b) p.this; from = s.reverses c b ∙ p.to; to = tip-opp s c b ∙ p.from }

  -- no chord leads to a vertex beside its own
  not_left : (j c : ℕ) → j < m → Link (suc j) j c → ⊥
  not_left j c h p =
      let e : c ≡ inn (suc j) = s.once c (inn (suc j)) (f.low c p.this) (f.low (inn (suc j)) (f.this (suc j) h)) p.from
      (p.to ∙ sym (f.link j (omega arith))) in
      f.that (suc j) h (rw e at p.that)

  not_right : (j c : ℕ) → j < m → Link j (suc j) c → ⊥
  not_right j c h p = not_left j (opp c) h (back j (suc j) c p)

  not_self : (j c : ℕ) → Link j j c → ⊥
  not_self j c p = s.proper c (f.low c p.this) (p.from ∙ sym p.to)

  -- a chord at f_q, or none
  chord? : (q : ℕ) → Dec ((c : ℕ) × (c < 3 * T) × ((j : ℕ) × (j < suc m) × Link q j c))
  chord? q = below? (λ c. (j : ℕ) × (j < suc m) × Link q j c)
      (λ c. below? (λ j. Link q j c) (λ j. go c j (f.in? c) (f.in? (opp c)) (ℕ_discrete (org c) (org (inn q)))
      (ℕ_discrete (org (next c)) (org (inn j)))) (suc m)) (3 * T)
    where
      go : (c j : ℕ) → Dec (In c) → Dec (In (opp c)) → Dec (org c ≡ org (inn q)) → Dec (org (next c) ≡ org (inn j)) → Dec (Link q j c)
      go c j (no a) b x y = no (λ p. a p.this)
      go c j (yes a) (no b) x y = no (λ p. b p.that)
      go c j (yes a) (yes b) (no x) y = no (λ p. x p.from)
      go c j (yes a) (yes b) (yes x) (no y) = no (λ p. y p.to)
      go c j (yes a) (yes b) (yes x) (yes y) = yes (record { this = a; that = b; from = x; to = y })

  abbrev Chordless : Type 0
  Chordless = (q : ℕ) × (0 < q) × (q < m) × ((c j : ℕ) → j ≤ m → Link q j c → ⊥)

  -- Between f_i and f_j, where no chord leads out: either f_(i+1) has none, or its chord leads to a vertex with fewer between.
  search_between : (k i j : ℕ) → j ≤ i + k → i + 2 ≤ j → j ≤ m →
      ((q l c : ℕ) → i < q → q < j → l ≤ m → Link q l c → (i ≤ l) × (l ≤ j)) → Chordless
  search_between zero i j a b d out = absurd (omega arith)
  search_between (suc k) i j a b d out =
      elim (chord? (suc i)) [
        | no x ↦ (suc i, omega arith, omega arith, λ c l h p. x (c, f.low c p.this, (l, omega arith, p)))
        | yes t ↦
            let c = t.0 in
            let l = t.2.0 in
            let lm : l ≤ m = omega (arith, t.2.1) in
            let p = t.2.2 in
            let o = out (suc i) l c (omega arith) (omega arith) lm p in
            let n1 : l ≢ suc i = λ e. not_self (suc i) c (rw e at p) in
            let n2 : l ≢ i = λ e. not_left i c (omega arith) (rw e at p) in
            let n3 : l ≢ suc (suc i) = λ e. not_right (suc i) c (omega arith) (rw e at p) in
            search_between k (suc i) l (omega (arith, o.1)) (omega (arith, o.0)) lm (λ q r c' x y h p'. (
              elim (dec_le (suc i) r) [ yes z ↦ z | no z ↦ absurd (crossing s f (opp c') c r q (suc i) l (back q r c' p') p (omega arith) x y lm) ],
              elim (dec_le r l) [ yes z ↦ z | no z ↦ absurd (crossing s f c c' (suc i) l q r p p' x y (omega arith) h) ],
            ))
      ]

  -- some vertex between the two ends of the frontier has no chord
  pub some_chordless : 2 ≤ m → Chordless
  some_chordless h = search_between m 0 m (omega arith) (omega arith) (omega arith) (λ q l c a b d p. (omega arith, d))
