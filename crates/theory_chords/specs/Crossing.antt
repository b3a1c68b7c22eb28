-- A closed frontier that parts the darts inside from the rest, its fans, and the crossing lemma: two of its chords never cross. Assumes nothing.
-- `inn j`, j = 0 .. m, are the frontier's darts, the triangles inside lying beside them; each leads to the origin of the one before it, and inn (m + 1) is
-- inn 0 again.
use Prim.Native.Nat.{ℕ, zero, suc, ◌+◌, ◌-◌, ◌*◌, ◌≤◌, ◌<◌}
use Rattle.std.specs.Prelude.{◌≡◌, refl, ◌≢◌, ◌⊎◌, List, [], ◌∷◌, ◌++◌, map}
use Rattle.std.proofs.Common.{sym, ap, ◌∙◌, inl, inr, arith, length-append}
use mathlib.Core.List.Memᴰ
use Rattle.std.proofs.Math.Decide.{ℕ_discrete, dec_le}
use Rattle.std.proofs.lemmas.List.{length-map}
use Rattle.definitions.specs.Lists.{upto}
use Rattle.definitions.specs.Mesh.{tri, next, prev}
use Rattle.laws.specs.Chain.{Chain, stop, step}
use Rattle.laws.specs.Lists.{◌∈◌, dec_in, in_upto, upto_in}
use Rattle.laws.specs.Counting.{Distinct, distinct_upto, distinct_map}
use Rattle.laws.specs.Forest.{Earliest, first_with, chain_append, chain_reverse}
use Rattle.laws.specs.Edges.{Apart, none, more, apart_append, apart_map}
use Rattle.theory_sphere.specs.Sphere.{Sphere, rotate}
use Rattle.theory_sphere.specs.Darts.{tri-prev, next-prev, next-next, prev-below}
use Rattle.theory_sphere.specs.Rotations.{tip-opp, org-rot, rot-below, opp-rot, rotate-none, rotate-suc, rotate-add, rotate-below, org-rotate}
use Rattle.theory_chords.specs.Euler.{Free, euler}

pub record Frontier (T : ℕ) (org opp : ℕ → ℕ) (In : ℕ → Type 0) (m : ℕ) (inn : ℕ → ℕ) : Type 0 where
  -- whole triangles are inside or not
  pub in? : (d : ℕ) → Dec (In d)
  pub low : (d : ℕ) → In d → d < 3 * T
  pub whole : (d : ℕ) → In d → In (next d)
  pub closed : inn (suc m) ≡ inn 0
  pub link : (j : ℕ) → j ≤ m → org (next (inn (suc j))) ≡ org (inn j)
  pub apart : (i j : ℕ) → i ≤ m → j ≤ m → org (inn i) ≡ org (inn j) → i ≡ j
  pub this : (j : ℕ) → j ≤ m → In (inn j)
  pub that : (j : ℕ) → j ≤ m → In (opp (inn j)) → ⊥
  pub only : (d : ℕ) → In d → (In (opp d) → ⊥) → (j : ℕ) × (j ≤ m) × (inn j ≡ d)
  pub outer : tri (opp (inn 0)) ≡ 0

-- a side inside, from f_i to f_j
pub record Chord (org opp : ℕ → ℕ) (In : ℕ → Type 0) (inn : ℕ → ℕ) (i j c : ℕ) : Type 0 where
  pub this : In c
  pub that : In (opp c)
  pub from : org c ≡ org (inn i)
  pub to : org (next c) ≡ org (inn j)

module _ {n T : ℕ} {org opp : ℕ → ℕ} (s : Sphere n T org opp) {In : ℕ → Type 0} {m : ℕ} {inn : ℕ →
    ℕ} (f : Frontier T org opp In m inn) where
  in_prev : (d : ℕ) → In d → In (prev d)
  in_prev d h = rw (next-next d) at (f.whole (next d) (f.whole d h))

  out_prev : (d : ℕ) → (In d → ⊥) → In (prev d) → ⊥
  out_prev d h i = h (rw (next-prev d) at (f.whole (prev d) i))

  inn-below : (j : ℕ) → j ≤ m → inn j < 3 * T
  inn-below j h = f.low (inn j) (f.this j h)

  -- turning round f_j, the inside is left at the dart to f_(j+1), and entered at the dart to f_(j-1)
  leave : (j d : ℕ) → j ≤ m → In d → org d ≡ org (inn j) → (In (opp (prev d)) → ⊥) → opp (prev d) ≡ opp (inn (suc j))
  leave j d h i o a = go (f.only (prev d) (in_prev d i) a)
    where
      go : (q : ℕ) × (q ≤ m) × (inn q ≡ prev d) → opp (prev d) ≡ opp (inn (suc j))
      go (zero, l, e) =
          let t : org (inn m) ≡ org (inn j) = sym (f.link m (omega arith)) ∙ ap (λ (x : ℕ). org (next x)) (f.closed ∙ e) ∙ ap org (next-prev d)
          ∙ o in
          let u : m ≡ j = f.apart m j (omega arith) h t in
          ap opp (sym e ∙ sym f.closed ∙ ap (λ (x : ℕ). inn (suc x)) u)
      go (suc q, l, e) =
          let t : org (inn q) ≡ org (inn j) = sym (f.link q (omega arith)) ∙ ap (λ (x : ℕ). org (next x)) e ∙ ap org (next-prev d) ∙ o in
          let u : q ≡ j = f.apart q j (omega arith) h t in
          ap opp (sym e ∙ ap (λ (x : ℕ). inn (suc x)) u)

  enter : (j d : ℕ) → j ≤ m → d < 3 * T → (In d → ⊥) → org d ≡ org (inn j) → In (opp (prev d)) → opp (prev d) ≡ inn j
  enter j d h b a o i =
      let r = f.only (opp (prev d)) i (λ k. out_prev d a (rw (opp-rot s d b) at k)) in
      let u : r.0 ≡ j = f.apart r.0 j r.1 h (ap org r.2 ∙ org-rot s d b ∙ o) in
      sym r.2 ∙ ap inn u

  -- what holds of inn 0, .., inn m holds of inn (m + 1)
  again : (P : ℕ → Type 0) → ((j : ℕ) → j ≤ m → P (inn j)) → (j : ℕ) → j ≤ suc m → P (inn j)
  again P h j l = elim (ℕ_discrete j (suc m)) [ yes e ↦ rw (e, f.closed) (h 0 (omega arith)) | no e ↦ h j (omega arith) ]

  this⁺ : (j : ℕ) → j ≤ suc m → In (inn j)
  this⁺ = again In f.this

  that⁺ : (j : ℕ) → j ≤ suc m → In (opp (inn j)) → ⊥
  that⁺ = again (λ (x : ℕ). In (opp x) → ⊥) f.that

  org_right : (j : ℕ) → j ≤ m → org (opp (inn (suc j))) ≡ org (inn j)
  org_right j h = s.reverses (inn (suc j)) (f.low (inn (suc j)) (this⁺ (suc j) (omega arith))) ∙ f.link j h

  -- the run inside from d on, and the run outside
  pub inner : (j d : ℕ) → j ≤ m → In d → org d ≡ org (inn j) → (k : ℕ) × (rotate opp (suc k) d ≡ opp (inn (suc j)))
      × ((i : ℕ) → i ≤ k → In (rotate opp i d))
  inner j d h i o =
      let b = f.low d i in
      let l : suc j ≤ suc m = omega arith in
      let q = f.low (inn (suc j)) (this⁺ (suc j) l) in
      let r = s.ring d (opp (inn (suc j))) b (s.dart (inn (suc j)) q) (o ∙ sym (org_right j h)) in
      let e = first_with (λ (k : ℕ). In (rotate opp k d) → ⊥) out? r.0 (λ k. that⁺ (suc j) l (rw r.1 at k)) in
      go b e.0 e.2
    where
      out? : (k : ℕ) → Dec (In (rotate opp k d) → ⊥)
      out? k = elim (f.in? (rotate opp k d)) [ yes p ↦ no (λ q. q p) | no p ↦ yes p ]

      back : (k : ℕ) → ((In (rotate opp k d) → ⊥) → ⊥) → In (rotate opp k d)
      back k a = elim (f.in? (rotate opp k d)) [ yes p ↦ p | no p ↦ absurd (a p) ]

      go : d < 3 * T → (k : ℕ) → Earliest (λ (k : ℕ). In (rotate opp k d) → ⊥) k
          → (k : ℕ) × (rotate opp (suc k) d ≡ opp (inn (suc j))) × ((i : ℕ) → i ≤ k → In (rotate opp i d))
      go b zero e = absurd (e.has (rw (rotate-none opp d) i))
      go b (suc k) e =
          let p = back k (e.none k (omega arith)) in (
            k,
            rotate-suc opp k d ∙ leave j (rotate opp k d) h p (org-rotate s k d b ∙ o) (λ q. e.has (rw (sym (rotate-suc opp k d)) at q)),
            λ x l. back x (e.none x (omega arith)),
          )

  pub beyond : (j d : ℕ) → j ≤ m → d < 3 * T → (In d → ⊥) → org d ≡ org (inn j) → (k : ℕ) × (rotate opp (suc k) d ≡ inn j)
      × ((i : ℕ) → i ≤ k → In (rotate opp i d) → ⊥)
  beyond j d h b a o =
      let r = s.ring d (inn j) b (inn-below j h) o in
      let e = first_with (λ (k : ℕ). In (rotate opp k d)) (λ k. f.in? (rotate opp k d)) r.0 (rw r.1 (f.this j h)) in
      go e.0 e.2
    where
      go : (k : ℕ) → Earliest (λ (k : ℕ). In (rotate opp k d)) k → (k : ℕ) × (rotate opp (suc k) d ≡ inn j)
          × ((i : ℕ) → i ≤ k → In (rotate opp i d) → ⊥)
      go zero e = absurd (a (rw (rotate-none opp d) at e.has))
      go (suc k) e = (
        k,
        rotate-suc opp k d ∙ enter j (rotate opp k d) h (rotate-below s k d b) (e.none k (omega arith)) (org-rotate s k d b ∙ o)
            (rw (rotate-suc opp k d) at e.has),
        λ x l. e.none x (omega arith),
      )

  -- a dart inside is met from inn j on before the inside is left
  reached : (j x : ℕ) → j ≤ m → In x → org x ≡ org (inn j) → x ≢ inn j
      → (a : ℕ) × (rotate opp (suc a) (inn j) ≡ x) × ((i : ℕ) → i ≤ a → In (rotate opp i (inn j)))
      × ((i : ℕ) → i ≤ a → rotate opp i (inn j) ≢ x)
  reached j x h i o ne =
      let r = s.ring (inn j) x (inn-below j h) (f.low x i) (sym o) in
      let e = first_with (λ (k : ℕ). rotate opp k (inn j) ≡ x) (λ k. ℕ_discrete (rotate opp k (inn j)) x) r.0 r.1 in
      go e.0 e.2
    where
      go : (k : ℕ) → Earliest (λ (k : ℕ). rotate opp k (inn j) ≡ x) k
          → (a : ℕ) × (rotate opp (suc a) (inn j) ≡ x) × ((i : ℕ) → i ≤ a → In (rotate opp i (inn j)))
          × ((i : ℕ) → i ≤ a → rotate opp i (inn j) ≢ x)
      go zero e = absurd (ne (sym e.has ∙ rotate-none opp (inn j)))
      go (suc a) e =
          let u = inner j (inn j) h (f.this j h) refl in
          elim (dec_le a u.0) [
            | yes l ↦ (a, e.has, λ y k. u.2 y (omega arith), λ y k. e.none y (omega arith))
            | no l ↦
                let k = u.0 in
                let q = opp (inn (suc j)) in
                let v : suc j ≤ suc m = omega arith in
                let w = beyond j q h (s.dart (inn (suc j)) (f.low (inn (suc j)) (this⁺ (suc j) v))) (that⁺ (suc j) v) (org_right j h) in
                let g : suc a ≡ suc k + (a - k) = omega arith in
                let t : rotate opp (a - k) q ≡ x = ap (rotate opp (a - k)) (sym u.1) ∙ sym (rotate-add opp (suc k) (a - k) (inn j))
                ∙ ap (λ (y : ℕ). rotate opp y (inn j)) (sym g) ∙ e.has in
                elim (dec_le (a - k) w.0) [
                  | yes z ↦ absurd (w.2 (a - k) z (rw t i))
                  | no z ↦
                      let c : a - k ≡ suc w.0 + (a - k - suc w.0) = omega arith in
                      absurd (e.none (a - k - suc w.0) (omega arith)
                      (ap (rotate opp (a - k - suc w.0)) (sym w.1) ∙ sym (rotate-add opp (suc w.0) (a - k - suc w.0) q)
                      ∙ ap (λ (y : ℕ). rotate opp y q) (sym c) ∙ t))
                ]
          ]

  -- ---- two chords that cross

  module _ (B : List ℕ) where
    -- triangles that steps join which cross no side of B
    abbrev Near : ℕ → ℕ → Type 0
    Near t u = Chain (Free s B) tri (λ d. tri (opp d)) u t

    free_opp : (d : ℕ) → Free s B d → Free s B (opp d)
    free_opp d h = record { below = s.dart d h.below; this = h.that; that = λ m. h.this (Memᴰ.cast (sym (s.twice d h.below)) m) }

    near-back : (t u : ℕ) → Near t u → Near u t
    near-back t u = chain_reverse opp free_opp (λ d h. refl) (λ d h. ap tri (s.twice d h.below))

    -- from one dart of a vertex to another, round that vertex
    sector : (k d : ℕ) → d < 3 * T → ((i : ℕ) → i < k → Free s B (prev (rotate opp i d))) → Near (tri d) (tri (opp (rotate opp (suc k) d)))
    unfolding rotate
    sector zero d h free = stop (sym (ap tri (opp-rot s d h) ∙ tri-prev d))
    sector (suc k) d h free =
        step (prev d) (free 0 (omega arith)) (tri-prev d) (sector k (opp (prev d)) (rot-below s d h) (λ i l. free (suc i) (omega arith)))

    module _ (Clear : ℕ → Type 0) (free_in : (d : ℕ) → In d → In (opp d) → Clear (opp d) → Free s B d)
        (free_out : (d : ℕ) → d < 3 * T → (In d → ⊥) → (In (opp d) → ⊥) → Free s B d) where
      inside-step : (d i : ℕ) → In (rotate opp i d) → In (rotate opp (suc i) d) → Clear (rotate opp (suc i) d) → Free s B (prev (rotate opp i d))
      inside-step d i a b c =
          free_in (prev (rotate opp i d)) (in_prev (rotate opp i d) a) (rw (rotate-suc opp i d) at b) (rw (rotate-suc opp i d) at c)

      -- at a vertex with no chord the inside is one piece
      no_chord : (q : ℕ) → q ≤ m → ((y : ℕ) → y < 3 * T → org y ≡ org (inn q) → Clear y) → Near (tri (inn q)) (tri (inn (suc q)))
      no_chord q h clear =
          let u = inner q (inn q) h (f.this q h) refl in
          let b = inn-below q h in
          let v : suc q ≤ suc m = omega arith in
          rw (u.1, s.twice (inn (suc q)) (f.low (inn (suc q)) (this⁺ (suc q) v))) at (sector u.0 (inn q) b (λ i l.
          inside-step (inn q) i (u.2 i (omega arith)) (u.2 (suc i) (omega arith))
          (clear (rotate opp (suc i) (inn q)) (rotate-below s (suc i) (inn q) b) (org-rotate s (suc i) (inn q) b))))

      -- at a vertex with a chord it is one on each side of it
      right_of : (q x : ℕ) → q ≤ m → In x → org x ≡ org (inn q) → ((y : ℕ) → y < 3 * T → org y ≡ org (inn q) → y ≢ x → Clear y)
          → Near (tri x) (tri (inn (suc q)))
      right_of q x h i o clear =
          let u = inner q x h i o in
          let b = f.low x i in
          let v : suc q ≤ suc m = omega arith in
          rw (u.1, s.twice (inn (suc q)) (f.low (inn (suc q)) (this⁺ (suc q) v))) at (sector u.0 x b (λ j l.
          inside-step x j (u.2 j (omega arith)) (u.2 (suc j) (omega arith))
          (clear (rotate opp (suc j) x) (rotate-below s (suc j) x b) (org-rotate s (suc j) x b ∙ o) (fresh u.0 u.1 u.2 j l))))
        where
          fresh : (k : ℕ) → rotate opp (suc k) x ≡ opp (inn (suc q)) → ((i : ℕ) → i ≤ k → In (rotate opp i x)) → (j : ℕ) → j < k →
              rotate opp (suc j) x ≢ x
          fresh k e a j l t =
              let g : suc k ≡ suc j + (k - j) = omega arith in
              let r : rotate opp (k - j) x ≡ opp (inn (suc q)) = ap (rotate opp (k - j)) (sym t) ∙ sym (rotate-add opp (suc j) (k - j) x)
              ∙ ap (λ (y : ℕ). rotate opp y x) (sym g) ∙ e in
              that⁺ (suc q) (omega arith) (rw r at (a (k - j) (omega arith)))

      left_of : (q x : ℕ) → q ≤ m → In x → In (opp x) → org x ≡ org (inn q) →
          ((y : ℕ) → y < 3 * T → org y ≡ org (inn q) → y ≢ x → Clear y) → Near (tri (inn q)) (tri (opp x))
      left_of q x h i o' o clear =
          let b = inn-below q h in
          let u = reached q x h i o (λ e. f.that q h (rw e at o')) in
          rw u.1 at (sector u.0 (inn q) b (λ j l.
          inside-step (inn q) j (u.2 j (omega arith)) (u.2 (suc j) (omega arith))
          (clear (rotate opp (suc j) (inn q)) (rotate-below s (suc j) (inn q) b) (org-rotate s (suc j) (inn q) b) (u.3 (suc j) (omega arith)))))

      -- the outside is one piece at every vertex
      outside : (q : ℕ) → q ≤ m → Near (tri (opp (inn (suc q)))) (tri (opp (inn q)))
      outside q h =
          let v : suc q ≤ suc m = omega arith in
          let b = s.dart (inn (suc q)) (f.low (inn (suc q)) (this⁺ (suc q) v)) in
          let w = beyond q (opp (inn (suc q))) h b (that⁺ (suc q) v) (org_right q h) in
          rw w.1 at (sector w.0 (opp (inn (suc q))) b (λ i l.
          let x = rotate opp i (opp (inn (suc q))) in
          free_out (prev x) (prev-below T x (rotate-below s i (opp (inn (suc q))) b)) (out_prev x (w.2 i (omega arith)))
          (λ k. w.2 (suc i) (omega arith) (rw (sym (rotate-suc opp i (opp (inn (suc q))))) at k))))

  module _ (c c' i j k l : ℕ) (p : Chord org opp In inn i j c) (p' : Chord org opp In inn k l c') (ik : i < k) (kj : k < j) (jl : j < l)
      (lm : l ≤ m) where
    abbrev edges : List ℕ
    edges = map inn (upto (suc m)) ++ c ∷ c' ∷ []

    -- a side of the frontier, or one of the two chords
    edge-cases : (d : ℕ) → d ∈ edges → ((q : ℕ) × (q ≤ m) × (d ≡ inn q)) ⊎ (d ≡ c) ⊎ (d ≡ c')
    edge-cases d x =
        elim (Memᴰ.append_cases (map inn (upto (suc m))) x) [
          | inl a ↦ let r = Memᴰ.of_map inn (upto (suc m)) a in inl (r.0, omega (arith, upto_in (suc m) r.1), sym r.2)
          | inr b ↦ elim (Memᴰ.cases_cons b) [
            | inl e ↦ inr (inl e)
            | inr b' ↦ elim (Memᴰ.cases_cons b') [ inl e ↦ inr (inr e) | inr n ↦ absurd (Memᴰ.not-nil n) ]
          ]
        ]

    abbrev Clear : ℕ → Type 0
    Clear y = (y ≢ c) × (y ≢ c') × (opp y ≢ c) × (opp y ≢ c')

    no_edge_in : (d : ℕ) → In (opp d) → d ≢ c → d ≢ c' → d ∈ edges → ⊥
    no_edge_in d o a b x =
        elim (edge-cases d x) [
          | inl t ↦ f.that t.0 t.1 (rw t.2 at o)
          | inr t ↦ elim t [ inl e ↦ a e | inr e ↦ b e ]
        ]

    no_edge_out : (d : ℕ) → (In d → ⊥) → d ∈ edges → ⊥
    no_edge_out d o x =
        elim (edge-cases d x) [
          | inl t ↦ o (rw t.2 (f.this t.0 t.1))
          | inr t ↦ elim t [ inl e ↦ o (rw e p.this) | inr e ↦ o (rw e p'.this) ]
        ]

    free_in : (d : ℕ) → In d → In (opp d) → Clear (opp d) → Free s edges d
    free_in d a b n =
        let t = s.twice d (f.low d a) in
        record {
          below = f.low d a;
          this = no_edge_in d b (λ e. n.2 (t ∙ e)) (λ e. n.3 (t ∙ e));
          that = no_edge_in (opp d) (rw t a) n.0 n.1;
        }

    free_out : (d : ℕ) → d < 3 * T → (In d → ⊥) → (In (opp d) → ⊥) → Free s edges d
    free_out d h a b = record { below = h; this = no_edge_out d a; that = no_edge_out (opp d) b }

    -- where a dart of the chords stands
    stands : (y q : ℕ) → y < 3 * T → q ≤ m → org y ≡ org (inn q) → (y ≡ c → q ≡ i) × (y ≡ c' → q ≡ k)
        × (opp y ≡ c → q ≡ j) × (opp y ≡ c' → q ≡ l)
    stands y q b h o = (
      λ e. f.apart q i h (omega arith) (sym o ∙ ap org e ∙ p.from),
      λ e. f.apart q k h (omega arith) (sym o ∙ ap org e ∙ p'.from),
      λ e. f.apart q j h (omega arith) (sym o ∙ sym (tip-opp s y b) ∙ ap (λ (x : ℕ). org (next x)) e ∙ p.to),
      λ e. f.apart q l h lm (sym o ∙ sym (tip-opp s y b) ∙ ap (λ (x : ℕ). org (next x)) e ∙ p'.to),
    )

    clear_else : (q : ℕ) → q ≤ m → q ≢ i → q ≢ j → q ≢ k → q ≢ l → (y : ℕ) → y < 3 * T → org y ≡ org (inn q) → Clear y
    clear_else q h a b u v y z o = let t = stands y q z h o in (λ e. a (t.0 e), λ e. u (t.1 e), λ e. b (t.2 e), λ e. v (t.3 e))

    abbrev Joined : ℕ → ℕ → Type 0
    Joined = Near edges

    -- along an arc of the frontier with no chord
    arc : (a k' : ℕ) → a + k' ≤ suc m → ((q : ℕ) → a ≤ q → q < a + k' → (q ≢ i) × (q ≢ j) × (q ≢ k) × (q ≢ l)) →
        Joined (tri (inn a)) (tri (inn (a + k')))
    arc a zero h n = let e : a + 0 ≡ a = omega arith in stop (ap (λ (x : ℕ). tri (inn x)) (sym e))
    arc a (suc k') h n =
        let e : a + suc k' ≡ suc (a + k') = omega arith in
        let w = n (a + k') (omega arith) (omega arith) in
        rw e (chain_append (arc a k' (omega arith) (λ q x y. n q x (omega arith)))
        (no_chord edges Clear free_in free_out (a + k') (omega arith) (clear_else (a + k') (omega arith) w.0 w.1 w.2 w.3)))

    along : (a b : ℕ) → a ≤ b → b ≤ suc m → ((q : ℕ) → a ≤ q → q < b → (q ≢ i) × (q ≢ j) × (q ≢ k) × (q ≢ l)) →
        Joined (tri (inn a)) (tri (inn b))
    along a b h u n = let e : a + (b - a) ≡ b = omega arith in rw e at (arc a (b - a) (omega arith) (λ q x y. n q x (omega arith)))

    cb : c < 3 * T
    cb = f.low c p.this

    cb' : c' < 3 * T
    cb' = f.low c' p'.this

    -- the chords' own vertices
    at_i : (y : ℕ) → y < 3 * T → org y ≡ org (inn i) → y ≢ c → Clear y
    at_i y b o n = let t = stands y i b (omega arith) o in
        (n, λ e. absurd (omega (arith, t.1 e)), λ e. absurd (omega (arith, t.2 e)), λ e. absurd (omega (arith, t.3 e)))

    at_k : (y : ℕ) → y < 3 * T → org y ≡ org (inn k) → y ≢ c' → Clear y
    at_k y b o n = let t = stands y k b (omega arith) o in
        (λ e. absurd (omega (arith, t.0 e)), n, λ e. absurd (omega (arith, t.2 e)), λ e. absurd (omega (arith, t.3 e)))

    at_j : (y : ℕ) → y < 3 * T → org y ≡ org (inn j) → y ≢ opp c → Clear y
    at_j y b o n =
        let t = stands y j b (omega arith) o in (
          λ e. absurd (omega (arith, t.0 e)),
          λ e. absurd (omega (arith, t.1 e)),
          λ e. n (sym (s.twice y b) ∙ ap opp e),
          λ e. absurd (omega (arith, t.3 e)),
        )

    at_l : (y : ℕ) → y < 3 * T → org y ≡ org (inn l) → y ≢ opp c' → Clear y
    at_l y b o n =
        let t = stands y l b lm o in (
          λ e. absurd (omega (arith, t.0 e)),
          λ e. absurd (omega (arith, t.1 e)),
          λ e. absurd (omega (arith, t.2 e)),
          λ e. n (sym (s.twice y b) ∙ ap opp e),
        )

    abbrev Home : ℕ → Type 0
    Home t = Joined t (tri (inn 0))

    -- the four arcs and the four sides of the chords are one piece
    first_arc : (q : ℕ) → q ≤ i → Home (tri (inn q))
    first_arc q h = near-back edges (tri (inn 0)) (tri (inn q)) (along 0 q (omega arith) (omega arith) (λ x a b. omega arith))

    last_arc : (q : ℕ) → l < q → q ≤ suc m → Home (tri (inn q))
    last_arc q h u = rw f.closed at (along q (suc m) (omega arith) (omega arith) (λ x a b. omega arith))

    home_opp_c : Home (tri (opp c))
    home_opp_c = chain_append (near-back edges (tri (inn i)) (tri (opp c))
        (left_of edges Clear free_in free_out i c (omega arith) p.this p.that p.from at_i)) (first_arc i (omega arith))

    home_opp_c' : Home (tri (opp c'))
    home_opp_c' =
        chain_append (right_of edges Clear free_in free_out l (opp c') lm p'.that (s.reverses c' cb' ∙ p'.to) at_l)
        (last_arc (suc l) (omega arith) (omega arith))

    second_arc : (q : ℕ) → i < q → q ≤ k → Home (tri (inn q))
    second_arc q h u =
        chain_append (along q k u (omega arith) (λ x a b. omega arith))
        (chain_append (left_of edges Clear free_in free_out k c' (omega arith) p'.this p'.that p'.from at_k) home_opp_c')

    fourth_arc : (q : ℕ) → j < q → q ≤ l → Home (tri (inn q))
    fourth_arc q h u =
        chain_append (near-back edges (tri (inn (suc j))) (tri (inn q)) (along (suc j) q (omega arith) (omega arith) (λ x a b. omega arith)))
        (chain_append (near-back edges (tri (opp c)) (tri (inn (suc j)))
        (right_of edges Clear free_in free_out j (opp c) (omega arith) p.that (s.reverses c cb ∙ p.to) at_j)) home_opp_c)

    home_c : Home (tri c)
    home_c = chain_append (right_of edges Clear free_in free_out i c (omega arith) p.this p.from at_i) (second_arc (suc i) (omega arith) (omega arith))

    home_c' : Home (tri c')
    home_c' =
        let t = s.twice c' cb' in
        chain_append (near-back edges (tri (inn l)) (tri c')
        (rw t at (left_of edges Clear free_in free_out l (opp c') lm p'.that (rw t p'.this) (s.reverses c' cb' ∙ p'.to) at_l)))
        (fourth_arc l (omega arith) (omega arith))

    third_arc : (q : ℕ) → k < q → q ≤ j → Home (tri (inn q))
    third_arc q h u =
        chain_append (near-back edges (tri (inn (suc k))) (tri (inn q)) (along (suc k) q (omega arith) (omega arith) (λ x a b. omega arith)))
        (chain_append (near-back edges (tri c') (tri (inn (suc k)))
        (right_of edges Clear free_in free_out k c' (omega arith) p'.this p'.from at_k)) home_c')

    home_inn : (q : ℕ) → q ≤ m → Home (tri (inn q))
    home_inn q h =
        elim (dec_le q i) [
          | yes a ↦ first_arc q a
          | no a ↦ elim (dec_le q k) [
            | yes b ↦ second_arc q (omega arith) b
            | no b ↦ elim (dec_le q j) [
              | yes d ↦ third_arc q (omega arith) d
              | no d ↦ elim (dec_le q l) [ yes e ↦ fourth_arc q (omega arith) e | no e ↦ last_arc q (omega arith) (omega arith) ]
            ]
          ]
        ]

    away : (q : ℕ) → q ≤ m → Joined (tri (opp (inn q))) 0
    away zero h = stop f.outer
    away (suc q) h = chain_append (outside edges Clear free_in free_out q (omega arith)) (away q (omega arith))

    abbrev Ends : ℕ → Type 0
    Ends t = (r : ℕ) × (r ∈ tri (inn 0) ∷ 0 ∷ []) × Joined t r

    to_home : (t : ℕ) → Home t → Ends t
    to_home t h = (tri (inn 0), Memᴰ.head refl, h)

    -- so every triangle is joined to one of two
    ends : {t : ℕ} → Chain (λ d. d < 3 * T) tri (λ d. tri (opp d)) 0 t → Ends t
    ends (stop e) = (0, Memᴰ.tail (Memᴰ.head refl), stop e)
    ends (step d h e r) = rw (sym e) (go (dec_in d edges) (dec_in (opp d) edges) (ends r))
      where
        here : ((q : ℕ) × (q ≤ m) × (d ≡ inn q)) ⊎ (d ≡ c) ⊎ (d ≡ c') → Ends (tri d)
        here (inl t) = rw t.2 (to_home (tri (inn t.0)) (home_inn t.0 t.1))
        here (inr (inl t)) = rw t (to_home (tri c) home_c)
        here (inr (inr t)) = rw t (to_home (tri c') home_c')

        there : ((q : ℕ) × (q ≤ m) × (opp d ≡ inn q)) ⊎ (opp d ≡ c) ⊎ (opp d ≡ c') → Ends (tri d)
        there (inl t) =
            let x : d ≡ opp (inn t.0) = sym (s.twice d h) ∙ ap opp t.2 in
            rw x (0, Memᴰ.tail (Memᴰ.head refl), away t.0 t.1)
        there (inr (inl t)) = let x : d ≡ opp c = sym (s.twice d h) ∙ ap opp t in rw x (to_home (tri (opp c)) home_opp_c)
        there (inr (inr t)) = let x : d ≡ opp c' = sym (s.twice d h) ∙ ap opp t in rw x (to_home (tri (opp c')) home_opp_c')

        go : Dec (d ∈ edges) → Dec (opp d ∈ edges) → Ends (tri (opp d)) → Ends (tri d)
        go (yes a) b z = here (edge-cases d a)
        go (no a) (yes b) z = there (edge-cases (opp d) b)
        go (no a) (no b) z = (z.0, z.1, step d (record { below = h; this = a; that = b }) refl z.2)

    abbrev corner : ℕ → ℕ
    corner q = org (inn q)

    abbrev corners : List ℕ
    corners = map corner (upto (suc m))

    on_frontier : (q : ℕ) → q ≤ m → org (inn q) ∈ corners
    on_frontier q h = Memᴰ.map corner (in_upto (suc m) q (omega arith))

    edges-below : (d : ℕ) → d ∈ edges → d < 3 * T
    edges-below d x =
        elim (edge-cases d x) [
          | inl t ↦ rw t.2 (inn-below t.0 t.1)
          | inr t ↦ elim t [ inl e ↦ rw e cb | inr e ↦ rw e cb' ]
        ]

    tips : (q : ℕ) → q ≤ m → org (next (inn q)) ∈ corners
    tips zero h = Memᴰ.cast (sym (ap (λ (x : ℕ). org (next x)) f.closed) ∙ f.link m (omega arith)) (on_frontier m (omega arith))
    tips (suc q) h = Memᴰ.cast (f.link q (omega arith)) (on_frontier q (omega arith))

    edges-ends : (d : ℕ) → d ∈ edges → (org d ∈ corners) × (org (next d) ∈ corners)
    edges-ends d x =
        elim (edge-cases d x) [
          | inl t ↦ rw t.2 (on_frontier t.0 t.1, tips t.0 t.1)
          | inr t ↦ elim t [
            | inl e ↦ rw e (Memᴰ.cast p.from (on_frontier i (omega arith)), Memᴰ.cast p.to (on_frontier j (omega arith)))
            | inr e ↦ rw e (Memᴰ.cast p'.from (on_frontier k (omega arith)), Memᴰ.cast p'.to (on_frontier l lm))
          ]
        ]

    -- no side of the frontier is a chord, and the two chords are two sides
    edges_apart : Apart opp edges
    edges_apart =
        apart_append opp
        (apart_map opp inn (distinct_upto (suc m)) (λ x y a b ne.
        let xm : x ≤ m = omega (arith, upto_in (suc m) a) in
        let ym : y ≤ m = omega (arith, upto_in (suc m) b) in
        (λ e. ne (f.apart x y xm ym (ap org e)), λ e. f.that y ym (rw e at (f.this x xm)))))
        (more {x = c} (λ y a.
        let e = Memᴰ.eq_of_singleton a in (
          λ t. absurd (omega (arith, f.apart i k (omega arith) (omega arith) (sym p.from ∙ ap org (t ∙ e) ∙ p'.from))),
          λ t. absurd (omega (arith, f.apart i l (omega arith) lm (sym p.from ∙ ap org (t ∙ ap opp e) ∙ s.reverses c' cb' ∙ p'.to))),
        ))
        (more {x = c'} (λ y a. absurd (Memᴰ.not-nil a)) none))
        (λ x y a b.
        let r = Memᴰ.of_map inn (upto (suc m)) a in
        let xm : r.0 ≤ m = omega (arith, upto_in (suc m) r.1) in
        let differs : (z : ℕ) → In z → In (opp z) → (x ≢ z) × (x ≢ opp z) = λ z u w. (
          λ e. f.that r.0 xm (rw (sym (r.2 ∙ e)) at w),
          λ e. f.that r.0 xm (rw (sym (s.twice z (f.low z u)), sym (r.2 ∙ e)) at u),
        ) in
        elim (Memᴰ.cases_cons b) [
          | inl e ↦ rw e (differs c p.this p.that)
          | inr b' ↦ rw (Memᴰ.eq_of_singleton b') (differs c' p'.this p'.that)
        ])

    -- The crossing lemma: there are no chords from f_i to f_j and from f_k to f_l with i < k < j < l.
    pub crossing : ⊥
    crossing =
        let fd : Distinct corners = distinct_map corner (λ x y a b e. f.apart x y (omega (arith, upto_in (suc m) a)) (omega (arith, upto_in (suc m) b)) e)
        (distinct_upto (suc m)) in
        let r = euler s corners edges (tri (inn 0) ∷ 0 ∷ []) (org (inn 0)) (on_frontier 0 (omega arith)) (s.vertex (inn 0) (inn-below 0 (omega arith)))
        fd edges_apart edges-below edges-ends (λ t h. ends (s.joined t h)) in
        omega (arith, r, length-append (map inn (upto (suc m))) (c ∷ c' ∷ []), length-map (upto (suc m)) inn, length-map (upto (suc m)) corner)
