-- x more in coordinates, some times over, and how large they get. Assumes nothing.
use Rattle.std.specs.Prelude.{ℕ, ◌+◌, ◌*◌, ◌≤◌, ◌<◌, ◌≡◌, refl, cond, List, eqb, length, set, ℤ, pos, nat_abs, ◌+ℤ◌, ◌*ℤ◌}
use Rattle.std.proofs.Math.Path.{sym}
use Rattle.std.proofs.Common.{ap, ◌∙◌, arith, get_or-set_same, get_or-set_other}
use Rattle.std.proofs.Math.Decide.{ℕ_discrete}
use Rattle.std.proofs.Math.ListN.{get_or, length-set}
use Rattle.std.proofs.Math.IntN.{zero-*ℤ}
use borrow.Author.Tests.{eq-eqb, ne_eqb}
use Rattle.definitions.specs.Backward.{coordinate}
use Rattle.definitions.specs.Repair.{limit}
use Rattle.laws.specs.Integers.{up, dn, int, zpos, z+}
use Rattle.laws.specs.Ring.{z*}
use Rattle.laws.specs.Sums.{abs-+}
use Rattle.theory_realizer.specs.Units.{bit}

-- ---- x, some times over

pub none : (a x : ℤ) → a ≡ a +ℤ pos 0 *ℤ x
none a x = rw (zero-*ℤ x) (omega (int, zpos 0, z+ a (pos 0)))

-- k times x by its two parts
taken : (k : ℕ) (x : ℤ) → up (pos k *ℤ x) + k * dn x ≡ k * up x + dn (pos k *ℤ x)
unfolding up dn
taken k x = omega (arith, z* (pos k) x)

once : (a x : ℤ) → a +ℤ x ≡ a +ℤ pos 1 *ℤ x
once a x = omega (int, taken 1 x, z+ a x, z+ a (pos 1 *ℤ x))

both : (a x : ℤ) (j k : ℕ) → (a +ℤ pos j *ℤ x) +ℤ pos k *ℤ x ≡ a +ℤ pos (j + k) *ℤ x
both a x j k =
    omega (int, taken j x, taken k x, taken (j + k) x, z+ a (pos j *ℤ x), z+ (a +ℤ pos j *ℤ x) (pos k *ℤ x), z+ a (pos (j + k) *ℤ x))

-- coordinates with x more in coordinate c of vertex i, m c i times over
pub record More (m : ℕ → ℕ → ℕ) (x : ℤ) (bs bs' : List ℤ) : Type 0 where
  pub long : length bs' ≡ length bs
  pub more : (c i : ℕ) → c < 3 → 3 * i + c < length bs → coordinate bs' c i ≡ coordinate bs c i +ℤ pos (m c i) *ℤ x

pub more-none : (x : ℤ) (bs : List ℤ) → More (λ c i. 0) x bs bs
more-none x bs = record { long = refl; more = λ c i h l. none (coordinate bs c i) x }

pub more_then : {m m' : ℕ → ℕ → ℕ} {x : ℤ} {bs bs' bs'' : List ℤ} → More m x bs bs' → More m' x bs' bs'' →
    More (λ c i. m c i + m' c i) x bs bs''
more_then {m} {m'} {x} {bs} p q =
    record {
      long = q.long ∙ p.long;
      more = λ c i h l.
          q.more c i h (omega (arith, p.long)) ∙ ap (λ (y : ℤ). y +ℤ pos (m' c i) *ℤ x) (p.more c i h l)
          ∙ both (coordinate bs c i) x (m c i) (m' c i);
    }

pub more_same : {m m' : ℕ → ℕ → ℕ} {x : ℤ} {bs bs' : List ℤ} → ((c i : ℕ) → c < 3 → m c i ≡ m' c i) → More m x bs bs' →
    More m' x bs bs'
more_same {x = x} {bs = bs} e p =
    record { long = p.long; more = λ c i h l. p.more c i h l ∙ ap (λ (k : ℕ). coordinate bs c i +ℤ pos k *ℤ x) (e c i h) }

-- once in coordinate e of vertex v
abbrev pub single : ℕ → ℕ → ℕ → ℕ → ℕ
single e v c i = cond (eqb c e) (bit (eqb v i)) 0

module _ (x : ℤ) (bs bs' : List ℤ) (e v : ℕ) (low : e < 3) (room : 3 * v + e < length bs)
    (made : bs' ≡ set bs (3 * v + e) (get_or bs (3 * v + e) (pos 0) +ℤ x)) where
  pub more-set : More (single e v) x bs bs'
  unfolding coordinate
  more-set =
      let y = get_or bs (3 * v + e) (pos 0) +ℤ x in
      rw made
      (record {
        long = length-set bs (3 * v + e) y;
        more = λ c i h l.
            elim (ℕ_discrete c e) [
              | no d ↦
                  rw (ne_eqb c e d)
                  (get_or-set_other bs (3 * v + e) (3 * i + c) y (pos 0) (omega arith) ∙ none (get_or bs (3 * i + c) (pos 0)) x)
              | yes d ↦
                  rw (d, eq-eqb e e refl)
                  (elim (ℕ_discrete v i) [
                    | no q ↦
                        rw (ne_eqb v i q)
                        (get_or-set_other bs (3 * v + e) (3 * i + e) y (pos 0) (omega arith) ∙ none (get_or bs (3 * i + e) (pos 0)) x)
                    | yes q ↦
                        rw (eq-eqb v i q, sym q)
                        (get_or-set_same bs (3 * v + e) y (pos 0) room ∙ once (get_or bs (3 * v + e) (pos 0)) x)
                  ])
            ];
      })

-- ---- how large they get

-- numbers within the limit to which at most k numbers have been added, none of them larger than a raise
pub record Small (k : ℕ) (bs : List ℤ) : Type 0 where
  pub small : (j : ℕ) → nat_abs (get_or bs j (pos 0)) ≤ limit + k * (2 * limit + 1)

pub small_later : {k l : ℕ} {bs : List ℤ} → k ≤ l → Small k bs → Small l bs
small_later h p = record { small = λ j. omega (arith, p.small j) }

pub small_set : (k i : ℕ) (x : ℤ) (bs bs' : List ℤ) → Small k bs → nat_abs x ≤ 2 * limit + 1 → i < length bs →
    bs' ≡ set bs i (get_or bs i (pos 0) +ℤ x) →
    Small (k + 1) bs'
small_set k i x bs bs' p h l e =
    let y = get_or bs i (pos 0) +ℤ x in
    rw e
    (record {
      small = λ j.
          elim (ℕ_discrete j i) [
            | yes d ↦ rw (d, get_or-set_same bs i y (pos 0) l) (omega (arith, p.small i, h, abs-+ (get_or bs i (pos 0)) x))
            | no d ↦ rw (get_or-set_other bs i j y (pos 0) d) (omega (arith, p.small j))
          ];
    })
