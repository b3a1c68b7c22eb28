-- Words in levels: the bits of one level say which words of the level below have any. Assumes nothing.
use Rattle.std.specs.Prelude.{ℕ, ◌+◌, ◌*◌, ◌/◌, ◌%◌, ◌≤◌, ◌<◌, ◌^◌, min, ◌≡◌, ◌≢◌}
use Rattle.std.proofs.Common.{◌∙◌, arith}
use Rattle.std.proofs.Math.Decide.{ℕ_discrete, dec_le}
use Rattle.labels_search.specs.Bits.{bit, lowest_bit, bit_some, bit_below, lowest_bit-set, lowest_bit-least, Only}

-- bit j of the words from `base` on
unfoldable pub bit_at : (ℕ → ℕ) → ℕ → ℕ → ℕ
bit_at f base j = bit (j % 32) (f (base + j / 32))

-- of the bits in `words` words from `base` on, none past the first `size`
abbrev pub Within : (ℕ → ℕ) → ℕ → ℕ → ℕ → Type 0
Within f base size words = (j : ℕ) → size ≤ j → j / 32 < words → bit_at f base j ≡ 0

-- and each says whether the word of the level below has any
pub record Level (f : ℕ → ℕ) (lower upper size words : ℕ) : Type 0 where
  pub each : (j : ℕ) → j < size → bit_at f upper j ≡ min (f (lower + j)) 1
  pub within : Within f upper size words

-- ---- one bit changed

-- the words from `base` on are those of f, but for word b, which is x
pub record WordChanged (f f' : ℕ → ℕ) (base words b x : ℕ) : Type 0 where
  pub same : f' (base + b) ≡ x
  pub other : (j : ℕ) → j < words → j ≢ b → f' (base + j) ≡ f (base + j)

-- and their bits, but for bit v, which is c
pub record BitChanged (f f' : ℕ → ℕ) (base words v c : ℕ) : Type 0 where
  pub same : bit_at f' base v ≡ c
  pub other : (j : ℕ) → j / 32 < words → j ≢ v → bit_at f' base j ≡ bit_at f base j

module _ {f f' : ℕ → ℕ} {base words b x : ℕ} (w : WordChanged f f' base words b x) where
  pub bit-changed : (v c : ℕ) → v / 32 ≡ b → Only (v % 32) c (f (base + b)) x → BitChanged f f' base words v c
  unfolding bit_at
  bit-changed v c e o = record {
    same = rw (e, w.same) o.same;
    other = λ j h k. elim (ℕ_discrete (j / 32) b) [
      | yes q ↦ rw (q, w.same) (o.other (j % 32) (omega (arith, k)))
      | no q ↦ rw (w.other (j / 32) h q)
    ];
  }

module _ {f f' : ℕ → ℕ} {base words v c : ℕ} (b : BitChanged f f' base words v c) where
  pub within_changed : (size : ℕ) → v < size → Within f base size words → Within f' base size words
  within_changed size h g j k l = b.other j l (omega arith) ∙ g j k l

  pub level_changed : (lower size x : ℕ) → v < size → size ≤ 32 * words → c ≡ min x 1 → WordChanged f f' lower size v x
      → Level f lower base size words → Level f' lower base size words
  level_changed lower size x h room e w g = record {
    each = λ j k. elim (ℕ_discrete j v) [
      | yes q ↦ rw (q, w.same) (b.same ∙ e)
      | no q ↦ b.other j (omega arith) q ∙ g.each j k ∙ rw (w.other j k q)
    ];
    within = within_changed size h g.within;
  }

-- ---- a bit, and the word that it stands in

pub at_some : (f : ℕ → ℕ) (base j : ℕ) → bit_at f base j ≡ 1 → 0 < f (base + j / 32)
unfolding bit_at
at_some f base j e = bit_some (j % 32) (f (base + j / 32)) e

-- the lowest bit of word i
module _ (f : ℕ → ℕ) (base i : ℕ) (some : 0 < f (base + i)) (small : f (base + i) < 2 ^ 32) where
  abbrev pub first : ℕ
  first = 32 * i + lowest_bit (f (base + i))

  first_fits : lowest_bit (f (base + i)) < 32
  first_fits = bit_below (lowest_bit (f (base + i))) 32 (f (base + i)) (lowest_bit-set (f (base + i)) some (omega arith)) small

  pub first_word : first / 32 ≡ i
  first_word = omega (arith, first_fits)

  pub first_bit : first % 32 ≡ lowest_bit (f (base + i))
  first_bit = omega (arith, first_fits)

  pub first-set : bit_at f base first ≡ 1
  unfolding bit_at
  first-set = rw (first_bit, first_word) (lowest_bit-set (f (base + i)) some (omega arith))

  pub first-least : (j : ℕ) → j / 32 ≡ i → bit_at f base j ≡ 1 → first ≤ j
  unfolding bit_at
  first-least j e s =
      let s' : bit (j % 32) (f (base + i)) ≡ 1 = rw e at s in
      omega (arith, lowest_bit-least (f (base + i)) some (omega arith) (j % 32) s')

  pub first_within : (size words : ℕ) → i < words → Within f base size words → first < size
  first_within size words h w = elim (dec_le size first) [
    | yes l ↦ absurd (omega (arith, first-set, w first l (omega (arith, first_word))))
    | no l ↦ omega arith
  ]

-- and the words of the other levels: one with a set bit is no 0, and so its bit above is set
module _ (f : ℕ → ℕ) (lower upper size words : ℕ) (g : Level f lower upper size words) where
  pub level_up : (j : ℕ) → j < size → 0 < f (lower + j) → bit_at f upper j ≡ 1
  level_up j h k = omega (arith, g.each j h)

  pub level_down : (j : ℕ) → j < size → bit_at f upper j ≡ 1 → 0 < f (lower + j)
  level_down j h e = omega (arith, g.each j h)
