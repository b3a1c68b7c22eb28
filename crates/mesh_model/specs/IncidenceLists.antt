-- The darts that leave each vertex, as linked lists in the tables. Assumes nothing.
-- `first v` is the first of them, `number v` their number, and `turn d` is the link of dart d. That place is free: the next dart round the origin of d
-- is found while the list of that origin is walked, and replaces the link.
use Prim.Native.Nat.{ℕ, zero, suc, ◌+◌, ◌-◌, ◌≤◌, ◌<◌}
use Rattle.std.specs.Prelude.{◌≡◌, ◌≢◌}
use Rattle.std.proofs.Math.Path.{refl, ap}
use Rattle.std.proofs.Common.{sym, ◌∙◌}
use mathlib.Core.List.Memᴰ
use mathlib.Core.List.{List, [], ◌∷◌}
use native.Mathlib.Omega.{arith}
use Rattle.std.proofs.Math.Decide.{ℕ_discrete}
use Rattle.std.proofs.Math.Dec.{eqb}
use Rattle.std.proofs.Math.ListN.{length}
use borrow.Author.Tests.{eq-eqb, ne_eqb}
use Rattle.definitions.specs.Lists.{range, upto, filter}
use Rattle.definitions.specs.Mesh.{org, darts, outgoing}
use Rattle.laws.specs.Lists.{◌∈◌, filter_in, range_in}
use Rattle.scratch_tables.specs.Tables.{Tables, upd, upd_same, upd_other}
use Rattle.scratch_tables.specs.Fields.{field0, field1}
use Rattle.mesh_tables.specs.Incidence.{Incidence, incidence_of, set_dart, set_list}

-- k darts: d, and those that the links lead to
unfoldable pub chain : (ℕ → ℕ) → ℕ → ℕ → List ℕ
chain turn zero d = []
chain turn (suc k) d = d ∷ chain turn k (turn d)

pub length-chain : (turn : ℕ → ℕ) (k d : ℕ) → length (chain turn k d) ≡ k
unfolding chain
length-chain turn zero d = refl
length-chain turn (suc k) d = ap suc (length-chain turn k (turn d))

-- a store beside the links of a list does not change it
pub chain-other : (turn : ℕ → ℕ) (e x k h : ℕ) → ((d : ℕ) → d ∈ chain turn k h → d ≢ e) → chain (upd e x turn) k h ≡ chain turn k h
unfolding chain
chain-other turn e x zero h f = refl
chain-other turn e x (suc k) h f =
    rw (upd_other e h x turn (f h (Memᴰ.head refl)))
    (ap (λ (zs : List ℕ). h ∷ zs) (chain-other turn e x k (turn h) (λ d m. f d (Memᴰ.tail m))))

-- nor does another function with the same links
pub chain_same : (turn turn' : ℕ → ℕ) (k h : ℕ) → ((d : ℕ) → d ∈ chain turn k h → turn' d ≡ turn d) → chain turn' k h ≡ chain turn k h
unfolding chain
chain_same turn turn' zero h f = refl
chain_same turn turn' (suc k) h f =
    rw (f h (Memᴰ.head refl))
    (ap (λ (zs : List ℕ). h ∷ zs) (chain_same turn turn' k (turn h) (λ d m. f d (Memᴰ.tail m))))

pub chain_head : (turn : ℕ → ℕ) (k d : ℕ) → 0 < k → d ∈ chain turn k d
unfolding chain
chain_head turn zero d h = absurd (omega arith)
chain_head turn (suc k) d h = Memᴰ.head refl

-- a dart put in front of a list
chain-front : (turn : ℕ → ℕ) (h k d : ℕ) → chain (upd d h turn) (suc k) d ≡ d ∷ chain (upd d h turn) k h
unfolding chain
chain-front turn h k d = rw (upd_same d h turn)

-- the darts of vertex v, as its list has them
abbrev pub list_at : Incidence → ℕ → List ℕ
list_at i v = chain i.turn (i.number v) (i.first v)

-- No list has a dart, and there is no mark. What is stored for the darts is any words.
pub record Empty (i : Incidence) : Type 0 where
  pub first : (v : ℕ) → i.first v ≡ 0
  pub number : (v : ℕ) → i.number v ≡ 0
  pub mark : (w : ℕ) → i.mark w ≡ 0

-- zeros in the words of the vertices and in those of the marks
pub zeros_empty : (t : Tables) → ((v : ℕ) → t.head v ≡ 0) → ((w : ℕ) → t.count w ≡ 0) → Empty (incidence_of t)
unfolding incidence_of field0 field1
zeros_empty t h m = record { first = λ v. rw (h v); number = λ v. rw (h v); mark = m }

-- dart d goes to the front of the list of v, its origin
abbrev pub put_first : ℕ → ℕ → Incidence → Incidence
put_first d v i = set_list v d (i.number v + 1) (set_dart d (i.first v) v i)

module _ (ts : List ℕ) where
  -- the words have the origins of the mesh
  abbrev pub Origins : (ℕ → ℕ) → Type 0
  Origins origin = (d : ℕ) → d < length ts → origin d ≡ org ts d

  -- a dart of the mesh does
  unfoldable pub push : ℕ → Incidence → Incidence
  push d i = put_first d (org ts d) i

  -- the darts below k do, the last of them first
  unfoldable pub fill : ℕ → Incidence → Incidence
  fill zero i = i
  fill (suc k) i = fill k (push k i)

  -- the lists hold the darts from d on
  abbrev Holding : ℕ → Incidence → Type 0
  Holding d i = (v : ℕ) → list_at i v ≡ filter (λ e. eqb (org ts e) v) (range d (length ts - d))

  push_holds : (d : ℕ) (i : Incidence) → d < length ts → Holding (suc d) i → Holding d (push d i)
  unfolding push set_dart set_list filter range
  push_holds d i h I v =
      let more : length ts - d ≡ suc (length ts - suc d) = omega arith in
      let later = range (suc d) (length ts - suc d) in
      let beside : (x : ℕ) → chain (upd d x i.turn) (i.number v) (i.first v) ≡ filter (λ e. eqb (org ts e) v) later = λ x.
      chain-other i.turn d x (i.number v) (i.first v) (λ e m q.
      let r = (range_in (suc d) (length ts - suc d) (filter_in (λ e. eqb (org ts e) v) later (rw (I v) at m)).0).0 in
      absurd (omega arith)) ∙ I v in
      elim (ℕ_discrete (org ts d) v) [
        | yes e ↦
            let one : i.number v + 1 ≡ suc (i.number v) = omega arith in
            rw (e, more, upd_same v (i.number v + 1) i.number, upd_same v d i.first, eq-eqb (org ts d) v e, one)
            (chain-front i.turn (i.first v) (i.number v) d ∙ ap (λ (zs : List ℕ). d ∷ zs) (beside (i.first v)))
        | no e ↦
            let f : v ≢ org ts d = λ q. e (sym q) in
            rw (more, upd_other (org ts d) v (i.number (org ts d) + 1) i.number f, upd_other (org ts d) v d i.first f, ne_eqb (org ts d) v e)
            (beside (i.first (org ts d)))
      ]

  fill_holds : (k : ℕ) (i : Incidence) → k ≤ length ts → Holding k i → Holding 0 (fill k i)
  unfolding fill
  fill_holds zero i h I = I
  fill_holds (suc k) i h I = fill_holds k (push k i) (omega arith) (push_holds k i h I)

  -- the lists hold the darts that leave each vertex, in their order
  abbrev pub Bucketed : Incidence → Type 0
  Bucketed i = (v : ℕ) → list_at i v ≡ outgoing ts v

  pub fill_buckets : (i : Incidence) → Empty i → Bucketed (fill (length ts) i)
  unfolding outgoing darts upto chain filter range
  fill_buckets i E v =
      let e : length ts - 0 ≡ length ts = omega arith in
      fill_holds (length ts) i (omega arith) (λ v. let e : length ts - length ts ≡ 0 = omega arith in rw (e, E.number v)) v
      ∙ ap (λ (k : ℕ). filter (λ d. eqb (org ts d) v) (range 0 k)) e

  -- while the lists are filled, a number stays below that of the darts
  abbrev pub Counted : ℕ → Incidence → Type 0
  Counted d i = (v : ℕ) → i.number v + d ≤ length ts

  pub push_counts : (d : ℕ) (i : Incidence) → Counted (suc d) i → Counted d (push d i)
  unfolding push set_dart set_list
  push_counts d i I v =
      elim (ℕ_discrete v (org ts d)) [
        | yes e ↦ rw (e, upd_same (org ts d) (i.number (org ts d) + 1) i.number) (omega (arith, I (org ts d)))
        | no e ↦ rw (upd_other (org ts d) v (i.number (org ts d) + 1) i.number e) (omega (arith, I v))
      ]

  pub empty_counts : (i : Incidence) → Empty i → Counted (length ts) i
  empty_counts i E v = omega (arith, E.number v)

  -- marks stay
  fill-mark : (k : ℕ) (i : Incidence) → (fill k i).mark ≡ i.mark
  unfolding fill push set_dart set_list
  fill-mark zero i = refl
  fill-mark (suc k) i = fill-mark k (push k i)

  pub fill_unmarked : (i : Incidence) → Empty i → (w : ℕ) → (fill (length ts) i).mark w ≡ 0
  fill_unmarked i E w = ap (λ (f : ℕ → ℕ). f w) (fill-mark (length ts) i) ∙ E.mark w

  -- What stays of the lists when the links are gone: each vertex's number of darts, and a dart of it.
  pub record Rooted (i : Incidence) : Type 0 where
    pub number : (v : ℕ) → i.number v ≡ length (outgoing ts v)
    pub dart : (v : ℕ) → 0 < i.number v → i.first v ∈ outgoing ts v

  pub bucketed_rooted : (i : Incidence) → Bucketed i → Rooted i
  bucketed_rooted i B = record {
    number = λ v. sym (length-chain i.turn (i.number v) (i.first v)) ∙ ap length (B v);
    dart = λ v h. rw (B v) at (chain_head i.turn (i.number v) (i.first v) h);
  }
