-- Row 8 by a walk over the triangles from the outer one. A triangle is entered across one of its sides, by a dart of its own, and left by the two
-- others. It is marked by a flag once it is reached. Those that wait to be left stand in a queue; where few do, the walk goes on to a triangle just
-- reached. Assumes nothing.
use Prim.Native.Nat.{ℕ, zero, suc, ◌+◌, ◌-◌, ◌*◌, ◌/◌, ◌≤◌, ◌<◌}
use Rattle.std.specs.Int.{from_bool}
use Rattle.std.specs.Prelude.{◌≡◌, ◌≢◌, ◌⊎◌, Bool, cond, eqb, ltb, length}
use Rattle.std.proofs.Math.Path.{refl, sym, ap}
use Rattle.std.proofs.Common.{◌∙◌, ⊎_elim, eq-eqb, ne_eqb, lt-ltb, le-ltb}
use Rattle.std.proofs.Math.Logic.{inl, inr}
use Rattle.std.proofs.Math.Bool.{true, false}
use mathlib.Core.List.Memᴰ
use mathlib.Core.List.{List, [], ◌∷◌}
use native.Mathlib.Omega.{arith}
use Rattle.std.proofs.Math.Decide.{ℕ_discrete, dec_le}
use Rattle.definitions.specs.Lists.{upto}
use Rattle.definitions.specs.Mesh.{tri, next, prev, opp, row8}
use Rattle.laws.specs.Chain.{Chain, stop, step}
use Rattle.laws.specs.Lists.{◌∈◌, tested, clash, unfalse, upto_in, in_upto, length-upto}
use Rattle.laws.specs.Counting.{Distinct, nil, cons, distinct_within, distinct_full, distinct_upto}
use Rattle.theory_sphere.specs.Darts.{same-tri, tri-below, tri-next, tri-prev, tri-outer, prev-prev, prev-below, next-below}
use Rattle.theory_sphere.specs.Components.{row8-joined}
use Rattle.scratch_tables.specs.Tables.{upd, upd_same, upd-at, upd_other}

pub record Front : Type 0 where
  -- of a triangle: 0 until it is reached
  pub flag : ℕ → ℕ
  -- the darts by which triangles were entered: those from `from` on and before `to` wait to be left
  pub queue : ℕ → ℕ
  pub from : ℕ
  pub to : ℕ
  -- the dart by which the triangle at hand was entered; there is none once `from` is past `to`
  pub dart : ℕ

-- the triangle of dart x is not reached yet
unfoldable pub is_new : ℕ → (ℕ → ℕ) → Bool
is_new x flag = eqb (flag (tri x)) 0

-- now it is
unfoldable pub reach : ℕ → (ℕ → ℕ) → ℕ → ℕ
reach x flag = upd (tri x) 1 flag

abbrev pub gain : Bool → ℕ
gain = from_bool

-- the first that waits is at hand
unfoldable pub pop : (ℕ → ℕ) → (ℕ → ℕ) → ℕ → ℕ → Front
pop flag queue from to = record { flag = flag; queue = queue; from = from + 1; to = to; dart = queue from }

-- p and q tell whether the triangles of darts a and b were new. Where many wait, these join the queue; a store that is not counted does no harm.
unfoldable pub wide : ℕ → ℕ → Bool → Bool → (ℕ → ℕ) → (ℕ → ℕ) → ℕ → ℕ → Front
wide a b p q flag queue from to = pop flag (upd (to + gain p) b (upd to a queue)) from (to + gain p + gain q)

-- Where few do, the walk goes on by a, or else by b; where both were new, b waits.
unfoldable pub narrow : ℕ → ℕ → Bool → Bool → (ℕ → ℕ) → (ℕ → ℕ) → ℕ → ℕ → Front
narrow a b true q flag queue from to = record { flag = flag; queue = upd to b queue; from = from; to = to + gain q; dart = a }
narrow a b false true flag queue from to = record { flag = flag; queue = queue; from = from; to = to; dart = b }
narrow a b false false flag queue from to = pop flag queue from to

unfoldable pub onward : ℕ → ℕ → Bool → Bool → (ℕ → ℕ) → (ℕ → ℕ) → ℕ → ℕ → Front
onward a b p q flag queue from to = cond (ltb 8 (to - from)) (wide a b p q flag queue from to) (narrow a b p q flag queue from to)

-- the triangle at hand is left for those of darts a and b
unfoldable pub leave_for : ℕ → ℕ → Front → Front
leave_for a b f =
    onward a b (is_new a f.flag) (is_new b (reach a f.flag)) (reach b (reach a f.flag)) f.queue f.from f.to

-- and these are the darts across its two other sides
unfoldable pub leave : (ℕ → ℕ) → Front → Front
leave turn f = leave_for (turn f.dart) (turn (prev f.dart)) f

-- before k triangles are left none is at hand
unfoldable pub explore : (ℕ → ℕ) → ℕ → Front → Bool
explore turn zero f = false
explore turn (suc k) f = cond (ltb f.to f.from) true (explore turn k (leave turn f))

-- The outer triangle is reached, and then the one across its dart 0, by dart y. The outer one stays to be left by its two other sides.
unfoldable pub start_by : ℕ → (ℕ → ℕ) → (ℕ → ℕ) → Front
start_by y flag queue = narrow y 0 (is_new y flag) true (reach y flag) queue 0 0

unfoldable pub begin : (ℕ → ℕ) → (ℕ → ℕ) → (ℕ → ℕ) → Front
begin turn flag queue = start_by (turn 1) (upd 0 1 flag) queue

-- ---- what is known on the way

-- `opp` pairs the darts of m triangles, and a turn leads across the side before
pub record Pairs (m : ℕ) (turn opp : ℕ → ℕ) : Type 0 where
  pub dart : (d : ℕ) → d < 3 * m → opp d < 3 * m
  pub twice : (d : ℕ) → d < 3 * m → opp (opp d) ≡ d
  pub turns : (d : ℕ) → d < 3 * m → turn d ≡ opp (prev d)

-- e is another dart of the triangle of x
abbrev Other : ℕ → ℕ → Type 0
Other x e = (e ≡ next x) ⊎ (e ≡ prev x)

pub gain_most : (p : Bool) → gain p ≤ 1
gain_most true = omega arith
gain_most false = omega arith

-- `new` is `old`, and t where p says so
record Grown (p : Bool) (t : ℕ) (old new : List ℕ) : Type 0 where
  keeps : (u : ℕ) → u ∈ old → u ∈ new
  has : t ∈ new
  only : (u : ℕ) → u ∈ new → (u ∈ old) ⊎ ((p ≡ true) × (u ≡ t))
  long : length new ≡ gain p + length old

module _ (m : ℕ) where
  -- the triangles whose flag is not 0
  record Known (reached : List ℕ) (flag : ℕ → ℕ) : Type 0 where
    seen : (t : ℕ) → t ∈ reached → flag t ≢ 0
    unseen : (t : ℕ) → t < m → flag t ≢ 0 → t ∈ reached
    below : (t : ℕ) → t ∈ reached → t < m
    once : Distinct reached

  few : {reached : List ℕ} {flag : ℕ → ℕ} → Known reached flag → length reached ≤ m
  few K = omega (arith, distinct_within K.once (upto m) (λ t k. in_upto m t (K.below t k)), length-upto m)

  -- x is a dart of a reached triangle
  record Entered (reached : List ℕ) (x : ℕ) : Type 0 where
    below : x < 3 * m
    there : tri x ∈ reached

  module _ (opp : ℕ → ℕ) where
    -- steps across sides lead from triangle t to the outer one
    abbrev Linked : ℕ → Type 0
    Linked t = Chain (λ d. d < 3 * m) tri (λ d. tri (opp d)) 0 t

    -- i triangles are left, and each side of a reached one leads to a reached one, or belongs to one that waits and was not entered there
    pub record Reached (i : ℕ) (f : Front) : Type 0 where
      reached : List ℕ
      known : Known reached f.flag
      count : i + f.to + 1 ≡ length reached + f.from
      order : f.from ≤ f.to + 1
      short : f.to ≤ length reached
      outer : 0 ∈ reached
      linked : (t : ℕ) → t ∈ reached → Linked t
      hand : f.from ≤ f.to → Entered reached f.dart
      entries : (j : ℕ) → f.from ≤ j → j < f.to → Entered reached (f.queue j)
      closed : (e : ℕ) → e < 3 * m → tri e ∈ reached → (tri (opp e) ∈ reached)
          ⊎ (((f.from ≤ f.to) × Other f.dart e) ⊎ ((j : ℕ) × (f.from ≤ j) × (j < f.to) × Other (f.queue j) e))

    -- the triangle at hand is left, and p and q tell whether those of a and b are yet to be left
    record Midway (i a b : ℕ) (p q : Bool) (flag queue : ℕ → ℕ) (from to : ℕ) : Type 0 where
      reached : List ℕ
      known : Known reached flag
      count : i + to + gain p + gain q ≡ length reached + from
      order : from ≤ to
      short : to + gain p + gain q ≤ length reached
      outer : 0 ∈ reached
      linked : (t : ℕ) → t ∈ reached → Linked t
      one : p ≡ true → Entered reached a
      two : q ≡ true → Entered reached b
      entries : (j : ℕ) → from ≤ j → j < to → Entered reached (queue j)
      closed : (e : ℕ) → e < 3 * m → tri e ∈ reached → (tri (opp e) ∈ reached) ⊎ (((p ≡ true) × Other a e)
          ⊎ (((q ≡ true) × Other b e) ⊎ ((j : ℕ) × (from ≤ j) × (j < to) × Other (queue j) e)))

    -- all that wait are in the queue
    pop_goes : (i a b : ℕ) (flag queue : ℕ → ℕ) (from to : ℕ) → Midway i a b false false flag queue from to → Reached i (pop flag queue from to)
    unfolding pop
    pop_goes i a b flag queue from to M = record {
      reached = M.reached;
      known = M.known;
      count = omega (arith, M.count);
      order = omega (arith, M.order);
      short = omega (arith, M.short);
      outer = M.outer;
      linked = M.linked;
      hand = λ h. M.entries from (omega arith) (omega arith);
      entries = λ j h l. M.entries j (omega arith) l;
      closed = λ e l k.
          elim (M.closed e l k) [
            | inl x ↦ inl x
            | inr (inl x) ↦ clash x.0 refl
            | inr (inr (inl x)) ↦ clash x.0 refl
            | inr (inr (inr x)) ↦
                elim (ℕ_discrete x.0 from) [
                  | yes z ↦ inr (inl (omega (arith, z, x.2), rw z at x.3))
                  | no z ↦ inr (inr (x.0, omega (arith, z, x.1), x.2, x.3))
                ]
          ];
    }

    -- they join it: a where p says so, and b where q does
    queued_a : (i a b : ℕ) (p q : Bool) (flag queue : ℕ → ℕ) (from to : ℕ) → Midway i a b p q flag queue from to
        → Midway i a b false q flag (upd to a queue) from (to + gain p)
    queued_a i a b p q flag queue from to M =
        let old : (j : ℕ) → j < to → upd to a queue j ≡ queue j = λ j h. upd_other to j a queue (omega arith) in
        go p M old
      where
        go : (p : Bool) → Midway i a b p q flag queue from to → ((j : ℕ) → j < to → upd to a queue j ≡ queue j)
            → Midway i a b false q flag (upd to a queue) from (to + gain p)
        go true M old = record {
          reached = M.reached;
          known = M.known;
          count = omega (arith, M.count);
          order = omega (arith, M.order);
          short = omega (arith, M.short);
          outer = M.outer;
          linked = M.linked;
          one = λ e. clash e refl;
          two = M.two;
          entries = λ j h l.
              elim (ℕ_discrete j to) [
                | yes z ↦ rw (upd-at to j a queue z) (M.one refl)
                | no z ↦ rw (old j (omega (arith, z))) (M.entries j h (omega (arith, z)))
              ];
          closed = λ e l k.
              elim (M.closed e l k) [
                | inl x ↦ inl x
                | inr (inl x) ↦ inr (inr (inr (to, M.order, omega arith, rw (upd_same to a queue) x.1)))
                | inr (inr (inl x)) ↦ inr (inr (inl x))
                | inr (inr (inr x)) ↦ inr (inr (inr (x.0, x.1, omega (arith, x.2), rw (old x.0 x.2) x.3)))
              ];
        }
        go false M old =
            let z : to + 0 ≡ to = omega arith in
            rw z record {
              reached = M.reached;
              known = M.known;
              count = omega (arith, M.count);
              order = M.order;
              short = omega (arith, M.short);
              outer = M.outer;
              linked = M.linked;
              one = M.one;
              two = M.two;
              entries = λ j h l. rw (old j l) (M.entries j h l);
              closed = λ e l k.
                  elim (M.closed e l k) [
                    | inl x ↦ inl x
                    | inr (inl x) ↦ inr (inl x)
                    | inr (inr (inl x)) ↦ inr (inr (inl x))
                    | inr (inr (inr x)) ↦ inr (inr (inr (x.0, x.1, x.2, rw (old x.0 x.2) x.3)))
                  ];
            }

    exchanged : (i a b : ℕ) (p q : Bool) (flag queue : ℕ → ℕ) (from to : ℕ) → Midway i a b p q flag queue from to
        → Midway i b a q p flag queue from to
    exchanged i a b p q flag queue from to M = record {
      reached = M.reached;
      known = M.known;
      count = omega (arith, M.count);
      order = M.order;
      short = omega (arith, M.short);
      outer = M.outer;
      linked = M.linked;
      one = M.two;
      two = M.one;
      entries = M.entries;
      closed = λ e l k.
          elim (M.closed e l k) [
            | inl x ↦ inl x
            | inr (inl x) ↦ inr (inr (inl x))
            | inr (inr (inl x)) ↦ inr (inl x)
            | inr (inr (inr x)) ↦ inr (inr (inr x))
          ];
    }

    wide-goes : (i a b : ℕ) (p q : Bool) (flag queue : ℕ → ℕ) (from to : ℕ) → Midway i a b p q flag queue from to
        → Reached i (wide a b p q flag queue from to)
    unfolding wide
    wide-goes i a b p q flag queue from to M =
        let M₁ = queued_a i a b p q flag queue from to M in
        let M₂ = exchanged i a b false q flag (upd to a queue) from (to + gain p) M₁ in
        let M₃ = queued_a i b a q false flag (upd to a queue) from (to + gain p) M₂ in
        pop_goes i b a flag (upd (to + gain p) b (upd to a queue)) from (to + gain p + gain q) M₃

    -- one of them is at hand, and the queue has all others
    at_hand_goes : (i a b : ℕ) (flag queue : ℕ → ℕ) (from to : ℕ) → Midway i a b true false flag queue from to
        → Reached i (record { flag = flag; queue = queue; from = from; to = to; dart = a })
    at_hand_goes i a b flag queue from to M = record {
      reached = M.reached;
      known = M.known;
      count = omega (arith, M.count);
      order = omega (arith, M.order);
      short = omega (arith, M.short);
      outer = M.outer;
      linked = M.linked;
      hand = λ h. M.one refl;
      entries = M.entries;
      closed = λ e l k.
          elim (M.closed e l k) [
            | inl x ↦ inl x
            | inr (inl x) ↦ inr (inl (M.order, x.1))
            | inr (inr (inl x)) ↦ clash x.0 refl
            | inr (inr (inr x)) ↦ inr (inr x)
          ];
    }

    narrow-goes : (i a b : ℕ) (p q : Bool) (flag queue : ℕ → ℕ) (from to : ℕ) → Midway i a b p q flag queue from to
        → Reached i (narrow a b p q flag queue from to)
    unfolding narrow
    narrow-goes i a b true q flag queue from to M =
        let M₁ = queued_a i b a q true flag queue from to (exchanged i a b true q flag queue from to M) in
        at_hand_goes i a b flag (upd to b queue) from (to + gain q) (exchanged i b a false true flag (upd to b queue) from (to + gain q) M₁)
    narrow-goes i a b false true flag queue from to M =
        at_hand_goes i b a flag queue from to (exchanged i a b false true flag queue from to M)
    narrow-goes i a b false false flag queue from to M = pop_goes i a b flag queue from to M

    onward-goes : (i a b : ℕ) (p q : Bool) (flag queue : ℕ → ℕ) (from to : ℕ) → Midway i a b p q flag queue from to
        → Reached i (onward a b p q flag queue from to)
    unfolding onward
    onward-goes i a b p q flag queue from to M =
        elim (tested (ltb 8 (to - from))) [
          | inl c ↦ rw c (wide-goes i a b p q flag queue from to M)
          | inr c ↦ rw c (narrow-goes i a b p q flag queue from to M)
        ]

  -- one more triangle is reached, where it was not
  reach_known : (t : ℕ) (reached : List ℕ) (flag : ℕ → ℕ) → t < m → Known reached flag
      → (new : List ℕ) × Known new (upd t 1 flag) × Grown (eqb (flag t) 0) t reached new
  reach_known t reached flag h K =
      elim (ℕ_discrete (flag t) 0) [
        | yes z ↦
            let fresh : t ∈ reached → ⊥ = λ k. K.seen t k z in (
              t ∷ reached,
              record {
                seen = λ u k.
                    ⊎_elim
                    (λ q. rw (upd-at t u 1 flag q) (omega arith))
                    (λ k. rw (upd_other t u 1 flag (λ q. fresh (Memᴰ.cast (sym q) k))) (K.seen u k))
                    (Memᴰ.cases_cons k);
                unseen = λ u l k.
                    elim (ℕ_discrete u t) [
                      | yes q ↦ Memᴰ.head q
                      | no q ↦ Memᴰ.tail (K.unseen u l (rw (upd_other t u 1 flag q) at k))
                    ];
                below = λ u k. ⊎_elim (λ q. rw q h) (λ k. K.below u k) (Memᴰ.cases_cons k);
                once = cons fresh K.once;
              },
              rw (eq-eqb (flag t) 0 z) record {
                keeps = λ u k. Memᴰ.tail k;
                has = Memᴰ.head refl;
                only = λ u k. ⊎_elim (λ q. inr (refl, q)) (λ k. inl k) (Memᴰ.cases_cons k);
                long = omega arith;
              },
            )
        | no z ↦ (
          reached,
          record {
            seen = λ u k.
                elim (ℕ_discrete u t) [
                  | yes q ↦ rw (upd-at t u 1 flag q) (omega arith)
                  | no q ↦ rw (upd_other t u 1 flag q) (K.seen u k)
                ];
            unseen = λ u l k.
                elim (ℕ_discrete u t) [
                  | yes q ↦ Memᴰ.cast q (K.unseen t h z)
                  | no q ↦ K.unseen u l (rw (upd_other t u 1 flag q) at k)
                ];
            below = K.below;
            once = K.once;
          },
          rw (ne_eqb (flag t) 0 z) record {
            keeps = λ u k. k;
            has = K.unseen t h z;
            only = λ u k. inl k;
            long = omega arith;
          },
        )
      ]

module _ (m : ℕ) (turn opp : ℕ → ℕ) (P : Pairs m turn opp) where
  -- across a side of a linked triangle there is a linked one
  across : (d : ℕ) → d < 3 * m → Linked m opp (tri d) → Linked m opp (tri (opp d))
  across d h c = step (opp d) (P.dart d h) refl (rw (P.twice d h) c)

  -- x leads into the triangle of x, across a side d of a reached one
  record Across (reached : List ℕ) (d x : ℕ) : Type 0 where
    side : d < 3 * m
    from : tri d ∈ reached
    leads : x ≡ opp d

  across-below : {reached : List ℕ} {d x : ℕ} → Across reached d x → x < 3 * m
  across-below {d = d} A = rw A.leads (P.dart d A.side)

  across_linked : {reached : List ℕ} {d x : ℕ} → Across reached d x → ((t : ℕ) → t ∈ reached → Linked m opp t) → Linked m opp (tri x)
  across_linked {d = d} A L = rw A.leads (across d A.side (L (tri d) A.from))

  -- of a triangle that is entered by x, the side of x leads back, and the others are yet to be left by
  entered_closed : {reached new : List ℕ} {d : ℕ} (x e : ℕ) → Across reached d x → ((t : ℕ) → t ∈ reached → t ∈ new) → tri e ≡ tri x
      → (tri (opp e) ∈ new) ⊎ Other x e
  entered_closed {d = d} x e A keeps q =
      elim (same-tri x e (sym q)) [
        | inl z ↦
            let back : opp e ≡ d = ap opp (z ∙ A.leads) ∙ P.twice d A.side in
            inl (rw back (keeps (tri d) A.from))
        | inr z ↦ inr z
      ]

  -- ---- a turn of the walk

  leave_midway : (i : ℕ) (f : Front) → f.from ≤ f.to → Reached m opp i f
      → let a = turn f.dart in let b = turn (prev f.dart) in
      Midway m opp (suc i) a b (is_new a f.flag) (is_new b (reach a f.flag)) (reach b (reach a f.flag)) f.queue f.from f.to
  unfolding is_new reach
  leave_midway i f w R =
      let d = f.dart in
      let hand = R.hand w in
      let A : Across R.reached (prev d) (turn d) = record {
        side = prev-below m d hand.below;
        from = rw (tri-prev d) hand.there;
        leads = P.turns d hand.below;
      } in
      let B : Across R.reached (next d) (turn (prev d)) = record {
        side = next-below m d hand.below;
        from = rw (tri-next d) hand.there;
        leads = P.turns (prev d) (prev-below m d hand.below) ∙ ap opp (prev-prev d);
      } in
      let a = turn d in
      let b = turn (prev d) in
      let K₁ = reach_known m (tri a) R.reached f.flag (tri-below m a (across-below A)) R.known in
      let K₂ = reach_known m (tri b) K₁.0 (upd (tri a) 1 f.flag) (tri-below m b (across-below B)) K₁.1 in
      let G₁ = K₁.2 in
      let G₂ = K₂.2 in
      let keeps : (t : ℕ) → t ∈ R.reached → t ∈ K₂.0 = λ t k. G₂.keeps t (G₁.keeps t k) in
      record {
        reached = K₂.0;
        known = K₂.1;
        count = omega (arith, R.count, G₁.long, G₂.long);
        order = w;
        short = omega (arith, R.short, G₁.long, G₂.long);
        outer = keeps 0 R.outer;
        linked = λ t k.
            elim (G₂.only t k) [
              | inr x ↦ rw x.1 (across_linked B R.linked)
              | inl x ↦ elim (G₁.only t x) [
                | inr y ↦ rw y.1 (across_linked A R.linked)
                | inl y ↦ R.linked t y
              ]
            ];
        one = λ e. record { below = across-below A; there = G₂.keeps (tri a) G₁.has };
        two = λ e. record { below = across-below B; there = G₂.has };
        entries = λ j h l. let E = R.entries j h l in record { below = E.below; there = keeps (tri (f.queue j)) E.there };
        closed = λ e l k.
            elim (G₂.only (tri e) k) [
              | inr x ↦ elim (entered_closed b e B keeps x.1) [ inl y ↦ inl y | inr y ↦ inr (inr (inl (x.0, y))) ]
              | inl k₁ ↦ elim (G₁.only (tri e) k₁) [
                | inr x ↦ elim (entered_closed a e A keeps x.1) [ inl y ↦ inl y | inr y ↦ inr (inl (x.0, y)) ]
                | inl k₀ ↦ elim (R.closed e l k₀) [
                  | inl y ↦ inl (keeps (tri (opp e)) y)
                  | inr (inl (h, inl y)) ↦ inl (Memᴰ.cast (ap tri (ap opp y ∙ sym B.leads)) G₂.has)
                  | inr (inl (h, inr y)) ↦ inl (Memᴰ.cast (ap tri (ap opp y ∙ sym A.leads)) (G₂.keeps (tri a) G₁.has))
                  | inr (inr y) ↦ inr (inr (inr y))
                ]
              ]
            ];
      }

  -- the dart at hand is one of 3 m
  pub at_hand : (i : ℕ) (f : Front) → f.from ≤ f.to → Reached m opp i f → f.dart < 3 * m
  at_hand i f w R = (R.hand w).below

  pub turn_below : (d : ℕ) → d < 3 * m → turn d < 3 * m
  turn_below d h = rw (P.turns d h) (P.dart (prev d) (prev-below m d h))

  pub leave-goes : (i : ℕ) (f : Front) → f.from ≤ f.to → Reached m opp i f → Reached m opp (suc i) (leave turn f)
  unfolding leave leave_for
  leave-goes i f w R =
      let a = turn f.dart in
      let b = turn (prev f.dart) in
      onward-goes m opp (suc i) a b (is_new a f.flag) (is_new b (reach a f.flag)) (reach b (reach a f.flag)) f.queue f.from f.to
      (leave_midway i f w R)

  -- how far the queue reaches, once the two triangles across are counted
  pub leave_short : (i : ℕ) (f : Front) → f.from ≤ f.to → Reached m opp i f
      → let a = turn f.dart in let b = turn (prev f.dart) in
      f.to + gain (is_new a f.flag) + gain (is_new b (reach a f.flag)) ≤ m
  leave_short i f w R = let M = leave_midway i f w R in omega (arith, M.short, few m M.known)

  -- ---- the start

  outer_known : (flag : ℕ → ℕ) → 0 < m → ((t : ℕ) → t < m → flag t ≡ 0) → Known m (0 ∷ []) (upd 0 1 flag)
  outer_known flag some zeros = record {
    seen = λ t k. rw (upd-at 0 t 1 flag (Memᴰ.eq_of_singleton k)) (omega arith);
    unseen = λ t l k.
        elim (ℕ_discrete t 0) [
          | yes q ↦ Memᴰ.head q
          | no q ↦ absurd (k (upd_other 0 t 1 flag q ∙ zeros t l))
        ];
    below = λ t k. omega (arith, Memᴰ.eq_of_singleton k);
    once = cons (λ k. Memᴰ.not-nil k) nil;
  }

  start_midway : (flag queue : ℕ → ℕ) → 0 < m → Known m (0 ∷ []) flag
      → Midway m opp 0 (turn 1) 0 (is_new (turn 1) flag) true (reach (turn 1) flag) queue 0 0
  unfolding is_new reach prev next
  start_midway flag queue some K =
      let y = turn 1 in
      let first : List ℕ = 0 ∷ [] in
      let zero_in : 0 ∈ first = Memᴰ.head refl in
      let A : Across first 0 y = record { side = omega arith; from = rw (tri-outer 0 (omega arith)) zero_in; leads = P.turns 1 (omega arith) } in
      let K₁ = reach_known m (tri y) first flag (tri-below m y (across-below A)) K in
      let G = K₁.2 in
      let outer : 0 ∈ K₁.0 = G.keeps 0 zero_in in
      let start : (t : ℕ) → t ∈ first → Linked m opp t = λ t k. stop (Memᴰ.eq_of_singleton k) in
      record {
        reached = K₁.0;
        known = K₁.1;
        count = omega (arith, G.long);
        order = omega arith;
        short = omega (arith, G.long);
        outer = outer;
        linked = λ t k.
            elim (G.only t k) [
              | inr x ↦ rw x.1 (across_linked A start)
              | inl x ↦ start t x
            ];
        one = λ e. record { below = across-below A; there = G.has };
        two = λ e. record { below = omega arith; there = Memᴰ.cast (tri-outer 0 (omega arith)) outer };
        entries = λ j h l. absurd (omega arith);
        closed = λ e l k.
            elim (G.only (tri e) k) [
              | inr x ↦ elim (entered_closed y e A G.keeps x.1) [ inl y ↦ inl y | inr y ↦ inr (inl (x.0, y)) ]
              | inl x ↦ elim (same-tri 0 e (tri-outer 0 (omega arith) ∙ sym (Memᴰ.eq_of_singleton x))) [
                | inl z ↦ inl (Memᴰ.cast (ap tri (ap opp z ∙ sym A.leads)) G.has)
                | inr z ↦ inr (inr (inl (refl, z)))
              ]
            ];
      }

  pub begin-goes : (flag queue : ℕ → ℕ) → 0 < m → ((t : ℕ) → t < m → flag t ≡ 0) → Reached m opp 0 (begin turn flag queue)
  unfolding begin start_by
  begin-goes flag queue some zeros =
      let first = upd 0 1 flag in
      narrow-goes m opp 0 (turn 1) 0 (is_new (turn 1) first) true (reach (turn 1) first) queue 0 0
      (start_midway first queue some (outer_known flag some zeros))

  -- ---- the end

  -- where none is at hand, what is linked to the outer triangle is reached
  linked_reached : {i : ℕ} {f : Front} (R : Reached m opp i f) → f.to < f.from → {t : ℕ} → Linked m opp t → t ∈ R.reached
  linked_reached R w (stop e) = Memᴰ.cast e R.outer
  linked_reached R w (step d h e c) =
      let back : tri (opp (opp d)) ≡ tri d = ap tri (P.twice d h) in
      Memᴰ.cast (sym e)
      (elim (R.closed (opp d) (P.dart d h) (linked_reached R w c)) [
        | inl x ↦ rw back at x
        | inr (inl x) ↦ absurd (omega (arith, x.0))
        | inr (inr x) ↦ absurd (omega (arith, x.1, x.2))
      ])

  -- Where none is too soon, a triangle is not linked.
  explore-true : (k i : ℕ) (f : Front) → i + k ≡ m → Reached m opp i f → explore turn k f ≡ true → ((t : ℕ) → t < m → Linked m opp t) → ⊥
  unfolding explore
  explore-true zero i f e R x all = clash x refl
  explore-true (suc k) i f e R x all =
      elim (dec_le f.from f.to) [
        | no w ↦
            omega (
              arith,
              R.count,
              R.order,
              length-upto m,
              distinct_within (distinct_upto m) R.reached (λ t k. linked_reached R (omega (arith, w)) (all t (upto_in m k))),
            )
        | yes w ↦
            let R' = leave-goes i f w R in
            explore-true k (suc i) (leave turn f) (omega arith) R' (rw (le-ltb f.to f.from w) at x) all
      ]

  -- Otherwise as many are reached as there are.
  explore-false : (k i : ℕ) (f : Front) → i + k ≡ m → Reached m opp i f → explore turn k f ≡ false → (t : ℕ) → t < m → Linked m opp t
  unfolding explore
  explore-false zero i f e R x t h =
      let within : (u : ℕ) → u ∈ R.reached → u ∈ upto m = λ u k. in_upto m u (R.known.below u k) in
      R.linked t (distinct_full R.known.once (upto m) within (omega (arith, R.count, R.order, length-upto m)) t (in_upto m t h))
  explore-false (suc k) i f e R x t h =
      elim (dec_le f.from f.to) [
        | no w ↦ let y : true ≡ false = rw (lt-ltb f.to f.from (omega (arith, w))) at x in clash refl y
        | yes w ↦
            let R' = leave-goes i f w R in
            explore-false k (suc i) (leave turn f) (omega arith) R' (rw (le-ltb f.to f.from w) at x) t h
      ]

-- The walk ends too soon just where row 8 finds a triangle that the outer one does not reach.
module _ (ts : List ℕ) (turn : ℕ → ℕ) (P : Pairs (length ts / 3) turn (opp ts)) where
  pub explore_is : (flag queue : ℕ → ℕ) → 0 < length ts / 3 → ((t : ℕ) → t < length ts / 3 → flag t ≡ 0)
      → explore turn (length ts / 3) (begin turn flag queue) ≡ row8 ts
  explore_is flag queue some zeros =
      let T = length ts / 3 in
      let R = begin-goes T turn (opp ts) P flag queue some zeros in
      let f = begin turn flag queue in
      elim (tested (explore turn T f)) [
        | inl e ↦ e ∙ sym (unfalse (row8 ts) (λ q. explore-true T turn (opp ts) P T 0 f (omega arith) R e ((row8-joined ts).0 q)))
        | inr e ↦ e ∙ sym ((row8-joined ts).1 (explore-false T turn (opp ts) P T 0 f (omega arith) R e))
      ]
