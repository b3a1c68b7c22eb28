-- Rows 5 and 6 by marks, and the turns: once the darts that leave a vertex have left their marks, each of them finds the opposite of the dart before it,
-- which arrives there, at the vertex that that one comes from. It is stored in place of a link that is needed no more. Assumes nothing.
use Prim.Native.Nat.{ℕ, zero, suc, ◌+◌, ◌*◌, ◌%◌, ◌≤◌, ◌<◌}
use Rattle.std.specs.Prelude.{◌≡◌, ◌≢◌, Bool, ◌&&◌, Result, Ok, Err}
use Rattle.std.proofs.Math.Path.{refl, sym, ap}
use Rattle.std.proofs.Common.{◌∙◌, ⊎_elim}
use Rattle.std.proofs.Math.Logic.{inl, inr}
use Rattle.std.proofs.Math.Bool.{true, false, cond, not}
use mathlib.Core.List.Memᴰ
use mathlib.Core.List.{List, [], ◌∷◌}
use native.Mathlib.Omega.{arith}
use Rattle.std.proofs.Math.Decide.{ℕ_discrete, dec_lt}
use Rattle.std.proofs.Math.ListN.{length}
use Rattle.definitions.specs.Lists.{any}
use Rattle.definitions.specs.Mesh.{next, prev, org, tip, opposite, opp, darts, outgoing, row5, row6}
use Rattle.laws.specs.Lists.{◌∈◌, and_both, tested, clash, untrue, true-any, false-any}
use Rattle.laws.specs.Counting.{Distinct, distinct_head, distinct_tail}
use Rattle.theory_sphere.specs.Darts.{next-prev, prev-next, next-below, prev-below}
use Rattle.theory_sphere.specs.Rows.{in_darts, darts_in, outgoing_in, in_outgoing, distinct_outgoing, opposite-true, opp_is, row5_means, row6_means}
use Rattle.scratch_tables.specs.Tables.{upd, upd_same, upd_other}
use Rattle.mesh_tables.specs.Incidence.{Incidence, with_turn, with_mark}
use Rattle.mesh_model.specs.IncidenceLists.{chain, chain-other, chain_same, Origins, Bucketed, Rooted}
use Rattle.mesh_model.specs.DuplicateSides.{noted-dart, is_of, is_of_lem, noted_is, Before, Scan, scan, scan_all, Noted, leads, Apart, ListedFrom}
use Rattle.mesh_model.specs.DuplicateSides.{scan-row5, scan_leaving, noted_apart, apart_row5, scan_all-row5, scan_all_apart}
use Rattle.mesh_model.specs.RingWalk.{one_ring, ring-same}
use Rattle.mesh_answer.specs.declared.Refusal.{Refusal}
use Rattle.mesh_answer.specs.declared.Refusal.TheVariants.{RepeatedSide, UnpairedSide}

pub record Join : Type 0 where
  pub lacks : Bool
  pub turn : ℕ → ℕ

-- what is found, row 5 or 6, or else whether each vertex has one ring; and the tables then
pub record Round : Type 0 where
  pub answer : Result Bool Refusal
  pub turn : ℕ → ℕ
  pub mark : ℕ → ℕ

-- `origin` is the table of the darts' origins
module _ (origin : ℕ → ℕ) where
  -- the dart that left its mark where the dart before d comes from
  unfoldable pub facing : (ℕ → ℕ) → ℕ → ℕ
  facing mark d = mark (origin (prev d)) % 65536

  -- it is a dart of v, as d is: so it is the opposite of the dart before d
  unfoldable pub meets : ℕ → (ℕ → ℕ) → ℕ → Bool
  meets v mark d = is_of v (mark (origin (prev d)))

  -- k darts of v from d on, by their links
  unfoldable pub join : ℕ → (ℕ → ℕ) → ℕ → ℕ → (ℕ → ℕ) → Join
  join v mark zero d turn = record { lacks = false; turn = turn }
  join v mark (suc k) d turn =
      cond (meets v mark d) (join v mark k (turn d) (upd d (facing mark d) turn)) (record { lacks = true; turn = turn })

  -- the same along a list
  joins : ℕ → (ℕ → ℕ) → List ℕ → (ℕ → ℕ) → Join
  joins v mark [] turn = record { lacks = false; turn = turn }
  joins v mark (d ∷ ds) turn =
      cond (meets v mark d) (joins v mark ds (upd d (facing mark d) turn)) (record { lacks = true; turn = turn })

  join-joins : (v : ℕ) (mark : ℕ → ℕ) (k d : ℕ) (turn : ℕ → ℕ) → Distinct (chain turn k d) →
      join v mark k d turn ≡ joins v mark (chain turn k d) turn
  unfolding join joins chain
  join-joins v mark zero d turn D = refl
  join-joins v mark (suc k) d turn D =
      let turn' = upd d (facing mark d) turn in
      let h = turn d in
      let beside : chain turn' k h ≡ chain turn k h =
      chain-other turn d (facing mark d) k h (λ e m q. distinct_head D (Memᴰ.cast (sym q) m)) in
      let ih = join-joins v mark k h turn' (rw beside (distinct_tail D)) in
      let whole : join v mark k h turn' ≡ joins v mark (chain turn k h) turn' = ih ∙ ap (λ (zs : List ℕ). joins v mark zs turn') beside in
      ap (λ (j : Join). cond (meets v mark d) j (record { lacks = true; turn = turn })) whole

  -- a walk changes nothing but the turns of its darts
  joins_beside : (v : ℕ) (mark : ℕ → ℕ) (ds : List ℕ) (turn : ℕ → ℕ) (e : ℕ) → ((d : ℕ) → d ∈ ds → d ≢ e) → (joins v mark ds turn).turn e ≡ turn e
  unfolding joins
  joins_beside v mark [] turn e f = refl
  joins_beside v mark (d ∷ ds) turn e f =
      elim (tested (meets v mark d)) [
        | inl c ↦
            rw c (joins_beside v mark ds (upd d (facing mark d) turn) e (λ x m. f x (Memᴰ.tail m))
            ∙ upd_other d e (facing mark d) turn (λ q. f d (Memᴰ.head refl) (sym q)))
        | inr c ↦ rw c
      ]

  -- what a walk that lacks nothing stores
  joins_at : (v : ℕ) (mark : ℕ → ℕ) (ds : List ℕ) (turn : ℕ → ℕ) → Distinct ds → (joins v mark ds turn).lacks ≡ false → (d : ℕ) → d ∈ ds
      → (meets v mark d ≡ true) × ((joins v mark ds turn).turn d ≡ facing mark d)
  unfolding joins
  joins_at v mark [] turn D e d m = absurd (Memᴰ.not-nil m)
  joins_at v mark (x ∷ ds) turn D e d m =
      elim (tested (meets v mark x)) [
        | inl c ↦
            let turn' = upd x (facing mark x) turn in
            let ih = joins_at v mark ds turn' (distinct_tail D) (rw c at e) in
            rw c
            (⊎_elim
            (λ q. rw q (
              c,
              joins_beside v mark ds turn' x (λ y k r. distinct_head D (Memᴰ.cast (sym r) k)) ∙ upd_same x (facing mark x) turn,
            ))
            (λ k. ih d k)
            (Memᴰ.cases_cons m))
        | inr c ↦ let f : true ≡ false = rw c at e in clash refl f
      ]

  joins_lacks : (v : ℕ) (mark : ℕ → ℕ) (ds : List ℕ) (turn : ℕ → ℕ) → (joins v mark ds turn).lacks ≡ true
      → (d : ℕ) × (d ∈ ds) × (meets v mark d ≡ false)
  unfolding joins
  joins_lacks v mark [] turn e = clash e refl
  joins_lacks v mark (d ∷ ds) turn e =
      elim (tested (meets v mark d)) [
        | inl c ↦
            let r = joins_lacks v mark ds (upd d (facing mark d) turn) (rw c at e) in
            (r.0, Memᴰ.tail r.1, r.2)
        | inr c ↦ (d, Memᴰ.head refl, c)
      ]

-- ---- vertex by vertex; `i` has the vertices' words and the darts' origins, which stay

-- the darts of v leave their marks; then they find their turns
abbrev pub scanned : Incidence → ℕ → (ℕ → ℕ) → (ℕ → ℕ) → Scan
scanned i v mark turn = scan i.origin v (chain turn (i.number v) (i.first v)) mark

abbrev pub joined : Incidence → ℕ → (ℕ → ℕ) → (ℕ → ℕ) → Join
joined i v mark turn = join i.origin v (scanned i v mark turn).mark (i.number v) (i.first v) turn

-- k vertices from v on; `rings` says that those before have one ring each. Where an opposite is lacking the marks go on alone, since a side twice comes
-- before that.
unfoldable pub join_all : Incidence → ℕ → ℕ → (ℕ → ℕ) → (ℕ → ℕ) → Bool → Round
join_all i zero v mark turn rings = record { answer = Ok rings; turn = turn; mark = mark }
join_all i (suc k) v mark turn rings =
    let r = scanned i v mark turn in
    let j = joined i v mark turn in
    cond r.found
    (record { answer = Err RepeatedSide; turn = turn; mark = r.mark })
    (cond j.lacks
    (record {
      answer = Err (cond (scan_all (with_turn j.turn (with_mark r.mark i)) k (suc v) r.mark).found RepeatedSide UnpairedSide);
      turn = j.turn;
      mark = r.mark;
    })
    (join_all i k (suc v) r.mark j.turn (one_ring (with_turn j.turn i) v && rings)))

module _ (ts : List ℕ) (i : Incidence) where
  joined_is : (v : ℕ) (mark turn : ℕ → ℕ) → ListedFrom ts v turn i
      → joined i v mark turn ≡ joins i.origin v (scanned i v mark turn).mark (outgoing ts v) turn
  joined_is v mark turn L =
      let here = L v (omega arith) in
      join-joins i.origin v (scanned i v mark turn).mark (i.number v) (i.first v) turn (rw here (distinct_outgoing ts v))
      ∙ ap (λ (zs : List ℕ). joins i.origin v (scanned i v mark turn).mark zs turn) here

  -- only turns of darts that leave v are stored
  pub joined_keeps : (v : ℕ) (mark turn : ℕ → ℕ) → ListedFrom ts v turn i → (d : ℕ) → org ts d ≢ v → (joined i v mark turn).turn d ≡ turn d
  joined_keeps v mark turn L d f =
      ap (λ (j : Join). j.turn d) (joined_is v mark turn L)
      ∙ joins_beside i.origin v (scanned i v mark turn).mark (outgoing ts v) turn d (λ e m q. f (ap (org ts) (sym q) ∙ (outgoing_in ts v m).1))

  pub joined-listed : (v : ℕ) (mark turn : ℕ → ℕ) → ListedFrom ts v turn i → ListedFrom ts (suc v) (joined i v mark turn).turn i
  joined-listed v mark turn L w h =
      chain_same turn (joined i v mark turn).turn (i.number w) (i.first w) (λ d m. joined_keeps v mark turn L d (λ q.
      let l = (outgoing_in ts w (rw (L w (omega arith)) at m)).1 in
      omega (arith, l, q))) ∙ L w (omega arith)

module _ (ts : List ℕ) where
  -- x is the dart of the opposite side of e
  abbrev pub Facing : ℕ → ℕ → Type 0
  Facing e x = (x < length ts) × (org ts x ≡ tip ts e) × (tip ts x ≡ org ts e)

  -- the vertices below v are done: their darts have their turns
  pub record Fine (i : Incidence) (v : ℕ) (mark turn : ℕ → ℕ) : Type 0 where
    pub marks : Before v mark
    pub rest : ListedFrom ts v turn i
    pub done : (d : ℕ) → d < length ts → org ts d < v → Facing (prev d) (turn d)
    pub once : (w : ℕ) → w < v → Apart ts w

  fine_start : (i : Incidence) → Bucketed ts i → Before 0 i.mark → Fine i 0 i.mark i.turn
  fine_start i B M = record { marks = M; rest = λ w h. B w; done = λ d h l. absurd (omega arith); once = λ w l. absurd (omega arith) }

  -- the dart before d arrives where d starts
  pub tip-prev : (d : ℕ) → tip ts (prev d) ≡ org ts d
  unfolding tip
  tip-prev d = ap (org ts) (next-prev d)

  module _ (T : ℕ) (whole : length ts ≡ 3 * T) (few : length ts ≤ 65536) (i : Incidence) (O : Origins ts i.origin) where
    -- where the dart before d comes from
    comes : (d : ℕ) → d < length ts → i.origin (prev d) ≡ org ts (prev d)
    comes d h = O (prev d) (omega (arith, prev-below T d (omega arith)))

    -- one vertex
    module _ (v : ℕ) (mark turn : ℕ → ℕ) (I : Fine i v mark turn) where
      abbrev after : Scan
      after = scanned i v mark turn

      abbrev tied : Join
      tied = joined i v mark turn

      here : chain turn (i.number v) (i.first v) ≡ outgoing ts v
      here = I.rest v (omega arith)

      tied_is : tied ≡ joins i.origin v after.mark (outgoing ts v) turn
      tied_is = joined_is ts i v mark turn I.rest

      pub scanned-twice : after.found ≡ true → row5 ts ≡ true
      scanned-twice e = scan-row5 ts T whole i.origin O v mark I.marks (rw here at e)

      module _ (clean : after.found ≡ false) where
        notes : Noted i.origin v (λ p. p ∈ outgoing ts v) after.mark
        notes = rw here (scan_leaving ts T whole i.origin O v mark I.marks (rw here at clean))

        pub scanned-before : Before (suc v) after.mark
        scanned-before = notes.low

        pub scanned_apart : (w : ℕ) → w < suc v → Apart ts w
        scanned_apart w h =
            elim (ℕ_discrete v w) [
              | yes e ↦ rw e at (noted_apart ts T whole i.origin O few v after.mark notes)
              | no e ↦ I.once w (omega (arith, e))
            ]

        -- a dart that finds no mark follows one without opposite
        pub joined_lacks : tied.lacks ≡ true → row6 ts ≡ true
        unfolding row6 meets
        joined_lacks e =
            let r = joins_lacks i.origin v after.mark (outgoing ts v) turn (sym (ap (λ (j : Join). j.lacks) tied_is) ∙ e) in
            let d = r.0 in
            let l = outgoing_in ts v r.1 in
            let low : prev d < length ts = omega (arith, prev-below T d (omega (arith, l.0))) in
            let none : any (opposite ts (prev d)) (darts ts) ≡ false =
            false-any (opposite ts (prev d)) (darts ts) (λ p m. untrue (opposite ts (prev d) p) (λ o.
            let q = opposite-true ts (prev d) p o in
            let h = darts_in ts m in
            let a = notes.each p (in_outgoing ts v p h (q.0 ∙ tip-prev d ∙ l.1)) in
            let one : i.origin (next p) ≡ i.origin (prev d) = leads ts T whole i.origin O p h ∙ q.1 ∙ sym (comes d l.0) in
            let b : is_of v (after.mark (i.origin (prev d))) ≡ true = rw (← one, a) (noted_is v p) in
            clash b r.2)) in
            true-any (λ d. not (any (opposite ts d) (darts ts))) (in_darts ts (prev d) low) (ap not none)

        pub joined_fine : tied.lacks ≡ false → Fine i (suc v) after.mark tied.turn
        unfolding facing meets
        joined_fine e =
            let none = sym (ap (λ (j : Join). j.lacks) tied_is) ∙ e in
            let stored : (d : ℕ) → d < length ts → org ts d ≡ v → Facing (prev d) (tied.turn d) = λ d h q.
            let m = in_outgoing ts v d h q in
            let r = joins_at i.origin v after.mark (outgoing ts v) turn (distinct_outgoing ts v) none d m in
            let p = notes.only (i.origin (prev d)) (is_of_lem v (after.mark (i.origin (prev d))) r.0) in
            let l = outgoing_in ts v p.1 in
            let is : tied.turn d ≡ p.0 = ap (λ (j : Join). j.turn d) tied_is ∙ r.1
            ∙ ap (λ (w : ℕ). after.mark w % 65536) (sym p.2)
            ∙ ap (λ (m : ℕ). m % 65536) (notes.each p.0 p.1) ∙ noted-dart v p.0 (omega (arith, l.0)) in
            rw is (
              l.0,
              l.1 ∙ sym q ∙ sym (tip-prev d),
              sym (leads ts T whole i.origin O p.0 l.0) ∙ p.2 ∙ comes d h,
            ) in
            record {
              marks = scanned-before;
              rest = joined-listed ts i v mark turn I.rest;
              done = λ d h l.
                  elim (ℕ_discrete (org ts d) v) [
                    | yes q ↦ stored d h q
                    | no q ↦ rw (joined_keeps ts i v mark turn I.rest d q) (I.done d h (omega (arith, q)))
                  ];
              once = scanned_apart;
            }

  -- ---- rings

  -- each vertex below v has one ring, where `rings` says so
  abbrev Ringed : Incidence → ℕ → (ℕ → ℕ) → Bool → Type 0
  Ringed i v turn rings = rings ≡ true → (w : ℕ) → w < v → one_ring (with_turn turn i) w ≡ true

  -- the turns of v are there now, and those of the vertices before stay
  ringed_next : (i : Incidence) → Rooted ts i → (v : ℕ) (mark turn : ℕ → ℕ) → Fine i v mark turn → (rings : Bool) → Ringed i v turn rings
      → Ringed i (suc v) (joined i v mark turn).turn (one_ring (with_turn (joined i v mark turn).turn i) v && rings)
  ringed_next i R v mark turn I rings G both w h =
      let turn' = (joined i v mark turn).turn in
      let before : (w : ℕ) → w < v → one_ring (with_turn turn i) w ≡ true → one_ring (with_turn turn' i) w ≡ true = λ w h e.
      ring-same turn turn' (λ d. (d < length ts) × (org ts d ≡ w))
      (λ d m. joined_keeps ts i v mark turn I.rest d (λ q. omega (arith, m.1, q)))
      (λ d m. let f = I.done d m.0 (omega (arith, m.1)) in (f.0, f.1 ∙ tip-prev d ∙ m.1))
      i w (λ k. outgoing_in ts w (R.dart w k)) e in
      elim (ℕ_discrete w v) [
        | yes q ↦ rw q (and_both (one_ring (with_turn turn' i) v) rings both).0
        | no q ↦
            let l : w < v = omega (arith, q) in
            before w l (G (and_both (one_ring (with_turn turn' i) v) rings both).1 w l)
      ]

  -- What a round of n vertices says of rows 5 and 6. Where they find nothing, a dart's turn is the opposite of the dart before it, and each vertex has one
  -- ring, where the round says so.
  pub data Told (n : ℕ) (i : Incidence) (r : Round) : Type 0 where
    twice : r.answer ≡ Err RepeatedSide → row5 ts ≡ true → Told n i r
    lacking : r.answer ≡ Err UnpairedSide → row5 ts ≡ false → row6 ts ≡ true → Told n i r
    paired : (rings : Bool) → r.answer ≡ Ok rings → row5 ts ≡ false → row6 ts ≡ false → ((d : ℕ) → d < length ts → r.turn d ≡ opp ts (prev d))
        → Ringed i n r.turn rings → Told n i r

  module _ (T : ℕ) (whole : length ts ≡ 3 * T) (few : length ts ≤ 65536) (n : ℕ) (small : (d : ℕ) → org ts d < n) (i : Incidence)
      (O : Origins ts i.origin) (R : Rooted ts i) where
    all_done : (mark turn : ℕ → ℕ) (rings : Bool) → Fine i n mark turn → Ringed i n turn rings
        → Told n i (record { answer = Ok rings; turn = turn; mark = mark })
    all_done mark turn rings I G =
        let f : (d : ℕ) → d < length ts → Facing (prev d) (turn d) = λ d h. I.done d h (small d) in
        let none5 = apart_row5 ts n small I.once in
        paired rings refl none5
        ((row6_means ts).1 (λ e h.
        let r = f (next e) (omega (arith, next-below T e (omega arith))) in
        (turn (next e), r.0, rw (prev-next e) at r.1, rw (prev-next e) at r.2)))
        (λ d h. let r = f d h in sym (opp_is ts ((row5_means ts).0 none5) (prev d) (turn d) r.0 r.1 r.2))
        G

    join_all_from : (k v : ℕ) (mark turn : ℕ → ℕ) (rings : Bool) → v + k ≡ n → Fine i v mark turn → Ringed i v turn rings →
        Told n i (join_all i k v mark turn rings)
    unfolding join_all with_turn with_mark
    join_all_from zero v mark turn rings q I G = let z : v ≡ n = omega arith in all_done mark turn rings (rw z at I) (rw z at G)
    join_all_from (suc k) v mark turn rings q I G =
        let r = scanned i v mark turn in
        let j = joined i v mark turn in
        let later = with_turn j.turn (with_mark r.mark i) in
        elim (tested r.found) [
          | inl c ↦ rw c (twice refl (scanned-twice T whole few i O v mark turn I c))
          | inr c ↦
              elim (tested j.lacks) [
                | inl b ↦
                    let L = joined-listed ts i v mark turn I.rest in
                    let M = scanned-before T whole few i O v mark turn I c in
                    elim (tested (scan_all later k (suc v) r.mark).found) [
                      | inl a ↦ rw (c, b, a) (twice refl (scan_all-row5 ts T whole later O k (suc v) r.mark L M a))
                      | inr a ↦
                          rw (c, b, a) (lacking refl
                          (apart_row5 ts n small (λ w h. elim (dec_lt w (suc v)) [
                            | yes l ↦ scanned_apart T whole few i O v mark turn I c w l
                            | no l ↦ scan_all_apart ts T whole later O few k (suc v) r.mark L M a w (omega (arith, l)) (omega arith)
                          ]))
                          (joined_lacks T whole few i O v mark turn I c b))
                    ]
                | inr b ↦
                    rw (c, b) (join_all_from k (suc v) r.mark j.turn (one_ring (with_turn j.turn i) v && rings) (omega arith)
                    (joined_fine T whole few i O v mark turn I c b) (ringed_next i R v mark turn I rings G))
              ]
        ]

    pub join_all_told : Bucketed ts i → Before 0 i.mark → Told n i (join_all i n 0 i.mark i.turn true)
    join_all_told B M = join_all_from n 0 i.mark i.turn true (omega arith) (fine_start i B M) (λ _ w h. absurd (omega arith))
