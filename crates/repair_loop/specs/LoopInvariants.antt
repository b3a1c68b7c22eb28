-- The iterations of repair's loop: what holds whenever the next bad triangle is found lets the raise be tried; a raise that is made brings it there again;
-- and at both ends the answer and the buffers are the definition's. Assumes nothing.
use Rattle.std.specs.Prelude.{ℕ, ◌+◌, ◌-◌, ◌*◌, ◌≤◌, ◌<◌, ◌≡◌, false, List, length, ℤ, nat_abs, Ok, Err}
use Rattle.std.proofs.Math.Path.{refl}
use Rattle.std.proofs.Common.{sym, ap, ◌∙◌, arith}
use Rattle.definitions.specs.Repair.{limit, finished, stopped}
use Rattle.definitions.specs.Answers.{done, refused, stopped_after}
use Rattle.definitions.specs.Refusals.{row10, repair_answer}
use Rattle.theory_crossings.specs.UnitMaps.{units}
use Rattle.theory_repair.specs.Repairs.{light_9}
use Rattle.scratch_tables.specs.Tables.{tables_of}
use Rattle.repair_model.specs.Raise.{drawn_within}
use Rattle.repair_model.specs.Search.{bad_at, raise_at, Found, Next}
use Rattle.repair_model.specs.Ready.{raise_room}
use Rattle.repair_search.specs.SearchLoops.{SearchPre}
use Rattle.repair_model.specs.LoopState.{Reached, State, Passed, more-fuel, within, at-finished, at_stopped, at_raised, within_after}
use Rattle.repair_model.specs.FirstRaise.{found_first}
use Rattle.repair_loop.specs.OneRaise.{RaisePre, Tried, LoopPre}
use Rattle.repair_loop.specs.UpdateOnReady.{search_pre, update_pre, times_moved-moved}
use Rattle.repair_loop.specs.Answer.{Halts, halts_by}

-- ---- at each iteration

module _ (n : ℕ) (ts ls : List ℕ) (ws₀ ws bs s : List ℤ) (sum count full t : ℕ) (S : State n ts ls ws₀ ws bs s sum count full t) where
  abbrev R : Reached n ts ls ws₀ ws bs s sum count full
  R = S.reached

  above : 0 < t
  above = omega (arith, R.positive, S.lower)

  pub fuel : count < 2 * n - 4
  fuel = more-fuel n ts ls ws₀ ws bs s sum count full t S

  here_within : row10 bs ≡ false
  here_within = within n ts ls ws₀ ws bs s sum count full t S

  search_here : 10 * n ≤ length s → SearchPre s bs (2 * n - 4)
  search_here room = search_pre n ts ls s R.ready room bs R.drawn.long here_within

  module _ (h : t < 2 * n - 4) where
    module _ (x : ℤ) (ex : x ≡ raise_at (tables_of s) bs t) where
      pub raise_pre : 10 * n ≤ length s → RaisePre n ws bs s t sum x
      raise_pre room =
          let small : nat_abs x ≤ 2 * limit + 1 =
          rw ex (raise_room n ts ls s R.ready ws bs R.drawn t above h R.long R.light) in
          record {
            positive = above;
            inside = omega (arith, h, R.long);
            summed = R.summed;
            light = R.light;
            small = small;
            update_pre = update_pre n ts ls s R.ready t above h bs x room R.drawn.long here_within small;
          }

      module _ (ws' bs' : List ℤ) (r : ℕ) (T : Tried n s ws bs ws' bs' t x r) where
        -- the raise is made
        pub within_raised : r ≤ limit → row10 bs' ≡ false
        within_raised k =
            within_after n ts ls ws₀ ws bs s sum count full t S h x ex (omega (arith, T.sum)) bs'
            (times_moved-moved n ts ls s R.ready t above h x bs bs' (T.made k).1)

        pub raised : r ≤ limit → (full' t' : ℕ) → Next (tables_of s) bs' full t (2 * n - 4) t' → Passed full t full' →
            State n ts ls ws₀ ws' bs' s r (count + 1) full' t'
        raised k full' t' N Q =
            rw (T.made k).0
            (at_raised n ts ls ws₀ ws bs s sum count full t S h x ex (omega (arith, T.sum)) bs'
            (times_moved-moved n ts ls s R.ready t above h x bs bs' (T.made k).1) full' t' N Q r T.sum)

        -- it is not
        pub halts_stopped : limit < r → Halts n ts ls ws₀ ws' bs' (Err (record { raises = count }))
        unfolding repair_answer
        halts_stopped k =
            let e = at_stopped n ts ls ws₀ ws bs s sum count full t S h x ex (omega (arith, T.sum)) in
            let m = T.kept k in
            halts_by n ts ls ws₀ ws' bs' (Err (record { raises = count })) (record { ending = stopped; weights = ws; raises = R.raises }) e
            (ap (λ (k : ℕ). refused (stopped_after k)) (sym R.counted)) m.0 (rw m.1 R.drawn)

  -- no bad triangle is left
  pub halts_finished : 2 * n - 4 ≤ t → Halts n ts ls ws₀ ws bs (Ok count)
  unfolding repair_answer
  halts_finished h =
      let e = at-finished n ts ls ws₀ ws bs s sum count full t S h in
      halts_by n ts ls ws₀ ws bs (Ok count) (record { ending = finished; weights = ws; raises = R.raises }) e
      (ap (λ (k : ℕ). done k) (sym R.counted)) refl R.drawn

-- ---- the loop

-- for whatever mesh, labels and lent weights the loop began with, it is where the definition's is
pub record Loops (n : ℕ) (s ws₁ bs₁ : List ℤ) (sum begun : ℕ) (ws bs : List ℤ) (total count full t : ℕ) : Type 0 where
  pub weights_long : length ws ≡ length ws₁
  pub coordinates_long : length bs ≡ length bs₁
  pub state : (ts ls : List ℕ) (ws₀ : List ℤ) → Reached n ts ls ws₀ ws₁ bs₁ s sum begun (begun + 1) →
      State n ts ls ws₀ ws bs s total count full t

-- it began at the weights ws₁, with `begun` raises made
module _ (n : ℕ) (s ws₁ bs₁ : List ℤ) (sum begun : ℕ) (M : LoopPre n ws₁ bs₁ s sum begun) where
  abbrev ts : List ℕ
  ts = M.triangles

  abbrev ls : List ℕ
  ls = M.labels

  pub start_some : (3 ≤ n) × (n ≤ 4096) × (begun < 2)
  start_some = (M.reached.ready.sphere.least, M.reached.ready.most, M.few)

  start_within : row10 bs₁ ≡ false
  start_within =
      let Y = M.reached.ready in
      drawn_within n ts ls (units ts ls Y.sphere Y.size Y.realizer) Y.size ws₁ bs₁ M.reached.long
      (light_9 ws₁ M.reached.light) M.reached.drawn

  pub start_search : SearchPre s bs₁ (2 * n - 4)
  start_search = search_pre n ts ls s M.reached.ready M.room bs₁ M.reached.drawn.long start_within

  pub loops-begin : (t : ℕ) → Found (bad_at (tables_of s) bs₁) (begun + 1) (2 * n - 4) t → Loops n s ws₁ bs₁ sum begun ws₁ bs₁ sum begun (begun + 1) t
  loops-begin t F =
      record {
        weights_long = refl;
        coordinates_long = refl;
        state = λ ts ls ws₀ R. found_first n ts ls ws₀ ws₁ bs₁ s sum begun (begun + 1) t R F;
      }

  module _ (ws bs : List ℤ) (total count full t : ℕ) (L : Loops n s ws₁ bs₁ sum begun ws bs total count full t) where
    -- with the mesh, the labels and the lent weights that it was called for
    pub now : State n M.triangles M.labels M.lent ws bs s total count full t
    now = L.state ts ls M.lent M.reached

    pub can_search : SearchPre s bs (2 * n - 4)
    can_search = search_here n ts ls M.lent ws bs s total count full t now M.room

    pub positive : 0 < t
    positive = above n ts ls M.lent ws bs s total count full t now

    pub fueled : count < 2 * n - 4
    fueled = fuel n ts ls M.lent ws bs s total count full t now

    module _ (h : t < 2 * n - 4) where
      module _ (x : ℤ) (ex : x ≡ raise_at (tables_of s) bs t) where
        pub can_raise : RaisePre n ws bs s t total x
        can_raise = raise_pre n ts ls M.lent ws bs s total count full t now h x ex M.room

        module _ (ws' bs' : List ℤ) (r : ℕ) (T : Tried n s ws bs ws' bs' t x r) where
          pub next_search : r ≤ limit → length bs' ≡ length bs → SearchPre s bs' (2 * n - 4)
          next_search k e =
              search_pre n ts ls s M.reached.ready M.room bs' (e ∙ now.reached.drawn.long)
              (within_raised n ts ls M.lent ws bs s total count full t now h x ex ws' bs' r T k)

          pub loops_again : r ≤ limit → length ws' ≡ length ws → length bs' ≡ length bs →
              (full' t' : ℕ) → Next (tables_of s) bs' full t (2 * n - 4) t' → Passed full t full' →
              Loops n s ws₁ bs₁ sum begun ws' bs' r (count + 1) full' t'
          loops_again k a b full' t' N Q =
              record {
                weights_long = a ∙ L.weights_long;
                coordinates_long = b ∙ L.coordinates_long;
                state = λ ts ls ws₀ R. raised n ts ls ws₀ ws bs s total count full t (L.state ts ls ws₀ R) h x ex ws' bs' r T k full' t' N Q;
              }

          pub loop_stops : limit < r → (ts ls : List ℕ) (ws₀ : List ℤ) → Reached n ts ls ws₀ ws₁ bs₁ s sum begun (begun + 1) →
              Halts n ts ls ws₀ ws' bs' (Err (record { raises = count }))
          loop_stops k ts ls ws₀ R = halts_stopped n ts ls ws₀ ws bs s total count full t (L.state ts ls ws₀ R) h x ex ws' bs' r T k

    pub loop_ends : 2 * n - 4 ≤ t → (ts ls : List ℕ) (ws₀ : List ℤ) → Reached n ts ls ws₀ ws₁ bs₁ s sum begun (begun + 1) →
        Halts n ts ls ws₀ ws bs (Ok count)
    loop_ends h ts ls ws₀ R = halts_finished n ts ls ws₀ ws bs s total count full t (L.state ts ls ws₀ R) h
