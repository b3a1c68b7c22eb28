-- The triangles of a leaving vertex are passed one after the other, and the vertices between come onto the frontier. Assumes nothing.
use Prim.Native.Nat.{ℕ, zero, suc, ◌*◌, ◌/◌, ◌≤◌, ◌<◌, pred}
use Rattle.std.specs.Prelude.{◌≡◌, ◌≢◌, Bool, false, ◌||◌, eqb, length}
use Rattle.std.proofs.Math.Path.{refl, sym}
use Rattle.std.proofs.Common.{ap, ◌∙◌, inl, inr, arith}
use mathlib.Core.List.Memᴰ
use mathlib.Core.List.{List, [], ◌∷◌, ◌++◌, map, append_assoc}
use borrow.Author.Tests.{eq-eqb, ne_eqb}
use Rattle.definitions.specs.Lists.{any, elem}
use Rattle.definitions.specs.Mesh.{tri, next, prev, org, tip, opp}
use Rattle.laws.specs.Lists.{◌∈◌, tested}
use Rattle.laws.specs.Counting.{distinct_head, distinct_tail}
use Rattle.theory_sphere.specs.Sphere.{Sphere}
use Rattle.theory_sphere.specs.Darts.{next-prev, prev-below}
use Rattle.theory_sphere.specs.Rotations.{tip-rot, rot-below}
use Rattle.theory_realizer.specs.Trace.{Fan, end, more}
use Rattle.theory_peeling.specs.Peel.{rest}
use Rattle.scratch_tables.specs.Tables.{upd-at, upd_other}
use Rattle.labels_tables.specs.Peeling.{Peeling}
use Rattle.labels_model.specs.Model.{enter_frontier, pass_triangle, pass_fan}
use Rattle.labels_model.specs.Counters.{Beside, Meshed, meshed_kept, meshed_beside}
use Rattle.labels_model.specs.NeighbourCounts.{tip_is}
use Rattle.labels_model.specs.FrontierInsert.{Marked, enter_beside, enter_marks}
use Rattle.labels_model.specs.LabelTriangle.{Coded, pass_turn, pass_origin, pass_degree, pass_order}
use Rattle.labels_model.proofs.LabelTriangle.{pass_coded, pass_left, pass_right}
use Rattle.labels_model.specs.LabelFan.{marked_same, fan_shape, across, across-org, across-tip, Fanned, Fresh, tip-next, prior_is}

at : {f g : ℕ → ℕ} → f ≡ g → (x : ℕ) → f x ≡ g x
at e x = ap (λ (h : ℕ → ℕ). h x) e

-- a test over a list with one more at its head
elem-cons : (x a : ℕ) (xs : List ℕ) (c : Bool) → (elem x xs || (eqb x a || c)) ≡ (elem x (a ∷ xs) || c)
unfolding elem any
elem-cons x a xs c =
    elim (tested (eqb x a)) [
      | inl e ↦ elim (tested (any (eqb x) xs)) [ inl f ↦ rw (e, f) | inr f ↦ rw (e, f) ]
      | inr e ↦ rw e
    ]

module _ (n : ℕ) (ts : List ℕ) (s : Sphere n (length ts / 3) (org ts) (opp ts)) (len : 3 * (length ts / 3) ≡ length ts) where
  abbrev T : ℕ
  T = length ts / 3

  -- two darts of one vertex with one neighbour beside them are one dart
  same-tip : (g h : ℕ) → g < 3 * T → h < 3 * T → org ts g ≡ org ts h → tip ts g ≡ tip ts h → g ≡ h
  same-tip g h a b e q = s.once g h a b e (sym (tip_is ts g) ∙ q ∙ tip_is ts h)

  same-prev : (g h : ℕ) → g < 3 * T → h < 3 * T → org ts g ≡ org ts h → org ts (prev g) ≡ org ts (prev h) → g ≡ h
  same-prev g h a b e q =
      let p = s.once (prev g) (prev h) (prev-below T g a) (prev-below T h b) q (ap (org ts) (next-prev g) ∙ e ∙ ap (org ts) (sym (next-prev h))) in
      sym (next-prev g) ∙ ap next p ∙ next-prev h

  -- ---- one triangle

  module _ (right k g : ℕ) (t : Peeling) (o : Meshed ts t) (b : g < 3 * T) where
    fan-ends : 0 < k → tip ts (opp ts (prev g)) ≡ right → pass_fan n right k g t ≡ pass_triangle g t
    unfolding pass_fan
    fan-ends = go k
      where
        go : (k : ℕ) → 0 < k → tip ts (opp ts (prev g)) ≡ right → pass_fan n right k g t ≡ pass_triangle g t
        go zero h e = absurd (omega arith)
        go (suc k) h e = rw (eq-eqb (t.origin (prev g)) right (prior_is n ts s len right k g t o b ∙ sym (tip-next n ts s len right k g t o b) ∙ e))

    -- the vertex between, and one of its darts
    abbrev u : ℕ
    u = org ts (prev g)

    fan-goes : 0 < k → u ≢ right → pass_fan n right k g t
        ≡ pass_fan n right (pred k) (opp ts (prev g)) (enter_frontier n u (prev g) (pass_triangle g t))
    unfolding pass_fan
    fan-goes = go k
      where
        go : (k : ℕ) → 0 < k → u ≢ right → pass_fan n right k g t
            ≡ pass_fan n right (pred k) (opp ts (prev g)) (enter_frontier n u (prev g) (pass_triangle g t))
        go zero h q = absurd (omega arith)
        go (suc k) h q = rw (prior_is n ts s len right k g t o b, ne_eqb (org ts (prev g)) right q, o.turns g (omega arith))

  -- ---- the fan's end, and one triangle more

  module _ (v right : ℕ) (P : List ℕ) (F : ℕ → Bool) (t : Peeling) (o : Meshed ts t) (c : Coded P t) (M : Marked n ts F t) where
    passed_marks : (g : ℕ) → Marked n ts F (pass_triangle g t)
    passed_marks g w wn = ap (λ (f : ℕ → ℕ). f w) (pass_degree g t) ∙ M w wn

    passed_mesh : (g : ℕ) → Meshed ts (pass_triangle g t)
    passed_mesh g = meshed_kept (pass_turn g t) (pass_origin g t) o

    last_one : (g : ℕ) → Fresh n ts s len v right P F (g ∷ []) → Fanned n ts s len P F (g ∷ []) t (pass_triangle g t)
    unfolding elem any
    last_one g f =
        let m : g ∈ g ∷ [] = Memᴰ.head refl in
        let b = f.below g m in
        record {
          meshed = passed_mesh g;
          coded = pass_coded P t c g (f.blank g m);
          marked = passed_marks g;
          left_new = λ x k. let e = Memᴰ.eq_of_singleton k in
              rw e (pass_left n ts s len t o g b (org ts (across n ts s len g))
              ∙ upd-at (org ts (across n ts s len g)) (org ts (across n ts s len g)) (across n ts s len g) t.left refl);
          left_old = λ x h. pass_left n ts s len t o g b x ∙ upd_other (org ts (across n ts s len g)) x (across n ts s len g) t.left (h g m);
          right_new = λ x k. let e = Memᴰ.eq_of_singleton k in
              rw e (pass_right n ts s len t o g b (tip ts (across n ts s len g))
              ∙ upd-at (tip ts (across n ts s len g)) (tip ts (across n ts s len g)) (across n ts s len g) t.right refl);
          right_old = λ x h. pass_right n ts s len t o g b x ∙ upd_other (tip ts (across n ts s len g)) x (across n ts s len g) t.right (h g m);
          orders = pass_order g t;
        }

    -- with the vertex beyond g's triangle on the frontier, the rest of the fan
    module _ (g : ℕ) (gs : List ℕ) (shape : gs ≡ opp ts (prev g) ∷ rest gs) (f : Fresh n ts s len v right P F (g ∷ gs)) where
      b : g < 3 * T
      b = f.below g (Memᴰ.head refl)

      q : (prev g ∈ P → ⊥) × (next g ∈ P → ⊥)
      q = f.blank g (Memᴰ.head refl)

      abbrev pub x : ℕ
      x = org ts (prev g)

      abbrev pub t1 : Peeling
      t1 = pass_triangle g t

      abbrev pub t2 : Peeling
      t2 = enter_frontier n x (prev g) t1

      abbrev pub F₁ : ℕ → Bool
      F₁ w = eqb w x || F w

      second : opp ts (prev g) ∈ gs
      second = rw shape (Memᴰ.head refl)

      x_is : tip ts (opp ts (prev g)) ≡ x
      x_is = tip_is ts (opp ts (prev g)) ∙ tip-rot s g b

      x_new : F x ≡ false
      x_new = rw x_is at (f.new (opp ts (prev g)) second)

      pub mesh2 : Meshed ts t2
      mesh2 = meshed_beside (enter_beside n x (prev g) t1) (passed_mesh g)

      pub coded2 : Coded (P ++ (g ∷ [])) t2
      coded2 d l = ap (λ (y : ℕ → ℕ). y (tri d)) (enter_beside n x (prev g) t1).apexes ∙ pass_coded P t c g q d l

      pub marked2 : Marked n ts F₁ t2
      marked2 = enter_marks n ts s len F (prev g) t1 (passed_mesh g) (passed_marks g) (prev-below T g b) x_new

      rest_in : (h : ℕ) → h ∈ rest gs → h ∈ gs
      rest_in h m = rw shape (Memᴰ.tail m)

      pub fresh2 : Fresh n ts s len v right (P ++ (g ∷ [])) F₁ gs
      fresh2 =
          record {
            below = λ h m. f.below h (Memᴰ.tail m);
            from = λ h m. f.from h (Memᴰ.tail m);
            distinct = distinct_tail f.distinct;
            short = λ h m. f.short h (Memᴰ.tail m);
            new = λ h m. rw (ne_eqb (tip ts h) x (λ e.
                distinct_head (rw shape at (distinct_tail f.distinct))
                (Memᴰ.cast (sym (same-tip h (opp ts (prev g)) (f.below h (Memᴰ.tail (rest_in h m))) (rot-below s g b)
                (f.from h (Memᴰ.tail (rest_in h m)) ∙ sym (f.from (opp ts (prev g)) (Memᴰ.tail second))) (e ∙ sym x_is))) m)))
                (f.new h (rest_in h m));
            blank = λ h m.
                let hb = f.below h (Memᴰ.tail m) in
                let e = f.from g (Memᴰ.head refl) ∙ sym (f.from h (Memᴰ.tail m)) in (
                  λ k. elim (Memᴰ.append_cases P k) [
                    | inl l ↦ (f.blank h (Memᴰ.tail m)).0 l
                    | inr l ↦ s.proper (prev h) (prev-below T h hb) (ap (org ts) (Memᴰ.eq_of_singleton l) ∙ e
                        ∙ ap (org ts) (sym (next-prev h)))
                  ],
                  λ k. elim (Memᴰ.append_cases P k) [
                    | inl l ↦ (f.blank h (Memᴰ.tail m)).1 l
                    | inr l ↦ s.proper h hb (sym (ap (org ts) (Memᴰ.eq_of_singleton l) ∙ e))
                  ],
                );
          }

      tips : map (tip ts) gs ≡ x ∷ map (tip ts) (rest gs)
      tips = ap (map (tip ts)) shape ∙ ap (λ (y : ℕ). y ∷ map (tip ts) (rest gs)) x_is

      entered : Beside t1 t2
      entered = enter_beside n x (prev g) t1

      same_from : (y : ℕ) → y ∈ gs → org ts g ≡ org ts y
      same_from y k = f.from g (Memᴰ.head refl) ∙ sym (f.from y (Memᴰ.tail k))

      apart_org : (y : ℕ) → y ∈ gs → org ts (prev g) ≢ org ts (prev y)
      apart_org y k e = distinct_head f.distinct (Memᴰ.cast (same-prev g y b (f.below y (Memᴰ.tail k)) (same_from y k) e) k)

      apart_tip : (y : ℕ) → y ∈ gs → tip ts g ≢ tip ts y
      apart_tip y k e = distinct_head f.distinct (Memᴰ.cast (same-tip g y b (f.below y (Memᴰ.tail k)) (same_from y k) e) k)

      one_more : (t' : Peeling) → Fanned n ts s len (P ++ (g ∷ [])) F₁ gs t2 t' → Fanned n ts s len P F (g ∷ gs) t t'
      one_more t' r =
          record {
            meshed = r.meshed;
            coded = rw (append_assoc P (g ∷ []) gs) at r.coded;
            marked = marked_same n ts (λ u. elem u (map (tip ts) (rest gs)) || F₁ u) (λ u. elem u (map (tip ts) gs) || F u) t'
                (λ u. rw tips (elem-cons u x (map (tip ts) (rest gs)) (F u))) r.marked;
            left_new = λ h m. elim (Memᴰ.cases_cons m) [
              | inl e ↦
                  rw e (r.left_old (org ts (across n ts s len g)) (λ y k z. apart_org y k (sym (across-org n ts s len g b) ∙ z
                  ∙ across-org n ts s len y (f.below y (Memᴰ.tail k))))
                  ∙ at entered.lefts (org ts (across n ts s len g)) ∙ pass_left n ts s len t o g b (org ts (across n ts s len g))
                  ∙ upd-at (org ts (across n ts s len g)) (org ts (across n ts s len g)) (across n ts s len g) t.left refl)
              | inr k ↦ r.left_new h k
            ];
            left_old = λ y h. r.left_old y (λ z m. h z (Memᴰ.tail m)) ∙ at entered.lefts y ∙ pass_left n ts s len t o g b y
                ∙ upd_other (org ts (across n ts s len g)) y (across n ts s len g) t.left (h g (Memᴰ.head refl));
            right_new = λ h m. elim (Memᴰ.cases_cons m) [
              | inl e ↦
                  rw e (r.right_old (tip ts (across n ts s len g)) (λ y k z. apart_tip y k (sym (across-tip n ts s len g b) ∙ z
                  ∙ across-tip n ts s len y (f.below y (Memᴰ.tail k))))
                  ∙ at entered.rights (tip ts (across n ts s len g)) ∙ pass_right n ts s len t o g b (tip ts (across n ts s len g))
                  ∙ upd-at (tip ts (across n ts s len g)) (tip ts (across n ts s len g)) (across n ts s len g) t.right refl)
              | inr k ↦ r.right_new h k
            ];
            right_old = λ y h. r.right_old y (λ z m. h z (Memᴰ.tail m)) ∙ at entered.rights y ∙ pass_right n ts s len t o g b y
                ∙ upd_other (tip ts (across n ts s len g)) y (across n ts s len g) t.right (h g (Memᴰ.head refl));
            orders = r.orders ∙ entered.orders ∙ pass_order g t;
          }

  module _ (v last right : ℕ) (last_is : tip ts last ≡ right) where
    pub fanned : {g : ℕ} {gs : List ℕ} → Fan T (org ts) (opp ts) last g gs → (k : ℕ) (P : List ℕ) (F : ℕ → Bool) (t : Peeling) →
        length gs ≤ k → Meshed ts t → Coded P t → Marked n ts F t
        → Fresh n ts s len v right P F gs → Fanned n ts s len P F gs t (pass_fan n right k g t)
    fanned {g} (end b e) k P F t h o c M f =
        rw (fan-ends right k g t o b (omega arith) (ap (tip ts) e ∙ last_is)) (last_one v right P F t o c M g f)
    fanned {g} (more {gs = gs} b fan') k P F t h o c M f =
        let shape = fan_shape fan' in
        let away : org ts (prev g) ≢ right = λ z. f.short (opp ts (prev g)) (Memᴰ.tail (second v right P F t o c M g gs shape f))
        (x_is v right P F t o c M g gs shape f ∙ z) in
        rw (fan-goes right k g t o b (omega arith) away)
        (one_more v right P F t o c M g gs shape f (pass_fan n right (pred k) (opp ts (prev g))
        (enter_frontier n (org ts (prev g)) (prev g) (pass_triangle g t)))
        (fanned fan' (pred k) (P ++ (g ∷ [])) (F₁ v right P F t o c M g gs shape f) (t2 v right P F t o c M g gs shape f) (omega arith)
        (mesh2 v right P F t o c M g gs shape f) (coded2 v right P F t o c M g gs shape f) (marked2 v right P F t o c M g gs shape f)
        (fresh2 v right P F t o c M g gs shape f)))
