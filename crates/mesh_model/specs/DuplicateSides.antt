-- Row 5 by marks: the darts that leave a vertex are walked, and each leaves a mark at the vertex that it leads to; one that finds a mark of the same
-- vertex there is a side twice. A mark names its vertex, so marks of earlier walks do no harm. Assumes nothing.
use Prim.Native.Nat.{ℕ, zero, suc, ◌+◌, ◌*◌, ◌/◌, ◌%◌, ◌≤◌, ◌<◌}
use Rattle.std.specs.Prelude.{◌≡◌, ◌≢◌, ◌⊎◌, Bool, cond, ◌&&◌, eqb, length}
use Rattle.std.proofs.Math.Path.{refl, sym}
use Rattle.std.proofs.Common.{ap, ◌∙◌, arith}
use Rattle.std.proofs.Math.Logic.{inl, inr, ⊎_elim}
use Rattle.std.proofs.Math.Bool.{true, false, not}
use mathlib.Core.List.Memᴰ
use mathlib.Core.List.{List, [], ◌∷◌}
use Rattle.std.proofs.Math.Decide.{ℕ_discrete}
use borrow.Author.Tests.{eq-eqb, ne_eqb, eqb-true}
use Rattle.definitions.specs.Lists.{any}
use Rattle.definitions.specs.Mesh.{next, org, tip, same, darts, outgoing, row5}
use Rattle.laws.specs.Lists.{◌∈◌, tested, clash, true-any}
use Rattle.laws.specs.Counting.{Distinct, distinct_head, distinct_tail}
use Rattle.theory_sphere.specs.Darts.{next-below}
use Rattle.theory_sphere.specs.Rows.{in_darts, outgoing_in, in_outgoing, distinct_outgoing, row5_means}
use Rattle.scratch_tables.specs.Tables.{upd, upd_same, upd-at, upd_other}
use Rattle.mesh_tables.specs.Incidence.{Incidence}
use Rattle.mesh_model.specs.IncidenceLists.{chain, list_at, Origins}

-- the mark of dart d of vertex v: v, counted from 1, above the dart
unfoldable pub noted : ℕ → ℕ → ℕ
noted v d = 65536 * (v + 1) + d % 65536

-- a mark of vertex v
unfoldable pub is_of : ℕ → ℕ → Bool
is_of v m = eqb (m / 65536) (v + 1)

pub is_of_lem : (v m : ℕ) → is_of v m ≡ true → m / 65536 ≡ v + 1
unfolding is_of
is_of_lem v m e = eqb-true (m / 65536) (v + 1) e

noted_vertex : (v d : ℕ) → noted v d / 65536 ≡ v + 1
unfolding noted
noted_vertex v d = omega arith

pub noted-dart : (v d : ℕ) → d < 65536 → noted v d % 65536 ≡ d
unfolding noted
noted-dart v d h = omega arith

pub noted_is : (v d : ℕ) → is_of v (noted v d) ≡ true
unfolding is_of
noted_is v d = eq-eqb (noted v d / 65536) (v + 1) (noted_vertex v d)

-- Marks are of vertices below v. (Where there is none, 0 is of no vertex.)
abbrev pub Before : ℕ → (ℕ → ℕ) → Type 0
Before v mark = (w : ℕ) → mark w / 65536 ≤ v

pub record Scan : Type 0 where
  pub found : Bool
  pub mark : ℕ → ℕ

-- `origin` is the table of the darts' origins
module _ (origin : ℕ → ℕ) where
  -- dart d of vertex v finds a mark of v at the vertex that it leads to
  unfoldable pub clashes : ℕ → (ℕ → ℕ) → ℕ → Bool
  clashes v mark d = is_of v (mark (origin (next d)))

  -- the darts of a list, in turn
  unfoldable pub scan : ℕ → List ℕ → (ℕ → ℕ) → Scan
  scan v [] mark = record { found = false; mark = mark }
  scan v (d ∷ ds) mark =
      cond (clashes v mark d) (record { found = true; mark = mark }) (scan v ds (upd (origin (next d)) (noted v d) mark))

  pub scan_clash : (v d : ℕ) (ds : List ℕ) (mark : ℕ → ℕ) → clashes v mark d ≡ true →
      scan v (d ∷ ds) mark ≡ record { found = true; mark = mark }
  unfolding scan
  scan_clash v d ds mark e = rw e

  pub scan-on : (v d : ℕ) (ds : List ℕ) (mark : ℕ → ℕ) → clashes v mark d ≡ false
      → scan v (d ∷ ds) mark ≡ scan v ds (upd (origin (next d)) (noted v d) mark)
  unfolding scan
  scan-on v d ds mark e = rw e

  -- ---- what the marks say while the darts of v are walked

  -- Each dart of `In` has its mark, and there is no other mark of v.
  pub record Noted (v : ℕ) (In : ℕ → Type 0) (mark : ℕ → ℕ) : Type 0 where
    pub each : (p : ℕ) → In p → mark (origin (next p)) ≡ noted v p
    pub only : (w : ℕ) → mark w / 65536 ≡ v + 1 → (p : ℕ) × (In p) × (origin (next p) ≡ w)
    pub low : Before (suc v) mark

  noted-none : (v : ℕ) (mark : ℕ → ℕ) → Before v mark → Noted v (λ p. ⊥) mark
  noted-none v mark B = record {
    each = λ p m. absurd m;
    only = λ w h. absurd (omega (arith, B w, h));
    low = λ w. omega (arith, B w);
  }

  noted_as : (v : ℕ) (In In' : ℕ → Type 0) (mark : ℕ → ℕ) → ((p : ℕ) → In p → In' p) → ((p : ℕ) → In' p → In p) →
      Noted v In mark → Noted v In' mark
  noted_as v In In' mark f g N = record {
    each = λ p m. N.each p (g p m);
    only = λ w h. let r = N.only w h in (r.0, f r.0 r.1, r.2);
    low = N.low;
  }

  -- one that finds no mark of v leaves its own
  noted_one : (v : ℕ) (In : ℕ → Type 0) (mark : ℕ → ℕ) (d : ℕ) → Noted v In mark → clashes v mark d ≡ false
      → Noted v (λ p. (In p) ⊎ (p ≡ d)) (upd (origin (next d)) (noted v d) mark)
  unfolding clashes
  noted_one v In mark d N c =
      let here = origin (next d) in
      let far : (p : ℕ) → In p → origin (next p) ≢ here = λ p m q.
      let e : mark here ≡ noted v p = sym (ap mark q) ∙ N.each p m in
      clash (ap (is_of v) e ∙ noted_is v p) c in
      record {
        each = λ p m.
            ⊎_elim
            (λ k. upd_other here (origin (next p)) (noted v d) mark (far p k) ∙ N.each p k)
            (λ q. rw q (upd_same here (noted v d) mark))
            m;
        only = λ w h.
            elim (ℕ_discrete w here) [
              | yes q ↦ (d, inr refl, sym q)
              | no q ↦
                  let r = N.only w (ap (λ (x : ℕ). x / 65536) (sym (upd_other here w (noted v d) mark q)) ∙ h) in
                  (r.0, inl r.1, r.2)
            ];
        low = λ w.
            elim (ℕ_discrete w here) [
              | yes q ↦ rw (upd-at here w (noted v d) mark q) (omega (arith, noted_vertex v d))
              | no q ↦ rw (upd_other here w (noted v d) mark q) (N.low w)
            ];
      }

  -- a walk that finds nothing leaves the marks of all its darts
  scan_notes : (v : ℕ) (ds : List ℕ) (In : ℕ → Type 0) (mark : ℕ → ℕ) → Noted v In mark → (scan v ds mark).found ≡ false
      → Noted v (λ p. (In p) ⊎ (p ∈ ds)) (scan v ds mark).mark
  unfolding scan
  scan_notes v [] In mark N e =
      noted_as v In (λ p. (In p) ⊎ (p ∈ [])) mark (λ p m. inl m) (λ p m. ⊎_elim (λ k. k) (λ k. absurd (Memᴰ.not-nil k)) m) N
  scan_notes v (d ∷ ds) In mark N e =
      elim (tested (clashes v mark d)) [
        | inl c ↦ let f : true ≡ false = rw c at e in clash refl f
        | inr c ↦
            let mark' = upd (origin (next d)) (noted v d) mark in
            let ih = scan_notes v ds (λ p. (In p) ⊎ (p ≡ d)) mark' (noted_one v In mark d N c) (rw c at e) in
            rw c (noted_as v (λ p. ((In p) ⊎ (p ≡ d)) ⊎ (p ∈ ds)) (λ p. (In p) ⊎ (p ∈ d ∷ ds)) (scan v ds mark').mark
            (λ p m. ⊎_elim (λ k. ⊎_elim (λ l. inl l) (λ q. inr (Memᴰ.head q)) k) (λ k. inr (Memᴰ.tail k)) m)
            (λ p m. ⊎_elim (λ k. inl (inl k)) (λ k. ⊎_elim (λ q. inl (inr q)) (λ l. inr l) (Memᴰ.cases_cons k)) m)
            ih)
      ]

-- k vertices from v on, over lists that stay
unfoldable pub scan_all : Incidence → ℕ → ℕ → (ℕ → ℕ) → Scan
scan_all i zero v mark = record { found = false; mark = mark }
scan_all i (suc k) v mark =
    let r = scan i.origin v (list_at i v) mark in cond r.found r (scan_all i k (suc v) r.mark)

-- ---- what is found, where the table holds the origins of the mesh

-- no two darts of v have one side
abbrev pub Apart : List ℕ → ℕ → Type 0
Apart ts v = (d e : ℕ) → d ∈ outgoing ts v → e ∈ outgoing ts v → tip ts d ≡ tip ts e → d ≡ e

pub apart_row5 : (ts : List ℕ) (n : ℕ) → ((d : ℕ) → org ts d < n) → ((v : ℕ) → v < n → Apart ts v) → row5 ts ≡ false
apart_row5 ts n small A =
    (row5_means ts).1 (λ x y h l p q. A (org ts x) (small x) x y (in_outgoing ts (org ts x) x h refl) (in_outgoing ts (org ts x) y l (sym p)) q)

module _ (ts : List ℕ) (T : ℕ) (whole : length ts ≡ 3 * T) (origin : ℕ → ℕ) (O : Origins ts origin) where
  -- where dart d leads
  pub leads : (d : ℕ) → d < length ts → origin (next d) ≡ tip ts d
  unfolding tip
  leads d h = O (next d) (omega (arith, next-below T d (omega arith)))

  -- what a walk finds is a side twice
  scan_finds : (v : ℕ) (ds : List ℕ) (In : ℕ → Type 0) (mark : ℕ → ℕ) → Distinct ds → ((p : ℕ) → In p → p ∈ ds → ⊥)
      → ((p : ℕ) → In p → (p < length ts) × (org ts p ≡ v)) → ((p : ℕ) → p ∈ ds → (p < length ts) × (org ts p ≡ v))
      → Noted origin v In mark → (scan origin v ds mark).found ≡ true → row5 ts ≡ true
  unfolding scan clashes row5 same
  scan_finds v [] In mark D new old here N e = clash e refl
  scan_finds v (d ∷ ds) In mark D new old here N e =
      elim (tested (clashes origin v mark d)) [
        | inl c ↦
            let r = N.only (origin (next d)) (is_of_lem v (mark (origin (next d))) c) in
            let p = r.0 in
            let differ : d ≢ p = λ q. new p r.1 (Memᴰ.head (sym q)) in
            let a = here d (Memᴰ.head refl) in
            let b = old p r.1 in
            let one : tip ts d ≡ tip ts p = sym (leads d a.0) ∙ sym r.2 ∙ leads p b.0 in
            true-any (λ d. any (λ e. not (eqb d e) && same ts d e) (darts ts)) (in_darts ts d a.0)
            (true-any (λ e. not (eqb d e) && same ts d e) (in_darts ts p b.0)
            (rw (ne_eqb d p differ, eq-eqb (org ts d) (org ts p) (a.1 ∙ sym b.1)) (eq-eqb (tip ts d) (tip ts p) one)))
        | inr c ↦
            scan_finds v ds (λ p. (In p) ⊎ (p ≡ d)) (upd (origin (next d)) (noted v d) mark) (distinct_tail D)
            (λ p m k. ⊎_elim (λ l. new p l (Memᴰ.tail k)) (λ q. distinct_head D (Memᴰ.cast (sym q) k)) m)
            (λ p m. ⊎_elim (λ l. old p l) (λ q. rw q (here d (Memᴰ.head refl))) m)
            (λ p m. here p (Memᴰ.tail m))
            (noted_one origin v In mark d N c) (rw c at e)
      ]

  -- ---- all darts of a vertex

  pub scan-row5 : (v : ℕ) (mark : ℕ → ℕ) → Before v mark → (scan origin v (outgoing ts v) mark).found ≡ true → row5 ts ≡ true
  scan-row5 v mark B e =
      scan_finds v (outgoing ts v) (λ p. ⊥) mark (distinct_outgoing ts v) (λ p m k. absurd m) (λ p m. absurd m) (λ p m. outgoing_in ts v m)
      (noted-none origin v mark B) e

  pub scan_leaving : (v : ℕ) (mark : ℕ → ℕ) → Before v mark → (scan origin v (outgoing ts v) mark).found ≡ false
      → Noted origin v (λ p. p ∈ outgoing ts v) (scan origin v (outgoing ts v) mark).mark
  scan_leaving v mark B e =
      noted_as origin v (λ p. ⊥ ⊎ (p ∈ outgoing ts v)) (λ p. p ∈ outgoing ts v) (scan origin v (outgoing ts v) mark).mark
      (λ p m. ⊎_elim (λ k. absurd k) (λ k. k) m) (λ p m. inr m)
      (scan_notes origin v (outgoing ts v) (λ p. ⊥) mark (noted-none origin v mark B) e)

  pub noted_apart : length ts ≤ 65536 → (v : ℕ) (mark : ℕ → ℕ) → Noted origin v (λ p. p ∈ outgoing ts v) mark → Apart ts v
  noted_apart few v mark N d e m k q =
      let a = (outgoing_in ts v m).0 in
      let b = (outgoing_in ts v k).0 in
      let one : origin (next d) ≡ origin (next e) = leads d a ∙ q ∙ sym (leads e b) in
      let z : noted v d ≡ noted v e = sym (N.each d m) ∙ ap mark one ∙ N.each e k in
      sym (noted-dart v d (omega arith)) ∙ ap (λ (x : ℕ). x % 65536) z ∙ noted-dart v e (omega arith)

-- ---- the vertices from v on

-- the lists of these vertices are whole, by the links of `turn`
abbrev pub ListedFrom : List ℕ → ℕ → (ℕ → ℕ) → Incidence → Type 0
ListedFrom ts v turn i = (w : ℕ) → v ≤ w → chain turn (i.number w) (i.first w) ≡ outgoing ts w

module _ (ts : List ℕ) (T : ℕ) (whole : length ts ≡ 3 * T) (i : Incidence) (O : Origins ts i.origin) where
  pub scan_all-row5 : (k v : ℕ) (mark : ℕ → ℕ) → ListedFrom ts v i.turn i → Before v mark → (scan_all i k v mark).found ≡ true → row5 ts ≡ true
  unfolding scan_all
  scan_all-row5 zero v mark B M e = clash e refl
  scan_all-row5 (suc k) v mark B M e =
      let here = B v (omega arith) in
      elim (tested (scan i.origin v (list_at i v) mark).found) [
        | inl c ↦ scan-row5 ts T whole i.origin O v mark M (rw here at c)
        | inr c ↦
            let N = scan_leaving ts T whole i.origin O v mark M (rw here at c) in
            scan_all-row5 k (suc v) (scan i.origin v (list_at i v) mark).mark (λ w h. B w (omega arith)) (rw here N.low) (rw c at e)
      ]

  pub scan_all_apart : length ts ≤ 65536 → (k v : ℕ) (mark : ℕ → ℕ) → ListedFrom ts v i.turn i → Before v mark → (scan_all i k v mark).found ≡ false
      → (w : ℕ) → v ≤ w → w < v + k → Apart ts w
  unfolding scan_all
  scan_all_apart few zero v mark B M f w h l = absurd (omega arith)
  scan_all_apart few (suc k) v mark B M f w h l =
      let here = B v (omega arith) in
      elim (tested (scan i.origin v (list_at i v) mark).found) [
        | inl c ↦ let g : true ≡ false = rw c at f in clash refl g
        | inr c ↦
            let N = scan_leaving ts T whole i.origin O v mark M (rw here at c) in
            elim (ℕ_discrete v w) [
              | yes s ↦ rw s at (noted_apart ts T whole i.origin O few v (scan i.origin v (outgoing ts v) mark).mark N)
              | no s ↦
                  scan_all_apart few k (suc v) (scan i.origin v (list_at i v) mark).mark (λ w h. B w (omega arith)) (rw here N.low) (rw c at f) w
                  (omega arith) (omega arith)
            ]
      ]
