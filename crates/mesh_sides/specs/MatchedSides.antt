-- What filling the lists and matching the sides say of rows 5 and 6, and what they leave in scratch where neither finds anything. Assumes nothing.
use Rattle.std.specs.Prelude.{ℕ, ◌*◌, ◌<◌, ◌≡◌, ◌⊎◌, Bool, true, false, List, length, ℤ, Result, Ok, Err}
use Rattle.std.proofs.Common.{arith}
use Rattle.std.proofs.Math.Logic.{inl, inr}
use Rattle.std.proofs.Math.Option.{none}
use Rattle.definitions.specs.Mesh.{prev, org, opp, row5, row6}
use Rattle.mesh_tables.specs.Incidence.{Incidence, incidence, with_turn, with_mark}
use Rattle.mesh_model.specs.IncidenceLists.{Origins, fill, fill_buckets, fill_unmarked, Rooted, bucketed_rooted}
use Rattle.mesh_model.specs.Bounds.{fill_origins}
use Rattle.mesh_model.specs.Opposites.{Told, twice, lacking, paired, join_all_told}
use Rattle.mesh_model.specs.RingWalk.{one_ring, first_broken}
use Rattle.mesh_model.proofs.RingWalk.{rings_unbroken}
use Rattle.mesh_answer.specs.declared.Refusal.{Refusal}
use Rattle.mesh_answer.specs.declared.Refusal.TheVariants.{RepeatedSide, UnpairedSide}
use Rattle.mesh_sides.specs.Room.{Filling}
use Rattle.mesh_sides.specs.LoopInvariants.{joined_all, AllMatched}

-- each dart's turn and origin, the number of darts of each vertex, and a dart of each
pub record Matched (ts : List ℕ) (i : Incidence) : Type 0 where
  pub turns : (d : ℕ) → d < length ts → i.turn d ≡ opp ts (prev d)
  pub origins : Origins ts i.origin
  pub rooted : Rooted ts i

-- rows 5 and 6 find nothing
pub record SidesMatched (ts : List ℕ) (i : Incidence) : Type 0 where
  pub none5 : row5 ts ≡ false
  pub none6 : row6 ts ≡ false
  pub tables : Matched ts i

-- scratch before, with the lists filled, and with the sides matched
module _ (n T : ℕ) (ts : List ℕ) (whole : length ts ≡ 3 * T) (some : 0 < T) (small : (d : ℕ) → org ts d < n) (s₀ s₁ s₂ : List ℤ) (F : Filling ts s₀)
    (f : incidence s₁ ≡ fill ts (length ts) (incidence s₀)) (r : Result Bool Refusal) (M : AllMatched n s₁ s₂ r) where
  filled : Incidence
  filled = fill ts (length ts) (incidence s₀)

  origins : Origins ts filled.origin
  unfolding filled
  origins = fill_origins ts (incidence s₀) F.empty (omega arith)

  rooted : Rooted ts filled
  unfolding filled
  rooted = bucketed_rooted ts filled (fill_buckets ts (incidence s₀) F.empty)

  told : Told ts n (incidence s₁) (joined_all n (incidence s₁))
  unfolding filled
  told =
      rw f (join_all_told ts T whole (omega (arith, F.few)) n small filled origins rooted (fill_buckets ts (incidence s₀) F.empty)
      (λ w. omega (arith, fill_unmarked ts (incidence s₀) F.empty w)))

  pub found-5 : r ≡ Err RepeatedSide → row5 ts ≡ true
  found-5 e = go told
    where
      go : Told ts n (incidence s₁) (joined_all n (incidence s₁)) → row5 ts ≡ true
      go (twice q f5) = f5
      go (lacking q n5 f6) = absurd (cc M.answer)
      go (paired rings q n5 n6 o g) = absurd (cc M.answer)

  pub found-6 : r ≡ Err UnpairedSide → (row5 ts ≡ false) × (row6 ts ≡ true)
  found-6 e = go told
    where
      go : Told ts n (incidence s₁) (joined_all n (incidence s₁)) → (row5 ts ≡ false) × (row6 ts ≡ true)
      go (twice q f5) = absurd (cc M.answer)
      go (lacking q n5 f6) = (n5, f6)
      go (paired rings q n5 n6 o g) = absurd (cc M.answer)

  -- no other refusal is found
  pub found_refusal : (why : Refusal) → r ≡ Err why → (why ≡ RepeatedSide) ⊎ (why ≡ UnpairedSide)
  found_refusal why e = go told
    where
      go : Told ts n (incidence s₁) (joined_all n (incidence s₁)) → (why ≡ RepeatedSide) ⊎ (why ≡ UnpairedSide)
      go (twice q f5) = inl (cc M.answer)
      go (lacking q n5 f6) = inr (cc M.answer)
      go (paired rings q n5 n6 o g) = absurd (cc M.answer)

  pub found_none : (rings : Bool) → r ≡ Ok rings → SidesMatched ts (incidence s₂)
  unfolding with_turn with_mark filled
  found_none rings e = go told
    where
      go : Told ts n (incidence s₁) (joined_all n (incidence s₁)) → SidesMatched ts (incidence s₂)
      go (twice q f5) = absurd (cc M.answer)
      go (lacking q g5 f6) = absurd (cc M.answer)
      go (paired b q g5 g6 o g) =
          record {
            none5 = g5;
            none6 = g6;
            tables = rw (M.same rings e) record { turns = o; origins = rw f origins; rooted = rw f record { number = rooted.number; dart = rooted.dart } };
          }

  -- with `true` each vertex has one ring
  pub found_rings : r ≡ Ok true → first_broken (incidence s₂) n 0 ≡ none
  unfolding with_turn with_mark one_ring
  found_rings e = go told
    where
      go : Told ts n (incidence s₁) (joined_all n (incidence s₁)) → first_broken (incidence s₂) n 0 ≡ none
      go (twice q f5) = absurd (cc M.answer)
      go (lacking q g5 f6) = absurd (cc M.answer)
      go (paired b q g5 g6 o g) = rings_unbroken (incidence s₂) n 0 (λ w h l. rw (M.same true e) (g (cc M.answer) w (omega arith)))
