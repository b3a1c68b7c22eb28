-- What each way to the end of a job says of its answer and its buffer; and that a buffer of 16,384 bytes is never too short. Assumes nothing.
use Rattle.std.specs.Prelude.{ℕ, zero, suc, ◌+◌, ◌*◌, ◌-◌, ◌≤◌, ◌<◌, ◌≡◌, Bool, true, false, List}
use Rattle.std.specs.Prelude.{◌∷◌, ltb, length, take, replicate, ℤ, pos, nat_abs, Option, None, Some, Result, Ok, Err}
use Rattle.std.proofs.Math.Path.{refl, sym, ap}
use Rattle.std.proofs.Common.{ap₂, ◌∙◌, inl, arith, length-take-le, ltb-false}
use Rattle.std.proofs.lemmas.List.{length-replicate}
use Rattle.definitions.specs.Lists.{total, total_abs}
use Rattle.definitions.specs.Mesh.{coordinates_length, scratch_length, org, fronted}
use Rattle.theory_sphere.specs.Fronted.{fronted-0}
use Rattle.definitions.specs.Labels.{outer}
use Rattle.definitions.specs.Backward.{coordinate}
use Rattle.definitions.specs.Answers.{Answer, done, refused, numbered, line_broken, Refusal, number}
use Rattle.definitions.specs.Refusals.{Repaired, repair_call, row9}
use Rattle.definitions.specs.Job.{Job, read_job, repair_job, run_job, host_call, listing, told_with_text, line_of, refusal_number}
use Rattle.laws.specs.Sums.{total_abs_lem}
use Rattle.theory_repair.proofs.CallDemand as RepairDemand
use Rattle.theory_demand.specs.Demand.{maps}
use Rattle.text_model.specs.Sizes.{job_fits}
use Rattle.text_model.specs.Writing.{listing_fits}
use Rattle.text_write_listing.specs.Answer.{Listing}
use Rattle.text_read_job.specs.declared.ReadError.{ReadError}
use Rattle.text_read_job.specs.declared.ReadError.TheVariants.{TooLong, Size, Line}
use Rattle.text_read_job.specs.Answer.{answer_of, Sized}
use Rattle.mesh_answer.specs.Answer.{to_refusal, to_answer}
use Rattle.mesh_answer.specs.declared.Refusal.{Refusal as MeshRefusal}
use Rattle.mesh_answer.specs.declared.Refusal.TheVariants.{VertexCount, SliceLength, VertexNumber, RepeatedVertex, RepeatedSide, UnpairedSide, PinchedVertex}
use Rattle.mesh_answer.specs.declared.Refusal.TheVariants.{Disconnected, WeightLimit, CoordinateLimit, OffCorner, OffSum, Stopped, OuterTriangle}
use Rattle.mesh_answer.specs.declared.Refusal.TheVariants.{StrayVertex, LowAboveHigh}
use Rattle.job_call.specs.Model.{job_of, ran, Fitting, outcome, host_number}
use Rattle.job_call.specs.declared.JobRefusal.{JobRefusal}
use Rattle.job_call.specs.declared.JobRefusal.TheVariants.{Text, Repair, ListingLength}
use Rattle.job_call.specs.Answer.{job_to_refusal, job_to_answer, NearLine, Near, Exact, ExactEnd, Ends}

-- an end, clause by clause
pub ended : {a : Answer (List ℕ)} {before after : List ℕ} {r : Result ℕ JobRefusal} → Ends a before after r →
    (job_to_answer r ≡ (outcome a before).answer) × ((after ≡ (outcome a before).buffer) × Near r)
ended e = (e.answer, (e.buffer, e.line))

-- ---- a text

module _ (text : List ℕ) where
  pub run-refused : (why : Refusal) → read_job text ≡ refused why → run_job text ≡ refused (told_with_text why)
  unfolding run_job
  run-refused why e = rw (e, run_job) refl

  pub run-job : (job : Job) → read_job text ≡ done job → run_job text ≡ ran job.n job.triangles job.weights
  unfolding run_job
  run-job job e = rw (e, run_job) refl

  -- as the code hands it over: the reader's answer r, and the slices it filled
  module _ (r : Result ℕ ReadError) (vs : List ℕ) (xs : List ℤ) (read : answer_of r vs xs ≡ read_job text) where
    is_read : (q : Result ℕ ReadError) → r ≡ q → read_job text ≡ answer_of q vs xs
    is_read q e = sym read ∙ ap (λ x. answer_of x vs xs) e

    pub run-read : (why : ReadError) → r ≡ Err why → (before : List ℕ) → Ends (run_job text) before before (Err (Text why))
    unfolding told_with_text
    run-read TooLong e before = rw (run-refused (numbered 19) (is_read _ e)) (record { answer = refl; buffer = refl; line = tt })
    run-read Size e before = rw (run-refused (numbered 1) (is_read _ e)) (record { answer = refl; buffer = refl; line = tt })
    run-read (Line l) e before =
        let q = is_read _ e in
        rw (run-refused (line_broken l) q) (record { answer = refl; buffer = refl; line = rw q at (job_fits text) })

    pub exact-read : (why : ReadError) → r ≡ Err why → Exact (read_job text) (Text why)
    exact-read TooLong e = rw (is_read _ e) refl
    exact-read Size e = rw (is_read _ e) refl
    exact-read (Line l) e = rw (is_read _ e) refl

    pub exact-finish : (n : ℕ) → r ≡ Ok n → (a : Result ℕ JobRefusal)
        → ExactEnd (done (job_of n (take (3 * (2 * n - 4)) vs) (take (2 * n - 5) xs))) a → ExactEnd (read_job text) a
    exact-finish n e a h = rw (is_read _ e) h

    pub run-finish : (n : ℕ) → r ≡ Ok n → (before after : List ℕ) (a : Result ℕ JobRefusal)
        → Ends (ran n (take (3 * (2 * n - 4)) vs) (take (2 * n - 5) xs)) before after a → Ends (run_job text) before after a
    run-finish n e before after a h =
        rw (run-job (job_of n (take (3 * (2 * n - 4)) vs) (take (2 * n - 5) xs)) (is_read _ e)) h

-- a job's size, and the parts that are lent of the slices it was read into
module _ (r : Result ℕ ReadError) (n : ℕ) (e : r ≡ Ok n) (s : Sized r) where
  pub job_sized : (3 ≤ n) × (n ≤ 256)
  job_sized = rw e at s

  pub triangles-lent : (vs : List ℕ) → length vs ≡ length (replicate {A = ℕ} 1524 0) → 3 * (2 * n - 4) ≡ length (take (3 * (2 * n - 4)) vs)
  triangles-lent vs l = sym (length-take-le (3 * (2 * n - 4)) vs (omega (arith, job_sized, length-replicate {A = ℕ} 1524 0)))

  pub weights-lent : (xs : List ℤ) → length xs ≡ length (replicate 507 (pos 0)) → 2 * n - 5 ≡ length (take (2 * n - 5) xs)
  weights-lent xs l = sym (length-take-le (2 * n - 5) xs (omega (arith, job_sized, length-replicate 507 (pos 0))))

  pub job_fitting : (vs : List ℕ) (xs : List ℤ) → length vs ≡ length (replicate {A = ℕ} 1524 0) → length xs ≡ length (replicate 507 (pos 0)) →
      Fitting n (take (3 * (2 * n - 4)) vs) (take (2 * n - 5) xs)
  job_fitting vs xs k l =
      record { least = job_sized.0; most = job_sized.1; triangles = sym (triangles-lent vs k); weights = sym (weights-lent xs l) }

-- the front of an array of zeros
pub zeros-lent : (k m : ℕ) → k ≤ m → k ≡ length (take k (replicate m (pos 0)))
zeros-lent k m h = sym (length-take-le k (replicate m (pos 0)) (omega (arith, length-replicate m (pos 0))))

-- ---- the host's number

host : (text buffer : List ℕ) →
    (host_number (outcome (run_job text) buffer).answer ≡ (host_call text buffer).number)
    × ((outcome (run_job text) buffer).buffer ≡ (host_call text buffer).listing)
unfolding host_call
host text buffer = go (run_job text) refl
  where
    room : (bytes : List ℕ) → run_job text ≡ done bytes → (b : Bool) → ltb (length buffer) (length bytes) ≡ b →
        (host_number (outcome (run_job text) buffer).answer ≡ (host_call text buffer).number)
        × ((outcome (run_job text) buffer).buffer ≡ (host_call text buffer).listing)
    room bytes e true q = rw (e, host_call) (rw (q, host_call) (refl, refl))
    room bytes e false q = rw (e, host_call) (rw (q, host_call) (refl, refl))

    go : (a : Answer (List ℕ)) → run_job text ≡ a →
        (host_number (outcome (run_job text) buffer).answer ≡ (host_call text buffer).number)
        × ((outcome (run_job text) buffer).buffer ≡ (host_call text buffer).listing)
    go (refused why) e = rw (e, host_call) (refl, refl)
    go (done bytes) e = room bytes e (ltb (length buffer) (length bytes)) refl

pub host_buffer : (text before after : List ℕ) → after ≡ (outcome (run_job text) before).buffer → after ≡ (host_call text before).listing
host_buffer text before after e = e ∙ (host text before).1

-- a line that is named leaves the number room in 64 bits
pub near_line : (why : JobRefusal) → NearLine why → line_of (job_to_refusal why) ≤ 1017
unfolding line_of
near_line (Text TooLong) h = omega arith
near_line (Text Size) h = omega arith
near_line (Text (Line l)) h = h
near_line (Repair why) h = omega arith
near_line ListingLength h = omega arith

-- the host's number of an answer
module _ (text buffer : List ℕ) (r : Result ℕ JobRefusal) (told-it : job_to_answer r ≡ (outcome (run_job text) buffer).answer) where
  number_is : (a : Answer ℕ) → job_to_answer r ≡ a → host_number a ≡ (host_call text buffer).number
  number_is a e = ap host_number (sym e ∙ told-it) ∙ (host text buffer).0

  pub host_listed : (k : ℕ) → r ≡ Ok k → k ≡ (host_call text buffer).number
  host_listed k e = number_is (done k) (ap job_to_answer e)

  -- from the line l and the number k of the refusal, as the code has them
  pub host_refused : (why : JobRefusal) → r ≡ Err why → (l k : ℕ) → l ≡ line_of (job_to_refusal why) → k ≡ number (job_to_refusal why) →
      65536 * (1 + l) + k ≡ (host_call text buffer).number
  unfolding refusal_number
  host_refused why e l k f g = rw (f, g) (number_is (refused (job_to_refusal why)) (ap job_to_answer e))

-- ---- a listing, written or too long for the buffer

module _ (bytes before after : List ℕ) where
  ends_written : (k : ℕ) → Listing bytes before after (Some k) → Ends (done bytes) before after (Ok k)
  ends_written k h = go (ltb (length before) (length bytes)) refl
    where
      go : (b : Bool) → ltb (length before) (length bytes) ≡ b → Ends (done bytes) before after (Ok k)
      go true e = let z : ◌≡◌ {A = ℕ} 0 1 = cc (rw e at h.answer) in absurd (omega arith)
      go false e =
          let q : ◌≡◌ {A = Option ℕ} (Some k) (Some (length bytes)) = rw e at h.answer in
          let p : k ≡ length bytes = cc in
          record { answer = rw e (ap {A = ℕ} {B = Answer ℕ} done p); buffer = rw e (rw e at h.buffer); line = tt }

  ends_short : Listing bytes before after None → Ends (done bytes) before after (Err ListingLength)
  ends_short h = go (ltb (length before) (length bytes)) refl
    where
      go : (b : Bool) → ltb (length before) (length bytes) ≡ b → Ends (done bytes) before after (Err ListingLength)
      go true e = record { answer = rw e refl; buffer = rw e (rw e at h.buffer); line = tt }
      go false e = let z : ◌≡◌ {A = ℕ} 0 1 = cc (rw e at h.answer) in absurd (omega arith)

-- as the code hands it over: the writer's answer r, and N by another name
module _ (n raises : ℕ) (ts : List ℕ) (bs : List ℤ) (N : ℤ) (v : ℕ) (vertex : v ≡ org ts 0) (total : N ≡ coordinate bs 0 v)
    (before after : List ℕ)
    (r : Option ℕ) (h : Listing (listing n N raises bs) before after r) where
  same : listing n N raises bs ≡ listing n (coordinate bs 0 (org ts 0)) raises bs
  same = ap {A = ℤ} {B = List ℕ} (λ x. listing n x raises bs) (total ∙ ap (λ w. coordinate bs 0 w) vertex)

  pub listed-ends : (k : ℕ) → r ≡ Some k → Ends (done (listing n (coordinate bs 0 (org ts 0)) raises bs)) before after (Ok k)
  listed-ends k e = rw same at (ends_written (listing n N raises bs) before after k (rw e at h))

  pub short_ends : r ≡ None → Ends (done (listing n (coordinate bs 0 (org ts 0)) raises bs)) before after (Err ListingLength)
  short_ends e = rw same at (ends_short (listing n N raises bs) before after (rw e at h))

-- ---- a job that is read: its repair, over buffers of its own

-- a text tells the number of a refusal, and no vertex
told_alone : (why : MeshRefusal) → told_with_text (to_refusal why) ≡ numbered (number (to_refusal why))
unfolding told_with_text
told_alone VertexCount = refl
told_alone SliceLength = refl
told_alone VertexNumber = refl
told_alone RepeatedVertex = refl
told_alone RepeatedSide = refl
told_alone UnpairedSide = refl
told_alone (PinchedVertex k) = refl
told_alone Disconnected = refl
told_alone WeightLimit = refl
told_alone CoordinateLimit = refl
told_alone OffCorner = refl
told_alone OffSum = refl
told_alone (Stopped k) = refl
told_alone OuterTriangle = refl
told_alone (StrayVertex k) = refl
told_alone LowAboveHigh = refl

take-replicate : {A : Type 0} (k m : ℕ) (a : A) → k ≤ m → take k (replicate m a) ≡ replicate k a
take-replicate zero m a h = refl
take-replicate (suc k) zero a h = absurd (omega arith)
take-replicate (suc k) (suc m) a h = ap (λ l. a ∷ l) (take-replicate k m a (omega arith))

module _ (n : ℕ) (ts : List ℕ) (ws : List ℤ) where
  abbrev end : Repaired
  end = repair_call n 0 ts ws (replicate (coordinates_length n) (pos 0)) (replicate (scratch_length n) (pos 0))

  ran-refused : (why : Refusal) → end.answer ≡ refused why → ran n ts ws ≡ refused (told_with_text why)
  unfolding repair_job
  ran-refused why e = rw (e, ran) refl

  module _ (raises : ℕ) (e : end.answer ≡ done raises) where
    done_few : raises ≤ 2 * n - 5
    done_few =
        RepairDemand.count_few n 0 ts (maps n (fronted 0 ts)) ws (replicate (coordinates_length n) (pos 0)) (replicate (scratch_length n) (pos 0))
        raises (inl e)

    -- N is b0 of v0
    done-total : coordinate end.coordinates 0 (org ts 0) ≡ total end.weights
    unfolding outer
    done-total =
        rw (fronted-0 ts) at
        (RepairDemand.count-total n 0 ts (maps n (fronted 0 ts)) ws (replicate (coordinates_length n) (pos 0)) (replicate (scratch_length n) (pos 0)) raises
        (inl e))

    ran-total : ran n ts ws ≡ done (listing n (total end.weights) raises end.coordinates)
    unfolding repair_job
    ran-total = rw (e, ran) refl

    ran-done : ran n ts ws ≡ done (listing n (coordinate end.coordinates 0 (org ts 0)) raises end.coordinates)
    ran-done = ran-total ∙ ap {A = ℤ} {B = Answer (List ℕ)} (λ N. done (listing n N raises end.coordinates)) (sym done-total)

  -- as the code lends them: the fronts of two arrays of zeros, with room for the largest job
  abbrev on_fronts : Repaired
  on_fronts =
      repair_call n 0 ts ws (take (coordinates_length n) (replicate (coordinates_length 256) (pos 0)))
      (take (scratch_length n) (replicate (scratch_length 256) (pos 0)))

  -- r is what the code answers
  module _ (F : Fitting n ts ws) (r : Result ℕ MeshRefusal) (told-it : to_answer r ≡ on_fronts.answer) where
    zeros : on_fronts ≡ end
    zeros =
        ap₂ (repair_call n 0 ts ws) (take-replicate (coordinates_length n) (coordinates_length 256) (pos 0) (omega (arith, F.most)))
        (take-replicate (scratch_length n) (scratch_length 256) (pos 0) (omega (arith, F.most)))

    answer_is : (a : Answer ℕ) → to_answer r ≡ a → end.answer ≡ a
    answer_is a e = ap (λ (x : Repaired). x.answer) (sym zeros) ∙ sym told-it ∙ e

    pub few_raises : (raises : ℕ) → r ≡ Ok raises → raises < 65536
    few_raises raises e = omega (arith, F.most, done_few raises (answer_is (done raises) (ap to_answer e)))

    pub finish-listed : (raises : ℕ) → r ≡ Ok raises → (bs : List ℤ)
        → bs ≡ on_fronts.coordinates
        → (before after : List ℕ) (a : Result ℕ JobRefusal) → Ends (done (listing n (coordinate bs 0 (org ts 0)) raises bs)) before after a →
        Ends (ran n ts ws) before after a
    finish-listed raises e bs is before after a h =
        let q : bs ≡ end.coordinates = is ∙ ap (λ (x : Repaired). x.coordinates) zeros in
        let p = ran-done raises (answer_is (done raises) (ap to_answer e)) in
        rw (p, ← q) h

    pub finish-refused : (why : MeshRefusal) → r ≡ Err why → (before : List ℕ) → Ends (ran n ts ws) before before (Err (Repair why))
    finish-refused why e before =
        let is = ran-refused (to_refusal why) (answer_is (refused (to_refusal why)) (ap to_answer e)) in
        rw (is ∙ ap refused (told_alone why)) (record { answer = refl; buffer = refl; line = tt })

    -- the refusal of the job's repair, with what it carries
    pub exact-refused : (why : MeshRefusal) → r ≡ Err why → Exact (done (job_of n ts ws)) (Repair why)
    unfolding repair_job
    exact-refused why e = answer_is (refused (to_refusal why)) (ap to_answer e)

-- ---- packmap's buffer always has room: a job never ends with a listing of more than 16,384 bytes

row9-total : (ws : List ℤ) → row9 ws ≡ false → nat_abs (total ws) ≤ 1073741823
unfolding row9
row9-total ws e = omega (arith, total_abs_lem ws, ltb-false 1073741823 (total_abs ws) e)

pub listing_room : (text bytes : List ℕ) → run_job text ≡ done bytes → length bytes ≤ 16384
listing_room text bytes e = go (read_job text) refl
  where
    -- a job that is repaired
    repaired : (job : Job) → read_job text ≡ done job → (a : Answer ℕ) → (end job.n job.triangles job.weights).answer ≡ a →
        length bytes ≤ 16384
    repaired job p (refused why) q =
        let z : ◌≡◌ {A = ℕ} 0 1 = cc (sym e ∙ run-job text job p ∙ ran-refused job.n job.triangles job.weights why q) in absurd (omega arith)
    repaired job p (done raises) q =
        let n = job.n in
        let ts = job.triangles in
        let ws = job.weights in
        let E = end n ts ws in
        let bs = replicate (coordinates_length n) (pos 0) in
        let scratch = replicate (scratch_length n) (pos 0) in
        let sized : (3 ≤ n) × (n ≤ 256) = rw p at (job_fits text) in
        let is : ◌≡◌ {A = Answer (List ℕ)} (done bytes) (done (listing n (total E.weights) raises E.coordinates)) =
        sym e ∙ run-job text job p ∙ ran-total n ts ws raises q in
        let same : bytes ≡ listing n (total E.weights) raises E.coordinates = cc in
        rw same
        (listing_fits n (total E.weights) raises E.coordinates sized.1
        (row9-total E.weights (RepairDemand.count-weights n 0 ts (maps n (fronted 0 ts)) ws bs scratch raises (inl q)).1)
        (omega (arith, done_few n ts ws raises q, sized))
        (RepairDemand.count_limits n 0 ts (maps n (fronted 0 ts)) ws bs scratch raises (inl q)))

    go : (a : Answer Job) → read_job text ≡ a → length bytes ≤ 16384
    go (refused why) p = let z : ◌≡◌ {A = ℕ} 0 1 = cc (sym e ∙ run-refused text why p) in absurd (omega arith)
    go (done job) p = repaired job p (end job.n job.triangles job.weights).answer refl
