-- Document 01, "Job text and packmap": the layout of a job, its reading, the listing, and the whole outcome of the call for the host service. Definitions
-- only. A text is the list of its bytes.
use Rattle.std.specs.Prelude.{ℕ, zero, suc, ◌+◌, ◌-◌, ◌*◌, ◌/◌, ◌%◌, Bool, true, false, not, ◌&&◌, cond, leb, ltb, eqb, length, replicate, drop, ℤ, pos, negsuc}
use Prim.Native.Char.{code}
use Prim.Native.String.{String}
use mathlib.Core.List.{List, [], ◌∷◌, ◌++◌, flat_map}
use Rattle.std.proofs.Math.Option.{Option, none, some}
use Rattle.definitions.specs.Lists.{upto, all, total}
use Rattle.definitions.specs.Answers.{Refusal, numbered, vertex_pinched, vertex_stray, stopped_after, share_outside, line_broken, number}
use Rattle.definitions.specs.Answers.{Answer, done, refused}
use Rattle.definitions.specs.Mesh.{coordinates_length, scratch_length}
use Rattle.definitions.specs.Backward.{coordinate}
use Rattle.definitions.specs.Refusals.{row1, Repaired, repair_call}

-- ---- bytes

abbrev pub LF : ℕ
LF = 10

abbrev pub TAB : ℕ
TAB = 9

-- the bytes of a plain text
abbrev pub bytes : String → List ℕ
bytes String.[] = []
bytes (String.◌∷◌ c s) = code c ∷ bytes s

-- the fixed bytes that begin a job and a listing
abbrev pub pack_map : List ℕ
pack_map = bytes "pack-map"

unfoldable pub same_bytes : List ℕ → List ℕ → Bool
same_bytes [] [] = true
same_bytes [] (b ∷ bs) = false
same_bytes (a ∷ as') [] = false
same_bytes (a ∷ as') (b ∷ bs) = eqb a b && same_bytes as' bs

-- ---- lines and fields

-- The first line of a text without its LF, and the text after it. (There is none where the text has no LF: then it is empty, or a line without its LF.)
pub record SplitLine : Type 0 where
  pub line : List ℕ
  pub rest : List ℕ

unfoldable pub split_line : List ℕ → Option SplitLine
split_line [] = none
split_line (b ∷ text) =
    elim (eqb b LF) [
      | true ↦ some (record { line = []; rest = text })
      | false ↦ elim (split_line text) [ none ↦ none | some c ↦ some (record { line = b ∷ c.line; rest = c.rest }) ]
    ]

-- a byte more at the front of the first field
unfoldable pub longer : ℕ → List (List ℕ) → List (List ℕ)
longer b [] = (b ∷ []) ∷ []
longer b (f ∷ fs) = (b ∷ f) ∷ fs

-- the fields of a line, which tabs part
unfoldable pub fields : List ℕ → List (List ℕ)
unfolding longer
fields [] = [] ∷ []
fields (b ∷ line) = let rest = fields line in cond (eqb b TAB) ([] ∷ rest) (longer b rest)

-- ---- numbers

unfoldable pub digit : ℕ → Bool
digit b = leb 48 b && leb b 57

-- the number that digits stand for, with those before them standing for n
unfoldable pub value : ℕ → List ℕ → ℕ
value n [] = n
value n (b ∷ bs) = value (10 * n + (b - 48)) bs

-- a decimal number: digits, with no leading zero
unfoldable pub natural : List ℕ → Option ℕ
unfolding all digit value
natural [] = none
natural (b ∷ []) = cond (digit b) (some (b - 48)) none
natural (b ∷ c ∷ bs) = cond (all digit (b ∷ c ∷ bs) && not (eqb b 48)) (some (value 0 (b ∷ c ∷ bs))) none

-- one that is at most `most`
unfoldable pub natural_to : ℕ → List ℕ → Option ℕ
unfolding natural
natural_to most bs = elim (natural bs) [ none ↦ none | some k ↦ cond (leb k most) (some k) none ]

-- a vertex, and by layout n too: 0..65535
unfoldable pub vertex_field : List ℕ → Option ℕ
unfolding natural_to
vertex_field bs = natural_to 65535 bs

-- a weight: -2147483648..2147483647, no -0
unfoldable pub weight_field : List ℕ → Option ℤ
unfolding natural_to
weight_field [] = none
weight_field (b ∷ bs) =
    elim (eqb b 45) [
      | true ↦ elim (natural_to 2147483648 bs) [ none ↦ none | some zero ↦ none | some (suc k) ↦ some (negsuc k) ]
      | false ↦ elim (natural_to 2147483647 (b ∷ bs)) [ none ↦ none | some k ↦ some (pos k) ]
    ]

-- ---- the layout of a line, by its fields

unfoldable pub head_line : List (List ℕ) → Option ℕ
unfolding same_bytes vertex_field
head_line [] = none
head_line (f ∷ []) = none
head_line (f ∷ x ∷ []) = cond (same_bytes f pack_map) (vertex_field x) none
head_line (f ∷ x ∷ y ∷ fs) = none

unfoldable pub three : Option ℕ → Option ℕ → Option ℕ → Option (List ℕ)
three none y z = none
three (some a) none z = none
three (some a) (some b) none = none
three (some a) (some b) (some c) = some (a ∷ b ∷ c ∷ [])

unfoldable pub triangle_line : List (List ℕ) → Option (List ℕ)
unfolding same_bytes vertex_field three
triangle_line [] = none
triangle_line (f ∷ []) = none
triangle_line (f ∷ x ∷ []) = none
triangle_line (f ∷ x ∷ y ∷ []) = none
triangle_line (f ∷ x ∷ y ∷ z ∷ []) = cond (same_bytes f (bytes "t")) (three (vertex_field x) (vertex_field y) (vertex_field z)) none
triangle_line (f ∷ x ∷ y ∷ z ∷ u ∷ fs) = none

unfoldable pub weight_line : List (List ℕ) → Option ℤ
unfolding same_bytes weight_field
weight_line [] = none
weight_line (f ∷ []) = none
weight_line (f ∷ x ∷ []) = cond (same_bytes f (bytes "w")) (weight_field x) none
weight_line (f ∷ x ∷ y ∷ fs) = none

-- ---- reading

-- What lines gave, and the text after them; or the number of the line that breaks the layout. A missing line breaks it too.
pub data Read (A : Type 0) : Type 0 where
  got : A → List ℕ → Read A
  breaks : ℕ → Read A

-- the line numbered `at`, which begins the text
unfoldable pub read_line : {A : Type 0} → (List (List ℕ) → Option A) → ℕ → List ℕ → Read A
unfolding split_line fields
read_line layout at text =
    elim (split_line text) [
      | none ↦ breaks at
      | some c ↦ elim (layout (fields c.line)) [ none ↦ breaks at | some x ↦ got x c.rest ]
    ]

-- k lines of one layout, from the one numbered `at`
unfoldable pub read_lines : {A : Type 0} → (List (List ℕ) → Option A) → ℕ → ℕ → List ℕ → Read (List A)
unfolding read_line
read_lines layout zero at text = got [] text
read_lines layout (suc k) at text =
    elim (read_line layout at text) [
      | breaks l ↦ breaks l
      | got x rest ↦ elim (read_lines layout k (suc at) rest) [ breaks l ↦ breaks l | got xs end ↦ got (x ∷ xs) end ]
    ]

pub record Job : Type 0 where
  pub n : ℕ
  pub triangles : List ℕ
  pub weights : List ℤ

-- the most bytes of a text, and the most vertices of a mesh in a text
abbrev pub most_bytes : ℕ
most_bytes = 16384

abbrev pub most_text_vertices : ℕ
most_text_vertices = 256

-- the lines after the first, for n vertices: 2n - 4 triangles from line 2, 2n - 5 weights after them, and no more
unfoldable pub read_body : ℕ → List ℕ → Answer Job
unfolding read_lines triangle_line weight_line flat_map
read_body n text =
    elim (read_lines triangle_line (2 * n - 4) 2 text) [
      | breaks l ↦ refused (line_broken l)
      | got ts rest ↦
          elim (read_lines weight_line (2 * n - 5) (2 * n - 2) rest) [
            | breaks l ↦ refused (line_broken l)
            | got ws [] ↦ done (record { n = n; triangles = flat_map (λ t. t) ts; weights = ws })
            | got ws (b ∷ more) ↦ refused (line_broken (4 * n - 7))
          ]
    ]

-- the whole text: 19, the first line, 1 directly after it, and the other lines in turn
unfoldable pub read_job : List ℕ → Answer Job
unfolding read_line head_line row1 read_body
read_job text =
    elim (ltb most_bytes (length text)) [
      | true ↦ refused (numbered 19)
      | false ↦
          elim (read_line head_line 1 text) [
            | breaks l ↦ refused (line_broken l)
            | got n rest ↦ elim (row1 most_text_vertices n) [ true ↦ refused (numbered 1) | false ↦ read_body n rest ]
          ]
    ]

-- ---- writing

-- the decimal digits of n, ahead of those already there. n + 1 is more fuel than it has digits.
unfoldable pub digits : ℕ → ℕ → List ℕ → List ℕ
digits zero n ds = ds
digits (suc k) n ds = elim (ltb n 10) [ true ↦ (48 + n) ∷ ds | false ↦ digits k (n / 10) ((48 + n % 10) ∷ ds) ]

unfoldable pub decimal : ℤ → List ℕ
unfolding digits
decimal (pos n) = digits (suc n) n []
decimal (negsuc n) = 45 ∷ digits (suc (suc n)) (suc n) []

-- a line: a word, numbers after tabs, and LF
unfoldable pub write_line : List ℕ → List ℤ → List ℕ
unfolding decimal flat_map
write_line word xs = word ++ flat_map (λ x. TAB ∷ decimal x) xs ++ (LF ∷ [])

-- the listing: n, N and the raises; then a line for each vertex, with b0, b1 and b2
unfoldable pub listing : ℕ → ℤ → ℕ → List ℤ → List ℕ
unfolding write_line coordinate upto flat_map
listing n N raises bs =
    write_line pack_map (pos n ∷ N ∷ pos raises ∷ [])
    ++ flat_map (λ i. write_line (bytes "v") (pos i ∷ coordinate bs 0 i ∷ coordinate bs 1 i ∷ coordinate bs 2 i ∷ [])) (upto n)

-- ---- the job

-- What a refusal tells where a text is given: its number alone, and for 17 the line.
unfoldable pub told_with_text : Refusal → Refusal
told_with_text (numbered k) = numbered k
told_with_text (vertex_pinched v) = numbered 7
told_with_text (vertex_stray v) = numbered 25
told_with_text (stopped_after count) = numbered 13
told_with_text (share_outside share) = numbered 16
told_with_text (line_broken line) = line_broken line

-- the repair of a job, over buffers of its own; a text's first triangle is the outer one
unfoldable pub repair_job : Job → Repaired
unfolding repair_call
repair_job job =
    let n = job.n in
    repair_call n 0 job.triangles job.weights (replicate (coordinates_length n) (pos 0)) (replicate (scratch_length n) (pos 0))

-- the listing of a job text, or its refusal: the text's own, then the mesh's, 9 and 13
unfoldable pub run_job : List ℕ → Answer (List ℕ)
unfolding read_job repair_job told_with_text listing total
run_job text =
    elim (read_job text) [
      | refused why ↦ refused (told_with_text why)
      | done job ↦
          let end = repair_job job in
          elim end.answer [
            | refused why ↦ refused (told_with_text why)
            | done raises ↦ done (listing job.n (total end.weights) raises end.coordinates)
          ]
    ]

-- the line that a refusal names: 0 unless it is 17
unfoldable pub line_of : Refusal → ℕ
line_of (numbered k) = 0
line_of (vertex_pinched v) = 0
line_of (vertex_stray v) = 0
line_of (stopped_after count) = 0
line_of (share_outside share) = 0
line_of (line_broken line) = line

-- The call for the host service, on a text and a listing buffer: the listing's length, or 65,536 × (1 + line) plus the refusal's number; and the
-- buffer at the end. The listing stands at its front, and bytes past it keep what they held. A buffer that is too short is 18, and keeps its contents.
pub record Hosted : Type 0 where
  pub number : ℕ
  pub listing : List ℕ

unfoldable pub refusal_number : Refusal → ℕ
unfolding line_of
refusal_number why = 65536 * (1 + line_of why) + number why

unfoldable pub host_call : List ℕ → List ℕ → Hosted
unfolding run_job refusal_number
host_call text buffer =
    elim (run_job text) [
      | refused why ↦ record { number = refusal_number why; listing = buffer }
      | done bytes ↦
          elim (ltb (length buffer) (length bytes)) [
            | true ↦ record { number = refusal_number (numbered 18); listing = buffer }
            | false ↦ record { number = length bytes; listing = bytes ++ drop (length bytes) buffer }
          ]
    ]

-- What packmap prints: the listing, or one line: refused, number, line.
unfoldable pub prints : List ℕ → List ℕ
unfolding run_job write_line line_of
prints text =
    elim (run_job text) [
      | refused why ↦ write_line (bytes "refused") (pos (number why) ∷ pos (line_of why) ∷ [])
      | done bytes ↦ bytes
    ]
