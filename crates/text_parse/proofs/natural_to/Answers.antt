-- `text_parse::natural_to` meets its contract. By the length and the first byte. Assumes nothing.
use Rattle.std.proofs.Common.{◌∙◌, sym, arith, ◌≡◌, length, get_or, ◌<◌}
use Rattle.std.proofs.lemmas.Bool.Decides.{nat_tests}
use Rattle.text_model.specs.Scan.{none_empty, none_zero, one-scan, more-scan}
use Rattle.text_parse.proofs.natural_to.Goals as goal
use Rattle.text_parse.proofs.natural_to.Goals.{then-is_empty-via-then-is_empty, then-is_empty-via-else-is_empty+then-s-eq48, then-s-gt1, else-s-gt1}

pub returns-then-is_empty : goal.returns-then-is_empty
returns-then-is_empty c =
    let s = c.args.s.now in
    elim c.then-is_empty.branch [
      | then-is_empty-via-then-is_empty w ↦ sym (none_empty _ _ (grind (arith, nat_tests)))
      | then-is_empty-via-else-is_empty+then-s-eq48 w ↦
          let z : (1 < length s) × (get_or s 0 0 ≡ 48) = grind (arith, nat_tests) in
          sym (none_zero _ _ z.0 z.1)
    ]

pub returns : goal.returns
returns c =
    let s = c.args.s.now in
    c.digits_to.ensures ∙ elim c.if-s-gt1.branch [
      | then-s-gt1 w ↦ sym (more-scan _ _ (omega arith) (grind (arith, nat_tests)))
      | else-s-gt1 w ↦ sym (one-scan _ _ (grind (arith, nat_tests)))
    ]
