-- `text_read_job::read_end` meets its contract. A broken line, a line too many, or the end of the text. Assumes nothing.
use Rattle.std.proofs.Common.{arith, rules, ◌≡◌, ℕ, Err, Ok}
use Rattle.std.proofs.lemmas.Bool.Decides.{nat_tests}
use Rattle.std.proofs.lemmas.Result.{err_from_is_err_and}
use Rattle.text_read_job.specs.declared.ReadError.TheVariants.{Line}
use Rattle.text_read_job.specs.Parts.{end_broken, end_extra, end-job}
use Rattle.text_read_job.proofs.read_end.Goals as goal

pub returns-in_err-end : goal.returns-in_err-end
returns-in_err-end c =
    let v : (l : ℕ) × (c.read_weights.result ≡ Err l) × (c.in_err-end.field-0.0 ≡ Line l) = search rules in
    let p = err_from_is_err_and c.from_residual.result c.from_residual.ensures.1 in
    rw (p.1, p.2, v.2) (end_broken _ _ _ v.0 (rw v.1 at c.read_weights.ensures))

pub returns-then-not-is_empty : goal.returns-then-not-is_empty
returns-then-not-is_empty c =
    let v : c.read_weights.result ≡ Ok c.in_ok-end.end = search rules in
    end_extra _ _ _ _ (rw (v, ← c.rest.ensures) at c.read_weights.ensures) (grind (arith, nat_tests))

pub returns : goal.returns
returns c =
    let v : c.read_weights.result ≡ Ok c.in_ok-end.end = search rules in
    end-job _ _ _ _ (rw (v, ← c.rest.ensures) at c.read_weights.ensures) (grind (arith, nat_tests)) (omega arith) (omega arith)
