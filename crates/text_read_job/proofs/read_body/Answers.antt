-- `text_read_job::read_body` meets its contract. The triangles, and then what `read_end` finds. Assumes nothing.
use Rattle.std.proofs.Common.{rules, ◌≡◌, ℕ, Err, Ok}
use Rattle.std.proofs.lemmas.Result.{err_from_is_err_and}
use Rattle.text_read_job.specs.declared.ReadError.TheVariants.{Line}
use Rattle.text_read_job.specs.Parts.{comes_broken, comes_next}
use Rattle.text_read_job.proofs.read_body.Goals as goal

pub returns-in_err-end : goal.returns-in_err-end
returns-in_err-end c =
    let v : (l : ℕ) × (c.read_triangles.result ≡ Err l) × (c.in_err-end.field-0.0 ≡ Line l) = search rules in
    let p = err_from_is_err_and c.from_residual.result c.from_residual.ensures.1 in
    rw (p.1, p.2, v.2) (comes_broken _ _ _ _ v.0 (rw v.1 at c.read_triangles.ensures))

pub returns : goal.returns
returns c =
    let v : c.read_triangles.result ≡ Ok c.in_ok-end.end = search rules in
    comes_next _ _ _ _ _ _ (rw v at c.read_triangles.ensures) c.read_end.ensures
