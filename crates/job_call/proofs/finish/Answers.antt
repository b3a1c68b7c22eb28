-- `job_call::finish` meets its contract: each answer of repair gives one end of the job. Assumes nothing.
use Rattle.std.proofs.Common.{arith}
use Rattle.std.proofs.lemmas.Result.{err_from_is_err_and}
use Rattle.job_call.specs.Outcomes.{few_raises, finish-listed, finish-refused, exact-refused}
use Rattle.job_call.proofs.finish.Goals as goal

pub returns-in_err-raises : goal.returns-in_err-raises
returns-in_err-raises c =
    let p = err_from_is_err_and c.from_residual.result c.from_residual.ensures.1 in
    record {
      ends = rw (p.1, p.2) (finish-refused _ _ _ c.requires c.repair.result c.repair.ensures.answer _ c.in_err-raises.was _);
      exact = rw (p.1, p.2) (exact-refused _ _ _ c.requires c.repair.result c.repair.ensures.answer _ c.in_err-raises.was);
    }

pub list-requires : goal.list-requires
list-requires c = (omega arith, few_raises _ _ _ c.requires c.repair.result c.repair.ensures.answer _ c.in_ok-raises.was)

pub returns : goal.returns
returns c = record {
  ends =
      finish-listed _ _ _ c.requires c.repair.result c.repair.ensures.answer _ c.in_ok-raises.was _ c.repair.ensures.coordinates _ _ _
      c.list.ensures.ends;
  exact = c.list.ensures.exact _;
}
