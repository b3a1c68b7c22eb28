-- `job_call::first_corner` meets its contract. Past the end both sides are 0. Assumes nothing.
use Rattle.std.proofs.Common.{rules}
use Rattle.definitions.specs.Mesh.{org}
use Rattle.job_call.proofs.first_corner.Goals as goal

pub returns-clause-is : goal.returns-clause-is
unfolding org
returns-clause-is c = search (rules, c.first.ensures.value, c.first.ensures.item)
