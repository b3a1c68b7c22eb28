-- `repair_preorder::build_preorders` meets its contract: a row for each colour. Assumes nothing.
use Rattle.std.proofs.Common.{rules}
use Rattle.repair_preorder.specs.LoopInvariants.{built_walks}
use Rattle.repair_preorder.specs.RootedForest.{built_both}
use Rattle.repair_preorder.proofs.build_preorders.Goals as goal

pub build_preorder-requires-2 : goal.build_preorder-requires-2
build_preorder-requires-2 c =
    rw c.build_preorder.ensures.same.n (built_walks _ _ _ _ c.build_preorder.ensures.now c.requires.walks1, search rules, search rules)

pub returns : goal.returns
returns c =
    let second = rw c.build_preorder.ensures.same.n at c.build_preorder-2.ensures.now in
    built_both _ _ _ _ _ _ c.requires.pass_pre.some c.origin-v0.ensures.is c.origin-v1.ensures.is c.build_preorder.ensures.now (search (second, rules))
