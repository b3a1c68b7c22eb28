-- `repair_words::pack_words` meets its contract, from those of its calls. Assumes nothing.
use Rattle.repair_words.specs.LoopInvariants.{pack_pre_with_rim, triangles_pre, all_packed, all_walks_packed}
use Rattle.repair_words.proofs.pack_words.Goals as goal

pub pack_all_removed-requires : goal.pack_all_removed-requires
pack_all_removed-requires c = search pack_pre_with_rim

pub pack_triangles-requires : goal.pack_triangles-requires
pack_triangles-requires c = search triangles_pre

pub returns : goal.returns
returns c = search (all_packed, all_walks_packed)
