-- `repair_loop::raise_and_draw` meets its contract, from those of its parts. Assumes nothing.
use Rattle.repair_loop.specs.AllRaises.{thirds_pre, ends}
use Rattle.repair_loop.proofs.raise_and_draw.Goals as goal

pub write_thirds-requires : goal.write_thirds-requires
write_thirds-requires c = thirds_pre _ _ _ _ _ c.requires _ c.origin-v0.ensures.is _ _ _ c.raise_from_start-ended.ensures

pub returns : goal.returns
returns c = ends _ _ _ _ _ c.requires _ c.origin-v0.ensures.is _ _ _ c.raise_from_start-ended.ensures _ c.write_thirds.ensures
