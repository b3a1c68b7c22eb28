-- `labels_peel::clear_vertices` meets its contract: what is left to wipe comes to the whole. Assumes nothing.
use Rattle.std.proofs.Common.{arith}
use Rattle.labels_peel.specs.LoopLaws.{clear_vertices-more, clear_vertices-over}
use Rattle.labels_peel.proofs.clear_vertices.Goals as goal

pub loop-v-preserved : goal.loop-v-preserved
loop-v-preserved c = record {
  same = record { n = c.loop-v.invariant.same.n; words = c.loop-v.invariant.same.words };
  rest = clear_vertices-more _ _ _ _ _ (omega arith) c.set_vertex.ensures c.loop-v.invariant.rest;
}

pub returns : goal.returns
returns c = record {
  same = c.loop-v.invariant.same;
  now = clear_vertices-over _ _ _ _ (omega arith) c.loop-v.invariant.rest;
}
