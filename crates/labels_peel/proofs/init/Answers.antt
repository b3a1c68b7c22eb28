-- `labels_peel::init` meets its contract. Assumes nothing.
use Rattle.labels_peel.specs.LoopLaws.{mesh_cleared, mesh_degrees, mesh_frontier}
use Rattle.labels_peel.proofs.init.Goals as goal

pub init_degrees-requires : goal.init_degrees-requires
init_degrees-requires c = rw c.clear_vertices.ensures.same.n (mesh_cleared c.requires c.clear_vertices.ensures.now)

pub init_frontier-requires : goal.init_frontier-requires
init_frontier-requires c =
    rw (c.init_degrees.ensures.same.n, c.clear_vertices.ensures.same.n)
    (mesh_degrees (mesh_cleared c.requires c.clear_vertices.ensures.now) c.init_degrees.ensures.now)

pub init_sets-requires : goal.init_sets-requires
init_sets-requires c =
    rw (c.init_frontier.ensures.same.n, c.init_degrees.ensures.same.n, c.clear_vertices.ensures.same.n)
    (mesh_frontier (mesh_degrees (mesh_cleared c.requires c.clear_vertices.ensures.now) c.init_degrees.ensures.now)
    c.init_frontier.ensures.now)
