-- `maps_backward::runs_to` meets its contract: one label, compared. Assumes nothing.
use Rattle.maps_backward.specs.Weights.{runs_to, label_in_lem}
use Rattle.maps_backward.proofs.runs_to.Goals as goal

pub label_of-requires : goal.label_of-requires
label_of-requires c = label_in_lem c.requires.3 _ _ c.requires.4 c.turn.ensures.is

pub returns : goal.returns
unfolding runs_to
returns c = cc
