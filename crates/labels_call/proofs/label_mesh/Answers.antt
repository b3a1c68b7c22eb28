-- `labels_call::label_mesh` meets its contract: what the stage leaves is the labels and the trace. Assumes nothing.
use Rattle.std.proofs.Common.{arith}
use Rattle.labels_call.specs.Labelling.{labelling_refused, can_peel, peels}
use Rattle.labels_call.proofs.label_mesh.Goals as goal

pub returns-in_default : goal.returns-in_default
returns-in_default c = labelling_refused _ _ _ c.examine-examined.new.scratch _ _ c.in_default.is c.examine-examined.ensures

pub peel-requires : goal.peel-requires
peel-requires c =
    can_peel _ _ _ _ c.requires c.examine-examined.new.scratch c.examine-examined.result (search) c.examine-examined.ensures _ (omega arith)

pub returns : goal.returns
returns c =
    peels _ _ _ _ c.requires c.examine-examined.new.scratch c.examine-examined.result (search) c.examine-examined.ensures _
    (omega arith) c.peel.ensures
