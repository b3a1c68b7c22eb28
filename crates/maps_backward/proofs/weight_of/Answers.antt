-- `maps_backward::weight_of` meets its contract: the darts from the corner with label 2 on, and the directions of their sides. Assumes nothing.
use Rattle.std.proofs.Common.{arith, rules}
use Rattle.labels_tables.specs.LabelledTables.{few, dart_room}
use Rattle.maps_backward.specs.Weights.{apex_in, darts_in, corner_room, weight_of-made}
use Rattle.maps_backward.proofs.weight_of.Goals as goal

pub next_dart-d-requires : goal.next_dart-d-requires
next_dart-d-requires c =
    let g = apex_in c.requires.0 _ c.apex_dart-g.ensures in
    omega (arith, few c.requires.0.labelled)

pub prev_dart-e-requires : goal.prev_dart-e-requires
prev_dart-e-requires c =
    let g = apex_in c.requires.0 _ c.apex_dart-g.ensures in
    omega (arith, few c.requires.0.labelled)

pub origin-p-requires : goal.origin-p-requires
origin-p-requires c = dart_room c.requires.0.labelled _ (search darts_in)

pub origin-q-requires : goal.origin-q-requires
origin-q-requires c = dart_room c.requires.0.labelled _ (search darts_in)

pub origin-r-requires : goal.origin-r-requires
origin-r-requires c = dart_room c.requires.0.labelled _ (search darts_in)

pub runs_to-pq-requires : goal.runs_to-pq-requires
runs_to-pq-requires c = (_, _, _, c.requires.0.labelled, search darts_in)

pub runs_to-qr-requires : goal.runs_to-qr-requires
runs_to-qr-requires c = (_, _, _, c.requires.0.labelled, search darts_in)

pub runs_to-rp-requires : goal.runs_to-rp-requires
runs_to-rp-requires c = (_, _, _, c.requires.0.labelled, search darts_in)

pub eight_cases-requires : goal.eight_cases-requires
eight_cases-requires c =
    let I = c.requires.0 in (
      corner_room I _ _ (search darts_in) c.origin-p.ensures.is,
      corner_room I _ _ (search darts_in) c.origin-q.ensures.is,
      corner_room I _ _ (search darts_in) c.origin-r.ensures.is,
      search rules,
      c.requires.2,
    )

pub returns : goal.returns
returns c = search (rules, weight_of-made)
