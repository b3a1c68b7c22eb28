-- `mesh_sides::push_triangle` meets its contract: the corners are read where the triangle stands, and pushed dart by dart. Assumes nothing.
use Rattle.std.proofs.Common.{arith}
use Rattle.mesh_sides.specs.Room.{corners-there}
use Rattle.mesh_sides.specs.RepeatedVertex.{repeated_found, repeated_none}
use Rattle.mesh_sides.specs.LoopInvariants.{three-repeated, pushing_last, pushing_middle, pushing_first, three_pushed}
use Rattle.mesh_sides.proofs.push_triangle.Goals as goal

pub corner-a-requires : goal.corner-a-requires
corner-a-requires c = omega (arith, corners-there c.requires.room _ c.requires.is)

pub overflow_add-place : goal.overflow_add-place
overflow_add-place c = omega (arith, corners-there c.requires.room _ c.requires.is, c.requires.room.few)

pub corner-b-requires : goal.corner-b-requires
corner-b-requires c = omega (arith, corners-there c.requires.room _ c.requires.is)

pub overflow_add-place-2 : goal.overflow_add-place-2
overflow_add-place-2 c = omega (arith, corners-there c.requires.room _ c.requires.is, c.requires.room.few)

pub corner-c-requires : goal.corner-c-requires
corner-c-requires c = omega (arith, corners-there c.requires.room _ c.requires.is)

pub returns-then-a-b : goal.returns-then-a-b
returns-then-a-b c P =
    three-repeated _ _ _ _ P.room _ _ _ _ P.is c.corner-a.ensures.is c.corner-b.ensures.is c.corner-c.ensures.is
    (repeated_found _ _ _ c.then-a-b.either)

pub push_dart-requires : goal.push_dart-requires
push_dart-requires c = search pushing_last

pub push_dart-requires-2 : goal.push_dart-requires-2
push_dart-requires-2 c = search pushing_middle

pub push_dart-requires-3 : goal.push_dart-requires-3
push_dart-requires-3 c = search pushing_first

pub returns : goal.returns
returns c P = search (three_pushed, repeated_none)
