-- `repair_words::Triangle::walk_word` meets its contract, from those of its calls. Assumes nothing.
use Rattle.std.proofs.Common.{rules}
use Rattle.definitions.specs.Mesh.{tri}
use Rattle.repair_model.specs.PackedWords.{walk_word, walk_dart}
use Rattle.repair_words.proofs.Triangle.walk_word.Goals as goal

pub returns-clause-is : goal.returns-clause-is
unfolding walk_word walk_dart tri
returns-clause-is c = search rules
