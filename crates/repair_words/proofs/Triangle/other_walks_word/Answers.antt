-- `repair_words::Triangle::other_walks_word` meets its contract, from those of its calls. Assumes nothing.
use Rattle.std.proofs.Common.{rules}
use Rattle.definitions.specs.Mesh.{tri}
use Rattle.labels_tables.specs.LabelledTables.{opposite_in}
use Rattle.repair_model.specs.PackedWords.{other_walks_word}
use Rattle.repair_words.proofs.Triangle.other_walks_word.Goals as goal

pub returns-clause-is : goal.returns-clause-is
unfolding other_walks_word opposite_in tri
returns-clause-is c = search rules
