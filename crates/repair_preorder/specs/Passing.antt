-- What scratch of the passes has as tables, and what a call leaves of it. Assumes nothing.
use Rattle.std.specs.Prelude.{◌≡◌}
use Rattle.std.proofs.Common.{◌∙◌}
use Rattle.scratch_tables.specs.Tables.{Tables, tables_of}
use Rattle.repair_preorder.specs.declared.Passes.{Passes}

abbrev pub tables : Passes → Tables
tables s = tables_of s.words.now

-- as many vertices, and the words in the same place
pub record Same (s s' : Passes) : Type 0 where
  pub n : s'.n ≡ s.n
  pub words : s'.words.ghost_name ≡ s.words.ghost_name

-- and they are these tables now
pub record Becomes (s s' : Passes) (T : Tables) : Type 0 where
  pub same : Same s s'
  pub now : tables s' ≡ T

pub same_after : {a b c : Passes} → Same a b → Same b c → Same a c
same_after p q = record { n = q.n ∙ p.n; words = q.words ∙ p.words }
