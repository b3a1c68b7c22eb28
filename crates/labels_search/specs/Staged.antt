-- What scratch of the labels stage has as tables, and what a call leaves of it. Assumes nothing.
use Rattle.std.specs.Prelude.{◌≡◌, refl}
use Rattle.std.proofs.Common.{◌∙◌}
use Rattle.labels_tables.specs.Peeling.{Peeling, peeling}
use Rattle.labels_search.specs.declared.Stage.{Stage}

abbrev pub tables : Stage → Peeling
tables s = peeling s.words.now

-- as many vertices, and the words in the same place
pub record Same (s s' : Stage) : Type 0 where
  pub n : s'.n ≡ s.n
  pub words : s'.words.ghost_name ≡ s.words.ghost_name

-- and they are these tables now
pub record Becomes (s s' : Stage) (p : Peeling) : Type 0 where
  pub same : Same s s'
  pub now : tables s' ≡ p

pub same_self : (s : Stage) → Same s s
same_self s = record { n = refl; words = refl }

pub same_after : {a b c : Stage} → Same a b → Same b c → Same a c
same_after p q = record { n = q.n ∙ p.n; words = q.words ∙ p.words }
