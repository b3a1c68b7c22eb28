-- Paths in a graph whose arcs are numbered. Assumes nothing.
use Rattle.std.specs.Prelude.{ℕ, ◌≡◌}

-- A path from x to y: each arc d of it is good, and leads from `src d` to `tgt d`.
pub data Chain (Good : ℕ → Type 0) (src tgt : ℕ → ℕ) (y : ℕ) : ℕ → Type 0 where
  stop : {x : ℕ} → x ≡ y → Chain Good src tgt y x
  step : {x : ℕ} (d : ℕ) → Good d → src d ≡ x → Chain Good src tgt y (tgt d) → Chain Good src tgt y x
