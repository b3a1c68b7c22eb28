-- What a reader answers, as the definitions have it: their Option is another type. Definitions only.
use Rattle.std.specs.Prelude.{Option, Some, None}
use Rattle.std.proofs.Math.Option as maybe
use Rattle.std.proofs.Math.Option.{none, some}

abbrev pub option_of : {A : Type 0} → Option A → maybe.Option A
option_of None = none
option_of (Some x) = some x
