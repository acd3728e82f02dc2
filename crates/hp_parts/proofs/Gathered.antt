-- What holds of an error.
use Rattle.std.proofs.Common.{Result, Ok, Err, OnErr}

-- of an error a fact that holds at any rate
pub at_err : {A E : Type 0} (r : Result A E) (P : Type 0) → P → OnErr r P
at_err (Ok x) P holds = tt
at_err (Err e) P holds = holds
