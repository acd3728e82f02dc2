-- Steps that may fail, and functions that may run out of memory.
use Rattle.std.specs.Prelude.{◌≡◌, Option, Some, None, Result, Ok, Err}
use Rattle.hp_scenario.specs.declared.fault.ScenarioFault.{ScenarioFault}
use Rattle.hp_scenario.specs.declared.fault.ScenarioFault.TheVariants.{OutOfMemory}

infixl 10 ◌>>=◌
abbrev pub ◌>>=◌ : {A B : Type 0} → Result A ScenarioFault → (A → Result B ScenarioFault)
    → Result B ScenarioFault
(Ok x) >>= f = f x
(Err e) >>= f = Err e

abbrev pub or_fault : {A : Type 0} → ScenarioFault → Option A → Result A ScenarioFault
or_fault fault None = Err fault
or_fault fault (Some x) = Ok x

-- the fault is that of the result `read`; out of memory may come in place of any result
abbrev pub Fails : {A : Type 0} → ScenarioFault → Result A ScenarioFault → Type 0
Fails OutOfMemory read = Unit {0}
Fails fault read = read ≡ Err fault

-- the function returned the result, seen through `view`, or ran out of memory
abbrev pub Gives : {X Y : Type 0} → (X → Y) → Result X ScenarioFault → Result Y ScenarioFault → Type 0
Gives view (Ok x) read = read ≡ Ok (view x)
Gives view (Err e) read = Fails e read
