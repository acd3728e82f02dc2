-- How results that may be faults are chained, and what a function that may run out of memory
-- returns.
use Rattle.std.specs.Prelude.{◌≡◌, Option, Some, None, Result, Ok, Err}
use Rattle.hp_requests.specs.Names.{ControlFault, OutOfMemory}

-- the value, or this fault if there is none
abbrev pub or_fault : {A : Type 0} → ControlFault → Option A → Result A ControlFault
or_fault fault None = Err fault
or_fault fault (Some x) = Ok x

-- the next result, unless the one before it is a fault
infixl 10 ◌>>=◌
abbrev pub ◌>>=◌ : {A B : Type 0} → Result A ControlFault → (A → Result B ControlFault)
    → Result B ControlFault
(Ok x) >>= f = f x
(Err fault) >>= f = Err fault

-- `OutOfMemory` may replace any result; any other fault must be the result itself
abbrev pub Fails : {A : Type 0} → ControlFault → Result A ControlFault → Type 0
Fails OutOfMemory answer = Unit {0}
Fails fault answer = answer ≡ Err fault

-- the function returned the result, seen through `view`, or ran out of memory
abbrev pub Gives : {X Y : Type 0} → (X → Y) → Result X ControlFault → Result Y ControlFault → Type 0
Gives view (Ok x) answer = answer ≡ Ok (view x)
Gives view (Err fault) answer = Fails fault answer
