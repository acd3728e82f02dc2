-- What a contract sees of a seat and of what lies under the lock, by its parts.
use Rattle.std.proofs.Common.{ℕ, List, Result, arith}
use Rattle.std.specs.Prelude.{OnErr}
use Rattle.hp_units.specs.declared.replies.Receipt.{Receipt}
use Rattle.hp_machine.specs.Machine.{MachineValue}
use Rattle.hp_shared.specs.Shared.{LockedValue, SeatValue}

-- a seat
abbrev pub seat_of : (cpu : ℕ) → List Receipt → (sealed fulls : ℕ) → SeatValue
seat_of cpu receipts sealed fulls =
    record { cpu = cpu; receipts = receipts; sealed = sealed; fulls = fulls }

-- a machine and its total
abbrev pub locked_of : MachineValue → ℕ → LockedValue
locked_of machine total = record { machine = machine; total = total }

-- what holds in any case holds at a fault
pub on_err : {T E : Type 0} (r : Result T E) (P : Type 0) → P → OnErr r P
on_err r P h = grind arith
