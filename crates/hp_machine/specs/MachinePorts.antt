-- A port on a machine, and what calls make of the machine.
use Rattle.std.specs.Prelude.{◌≡◌, ℕ, true, false, List, [], ◌∷◌, ◌++◌, Option, Some, None, ⊤}
use Rattle.std.proofs.Common.{subst}
use Rattle.hp_units.specs.declared.plans.Item.{Item}
use Rattle.hp_units.specs.declared.replies.OpEnd.{OpEnd}
use Rattle.hp_units.specs.Driver.{IsDriverRun}
use Rattle.hp_units.specs.Receipts.{receipts_of}
use Rattle.hp_machine.specs.Machine.{IsCalled, MachineValue, is_full}
use Rattle.hp_machine.specs.Names.{Receipt, CallFault, HistoryFull, OutOfMemory}
use Rattle.hp_ops.specs.Ports.{PortValue}

-- what a processor's port shows: the processor's records in the machine's history, the fault of the
-- last call, and the number of processors
abbrev pub port_value : MachineValue → (cpu : ℕ) → Option CallFault → PortValue
port_value m cpu fault = record { receipts = receipts_of cpu m.history; fault = fault; cpus = m.layout.cpus }

-- a processor's calls, one after another, with these receipts; each found room in the history
abbrev pub AreCalls : MachineValue → (cpu : ℕ) → List Receipt → MachineValue → Type 0
AreCalls old cpu [] new = new ≡ old
AreCalls old cpu (r ∷ rs) new =
    (next : MachineValue) × (is_full old ≡ false) × IsCalled old cpu r.event r next × AreCalls next cpu rs new

-- the cause of a call's fault: the history is full, or memory ran out although there was room
abbrev pub HasCause : Option CallFault → MachineValue → Type 0
HasCause None m = ⊤
HasCause (Some HistoryFull) m = is_full m ≡ true
HasCause (Some OutOfMemory) m = is_full m ≡ false

-- a processor's calls lead from the old machine to the new one, and are a driver's run with this
-- end
pub record IsPlanRun (m : MachineValue) (cpu turns : ℕ) (plan : List Item) (end : OpEnd)
    (new : MachineValue) : Type 0 where
  pub receipts : List Receipt
  pub fault : Option CallFault
  pub calls : AreCalls m cpu receipts new
  pub cause : HasCause fault new
  pub run : IsDriverRun m.layout.cpus turns plan receipts fault end

-- if calls follow calls, together they are calls with the receipts of both
pub calls_joined : (cpu : ℕ) (xs ys : List Receipt) (old mid new : MachineValue) → AreCalls old cpu xs mid
    → AreCalls mid cpu ys new → AreCalls old cpu (xs ++ ys) new
calls_joined cpu [] ys old mid new first second =
    subst (λ (m : MachineValue). AreCalls m cpu ys new) first second
calls_joined cpu (x ∷ xs) ys old mid new first second =
    (first.0, first.1, first.2, calls_joined cpu xs ys first.0 mid new first.3 second)

-- as `calls_joined`; the processor of the second calls, `same`, is `cpu` under another name
pub makes_joined : (cpu same : ℕ) (xs ys : List Receipt) (old mid new : MachineValue) → same ≡ cpu
    → AreCalls old cpu xs mid → AreCalls mid same ys new → AreCalls old cpu (xs ++ ys) new
makes_joined cpu same xs ys old mid new is first second =
    calls_joined cpu xs ys old mid new first (subst (λ (n : ℕ). AreCalls mid n ys new) is second)
