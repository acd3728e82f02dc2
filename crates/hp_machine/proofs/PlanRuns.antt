-- A plan's driver, from its port's machine before and after the calls.
use Rattle.std.proofs.Common.{◌≡◌, ℕ, List, Option}
use Rattle.hp_units.specs.declared.plans.Item.{Item}
use Rattle.hp_units.specs.declared.replies.CallFault.{CallFault}
use Rattle.hp_units.specs.declared.replies.OpEnd.{OpEnd}
use Rattle.hp_units.specs.declared.replies.Receipt.{Receipt}
use Rattle.hp_units.specs.Driver.{IsDriverRun}
use Rattle.hp_machine.specs.Machine.{MachineValue}
use Rattle.hp_machine.specs.MachinePorts.{AreCalls, HasCause, IsPlanRun}

pub plan_driven : (m first last new : MachineValue) (cpu caller turns : ℕ) (plan : List Item) (end : OpEnd)
    (fault : Option CallFault) (gained : List Receipt)
    → first ≡ m → caller ≡ cpu → new ≡ last
    → AreCalls first caller gained last → HasCause fault last
    → IsDriverRun first.layout.cpus turns plan gained fault end → IsPlanRun m cpu turns plan end new
plan_driven m first last new cpu caller turns plan end fault gained at_first same at_last calls cause ran =
    record {
      receipts = gained;
      fault = fault;
      calls = rw (at_last, ← same, ← at_first) calls;
      cause = rw at_last cause;
      run = rw (← at_first) ran;
    }
