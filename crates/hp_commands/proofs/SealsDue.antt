-- The line of a seal: the state after it.
use Rattle.std.proofs.Common.{ℕ, List, refl}
use Rattle.hp_units.specs.History.{value_of, net_of, run}
use Rattle.hp_machine.specs.Machine.{MachineValue}
use Rattle.hp_commands.specs.Seals.{WritesSeal}
use Rattle.hp_commands.proofs.EventsDue.{IsUpToDate}

-- with no records the state is the base
pub seal_is : (m : MachineValue) (text : List ℕ) (new : MachineValue) → WritesSeal m text new → IsUpToDate new
unfolding value_of net_of run
seal_is m text new w = rw w.1 refl
