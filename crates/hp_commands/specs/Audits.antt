-- Whether volumes (each has the records that one seal handed out) and then a machine's history lead to
-- the machine's state.
use Rattle.std.specs.Prelude.{ℕ, ◌≡◌, ◌⊎◌, List}
use Rattle.hp_units.specs.History.{IsLegal, value_of}
use Rattle.hp_machine.specs.Machine.{MachineValue}
use Rattle.hp_machine.specs.Replaying.{IsFault}
use Rattle.hp_history.specs.Volumes.{IsChain, state_after}
use Rattle.hp_machine.specs.Chains.{IsChainFault}
use Rattle.hp_machine.specs.declared.replaying.ReplayFault.{ReplayFault}
use Rattle.hp_machine.specs.declared.replaying.ReplayFault.TheVariants as replaying
use Rattle.hp_machine.specs.declared.chains.ChainFault.TheVariants as chain
use Rattle.hp_history.specs.declared.volumes.Volume.{Volume}
use Rattle.hp_commands.specs.declared.fault.ProgramFault.{ProgramFault}
use Rattle.hp_commands.specs.declared.fault.ProgramFault.TheVariants.{OutOfMemory, WrongReply, WrongSerial, AuditDiffers, BrokenChain}

-- the volumes follow one another from boot, and lead to the machine's base
abbrev pub LeadsToBase : List Volume → MachineValue → Type 0
LeadsToBase volumes m = IsChain m.layout volumes × (m.base ≡ state_after m.layout volumes)

-- the machine's history is legal from its base, and leads to its state
abbrev pub LeadsToState : MachineValue → Type 0
LeadsToState m =
    IsLegal m.layout m.base m.before m.history × (m.state ≡ value_of m.layout m.base m.history)

-- the volumes follow one another from boot and lead to the machine's base; from there its history
-- is legal, and leads to its state
pub record IsAudited (volumes : List Volume) (m : MachineValue) : Type 0 where
  pub chain : IsChain m.layout volumes
  pub base : m.base ≡ state_after m.layout volumes
  pub legal : IsLegal m.layout m.base m.before m.history
  pub state : m.state ≡ value_of m.layout m.base m.history

-- the fault is that of the first record at fault, in the volumes or in the machine's history
abbrev pub HasWrongRecord : List Volume → MachineValue → ReplayFault → Type 0
HasWrongRecord volumes m fault =
    ((at : ℕ) × IsChainFault m.layout volumes (chain.Replay at fault))
    ⊎ IsFault m.layout m.base m.before m.history fault

-- why an audit fails: the first volume that does not follow, the first record at fault, or another
-- state than the records lead to
abbrev pub HasAuditFault : List Volume → MachineValue → ProgramFault → Type 0
HasAuditFault volumes m (WrongReply serial) =
    HasWrongRecord volumes m (replaying.WrongReply serial) × (IsAudited volumes m → ⊥)
HasAuditFault volumes m (WrongSerial at) =
    HasWrongRecord volumes m (replaying.WrongSerial at) × (IsAudited volumes m → ⊥)
HasAuditFault volumes m AuditDiffers = IsAudited volumes m → ⊥
HasAuditFault volumes m (BrokenChain at) =
    (IsChainFault m.layout volumes (chain.WrongCount at) ⊎ IsChainFault m.layout volumes (chain.WrongBase at))
    × (IsAudited volumes m → ⊥)
HasAuditFault volumes m OutOfMemory = Unit {0}
HasAuditFault volumes m _ = ⊥
