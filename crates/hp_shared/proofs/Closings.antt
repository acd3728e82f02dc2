-- What the lock showed at the end, by what was compared.
use Rattle.std.proofs.Common.{◌≡◌, ℕ, List, length, arith}
use Rattle.hp_units.specs.LayoutParts.{LayoutParts}
use Rattle.hp_history.specs.declared.volumes.Volume.{Volume}
use Rattle.hp_machine.specs.Machine.{MachineValue}
use Rattle.hp_shared.specs.declared.closing.CloseFault.{CloseFault}
use Rattle.hp_shared.specs.Closing.{AreCounted, HasFault, IsChecked, IsClosed}
use Rattle.hp_shared.specs.Shared.{IsShared, LockedValue, SeatValue}
use Rattle.hp_shared.proofs.Sealing.{counted_all}

-- what was found of a machine that is the locked one, with the processors of its layout
pub checked_here : (l : LayoutParts) (v : LockedValue) (m : MachineValue) (cpus count : ℕ)
    (seats : List SeatValue) (volumes : List Volume)
    → m ≡ v.machine → cpus ≡ l.cpus → IsChecked m cpus seats volumes count
    → IsChecked v.machine l.cpus seats volumes count
checked_here l v m cpus count seats volumes own all checked = rw (← all, ← own) checked

pub fault_here : (l : LayoutParts) (v : LockedValue) (m : MachineValue) (cpus : ℕ) (seats : List SeatValue)
    (volumes : List Volume) (why : CloseFault)
    → m ≡ v.machine → cpus ≡ l.cpus → HasFault m cpus seats volumes why
    → HasFault v.machine l.cpus seats volumes why
fault_here l v m cpus seats volumes why own all fault = rw (← all, ← own) fault

-- a machine that was checked is the shared one, with so many records
pub closed : (l : LayoutParts) (v : LockedValue) (m : MachineValue) (count : ℕ) (seats : List SeatValue)
    (volumes : List Volume)
    → IsShared l v → m ≡ v.machine → (length seats ≡ l.cpus → AreCounted l seats v)
    → IsChecked v.machine l.cpus seats volumes count → IsClosed l seats volumes m count
closed l v m count seats volumes kept own counted checked = grind (arith, counted_all)
