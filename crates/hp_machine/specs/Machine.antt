-- The value of a machine, what every machine keeps, and what a call does.
use Rattle.std.specs.Prelude.{ℕ, ◌≡◌, ◌≤◌, Bool, ◌||◌, [], length, nat_le}
use Rattle.hp_units.specs.LayoutParts.{IsLayout, LayoutParts}
use Rattle.hp_units.specs.Boot.{boot_memory}
use Rattle.hp_units.specs.Contents.{contents_of_net}
use Rattle.hp_units.specs.History.{net_of}
use Rattle.hp_units.specs.Placement.{IsWellPlaced}
use Rattle.hp_units.specs.declared.events.Event.{Event}
use Rattle.hp_units.specs.declared.replies.Receipt.{Receipt}
use Rattle.hp_laws.specs.Offline.{AreClaimedUpTo}
use Rattle.hp_history.specs.Course.{CourseValue, IsAnswered, IsHistory as IsCourseHistory, is_spent, started}
pub use Rattle.hp_history.specs.Course.{last_serial, record_of}

-- a course's value; `before` is the number of sealed records, and `base` the state that the history
-- began with
abbrev pub MachineValue : Type 0
MachineValue = CourseValue

-- the machine of a layout at boot
abbrev pub booted : LayoutParts → MachineValue
booted l = record { layout = l; before = 0; base = boot_memory l; history = []; state = boot_memory l }

-- the main theorem for one machine: its history is legal, and those of its steps that are not
-- undone lead from the base to the state
abbrev pub IsHistory : MachineValue → Type 0
IsHistory = IsCourseHistory

-- what a user relies on: the layout and the history are within their limits, and each frame is in
-- exactly one place. The pages hold what the Map, Unmap and Write steps that are not undone make of
-- the base's pages. The base, too, is well placed, and its operations have numbers up to that of
-- the last sealed record. So the laws of histories hold of the machine's own history, and it can be
-- replayed
pub record IsSound (m : MachineValue) : Type 0 where
  pub limits : IsLayout m.layout
  pub few : length m.history ≤ m.layout.history
  pub placed : IsWellPlaced m.layout m.state
  pub base_placed : IsWellPlaced m.layout m.base
  pub base_numbered : AreClaimedUpTo m.before m.base.blocks
  pub contents : m.state.pages.contents ≡ contents_of_net m.layout m.base.pages.contents (net_of m.history)

-- the history has at least as many records as the layout allows, or no serial is left
abbrev pub is_full : MachineValue → Bool
is_full m = nat_le m.layout.history (length m.history) || is_spent m

-- the machine after a seal: no records, and the present state as its base
abbrev pub sealed : MachineValue → MachineValue
sealed m = started m.layout m.state (last_serial m)

-- a call with a processor's event: one record is appended, with the next serial and the reply that
-- the definitions give. The new state is that of the longer history
abbrev pub IsCalled : MachineValue → ℕ → Event → Receipt → MachineValue → Type 0
IsCalled = IsAnswered
