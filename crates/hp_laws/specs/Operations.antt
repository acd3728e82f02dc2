-- Operations on memory blocks, in the terms of the laws.
use Rattle.std.specs.Prelude.{◌≡◌, ℕ, suc, ◌-◌, Bool, false, List, Some, None, ◌==◌, drop, take, slice_get}
use Rattle.std.specs.List.{AllByRecursion}
use Rattle.hp_units.specs.LayoutParts.{LayoutParts}
use Rattle.hp_units.specs.Memory.{Memory, offline_row, row_of}
use Rattle.hp_units.specs.History.{value_of}
use Rattle.hp_units.specs.declared.events.Event.{Event}
use Rattle.hp_units.specs.declared.events.Event.TheVariants.{Begin, Commit, Cancel}
use Rattle.hp_units.specs.declared.plans.Item.{Item}
use Rattle.hp_units.specs.declared.replies.Record.{Record}
use Rattle.hp_units.specs.declared.rows.Row.{Row}
use Rattle.hp_units.specs.declared.rows.State.TheVariants.{Online as OnlineState}
use Rattle.hp_units.specs.declared.rows.Wish.{Wish}
use Rattle.hp_units.specs.declared.rows.Wish.TheVariants.{Off as OffWish, Normal as NormalWish, Movable as MovableWish}
use Rattle.hp_units.specs.declared.rows.Zone.TheVariants.{Normal as NormalZone, Movable as MovableZone}

-- the step at this index begins an operation for the plan; its serial is the operation's number
pub record BeginsAt (steps : List Record) (place : ℕ) (b : Record) (plan : List Item) : Type 0 where
  pub here : slice_get steps place ≡ Some b
  pub opens : b.event ≡ Begin plan

-- the event is a Commit or a Cancel of the operation
abbrev pub ends : ℕ → Event → Bool
ends op (Commit other) = other == op
ends op (Cancel other) = other == op
ends op event = false

-- no step after this index ends the operation
abbrev pub IsOpenBehind : (op place : ℕ) → List Record → Type 0
IsOpenBehind op place steps = AllByRecursion (λ r. ends op r.event ≡ false) (drop (suc place) steps)

-- the state just before a record of a history
abbrev pub state_before : LayoutParts → Memory → ℕ → List Record → Record → Memory
state_before l base before h r = value_of l base (take (r.serial - before - 1) h)

-- the state just after a record of a history
abbrev pub state_behind : LayoutParts → Memory → ℕ → List Record → Record → Memory
state_behind l base before h r = value_of l base (take (r.serial - before) h)

-- the row of each block of a plan is the one given for its item
abbrev pub RowsAre : Memory → List Item → (Item → Row) → Type 0
RowsAre s plan row = AllByRecursion (λ item. row_of s.blocks item.block ≡ row item) plan

-- the row of a block that got its wish
abbrev pub wished_row : Wish → Row
wished_row OffWish = offline_row
wished_row NormalWish = record { state = OnlineState; zone = Some NormalZone; claim = None }
wished_row MovableWish = record { state = OnlineState; zone = Some MovableZone; claim = None }
