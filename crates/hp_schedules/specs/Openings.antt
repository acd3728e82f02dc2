-- The operations that a Cancel can undo completely.
use Rattle.std.specs.Prelude.{◌≡◌, ℕ, ◌==◌, if◌then◌else◌, List, [], ◌∷◌, Some, None, map, take}
use Rattle.hp_units.specs.History.{is_refused, run}
use Rattle.hp_units.specs.LayoutParts.{LayoutParts}
use Rattle.hp_units.specs.Marks.{sole_at, tag_of}
use Rattle.hp_units.specs.Memory.{Memory}
use Rattle.hp_units.specs.declared.events.Event.{Event}
use Rattle.hp_units.specs.declared.events.Event.TheVariants.{Read, Begin, DrainFor, Migrate, Cancel}
use Rattle.hp_units.specs.declared.replies.Record.{Record}
use Rattle.hp_laws.specs.Renumbered.{renumbered}
use Rattle.hp_schedules.specs.declared.changes.Change.{Change}
use Rattle.hp_schedules.specs.declared.changes.Change.TheVariants.{Stays, Begins, Works, Cancels, Ends}

-- an operation, with a value that identifies the state before its Begin
pub record OpeningWith (S : Type 0) : Type 0 where
  pub op : ℕ
  pub memory : S

-- an operation, with the state before its Begin
abbrev pub Opening : Type 0
Opening = OpeningWith Memory

-- an operation and the state before its Begin, with other numbers for it and for the operations in
-- that state
abbrev pub renumbered_opening : (ℕ → ℕ) → Opening → Opening
renumbered_opening f o = record { op = f o.op; memory = renumbered f o.memory }

-- an operation, with the number of a code (an encoding as a list of numbers) of the state before
-- its Begin
abbrev pub NumberedOpening : Type 0
NumberedOpening = OpeningWith ℕ

-- the operations that a Cancel can undo completely, latest first; `net` are the steps not undone.
-- Only the first is sole: nothing but its own drains and migrations follows its Begin. Its Cancel
-- leads back to the state before its Begin. There the rest of the list are the operations that a
-- Cancel can undo
abbrev pub AreOpen : LayoutParts → Memory → (net : List Record) → List Opening → Type 0
AreOpen l base net [] = (op : ℕ) → sole_at op (map tag_of net) ≡ None
AreOpen l base net (o ∷ os) =
    (place : ℕ)
    × ((op : ℕ) → sole_at op (map tag_of net) ≡ (if o.op == op then Some place else None))
    × (o.memory ≡ run l base (take place net)) × AreOpen l base (take place net) os

-- the list of operations that a Cancel can undo, after a drain or migration for the operation `op`;
-- empty if another operation is first
abbrev pub after_work : {S : Type 0} → (op : ℕ) → List (OpeningWith S) → List (OpeningWith S)
after_work op [] = []
after_work op (o ∷ os) = if o.op == op then o ∷ os else []

-- the list of operations that a Cancel can undo, after the Cancel of the operation `op`; empty if
-- another operation is first
abbrev pub after_cancel : {S : Type 0} → (op : ℕ) → List (OpeningWith S) → List (OpeningWith S)
after_cancel op [] = []
after_cancel op (o ∷ os) = if o.op == op then os else []

-- the change that an event that is not refused makes to the list of operations that a Cancel can
-- undo. A Read makes none. Any event but a Read, a Begin, a DrainFor, a Migrate or a Cancel is
-- taken to empty the list, which need not be so for an UndoAfter
abbrev pub change_by : Event → Change
change_by (Read owner page index) = Stays
change_by (Begin plan) = Begins
change_by (DrainFor op cpu) = Works op
change_by (Migrate op) = Works op
change_by (Cancel op) = Cancels op
change_by event = Ends

-- the change that a record makes to the list of operations that a Cancel can undo: a refusal makes
-- none
abbrev pub change_of : Record → Change
change_of r = if is_refused r.reply then Stays else change_by r.event

-- the change with another number for its operation
abbrev pub renumbered_change : (ℕ → ℕ) → Change → Change
renumbered_change f Stays = Stays
renumbered_change f Begins = Begins
renumbered_change f (Works op) = Works (f op)
renumbered_change f (Cancels op) = Cancels (f op)
renumbered_change f Ends = Ends
