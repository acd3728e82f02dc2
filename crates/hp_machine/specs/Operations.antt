-- The rows of an operation's blocks in a machine's history.
use Rattle.std.specs.Prelude.{◌≡◌, ℕ, false, List, [], ◌∷◌, ◌++◌}
use Rattle.hp_units.specs.Memory.{row_of}
use Rattle.hp_units.specs.Rows.{claimed_row}
use Rattle.hp_units.specs.History.{is_refused, net_of, value_of}
use Rattle.hp_units.specs.declared.events.Event.TheVariants.{Commit, Cancel}
use Rattle.hp_units.specs.declared.plans.Item.{Item}
use Rattle.hp_units.specs.declared.replies.Record.{Record}
use Rattle.hp_laws.specs.Operations.{BeginsAt, IsOpenBehind, RowsAre, state_before, state_behind, wished_row}
use Rattle.hp_machine.specs.Machine.{MachineValue}

-- a Begin that is not undone claims each block of its plan; until its operation's Commit or Cancel,
-- the blocks' rows are as the Begin left them
pub record HoldsRows (m : MachineValue) : Type 0 where
  pub claimed : (place : ℕ) (b : Record) (plan : List Item) → BeginsAt (net_of m.history) place b plan
      → RowsAre (state_behind m.layout m.base m.before m.history b) plan (λ item. claimed_row
      (row_of (state_before m.layout m.base m.before m.history b).blocks item.block) b.serial item.wish)
  pub held : (place : ℕ) (b : Record) (plan : List Item) → BeginsAt (net_of m.history) place b plan
      → IsOpenBehind b.serial place (net_of m.history)
      → RowsAre m.state plan
      (λ item. row_of (state_behind m.layout m.base m.before m.history b).blocks item.block)

-- a Commit that is not refused, of an operation whose Begin is in the history and not undone, gives
-- each block of the plan its wish, all in one step. Just before the Commit, the rows are as the Begin
-- left them. `h` are the records before the Commit
pub record GrantsWishes (m : MachineValue) : Type 0 where
  pub held : (h rest : List Record) (r : Record) (place : ℕ) (b : Record) (plan : List Item)
      → m.history ≡ h ++ r ∷ rest → BeginsAt (net_of h) place b plan → r.event ≡ Commit b.serial
      → is_refused r.reply ≡ false
      → RowsAre (value_of m.layout m.base h) plan
      (λ item. row_of (state_behind m.layout m.base m.before h b).blocks item.block)
  pub granted : (h rest : List Record) (r : Record) (place : ℕ) (b : Record) (plan : List Item)
      → m.history ≡ h ++ r ∷ rest → BeginsAt (net_of h) place b plan → r.event ≡ Commit b.serial
      → is_refused r.reply ≡ false
      → RowsAre (value_of m.layout m.base (h ++ r ∷ [])) plan (λ item. wished_row item.wish)

-- a Cancel that is not refused, of an operation whose Begin is in the history and not undone, gives
-- each block of the plan the row from just before the Begin. `h` are the records before the Cancel
abbrev pub GivesRowsBack : MachineValue → Type 0
GivesRowsBack m =
    (h rest : List Record) (r : Record) (place : ℕ) (b : Record) (plan : List Item)
    → m.history ≡ h ++ r ∷ rest → BeginsAt (net_of h) place b plan → r.event ≡ Cancel b.serial
    → is_refused r.reply ≡ false
    → RowsAre (value_of m.layout m.base (h ++ r ∷ [])) plan
    (λ item. row_of (state_before m.layout m.base m.before h b).blocks item.block)

-- what holds of the rows of operations' blocks after Begins, Commits and Cancels
pub record KeepsOperations (m : MachineValue) : Type 0 where
  pub rows : HoldsRows m
  pub commits : GrantsWishes m
  pub cancels : GivesRowsBack m
