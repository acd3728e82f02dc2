-- The operations that Cancels can take back whole, after one record more.
use Rattle.std.specs.Prelude.{ℕ, List, [], ◌∷◌}
use Rattle.hp_units.specs.Memory.{Memory}
use Rattle.hp_units.specs.declared.replies.Record.{Record}
use Rattle.hp_schedules.specs.Openings.{Opening, after_cancel, after_work, change_of}
use Rattle.hp_schedules.specs.declared.changes.Change.{Change}
use Rattle.hp_schedules.specs.declared.changes.Change.TheVariants.{Stays, Begins, Works, Cancels, Ends}

-- those after a record with this serial, by what it does in a state
abbrev pub changed : (here : Memory) (serial : ℕ) → List Opening → Change → List Opening
changed here serial was Stays = was
changed here serial was Begins = record { op = serial; memory = here } ∷ was
changed here serial was (Works op) = after_work op was
changed here serial was (Cancels op) = after_cancel op was
changed here serial was Ends = []

abbrev pub openings_after : (here : Memory) → List Opening → Record → List Opening
openings_after here was r = changed here r.serial was (change_of r)
