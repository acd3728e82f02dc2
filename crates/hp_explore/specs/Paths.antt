-- The path of a walk: its calls so far, and how they are taken back.
use Rattle.std.specs.Prelude.{◌≡◌, ℕ, ◌<◌, Bool, true, false, List, [], ◌∷◌, ◌++◌, Option, Some, None, length, reverse, slice_set}
use Rattle.hp_units.specs.History.{value_of}
use Rattle.hp_units.specs.Memory.{Memory}
use Rattle.hp_units.specs.declared.events.Event.{Event}
use Rattle.hp_units.specs.declared.replies.Record.{Record}
use Rattle.hp_memory.specs.Steps.{IsLater, StepsValue}
use Rattle.hp_schedules.specs.Cursors.{AreCursors}
use Rattle.hp_states.specs.Rooms.{is_full_after}
use Rattle.hp_schedules.specs.Schedules.{Setting, next_call, record_of_call}
use Rattle.hp_states.specs.Walks.{IsAt}
use Rattle.hp_schedules.specs.declared.cursors.Cursor.{Cursor}
use Rattle.hp_explore.specs.declared.ways.Turn.{Turn}
use Rattle.hp_explore.specs.declared.ways.Way.{Way}
use Rattle.hp_explore.specs.declared.ways.Way.TheVariants.{Mark, Kept}

-- the setting of the scripts and the new records so far
pub record PathValue : Type 0 where
  pub setting : Setting
  pub news : List Record

-- the state after the new records
abbrev pub state_at : PathValue → Memory
state_at p = value_of p.setting.layout p.setting.base (p.setting.start ++ p.news)

-- either the processor made its next call, for which the history had room, or it had no call to make
-- and nothing changed
abbrev pub IsForth : PathValue → (cpu : ℕ) → (went : Bool) → PathValue → Type 0
IsForth p cpu true q =
    (event : Event) × (next_call p.setting cpu p.news ≡ Some event) × (is_full_after p.setting p.news ≡ false)
    × (q ≡ record { setting = p.setting; news = p.news ++ record_of_call p.setting p.news cpu event ∷ [] })
IsForth p cpu false q = (next_call p.setting cpu p.news ≡ None) × (q ≡ p)

-- with `Some cpu`, the latest call was taken back, and processor `cpu` had made it. With None, there was
-- no call, and nothing changed
abbrev pub IsBack : PathValue → Option ℕ → PathValue → Type 0
IsBack p None q = (p.news ≡ []) × (q ≡ p)
IsBack p (Some cpu) q =
    (r : Record) × (r.cpu ≡ cpu) × (p ≡ record { setting = q.setting; news = q.news ++ r ∷ [] })

-- all scripts are finished
abbrev pub IsOver : PathValue → Type 0
IsOver p = (cpu : ℕ) → next_call p.setting cpu p.news ≡ None

-- ---- the calls that a path can take back

-- `way` undoes the call with the record `r`: it leads from `new` back to `old`
abbrev pub IsWayOver : Way → StepsValue → Record → StepsValue → Type 0
IsWayOver (Mark mark) old r new = IsLater old r mark new
IsWayOver (Kept steps) old r new = (steps.value ≡ old) × (new.records ≡ old.records ++ r ∷ [])

-- the processor's event was made, and `way` undoes it
pub record IsTurned (g : Setting) (old : StepsValue) (cpu : ℕ) (event : Event) (way : Way)
    (new : StepsValue) : Type 0 where
  pub at : IsAt g new
  pub room : is_full_after g old.records ≡ false
  pub records : new.records ≡ old.records ++ record_of_call g old.records cpu event ∷ []
  pub over : IsWayOver way old (record_of_call g old.records cpu event) new

-- the turns (calls, each with how to undo it), latest first, lead back to the beginning of the scripts.
-- Each takes the latest record back, and restores the cursor of that record's processor
abbrev pub IsWayBack : Setting → StepsValue → List Cursor → List Turn → Type 0
IsWayBack g here cursors [] = here.records ≡ []
IsWayBack g here cursors (turn ∷ turns) =
    (old : StepsValue) × (r : Record) × IsAt g old × (here.records ≡ old.records ++ r ∷ [])
    × IsWayOver turn.way old r here × (r.cpu < length cursors)
    × AreCursors g old.records (slice_set cursors r.cpu turn.from)
    × IsWayBack g old (slice_set cursors r.cpu turn.from) turns

-- the path is at the place that its records lead to, its cursors are the positions in the scripts, and
-- its calls lead back to the beginning
pub record IsPath (g : Setting) (here : StepsValue) (cursors : List Cursor) (turns : List Turn) : Type 0 where
  pub at : IsAt g here
  pub cursors_at : AreCursors g here.records cursors
  pub back : IsWayBack g here cursors (reverse turns)

-- either the processor's call was made and can be undone, or it had no call to make and nothing changed
abbrev pub IsAdvanced : Setting → StepsValue → List Cursor → List Turn → (cpu : ℕ) → (went : Bool)
    → StepsValue → List Cursor → List Turn → Type 0
IsAdvanced g old cursors turns cpu true new moved later =
    (event : Event) × (turn : Turn) × (next_call g cpu old.records ≡ Some event)
    × IsTurned g old cpu event turn.way new × AreCursors g new.records moved × (cpu < length moved)
    × (slice_set moved cpu turn.from ≡ cursors) × (later ≡ turns ++ turn ∷ [])
IsAdvanced g old cursors turns cpu false new moved later =
    (next_call g cpu old.records ≡ None) × (new ≡ old) × (moved ≡ cursors) × (later ≡ turns)

-- with `Some cpu`, the latest call was taken back, and processor `cpu` had made it. With None, there was
-- no call, and the state is as before. In both cases, the result is a path (IsPath)
abbrev pub IsTakenBack : Setting → StepsValue → Option ℕ → StepsValue → List Cursor → List Turn → Type 0
IsTakenBack g old None new cursors turns = (old.records ≡ []) × (new ≡ old) × IsPath g new cursors turns
IsTakenBack g old (Some cpu) new cursors turns =
    (r : Record) × (r.cpu ≡ cpu) × (old.records ≡ new.records ++ r ∷ []) × IsPath g new cursors turns
