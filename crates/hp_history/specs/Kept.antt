-- What a journal keeps besides its value, and how the parts of a reply fit together.
use Rattle.std.specs.Prelude.{ℕ, ◌≡◌, ◌+◌, ◌^◌, ◌<◌, ◌≤◌, Bool, ◌||◌, ◌&&◌, not, nat_lt, if◌then◌else◌, List, [], ◌∷◌, ◌++◌, Some, drop, length, take, map, slice_get}
use Rattle.hp_units.specs.LayoutParts.{IsLayout, LayoutParts}
use Rattle.hp_units.specs.Memory.{Memory}
use Rattle.hp_units.specs.Marks.{tag_of}
use Rattle.hp_units.specs.Placement.{IsWellPlaced}
use Rattle.hp_units.specs.Rows.{is_live}
use Rattle.hp_units.specs.Step.{step}
use Rattle.hp_units.specs.History.{is_look, is_refused, net_of, net_with, reply_of, run, value_of}
use Rattle.hp_units.specs.declared.events.Event.{Event}
use Rattle.hp_units.specs.declared.replies.Reply.{Reply}
use Rattle.hp_units.specs.declared.replies.Record.{Record}
use Rattle.hp_plain.specs.Image.{Pictured}
use Rattle.hp_tape.specs.Bounds.{delta_bound}
use Rattle.hp_tape.specs.declared.deltas.Delta.{Delta}
use Rattle.hp_memory.specs.Memory.{LeadsBack, MemoryValue}
use Rattle.hp_history.specs.Course.{IsHistory, CourseValue, last_serial}
use Rattle.hp_history.specs.Entries.{start_of, tags_of}
use Rattle.hp_history.specs.declared.entries.Entry.{Entry}

-- the value of an `Image` with this layout and state
abbrev pub pictured : LayoutParts → Memory → Pictured
pictured l s = record { layout = l; memory = s }

-- the value of a memory in layers with this layout and state
abbrev pub remembered : LayoutParts → Memory → MemoryValue
remembered l s = record { layout = l; state = s }

-- there is one entry per step of the net (the steps that are not undone), in order, with the step's
-- tag. No step's deltas start before those of an earlier step, and a step has at most as many deltas as
-- its bound. From the start of a step's deltas to the end of the tape, the deltas lead from the net's
-- state back to the state before that step
pub record IsJournal (l : LayoutParts) (base : Memory) (before : ℕ) (net : List Record)
    (entries : List Entry) (deltas : List Delta) : Type 0 where
  pub tagged : tags_of before entries ≡ map tag_of net
  pub rising : (i j : ℕ) → i ≤ j → start_of entries (length deltas) i ≤ start_of entries (length deltas) j
  pub few : (j : ℕ) (r : Record) → slice_get net j ≡ Some r
      → start_of entries (length deltas) (j + 1)
      ≤ start_of entries (length deltas) j + delta_bound l (run l base (take j net)) r.event
  pub leads : (j : ℕ) → j ≤ length net
      → LeadsBack l (drop (start_of entries (length deltas) j) deltas) (run l base net)
      (run l base (take j net))

-- what every journal keeps, and so every course
pub record IsCourse (m : CourseValue) (entries : List Entry) (deltas : List Delta) : Type 0 where
  pub limits : IsLayout m.layout
  pub placed : IsWellPlaced m.layout m.base
  pub history : IsHistory m
  pub journal : IsJournal m.layout m.base m.before (net_of m.history) entries deltas
  pub fits : m.before + length m.history < 2 ^ 64

-- an undo to the serial by a processor of the layout is refused as `Gone`: the serial is above the last
-- one, or below the last one that was sealed
abbrev pub is_gone : CourseValue → ℕ → Bool
is_gone m serial = nat_lt (last_serial m) serial || nat_lt serial m.before

-- a Cancel is not refused: the layout has its processor, and its operation is live
abbrev pub may_cancel : LayoutParts → Memory → (cpu op : ℕ) → Bool
may_cancel l s cpu op = nat_lt cpu l.cpus && is_live s.blocks op

-- the reply to the event is `reply`, and its record cuts the net down to the first `keep` steps
pub record IsCut (m : CourseValue) (cpu : ℕ) (event : Event) (keep : ℕ) (reply : Reply) : Type 0 where
  pub answers : reply ≡ reply_of m.layout m.base m.before m.history cpu event
  pub within : keep ≤ length (net_of m.history)
  pub cut : (r : Record) → r.event ≡ event → r.reply ≡ reply
      → net_with (net_of m.history) r ≡ take keep (net_of m.history)

-- the event is carried out as one step of the definitions, which joins the net unless it is refused
-- or only reads
pub record IsStep (m : CourseValue) (cpu : ℕ) (event : Event) : Type 0 where
  pub reply : reply_of m.layout m.base m.before m.history cpu event
      ≡ (step m.layout (value_of m.layout m.base m.history) (last_serial m + 1) cpu event).reply
  pub net : (r : Record) → r.event ≡ event
      → r.reply ≡ (step m.layout (value_of m.layout m.base m.history) (last_serial m + 1) cpu event).reply
      → net_with (net_of m.history) r ≡ (if not (is_refused r.reply)
      && not (is_look event) then net_of m.history ++ r ∷ [] else net_of m.history)
