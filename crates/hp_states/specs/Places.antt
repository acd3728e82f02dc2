-- The places of a walk, to which schedules lead.
use Rattle.std.specs.Prelude.{◌≡◌, List, [], ◌++◌, Some}
use Rattle.hp_units.specs.History.{value_of}
use Rattle.hp_units.specs.declared.replies.Record.{Record}
use Rattle.hp_memory.specs.Memory.{MemoryValue}
use Rattle.hp_memory.specs.Steps.{StepsValue}
use Rattle.hp_schedules.specs.Cursors.{AreCursors}
use Rattle.hp_schedules.specs.Schedules.{Setting, plays, schedule_of}
use Rattle.hp_schedules.specs.declared.cursors.Cursor.{Cursor}

-- the memory at the place after the new records
abbrev pub memory_at : Setting → List Record → MemoryValue
memory_at g news =
    record { layout = g.layout; state = value_of g.layout g.base (g.start ++ news) }

-- the state at the place after the new records, with these records and without deltas (changes
-- noted for undoing)
abbrev pub standing : Setting → List Record → StepsValue
standing g news = record {
  layout = g.layout;
  state = value_of g.layout g.base (g.start ++ news);
  deltas = [];
  records = news;
}

-- a schedule leads to the place after the new records, with this memory and these positions
pub record IsPlace (g : Setting) (news : List Record) (memory : MemoryValue) (cursors : List Cursor)
    : Type 0 where
  pub played : plays g (schedule_of news) ≡ Some news
  pub memory_is : memory ≡ memory_at g news
  pub cursors_are : AreCursors g news cursors
