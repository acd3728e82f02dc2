-- The value of a journal, made from its fields.
use Rattle.hp_history.specs.Course.{CourseValue}
use Rattle.hp_history.specs.declared.journal.Journal.TheInside.{Inside}

-- the layout and the state are the memory's; the base state and the records are those that the
-- journal remembers for proofs
abbrev pub seen : Inside → CourseValue
seen m = record {
  layout = m.memory.layout;
  before = m.before;
  base = m.past.base;
  history = m.past.history;
  state = m.memory.state;
}
