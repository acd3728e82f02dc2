-- Places at which the history has no room for a call.
use Rattle.std.specs.Prelude.{◌≡◌, ℕ, ◌+◌, Bool, ◌||◌, true, List, ◌++◌, Some, length, nat_le}
use Rattle.hp_units.specs.declared.events.Event.{Event}
use Rattle.hp_units.specs.declared.replies.Record.{Record}
use Rattle.hp_schedules.specs.Schedules.{Setting, next_call, plays}

-- after the new records, either the history has no room for another record, or no serial is left
abbrev pub is_full_after : Setting → List Record → Bool
is_full_after g news =
    nat_le g.layout.history (length (g.start ++ news))
    || nat_le 18446744073709551615 (g.before + length (g.start ++ news))

-- after the schedule, the history has no room for a call that a processor has to make
pub record HasNoRoom (g : Setting) (s : List ℕ) : Type 0 where
  pub news : List Record
  pub cpu : ℕ
  pub event : Event
  pub played : plays g s ≡ Some news
  pub asked : next_call g cpu news ≡ Some event
  pub full : is_full_after g news ≡ true
