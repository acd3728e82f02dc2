-- The key's code has the parts of the processors so far.
use Rattle.std.specs.Prelude.{List}
use Rattle.hp_units.specs.declared.replies.Record.{Record}
use Rattle.hp_schedules.specs.Cursors.{AreCursors}
use Rattle.hp_schedules.specs.Schedules.{Setting}
use Rattle.hp_states.specs.Standing.{AddsParts, IsStanding}
use Rattle.hp_states.proofs.standing.Standing.push_parts.Given as goal

abbrev pub invariant-loop-cpu : goal.invariant-loop-cpu
invariant-loop-cpu l =
    (g : Setting) (news : List Record) → AreCursors g news l.positions.cursors.items
    → IsStanding g news l.self → AddsParts l.self news l.cpu l.initial.key l.key
