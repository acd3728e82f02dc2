-- A journal without records keeps what every journal keeps.
use Rattle.std.proofs.Common.{[], refl, arith}
use Rattle.hp_history.proofs.Courses.{new_course}
use Rattle.hp_history.proofs.journal.Journal.start.Goals as goal

pub invariant_of-result : goal.invariant_of-result
invariant_of-result c =
    let v = c.args.memory in
    let es = c.new.result.items in
    let ds = c.in_ok-deltas.deltas.deltas in
    rw c.start-past.ensures (
      new_course c.args.before v [] c.is_placed.ensures.layout c.is_placed.ensures.placed refl refl
          c.new.ensures.items c.in_ok-deltas.ensures.none (omega arith),
      refl,
    )
