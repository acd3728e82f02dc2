-- A schedule has fewer changes than calls.
use Rattle.std.proofs.Common.{arith}
use Rattle.hp_explore.proofs.Budgets.{changes_few}
use Rattle.hp_explore.proofs.schedule.Schedule.changes_with.Goals as goal

pub overflow_add-result : goal.overflow_add-result
overflow_add-result c =
    let calls = c.self.inside.calls in
    omega (
      arith,
      c.self.invariant,
      rw c.as_slice.ensures.value at c.change_after.ensures,
      changes_few calls.items c.args.next,
      calls.ok.0,
      calls.ok.1,
    )
