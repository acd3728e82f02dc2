-- The records that there are, and one for each call.
use Rattle.std.proofs.Common.{List, length, None, Some, ap, arith, subst}
use Rattle.hp_units.specs.declared.replies.Record.{Record}
use Rattle.hp_explore.specs.Settings.{setting}
use Rattle.hp_schedules.specs.Interleavings.{IsCallCount}
use Rattle.hp_schedules.proofs.Interleavings.{room_told}
use Rattle.hp_explore.proofs.exploring.room_needed.Goals as goal

pub returns-in-Some : goal.returns-in-Some
returns-in-Some c =
    let told : IsCallCount c.args.scripts.now (Some c.in-Some.calls) =
    subst (IsCallCount c.args.scripts.now) c.in-Some.is c.in_ok-calls.ensures in
    room_told (setting c.args.machine.now c.args.scripts.now) c.in-Some.calls (length c.history.result.now)
    c.checked_add.result told.0 told.1 (ap (λ (h : List Record). length h) c.history.ensures.records)
    c.checked_add.ensures

pub returns-in-None : goal.returns-in-None
returns-in-None c =
    λ one. let told : IsCallCount c.args.scripts.now None = rw c.in-None.is at c.in_ok-calls.ensures in
    omega (arith, told one)
