-- The end's digest has a place before it is there.
use Rattle.std.proofs.Common.{◌+◌, List, ap, arith, length, refl, ◌∙◌}
use Rattle.std.proofs.lemmas.List.{length_push}
use Rattle.hp_schedules.specs.Outcomes.{outcome_with}
use Rattle.hp_schedules.specs.Schedules.{schedule_of}
use Rattle.hp_schedules.specs.declared.tally.Ending.{Ending}
use Rattle.hp_schedules.proofs.Known.{known_first}
use Rattle.hp_schedules.proofs.Trails.{keeps_end, trail_pushed}
use Rattle.hp_schedules.proofs.Places.{added_end, total_first}
use Rattle.hp_schedules.proofs.tally.Tally.add_end.Goals as goal

pub overflow_add-self : goal.overflow_add-self
overflow_add-self c =
    omega (arith, rw (← c.self.view_is) at c.requires.room, c.self.invariant.0)

pub invariant_of-self-2 : goal.invariant_of-self-2
invariant_of-self-2 c =
    let ends = c.self.inside.ends.items in
    let pushed = rw c.in_ok-reserve.ensures.items at c.push_reserved.ensures.items in
    let total =
    total_first ends c.push_reserved.new.self.items c.in_ok-entry.entry c.self.inside.total
    c.self.inside.limit c.in_ok-entry.ensures.count pushed c.self.invariant.0
    (omega (arith, rw (← c.self.view_is) at c.requires.room, c.self.invariant.0)) in
    let longer =
    ap (λ (xs : List Ending). length xs) pushed ∙ length_push ends c.in_ok-entry.entry in
    let trailed =
    trail_pushed c.self.inside.trail.shares.items c.push-2.new.self.items
    (record { end = c.len-end.result; count = 1 }) (length ends) (length c.push_reserved.new.self.items)
    c.self.inside.total (c.self.inside.total + 1)
    c.in_ok-push-2.ensures.items
    c.self.invariant.3 (omega (arith, longer, c.len-end.ensures, c.self.inside.ends.ok.0))
    (omega (arith, longer)) c.self.invariant.4 refl in (
      total.0,
      total.1,
      known_first ends c.push_reserved.new.self.items c.in_ok-entry.entry
          (outcome_with c.args.processors c.args.records.now c.args.blocks.items) c.args.digest
          c.self.inside.latest c.learn.new.latest c.in_ok-entry.ensures.outcome c.requires.digest pushed
          c.learn.ensures.kept c.in_ok-learn.ensures.ok c.self.invariant.2,
      trailed.0,
      trailed.1,
    )

pub returns-clause-ok : goal.returns-clause-ok
returns-clause-ok c =
    rw (← c.self.view_is) (added_end c.self.inside.ends.items c.in_ok-entry.entry
    c.push_reserved.new.self.items (outcome_with c.args.processors c.args.records.now c.args.blocks.items)
    (schedule_of c.args.records.now) (rw (← c.self.view_is) at c.requires.none)
    c.in_ok-entry.ensures.outcome c.in_ok-entry.ensures.count c.in_ok-entry.ensures.first
    (rw c.in_ok-reserve.ensures.items at c.push_reserved.ensures.items))

pub returns-clause-trail : goal.returns-clause-trail
returns-clause-trail c =
    let x = outcome_with c.args.processors c.args.records.now c.args.blocks.items in
    rw (← c.self.view_is) (keeps_end _ _ x (schedule_of c.args.records.now)
    (added_end c.self.inside.ends.items c.in_ok-entry.entry c.push_reserved.new.self.items x
    (schedule_of c.args.records.now) (rw (← c.self.view_is) at c.requires.none)
    c.in_ok-entry.ensures.outcome c.in_ok-entry.ensures.count c.in_ok-entry.ensures.first
    (rw c.in_ok-reserve.ensures.items at c.push_reserved.ensures.items))
    (rw (c.len-end.ensures, c.self.inside.ends.ok.0) at c.in_ok-push-2.ensures.items))
