-- The turn is a step with its mark, or leads to other steps, and the earlier are kept.
use Rattle.std.proofs.Common.{◌≡◌, false, sym, ◌∙◌, ◌++◌, ap, ◌∷◌, []}
use Rattle.std.proofs.lemmas.Result.{err_from_is_err_and}
use Rattle.hp_states.specs.Rooms.{is_full_after}
use Rattle.hp_explore.specs.Settings.{setting}
use Rattle.hp_explore.proofs.Stepped.{step_recorded, stepped_at}
use Rattle.hp_explore.proofs.turns.make_turn.Goals as goal
use Rattle.hp_explore.proofs.turns.make_turn.Goals.{In_ok-serial}
use Rattle.std.proofs.lemmas.Option.{none-some, same_Some}
use Rattle.hp_schedules.specs.Schedules.{plays, schedule_of, record_of_call}
use Rattle.hp_schedules.proofs.Plays.{plays_push}

roomy : (c : In_ok-serial)
    → is_full_after (setting c.args.start.now c.args.scripts.now) c.args.here.now.records ≡ false
roomy c = rw c.records.ensures at c.in_ok-serial.ensures.room

pub steps_after-requires-clause-serial : goal.steps_after-requires-clause-serial
steps_after-requires-clause-serial c = rw c.records.ensures at c.in_ok-serial.ensures.ok

pub returns-then-may_go_back-clause-ok : goal.returns-then-may_go_back-clause-ok
returns-then-may_go_back-clause-ok c =
    let g = setting c.args.start.now c.args.scripts.now in
    let here = c.args.here.now in
    let leads = rw c.in-Some.is at c.in_ok-there.ensures.ok in
    let longer : c.in-Some.there.records
    ≡ here.records ++ record_of_call g here.records c.args.cpu c.args.event.now ∷ [] =
    same_Some _ _ (sym leads.0.played ∙ (ap (plays g) leads.1
    ∙ plays_push g (schedule_of here.records) here.records c.args.cpu c.args.event.now c.requires.at.played
    c.requires.asked)) in
    rw c.in_ok-keep-in-Some.ensures.there (record {
      at = leads.0;
      room = roomy (goal.at.returns-then-may_go_back-clause-ok c).In_ok-serial;
      records = longer;
      over = c.in_ok-keep-in-Some.ensures.over _ longer;
    })

pub unreachable-requires : goal.unreachable-requires
unreachable-requires c =
    let g = setting c.args.start.now c.args.scripts.now in
    let none = rw c.in-None.is at c.in_ok-there.ensures.ok in
    none-some _
    (sym none ∙ plays_push g _ _ c.args.cpu c.args.event.now c.requires.at.played c.requires.asked)

pub returns-clause-ok : goal.returns-clause-ok
returns-clause-ok c =
    let g = setting c.args.start.now c.args.scripts.now in
    let goes = sym c.may_go_back.ensures ∙ c.if-may_go_back.false in
    let next = (rw c.records.ensures at c.in_ok-serial.ensures.ok).0 in
    let recorded = step_recorded g c.args.here.now c.in_ok-serial.serial c.args.cpu c.args.event.now
    c.requires.at goes next in
    let made = c.in_ok-mark.ensures.ok in
    record {
      at = stepped_at g c.args.here.now _ _ _ _ _ c.requires.at c.requires.asked goes next made;
      room = roomy (goal.at.returns-clause-ok c).In_ok-serial;
      records = rw recorded at made.later.records;
      over = rw recorded at made.later;
    }

pub returns-in_err-serial-clause-cause : goal.returns-in_err-serial-clause-cause
returns-in_err-serial-clause-cause c =
    let g = setting c.args.start.now c.args.scripts.now in
    let p = err_from_is_err_and c.from_residual.result c.from_residual.ensures.1 in
    rw (p.1, p.2, c.in_err-serial.ensures.err.0) (
      c.args.event.now,
      c.requires.asked,
      rw c.records.ensures at c.in_err-serial.ensures.err.1,
    )
