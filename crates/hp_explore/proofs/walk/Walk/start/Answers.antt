-- No call was made.
use Rattle.std.proofs.Common.{length, ap, sym, arith, List}
use Rattle.hp_schedules.specs.Notes.{TallyValue}
use Rattle.hp_explore.specs.Paths.{PathValue}
use Rattle.hp_explore.proofs.walk.Walk.start.Goals as goal
use Rattle.hp_units.specs.declared.replies.Record.{Record}
use Rattle.hp_states.proofs.Rooms.{done_begins}
use Rattle.hp_schedules.specs.Schedules.{schedule_of}

pub returns-clause-coming : goal.returns-clause-coming
returns-clause-coming c =
    let p = c.in_ok-path.path in
    let tally = c.new-tally.result in
    let ends = tally.ends in
    let none = ap (λ (t : TallyValue). t.ends) c.new-tally.ensures in
    let begun = ap (λ (q : PathValue). q.news) c.in_ok-path.ensures in
    record {
      walked = rw (begun, none) (done_begins p.setting c.args.part);
      on = λ more. absurd (omega (arith, more, ap (λ (h : List Record). length (schedule_of h)) begun));
      below = rw c.new.ensures.items begun;
      memo = rw c.in_ok-path.ensures (c.in_ok-memo.ensures.memo ends);
      way = rw c.in_ok-path.ensures c.in_ok-memo.ensures.way;
      processors = ap (λ (q : PathValue). length q.setting.scripts) (sym c.in_ok-path.ensures);
      few = c.requires;
      short = omega (arith, ap (λ (q : PathValue). length q.news) c.in_ok-path.ensures);
    }

pub returns-clause-setting : goal.returns-clause-setting
returns-clause-setting c = ap (λ (q : PathValue). q.setting) c.in_ok-path.ensures

pub returns-clause-limit : goal.returns-clause-limit
returns-clause-limit c = ap (λ (t : TallyValue). t.limit) c.new-tally.ensures
