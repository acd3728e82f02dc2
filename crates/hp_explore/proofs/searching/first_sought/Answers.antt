-- The search begins before any call, and goes on until it found a schedule, or none is left.
use Rattle.std.proofs.Common.{ap, refl, subst, sym, ◌∙◌}
use Rattle.hp_schedules.specs.Schedules.{Setting, schedule_of}
use Rattle.hp_explore.specs.Paths.{PathValue}
use Rattle.hp_explore.specs.Searches.{HasTurned, turns_at}
use Rattle.hp_explore.specs.Settings.{setting}
use Rattle.hp_explore.proofs.FirstSought.{none_found}
use Rattle.hp_explore.proofs.SearchTurns.{started}
use Rattle.hp_explore.proofs.searching.first_sought.Goals as goal
use Rattle.hp_explore.proofs.searching.first_sought.Goals.{After-turn, In_ok-turn}

-- what the latest turn came to
turned : (g : _) (c : In_ok-turn g)
    → HasTurned (g.A.Aim.shows c.turn.new.aim (setting c.args.machine.now c.args.scripts.now)) 0
    (λ p. Unit {0}) (setting c.args.machine.now c.args.scripts.now)
    (turns_at 0 c.turns.search.path c.turns.search.next) c.turn.new.self c.in_ok-turn.field-0
turned g c =
    subst (λ (h : Setting). HasTurned (g.A.Aim.shows c.turn.new.aim h) 0 (λ p. Unit {0}) h
    (turns_at 0 c.turns.search.path c.turns.search.next) c.turn.new.self c.in_ok-turn.field-0)
    c.turns.invariant.same c.in_ok-turn.ensures.ok

-- what the aim became by all turns
became : (g : _) (c : After-turn g)
    → g.A.Aim.becomes c.args.aim.now (setting c.args.machine.now c.args.scripts.now) c.turn.new.aim
became g c =
    g.met.A.Aim.joined c.args.aim.now (setting c.args.machine.now c.args.scripts.now) c.turns.aim
    c.turn.new.aim c.turns.invariant.becomes
    (subst (λ (h : Setting). g.A.Aim.becomes c.turns.aim h c.turn.new.aim) c.turns.invariant.same
    c.turn.ensures.becomes)

pub turns-init : goal.turns-init
turns-init g c =
    let at = setting c.args.machine.now c.args.scripts.now in
    let begun = c.in_ok-search.ensures in
    record {
      schedule =
          begun.schedule ∙ sym (ap (λ (p : PathValue). schedule_of p.news) begun.path);
      trying =
          started at (g.A.Aim.shows c.args.aim.now at) 0 c.in_ok-search.search c.requires.admitted begun;
      same = ap (λ (p : PathValue). p.setting) begun.path;
      becomes = g.met.A.Aim.stays c.args.aim.now at;
    }

pub turns-preserved-in-On : goal.turns-preserved-in-On
turns-preserved-in-On g c =
    let before = goal.at.turns-preserved-in-On g c in
    let on = rw c.in-On.is at (turned g before.In_ok-turn) in
    record {
      schedule = on.schedule;
      trying = on.trying;
      same = on.same;
      becomes = became g before.After-turn;
    }

pub turns-preserved : goal.turns-preserved
turns-preserved g c =
    let before = goal.at.turns-preserved g c in
    let on = rw c.in-New.is at (turned g before.In_ok-turn) in
    record {
      schedule = on.schedule;
      trying = on.trying;
      same = on.same;
      becomes = became g before.After-turn;
    }

pub returns-in_err-turn-clause-becomes : goal.returns-in_err-turn-clause-becomes
returns-in_err-turn-clause-becomes g c = became g (goal.at.returns-in_err-turn-clause-becomes g c).After-turn

pub returns-then-not-goes_on-clause-becomes : goal.returns-then-not-goes_on-clause-becomes
returns-then-not-goes_on-clause-becomes g c =
    became g (goal.at.returns-then-not-goes_on-clause-becomes g c).After-turn

pub returns-in-Found-clause-becomes : goal.returns-in-Found-clause-becomes
returns-in-Found-clause-becomes g c = became g (goal.at.returns-in-Found-clause-becomes g c).After-turn

pub returns-in-Over-clause-becomes : goal.returns-in-Over-clause-becomes
returns-in-Over-clause-becomes g c = became g (goal.at.returns-in-Over-clause-becomes g c).After-turn

pub returns-in-Found-clause-ok : goal.returns-in-Found-clause-ok
returns-in-Found-clause-ok g c =
    let found = rw c.in-Found.is at (turned g (goal.at.returns-in-Found-clause-ok g c).In_ok-turn) in
    rw c.into_schedule.ensures (found refl)

pub returns-in-Over-clause-ok : goal.returns-in-Over-clause-ok
returns-in-Over-clause-ok g c =
    let over = rw c.in-Over.is at (turned g (goal.at.returns-in-Over-clause-ok g c).In_ok-turn) in
    let at = setting c.args.machine.now c.args.scripts.now in
    none_found at (g.A.Aim.shows c.turn.new.aim at) over
