-- The search begins before any call, and goes on until no schedule is left.
use Rattle.std.proofs.Common.{[], None, ap, refl, subst, sym, ◌∙◌}
use Rattle.hp_schedules.specs.Schedules.{Setting, schedule_of}
use Rattle.hp_explore.specs.Aims.{IsDone}
use Rattle.hp_explore.specs.Paths.{PathValue}
use Rattle.hp_explore.specs.Searches.{IsTrying}
use Rattle.hp_explore.specs.Settings.{setting}
use Rattle.hp_explore.specs.Withins.{aim_within}
use Rattle.hp_explore.proofs.Visits.{asked}
use Rattle.hp_explore.proofs.PathKeysKept.{keys_none}
use Rattle.hp_explore.proofs.SearchTurns.{started}
use Rattle.hp_explore.proofs.absent.are_all_done.Goals as goal

pub turns-init : goal.turns-init
turns-init g c =
    let at = setting c.args.machine.now c.args.scripts.now in
    let h = g.Q.Question.setting in
    let begun = c.in_ok-search.ensures in
    let same = ap (λ (p : PathValue). p.setting) begun.path in
    let w = c.in_ok-search.search in
    record {
      schedule = begun.schedule ∙ sym (ap (λ (p : PathValue). schedule_of p.news) begun.path);
      trying =
          subst (λ (x : Setting). IsTrying (aim_within x c.args.wanted.now None) c.args.seed w.path w.next
          w.visited) (sym same)
          (started at (aim_within at c.args.wanted.now None) c.args.seed w tt begun);
      kept = (
        same ∙ sym c.requires.question.0,
        sym c.requires.question.1,
        refl,
        keys_none h (aim_within h g.Q.Question.wanted None) w.path.news _ c.new.ensures,
      );
    }

pub turns-preserved-in-On : goal.turns-preserved-in-On
turns-preserved-in-On g c =
    let on = rw c.in-On.is at c.in_ok-turn.ensures.ok in
    record {
      schedule = on.schedule;
      trying =
          subst (λ (x : Setting). IsTrying (aim_within x c.turn.new.aim.wanted.now c.turn.new.aim.budget)
          c.args.seed c.turn.new.self.path c.turn.new.self.next c.turn.new.self.visited) (sym on.same)
          on.trying;
      kept = on.kept;
    }

pub turns-preserved : goal.turns-preserved
turns-preserved g c =
    let on = rw c.in-New.is at c.in_ok-turn.ensures.ok in
    record {
      schedule = on.schedule;
      trying =
          subst (λ (x : Setting). IsTrying (aim_within x c.turn.new.aim.wanted.now c.turn.new.aim.budget)
          c.args.seed c.turn.new.self.path c.turn.new.self.next c.turn.new.self.visited) (sym on.same)
          on.trying;
      kept = on.kept;
    }

pub returns-in-Over : goal.returns-in-Over
returns-in-Over g c =
    let kept = c.turns.invariant.kept in
    let over = rw c.in-Over.is at c.in_ok-turn.ensures.ok in
    λ told. asked (λ x a. IsDone x a []) _ _ _ _ _ kept.0 (c.in_ok-turn.ensures.becomes.0 ∙ kept.1)
    (c.in_ok-turn.ensures.becomes.1 ∙ kept.2) over
