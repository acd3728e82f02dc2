-- The place with the key is done.
use Rattle.std.proofs.Common.{None, ap, length, sym, ◌∙◌, arith}
use Rattle.std.proofs.lemmas.List.{length_push, take_all}
use Rattle.hp_schedules.specs.Schedules.{schedule_of}
use Rattle.hp_explore.specs.Aims.{IsDone}
use Rattle.hp_explore.specs.Paths.{PathValue}
use Rattle.hp_explore.specs.Withins.{aim_within}
use Rattle.hp_explore.proofs.Visits.{asked}
use Rattle.hp_explore.proofs.PathKeysKept.{keys_shorter}
use Rattle.hp_explore.proofs.places.SharedPlacesPlacesWithin.leave.Goals as goal

pub tell_done-requires : goal.tell_done-requires
tell_done-requires g c =
    let kept = c.requires.kept in
    let news = c.args.path.now.news in
    λ key here. record {
      news = news;
      played = rw kept.0 at c.is_played.ensures;
      admitted = tt;
      key_is =
          rw (take_all (length c.records-calls.result.now) news
          (omega (arith, ap length c.records-calls.ensures))) at (kept.3 _ key here).1;
      done = asked (λ x a. IsDone x a (schedule_of news)) _ _ _ _ _ kept.0 kept.1 kept.2 c.requires.done;
    }

pub returns : goal.returns
returns g c =
    let kept = c.requires.kept in
    λ p r is. (
      sym (ap (λ (x : PathValue). x.setting) is) ∙ kept.0,
      kept.1,
      kept.2,
      keys_shorter g.Q.Question.setting (aim_within g.Q.Question.setting g.Q.Question.wanted None) p.news r
          _ c.args.self.now.keys c.forget.new.self
          (ap length c.records-calls.ensures
          ∙ (ap (λ (x : PathValue). length x.news) is ∙ length_push p.news r))
          c.forget.ensures.here c.forget.ensures.others (rw is at kept.3),
    )
