-- The search is back at the place before, with one call more that is done with.
use Rattle.std.proofs.Common.{ap, arith, length, List, subst, sym, ◌≡◌}
use Rattle.hp_explore.specs.Searches.{number_at}
use Rattle.hp_explore.proofs.SearchBacks.{back_within, popped, fewer_up, gone_back}
use Rattle.hp_explore.proofs.searching.Search.up.Goals as goal
use Rattle.hp_explore.specs.Aims.{IsDone}
use Rattle.hp_explore.specs.Paths.{PathValue}
use Rattle.hp_units.specs.declared.replies.Record.{Record}
use Rattle.hp_schedules.specs.Schedules.{schedule_of}

pub number_at-requires : goal.number_at-requires
number_at-requires g c =
    omega (
      arith,
      back_within c.args.self.now.path c.back.new.self c.in-Some.cpu c.is_played.ensures c.in-Some.ensures,
      c.requires.processors,
      c.cpu.view_is,
    )

pub returns-in-Some : goal.returns-in-Some
returns-in-Some g c =
    let v = c.args.self.now in
    let q = c.back.new.self in
    let cpu = c.in-Some.cpu in
    let back = c.in-Some.ensures in
    let schedule = popped v.path q cpu v.schedule c.pop.new.self c.requires.schedule back c.pop.ensures in
    let same : v.path.setting ≡ q.setting = ap (λ (x : PathValue). x.setting) back.2 in
    let number : c.number_at.result
    ≡ number_at (length q.setting.scripts) c.args.seed (length (schedule_of q.news)) cpu =
    rw (c.number_at.ensures.is, c.requires.processors, same, c.len.ensures, schedule, c.cpu.view_is) in
    λ next. record {
      schedule = schedule;
      trying =
          rw number (gone_back (g.A.Aim.shows c.args.aim.now v.path.setting) c.args.seed v.path q cpu v.visited
          c.go_back.new.self c.requires.leaving back (back_within v.path q cpu c.is_played.ensures back)
          c.go_back.ensures.same.0 c.go_back.ensures.same.1 c.go_back.ensures.kept c.go_back.ensures.back);
      kept = c.in_ok-leave.ensures q back.0 back.2;
      same = sym same;
      fewer = rw number (fewer_up v.path q c.args.seed cpu next back);
    }

pub returns-in-None : goal.returns-in-None
returns-in-None g c =
    let v = c.args.self.now in
    λ next. subst (IsDone v.path.setting (g.A.Aim.shows c.args.aim.now v.path.setting))
    (ap (λ (h : List Record). schedule_of h) c.in-None.ensures.0) c.requires.leaving.done
