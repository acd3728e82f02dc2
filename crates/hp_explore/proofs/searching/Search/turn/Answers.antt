-- All calls of the place were tried.
use Rattle.std.proofs.Common.{ℕ, List, arith, subst, length}
use Rattle.hp_explore.proofs.FirstSought.{first_found}
use Rattle.hp_explore.proofs.SearchTurns.{narrowed}
use Rattle.hp_explore.proofs.searching.Search.turn.Goals as goal
use Rattle.hp_explore.proofs.Rotations.{number_within}
use Rattle.hp_explore.proofs.CallsDone.{place_done}
use Rattle.hp_schedules.specs.Schedules.{schedule_of}

pub returns-then-branch-clause-ok : goal.returns-then-branch-clause-ok
returns-then-branch-clause-ok g c =
    let v = c.args.self.now in
    let new = g.A.Aim.shows c.is_met.new.self v.path.setting in
    λ first. first_found new v.path v.next v.visited v.schedule
    (g.met.A.Aim.lawful c.is_met.new.self v.path.setting)
    (omega (arith, c.if-self-processors.false, c.requires.processors))
    (rw first at (narrowed _ _ _ _ _ _ (g.met.A.Aim.narrower c.args.aim.now v.path.setting
    c.is_met.new.self c.in_ok-is_met.ensures.becomes) c.requires.trying))
    c.requires.schedule (c.in_ok-is_met.ensures.found c.if-branch.true)

pub up-requires-clause-leaving : goal.up-requires-clause-leaving
up-requires-clause-leaving g c =
    let v = c.args.self.now in
    let new = g.A.Aim.shows c.is_met.new.self v.path.setting in
    let here = narrowed _ _ _ _ _ _ (g.met.A.Aim.narrower c.args.aim.now v.path.setting c.is_met.new.self
    c.in_ok-is_met.ensures.becomes) c.requires.trying in
    record {
      placed = here.placed;
      visited = here.visited;
      done =
          place_done v.path.setting new (schedule_of v.path.news)
          (g.met.A.Aim.lawful c.is_met.new.self v.path.setting)
          (subst (λ (s : List ℕ). new.sought s → ⊥) c.requires.schedule
          (c.in_ok-is_met.ensures.missed c.if-branch.false))
          (λ cpu less. here.tried.1 cpu less (omega (
            arith,
            c.if-self-processors.false,
            c.requires.processors,
            number_within (length v.path.setting.scripts) c.args.seed (length (schedule_of v.path.news)) cpu
                less,
          )));
    }

pub up-requires-clause-kept : goal.up-requires-clause-kept
up-requires-clause-kept g c =
    g.met.T.Places.became c.args.places.now c.args.aim.now c.is_met.new.self c.args.self.now.path
    c.in_ok-is_met.ensures.becomes c.requires.kept

pub returns-clause-ok : goal.returns-clause-ok
returns-clause-ok g c = c.in_ok-turn.ensures c.args.self.now.next
