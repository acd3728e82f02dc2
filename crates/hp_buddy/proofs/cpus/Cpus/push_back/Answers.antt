use Rattle.std.proofs.Common.{[], ◌∷◌, ◌++◌}
use Rattle.hp_buddy.specs.Cpus.{list_of}
use Rattle.hp_buddy.proofs.CpuEdits.{LinkSeen, cpu-small, cpus_of, frame-there, kept-with, list-there, seen-back}
use Rattle.hp_buddy.proofs.CpuEnds.{lists-there}
use Rattle.hp_buddy.proofs.Together.{off_list_of, distinct_list_of}
use Rattle.hp_buddy.proofs.cpus.Cpus.push_back.Goals as goal
use Rattle.hp_buddy.proofs.cpus.Cpus.push_back.Goals.{After-note}

pushed : (c : After-note)
    → LinkSeen c.args.self.now (cpus_of c.self.inside.layout c.push_back.new.self) c.args.cpu c.args.pool
    (list_of c.args.self.now c.args.cpu c.args.pool ++ c.args.frame ∷ []) c.args.tape.now c.note.new.self
pushed c =
    let b = c.self.inside in
    let v = c.args.self.now in
    let lists = lists-there c.self.invariant c.self.view_is in
    seen-back v b.layout b.links c.push_back.new.self c.args.cpu c.args.pool c.args.frame
    c.cpu_list-2.result c.cpu_list.result c.last-after.result c.args.tape.now c.note.new.self
    c.link_delta.result (record { is = c.self.view_is; kept = c.self.invariant })
    c.requires.cpu c.requires.frame
    (off_list_of v c.args.cpu c.args.pool c.args.frame lists c.requires.cpu c.requires.nowhere)
    (distinct_list_of v c.args.cpu c.args.pool lists c.requires.cpu c.requires.once)
    c.cpu_list.ensures c.last-after.ensures c.cpu_list-2.ensures c.push_back.ensures c.note.ensures.room
    c.note.ensures.noted c.link_delta.ensures

pub returns-clause-notes : goal.returns-clause-notes
returns-clause-notes c = (pushed (goal.at.returns-clause-notes c).After-note).notes

pub cpu_list-requires : goal.cpu_list-requires
cpu_list-requires c = cpu-small c.self.invariant c.self.view_is c.requires.cpu

pub cpu_list-requires-2 : goal.cpu_list-requires-2
cpu_list-requires-2 c = cpu-small c.self.invariant c.self.view_is c.requires.cpu

pub last-after-requires : goal.last-after-requires
last-after-requires c =
    list-there c.args.pool c.self.invariant c.self.view_is c.requires.cpu c.cpu_list.ensures

pub push_back-requires-clause-list_in : goal.push_back-requires-clause-list_in
push_back-requires-clause-list_in c =
    list-there c.args.pool c.self.invariant c.self.view_is c.requires.cpu c.cpu_list-2.ensures

pub push_back-requires-clause-frame_in : goal.push_back-requires-clause-frame_in
push_back-requires-clause-frame_in c = frame-there c.self.invariant c.self.view_is c.requires.frame

pub invariant_of-self : goal.invariant_of-self
invariant_of-self c = kept-with _ _ c.self.invariant c.push_back.ensures

pub returns-clause-cached : goal.returns-clause-cached
returns-clause-cached c = (pushed (goal.at.returns-clause-cached c).After-note).cached
