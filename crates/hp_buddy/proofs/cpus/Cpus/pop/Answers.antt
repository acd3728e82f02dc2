use Rattle.hp_buddy.specs.Cpus.{list_of}
use Rattle.hp_buddy.proofs.CpuEdits.{cpu-small, list-there}
use Rattle.hp_buddy.proofs.CpuEnds.{IsFirst, lists-there, seen-first, first-left}
use Rattle.hp_buddy.proofs.Together.{frame_of_list}
use Rattle.hp_buddy.proofs.cpus.Cpus.pop.Goals as goal
use Rattle.hp_buddy.proofs.cpus.Cpus.pop.Goals.{In-Some}

end : (c : In-Some) → IsFirst c.in-Some.frame (list_of c.args.self.now c.args.cpu c.args.pool)
end c =
    let b = c.self.inside in
    seen-first c.args.self.now b.layout b.links c.args.cpu c.args.pool c.cpu_list.result c.in-Some.frame
    (record { is = c.self.view_is; kept = c.self.invariant }) c.cpu_list.ensures c.in-Some.ensures

pub unlink-requires-clause-frame : goal.unlink-requires-clause-frame
unlink-requires-clause-frame c =
    frame_of_list c.args.self.now c.args.cpu c.args.pool c.in-Some.frame
    (lists-there c.self.invariant c.self.view_is) c.requires.cpu c.requires.within
    (end (goal.at.unlink-requires-clause-frame c).In-Some).on

pub returns-in-Some-clause-popped : goal.returns-in-Some-clause-popped
returns-in-Some-clause-popped c =
    first-left c.args.self.now c.unlink.new.self c.args.cpu c.args.pool c.in-Some.frame
    (lists-there c.self.invariant c.self.view_is) c.requires.cpu c.requires.once
    (end (goal.at.returns-in-Some-clause-popped c).In-Some) c.unlink.ensures.cached

pub cpu_list-requires : goal.cpu_list-requires
cpu_list-requires c = cpu-small c.self.invariant c.self.view_is c.requires.cpu

pub front-requires : goal.front-requires
front-requires c = list-there c.args.pool c.self.invariant c.self.view_is c.requires.cpu c.cpu_list.ensures

pub unlink-requires-clause-on : goal.unlink-requires-clause-on
unlink-requires-clause-on c = (end (goal.at.unlink-requires-clause-on c).In-Some).on
