use Rattle.hp_buddy.specs.Cpus.{list_of}
use Rattle.hp_buddy.proofs.CpuEdits.{cpu-small, list-there}
use Rattle.hp_buddy.proofs.CpuEnds.{IsLast, lists-there, seen-last, seen-no_last, last-left}
use Rattle.hp_buddy.proofs.Together.{frame_of_list}
use Rattle.hp_buddy.proofs.cpus.Cpus.pop_last.Goals as goal
use Rattle.hp_buddy.proofs.cpus.Cpus.pop_last.Goals.{In-Some}

end : (c : In-Some) → IsLast c.in-Some.frame (list_of c.args.self.now c.args.cpu c.args.pool)
end c =
    let b = c.self.inside in
    seen-last c.args.self.now b.layout b.links c.args.cpu c.args.pool c.cpu_list.result c.in-Some.frame
    (record { is = c.self.view_is; kept = c.self.invariant }) c.cpu_list.ensures c.in-Some.ensures

pub unlink-requires-clause-frame : goal.unlink-requires-clause-frame
unlink-requires-clause-frame c =
    frame_of_list c.args.self.now c.args.cpu c.args.pool c.in-Some.frame
    (lists-there c.self.invariant c.self.view_is) c.requires.cpu c.requires.within
    (end (goal.at.unlink-requires-clause-frame c).In-Some).on

pub unlink-requires-clause-on : goal.unlink-requires-clause-on
unlink-requires-clause-on c = (end (goal.at.unlink-requires-clause-on c).In-Some).on

pub returns-in-Some-clause-popped : goal.returns-in-Some-clause-popped
returns-in-Some-clause-popped c =
    last-left c.args.self.now c.unlink.new.self c.args.cpu c.args.pool c.in-Some.frame
    (lists-there c.self.invariant c.self.view_is) c.requires.cpu c.requires.once
    (end (goal.at.returns-in-Some-clause-popped c).In-Some) c.unlink.ensures.cached

pub returns-in-None-clause-popped : goal.returns-in-None-clause-popped
returns-in-None-clause-popped c =
    let b = c.self.inside in
    seen-no_last c.args.self.now b.layout b.links c.args.cpu c.args.pool c.cpu_list.result
    (record { is = c.self.view_is; kept = c.self.invariant }) c.cpu_list.ensures c.in-None.ensures

pub cpu_list-requires : goal.cpu_list-requires
cpu_list-requires c = cpu-small c.self.invariant c.self.view_is c.requires.cpu

pub last-requires : goal.last-requires
last-requires c = list-there c.args.pool c.self.invariant c.self.view_is c.requires.cpu c.cpu_list.ensures
