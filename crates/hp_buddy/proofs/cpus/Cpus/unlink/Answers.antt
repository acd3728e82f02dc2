use Rattle.hp_buddy.proofs.CpuEdits.{UnlinkSeen, cpus_of, kept-off, seen-listed, seen-unlink}
use Rattle.hp_buddy.proofs.cpus.Cpus.unlink.Goals as goal
use Rattle.hp_buddy.proofs.cpus.Cpus.unlink.Goals.{After-note}

pub unlink-after-requires : goal.unlink-after-requires
unlink-after-requires c =
    let b = c.self.inside in
    seen-listed c.args.self.now b.layout b.links c.args.cpu c.args.pool c.args.frame
    (record { is = c.self.view_is; kept = c.self.invariant }) c.requires.on

seen : (c : After-note)
    → UnlinkSeen c.args.self.now (cpus_of c.self.inside.layout c.unlink-after.new.self) c.args.cpu c.args.pool
    c.args.frame c.args.tape.now c.note.new.self
seen c =
    let b = c.self.inside in
    let u = c.unlink-after.ensures in
    seen-unlink c.args.self.now b.layout b.links c.unlink-after.new.self c.args.cpu c.args.pool c.args.frame
    c.unlink-after.result c.args.tape.now c.note.new.self c.unlink_delta.result
    (record { is = c.self.view_is; kept = c.self.invariant }) c.requires.cpu c.requires.frame c.requires.on
    (record { free = u.free; one_list = u.one_list; before_on = u.before_on; undone = u.undone })
    c.note.ensures.room c.note.ensures.noted c.unlink_delta.ensures

pub returns-clause-cached : goal.returns-clause-cached
returns-clause-cached c = (seen (goal.at.returns-clause-cached c).After-note).cached

pub returns-clause-notes : goal.returns-clause-notes
returns-clause-notes c = (seen (goal.at.returns-clause-notes c).After-note).notes

pub invariant_of-self : goal.invariant_of-self
invariant_of-self c = kept-off _ c.self.invariant c.unlink-after.ensures.links
