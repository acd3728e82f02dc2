-- It is what the processor's script asks for from its cursor.
use Rattle.hp_explore.specs.Settings.{setting}
use Rattle.hp_explore.proofs.Paths.{called_there}
use Rattle.hp_explore.proofs.path.Path.next_call.Goals as goal

pub request-requires : goal.request-requires
request-requires c = c.self.invariant.cursors_at.many

pub returns-in-Some : goal.returns-in-Some
returns-in-Some c =
    let g = setting c.self.inside.machine.now c.self.inside.scripts.now in
    let asked = called_there g c.args.cpu _ _ _ c.self.inside.here.records _ _ _ c.in-Some.is
    c.records-news.ensures c.cpus-cpus.ensures.is c.layout.ensures c.in_ok-request.ensures
    c.self.invariant.cursors_at in
    rw (← c.self.view_is) asked.0

pub returns-in-None : goal.returns-in-None
returns-in-None c =
    let g = setting c.self.inside.machine.now c.self.inside.scripts.now in
    rw (← c.self.view_is) (called_there g c.args.cpu _ _ _ c.self.inside.here.records _ _ _ c.in-None.is
    c.records-news.ensures c.cpus-cpus.ensures.is c.layout.ensures c.in_ok-request.ensures
    c.self.invariant.cursors_at)
