-- One turn more, with its way back; or all stays.
use Rattle.std.proofs.lemmas.Result.{IfErr-weaker, IfOk-weaker}
use Rattle.hp_explore.specs.Settings.{setting}
use Rattle.hp_explore.proofs.Paths.{forth_shown, path_advanced}
use Rattle.hp_explore.proofs.path.Path.forward.Goals as goal

pub invariant_of-self : goal.invariant_of-self
invariant_of-self c =
    path_advanced _ _ _ c.args.cpu _ _ _ _ c.advance.result c.self.invariant c.advance.ensures.ok
    c.advance.ensures.err

pub returns-clause-ok : goal.returns-clause-ok
returns-clause-ok c =
    IfOk-weaker c.advance.result _ _
    (λ went ok. forth_shown (setting c.self.inside.machine.now c.self.inside.scripts.now) c.self.inside.here
    c.advance.new.here c.args.cpu c.self.inside.positions.cursors.items
    c.advance.new.positions.cursors.items c.self.inside.turns.items c.advance.new.turns.items went
    c.args.self.now c.self.view_is ok)
    c.advance.ensures.ok

pub returns-clause-cause : goal.returns-clause-cause
returns-clause-cause c =
    IfErr-weaker c.advance.result _ _
    (λ fault cause. rw (← c.self.view_is) cause) c.advance.ensures.cause
