use Rattle.std.proofs.lemmas.Result.{IfOk-weaker}
use Rattle.hp_search.specs.Prepared.{setting_of}
use Rattle.hp_search.proofs.Played.{calls_are, goes_on}
use Rattle.hp_search.proofs.prepared.Prepared.played.Goals as goal

pub returns-clause-calls : goal.returns-clause-calls
returns-clause-calls c =
    IfOk-weaker c.play.result _ _ (calls_are (setting_of c.args.self.now) c.args.schedule.now)
    (rw c.deref.ensures.value at c.play.ensures.ok)

pub returns-clause-on : goal.returns-clause-on
returns-clause-on c =
    IfOk-weaker c.play.result _ _ (goes_on (setting_of c.args.self.now) c.args.schedule.now)
    (rw c.deref.ensures.value at c.play.ensures.ok)

pub returns-clause-along : goal.returns-clause-along
returns-clause-along c = rw c.deref.ensures.value at c.play.ensures.along
