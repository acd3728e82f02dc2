-- What is told is what the search found.
use Rattle.hp_search.specs.Prepared.{setting_of}
use Rattle.hp_explain.proofs.Told.{explained_on}
use Rattle.hp_explain.proofs.telling.explained.Goals as goal

pub returns-in_ok-told-in-Ok-clause-ok : goal.returns-in_ok-told-in-Ok-clause-ok
returns-in_ok-told-in-Ok-clause-ok g c =
    explained_on _ _ _ (setting_of c.args.prepared.now) c.args.seen.now c.in-Ok.explanation _ _
    (rw c.as_slice-scripts.ensures.value at c.in-Ok.ensures.ok) c.in_ok-told-in-Ok.ensures
