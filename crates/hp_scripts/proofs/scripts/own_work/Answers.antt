use Rattle.std.proofs.Common.{rules}
use Rattle.hp_scripts.proofs.scripts.own_work.Goals as goal

pub returns-in-Commit : goal.returns-in-Commit
returns-in-Commit c = search rules
