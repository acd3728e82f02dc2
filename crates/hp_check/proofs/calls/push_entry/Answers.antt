use Rattle.std.proofs.Common.{refl}
use Rattle.hp_check.proofs.Added.{none_added}
use Rattle.hp_check.proofs.calls.push_entry.Goals as goal

pub returns-in_default : goal.returns-in_default
returns-in_default c =
    record { found = rw (← c.in_default.ensures) (none_added _ _); bound = rw (← c.in_default.ensures) refl }
