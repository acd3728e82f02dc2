-- The volume has the base and the records that the course had.
use Rattle.std.proofs.Common.{ℕ, List}
use Rattle.hp_plain.specs.Image.{Pictured}
use Rattle.hp_history.specs.declared.volumes.Volume.{Volume}
use Rattle.hp_history.proofs.Names.{Record}
use Rattle.hp_history.proofs.course.Course.seal.Goals as goal

-- a volume, by its parts
abbrev volume : (before : ℕ) → Pictured → List Record → Volume
volume before base records = record { before = before; base = base; records = records }

pub returns-clause-volume : goal.returns-clause-volume
returns-clause-volume c =
    rw (c.before-before.ensures, c.replace-base.ensures.value, c.self.invariant.0)
    (rw (c.new-records.ensures, c.replace-history.ensures.value, c.self.invariant.1, c.self.view_is))
