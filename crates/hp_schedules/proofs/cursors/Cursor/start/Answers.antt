-- At the first line, with no operation begun.
use Rattle.std.proofs.Common.{◌∙◌, List, ap}
use Rattle.hp_schedules.specs.Cursors.{cursor_at}
use Rattle.hp_schedules.specs.declared.scripts.Step.{Step}
use Rattle.hp_schedules.proofs.cursors.Cursor.start.Goals as goal

pub returns : goal.returns
returns c =
    c.new.ensures ∙ ap (λ (lines : List Step). cursor_at c.args.cpus lines 0 0) c.lines.ensures
