-- The setting of scripts: the machine on which they begin.
use Rattle.std.specs.Prelude.{List}
use Rattle.hp_machine.specs.Machine.{MachineValue}
use Rattle.hp_schedules.specs.Schedules.{Setting}
use Rattle.hp_schedules.specs.declared.scripts.Step.{Step}

-- the setting of scripts that begin on this machine
abbrev pub setting : MachineValue → List (List Step) → Setting
setting m scripts =
    record { layout = m.layout; base = m.base; before = m.before; start = m.history; scripts = scripts }
