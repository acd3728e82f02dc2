-- Script lines that name operation 0 before their processor has begun an operation.
use Rattle.std.specs.Prelude.{ℕ, zero, suc, ◌+◌, ◌==◌, ◌&&◌, nat_le, Bool, false, if◌then◌else◌, List, [], ◌∷◌, ◌++◌, Option, Some, None}
use Rattle.std.specs.Option.{is_some, option_map_or}
use Rattle.hp_scenario.specs.Asked as asks
use Rattle.hp_scenario.specs.declared.lines.Line.{Line}
use Rattle.hp_scripts.specs.Begins.{line_begins}
use Rattle.hp_scripts.specs.Scripts.{own_work}
use Rattle.hp_scripts.specs.declared.unbegun.Unbegun.{Unbegun}

-- the line works on operation 0
abbrev pub asked_names_last : asks.Meaning → Bool
asked_names_last (asks.event e) = is_some (own_work e)
asked_names_last m = false

-- the number, from 1, of the first line after the setup in which the processor works on operation 0
-- before it begins an operation; `before` is the number of lines before `lines`
abbrev pub unbegun_at : (cpu setup before : ℕ) → List Line → Option ℕ
unbegun_at cpu setup before [] = None
unbegun_at cpu setup before (line ∷ lines) =
    if line_begins cpu line then None
    else
    (if nat_le setup before && ((line.cpu == cpu) && asked_names_last (asks.asked_by line.work))
    then Some (before + 1)
    else unbegun_at cpu setup (before + 1) lines)

-- for each processor below `cpus`, the first line after the setup in which it works on operation 0
-- before it begins an operation, if there is one
abbrev pub unbegun_lines : (cpus setup : ℕ) → List Line → List Unbegun
unbegun_lines zero setup lines = []
unbegun_lines (suc cpus) setup lines =
    unbegun_lines cpus setup lines
    ++ option_map_or (λ line. record { cpu = cpus; line = line } ∷ []) (unbegun_at cpus setup 0 lines) []
