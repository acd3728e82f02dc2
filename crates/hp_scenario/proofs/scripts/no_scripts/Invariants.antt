use Rattle.std.specs.Prelude.{◌≡◌, ◌≤◌, [], map, vec_len, vec_capacity}
use Rattle.std.specs.List.{range_with_len}
use Rattle.hp_scenario.specs.Scripts.{script_of}
use Rattle.hp_scenario.proofs.scripts.no_scripts.Given as goal

abbrev pub invariant-loop-cpu : goal.invariant-loop-cpu
invariant-loop-cpu l =
    (l.scripts.items ≡ map (script_of []) (range_with_len 0 l._cpu)) × (vec_len l.scripts ≡ l._cpu)
    × (l.cpus ≤ vec_capacity l.scripts)
