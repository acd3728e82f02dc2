use Rattle.std.specs.Prelude.{◌≡◌, true, length, vec_len}
use Rattle.std.specs.List.{list_all}
use Rattle.hp_scenario.specs.Scripts.{is_for_run}
use Rattle.hp_scenario.proofs.ScriptLists.{AreDealt}
use Rattle.hp_scenario.proofs.scripts.dealt_singly.Given as goal

abbrev pub invariant-loop-line : goal.invariant-loop-line
invariant-loop-line l =
    AreDealt l.fn.lines.items l.left.items l.scripts.items × (length l.scripts.items ≡ l.cpus)
    × (list_all (is_for_run l.cpus) l.left.items ≡ true)

abbrev pub decreases-loop-line : goal.decreases-loop-line
decreases-loop-line l = vec_len l.left
