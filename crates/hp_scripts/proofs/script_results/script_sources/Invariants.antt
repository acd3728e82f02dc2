-- The sources so far are places among the later lines.
use Rattle.std.proofs.Common.{◌≡◌, map, take}
use Rattle.std.specs.Prelude.{option_and_then}
use Rattle.hp_scripts.specs.ScriptResults.{script_source}
use Rattle.hp_scripts.proofs.script_results.script_sources.Given as goal

abbrev pub invariant-loop-source : goal.invariant-loop-source
invariant-loop-source l =
    l.later.items ≡ map (option_and_then (script_source l.setup)) (take l.source-index l.source-items)
