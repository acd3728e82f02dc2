use Rattle.std.proofs.Common.{List, ℕ, take}
use Rattle.hp_commands.specs.Serial.{WritesLines}
use Rattle.hp_live.proofs.session.run_all.Given as goal

abbrev pub invariant-loop-line : goal.invariant-loop-line
invariant-loop-line l =
    (text : List ℕ) × WritesLines l.initial.machine (take l.line-index l.lines) text l.machine
