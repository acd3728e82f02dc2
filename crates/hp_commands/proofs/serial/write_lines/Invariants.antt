use Rattle.std.proofs.Common.{string_bytes, take, List, ℕ}
use Rattle.hp_commands.specs.Serial.{GrowsBy, WritesLines}
use Rattle.hp_commands.proofs.serial.write_lines.Given as goal

abbrev pub invariant-loop-line : goal.invariant-loop-line
invariant-loop-line l =
    GrowsBy (string_bytes l.initial.out) (string_bytes l.out)
    (λ (text : List ℕ). WritesLines l.initial.machine (take l.line-index l.lines) text l.machine)
