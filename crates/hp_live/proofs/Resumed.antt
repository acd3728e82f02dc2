-- A scenario's lines, run one after another.
use Rattle.std.proofs.Common.{arith, ◌≡◌, ℕ, ◌+◌, ◌<◌, List, [], length, get_or, take, refl}
use Rattle.std.proofs.lemmas.List.{take_more}
use Rattle.hp_machine.specs.Machine.{MachineValue}
use Rattle.hp_scenario.specs.declared.lines.Line.{Line}
use Rattle.hp_commands.specs.Serial.{WritesLine, WritesLines}
use Rattle.hp_commands.proofs.Lines.{one_more}

-- no line yet
pub none_run : (m : MachineValue) (xs : List Line)
    → (text : List ℕ) × WritesLines m (take 0 xs) text m
unfolding WritesLines
none_run m xs = ([], (refl, refl))

-- one line more
pub more_run : (xs : List Line) (i : ℕ) (line : Line) (written : List ℕ) (m mid next : MachineValue)
    → i < length xs → (text : List ℕ) × WritesLines m (take i xs) text mid → line ≡ get_or xs i line
    → WritesLine mid line written next → (text : List ℕ) × WritesLines m (take (i + 1) xs) text next
more_run xs i line written m mid next lt ran is_at one = grind (arith, take_more, one_more)
