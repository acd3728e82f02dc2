use Rattle.std.proofs.Common.{◌≡◌, ◌++◌, codes, string_bytes, take}
use Rattle.std.specs.Fmt.{decimal}
use Rattle.std.specs.List.{flat_map}
use Rattle.hp_text.specs.State.{newline}
use Rattle.hp_commands.specs.Runs.{line_end_text}
use Rattle.hp_commands.proofs.runs.write_processor.Given as goal

abbrev pub invariant-loop-end : goal.invariant-loop-end
invariant-loop-end l =
    string_bytes l.out
    ≡ string_bytes l.fn.out ++ codes "cpu " ++ decimal l.fn.cpu ++ newline
    ++ flat_map line_end_text (take l.end-index l.ends)
