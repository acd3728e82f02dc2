use Rattle.std.proofs.Common.{◌≡◌, ◌++◌, string_bytes, slice_get}
use Rattle.hp_text.specs.State.{texts_below}
use Rattle.hp_commands.specs.Runs.{processor_text}
use Rattle.hp_commands.proofs.runs.write_processors.Given as goal

abbrev pub invariant-loop-cpu : goal.invariant-loop-cpu
invariant-loop-cpu l =
    string_bytes l.out
    ≡ string_bytes l.fn.out ++ texts_below (λ cpu. processor_text cpu (slice_get l.lists.items cpu)) l.cpu
