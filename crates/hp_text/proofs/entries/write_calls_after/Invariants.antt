use Rattle.std.proofs.Common.{◌≡◌, ◌++◌, drop, string_bytes}
use Rattle.hp_text.specs.Entries.{call_entry}
use Rattle.hp_text.specs.Separated.{separated}
use Rattle.hp_text.proofs.entries.write_calls_after.Given as goal

abbrev pub invariant-loop-call : goal.invariant-loop-call
invariant-loop-call l =
    string_bytes l.out ++ separated l.between (call_entry l.names.keys) l.is_first (drop l.call-index l.calls)
    ≡ string_bytes l.fn.out ++ separated l.between (call_entry l.names.keys) l.fn.is_first l.calls
