use Rattle.std.proofs.Common.{length, string_bytes}
use Rattle.hp_commands.proofs.Called.{WritesSome}
use Rattle.hp_commands.proofs.serial.write_calls.Given as goal

abbrev pub invariant-loop-line : goal.invariant-loop-line
invariant-loop-line l =
    WritesSome l.initial.calls l.calls (string_bytes l.initial.out) (string_bytes l.out) l.initial.machine
    l.machine

abbrev pub decreases-loop-line : goal.decreases-loop-line
decreases-loop-line l = length l.calls.reader
