use Rattle.std.proofs.Common.{string_bytes}
use Rattle.hp_trace_json.specs.Ascii.{AddsPlain}
use Rattle.hp_trace_json.proofs.ascii.write_plain.Given as goal

abbrev pub invariant-loop-c : goal.invariant-loop-c
invariant-loop-c l = AddsPlain (string_bytes l.initial.out) (string_bytes l.out)
